-- The scans before are as many as the files before.
use Rattle.std.proofs.Common.{take, arith}
use Rattle.std.proofs.lemmas.Grind.{common_steps}
use Rattle.std.proofs.lemmas.Bool.Decides.{nat_tests}
use Rattle.amber_meaning.proofs.Operators.{files_left-drop, file-at, file-past}
use Rattle.amber_meaning.proofs.scan_files.shared_file_after.Goals as goal

pub returns-then-scans-files : goal.returns-then-scans-files
returns-then-scans-files c = grind (arith, common_steps, nat_tests, files_left-drop c.args.files.now (take c.args.before c.args.flow.now), file-at c.args.files.now c.scans_in-scans.result c.index-files-scans.result)

pub returns-else-scans-files : goal.returns-else-scans-files
returns-else-scans-files c = grind (arith, common_steps, nat_tests, files_left-drop c.args.files.now (take c.args.before c.args.flow.now), file-past c.args.files.now c.scans_in-scans.result)
