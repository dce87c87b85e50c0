-- The first file, or none.
use Rattle.std.proofs.Common.{◌∙◌, ap, sym, take, rules}
use Rattle.amber_meaning.specs.ScanFiles.{files_left}
use Rattle.amber_meaning.proofs.Operators.{first_list-is}
use Rattle.amber_meaning.proofs.scan_files.file_after.Goals as goal

pub returns-in-Some : goal.returns-in-Some
returns-in-Some c = search (rules, first_list-is (files_left c.args.files.now (take c.args.before c.args.flow.now)))

pub returns-in-None : goal.returns-in-None
returns-in-None c = search (rules, first_list-is (files_left c.args.files.now (take c.args.before c.args.flow.now)))
