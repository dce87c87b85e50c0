-- What is read, as the definition has it.
use Rattle.std.proofs.Common.{ap}
use Rattle.amber_log.proofs.BadLines.{fails_at_first_bad_line}
use Rattle.amber_log.proofs.Exact.{reads_what_stands}
use Rattle.amber_commands.specs.Course.{log_or_refusal}
use Rattle.amber_log.proofs.ReadLengths.{read-few}
use Rattle.amber_commands.proofs.script.read.Goals as goal

pub returns-in-Ok-clause-read : goal.returns-in-Ok-clause-read
returns-in-Ok-clause-read c = ap log_or_refusal ((reads_what_stands c.args.bytes.now c.in-Ok.log).1 (rw c.get.ensures at c.in-Ok.ensures.found))

pub returns-in-Ok-clause-few : goal.returns-in-Ok-clause-few
returns-in-Ok-clause-few c = read-few c.args.bytes.now c.in-Ok.log (rw c.get.ensures at c.in-Ok.ensures.found)

pub returns-in-Err-Text-clause-read : goal.returns-in-Err-Text-clause-read
returns-in-Err-Text-clause-read c = ap log_or_refusal ((fails_at_first_bad_line c.args.bytes.now c.in-Err-Text.line).1 (rw (c.in-Err-Text.field-0-is, c.get.ensures) at c.in-Err-Text.ensures.bad))
