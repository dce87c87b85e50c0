use Rattle.amber_script.proofs.OpenLines.{lines_are_ended_or_open}
use Rattle.amber_script.proofs.laws.lines_are_ended_or_open.Goals as goal

pub returns : goal.returns
returns c = lines_are_ended_or_open
