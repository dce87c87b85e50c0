use Rattle.amber_lines.proofs.Beginnings.{open_legs_are_judged}
use Rattle.amber_lines.proofs.lines.open_legs_are_judged.Goals as goal

pub returns : goal.returns
returns c = open_legs_are_judged
