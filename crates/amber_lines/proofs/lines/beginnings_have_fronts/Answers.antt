use Rattle.amber_lines.proofs.Beginnings.{beginnings_have_fronts}
use Rattle.amber_lines.proofs.lines.beginnings_have_fronts.Goals as goal

pub returns : goal.returns
returns c = beginnings_have_fronts
