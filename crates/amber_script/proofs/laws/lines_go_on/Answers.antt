use Rattle.amber_script.proofs.OpenLines.{lines_go_on}
use Rattle.amber_script.proofs.laws.lines_go_on.Goals as goal

pub returns : goal.returns
returns c = lines_go_on
