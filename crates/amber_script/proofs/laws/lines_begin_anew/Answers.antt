use Rattle.amber_script.proofs.OpenLines.{lines_begin_anew}
use Rattle.amber_script.proofs.laws.lines_begin_anew.Goals as goal

pub returns : goal.returns
returns c = lines_begin_anew
