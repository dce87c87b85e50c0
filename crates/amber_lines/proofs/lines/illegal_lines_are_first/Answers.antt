use Rattle.amber_lines.proofs.Illegal.{illegal_lines_are_first}
use Rattle.amber_lines.proofs.lines.illegal_lines_are_first.Goals as goal

pub returns : goal.returns
returns c = illegal_lines_are_first
