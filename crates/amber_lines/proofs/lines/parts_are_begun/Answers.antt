use Rattle.amber_lines.proofs.Beginnings.{parts_are_begun}
use Rattle.amber_lines.proofs.lines.parts_are_begun.Goals as goal

pub returns : goal.returns
returns c = parts_are_begun
