use Rattle.amber_lines.proofs.FromLines.{first_entries_enter}
use Rattle.amber_lines.proofs.lines.first_entries_enter.Goals as goal

pub returns : goal.returns
returns c = first_entries_enter
