use Rattle.amber_lines.proofs.FromLines.{next_entries_enter}
use Rattle.amber_lines.proofs.lines.next_entries_enter.Goals as goal

pub returns : goal.returns
returns c = next_entries_enter
