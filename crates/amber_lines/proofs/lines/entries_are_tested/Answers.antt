use Rattle.amber_lines.proofs.Entered.{entries_are_tested}
use Rattle.amber_lines.proofs.lines.entries_are_tested.Goals as goal

pub returns : goal.returns
returns c = entries_are_tested
