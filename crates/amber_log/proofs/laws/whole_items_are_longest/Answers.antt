use Rattle.amber_log.proofs.Longest.{whole_items_are_longest}
use Rattle.amber_log.proofs.laws.whole_items_are_longest.Goals as goal

pub returns : goal.returns
returns c = whole_items_are_longest
