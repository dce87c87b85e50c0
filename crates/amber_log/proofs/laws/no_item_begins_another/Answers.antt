use Rattle.amber_log.proofs.Torn.{no_item_begins_another}
use Rattle.amber_log.proofs.laws.no_item_begins_another.Goals as goal

pub returns : goal.returns
returns c = no_item_begins_another
