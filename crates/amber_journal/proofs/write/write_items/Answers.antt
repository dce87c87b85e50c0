-- Each item has a text.
use Rattle.std.proofs.Common.{false}
use Rattle.amber_journal.proofs.EachItem.{item-at}
use Rattle.amber_journal.proofs.write.write_items.Goals as goal

pub push_item-requires : goal.push_item-requires
push_item-requires c = item-at false c.args.items.now c.loop-item.item-index c.item-item.result c.loop-item-test.true c.item-item.is c.requires
