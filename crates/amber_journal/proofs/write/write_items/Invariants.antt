-- The text of the items so far.
use Rattle.std.proofs.Common.{◌≡◌, take}
use Rattle.std.specs.List.{flat_map}
use Rattle.amber_log.specs.LogText.{item_text}
use Rattle.amber_journal.proofs.write.write_items.Given as goal

abbrev pub invariant-loop-item : goal.invariant-loop-item
invariant-loop-item l = l.out.items ≡ flat_map item_text (take l.item-index l.fn.items)
