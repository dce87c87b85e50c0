-- The last item is there and has a text.
use Rattle.std.proofs.Common.{◌∙◌}
use Rattle.amber_debug.proofs.Homes.{last-item, last-text}
use Rattle.amber_debug.proofs.debugger.last_text.Goals as goal

pub write_item-requires : goal.write_item-requires
write_item-requires c =
    last-item c.args.log.now c.get-items.result.now c.index-items-items.result c.requires.text c.get-items.ensures c.requires.some c.index-items-items.is

pub returns : goal.returns
returns c =
    last-text c.args.log.now c.get-items.result.now c.index-items-items.result c.new.result c.get-items.ensures c.index-items-items.is (c.new.ensures ∙ c.in_ok-write_item.ensures)
