-- From each item to the next.
use Rattle.std.proofs.Common.{◌+◌, ap, ◌∙◌, sym, arith, drop, length}
use Rattle.amber_log.specs.LogText.{item_lines}
use Rattle.amber_log.specs.declared.log.Item.{Item}
use Rattle.amber_commands.specs.Commands.{are_scripted, commands_in, unfit_line}
use Rattle.amber_commands.proofs.Texting.{fit-all, fit-more, items-few, one-longer, unfit-here}
use Rattle.amber_commands.proofs.fitting.unfit_line.Goals as goal

pub item_length-line-requires : goal.item_length-line-requires
item_length-line-requires c = omega (arith, items-few c.args.items.now c.loop-item.item-index c.item-item.result c.loop-item-test.true c.item-item.is c.requires)

pub overflow_add-line : goal.overflow_add-line
overflow_add-line c =
    omega (arith, items-few c.args.items.now c.loop-item.item-index c.item-item.result c.loop-item-test.true c.item-item.is c.requires, c.loop-item.invariant.place, c.item_length-line.ensures)

pub returns-then-not-is_fit : goal.returns-then-not-is_fit
returns-then-not-is_fit c =
    let unfit = ap (λ (x : Item). are_scripted c.args.flow.now (commands_in x)) (sym c.item-item.is) ∙ sym c.is_fit.ensures ∙ c.if-not-is_fit.true in
    sym (unfit-here c.args.flow.now c.args.items.now c.loop-item.item-index c.loop-item.line c.item-item.result c.loop-item-test.true unfit) ∙ c.loop-item.invariant.left

pub loop-item-preserved : goal.loop-item-preserved
loop-item-preserved c =
    let items = c.args.items.now in
    let i = c.loop-item.item-index in
    let one = c.item-item.result in
    let same = ap (λ (x : Item). length (item_lines x)) c.item-item.is in
    let fit = ap (λ (x : Item). are_scripted c.args.flow.now (commands_in x)) (sym c.item-item.is) ∙ sym c.is_fit.ensures ∙ c.if-not-is_fit.false in
    record {
      place = omega (arith, one-longer item_lines items i one c.loop-item-test.true, c.loop-item.invariant.place, c.item_length-line.ensures, same);
      left = ap (λ n. unfit_line (c.loop-item.line + n) c.args.flow.now (drop (i + 1) items)) (c.item_length-line.ensures ∙ same)
          ∙ sym (fit-more c.args.flow.now items i c.loop-item.line one c.loop-item-test.true fit) ∙ c.loop-item.invariant.left;
    }

pub returns : goal.returns
returns c = sym (fit-all c.args.flow.now c.args.items.now c.loop-item.item-index c.loop-item.line c.loop-item-test.false) ∙ c.loop-item.invariant.left
