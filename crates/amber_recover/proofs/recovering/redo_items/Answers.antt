-- From each item to the next.
use Rattle.std.proofs.Common.{◌+◌, ℕ, ap, drop, refl, sym, ◌∙◌, arith}
use Rattle.std.specs.List.{flat_map}
use Rattle.amber_log.specs.LogText.{item_lines}
use Rattle.amber_lines.specs.Lines.{Between, bad_line_from}
use Rattle.amber_home.specs.HomeState.{query_of, rest_state}
use Rattle.amber_log.proofs.Lengths.{items-few, items-longer}
use Rattle.amber_recover.proofs.PartsDone.{no-some}
use Rattle.amber_recover.proofs.Walked.{all-done, all-rests, all-told, first-done, left-bad, left-first, left-more, left-none, next-done, next-open, next-rests, next-text, told-first, told-more}
use Rattle.amber_recover.proofs.recovering.redo_items.Goals as goal

pub loop-item-init : goal.loop-item-init
loop-item-init c = record {
  place = refl;
  done = first-done c.args.home.now c.args.items.now c.requires.resting c.requires.empty c.requires.text;
  silent = λ silent. c.requires.resting;
  left = left-first c.args.home.now c.args.items.now c.requires.empty;
  told = c.new-text.ensures.items ∙ told-first (query_of c.args.home.now) c.args.tells;
}

pub do_item-requires-clause-resting : goal.do_item-requires-clause-resting
do_item-requires-clause-resting c =
    next-rests c.args.items.now c.loop-item.item-index c.item-item.result c.args.home.now c.loop-item.home c.loop-item-test.true c.item-item.is c.loop-item.invariant.done

pub do_item-requires-clause-open : goal.do_item-requires-clause-open
do_item-requires-clause-open c =
    next-open c.args.items.now c.loop-item.item-index c.item-item.result c.args.home.now c.loop-item.home c.loop-item-test.true c.item-item.is c.loop-item.invariant.done

pub do_item-requires-clause-text : goal.do_item-requires-clause-text
do_item-requires-clause-text c =
    next-text c.args.items.now c.loop-item.item-index c.item-item.result c.args.home.now c.loop-item.home c.loop-item-test.true c.item-item.is c.loop-item.invariant.done

pub do_item-requires-clause-few : goal.do_item-requires-clause-few
do_item-requires-clause-few c =
    omega (arith, items-few c.args.items.now c.loop-item.item-index c.item-item.result c.loop-item-test.true c.item-item.is, c.requires.few, c.loop-item.invariant.place)

pub item_length-line-requires : goal.item_length-line-requires
item_length-line-requires c =
    omega (arith, items-few c.args.items.now c.loop-item.item-index c.item-item.result c.loop-item-test.true c.item-item.is, c.requires.few)

pub overflow_add-line : goal.overflow_add-line
overflow_add-line c =
    omega (
      arith,
      items-few c.args.items.now c.loop-item.item-index c.item-item.result c.loop-item-test.true c.item-item.is,
      c.requires.few,
      c.loop-item.invariant.place,
      c.item_length-line.ensures,
    )

pub returns-in-Some-clause-judges : goal.returns-in-Some-clause-judges
returns-in-Some-clause-judges c =
    sym c.loop-item.invariant.left
    ∙ left-bad c.args.items.now c.loop-item.item-index c.loop-item.line c.in-Some.line c.item-item.result c.args.home.now c.loop-item.home c.loop-item-test.true c.item-item.is
    c.loop-item.invariant.done (sym c.in_ok-line.ensures.found ∙ c.in-Some.is)

pub loop-item-preserved : goal.loop-item-preserved
loop-item-preserved c =
    let items = c.args.items.now in
    let i = c.loop-item.item-index in
    let one = c.item-item.result in
    let old = c.args.home.now in
    let mid = c.loop-item.home in
    let new = c.do_item.new.home in
    let before = c.loop-item.invariant in
    let none = no-some c.in_ok-line.field-0 c.in_default.not-Some in
    let done = c.in_ok-line.ensures.done none in
    record {
      place = omega (arith, items-longer items i one c.loop-item-test.true c.item-item.is, before.place, c.item_length-line.ensures);
      done = next-done items i one old mid new c.loop-item-test.true c.item-item.is c.requires.fresh before.done done;
      silent = c.in_ok-line.ensures.silent none;
      left = ap (λ (n : ℕ). bad_line_from (query_of old) (Between (rest_state new)) (c.loop-item.line + n) (flat_map item_lines (drop (i + 1) items))) c.item_length-line.ensures
          ∙ left-more items i c.loop-item.line one old mid new c.loop-item-test.true c.item-item.is before.done done ∙ before.left;
      told = told-more items i one old mid c.args.tells c.loop-item.text.items c.do_item.new.text.items c.loop-item-test.true c.item-item.is before.done before.told
          (c.in_ok-line.ensures.told none);
    }

pub returns-clause-judges : goal.returns-clause-judges
returns-clause-judges c =
    sym c.loop-item.invariant.left ∙ left-none c.args.items.now c.loop-item.item-index c.loop-item.line c.args.home.now c.loop-item.home c.loop-item-test.false

pub returns-clause-done : goal.returns-clause-done
returns-clause-done c = all-done c.args.items.now c.loop-item.item-index c.args.home.now c.loop-item.home c.loop-item-test.false c.loop-item.invariant.done

pub returns-clause-told : goal.returns-clause-told
returns-clause-told c =
    all-told c.args.items.now c.loop-item.item-index (query_of c.args.home.now) c.args.tells c.loop-item.text.items c.loop-item-test.false c.loop-item.invariant.told

pub returns-clause-rests : goal.returns-clause-rests
returns-clause-rests c = all-rests c.args.items.now c.loop-item.item-index c.args.home.now c.loop-item.home c.loop-item-test.false c.loop-item.invariant.done
