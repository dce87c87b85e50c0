-- From each item to the next.
use Rattle.std.proofs.Common.{◌≡◌, ◌+◌, ◌++◌, None, ap, ◌∙◌, sym, arith, drop, false, length, true}
use Rattle.amber_log.proofs.Lengths.{items-few, items-longer}
use Rattle.amber_log.specs.LogText.{item_lines}
use Rattle.amber_log.specs.declared.log.Item.{Item}
use Rattle.amber_course.specs.Course.{end_alone, is_for_first, strange_from}
use Rattle.amber_course.proofs.Commanded.{commands-first, item-at, lines-with-end, strange-end, strange-here, strange-more}
use Rattle.amber_course.proofs.strange.strange_line.Goals as goal

pub is_next-requires : goal.is_next-requires
is_next-requires c =
    rw c.index-items-place.is (item-at false c.args.items.now c.loop-place.place c.index-items-place.result c.requires.text c.loop-place-test.true)

pub returns-then-not-branch-clause-line : goal.returns-then-not-branch-clause-line
returns-then-not-branch-clause-line c =
    let commands = c.args.commands.now ++ end_alone in
    let items = c.args.items.now in
    let i = c.loop-place.place in
    let one = c.index-items-place.result in
    let other : is_for_first (drop i commands) one ≡ false = sym c.in_ok-is_next.ensures ∙ c.if-not-branch.true in
    let unfit = ap (λ (x : Item). is_for_first (drop i commands) x) (sym c.index-items-place.is) ∙ other in
    sym (strange-here c.loop-place.line commands items i one c.loop-place-test.true unfit) ∙ c.loop-place.invariant.left

pub returns-then-not-branch-clause-first : goal.returns-then-not-branch-clause-first
returns-then-not-branch-clause-first c = λ none. absurd cc

pub item_length-requires : goal.item_length-requires
item_length-requires c =
    omega (arith, items-few c.args.items.now c.loop-place.place c.index-items-place.result c.loop-place-test.true c.index-items-place.is, c.requires.few)

pub overflow_add-line : goal.overflow_add-line
overflow_add-line c =
    omega (arith, items-few c.args.items.now c.loop-place.place c.index-items-place.result c.loop-place-test.true c.index-items-place.is, c.requires.few, c.loop-place.invariant.place, c.item_length.ensures)

pub loop-place-preserved : goal.loop-place-preserved
loop-place-preserved c =
    let commands = c.args.commands.now ++ end_alone in
    let items = c.args.items.now in
    let i = c.loop-place.place in
    let one = c.index-items-place.result in
    let same = ap (λ (x : Item). length (item_lines x)) c.index-items-place.is in
    let next : is_for_first (drop i commands) one ≡ true = sym c.in_ok-is_next.ensures ∙ c.if-not-branch.false in
    let fit = ap (λ (x : Item). is_for_first (drop i commands) x) (sym c.index-items-place.is) ∙ next in
    record {
      place = omega (arith, items-longer items i one c.loop-place-test.true c.index-items-place.is, c.loop-place.invariant.place, c.item_length.ensures);
      left = ap (λ n. strange_from (c.loop-place.line + n) (drop (i + 1) commands) (drop (i + 1) items)) (c.item_length.ensures ∙ same)
          ∙ sym (strange-more c.loop-place.line commands items i one c.loop-place-test.true fit) ∙ c.loop-place.invariant.left;
    }

pub returns-clause-line : goal.returns-clause-line
returns-clause-line c =
    sym (strange-end c.loop-place.line (c.args.commands.now ++ end_alone) c.args.items.now c.loop-place.place c.loop-place-test.false) ∙ c.loop-place.invariant.left

pub returns-clause-first : goal.returns-clause-first
returns-clause-first c =
    let commands = c.args.commands.now ++ end_alone in
    let items = c.args.items.now in
    let none : strange_from 2 commands items ≡ None = sym c.loop-place.invariant.left ∙ strange-end c.loop-place.line commands items c.loop-place.place c.loop-place-test.false in
    λ _. commands-first 2 commands items false (lines-with-end c.args.commands.now c.commands_have_lines.ensures) c.requires.text none
