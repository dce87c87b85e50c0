-- One after the other.
use Rattle.std.proofs.Common.{◌≡◌, ◌∙◌, ◌+◌, ◌<◌, ◌≤◌, Option, ap, arith, get_or, length, map, refl, rules, set, subst, sym, take_all}
use Rattle.std.proofs.lemmas.List.{length-map, length-set}
use Rattle.amber_rows.specs.declared.value.Value.{Value}
use Rattle.amber_group.specs.Steps.{AreWithin, IsWithin, change_of, running_after}
use Rattle.amber_group.proofs.Settling.{Settled, with_best-next}
use Rattle.amber_group.proofs.Within.{within-at, within-more}
use Rattle.amber_group.proofs.totals.settle_all.Goals as goal

pub loop-i-init : goal.loop-i-init
loop-i-init c = record {
  count = refl;
  room = ap length c.requires.changes ∙ length-map c.args.runnings.now (change_of c.args.row.now);
  with_best = record { done = refl; rest = refl; left = c.requires.changes };
  within = λ rows h. tt;
}

pub settle-requires : goal.settle-requires
settle-requires c =
    let inv = c.loop-i.invariant in
    let less : c.loop-i.i < length c.loop-i.runnings = search rules in (
      c.requires.within.0,
      c.requires.within.1,
      subst (IsWithin c.requires.within.0) c.index-runnings-i.is
          (within-at c.requires.within.0 c.loop-i.i c.args.runnings.now c.loop-i.runnings c.index-runnings-i.result c.requires.within.2 inv.with_best.rest less c.index-runnings-i.is),
    )

pub loop-i-preserved : goal.loop-i-preserved
loop-i-preserved c =
    let inv = c.loop-i.invariant in
    let i = c.loop-i.i in
    let first = c.args.runnings.now in
    let runnings = c.loop-i.runnings in
    let changes = c.loop-i.changes.items in
    let running = c.index-runnings-i.result in
    let new = c.settle.new.self in
    let change = c.take-change.result in
    let less : i < length runnings = search rules in
    let in_first : i < length first = omega (arith, inv.count, less) in
    let in_changes : i < length changes = omega (arith, inv.room, in_first) in
    let change_is : change ≡ get_or changes i change =
    c.take-change.ensures.value ∙ c.index_mut.ensures.value ∙ ap (get_or changes i) (sym c.take-change.ensures.value) in
    record {
      count = length-set runnings i new ∙ inv.count;
      room = length-set changes i c.take-change.new.self ∙ inv.room;
      with_best =
          subst (λ (cell : Option Value). Settled c.args.row.now (i + 1) first (set runnings i new) (set changes i cell)) (sym c.take-change.ensures.after)
          (with_best-next c.args.row.now i first runnings changes running new change in_first less in_changes c.index-runnings-i.is change_is inv.with_best (rw (← c.index-runnings-i.is) at c.settle.ensures.value));
      within = λ rows h.
          within-more (rows + 1) i runnings new less (inv.within rows h)
          (c.settle.ensures.within rows (subst (IsWithin rows) c.index-runnings-i.is (within-at rows i first runnings running h inv.with_best.rest less c.index-runnings-i.is)));
    }

pub returns : goal.returns
returns c =
    let inv = c.loop-i.invariant in
    let i = c.loop-i.i in
    let first = c.args.runnings.now in
    let runnings = c.loop-i.runnings in
    let all : length first ≤ i = search rules in
    let done : length runnings ≤ i = omega (arith, inv.count, all) in
    record {
      value = sym (take_all i runnings done) ∙ inv.with_best.done ∙ ap (map (running_after c.args.row.now)) (take_all i first all);
      within = λ rows h. subst (AreWithin (rows + 1)) (take_all i runnings done) (inv.within rows h);
    }
