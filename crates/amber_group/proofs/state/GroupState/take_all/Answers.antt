-- One row more came, and can be taken out again.
use Rattle.std.proofs.Common.{◌∷◌, [], arith, filter, refl, subst, sym, take}
use Rattle.amber_rows.specs.Suits.{suits_of}
use Rattle.amber_group.specs.Feeding.{FeedsEach}
use Rattle.amber_group.specs.Group.{FeedsRows}
use Rattle.amber_group.proofs.SeveralRows.{back-none, each-then, feeds-none, feeds-then, filter-next, one-at-most}
use Rattle.amber_group.proofs.state.GroupState.take_all.Goals as goal

pub loop-i-init : goal.loop-i-init
unfolding FeedsEach
loop-i-init c = record {
  fed = omega arith;
  len = omega (arith, c.in_ok-all.ensures.len);
  slots = c.in_ok-all.ensures.capacity;
  back = back-none c.in_ok-all.all.items c.args.self.now c.in_ok-all.ensures.items;
  feeds = feeds-none c.args.self.now;
  each = refl;
}

pub loop-i-preserved : goal.loop-i-preserved
loop-i-preserved c =
    let test = suits_of c.args.columns.now in
    let rows = c.args.rows.now.items in
    let i = c.loop-i.i in
    let row = c.index.result.now in
    let old = c.loop-i.invariant in
    let fed = c.in_default.ensures.ok in
    record {
      fed = omega (arith, old.fed, fed.fed, one-at-most test row);
      len = omega (arith, old.len, c.take_suiting.ensures.longer);
      slots = omega (arith, old.slots, c.take_suiting.ensures.slots);
      back = c.in_default.ensures.back c.args.self.now old.back;
      feeds = subst (λ came. FeedsRows came c.args.self.now c.take_suiting.new.self)
          (sym (filter-next test rows i row (omega (arith, c.loop-i-test.true, c.requires.there)) c.index.ensures))
          (feeds-then (filter test (take i rows)) (filter test (row ∷ [])) c.args.self.now c.loop-i.self c.take_suiting.new.self old.feeds fed);
      each = subst (λ came. FeedsEach came c.args.self.now c.take_suiting.new.self)
          (sym (filter-next test rows i row (omega (arith, c.loop-i-test.true, c.requires.there)) c.index.ensures))
          (each-then (filter test (take i rows)) (filter test (row ∷ [])) c.args.self.now c.loop-i.self c.take_suiting.new.self old.each c.in_default.ensures.each);
    }
