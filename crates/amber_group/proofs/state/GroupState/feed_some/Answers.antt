-- One row more came.
use Rattle.std.proofs.Common.{◌∷◌, [], arith, filter, refl, subst, sym, take}
use Rattle.amber_rows.specs.Suits.{suits_of}
use Rattle.amber_group.specs.Feeding.{FeedsEach}
use Rattle.amber_group.specs.Group.{FeedsRows}
use Rattle.amber_group.proofs.SeveralRows.{each-then, feeds-none, feeds-then, filter-next, one-at-most}
use Rattle.amber_group.proofs.state.GroupState.feed_some.Goals as goal

pub loop-i-init : goal.loop-i-init
unfolding FeedsEach
loop-i-init c = record {
  fed = omega arith;
  feeds = feeds-none c.args.self.now;
  each = refl;
}

pub loop-i-preserved : goal.loop-i-preserved
loop-i-preserved c =
    let test = suits_of c.args.columns.now in
    let rows = c.args.rows.now.items in
    let i = c.loop-i.i in
    let row = c.index.result.now in
    let old = c.loop-i.invariant in
    let fed = c.in_ok-feed_suiting.ensures.ok in
    record {
      fed = omega (arith, old.fed, fed.fed, one-at-most test row);
      feeds = subst (λ came. FeedsRows came c.args.self.now c.feed_suiting.new.self)
          (sym (filter-next test rows i row (omega (arith, c.loop-i-test.true, c.requires.there)) c.index.ensures))
          (feeds-then (filter test (take i rows)) (filter test (row ∷ [])) c.args.self.now c.loop-i.self c.feed_suiting.new.self old.feeds fed);
      each = subst (λ came. FeedsEach came c.args.self.now c.feed_suiting.new.self)
          (sym (filter-next test rows i row (omega (arith, c.loop-i-test.true, c.requires.there)) c.index.ensures))
          (each-then (filter test (take i rows)) (filter test (row ∷ [])) c.args.self.now c.loop-i.self c.feed_suiting.new.self old.each c.in_ok-feed_suiting.ensures.each);
    }
