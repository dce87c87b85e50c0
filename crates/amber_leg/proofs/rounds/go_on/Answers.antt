-- A round, and a step behind it.
use Rattle.std.proofs.Common.{ap, arith, subst, sym, refl}
use Rattle.amber_home.specs.HomeState.{HomeState}
use Rattle.amber_leg.specs.Leg.{EndsRounds, GoesFurther, MakesRoundAndStep, MovesOn, StepsAlone}
use Rattle.amber_leg.proofs.Further.{further-then, if-none, moves-behind}
use Rattle.amber_leg.proofs.Working.{ends-behind, ends-same}
use Rattle.amber_leg.proofs.rounds.go_on.Goals as goal

pub returns-clause-ok : goal.returns-clause-ok
returns-clause-ok g c =
    subst (λ (h : HomeState). GoesFurther h c.step_on.new.home) c.in_ok-close.ensures.same
    (further-then c.look.new.home c.feed_and_drive.new.home c.step_on.new.home c.in_ok-feed_and_drive.ensures.ok
    (subst (λ (h : HomeState). GoesFurther h c.step_on.new.home) c.in_ok-close-2.ensures.same c.in_ok-step_on.ensures.ok))

pub returns-clause-moves : goal.returns-clause-moves
returns-clause-moves g c =
    let drove = c.in_ok-feed_and_drive.ensures in
    subst (λ (h : HomeState). MovesOn h c.step_on.new.home) c.in_ok-close.ensures.same
    (moves-behind c.look.new.home c.feed_and_drive.new.home c.step_on.new.home (c.if-not-are_loose.ensures.loose refl) drove.ok drove.more
    (subst (λ (h : HomeState). MovesOn h c.step_on.new.home) c.in_ok-close-2.ensures.same c.in_ok-step_on.ensures.moves))

pub returns-clause-works : goal.returns-clause-works
returns-clause-works g c =
    let drove = c.in_ok-feed_and_drive.ensures in
    let behind = c.in_ok-close-2.ensures in
    subst (λ (h : HomeState). MakesRoundAndStep h c.step_on.new.home) c.in_ok-close.ensures.same
    (record {
      between = c.feed_and_drive.new.home;
      round = drove.drives;
      more = drove.more;
      left = (let few = if-none c.in_ok-close-2.field-0 c.in_default-2.not-Some behind.few in let most = ap (λ (h : HomeState). h.most) drove.ok.only in omega (arith, few, most));
      step = subst (λ (h : HomeState). StepsAlone h c.step_on.new.home) behind.same c.in_ok-step_on.ensures.alone;
    })

-- rounds end at once, or behind a round
pub returns-in-Some-clause-ends : goal.returns-in-Some-clause-ends
returns-in-Some-clause-ends g c =
    subst (EndsRounds c.args.home.now) (sym c.in_ok-close.ensures.same) (ends-same c.args.home.now)

pub returns-in-Some-2-clause-ends : goal.returns-in-Some-2-clause-ends
returns-in-Some-2-clause-ends g c =
    let drove = c.in_ok-feed_and_drive.ensures in
    subst (λ (h : HomeState). EndsRounds h c.look-2.new.home) c.in_ok-close.ensures.same
    (subst (EndsRounds c.look.new.home) (sym c.in_ok-close-2.ensures.same) (ends-behind c.look.new.home c.feed_and_drive.new.home drove.drives drove.more))
