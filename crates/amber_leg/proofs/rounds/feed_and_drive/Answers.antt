-- The leg has gone on by a round.
use Rattle.std.proofs.Common.{◌≡◌, ap, arith}
use Rattle.amber_home.specs.HomeState.{HomeState}
use Rattle.amber_home.proofs.Fed.{ok-and}
use Rattle.amber_leg.specs.Driving.{turns_of}
use Rattle.amber_leg.specs.Leg.{turned_at}
use Rattle.amber_leg.proofs.Further.{further-round}
use Rattle.amber_leg.proofs.Working.{round-drives}
use Rattle.amber_leg.proofs.rounds.feed_and_drive.Goals as goal

pub returns-clause-ok : goal.returns-clause-ok
returns-clause-ok g c =
    let fed = c.in_ok-feed.ensures.ok in
    ok-and c.round.result
    (λ made also. further-round c.args.home.now c.feed.new.self c.round.new.home (turns_of c.budget_of-budget.result) c.requires.within c.requires.early fed.only fed.far made c.budget_of-budget.ensures.late)
    c.round.ensures.ok c.round.ensures.ok

pub returns-clause-drives : goal.returns-clause-drives
returns-clause-drives g c =
    let fed = c.in_ok-feed.ensures.ok in
    let budget = c.budget_of-budget.ensures in
    ok-and c.round.result
    (λ made also. round-drives c.args.home.now c.feed.new.self c.round.new.home (turns_of c.budget_of-budget.result) fed.only fed.far made budget.within budget.some)
    c.round.ensures.ok c.round.ensures.ok

pub round-requires-clause-fits : goal.round-requires-clause-fits
round-requires-clause-fits g c κs within-κs worker =
    let fed = c.in_ok-feed.ensures.ok in
    let fits = c.requires.fits worker in
    let within = c.budget_of-budget.ensures.within in
    let here : turned_at c.feed.new.self worker ≡ turned_at c.args.home.now worker = ap (λ (h : HomeState). turned_at h worker) fed.only in
    omega (arith, fits, within, here)
