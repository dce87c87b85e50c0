-- The workers leave, make turns, and come back.
use Rattle.std.proofs.Common.{◌≡◌, ◌+◌, ◌*◌, ◌≤◌, ◌^◌, sym, ap, subst, ◌∙◌, slice_index_or, arith}
use Rattle.amber_rows.specs.Topology.{crew_of}
use Rattle.amber_dataflow.specs.AtWork.{steps_by, turned_by}
use Rattle.amber_dataflow.specs.Parts.{parts_from}
use Rattle.amber_home.specs.HomeState.{HomeState, IsWorkedLeg, counts_in, runs_to_end}
use Rattle.amber_home.specs.Lent.{IsLent}
use Rattle.amber_home.specs.declared.phase.Phase.TheVariants as phase
use Rattle.amber_home.proofs.Fed.{ok-and}
use Rattle.amber_leg.specs.Driving.{turns_of}
use Rattle.amber_leg.specs.Leg.{MakesRound}
use Rattle.amber_leg.proofs.Rounded.{lent-again, lent-ready, makes-round, turned-here}
use Rattle.amber_leg.proofs.round.round.Goals as goal

pub drive_crew-requires-clause-ready : goal.drive_crew-requires-clause-ready
drive_crew-requires-clause-ready g c κs within =
    let lend = c.lend-crew.ensures in
    let flow = ap (λ (h : HomeState). h.flow) lend.home in
    lent-ready c.lend-crew.new.self c.lend-crew.result lend.lent (turns_of c.args.budget)
    (subst (λ f. steps_by c.lend-crew.result.workers.items + crew_of f * turns_of c.args.budget ≤ 2 ^ 40) (sym flow)
    (let few = c.requires.few in let most = c.most-most.ensures.most in let small = c.most-most.ensures.few in let steps = lend.steps in omega arith))
    (λ worker.
    let was = ap (λ ns. slice_index_or ns worker 0) lend.turned ∙ turned-here c.lend-crew.result.workers.items worker in
    let fits = c.requires.fits worker in
    omega (arith, was, fits))

pub take_back-requires-clause-crew : goal.take_back-requires-clause-crew
take_back-requires-clause-crew g c =
    let lend = c.lend-crew.ensures in
    subst (λ h. IsLent h c.drive_crew.new.crew) (sym lend.home)
    (lent-again (turns_of c.args.budget) c.args.home.now c.requires.within c.requires.armed c.lend-crew.result c.drive_crew.new.crew
    (subst (λ h. IsLent h c.lend-crew.result) lend.home lend.lent) lend.parts lend.steps lend.worked c.requires.few c.in-Ok-drive_crew.ensures.made lend.turned c.in-Ok-drive_crew.ensures.counted)

pub returns-in-Ok-drive_crew-clause-ok : goal.returns-in-Ok-drive_crew-clause-ok
returns-in-Ok-drive_crew-clause-ok g c =
    let lend = c.lend-crew.ensures in
    let old = c.args.home.now in
    let after = c.drive_crew.new.crew in
    let back : c.take_back.new.self ≡ record old { phase = phase.Unsettled (runs_to_end old.phase); parts = parts_from 0 after.workers.items; turned = turned_by after.workers.items } =
    c.take_back.ensures ∙ ap (λ (h : HomeState). record h { phase = phase.Unsettled (runs_to_end h.phase); parts = parts_from 0 after.workers.items; turned = turned_by after.workers.items }) lend.home in
    ok-and c.settle.result
    (λ is worked.
    let so : c.settle.new.self ≡ record old { phase = phase.Open (runs_to_end old.phase) Rattle.amber_home.specs.declared.phase.Counts.TheVariants.Armed; parts = parts_from 0 after.workers.items; turned = turned_by after.workers.items } =
    is ∙ ap (λ (h : HomeState). record h { phase = phase.Open (runs_to_end h.phase) (counts_in h.phase) }) back in
    subst (MakesRound (turns_of c.args.budget) old) (sym so)
    (makes-round (turns_of c.args.budget) old c.requires.within c.requires.armed c.lend-crew.result after
    (subst (λ h. IsLent h c.lend-crew.result) lend.home lend.lent) lend.parts lend.steps lend.worked c.requires.few c.in-Ok-drive_crew.ensures.made lend.turned c.in-Ok-drive_crew.ensures.counted (subst IsWorkedLeg so worked)))
    c.settle.ensures.ok c.settle.ensures.worked
