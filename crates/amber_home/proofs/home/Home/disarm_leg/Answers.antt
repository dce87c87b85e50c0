-- The boards are closed, and the home stays one.
use Rattle.std.proofs.Common.{◌≡◌, refl, sym, ap, subst, ◌∙◌}
use Rattle.amber_boards.specs.Boards.{has_board}
use Rattle.amber_dataflow.specs.AtWork.{turned_by}
use Rattle.amber_dataflow.specs.Dataflow.{leg_parts}
use Rattle.amber_home.specs.HomeState.{DisarmsLeg, HomeState, counts_in, runs_to_end}
use Rattle.amber_home.specs.Kept.{IsHome}
use Rattle.amber_home.specs.Leg.{is_count_asked}
use Rattle.amber_home.specs.declared.phase.Counts.TheVariants.{Armed, Disarmed}
use Rattle.amber_home.specs.declared.phase.Phase.TheVariants as phase
use Rattle.amber_home.proofs.Armings.{disarmed-leg, disarms-home, stands-as, stands-leg}
use Rattle.amber_home.proofs.Driven.{home-driven, turned-open, units-turned}
use Rattle.amber_home.proofs.Homes.{home-of, leg-armed}
use Rattle.amber_home.proofs.Inside.{kept, opens, seen, there-within}
use Rattle.amber_home.proofs.Ready.{boards-counted}
use Rattle.amber_home.proofs.home.Home.disarm_leg.Goals as goal

pub disarm-requires-clause-workers : goal.disarm-requires-clause-workers
disarm-requires-clause-workers c = there-within c.self.inside c.self.invariant c.args.self.now c.self.view_is c.requires.within

pub disarm-requires-clause-counted : goal.disarm-requires-clause-counted
disarm-requires-clause-counted c =
    let i = c.self.inside in
    let leg = leg-armed (seen i) (kept i) i.phase c.self.invariant (opens i c.self.invariant c.args.self.now c.self.view_is c.requires.within)
    (ap (λ (h : HomeState). counts_in h.phase) c.self.view_is ∙ c.requires.armed) in
    leg.stand.counted

pub disarm-requires-clause-stand : goal.disarm-requires-clause-stand
disarm-requires-clause-stand c =
    let i = c.self.inside in
    let leg = leg-armed (seen i) (kept i) i.phase c.self.invariant (opens i c.self.invariant c.args.self.now c.self.view_is c.requires.within)
    (ap (λ (h : HomeState). counts_in h.phase) c.self.view_is ∙ c.requires.armed) in
    stands-as (is_count_asked i.arms) (has_board i.boards) i.dataflow (λ op. sym (boards-counted i.arms i.boards leg.stand.targets op))
    (stands-leg (seen i) i.dataflow i.arms (runs_to_end i.phase) leg.leg)

pub invariant_of-self : goal.invariant_of-self
invariant_of-self c =
    let i = c.self.inside in
    let leg = leg-armed (seen i) (kept i) i.phase c.self.invariant (opens i c.self.invariant c.args.self.now c.self.view_is c.requires.within)
    (ap (λ (h : HomeState). counts_in h.phase) c.self.view_is ∙ c.requires.armed) in
    let disarms = c.disarm.ensures in
    subst (λ to_end. IsHome (record (seen i) { flow = c.disarm.new.dataflow.flow; phase = phase.Open to_end Disarmed; parts = leg_parts c.disarm.new.dataflow; turned = turned_by c.disarm.new.dataflow.workers })
    (record (kept i) { dataflow = c.disarm.new.dataflow; boards = c.disarm.new.self })) (sym c.runs_to_end.ensures)
    (home-driven (turned_by c.disarm.new.dataflow.workers)
    (home-of (seen i) (record (kept i) { dataflow = c.disarm.new.dataflow; boards = c.disarm.new.self }) (runs_to_end i.phase) Disarmed c.disarm.new.dataflow.flow disarms.disarms.units.flow
    (disarmed-leg (seen i) (kept i) (runs_to_end i.phase) leg c.disarm.new.dataflow disarms.disarms c.disarm.new.self disarms.none)))

pub returns : goal.returns
returns c =
    let i = c.self.inside in
    let within = opens i c.self.invariant c.args.self.now c.self.view_is c.requires.within in
    let is : counts_in i.phase ≡ Armed = ap (λ (h : HomeState). counts_in h.phase) c.self.view_is ∙ c.requires.armed in
    let leg = leg-armed (seen i) (kept i) i.phase c.self.invariant within is in
    let disarms = c.disarm.ensures in
    let driven = units-turned (has_board i.boards) i.dataflow c.disarm.new.dataflow disarms.disarms.units ∙ sym (turned-open (kept i) i.phase within) in
    let after : HomeState = record (seen i) { flow = c.disarm.new.dataflow.flow; parts = leg_parts c.disarm.new.dataflow; turned = turned_by c.disarm.new.dataflow.workers } in
    subst (λ (h : HomeState). DisarmsLeg h (record after { phase = phase.Open c.runs_to_end.result Disarmed })) c.self.view_is
    (subst (λ to_end. DisarmsLeg (seen i) (record after { phase = phase.Open to_end Disarmed })) (sym c.runs_to_end.ensures)
    (subst (λ turned. DisarmsLeg (seen i) (record after { phase = phase.Open (runs_to_end i.phase) Disarmed; turned = turned })) (sym driven)
    (disarms-home (seen i) (kept i) i.phase within is leg c.disarm.new.dataflow disarms.disarms refl c.disarm.new.self disarms.none)))
