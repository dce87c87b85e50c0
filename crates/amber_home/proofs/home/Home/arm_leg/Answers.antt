-- The counts are armed, and the home stays one.
use Rattle.std.proofs.Common.{sym, ap, subst, ◌∙◌, length}
use Rattle.std.proofs.lemmas.List.{length-map}
use Rattle.amber_boards.specs.Boards.{AreBelow, StandInForce, has_target}
use Rattle.amber_dataflow.specs.AtWork.{turned_by}
use Rattle.amber_dataflow.specs.Dataflow.{leg_parts}
use Rattle.amber_home.specs.Asked.{Asked}
use Rattle.amber_home.specs.HomeState.{HomeState, counts_in, runs_to_end}
use Rattle.amber_home.specs.Kept.{IsHome}
use Rattle.amber_home.specs.Leg.{counts_asked, is_count_asked}
use Rattle.amber_home.specs.declared.phase.Counts.TheVariants.{Armed}
use Rattle.amber_home.specs.declared.phase.Phase.TheVariants as phase
use Rattle.amber_home.proofs.Armings.{asked-counted, leg-boarded, parts-armed, stands-as, stands-leg}
use Rattle.amber_home.proofs.Driven.{home-driven, turned-open, units-turned}
use Rattle.amber_home.proofs.Homes.{home-of, in-open, leg-unarmed}
use Rattle.amber_home.proofs.Inside.{kept, long-within, opens, seen, there-within}
use Rattle.amber_home.proofs.home.Home.arm_leg.Goals as goal

pub arm-requires-clause-workers : goal.arm-requires-clause-workers
arm-requires-clause-workers c = there-within c.self.inside c.self.invariant c.args.self.now c.self.view_is c.requires.within

pub arm-requires-clause-all : goal.arm-requires-clause-all
arm-requires-clause-all c =
    let i = c.self.inside in
    ap length (c.as_slice.ensures.value ∙ c.in_ok-counts.ensures) ∙ length-map i.arms (λ (asked : Asked). asked.count)
    ∙ long-within i c.self.invariant c.args.self.now c.self.view_is c.requires.within

pub arm-requires-clause-below : goal.arm-requires-clause-below
arm-requires-clause-below c =
    let i = c.self.inside in
    let leg = leg-unarmed (seen i) (kept i) i.phase c.self.invariant (opens i c.self.invariant c.args.self.now c.self.view_is c.requires.within)
    (ap (λ (h : HomeState). counts_in h.phase) c.self.view_is ∙ c.requires.unarmed) in
    subst (λ counts. AreBelow counts i.dataflow) (sym (c.as_slice.ensures.value ∙ c.in_ok-counts.ensures)) leg.stand.0

pub arm-requires-clause-unarmed : goal.arm-requires-clause-unarmed
arm-requires-clause-unarmed c =
    let i = c.self.inside in
    let leg = leg-unarmed (seen i) (kept i) i.phase c.self.invariant (opens i c.self.invariant c.args.self.now c.self.view_is c.requires.within)
    (ap (λ (h : HomeState). counts_in h.phase) c.self.view_is ∙ c.requires.unarmed) in
    leg.stand.1.unarmed

pub arm-requires-clause-stand : goal.arm-requires-clause-stand
arm-requires-clause-stand c =
    let i = c.self.inside in
    let leg = leg-unarmed (seen i) (kept i) i.phase c.self.invariant (opens i c.self.invariant c.args.self.now c.self.view_is c.requires.within)
    (ap (λ (h : HomeState). counts_in h.phase) c.self.view_is ∙ c.requires.unarmed) in
    subst (λ counts. StandInForce (has_target counts) i.dataflow) (sym (c.as_slice.ensures.value ∙ c.in_ok-counts.ensures))
    (stands-as (is_count_asked i.arms) (has_target (counts_asked i.arms)) i.dataflow (λ op. sym (asked-counted i.arms op)) (stands-leg (seen i) i.dataflow i.arms (runs_to_end i.phase) leg.leg))

pub invariant_of-self-2 : goal.invariant_of-self-2
invariant_of-self-2 c =
    let i = c.self.inside in
    let leg = leg-unarmed (seen i) (kept i) i.phase c.self.invariant (opens i c.self.invariant c.args.self.now c.self.view_is c.requires.within)
    (ap (λ (h : HomeState). counts_in h.phase) c.self.view_is ∙ c.requires.unarmed) in
    let armed = c.in_ok-arm.ensures in
    subst (λ to_end. IsHome (record (seen i) { flow = c.arm.new.dataflow.flow; phase = phase.Open to_end Armed; parts = leg_parts c.arm.new.dataflow; turned = turned_by c.arm.new.dataflow.workers })
    (record (kept i) { dataflow = c.arm.new.dataflow; boards = c.arm.new.self })) (sym c.runs_to_end-to_end.ensures)
    (home-driven (turned_by c.arm.new.dataflow.workers)
    (home-of (seen i) (record (kept i) { dataflow = c.arm.new.dataflow; boards = c.arm.new.self }) (runs_to_end i.phase) Armed c.arm.new.dataflow.flow armed.flow
    (leg-boarded (seen i) (kept i) (runs_to_end i.phase) leg c.as_slice.result.now (c.as_slice.ensures.value ∙ c.in_ok-counts.ensures) c.arm.new.dataflow c.arm.new.self
    armed.arms armed.counted armed.targets)))

pub returns-clause-ok : goal.returns-clause-ok
returns-clause-ok c =
    let i = c.self.inside in
    let armed = c.in_ok-arm.ensures in
    let within = opens i c.self.invariant c.args.self.now c.self.view_is c.requires.within in
    let driven = units-turned (has_target c.as_slice.result.now) i.dataflow c.arm.new.dataflow armed.arms.units ∙ sym (turned-open (kept i) i.phase within) in
    (λ k. record (seen i) {
      flow = armed.flow k;
      phase = phase.Open (c.runs_to_end-to_end.ensures k) Armed;
      parts = parts-armed (seen i) (kept i) (runs_to_end i.phase) c.as_slice.result.now c.arm.new.dataflow armed.arms k;
      turned = driven k;
    })
    ∙ ap (λ parts. record (seen i) { phase = phase.Open (runs_to_end i.phase) Armed; parts = parts })
    (ap (λ (h : HomeState). h.parts) (sym (in-open (seen i) (kept i) i.phase within)))
    ∙ ap (λ (h : HomeState). record h { phase = phase.Open (runs_to_end h.phase) Armed }) c.self.view_is
