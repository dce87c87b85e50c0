-- One step more, and the home stays one.
use Rattle.std.proofs.Common.{◌+◌, ◌<◌, ◌≤◌, refl, ap, sym, subst, ◌∙◌, arith}
use Rattle.amber_meaning.specs.State.{emitted_by, steps_in}
use Rattle.amber_home.specs.HomeState.{AreArmed, HomeState, MovesOrHolds, NoneIsPaused, StepsOn, alone_more, runs_to_end, state_of, stops_of_home}
use Rattle.amber_home.specs.Kept.{IsHome}
use Rattle.amber_home.specs.Parts.{open_parts, open_turned}
use Rattle.amber_home.proofs.Armings.{stands-leg}
use Rattle.amber_home.proofs.AsFar.{rows-are}
use Rattle.amber_home.proofs.Driven.{home-driven, turned-goes}
use Rattle.amber_home.proofs.Fed.{next-rows}
use Rattle.amber_home.proofs.Free.{goes-home, running-home}
use Rattle.amber_home.proofs.Homes.{leg-of, open-there}
use Rattle.amber_home.proofs.Inside.{kept, opens, seen, there-within}
use Rattle.amber_home.proofs.Moved.{moves-home}
use Rattle.amber_home.proofs.NextStep.{few-step, home-stepped, ready-step, steps-stepped}
use Rattle.amber_home.proofs.home.Home.home_step.Goals as goal

pub step_next-requires-clause-workers : goal.step_next-requires-clause-workers
step_next-requires-clause-workers c = there-within c.self.inside c.self.invariant c.args.self.now c.self.view_is c.requires.within

pub step_next-requires-clause-unfinished : goal.step_next-requires-clause-unfinished
step_next-requires-clause-unfinished c =
    let i = c.self.inside in
    (goes-home (seen i) (kept i) i.phase c.self.invariant (opens i c.self.invariant c.args.self.now c.self.view_is c.requires.within) refl
    (ap stops_of_home c.self.view_is ∙ c.requires.none)).unfinished

pub step_next-requires-clause-none : goal.step_next-requires-clause-none
step_next-requires-clause-none c =
    let i = c.self.inside in
    (goes-home (seen i) (kept i) i.phase c.self.invariant (opens i c.self.invariant c.args.self.now c.self.view_is c.requires.within) refl
    (ap stops_of_home c.self.view_is ∙ c.requires.none)).none

pub step_next-requires-clause-free : goal.step_next-requires-clause-free
step_next-requires-clause-free c =
    let i = c.self.inside in
    let within = opens i c.self.invariant c.args.self.now c.self.view_is c.requires.within in
    record {
      loose = (goes-home (seen i) (kept i) i.phase c.self.invariant within refl (ap stops_of_home c.self.view_is ∙ c.requires.none)).loose;
      running = running-home (seen i) (kept i) i.phase c.self.invariant (open-there i.phase within) refl
          (subst NoneIsPaused (sym c.self.view_is) c.requires.running);
    }

pub step_next-requires-clause-few : goal.step_next-requires-clause-few
step_next-requires-clause-few c =
    let i = c.self.inside in
    let within = opens i c.self.invariant c.args.self.now c.self.view_is c.requires.within in
    let leg = leg-of (seen i) (kept i) i.phase c.self.invariant within in
    let less = few-step (seen i) (kept i) i.phase leg within (subst (λ (h : HomeState). steps_in (state_of h) < h.most) (sym c.self.view_is) c.requires.few) in
    let most = leg.few in
    omega arith

pub step_next-requires-clause-counted : goal.step_next-requires-clause-counted
step_next-requires-clause-counted c =
    let i = c.self.inside in
    let within = opens i c.self.invariant c.args.self.now c.self.view_is c.requires.within in
    ready-step (seen i) (kept i) i.phase (leg-of (seen i) (kept i) i.phase c.self.invariant within) within (subst AreArmed (sym c.self.view_is) c.requires.armed)

pub step_next-requires-clause-stand : goal.step_next-requires-clause-stand
step_next-requires-clause-stand c =
    let i = c.self.inside in
    let within = opens i c.self.invariant c.args.self.now c.self.view_is c.requires.within in
    stands-leg (seen i) i.dataflow i.arms (runs_to_end i.phase) (leg-of (seen i) (kept i) i.phase c.self.invariant within).leg

pub invariant_of-self-2 : goal.invariant_of-self-2
invariant_of-self-2 c =
    let i = c.self.inside in
    let within = opens i c.self.invariant c.args.self.now c.self.view_is c.requires.within in
    let leg = leg-of (seen i) (kept i) i.phase c.self.invariant within in
    let next = c.in_ok-step_next.ensures in
    let later = record (kept i) { dataflow = c.step_next.new.dataflow; boards = c.step_next.new.boards } in
    subst (λ alone. IsHome (record (seen i) { flow = c.step_next.new.dataflow.flow; parts = open_parts i.phase later; alone = alone; turned = open_turned i.phase later }) later)
    (sym c.saturating_add-self-inside.ensures)
    (home-driven (open_turned i.phase later)
    (home-stepped (seen i) (kept i) i.phase leg within (subst AreArmed (sym c.self.view_is) c.requires.armed)
    (few-step (seen i) (kept i) i.phase leg within (subst (λ (h : HomeState). steps_in (state_of h) < h.most) (sym c.self.view_is) c.requires.few))
    c.step_next.new.dataflow c.step_next.new.boards refl next.on next.steps next.counted next.targets))

pub returns-clause-ok : goal.returns-clause-ok
returns-clause-ok c =
    let i = c.self.inside in
    let within = opens i c.self.invariant c.args.self.now c.self.view_is c.requires.within in
    let leg = leg-of (seen i) (kept i) i.phase c.self.invariant within in
    let next = c.in_ok-step_next.ensures in
    let later = record (kept i) { dataflow = c.step_next.new.dataflow; boards = c.step_next.new.boards } in
    let driven = turned-goes i.phase within (kept i) later next.on (there-within i c.self.invariant c.args.self.now c.self.view_is c.requires.within) in
    let after : HomeState = record (seen i) { flow = c.step_next.new.dataflow.flow; parts = open_parts i.phase later; turned = open_turned i.phase later } in
    subst (λ alone. StepsOn c.args.self.now (record after { alone = alone })) (sym c.saturating_add-self-inside.ensures)
    (subst (λ (h : HomeState). StepsOn h (record after { alone = alone_more i.alone })) c.self.view_is
    (subst (λ turned. StepsOn (seen i) (record after { alone = alone_more i.alone; turned = turned })) (sym driven)
    (steps-stepped (seen i) (kept i) i.phase leg within (subst AreArmed (sym c.self.view_is) c.requires.armed)
    (few-step (seen i) (kept i) i.phase leg within (subst (λ (h : HomeState). steps_in (state_of h) < h.most) (sym c.self.view_is) c.requires.few))
    c.step_next.new.dataflow c.step_next.new.boards refl next.on next.steps next.counted next.targets)))

pub returns-clause-rows : goal.returns-clause-rows
returns-clause-rows c op =
    let i = c.self.inside in
    let within = opens i c.self.invariant c.args.self.now c.self.view_is c.requires.within in
    let leg = leg-of (seen i) (kept i) i.phase c.self.invariant within in
    let next = c.in_ok-step_next.ensures in
    let later = record (kept i) { dataflow = c.step_next.new.dataflow; boards = c.step_next.new.boards } in
    let after : HomeState = record (seen i) { flow = c.step_next.new.dataflow.flow; parts = open_parts i.phase later; alone = alone_more i.alone; turned = open_turned i.phase later } in
    let stepped : IsHome after later = home-driven (open_turned i.phase later)
    (home-stepped (seen i) (kept i) i.phase leg within (subst AreArmed (sym c.self.view_is) c.requires.armed)
    (few-step (seen i) (kept i) i.phase leg within (subst (λ (h : HomeState). steps_in (state_of h) < h.most) (sym c.self.view_is) c.requires.few))
    c.step_next.new.dataflow c.step_next.new.boards refl next.on next.steps next.counted next.targets) in
    let was = rows-are (seen i) (kept i) i.phase c.self.invariant (open-there i.phase within) op in
    let is = rows-are after later i.phase stepped (open-there i.phase within) op in
    let more = next-rows i.arms i.boards i.dataflow c.step_next.new.dataflow next.steps op in
    subst (λ alone. emitted_by after.flow (state_of (record after { alone = alone })) op ≤ emitted_by c.args.self.now.flow (state_of c.args.self.now) op + 1)
    (sym c.saturating_add-self-inside.ensures)
    (subst (λ (h : HomeState). emitted_by after.flow (state_of after) op ≤ emitted_by h.flow (state_of h) op + 1) c.self.view_is (omega arith))

pub returns-clause-moves : goal.returns-clause-moves
returns-clause-moves c =
    let i = c.self.inside in
    let within = opens i c.self.invariant c.args.self.now c.self.view_is c.requires.within in
    let leg = leg-of (seen i) (kept i) i.phase c.self.invariant within in
    let next = c.in_ok-step_next.ensures in
    let later = record (kept i) { dataflow = c.step_next.new.dataflow; boards = c.step_next.new.boards } in
    let after : HomeState = record (seen i) { flow = c.step_next.new.dataflow.flow; parts = open_parts i.phase later; alone = alone_more i.alone; turned = open_turned i.phase later } in
    let stepped : IsHome after later = home-driven (open_turned i.phase later)
    (home-stepped (seen i) (kept i) i.phase leg within (subst AreArmed (sym c.self.view_is) c.requires.armed)
    (few-step (seen i) (kept i) i.phase leg within (subst (λ (h : HomeState). steps_in (state_of h) < h.most) (sym c.self.view_is) c.requires.few))
    c.step_next.new.dataflow c.step_next.new.boards refl next.on next.steps next.counted next.targets) in
    let there = open-there i.phase within in
    subst (λ alone. MovesOrHolds c.args.self.now (record after { alone = alone })) (sym c.saturating_add-self-inside.ensures)
    (subst (λ (h : HomeState). MovesOrHolds h after) c.self.view_is
    (moves-home (seen i) after (kept i) later i.phase i.phase c.self.invariant stepped there there refl next.steps))
