-- Counts of a home's leg are armed, and disarmed.
use Rattle.std.proofs.Common.{◌≡◌, refl, sym, ap, subst, ◌∙◌, ℕ, suc, ◌+◌, ◌<◌, ◌≤◌, List, [], ◌∷◌, length, Bool, true, false, Option, is_some, arith}
use Rattle.amber_rows.specs.Topology.{crew_of, op_of}
use Rattle.amber_rows.specs.declared.flow.Operator.{Operator}
use Rattle.amber_meaning.specs.Legal.{IsLegal, IsSettled, leg_start}
use Rattle.amber_worker.specs.Counting.{with_back}
use Rattle.amber_worker.specs.WorkerState.{WorkerState}
use Rattle.amber_dataflow.specs.AtWork.{worker_state_at}
use Rattle.amber_dataflow.specs.Dataflow.{DataflowState, hand_of, journal_of, leg_parts, rows_emitted, step_count}
use Rattle.amber_dataflow.specs.Parts.{parts_from}
use Rattle.amber_dataflow.proofs.Standing.{journal-entries}
use Rattle.amber_boards.specs.declared.target.Target.{Target}
use Rattle.amber_boards.specs.Boards.{AreCounted, AreEmptyHanded, AreUnarmed, AreWithinTargets, ArmsAll, CounterState, DisarmsAll, IsWithinTarget, StandInForce, has_board, has_target, targets_of}
use Rattle.amber_home.specs.Asked.{Asked}
use Rattle.amber_home.specs.Going.{AreReady, GoOn}
use Rattle.amber_home.specs.HomeState.{DisarmsLeg, WritesGivenBack, HomeState, counts_in, hand_at, is_open, query_of, rest_state, runs_to_end, state_of}
use Rattle.amber_home.specs.Parts.{open_parts}
use Rattle.amber_home.specs.Kept.{IsWithinLeg, LiveState}
use Rattle.amber_home.specs.Leg.{AreEmptyOf, counts_asked, is_count_asked}
use Rattle.amber_home.specs.declared.phase.Counts.{Counts}
use Rattle.amber_home.specs.declared.phase.Counts.TheVariants.{Armed, Disarmed, Unarmed}
use Rattle.amber_home.specs.declared.phase.Phase.{Phase}
use Rattle.amber_home.specs.declared.phase.Phase.TheVariants as phase
use Rattle.amber_home.proofs.AsFar.{far-home, far-units}
use Rattle.amber_home.proofs.Fed.{units-steps}
use Rattle.amber_home.proofs.Going.{units-on}
use Rattle.amber_home.proofs.Homes.{IsLeg, home-of, in-open, leg-on}
use Rattle.amber_home.proofs.Legs.{empty-here, in-force-counted, settled-here, within-on}
use Rattle.amber_home.proofs.OneMore.{at_work, hand-within}
use Rattle.amber_home.proofs.Ready.{boards-counted, target-board, targets-board}
use Rattle.amber_home.proofs.Reached.{target-asked}

-- what is asked for at each operator is in force there
pub asked-counted : (arms : List Asked) (op : ℕ) → has_target (counts_asked arms) op ≡ is_count_asked arms op
asked-counted arms op = ap is_some (target-asked arms op)

-- a home stands in a leg with the counts that it keeps
pub stands-leg : (e : HomeState) (d : DataflowState) (arms : List Asked) (to_end : Bool) → IsWithinLeg to_end e d arms → StandInForce (is_count_asked arms) d
stands-leg e d arms to_end leg =
    (query_of e, leg_start to_end (rest_state e), leg.positions, leg.at, in-force-counted e.flow (leg_start to_end (rest_state e)) arms leg.in_force)

pub stands-as : (one other : ℕ → Bool) (d : DataflowState) → ((op : ℕ) → one op ≡ other op) → StandInForce one d → StandInForce other d
stands-as one other d same stand = (stand.0, stand.1, stand.2, stand.3, λ op. stand.4 op ∙ same op)

-- ---- parts of workers that have written the same

parts-same : (number : ℕ) (old new : List WorkerState) → length new ≡ length old → ((worker : ℕ) → (worker_state_at new worker).journal ≡ (worker_state_at old worker).journal)
    → parts_from number new ≡ parts_from number old
unfolding parts_from
parts-same number [] [] long same = refl
parts-same number [] (w ∷ new) long same = absurd (omega arith)
parts-same number (w ∷ old) [] long same = absurd (omega arith)
parts-same number (w ∷ old) (v ∷ new) long same =
    rw (same 0, parts-same (number + 1) old new (omega (arith, long)) (λ k. same (suc k))) refl

-- ---- no hand holds a unit

-- of those whose operator counts, and of the others
pub all-empty : (to_end : Bool) (e : HomeState) (d : DataflowState) (arms : List Asked) (leg : IsWithinLeg to_end e d arms) → IsLegal (query_of e) e.log → AreEmptyOf (is_count_asked arms) d → AreEmptyHanded d
all-empty to_end e d arms leg legal empty worker inside = by (is_count_asked arms (op_of d.flow worker)) refl
  where
    by : (b : Bool) → is_count_asked arms (op_of d.flow worker) ≡ b → hand_of d worker ≡ 0
    by true is = empty worker inside is
    by false is = empty-here to_end e d arms leg legal worker (subst (λ (f : List Operator). worker < crew_of f) leg.at.flow inside)
        (ap (λ (f : List Operator). is_count_asked arms (op_of f worker)) (sym leg.at.flow) ∙ is)

module _ (e : HomeState) (live : LiveState) (to_end : Bool) where
  abbrev d : DataflowState
  d = live.dataflow

  abbrev arms : List Asked
  arms = live.arms

  -- ---- counts are armed

  module _ (leg : IsLeg e live to_end Unarmed) (counts : List (Option Target)) (counts-are : counts ≡ counts_asked arms) (after : DataflowState) (boards : List (Option CounterState))
      (armed : ArmsAll counts d after) (counted : AreCounted boards after) (targets : targets_of boards ≡ counts) where
    pub armed-on : GoOn arms d after
    armed-on = units-on arms (has_target counts) d after (λ op. ap (λ cs. has_target cs op) counts-are ∙ asked-counted arms op) armed.units

    pub armed-ready : AreReady arms boards after
    armed-ready = record { counted = counted; targets = targets-board arms boards (targets ∙ counts-are) }

    pub leg-boarded : IsLeg e (record live { dataflow = after; boards = boards }) to_end Armed
    leg-boarded =
        leg-on e live to_end Unarmed Armed leg after boards armed-on
        (let same = units-steps (has_target counts) d after armed.units in let few = leg.leg.few in omega arith) armed-ready

  pub parts-armed : (counts : List (Option Target)) (after : DataflowState) → ArmsAll counts d after → leg_parts after ≡ leg_parts d
  unfolding leg_parts journal_of
  parts-armed counts after armed = parts-same 0 d.workers after.workers armed.units.long armed.writes

  -- ---- counts are disarmed

  module _ (counts : Counts) (leg : IsLeg e live to_end counts) (after : DataflowState) (on : GoOn arms d after) (few : step_count after ≤ e.most)
      (within : AreWithinTargets (counts_asked arms) after) (unarmed : AreUnarmed after) (empty : AreEmptyOf (is_count_asked arms) after) (boards : List (Option CounterState)) (none : boards ≡ []) where
    later : IsWithinLeg to_end e after arms
    later = within-on to_end e d after arms leg.leg on few

    pub leg-disarmed : IsLeg e (record live { dataflow = after; boards = boards }) to_end Disarmed
    leg-disarmed =
        leg-on e live to_end counts Disarmed leg after boards on few
        (within, record { none = none; unarmed = unarmed; empty = all-empty to_end e after arms later leg.legal empty })

  module _ (leg : IsLeg e live to_end Armed) (after : DataflowState) (disarms : DisarmsAll live.boards d after) where
    ready : AreReady arms live.boards d
    ready = leg.stand

    pub disarmed-on : GoOn arms d after
    disarmed-on = units-on arms (has_board live.boards) d after (boards-counted arms live.boards ready.targets) disarms.units

    pub disarmed-few : step_count after ≤ e.most
    disarmed-few = let same = units-steps (has_board live.boards) d after disarms.units in let few = leg.leg.few in omega arith

    pub disarmed-within : AreWithinTargets (counts_asked arms) after
    disarmed-within op =
        subst (λ count. IsWithinTarget count (rows_emitted after op))
        (target-board live.boards op ∙ ready.targets op ∙ sym (target-asked arms op)) (disarms.within op)

    pub disarmed-empty : AreEmptyOf (is_count_asked arms) after
    disarmed-empty worker inside counted =
        disarms.empty worker (subst (λ (f : List Operator). worker < crew_of f) disarms.units.flow inside)
        (boards-counted arms live.boards ready.targets (op_of d.flow worker) ∙ ap (λ (f : List Operator). is_count_asked arms (op_of f worker)) (sym disarms.units.flow) ∙ counted)

    pub gives-back : (later : IsWithinLeg to_end e after arms) (worker : ℕ) → worker < crew_of e.flow
        → WritesGivenBack (at_work to_end Armed e d arms leg.leg leg.legal) (at_work to_end Disarmed e after arms later leg.legal) worker
    unfolding journal_of
    gives-back later worker inside =
        journal-entries after worker
        ∙ by (is_count_asked arms (op_of d.flow worker)) refl
        ∙ ap (λ n. with_back n (journal_of d worker)) (sym (hand-within to_end Armed e d arms leg.leg leg.legal worker inside))
        ∙ ap (with_back (hand_at (at_work to_end Armed e d arms leg.leg leg.legal) worker)) (sym (journal-entries d worker))
      where
        there : worker < crew_of d.flow
        there = subst (λ (f : List Operator). worker < crew_of f) (sym leg.leg.at.flow) inside

        by : (b : Bool) → is_count_asked arms (op_of d.flow worker) ≡ b → journal_of after worker ≡ with_back (hand_of d worker) (journal_of d worker)
        by true is = disarms.writes worker there (boards-counted arms live.boards ready.targets (op_of d.flow worker) ∙ is)
        by false is =
            ap (λ (w : WorkerState). w.journal) (disarms.others worker there (boards-counted arms live.boards ready.targets (op_of d.flow worker) ∙ is))
            ∙ ap (λ n. with_back n (journal_of d worker))
            (sym (empty-here to_end e d arms leg.leg leg.legal worker inside (ap (λ (f : List Operator). is_count_asked arms (op_of f worker)) (sym leg.leg.at.flow) ∙ is)))

    pub disarmed-leg : (boards : List (Option CounterState)) → boards ≡ [] → IsLeg e (record live { dataflow = after; boards = boards }) to_end Disarmed
    disarmed-leg boards none = leg-disarmed Armed leg after disarmed-on disarmed-few disarmed-within disarms.unarmed disarmed-empty boards none

-- once boards are closed all is settled
settled-now : (e : HomeState) (to_end : Bool) (d : DataflowState) (arms : List Asked) (leg : IsWithinLeg to_end e d arms) (legal : IsLegal (query_of e) e.log) → AreEmptyHanded d → AreWithinTargets (counts_asked arms) d
    → IsSettled (query_of e) (state_of (at_work to_end Disarmed e d arms leg legal))
unfolding state_of
settled-now e to_end d arms leg legal empty within = settled-here to_end e d arms leg legal empty within

-- what the home is seen to do
pub disarms-home : (e : HomeState) (live : LiveState) (now : Phase) (within : is_open now ≡ true) → counts_in now ≡ Armed → (leg : IsLeg e live (runs_to_end now) Armed)
    → (after : DataflowState) (disarms : DisarmsAll live.boards live.dataflow after) → live.dataflow.flow ≡ e.flow → (boards : List (Option CounterState)) → boards ≡ []
    → DisarmsLeg (record e { phase = now; parts = open_parts now live }) (record e { flow = after.flow; phase = phase.Open (runs_to_end now) Disarmed; parts = leg_parts after })
disarms-home e live now within is leg after disarms same boards none =
    let d = live.dataflow in
    let arms = live.arms in
    let to_end = runs_to_end now in
    let later = within-on to_end e d after arms leg.leg (disarmed-on e live to_end leg after disarms) (disarmed-few e live to_end leg after disarms) in
    let closed_live : LiveState = record live { dataflow = after; boards = boards } in
    let closed = disarmed-leg e live to_end leg after disarms boards none in
    let stand = closed.stand in
    subst (λ (h : HomeState). DisarmsLeg h (record e { flow = after.flow; phase = phase.Open to_end Disarmed; parts = leg_parts after }))
    (sym (in-open e live now within ∙ ap (λ counts. record e { phase = phase.Open to_end counts; parts = leg_parts d }) is))
    (subst (λ flow. DisarmsLeg (at_work to_end Armed e d arms leg.leg leg.legal) (record e { flow = flow; phase = phase.Open to_end Disarmed; parts = leg_parts after }))
    (sym (disarms.units.flow ∙ same))
    (record {
      only = refl;
      writes = λ worker inside. gives-back e live to_end leg after disarms later worker inside;
      settled = settled-now e to_end after arms later leg.legal stand.1.empty stand.0;
      far = far-home (record e { parts = leg_parts d }) (record e { parts = leg_parts after }) live closed_live (phase.Open to_end Armed) (phase.Open to_end Disarmed)
          (home-of e live to_end Armed e.flow refl leg) (home-of e closed_live to_end Disarmed e.flow refl closed) refl refl refl
          (far-units arms (has_board live.boards) d after disarms.units);
    }))
