-- Whatever batches were taken, a journal says how much was done: so what workers have done that came back is known once they are settled.
use Rattle.std.proofs.Common.{◌≡◌, refl, sym, ap, subst, ◌∙◌, ℕ, ◌+◌, ◌<◌, List, [], ◌∷◌, ◌++◌, length, length-append, true, replicate, arith}
use Rattle.std.proofs.lemmas.List.{take_all}
use Rattle.amber_rows.specs.Topology.{crew_of}
use Rattle.amber_log.specs.declared.entry.Entry.{Entry}
use Rattle.amber_log.specs.declared.entry.Entry.TheVariants as entry
use Rattle.amber_log.specs.declared.leg.Part.{Part}
use Rattle.amber_meaning.specs.Legal.{IsWorked, Query, assignment_in, leg_start}
use Rattle.amber_meaning.specs.Position.{Position, emitted_count, steps_of}
use Rattle.amber_meaning.specs.Rules.{Assignment, Leads, Moves}
use Rattle.amber_meaning.specs.State.{State, position_at, steps_in}
use Rattle.amber_worker.specs.AtPosition.{placement_of}
use Rattle.amber_worker.specs.WorkerState.{WorkerState, steps_made}
use Rattle.amber_worker.proofs.Settling.{steps-shown}
use Rattle.amber_dataflow.specs.AtWork.{AreJoinedAt, context_in, steps_by, worker_state_at}
use Rattle.amber_dataflow.specs.Parts.{parts_from}
use Rattle.amber_dataflow.proofs.Reached.{steps-listed}
use Rattle.amber_dataflow.proofs.Standing.{listed-whole}
use Rattle.amber_dataflow.proofs.Within.{entries-here}
use Rattle.amber_home.specs.HomeState.{HomeState, IsWorkedLeg, query_of, rest_state, runs_to_end, state_of}
use Rattle.amber_home.specs.Lent.{IsLent}
use Rattle.amber_home.specs.declared.crew.Crew.{Crew}

-- the same but for what the batches hold that were taken
record AreAlike (p q : Position) : Type 0 where
  constants : p.constants ≡ q.constants
  outcomes : p.outcomes ≡ q.outcomes
  taken : length p.taken ≡ length q.taken
  finished : p.finished ≡ q.finished

alike-same : (p : Position) → AreAlike p p
alike-same p = record { constants = refl; outcomes = refl; taken = refl; finished = refl }

alike-steps : (p q : Position) → AreAlike p q → steps_of p ≡ steps_of q
alike-steps p q h = rw (h.constants, h.outcomes, h.taken, h.finished) refl

alike-moved : (it : Assignment) (one : Entry) (p q now also : Position) → Moves it p one now → Moves it q one also → AreAlike p q → AreAlike now also
alike-moved it (entry.Take from number) p q now also m n h = rw (m.2, n.2) (record {
  constants = h.constants;
  outcomes = h.outcomes;
  taken = length-append p.taken _ ∙ ap (λ k. k + 1) h.taken ∙ sym (length-append q.taken _);
  finished = h.finished;
})
alike-moved it (entry.Go rows outs) p q now also m n h = rw (m.2, n.2) (record {
  constants = ap (λ xs. xs ++ replicate rows it.orders.constants) h.constants;
  outcomes = ap (λ xs. xs ++ replicate outs true) h.outcomes;
  taken = h.taken;
  finished = h.finished;
})
alike-moved it (entry.Grant k) p q now also m n h = rw (m.2, n.2) (record { constants = h.constants; outcomes = h.outcomes; taken = h.taken; finished = h.finished })
alike-moved it (entry.Back k) p q now also m n h = rw (m.2, n.2) (record { constants = h.constants; outcomes = h.outcomes; taken = h.taken; finished = h.finished })
alike-moved it entry.Pause p q now also m n h = rw (m.2, n.2) (record { constants = h.constants; outcomes = h.outcomes; taken = h.taken; finished = h.finished })
alike-moved it entry.Resume p q now also m n h = rw (m.2, n.2) (record { constants = h.constants; outcomes = h.outcomes; taken = h.taken; finished = h.finished })
alike-moved it entry.Hold p q now also m n h = rw (m.2, n.2) (record { constants = h.constants; outcomes = h.outcomes; taken = h.taken; finished = h.finished })
alike-moved it entry.Finish p q now also m n h = rw (m.2, n.2) (record { constants = h.constants; outcomes = h.outcomes; taken = h.taken; finished = refl })

alike-led : (it : Assignment) (entries : List Entry) (p q now also : Position) → Leads it p entries now → Leads it q entries also → AreAlike p q → AreAlike now also
unfolding Leads
alike-led it [] p q now also m n h = subst (λ r. AreAlike r also) m (subst (λ r. AreAlike p r) n h)
alike-led it (one ∷ more) p q now also m n h = alike-led it more m.0 n.0 now also m.2 n.2 (alike-moved it one p q m.0 n.0 m.1 n.1 h)

-- workers that wrote these parts of a leg have done as much as the state says that the parts lead to
module _ (query : Query) (start : State) (crew : List WorkerState) (positions : ℕ → Position) (at : AreJoinedAt query start crew positions)
    (now : State) (worked : IsWorked query start (parts_from 0 crew) now) where
  alike-at : (worker : ℕ) → worker < crew_of query.flow → AreAlike (positions worker) (position_at now.positions worker)
  unfolding placement_of
  alike-at worker inside =
      alike-led (assignment_in query start worker) (worker_state_at crew worker).journal (position_at start.positions worker) (position_at start.positions worker) (positions worker) (position_at now.positions worker)
      (at.at_positions.each worker inside).leads
      (rw (← entries-here crew worker) (worked.moved worker inside))
      (alike-same (position_at start.positions worker))

  each-told : (worker : ℕ) → worker < crew_of query.flow → steps_made (worker_state_at crew worker) ≡ steps_of (position_at now.positions worker)
  each-told worker inside =
      steps-shown (context_in at.at_positions.bases query start worker) (worker_state_at crew worker) (positions worker) (at.at_positions.each worker inside).shows
      ∙ alike-steps (positions worker) (position_at now.positions worker) (alike-at worker inside)

  emitted-by : (worker : ℕ) → worker < crew_of query.flow → (worker_state_at crew worker).emitted ≡ emitted_count (position_at now.positions worker).outcomes
  emitted-by worker inside = (at.at_positions.each worker inside).shows.emitted ∙ ap emitted_count (alike-at worker inside).outcomes

  all-told : steps_by crew ≡ steps_in now
  unfolding steps_in
  all-told =
      ap steps_by (sym (take_all (crew_of query.flow) crew (let all = at.at_positions.all in omega arith)))
      ∙ sym (steps-listed crew (position_at now.positions) (crew_of query.flow) (let all = at.at_positions.all in omega arith) each-told)
      ∙ ap steps_in (listed-whole query now worked.crew)

-- ---- of a home to which they came back

module _ (away : HomeState) (crew : Crew) (lent : IsLent away crew) (back : HomeState) (query-is : query_of back ≡ query_of away)
    (start-is : leg_start (runs_to_end back.phase) (rest_state back) ≡ leg_start (runs_to_end away.phase) (rest_state away))
    (parts-are : back.parts ≡ parts_from 0 crew.workers.items) (worked : IsWorkedLeg back) where
  abbrev start : State
  start = leg_start (runs_to_end away.phase) (rest_state away)

  so : IsWorked (query_of away) start (parts_from 0 crew.workers.items) (state_of back)
  so = subst (λ (q : Query). IsWorked q start (parts_from 0 crew.workers.items) (state_of back)) query-is
      (subst (λ (s : State). IsWorked (query_of back) s (parts_from 0 crew.workers.items) (state_of back)) start-is
      (subst (λ (parts : List Part). IsWorked (query_of back) (leg_start (runs_to_end back.phase) (rest_state back)) parts (state_of back)) parts-are worked))

  -- they have made as many steps as the state says
  pub steps-told : steps_by crew.workers.items ≡ steps_in (state_of back)
  steps-told = all-told (query_of away) start crew.workers.items lent.workers.positions lent.workers.at (state_of back) so

  -- and each has emitted as many rows
  pub emitted-told : (worker : ℕ) → worker < crew_of away.flow
      → (worker_state_at crew.workers.items worker).emitted ≡ emitted_count (position_at (state_of back).positions worker).outcomes
  emitted-told worker inside = emitted-by (query_of away) start crew.workers.items lent.workers.positions lent.workers.at (state_of back) so worker inside
