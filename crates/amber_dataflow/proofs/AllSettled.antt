-- All that any worker has made is in the inboxes.
use Rattle.std.proofs.Common.{◌≡◌, refl, sym, ap, subst, ◌∙◌, ℕ, ◌+◌, ◌<◌, ◌^◌, ◌≤◌, List, [], ◌∷◌, suc, length, nat_eq, true, inl, inr, arith}
use Rattle.std.specs.List.{list_any}
use Rattle.std.proofs.lemmas.Bool.Decides.{eqb_tells}
use Rattle.amber_rows.specs.Topology.{crew_of}
use Rattle.amber_rows.specs.FlowRules.{IsFlow}
use Rattle.amber_rows.specs.declared.flow.Operator.{Operator}
use Rattle.amber_worker.specs.WorkerState.{WorkerState}
use Rattle.amber_dataflow.specs.AtWork.{AreAtWork, AreJoinedAt, IsJoinedCrew, StayPut, steps_by, worker_state_at}
use Rattle.amber_dataflow.specs.Dataflow.{AreBack, AreCrewOf, DataflowState, IsDataflow, leg_parts, step_count}
use Rattle.amber_dataflow.specs.Parts.{parts_from}
use Rattle.amber_dataflow.specs.Passing.{AreAllSettled, AreSameBesides, Settled, SettledStay}
use Rattle.amber_dataflow.proofs.Numbers.{length-put}
use Rattle.amber_dataflow.proofs.Sending.{sending, sending-in}
use Rattle.amber_dataflow.proofs.Stepped.{steps-besides}

-- what was made for one worker more
pub settled-more : (old new : List WorkerState) (number : ℕ) → number < length old → IsJoinedCrew old → AreAllSettled number old → StayPut old new
    → ((from : ℕ) → list_any (λ one. nat_eq one.from from) (worker_state_at old number).ins ≡ true → Settled new from number)
    → SettledStay old new → AreAllSettled (number + 1) new
unfolding StayPut
settled-more old new number inside joined before put here others to less from known =
    let again = put joined.0 joined.1 joined.2 joined.3 in
    let there : to < length new = rw (length-put old new joined put) (omega arith) in
    let in-new = sending-in joined.0 joined.1 new joined.2 again from to there known in
    let does = in-new.does in
    let was = sending joined.0 joined.1 old joined.2 joined.3 from to does in
    elim (eqb_tells to number) [
      | inl same ↦ subst (Settled new from) (sym same.1) (here from (subst (λ k. list_any (λ one. nat_eq one.from from) (worker_state_at old k).ins ≡ true) same.1 was.receives))
      | inr other ↦ others from to was.before was.there (before to (let ne = other.1 in omega arith) from was.receives)
    ]

-- workers of a workflow whose links were all settled are back
module _ (flow : List Operator) (crew now : List WorkerState) (are : AreCrewOf flow crew) (long : length now ≡ length crew) (put : StayPut crew now)
    (settled : AreAllSettled (length crew) now) (aside : AreSameBesides crew now) where
  at-work : (query : _) (start : _) (positions : _) → AreJoinedAt query start crew positions → AreAtWork query start now positions
  unfolding StayPut
  at-work query start positions at =
      let again = put query start positions at in
      record {
        at = again;
        settled = λ from to does.
            let one = sending query start now positions again from to does in
            settled to (subst (λ n. to < n) long one.there) from one.receives;
      }

  pub came-back : AreBack crew (record { flow = flow; workers = now })
  came-back = record {
    there = long ∙ are.4.at_positions.all ∙ ap crew_of are.3;
    stand = λ query start positions same at. record { flow = sym same; work = at-work query start positions at };
    same = aside;
  }

  pub kept-came : IsFlow flow → steps_by crew ≤ 2 ^ 40 → IsDataflow (record { flow = flow; workers = now })
  unfolding step_count
  kept-came ok few = record {
    flow = ok;
    few = let same = steps-besides crew now long aside in omega arith;
    stand = λ there. (are.0, are.1, are.2, record { flow = sym are.3; work = at-work are.0 are.1 are.2 are.4 });
  }

-- ---- what is read of workers that are the same but for their links

pub besides-parts : (number : ℕ) (old new : List WorkerState) → length new ≡ length old → AreSameBesides old new → parts_from number new ≡ parts_from number old
unfolding parts_from
besides-parts number [] [] long same = refl
besides-parts number [] (w ∷ new) long same = absurd (omega arith)
besides-parts number (w ∷ old) [] long same = absurd (omega arith)
besides-parts number (w ∷ old) (v ∷ new) long same =
    rw (ap (λ (one : WorkerState). one.journal) (same 0), besides-parts (number + 1) old new (omega (arith, long)) (λ k. same (suc k))) refl

pub back-parts : (crew : List WorkerState) (d : DataflowState) → AreCrewOf d.flow crew → AreBack crew d → leg_parts d ≡ parts_from 0 crew
unfolding leg_parts
back-parts crew d are back = besides-parts 0 crew d.workers (back.there ∙ sym (are.4.at_positions.all ∙ ap crew_of are.3)) back.same

pub back-steps : (crew : List WorkerState) (d : DataflowState) → AreCrewOf d.flow crew → AreBack crew d → step_count d ≡ steps_by crew
unfolding step_count
back-steps crew d are back = steps-besides crew d.workers (back.there ∙ sym (are.4.at_positions.all ∙ ap crew_of are.3)) back.same
