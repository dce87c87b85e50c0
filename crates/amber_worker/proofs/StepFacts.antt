-- What a step of a worker changes of its counts and of its journal.
use Rattle.std.proofs.Common.{◌≡◌, ◌+◌, ◌≤◌, ◌++◌, ◌∷◌, [], Bool, true, false, if◌then◌else◌, sym, ap, ◌∙◌, inl, inr, arith, subst}
use Rattle.amber_log.specs.declared.entry.Entry.TheVariants as entry
use Rattle.amber_meaning.specs.Position.{one_if}
use Rattle.amber_worker.specs.Steps.{held_at}
use Rattle.amber_worker.specs.Turning.{FinishesAt, HasTurned, MakesStep, WritesStep}
use Rattle.amber_worker.specs.WorkerState.{WorkerState, steps_made}
use Rattle.amber_worker.specs.declared.turn.Turn.{Turn}
use Rattle.amber_worker.specs.declared.turn.Turn.TheVariants as turn

-- no count falls, and the rows taken and emitted rise by one together at most
pub record CountsUp (old new : WorkerState) : Type 0 where
  pub taken : old.taken ≤ new.taken
  pub emitted : old.emitted ≤ new.emitted
  pub batches : old.batches ≤ new.batches
  pub rows : new.taken + new.emitted ≤ old.taken + old.emitted + 1

-- after a look the end was reached: no count has changed
module _ (old new : WorkerState) (finishes : FinishesAt old new) where
  same-taken : new.taken ≡ old.taken
  same-taken = ap (λ (w : WorkerState). w.taken) finishes.finishes.after ∙ ap (λ (w : WorkerState). w.taken) finishes.looked.only

  same-emitted : new.emitted ≡ old.emitted
  same-emitted = ap (λ (w : WorkerState). w.emitted) finishes.finishes.after ∙ ap (λ (w : WorkerState). w.emitted) finishes.looked.only

  same-batches : new.batches ≡ old.batches
  same-batches = ap (λ (w : WorkerState). w.batches) finishes.finishes.after ∙ ap (λ (w : WorkerState). w.batches) finishes.looked.only

  steps-finished : steps_made new ≡ steps_made old + 1
  steps-finished =
      let taken = same-taken in
      let emitted = same-emitted in
      let batches = same-batches in
      let before = ap one_if finishes.unfinished in
      let now = ap (λ (w : WorkerState). one_if w.finished) finishes.finishes.after in
      omega arith

-- ---- a step

pub step-steps : (old new : WorkerState) → MakesStep old new → steps_made new ≡ steps_made old + 1
step-steps old new (inl emits) = rw emits.after (omega arith)
step-steps old new (inr (inl takes)) = rw takes.after (omega arith)
step-steps old new (inr (inr (inl takes))) = rw takes.after (omega arith)
step-steps old new (inr (inr (inr finishes))) = steps-finished old new finishes

pub step-counts : (old new : WorkerState) → MakesStep old new → CountsUp old new
step-counts old new (inl emits) = rw emits.after (record { taken = omega arith; emitted = omega arith; batches = omega arith; rows = omega arith })
step-counts old new (inr (inl takes)) = rw takes.after (record { taken = omega arith; emitted = omega arith; batches = omega arith; rows = omega arith })
step-counts old new (inr (inr (inl takes))) = rw takes.after (record { taken = omega arith; emitted = omega arith; batches = omega arith; rows = omega arith })
step-counts old new (inr (inr (inr finishes))) =
    let taken = same-taken old new finishes in
    let emitted = same-emitted old new finishes in
    let batches = same-batches old new finishes in
    record { taken = omega arith; emitted = omega arith; batches = omega arith; rows = omega arith }

pub step-writes : (old new : WorkerState) → MakesStep old new → WritesStep old.journal new.journal
step-writes old new (inl emits) = inl (ap (λ (w : WorkerState). w.journal) emits.after)
step-writes old new (inr (inl takes)) = inr (inl (ap (λ (w : WorkerState). w.journal) takes.after))
step-writes old new (inr (inr (inl takes))) = inr (inr (inl (takes.one.from, takes.one.taken, ap (λ (w : WorkerState). w.journal) takes.after)))
step-writes old new (inr (inr (inr finishes))) =
    inr (inr (inr (ap (λ (w : WorkerState). w.journal) finishes.finishes.after ∙ ap (λ (w : WorkerState). w.journal ++ entry.Finish ∷ []) finishes.looked.only)))

-- ---- a turn

pub turned-counts : (done : Turn) (old new : WorkerState) → HasTurned done old new → CountsUp old new
turned-counts turn.Moved old new step = step-counts old new step
turned-counts turn.Idle old new idle = rw idle.looked.only (record { taken = omega arith; emitted = omega arith; batches = omega arith; rows = omega arith })
turned-counts turn.Held old new is = subst (CountsUp old) (sym is) (by old.restraint.held)
  where
    by : (b : Bool) → CountsUp old (if b then old else held_at old)
    by true = record { taken = omega arith; emitted = omega arith; batches = omega arith; rows = omega arith }
    by false = record { taken = omega arith; emitted = omega arith; batches = omega arith; rows = omega arith }
turned-counts turn.Starved old new same = rw same (record { taken = omega arith; emitted = omega arith; batches = omega arith; rows = omega arith })
turned-counts turn.Paused old new same = rw same (record { taken = omega arith; emitted = omega arith; batches = omega arith; rows = omega arith })
turned-counts turn.Ended old new same = rw same (record { taken = omega arith; emitted = omega arith; batches = omega arith; rows = omega arith })
