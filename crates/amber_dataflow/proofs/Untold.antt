-- Turns of a worker that is told nothing.
use Rattle.std.proofs.Common.{◌≡◌, ◌+◌, ◌&&◌, ◌||◌, List, [], ◌∷◌, ◌++◌, None, not, Bool, true, false, Result, Ok, Err, if◌then◌else◌, refl, sym, ap, ◌∙◌, subst, append-nil, append_assoc}
use Rattle.std.specs.Prelude.{replicate}
use Rattle.std.specs.Result.{IfOk, OnOk}
use Rattle.std.proofs.lemmas.List.{replicate-append-replicate}
use Rattle.std.proofs.lemmas.List.Elements.{filter-append}
use Rattle.amber_log.specs.declared.entry.Entry.{Entry}
use Rattle.amber_log.specs.declared.entry.Entry.TheVariants as entry
use Rattle.amber_link.specs.Links.{has_some}
use Rattle.amber_link.specs.Sides.{have_all_ended}
use Rattle.amber_worker.specs.AtPosition.{HasSameEnds, KeepsUnder}
use Rattle.amber_worker.specs.Steps.{held_at}
use Rattle.amber_worker.specs.Turning.{HasTurned, IsNextTurn, MakesTurn, MakesTurns, TurnsUnder, other_entries, tells_steps}
use Rattle.amber_worker.specs.WorkerState.{WorkerState, has_ready, is_armed, is_starved, must_hold, needs_unit}
use Rattle.amber_worker.specs.declared.turn.Turn.{Turn}
use Rattle.amber_worker.specs.declared.turn.Turn.TheVariants as turn
use Rattle.amber_worker.proofs.ManyTurns.{makes-turn, same-step}
use Rattle.amber_worker.proofs.Selves.{turns-uncounted}
use Rattle.amber_worker.proofs.StepFacts.{step-writes}
use Rattle.amber_worker.proofs.TurnCases.{turn_by}
use Rattle.amber_dataflow.specs.AtWork.{WritesHolds}

-- ---- one turn

-- where it was told nothing it made its turn from where it stood
turns-alone : (old new : WorkerState) (done : Turn) → TurnsUnder None old new done → MakesTurn old new done
turns-alone old new done turns = subst (λ w. MakesTurn w new done) turns.acts turns.makes

pub alone-makes : {E : Type 0} (r : Result Turn E) (old new : WorkerState) → KeepsUnder (is_armed old) old new → HasSameEnds old new
    → IfOk r (TurnsUnder None old new) → OnOk r (MakesTurns 1 old new)
alone-makes (Ok done) old new keeps ends turns = makes-turn None old new done keeps ends turns
alone-makes (Err e) old new keeps ends turns = tt

-- it was not driven
pub alone-uncounted : {E : Type 0} (r : Result Turn E) (old new : WorkerState) → IfOk r (TurnsUnder None old new) → OnOk r (new.turned ≡ old.turned)
alone-uncounted (Ok done) old new turns = turns-uncounted None old new done turns
alone-uncounted (Err e) old new turns = tt

-- ---- what is written

holds-none : (journal : List Entry) → WritesHolds journal journal
holds-none journal = (0, sym (append-nil (other_entries journal)))

holds-same : (old new : List Entry) → other_entries new ≡ other_entries old → WritesHolds old new
holds-same old new same = (0, same ∙ sym (append-nil (other_entries old)))

pub holds-then : (a b c : List Entry) → WritesHolds a b → WritesHolds b c → WritesHolds a c
holds-then a b c one two = (
  one.0 + two.0,
  two.1 ∙ ap (λ xs. xs ++ replicate two.0 entry.Hold) one.1 ∙ append_assoc (other_entries a) (replicate one.0 entry.Hold) (replicate two.0 entry.Hold)
      ∙ ap (λ xs. other_entries a ++ xs) (replicate-append-replicate one.0 two.0 entry.Hold),
)

holds-one : (journal : List Entry) → WritesHolds journal (journal ++ entry.Hold ∷ [])
holds-one journal = (1, filter-append (λ one. not (tells_steps one)) journal (entry.Hold ∷ []))

-- a turn writes a step, or that a row holds the worker, or nothing
turn-writes : (old new : WorkerState) (done : Turn) → HasTurned done old new → WritesHolds old.journal new.journal
turn-writes old new turn.Moved step = holds-same old.journal new.journal (same-step old.journal new.journal (step-writes old new step))
turn-writes old new turn.Idle idle = holds-same old.journal new.journal (ap (λ (w : WorkerState). other_entries w.journal) idle.looked.only)
turn-writes old new turn.Held is = subst (λ (w : WorkerState). WritesHolds old.journal w.journal) (sym is) (by old.restraint.held)
  where
    by : (b : Bool) → WritesHolds old.journal (if b then old else held_at old).journal
    by true = holds-none old.journal
    by false = holds-one old.journal
turn-writes old new turn.Starved same = holds-same old.journal new.journal (ap (λ (w : WorkerState). other_entries w.journal) same)
turn-writes old new turn.Paused same = holds-same old.journal new.journal (ap (λ (w : WorkerState). other_entries w.journal) same)
turn-writes old new turn.Ended same = holds-same old.journal new.journal (ap (λ (w : WorkerState). other_entries w.journal) same)

pub alone-writes : {E : Type 0} (r : Result Turn E) (old new : WorkerState) → IfOk r (TurnsUnder None old new) → OnOk r (WritesHolds old.journal new.journal)
alone-writes (Ok done) old new turns = turn-writes old new done (turns-alone old new done turns).turned
alone-writes (Err e) old new turns = tt

-- ---- where it needs a unit

-- one that starves needs a unit
starves-test : (a b c d e f g h i : Bool) → turn.Starved ≡ turn_by a b c d e f g h i → (e && (d || g)) ≡ true
starves-test true b c d e f g h i is = cc
starves-test false true c d e f g h i is = cc
starves-test false false true d e f g h i is = cc
starves-test false false false true true f g h i is = refl
starves-test false false false false true f true h i is = refl
starves-test false false false false true f false true i is = cc
starves-test false false false false true f false false true is = cc
starves-test false false false false true f false false false is = cc
starves-test false false false true false true g h i is = cc
starves-test false false false true false false g h i is = cc
starves-test false false false false false f true h i is = cc
starves-test false false false false false f false true i is = cc
starves-test false false false false false f false false true is = cc
starves-test false false false false false f false false false is = cc

pub starving : (w : WorkerState) → IsNextTurn w turn.Starved → needs_unit w ≡ true
starving w next =
    starves-test w.finished w.restraint.paused w.restraint.held (has_some w.pending) (is_starved w) (must_hold w) (has_some w.rest) (has_ready next.found) (have_all_ended next.found) next.is
