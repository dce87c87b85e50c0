-- What a command that is done at rest leaves of counts: none has been reached after it, where none was before.
use Rattle.std.proofs.Common.{◌≡◌, ◌≢◌, refl, sym, ap, subst, ◌∙◌, ℕ, ◌+◌, ◌<◌, ◌≤◌, ◌^◌, ◌&&◌, List, length, map, Bool, true, false, Option, None, Some, unwrap_or, if◌then◌else◌, inl, inr, arith}
use Rattle.std.specs.Prelude.{nat_le, nat_lt}
use Rattle.std.proofs.lemmas.Bool.{and_parts, leb-true, ltb-true}
use Rattle.std.proofs.lemmas.Bool.Decides.{eqb_tells}
use Rattle.amber_rows.specs.Lists.{nth}
use Rattle.amber_rows.specs.declared.cond.Cond.{Cond}
use Rattle.amber_rows.specs.declared.flow.Operator.{Operator}
use Rattle.amber_rows.specs.declared.value.Value.{Value}
use Rattle.amber_log.specs.Commands.{action_of}
use Rattle.amber_log.specs.Fits.{action_fits, fits_of, is_source, is_target}
use Rattle.amber_log.specs.declared.command.Command.{Command}
use Rattle.amber_log.specs.declared.command.Command.TheVariants as command
use Rattle.amber_log.specs.declared.effect.Action.{Action}
use Rattle.amber_log.specs.declared.effect.Action.TheVariants.{AtRest, Leg}
use Rattle.amber_log.specs.declared.effect.Change.{Change}
use Rattle.amber_log.specs.declared.effect.Change.TheVariants as change
use Rattle.amber_log.specs.declared.effect.Effect.{Effect}
use Rattle.amber_meaning.specs.State.{put, worker_at}
use Rattle.amber_worker.specs.Changes.{held_dropped}
use Rattle.amber_operators.specs.States.{with_value}
use Rattle.amber_worker.specs.WorkerState.{WorkerState}
use Rattle.amber_dataflow.specs.AtWork.{worker_state_at}
use Rattle.amber_dataflow.specs.Dataflow.{AreAllThere, DataflowState, rows_emitted, worker_set, worker_watching}
use Rattle.amber_boards.specs.Boards.{AreBelow, IsBelow}
use Rattle.amber_boards.specs.declared.target.Target.{Target}
use Rattle.amber_home.specs.Applied.{HasNamed, HasOperator, arms_after, dataflow_after, with_condition, with_constants, without_dropped}
use Rattle.amber_home.specs.Asked.{Asked, asked_changed, counting_since, no_asked}
use Rattle.amber_home.specs.Leg.{count_at, counts_asked}
use Rattle.amber_home.proofs.Places.{at-here, nth-other}
use Rattle.amber_home.proofs.Reached.{target-asked}
use Rattle.amber_home.proofs.Units.{KeepUnits, KeepsUnit, keep-mapped, keep-same, keep-set, keep-then, rows-kept}

-- ---- no unit changes hands

keep-condition : (op : ℕ) (when : Option Cond) (d : DataflowState) → KeepUnits d (record d { workers = map (worker_watching op when) d.workers })
keep-condition op when d = keep-mapped (worker_watching op when) (λ w. by w (Rattle.std.proofs.Common.eqb w.op op)) d
  where
    by : (w : WorkerState) (b : Bool) → KeepsUnit w (if b then record w { when = when } else w)
    by w true = record { seat = refl; hand = refl; emitted = refl }
    by w false = record { seat = refl; hand = refl; emitted = refl }

keep-watched : (op : ℕ) (when : Change Cond) (d : DataflowState) → KeepUnits d (with_condition op when d)
keep-watched op change.Keep d = keep-same d
keep-watched op change.TakeBack d = keep-condition op None d
keep-watched op (change.Put cond) d = keep-condition op (Some cond) d

keep-constants : (op : ℕ) (constant : Option Value) (d : DataflowState) → KeepUnits d (with_constants op constant d)
keep-constants op None d = keep-same d
keep-constants op (Some value) d = keep-mapped (worker_set op value) (λ w. by w (Rattle.std.proofs.Common.eqb w.op op)) d
  where
    by : (w : WorkerState) (b : Bool) → KeepsUnit w (if b then record w { operator_state = with_value value w.operator_state } else w)
    by w true = record { seat = refl; hand = refl; emitted = refl }
    by w false = record { seat = refl; hand = refl; emitted = refl }

keep-dropped : (op : ℕ) (drops : Option ℕ) (d : DataflowState) → AreAllThere d → HasNamed d op drops → KeepUnits d (without_dropped op drops d)
keep-dropped op None d there inside = keep-same d
keep-dropped op (Some worker) d there inside =
    let k = worker_at d.flow op worker in
    let w = worker_state_at d.workers k in
    keep-set d k (held_dropped w) (rw there inside) (by w w.restraint.held)
  where
    by : (w : WorkerState) (b : Bool)
        → KeepsUnit w (if b then record w { restraint = record w.restraint { held = false }; pending = Rattle.std.proofs.Common.drop 1 w.pending } else w)
    by w true = record { seat = refl; hand = refl; emitted = refl }
    by w false = record { seat = refl; hand = refl; emitted = refl }

pub keep-after : (effect : Effect) (d : DataflowState) → AreAllThere d → HasNamed d effect.op effect.drops → KeepUnits d (dataflow_after effect d)
keep-after effect d there inside =
    let lighter = without_dropped effect.op effect.drops d in
    let set = with_constants effect.op effect.arming.constant lighter in
    keep-then d lighter (dataflow_after effect d) (keep-dropped effect.op effect.drops d there inside)
    (keep-then lighter set (dataflow_after effect d) (keep-constants effect.op effect.arming.constant lighter) (keep-watched effect.op effect.arming.when set))

-- ---- a count that is put

-- it asks for one row at least, and not for too many
abbrev IsFewRows : Change ℕ → Type 0
IsFewRows change.Keep = Unit {0}
IsFewRows change.TakeBack = Unit {0}
IsFewRows (change.Put n) = (0 < n) × (n ≤ 2 ^ 40)

abbrev CountsFew : Action → Type 0
CountsFew (Leg to_end) = Unit {0}
CountsFew (AtRest effect) = IsFewRows effect.arming.count

target-few : (n : ℕ) → is_target n ≡ true → (0 < n) × (n ≤ 2 ^ 40)
target-few n is = let both = and_parts (nat_lt 0 n) (nat_le n (2 ^ 40)) is in (ltb-true 0 n both.0, leb-true n (2 ^ 40) both.1)

counts-few : (flow : List Operator) (one : Command) → action_fits flow (action_of one) ≡ true → CountsFew (action_of one)
counts-few flow command.Run fits = tt
counts-few flow command.End fits = tt
counts-few flow (command.Pause op n) fits = tt
counts-few flow (command.Count op n) fits = target-few n (and_parts (is_source (nth flow op)) (is_target n) fits).1
counts-few flow (command.When op cond) fits = tt
counts-few flow (command.Clear op) fits = tt
counts-few flow (command.Set op value) fits = tt
counts-few flow (command.Drop op worker) fits = tt
counts-few flow (command.Inspect op) fits = tt
counts-few flow (command.Lose op worker) fits = tt

below-put : (change : Change ℕ) (count : Option Target) (rows : ℕ) → IsFewRows change → IsBelow count rows → IsBelow (put (counting_since rows change) count) rows
below-put change.Keep count rows few below = below
below-put change.TakeBack count rows few below = tt
below-put (change.Put n) count rows few below = (record { since = omega arith; few = few.1 }, let some = few.0 in omega arith)

pub below-after : (flow : List Operator) (one : Command) (effect : Effect) (arms : List Asked) (d new : DataflowState) → action_of one ≡ AtRest effect → fits_of flow one ≡ true
    → HasOperator effect.op (length arms) → KeepUnits d new → AreBelow (counts_asked arms) d → AreBelow (counts_asked (arms_after effect (rows_emitted d effect.op) arms)) new
unfolding fits_of
below-after flow one effect arms d new is fits there keep below op =
    let few : IsFewRows effect.arming.count = subst CountsFew is (counts-few flow one fits) in
    let change = asked_changed effect.arming (rows_emitted d effect.op) in
    let later = arms_after effect (rows_emitted d effect.op) arms in
    let asked : IsBelow (count_at arms op) (rows_emitted d op) = subst (λ count. IsBelow count (rows_emitted d op)) (target-asked arms op) (below op) in
    subst (λ count. IsBelow count (rows_emitted new op)) (sym (target-asked later op))
    (subst (IsBelow (count_at later op)) (sym (rows-kept d new keep op))
    (elim (eqb_tells op effect.op) [
      | inl same ↦
          subst (λ k. IsBelow (count_at later k) (rows_emitted d k)) (sym same.1)
          (subst (λ count. IsBelow count (rows_emitted d effect.op)) (sym (ap (λ (a : Asked). a.count) (at-here no_asked change effect.op arms there.0 there.1)))
          (below-put effect.arming.count (count_at arms effect.op) (rows_emitted d effect.op) few (subst (λ k. IsBelow (count_at arms k) (rows_emitted d k)) same.1 asked)))
      | inr other ↦
          subst (λ count. IsBelow count (rows_emitted d op)) (sym (ap (λ found. (unwrap_or found no_asked).count) (nth-other change effect.op arms op other.1))) asked
    ]))
