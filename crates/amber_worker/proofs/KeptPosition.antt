-- First facts on where a worker stands.
use Rattle.std.proofs.Common.{◌≡◌, Bool, true, false, if◌then◌else◌, List, [], ◌++◌, map, refl, ap, ◌∙◌}
use Rattle.amber_rows.specs.declared.value.Value.{Value}
use Rattle.amber_rows.specs.declared.flow.What.{What}
use Rattle.amber_rows.specs.declared.flow.What.TheVariants as what
use Rattle.amber_meaning.specs.Task.{Arrival, Role, Task, rows_in}
use Rattle.amber_meaning.specs.Kinds.{keys_refused}
use Rattle.amber_operators.specs.Kept.{IsRefused}
use Rattle.amber_operators.specs.Kept.{KeepsRows}
use Rattle.amber_operators.specs.States.{DoesKind}
use Rattle.amber_worker.specs.AtPosition.{IsGivenOf, KeepsUnder}
use Rattle.amber_worker.specs.WorkerState.{WorkerState}
use Rattle.amber_worker.specs.declared.given.Given.{Given}
use Rattle.amber_rows.specs.Order.{sort_rows}
use Rattle.amber_meaning.specs.declared.answer.Refusal.TheVariants as refusal
use Rattle.amber_meaning.specs.Given.{worker_refusals}
use Rattle.amber_meaning.specs.Refused.{refused_groups, refused_in}
use Rattle.amber_meaning.specs.Views.{by_number, taken_of}
use Rattle.amber_worker.proofs.Refusals.{refused-numbered}
use Rattle.amber_worker.specs.Steps.{AreKeysOf}
use Rattle.amber_operators.specs.declared.operator_state.OperatorState.{OperatorState}
use Rattle.amber_operators.specs.declared.operator_state.OperatorState.TheVariants as operator_state

-- a worker that nothing happened to stands where it stood
pub Keeps-refl : (counted : Bool) (w : WorkerState) → KeepsUnder counted w w
unfolding KeepsUnder
Keeps-refl counted w context start p armed stands = (p, stands)

-- and so does one to which one thing happened, and then another
pub Keeps-then : (counted : Bool) (a b c : WorkerState) → KeepsUnder counted a b → KeepsUnder counted b c → KeepsUnder counted a c
unfolding KeepsUnder
Keeps-then counted a b c one two context start p armed stands =
    let first = one context start p armed stands in
    two context start first.0 armed first.1

-- the keys that a worker has refused are those of the rows that it took
keys-are : (d : OperatorState) (kind : What) (constants : List Value) (role : Role) (task : Task) (arrivals : List Arrival) (keys : List (List Value))
    → DoesKind d kind constants role → KeepsRows d task arrivals → IsRefused d keys → keys ≡ keys_refused kind task arrivals
keys-are operator_state.Scan (what.Scan file) constants role task arrivals keys does has refused = refused
keys-are (operator_state.Filter cond) (what.Filter input own) constants role task arrivals keys does has refused = refused
keys-are (operator_state.Project from) (what.Project input columns) constants role task arrivals keys does has refused = refused
keys-are (operator_state.Join state) (what.Join build probe build_keys probe_keys) constants role task arrivals keys does has refused = refused
keys-are (operator_state.Group state) (what.Group input own aggs) constants role task arrivals keys does has refused = refused (rows_in task arrivals) has ∙ rw (does.0, does.1) refl
keys-are operator_state.Sink (what.Sink input) constants role task arrivals keys does has refused = refused
keys-are d kind constants role task arrivals keys does has refused = absurd does

keys-given : (finished : Bool) (d : OperatorState) (kind : What) (constants : List Value) (role : Role) (task : Task) (arrivals : List Arrival) (keys : List (List Value))
    → DoesKind d kind constants role → KeepsRows d task arrivals → AreKeysOf finished d keys → keys ≡ (if finished then keys_refused kind task arrivals else [])
keys-given true d kind constants role task arrivals keys does has are = keys-are d kind constants role task arrivals keys does has are
keys-given false d kind constants role task arrivals keys does has are = are

-- what a worker hands out is what it gives in its position
pub given-is : (w : WorkerState) (given : Given) (keys : List (List Value)) → AreKeysOf w.finished w.operator_state keys
    → given.refused ≡ w.refused ++ map (refusal.Group w.op) (sort_rows keys) → given.rows ≡ sort_rows w.kept → IsGivenOf w given
unfolding IsGivenOf worker_refusals
given-is w given keys are refused rows context p numbered shows =
    let role = context.placement.role in
    let own = keys-given w.finished w.operator_state role.task.kind context.orders.constants role role.task (taken_of role p) keys shows.operator_state shows.state are in
    let same : refused_in context.placement.op (taken_of role p) ≡ refused_in context.placement.op (by_number (taken_of role p)) = refused-numbered context.placement.op role p numbered in (
      refused ∙ ap (λ l. l ++ map (refusal.Group w.op) (sort_rows keys)) (shows.refused ∙ same)
          ∙ ap (λ op. refused_in context.placement.op (by_number (taken_of role p)) ++ map (refusal.Group op) (sort_rows keys)) shows.op
          ∙ ap (λ l. refused_in context.placement.op (by_number (taken_of role p)) ++ refused_groups context.placement.op l) own
          ∙ ap (λ b. refused_in context.placement.op (by_number (taken_of role p)) ++ refused_groups context.placement.op (if b then keys_refused role.task.kind role.task (taken_of role p) else [])) shows.finished,
      rows ∙ ap sort_rows shows.kept,
    )
