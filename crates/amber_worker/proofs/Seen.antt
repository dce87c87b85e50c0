-- What a worker shows is what is said of its position.
use Rattle.std.proofs.Common.{◌≡◌, ℕ, List, [], ◌∷◌, length, Result, Ok, Err, refl, ap, ◌∙◌, arith, length-append}
use Rattle.amber_rows.specs.declared.value.Value.{Value}
use Rattle.amber_rows.specs.declared.record.RowFault.{RowFault}
use Rattle.amber_rows.specs.declared.flow.What.{What}
use Rattle.amber_rows.specs.declared.flow.What.TheVariants as what
use Rattle.amber_meaning.specs.Task.{Arrival, Role, Task, rows_in}
use Rattle.amber_meaning.specs.Views.{taken_of, view_of}
use Rattle.amber_meaning.specs.Kinds.{extra_of, kept_rows}
use Rattle.amber_meaning.specs.Refused.{refusal_in, refused_in}
use Rattle.amber_rows.specs.Lists.{first_of}
use Rattle.amber_meaning.specs.declared.answer.Refusal.{Refusal}
use Rattle.amber_meaning.specs.declared.view.Extra.{Extra}
use Rattle.amber_meaning.specs.declared.view.Extra.TheVariants as extra
use Rattle.amber_meaning.specs.declared.view.WorkerView.{WorkerView}
use Rattle.amber_operators.specs.Kept.{KeepsRows}
use Rattle.amber_operators.specs.States.{DoesKind, IsExtra}
use Rattle.amber_worker.specs.AtPosition.{IsViewOf}
use Rattle.amber_worker.specs.WorkerState.{WorkerState}
use Rattle.amber_worker.specs.Steps.{IsShown}
use Rattle.amber_operators.specs.declared.operator_state.OperatorState.{OperatorState}
use Rattle.amber_operators.specs.declared.operator_state.OperatorState.TheVariants as operator_state

-- as many refusals, whichever operator they are named for
length-refused : (a b : ℕ) (arrivals : List Arrival) → length (refused_in a arrivals) ≡ length (refused_in b arrivals)
length-refused a b [] = refl
length-refused a b (one ∷ more) =
    let rest = length-refused a b more in
    let here = same one.what in
    omega (arith, length-append (refusal_in a one.from one.what) (refused_in a more), length-append (refusal_in b one.from one.what) (refused_in b more))
  where
    same : (r : Result (List Value) RowFault) → length (refusal_in a one.from r) ≡ length (refusal_in b one.from r)
    same (Ok row) = refl
    same (Err why) = refl

extra-is : (d : OperatorState) (kind : What) (constants : List Value) (role : Role) (task : Task) (op : ℕ) (arrivals : List Arrival) (refused : List Refusal) (keep : List (List Value)) (shown : Extra)
    → DoesKind d kind constants role → KeepsRows d task arrivals → refused ≡ refused_in op arrivals → keep ≡ kept_rows kind task arrivals
    → IsExtra d (length refused) (length keep) shown → shown ≡ extra_of task kind arrivals
extra-is operator_state.Scan (what.Scan file) constants role task op arrivals refused keep shown does has refused_is kept_is is =
    is ∙ ap extra.Scan (ap length refused_is ∙ length-refused op 0 arrivals)
extra-is (operator_state.Filter cond) (what.Filter input own) constants role task op arrivals refused keep shown does has refused_is kept_is is = is
extra-is (operator_state.Project columns) (what.Project input own) constants role task op arrivals refused keep shown does has refused_is kept_is is = is
extra-is (operator_state.Join state) (what.Join build probe build_keys probe_keys) constants role task op arrivals refused keep shown does has refused_is kept_is is =
    is ∙ rw (does.0, has) refl
extra-is (operator_state.Group state) (what.Group input keys aggs) constants role task op arrivals refused keep shown does has refused_is kept_is is =
    is (rows_in task arrivals) has ∙ rw does.0 refl
extra-is operator_state.Sink (what.Sink input) constants role task op arrivals refused keep shown does has refused_is kept_is is = is ∙ ap extra.Sink (ap length kept_is)
extra-is d kind constants role task op arrivals refused keep shown does has refused_is kept_is is = absurd does

same-view : (a b : WorkerView) → a.taken ≡ b.taken → a.rest ≡ b.rest → a.out ≡ b.out → a.pending ≡ b.pending → a.stand ≡ b.stand → a.next ≡ b.next → a.extra ≡ b.extra → a ≡ b
same-view a b taken rest out pending stand next extra =
    λ i. record { taken = taken i; rest = rest i; out = out i; pending = pending i; stand = stand i; next = next i; extra = extra i }

-- what a worker keeps shows what is said of each position that it shows
pub view-is : (w : WorkerState) (view : WorkerView) → IsShown w view → IsViewOf w view
unfolding IsViewOf view_of
view-is w view is context p shows =
    same-view view (view_of context.placement.role p) (is.taken ∙ shows.taken) (is.rest ∙ ap length shows.rest) (is.out ∙ shows.emitted) (is.pending ∙ ap length shows.pending)
    (is.stand ∙ rw (shows.finished, shows.restraint) refl)
    (is.next ∙ ap first_of shows.pending)
    (extra-is w.operator_state context.placement.role.task.kind context.orders.constants context.placement.role context.placement.role.task context.placement.op (taken_of context.placement.role p) w.refused w.kept view.extra shows.operator_state shows.state
    shows.refused shows.kept is.extra)
