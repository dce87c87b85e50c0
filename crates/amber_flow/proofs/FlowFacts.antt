-- The workflow that a JSON value means, and what is answered where there is none.
use Rattle.std.proofs.Common.{◌≡◌, ℕ, List, [], length, map, codes, ok_or, Result, Ok, Err, IsErrAnd, true, false, sym, subst}
use Rattle.std.proofs.lemmas.List.{length-map}
use Rattle.serde_json.specs.Data.{Data}
use Rattle.serde_json.specs.View.{view}
use Rattle.serde_json.specs.declared.value.Value.{Value}
use Rattle.amber_rows.specs.declared.flow.Operator.{Operator}
use Rattle.amber_rows.specs.Chain.{◌>>=◌}
use Rattle.amber_flow.specs.Answers.{AnswersFlow, RefusesAt, failure_at}
use Rattle.amber_flow.specs.Fields.{array_at}
use Rattle.amber_flow.specs.PartAnswers.{RefusesPart}
use Rattle.amber_flow.specs.Workflow.{check_whole, fault_at, flow_of, is_flow_length, operators_from}
use Rattle.amber_flow.specs.declared.error.Fault.{Fault}
use Rattle.amber_flow.specs.declared.error.FlowErr.{FlowErr}
use Rattle.amber_flow.specs.declared.error.FlowErr.TheVariants as flow_err
use Rattle.amber_flow.specs.declared.error.FlowWhy.{FlowWhy}
use Rattle.amber_flow.specs.declared.error.FlowWhy.TheVariants.{Count, Shape}
use Rattle.amber_flow.specs.declared.error.ReadErr.{ReadErr}
use Rattle.amber_flow.specs.declared.error.ReadErr.TheVariants as read_err
use Rattle.amber_flow.proofs.ReadFacts.{ok_or-none_at, ok_or-some}

pub flow-shape : (tree : Data) (why : FlowWhy) → Err why ≡ ok_or (array_at (codes "operators") tree) Shape → flow_of tree ≡ Err (fault_at 0 why)
unfolding flow_of
flow-shape tree why is =
    let none = ok_or-none_at (array_at (codes "operators") tree) Shape why is in
    rw (none.0, none.1)

pub flow-count : (tree : Data) (trees : List Value) → Ok (map view trees) ≡ ok_or (array_at (codes "operators") tree) Shape → false ≡ is_flow_length (length trees)
    → flow_of tree ≡ Err (fault_at 0 Count)
unfolding flow_of
flow-count tree trees at sized =
    let found = ok_or-some _ _ _ at in
    rw (found, length-map trees view, ← sized)

pub flow-read : (tree : Data) (trees : List Value) (read : Result (List Operator) Fault) → Ok (map view trees) ≡ ok_or (array_at (codes "operators") tree) Shape → true ≡ is_flow_length (length trees)
    → operators_from (length trees) [] (map view trees) ≡ read → (read >>= check_whole) ≡ flow_of tree
unfolding flow_of
flow-read tree trees read at sized is =
    let found = ok_or-some _ _ _ at in
    rw (found, length-map trees view, ← sized, is)

-- the failure of a part is that of the whole
pub refused-at : {A B : Type 0} (op : ℕ) (failure : ReadErr) (step : Result A FlowWhy) (meant : Result B Fault) → RefusesPart failure step → ((why : FlowWhy) → Err why ≡ step → meant ≡ Err (fault_at op why)) → RefusesAt (failure_at op failure) meant
refused-at op (read_err.Bad why) step meant is more = more why is
refused-at op read_err.NoMemory step meant is more = tt

pub whole-refused : (r : Result (List Operator) FlowErr) (fault : Fault) (meant : Result (List Operator) Fault) → IsErrAnd r (λ e. e ≡ flow_err.Bad fault.op fault.why) → meant ≡ Err fault → AnswersFlow r meant
whole-refused (Ok flow) fault meant failed is = absurd failed
whole-refused (Err e) fault meant failed is = subst (λ (e : FlowErr). AnswersFlow (Err e) meant) (sym failed) is

handed_at : (e : FlowErr) (step meant : Result (List Operator) Fault) → RefusesAt e step → ((fault : Fault) → step ≡ Err fault → meant ≡ Err fault) → AnswersFlow (Err e) meant
handed_at (flow_err.Bad op why) step meant is more = more (fault_at op why) is
handed_at flow_err.NoMemory step meant is more = tt

pub whole-handed_on : (r : Result (List Operator) FlowErr) (e : FlowErr) (step meant : Result (List Operator) Fault) → IsErrAnd r (λ y. y ≡ e) → RefusesAt e step → ((fault : Fault) → step ≡ Err fault → meant ≡ Err fault) → AnswersFlow r meant
whole-handed_on (Ok flow) e step meant failed is more = absurd failed
whole-handed_on (Err y) e step meant failed is more = subst (λ (e : FlowErr). AnswersFlow (Err e) meant) (sym failed) (handed_at e step meant is more)
