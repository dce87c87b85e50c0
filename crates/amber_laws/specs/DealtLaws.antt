-- The step total against the rows of each operator.
use Rattle.std.specs.Prelude.{◌≡◌, ℕ, ◌<◌, ◌≤◌, List, [], length, sum_by, if◌then◌else◌}
use Rattle.std.specs.List.{flat_map}
use Rattle.amber_rows.specs.Topology.{what_at, workers_of}
use Rattle.amber_rows.specs.FlowRules.{IsFlow}
use Rattle.amber_rows.specs.Kinds.{inputs_of, is_scan}
use Rattle.amber_rows.specs.Order.{SameBag}
use Rattle.amber_rows.specs.declared.value.Value.{Value}
use Rattle.amber_rows.specs.declared.flow.Operator.{Operator}
use Rattle.amber_meaning.specs.Legal.{Query, query_over}
use Rattle.amber_meaning.specs.Plain.{outputs, records_of}
use Rattle.amber_rows.specs.Lists.{list_at}
use Rattle.amber_meaning.specs.Stops.{op_numbers}
use Rattle.amber_meaning.specs.Total.{dealt_to, total_arrivals, step_total, work_of}

-- the rows of an operator in the sequential answer
abbrev pub operator_rows : List Operator → List (List ℕ) → ℕ → List (List Value)
operator_rows flow files op = list_at (outputs (records_of files flow) [] flow) op

-- how many rows come into an operator: a scan's records, else the rows of its inputs
abbrev pub rows_into : List Operator → List (List ℕ) → ℕ → ℕ
rows_into flow files op =
    if is_scan (what_at flow op) then length (list_at (records_of files flow) op)
    else sum_by (λ input. length (operator_rows flow files input)) (inputs_of (what_at flow op))

-- the rows that an operator's workers are dealt together are the operator's rows, in some order; the sink's workers give none
abbrev pub DealtRowsAreTheOperators : Type 0
DealtRowsAreTheOperators = (flow : List Operator) (files : List (List ℕ)) (batch_size most op : ℕ) → IsFlow flow → 0 < op → op < length flow
    → SameBag (flat_map (dealt_to (query_over flow files batch_size most)) (workers_of flow op)) (operator_rows flow files op)

-- and those that they take together are as many as come into it
abbrev pub TakenRowsComeIn : Type 0
TakenRowsComeIn = (flow : List Operator) (files : List (List ℕ)) (batch_size most op : ℕ) → IsFlow flow → 0 < op → op ≤ length flow
    → sum_by (λ worker. length (total_arrivals (query_over flow files batch_size most) (dealt_to (query_over flow files batch_size most)) worker)) (workers_of flow op) ≡ rows_into flow files op

-- the steps of a query are those of its operators' workers, operator by operator
abbrev pub TotalIsByOperator : Type 0
TotalIsByOperator = (query : Query) → step_total query ≡ sum_by (λ op. sum_by (work_of query) (workers_of query.flow op)) (op_numbers query.flow)
