-- What the workers of an operator give back: what they refused, and the rows of the sink.
use Rattle.std.specs.Prelude.{◌≡◌, ℕ, List, [], ◌∷◌, ◌++◌, true, if◌then◌else◌}
use Rattle.std.specs.List.{flat_map, list_all}
use Rattle.amber_rows.specs.Topology.{workers_of}
use Rattle.amber_rows.specs.Order.{sort_rows}
use Rattle.amber_rows.specs.declared.value.Value.{Value}
use Rattle.amber_meaning.specs.declared.answer.Refusal.{Refusal}
use Rattle.amber_meaning.specs.Legal.{Query, role_in}
use Rattle.amber_meaning.specs.Refused.{refused_groups, refused_in}
use Rattle.amber_meaning.specs.Position.{Position}
use Rattle.amber_meaning.specs.State.{State, position_at}
use Rattle.amber_meaning.specs.Task.{Role}
use Rattle.amber_meaning.specs.Views.{by_number, op_refuses, taken_by, taken_of, worker_refuses}

-- the keys of a worker's groups that have no row, once the worker has finished; none before
abbrev pub keys_given : Role → Position → List (List Value)
keys_given role p = if p.finished then worker_refuses role p else []

-- what one worker of an operator has refused: a scan's of the records that it took those with a fault, by their numbers, a finished
-- group's its keys without a row, in the order of rows
unfoldable pub worker_refusals : ℕ → Role → Position → List Refusal
worker_refusals op role p = refused_in op (by_number (taken_of role p)) ++ refused_groups op (keys_given role p)

-- the same of all workers of an operator together: records by their numbers over all workers, and keys in the order of rows over all
-- workers that have finished
unfoldable pub operator_refusals : Query → State → ℕ → List Refusal
operator_refusals query state op =
    refused_in op (by_number (taken_by query state op))
    ++ refused_groups op (flat_map (λ worker. keys_given (role_in query worker) (position_at state.positions worker)) (workers_of query.flow op))

-- ---- laws

-- of an operator with one worker they are that worker's
abbrev pub OneWorkerRefusesAlone : Type 0
OneWorkerRefusesAlone = (query : Query) (state : State) (op worker : ℕ) → workers_of query.flow op ≡ worker ∷ []
    → operator_refusals query state op ≡ worker_refusals op (role_in query worker) (position_at state.positions worker)

-- once all workers of an operator have finished they are what the answer says of it
abbrev pub FinishedOperatorsRefuse : Type 0
FinishedOperatorsRefuse = (query : Query) (state : State) (op : ℕ)
    → list_all (λ worker. (position_at state.positions worker).finished) (workers_of query.flow op) ≡ true → operator_refusals query state op ≡ op_refuses query state op

-- keys that each worker has put into order already may be put together, and into order again
abbrev pub KeysMayBeSorted : Type 0
KeysMayBeSorted = (op : ℕ) (keys : ℕ → List (List Value)) (workers : List ℕ)
    → refused_groups op (flat_map (λ worker. sort_rows (keys worker)) workers) ≡ refused_groups op (flat_map keys workers)
