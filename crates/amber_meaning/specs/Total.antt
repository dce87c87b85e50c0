-- The rows that each worker is dealt, and the steps of a whole query.
use Rattle.std.specs.Prelude.{ℕ, zero, suc, ◌+◌, ◌/◌, ◌==◌, List, [], ◌∷◌, ◌++◌, length, map, filter, sum_by, Ok}
use Rattle.std.specs.List.{flat_map}
use Rattle.amber_rows.specs.Lists.{numbers_below, list_at}
use Rattle.amber_rows.specs.Topology.{crew_of, receiver_of}
use Rattle.amber_rows.specs.declared.value.Value.{Value}
use Rattle.amber_meaning.specs.Legal.{Query, role_in}
use Rattle.amber_meaning.specs.Position.{share_or}
use Rattle.amber_meaning.specs.Task.{Arrival, Task}
use Rattle.amber_meaning.specs.Produce.{closing, yields}

-- rows as they come from a sender
abbrev pub arrivals_from : ℕ → List (List Value) → List Arrival
arrivals_from sender rows = map (λ row. record { from = sender; what = Ok row }) rows

-- the rows that a sender was dealt and that go to this receiver
abbrev pub dealt_stream : Query → (ℕ → List (List Value)) → ℕ → ℕ → List (List Value)
dealt_stream query dealt receiver sender = filter (λ row. receiver_of query.flow sender row == receiver) (dealt sender)

-- what a worker is handed in all: a scan its share, others what their senders give them, one sender after the other
unfoldable pub total_arrivals : Query → (ℕ → List (List Value)) → ℕ → List Arrival
total_arrivals query dealt worker =
    let role = role_in query worker in
    share_or role.task.kind role.share (flat_map (λ sender. arrivals_from sender (dealt_stream query dealt worker sender)) role.senders)

abbrev pub task_constants : Task → List Value
task_constants task = []

-- what a worker gives in all, that was handed all of this
unfoldable pub gives : Task → List Arrival → List (List Value)
gives task arrivals = flat_map (λ one. yields task arrivals one (task_constants task)) arrivals ++ closing task arrivals

-- what the first workers give, in order of their numbers
unfoldable pub dealt_by : Query → ℕ → List (List (List Value))
dealt_by query zero = []
dealt_by query (suc worker) =
    let before = dealt_by query worker in
    before ++ gives (role_in query worker).task (total_arrivals query (λ sender. list_at before (sender + 1)) worker) ∷ []

-- what a worker gives
unfoldable pub dealt_to : Query → ℕ → List (List Value)
dealt_to query worker = list_at (dealt_by query (crew_of query.flow)) (worker + 1)

-- the steps of a worker: the rows that it takes, those that it gives, a batch more than the full ones from each sender, and the end
unfoldable pub work_of : Query → ℕ → ℕ
work_of query worker =
    length (total_arrivals query (dealt_to query) worker) + length (dealt_to query worker)
    + sum_by (λ sender. length (dealt_stream query (dealt_to query) worker sender) / query.batch_size + 1) (role_in query worker).senders + 1

-- the steps of a query
unfoldable pub step_total : Query → ℕ
step_total query = sum_by (work_of query) (numbers_below (crew_of query.flow))
