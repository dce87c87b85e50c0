-- The workers of a workflow. They have running numbers from 0: those of the first operator, then those of the second, and so on.
use Rattle.std.specs.Prelude.{ℕ, suc, ◌+◌, ◌-◌, ◌%◌, ◌==◌, ◌&&◌, ◌||◌, nat_lt, List, [], ◌∷◌, map, filter, take, sum_by, Option, Some, None, Bool, if◌then◌else◌}
use Rattle.std.specs.List.{list_any}
use Rattle.amber_rows.specs.Lists.{numbers_below, nth}
use Rattle.amber_rows.specs.Kinds.{inputs_of, is_keyed, side_keys}
use Rattle.amber_rows.specs.Routing.{key_bytes_of, route_of}
use Rattle.amber_rows.specs.declared.value.Value.{Value}
use Rattle.amber_rows.specs.declared.flow.What.{What}
use Rattle.amber_rows.specs.declared.flow.What.TheVariants as what
use Rattle.amber_rows.specs.declared.flow.Operator.{Operator}

-- ---- numbers

-- how many workers the operators have together
unfoldable pub crew_of : List Operator → ℕ
crew_of flow = sum_by (λ operator. operator.workers) flow

-- the first worker of an operator
unfoldable pub first_worker_of : List Operator → ℕ → ℕ
first_worker_of flow op = crew_of (take (op - 1) flow)

abbrev pub workers_in : Option Operator → ℕ
workers_in None = 0
workers_in (Some operator) = operator.workers

-- how many workers an operator has
abbrev pub worker_count : List Operator → ℕ → ℕ
worker_count flow op = workers_in (nth flow op)

-- the workers of an operator
unfoldable pub workers_of : List Operator → ℕ → List ℕ
workers_of flow op = map (λ place. first_worker_of flow op + place) (numbers_below (worker_count flow op))

-- the operator of a worker
unfoldable pub op_of : List Operator → ℕ → ℕ
op_of [] worker = 1
op_of (operator ∷ more) worker = if nat_lt worker operator.workers then 1 else suc (op_of more (worker - operator.workers))

-- ---- who sends to whom

-- whether an operator of this kind reads from the operator with this number
abbrev pub reads : What → ℕ → Bool
reads kind op = list_any (λ input. input == op) (inputs_of kind)

-- the operator, of those from this number on, that reads from this one; 0 where there is none
unfoldable pub reader_from : ℕ → List Operator → ℕ → ℕ
reader_from number [] op = 0
reader_from number (operator ∷ more) op = if reads operator.what op then number else reader_from (number + 1) more op

-- the operator that reads from this one
abbrev pub reader_of : List Operator → ℕ → ℕ
reader_of flow op = reader_from 1 flow op

-- what an operator does; a sink of nothing where there is no such operator
abbrev pub kind_at : Option Operator → What
kind_at None = what.Sink 0
kind_at (Some operator) = operator.what

abbrev pub what_at : List Operator → ℕ → What
what_at flow op = kind_at (nth flow op)

-- of the workers of the reader, the one that follows this sender
unfoldable pub follower_of : List Operator → ℕ → ℕ
follower_of flow sender =
    let op = op_of flow sender in
    let reader = reader_of flow op in
    first_worker_of flow reader + (sender - first_worker_of flow op) % worker_count flow reader

-- the worker that a row goes to by its key
unfoldable pub keyed_receiver_of : List Operator → ℕ → List Value → ℕ
keyed_receiver_of flow sender row =
    let op = op_of flow sender in
    let reader = reader_of flow op in
    first_worker_of flow reader + route_of (key_bytes_of (side_keys (what_at flow reader) op) row) (worker_count flow reader)

-- the worker to which a sender gives a row
unfoldable pub receiver_of : List Operator → ℕ → List Value → ℕ
receiver_of flow sender row =
    if is_keyed (what_at flow (reader_of flow (op_of flow sender))) then keyed_receiver_of flow sender row else follower_of flow sender

-- whether one worker sends to another
unfoldable pub sends_to : List Operator → ℕ → ℕ → Bool
sends_to flow sender worker =
    let kind = what_at flow (op_of flow worker) in
    reads kind (op_of flow sender) && (is_keyed kind || (follower_of flow sender == worker))

-- the workers that send to this one, by rising numbers
unfoldable pub senders_of : List Operator → ℕ → List ℕ
senders_of flow worker = filter (λ sender. sends_to flow sender worker) (numbers_below (crew_of flow))

-- the workers to which this one sends, by rising numbers
unfoldable pub receivers_of : List Operator → ℕ → List ℕ
receivers_of flow worker = filter (λ receiver. sends_to flow worker receiver) (numbers_below (crew_of flow))
