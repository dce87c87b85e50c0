-- What an inspection shows, and the answer in a state.
use Rattle.std.specs.Prelude.{ℕ, nat_lt, List, [], ◌∷◌, ◌++◌, length, map, take, option_map, if◌then◌else◌}
use Rattle.std.specs.List.{flat_map}
use Rattle.amber_meaning.specs.Kinds.{extra_of, keys_refused}
use Rattle.amber_rows.specs.Lists.{first_of}
use Rattle.amber_rows.specs.Topology.{workers_of}
use Rattle.amber_rows.specs.Columns.{columns_at}
use Rattle.amber_rows.specs.Order.{sort_rows}
use Rattle.amber_rows.specs.declared.value.Value.{Value}
use Rattle.amber_meaning.specs.declared.answer.Answer.{Answer}
use Rattle.amber_meaning.specs.declared.answer.Refusal.{Refusal}
use Rattle.amber_meaning.specs.declared.view.Counted.{Counted}
use Rattle.amber_meaning.specs.declared.view.Inspected.{Inspected}
use Rattle.amber_meaning.specs.declared.view.Stand.{Stand}
use Rattle.amber_meaning.specs.declared.view.Stand.TheVariants as stand
use Rattle.amber_meaning.specs.declared.view.WorkerView.{WorkerView}
use Rattle.amber_meaning.specs.Legal.{Query, role_in}
use Rattle.amber_meaning.specs.Refused.{refused_groups, refused_in}
use Rattle.amber_meaning.specs.Position.{Position, emitted_count, all_arrivals, pending_rows, rest_of}
use Rattle.amber_meaning.specs.Stops.{op_numbers}
use Rattle.amber_meaning.specs.State.{Counting, State, arms_at, counted_at, position_at}
use Rattle.amber_meaning.specs.Task.{Arrival, Role, rows_in}

-- ---- one worker

-- what a worker has taken of what it was handed
abbrev pub taken_of : Role → Position → List Arrival
taken_of role p = take (length p.constants) (all_arrivals role p.taken)

abbrev pub stand_of : Position → Stand
stand_of p = if p.finished then stand.Finished else (if p.restraint.held then stand.Held else stand.Ready)

unfoldable pub view_of : Role → Position → WorkerView
view_of role p = record {
  taken = length p.constants;
  rest = length (rest_of role p);
  out = emitted_count p.outcomes;
  pending = length (pending_rows role p);
  stand = stand_of p;
  next = first_of (pending_rows role p);
  extra = extra_of role.task role.task.kind (taken_of role p);
}

-- ---- one operator

abbrev pub counted_view : Query → State → ℕ → Counting → Counted
counted_view query state op counting = record { counted = counted_at query.flow state op counting; target = counting.target }

-- what an operator shows
unfoldable pub inspected_of : Query → State → ℕ → Inspected
inspected_of query state op = record {
  op = op;
  constant = first_of (arms_at state op).constants;
  pause = (arms_at state op).pause;
  count = option_map (counted_view query state op) (arms_at state op).count;
  when = (arms_at state op).when;
  workers = map (λ worker. view_of (role_in query worker) (position_at state.positions worker)) (workers_of query.flow op);
}

-- ---- the answer in a state

-- what the workers of an operator took, one worker after the other
unfoldable pub taken_by : Query → State → ℕ → List Arrival
taken_by query state op = flat_map (λ worker. taken_of (role_in query worker) (position_at state.positions worker)) (workers_of query.flow op)

abbrev pub worker_refuses : Role → Position → List (List Value)
worker_refuses role p = keys_refused role.task.kind role.task (taken_of role p)

-- a record put before the first with a greater number
unfoldable pub insert_numbered : Arrival → List Arrival → List Arrival
insert_numbered one [] = one ∷ []
insert_numbered one (other ∷ more) = if nat_lt other.from one.from then other ∷ insert_numbered one more else one ∷ other ∷ more

-- records in the order of their numbers
unfoldable pub by_number : List Arrival → List Arrival
by_number [] = []
by_number (one ∷ more) = insert_numbered one (by_number more)

-- what an operator has refused: a scan its records, by their numbers, a group its keys, in the order of rows
abbrev pub op_refuses : Query → State → ℕ → List Refusal
op_refuses query state op = refused_in op (by_number (taken_by query state op))
    ++ refused_groups op (flat_map (λ worker. worker_refuses (role_in query worker) (position_at state.positions worker)) (workers_of query.flow op))

-- what the sink's workers took, in the order of rows
abbrev pub sink_rows : Query → State → List (List Value)
sink_rows query state =
    sort_rows (flat_map (λ worker. rows_in (role_in query worker).task (taken_of (role_in query worker) (position_at state.positions worker)))
    (workers_of query.flow (length query.flow)))

-- the answer in a state: what the operators have refused, and the rows that the sink took, in their order
unfoldable pub answer_in : Query → State → Answer
answer_in query state = record {
  refused = flat_map (op_refuses query state) (op_numbers query.flow);
  columns = columns_at query.flow (length query.flow);
  rows = sink_rows query state;
}
