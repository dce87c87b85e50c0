-- What a new worker is made of.
use Rattle.std.specs.Prelude.{◌≡◌, ℕ, ◌==◌, ◌<◌, All, List, [], length, map, Option, Some, None, Bool, is_some, false, if◌then◌else◌}
use Rattle.amber_rows.specs.Topology.{op_of, receiver_of, receivers_of, senders_of, what_at}
use Rattle.amber_rows.specs.declared.value.Value.{Value}
use Rattle.amber_rows.specs.Kinds.{build_input}
use Rattle.amber_rows.specs.declared.flow.Operator.{Operator}
use Rattle.amber_rows.specs.declared.flow.What.{What}
use Rattle.amber_meaning.specs.Plan.{arrival_columns, built_columns}
use Rattle.amber_meaning.specs.Position.{no_restraint}
use Rattle.amber_scan.specs.Shares.{ShareState}
use Rattle.rtrb.specs.Ring.{received, sent}
use Rattle.amber_link.specs.Links.{waiting}
use Rattle.amber_link.specs.declared.ends.Out.{Out}
use Rattle.amber_link.specs.declared.ends.In.{In}
use Rattle.amber_link.specs.declared.upstreams.Upstream.{Upstream}
use Rattle.amber_link.specs.declared.downstreams.Downstream.{Downstream}
use Rattle.amber_link.specs.Sides.{without_room}
use Rattle.amber_worker.specs.Links.{IsSoundRoute, number_to}
use Rattle.amber_worker.specs.Fields.{WorkerFields}
use Rattle.amber_operators.specs.Handed.{rest_in}
use Rattle.amber_worker.specs.WorkerState.{WorkerState, empty_worker_state}
use Rattle.amber_worker.specs.declared.new_worker.WorkerEnds.{WorkerEnds}
use Rattle.amber_worker.specs.declared.new_worker.WorkerTask.{WorkerTask}
use Rattle.amber_operators.specs.States.{IsOperatorStateOf}

-- whether an operator of this kind has a build side
abbrev pub has_build_side : What → Bool
has_build_side kind = is_some (build_input kind)

-- an operator is this input, if there is one
abbrev pub is_input : Option ℕ → ℕ → Bool
is_input None op = false
is_input (Some input) op = op == input

-- the numbers of ends, one by one
abbrev pub from_of : Upstream → ℕ
from_of one = one.from

abbrev pub to_of : Downstream → ℕ
to_of one = one.to

-- the end of a sender's link, and of a receiver's whatever room there is
abbrev pub end_of : Upstream → In
end_of one = one.link

abbrev pub roomless : Out → Out
roomless out = record out { kept = record out.kept { room = 0 } }

abbrev pub out_of : Downstream → Out
out_of one = one.link

abbrev pub link_of : Downstream → Out
link_of one = roomless one.link

-- an end of a link through which nothing went: of which nothing was taken, and into which nothing was pushed
abbrev pub IsFreshIn : In → Type 0
IsFreshIn into = (received into.ring ≡ []) × (waiting into ≡ [])

abbrev pub IsFreshOut : ℕ → Out → Type 0
IsFreshOut batch_size out = (sent out.ring ≡ []) × (out.kept ≡ record { batch_size = batch_size; made = 0; ended = false; waiting = []; partial = []; room = out.kept.room })

-- whether a worker is of the build side of what an operator of this kind does
abbrev pub builds_for : List Operator → What → ℕ → Bool
builds_for flow kind sender = is_input (build_input kind) (op_of flow sender)

-- a sender of whom nothing was taken
abbrev pub IsFreshSender : List Operator → What → Upstream → Type 0
IsFreshSender flow kind one = (one.taken ≡ 0) × (one.ended ≡ false) × (one.builds ≡ builds_for flow kind one.from)

abbrev pub AreFreshSenders : List Operator → What → List Upstream → Type 0
AreFreshSenders flow kind ins = All (IsFreshSender flow kind) ins

-- what a new worker is made of: its workflow, its own running number, the rows of a batch, and its share
pub record NewWorker : Type 0 where
  pub flow : List Operator
  pub number : ℕ
  pub batch_size : ℕ
  pub share : Option ShareState

-- a worker that has done nothing
pub record IsFresh (new : NewWorker) (w : WorkerState) : Type 0 where
  pub op : w.op ≡ op_of new.flow new.number
  pub number : w.number ≡ new.number
  pub does : IsOperatorStateOf w.operator_state (what_at new.flow (op_of new.flow new.number))
  pub columns : w.columns ≡ arrival_columns new.flow (op_of new.flow new.number) (what_at new.flow (op_of new.flow new.number))
  pub build_columns : w.build_columns ≡ built_columns new.flow (what_at new.flow (op_of new.flow new.number))
  pub building : w.building ≡ has_build_side (what_at new.flow (op_of new.flow new.number))
  pub rest : w.rest ≡ rest_in new.share 0 []
  pub pending : w.pending ≡ []
  pub taken : w.taken ≡ 0
  pub emitted : w.emitted ≡ 0
  pub batches : w.batches ≡ 0
  pub refused : w.refused ≡ []
  pub kept : w.kept ≡ []
  pub when : w.when ≡ None
  pub seat : w.seat ≡ None
  pub restraint : w.restraint ≡ no_restraint
  pub finished : w.finished ≡ false
  pub senders : map from_of w.ins ≡ senders_of new.flow new.number
  pub ins : AreFreshSenders new.flow (what_at new.flow (op_of new.flow new.number)) w.ins
  pub in_ends : All (λ one. IsFreshIn one.link) w.ins
  pub receivers : map to_of w.outs ≡ receivers_of new.flow new.number
  pub out_ends : All (λ one. IsFreshOut new.batch_size one.link) w.outs
  pub route : (row : List Value) → 0 < length (receivers_of new.flow new.number) → number_to w.route row ≡ receiver_of new.flow new.number row
  pub journal : w.journal ≡ []

-- what a worker does before it was handed anything, and to whom its rows go
pub record IsTaskOf (flow : List Operator) (worker : ℕ) (task : WorkerTask) : Type 0 where
  pub op : task.op ≡ op_of flow worker
  pub does : IsOperatorStateOf task.operator_state (what_at flow (op_of flow worker))
  pub columns : task.columns ≡ arrival_columns flow (op_of flow worker) (what_at flow (op_of flow worker))
  pub build_columns : task.build_columns ≡ built_columns flow (what_at flow (op_of flow worker))
  pub building : task.building ≡ has_build_side (what_at flow (op_of flow worker))
  pub route : (row : List Value) → 0 < length (receivers_of flow worker) → number_to task.route row ≡ receiver_of flow worker row
  pub sound : IsSoundRoute task.route

-- its ends have the numbers of its senders and of its receivers, and of no sender anything was taken
pub record AreNumbered (flow : List Operator) (worker : ℕ) (ends : WorkerEnds) : Type 0 where
  pub senders : map from_of ends.ins.items ≡ senders_of flow worker
  pub fresh : AreFreshSenders flow (what_at flow (op_of flow worker)) ends.ins.items
  pub receivers : map to_of ends.outs.items ≡ receivers_of flow worker

-- the bounded fields of a worker of this share, task and ends that has done nothing
abbrev pub fresh_fields : Option ShareState → WorkerTask → WorkerEnds → WorkerFields
fresh_fields share task ends = record {
  operator_state = task.operator_state;
  columns = if task.building then task.build_columns else task.columns;
  building = task.building;
  share = share;
  taken = 0;
  emitted = 0;
  batches = 0;
  paused = false;
  finished = false;
  ins = ends.ins.items;
  outs = ends.outs.items;
  route = task.route;
  journal = [];
}

-- a worker of this number, share, task and ends that has done nothing
abbrev pub fresh_worker : ℕ → Option ShareState → WorkerTask → WorkerEnds → WorkerState
fresh_worker number share task ends = record empty_worker_state {
  op = task.op;
  number = number;
  operator_state = task.operator_state;
  columns = task.columns;
  build_columns = task.build_columns;
  building = task.building;
  rest = rest_in share 0 [];
  ins = ends.ins.items;
  outs = map without_room ends.outs.items;
  route = task.route;
}
