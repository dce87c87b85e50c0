-- Where a worker stands: the position that it shows, and that its journal leads there.
use Rattle.std.specs.Prelude.{◌≡◌, ℕ, ◌==◌, ◌<◌, ◌≤◌, List, [], ◌∷◌, length, map, filter, take, All, Option, Some, None, Result, Bool, true, false}
use Rattle.std.specs.List.{list_any}
use Rattle.amber_meaning.specs.Kinds.{kept_rows}
use Rattle.amber_rows.specs.Topology.{op_of, receiver_of, receivers_of, what_at}
use Rattle.amber_rows.specs.Order.{sort_rows}
use Rattle.amber_rows.specs.declared.value.Value.{Value}
use Rattle.amber_rows.specs.declared.batch.Batch.{Batch}
use Rattle.amber_rows.specs.declared.record.RowFault.{RowFault}
use Rattle.amber_rows.specs.declared.flow.Operator.{Operator}
use Rattle.amber_log.specs.Grammar.{AreEntries}
use Rattle.amber_meaning.specs.Plan.{role_of}
use Rattle.amber_meaning.specs.Position.{Position, Taken, emitted_count, emitted_rows, all_arrivals, has_last, pending_rows, produced_rows, rest_of, taken_from}
use Rattle.amber_meaning.specs.Rules.{Leads, Orders, assigned}
use Rattle.amber_meaning.specs.State.{first_constants}
use Rattle.amber_meaning.specs.Task.{Role, is_builder}
use Rattle.amber_meaning.specs.Refused.{refused_in}
use Rattle.amber_meaning.specs.Given.{worker_refusals}
use Rattle.amber_meaning.specs.Views.{by_number, taken_of, view_of}
use Rattle.amber_meaning.specs.declared.view.WorkerView.{WorkerView}
use Rattle.amber_scan.specs.Shares.{ShareState}
use Rattle.amber_link.specs.Links.{HasGiven, OutCarries}
use Rattle.amber_link.specs.Sides.{AreLooked, AreSameReceivers, AreSameSenders}
use Rattle.amber_link.specs.declared.upstreams.Upstream.{Upstream}
use Rattle.amber_link.specs.declared.downstreams.Downstream.{Downstream}
use Rattle.amber_operators.specs.Handed.{arrival_of}
use Rattle.amber_worker.specs.Links.{number_to}
use Rattle.amber_worker.specs.WorkerState.{WorkerState}
use Rattle.amber_worker.specs.declared.given.Given.{Given}
use Rattle.amber_operators.specs.Kept.{KeepsRows}
use Rattle.amber_operators.specs.States.{DoesKind}

-- ---- a worker's place in a run

-- its operator, its own running number, its role, its receivers and to which of them a row goes, and the rows of a batch
pub record Placement : Type 0 where
  pub op : ℕ
  pub number : ℕ
  pub role : Role
  pub receivers : List ℕ
  pub route : List Value → ℕ
  pub batch_size : ℕ

-- the place of a workflow's worker, from the typed records of the scans
unfoldable pub placement_of : List Operator → List (List (Result (List Value) RowFault)) → ℕ → ℕ → Placement
placement_of flow records batch_size worker = record {
  op = op_of flow worker;
  number = worker;
  role = role_of flow records worker;
  receivers = receivers_of flow worker;
  route = receiver_of flow worker;
  batch_size = batch_size;
}

-- the orders of a workflow's worker before any command
unfoldable pub first_orders : List Operator → ℕ → Orders
first_orders flow worker = record { constants = first_constants (what_at flow (op_of flow worker)); when = None; counted = false }

-- a worker of a scan was given its share
abbrev pub HasShare : Option ShareState → Role → Type 0
HasShare None role = Unit {0}
HasShare (Some share) role = map arrival_of share.left ≡ role.share

-- ---- the parts of a worker

-- the batches that went through earlier links: by the number of the sender those that had come, by that of the receiver those that
-- were sent
pub record Base : Type 0 where
  pub had : ℕ → List Batch
  pub gave : ℕ → List Batch

-- none did
abbrev pub no_base : Base
no_base = record { had = λ sender. []; gave = λ receiver. [] }

-- what a worker's position is seen against: its place in a run, the orders it is under, and what went through earlier links
pub record Context : Type 0 where
  pub placement : Placement
  pub orders : Orders
  pub base : Base

-- that of a workflow's worker before any command, where nothing went through earlier links
abbrev pub first_context : List Operator → List (List (Result (List Value) RowFault)) → ℕ → ℕ → Context
first_context flow records batch_size worker = record { placement = placement_of flow records batch_size worker; orders = first_orders flow worker; base = no_base }

-- what is kept of a sender: how many of its batches were taken, whether the last was, and that those that have come are those taken
-- and those that wait
pub record Receives (sender : ℕ) (had : List Batch) (batches : List Taken) (one : Upstream) : Type 0 where
  pub from : one.from ≡ sender
  pub taken : one.taken ≡ length (taken_from batches sender)
  pub ended : one.ended ≡ has_last batches sender
  pub come : HasGiven one.link had (taken_from batches sender)

-- the same for each sender, none of whom is there twice
unfoldable pub ReceiveAll : List ℕ → (ℕ → List Batch) → List Taken → List Upstream → Type 0
ReceiveAll [] had batches [] = Unit {0}
ReceiveAll [] had batches (one ∷ more) = ⊥
ReceiveAll (sender ∷ senders) had batches [] = ⊥
ReceiveAll (sender ∷ senders) had batches (one ∷ more) =
    Receives sender (had sender) batches one × (list_any (λ other. other == sender) senders ≡ false) × ReceiveAll senders had batches more

-- the rows that go to a receiver
abbrev pub stream_to : Placement → ℕ → List (List Value) → List (List Value)
stream_to placement receiver rows = filter (λ row. placement.route row == receiver) rows

-- what a worker has sent: the rows that it emitted, whether its streams have ended, and by the number of the receiver the batches
-- that went through earlier links
pub record Output : Type 0 where
  pub rows : List (List Value)
  pub ended : Bool
  pub gave : ℕ → List Batch

-- that of a worker in a position
abbrev pub output_at : Context → Position → Output
output_at context p = record { rows = emitted_rows context.placement.role p; ended = p.finished; gave = context.base.gave }

-- what is kept of a receiver, where this was sent: its link carries the batches of the rows that go there
pub record Sends (placement : Placement) (receiver : ℕ) (output : Output) (one : Downstream) : Type 0 where
  pub to : one.to ≡ receiver
  pub batch_size : one.link.kept.batch_size ≡ placement.batch_size
  pub over : one.link.kept.ended ≡ output.ended
  pub carries : OutCarries one.link (output.gave receiver) (stream_to placement receiver output.rows)

-- the same for each receiver, none of whom is there twice
unfoldable pub SendAll : Placement → List ℕ → Output → List Downstream → Type 0
SendAll placement [] output [] = Unit {0}
SendAll placement [] output (one ∷ more) = ⊥
SendAll placement (receiver ∷ receivers) output [] = ⊥
SendAll placement (receiver ∷ receivers) output (one ∷ more) =
    Sends placement receiver output one × (list_any (λ other. other == receiver) receivers ≡ false) × SendAll placement receivers output more

-- ---- where it stands

-- a worker shows a position
pub record Shows (context : Context) (w : WorkerState) (p : Position) : Type 0 where
  pub op : w.op ≡ context.placement.op
  pub number : w.number ≡ context.placement.number
  pub operator_state : DoesKind w.operator_state context.placement.role.task.kind context.orders.constants context.placement.role
  pub state : KeepsRows w.operator_state context.placement.role.task (taken_of context.placement.role p)
  pub columns : w.columns ≡ context.placement.role.task.columns
  pub build_columns : w.build_columns ≡ context.placement.role.task.build_columns
  -- which of its senders are of the build side, that these are senders all, and whether what is left is of that side
  pub sides : All (λ one. one.builds ≡ is_builder context.placement.role.task one.from) w.ins
  pub builders : (sender : ℕ) → is_builder context.placement.role.task sender ≡ true → list_any (λ one. one == sender) context.placement.role.senders ≡ true
  pub building : All (λ one. is_builder context.placement.role.task one.from ≡ w.building) w.rest
  pub when : w.when ≡ context.orders.when
  pub rest : w.rest ≡ rest_of context.placement.role p
  pub pending : w.pending ≡ pending_rows context.placement.role p
  pub taken : w.taken ≡ length p.constants
  pub emitted : w.emitted ≡ emitted_count p.outcomes
  pub batches : w.batches ≡ length p.taken
  pub within : length p.constants ≤ length (all_arrivals context.placement.role p.taken)
  pub produced : length p.outcomes ≤ length (produced_rows context.placement.role p)
  pub refused : w.refused ≡ refused_in context.placement.op (taken_of context.placement.role p)
  pub kept : w.kept ≡ kept_rows context.placement.role.task.kind context.placement.role.task (taken_of context.placement.role p)
  pub restraint : w.restraint ≡ p.restraint
  pub finished : w.finished ≡ p.finished
  pub ins : ReceiveAll context.placement.role.senders context.base.had p.taken w.ins
  pub outs : SendAll context.placement context.placement.receivers (output_at context p) w.outs
  pub route : (row : List Value) → 0 < length context.placement.receivers → number_to w.route row ≡ context.placement.route row

-- a worker stands at a position: it shows it, and its journal leads there from where it stood when the journal was empty
pub record IsAtPosition (context : Context) (w : WorkerState) (start p : Position) : Type 0 where
  pub leads : Leads (assigned context.placement.role context.orders) start w.journal p
  pub text : AreEntries false w.journal
  pub shows : Shows context w p

-- wherever a worker stood, with a count armed or not, it stands at a position again, over the same links
unfoldable pub KeepsUnder : Bool → WorkerState → WorkerState → Type 0
KeepsUnder counted old new = (context : Context) (start p : Position) → context.orders.counted ≡ counted
    → IsAtPosition context old start p → (q : Position) × IsAtPosition context new start q

-- the same where no count is armed
abbrev pub Keeps : WorkerState → WorkerState → Type 0
Keeps old new = KeepsUnder false old new

-- the same but for batches that were seen in a ring
pub record IsLookedAt (old new : WorkerState) : Type 0 where
  pub looked : AreLooked old.ins new.ins
  pub only : new ≡ record old { ins = new.ins }

-- it holds the same ends of the same links, and has the same number, condition and route
pub record HasSameEnds (old new : WorkerState) : Type 0 where
  pub ins : AreSameSenders old.ins new.ins
  pub outs : AreSameReceivers old.outs new.outs
  pub number : new.number ≡ old.number
  pub when : new.when ≡ old.when
  pub route : new.route ≡ old.route

-- ---- what a worker gives

-- what it shows in a position is what is said of that position
unfoldable pub IsViewOf : WorkerState → WorkerView → Type 0
IsViewOf w view = (context : Context) (p : Position) → Shows context w p → view ≡ view_of context.placement.role p

-- the records of a worker's share stand by their numbers
abbrev pub IsNumbered : Role → Type 0
IsNumbered role = (n : ℕ) → by_number (take n role.share) ≡ take n role.share

-- what it gives for the answer in a position: what it has refused, by the definition for several workers, and of a sink the rows that
-- it took, in their order
unfoldable pub IsGivenOf : WorkerState → Given → Type 0
IsGivenOf w given = (context : Context) (p : Position) → IsNumbered context.placement.role → Shows context w p
    → (given.refused ≡ worker_refusals context.placement.op context.placement.role p)
    × (given.rows ≡ sort_rows (kept_rows context.placement.role.task.kind context.placement.role.task (taken_of context.placement.role p)))
