-- The workers of a run that has not begun, and the links between them.
use Rattle.std.specs.Prelude.{◌≡◌, ℕ, ◌<◌, ◌≤◌, List, [], ◌∷◌, ◌++◌, All, filter, map, length, slice_index_or, is_some, IfSome, Option, None, Some, Result, Bool, true, false}
use Rattle.amber_rows.specs.Topology.{crew_of, op_of, sends_to, what_at}
use Rattle.amber_rows.specs.Kinds.{is_scan}
use Rattle.amber_rows.specs.Columns.{columns_at}
use Rattle.amber_rows.specs.Lists.{numbers_below}
use Rattle.amber_rows.specs.declared.flow.Operator.{Operator}
use Rattle.amber_link.specs.Links.{AreLinked}
use Rattle.amber_link.specs.declared.ends.Out.{Out}
use Rattle.amber_link.specs.declared.ends.In.{In}
use Rattle.amber_rows.specs.declared.record.RowFault.{RowFault}
use Rattle.amber_rows.specs.declared.value.Value.{Value}
use Rattle.amber_rows.specs.Shares.{share_of}
use Rattle.amber_meaning.specs.Plan.{role_of}
use Rattle.amber_scan.specs.Shares.{ShareState, scanned_number, scanned_records}
use Rattle.amber_worker.specs.AtPosition.{HasShare}
use Rattle.amber_worker.specs.Changes.{StandsNew}
use Rattle.amber_worker.specs.Made.{IsFreshIn, IsFreshOut, end_of, link_of, roomless}
use Rattle.amber_worker.specs.WorkerState.{WorkerState}
use Rattle.amber_dataflow.specs.AtWork.{worker_state_at}

-- the ends of one worker
abbrev pub ends_at : {A : Type 0} → List (List A) → ℕ → List A
ends_at ends worker = slice_index_or ends worker []

-- the numbers, of these first ones, that pass a test
abbrev pub passing : (ℕ → Bool) → ℕ → List ℕ
passing test count = filter test (numbers_below count)

-- ---- the links of one sender

-- to whom it sends, the rows of a batch, how many may receive, and the ends that these held before
pub record Sending : Type 0 where
  pub sends : ℕ → Bool
  pub batch_size : ℕ
  pub count : ℕ
  pub before : List (List In)

-- a receiver was given the other end of its link with the sender, after those that it held
pub record GivesEnd (sending : Sending) (outs : List Out) (after : List (List In)) (receiver : ℕ) : Type 0 where
  pub into : In
  pub is : ends_at after receiver ≡ ends_at sending.before receiver ++ into ∷ []
  pub fresh : IsFreshIn into
  pub linked : (j : ℕ) (d : Out) → j < length outs → slice_index_or (passing sending.sends sending.count) j 0 ≡ receiver
      → AreLinked (slice_index_or outs j d) into

-- a sender has an end for each of its receivers, through which nothing went, and each of these has the other end
pub record GivesEnds (sending : Sending) (outs : List Out) (after : List (List In)) : Type 0 where
  pub all : length after ≡ length sending.before
  pub each : length outs ≡ length (passing sending.sends sending.count)
  pub fresh : All (IsFreshOut sending.batch_size) outs
  pub beyond : (receiver : ℕ) → sending.count ≤ receiver → ends_at after receiver ≡ ends_at sending.before receiver
  pub without : (receiver : ℕ) → sending.sends receiver ≡ false → ends_at after receiver ≡ ends_at sending.before receiver
  pub given : (receiver : ℕ) → receiver < sending.count → sending.sends receiver ≡ true → GivesEnd sending outs after receiver

-- ---- the links of all

-- who sends to whom, the rows of a batch, and how many send and how many receive
pub record Web : Type 0 where
  pub sends : ℕ → ℕ → Bool
  pub batch_size : ℕ
  pub senders : ℕ
  pub receivers : ℕ

abbrev pub to_whom : Web → ℕ → List ℕ
to_whom web sender = passing (web.sends sender) web.receivers

abbrev pub from_whom : Web → ℕ → List ℕ
from_whom web receiver = passing (λ sender. web.sends sender receiver) web.senders

-- the place at which a sender has a receiver, and that at which the receiver has the sender
pub record Places (web : Web) (sender receiver : ℕ) : Type 0 where
  pub j : ℕ
  pub k : ℕ
  pub sender_within : sender < web.senders
  pub receiver_within : receiver < web.receivers
  pub j_within : j < length (to_whom web sender)
  pub k_within : k < length (from_whom web receiver)
  pub to : slice_index_or (to_whom web sender) j 0 ≡ receiver
  pub from : slice_index_or (from_whom web receiver) k 0 ≡ sender

-- all have an end for each of those to whom they send, and for each of those who send to them, the two of each link, through which
-- nothing went
pub record AreEnds (web : Web) (out_ends : List (List Out)) (in_ends : List (List In)) : Type 0 where
  pub all_outs : length out_ends ≡ web.senders
  pub all_ins : length in_ends ≡ web.receivers
  pub outs : (sender : ℕ) → sender < web.senders → length (ends_at out_ends sender) ≡ length (to_whom web sender)
  pub ins : (receiver : ℕ) → receiver < web.receivers → length (ends_at in_ends receiver) ≡ length (from_whom web receiver)
  pub fresh_outs : (sender : ℕ) → sender < web.senders → All (IsFreshOut web.batch_size) (ends_at out_ends sender)
  pub fresh_ins : (receiver : ℕ) → receiver < web.receivers → All IsFreshIn (ends_at in_ends receiver)
  pub linked : (sender receiver : ℕ) (places : Places web sender receiver) (out : Out) (into : In)
      → AreLinked (slice_index_or (ends_at out_ends sender) places.j out) (slice_index_or (ends_at in_ends receiver) places.k into)

-- a workflow's
abbrev pub web_of : List Operator → ℕ → Web
web_of flow batch_size = record { sends = sends_to flow; batch_size = batch_size; senders = crew_of flow; receivers = crew_of flow }

-- ---- the shares

-- what a worker was given; none where it was given nothing
abbrev pub share_of_worker : List (Option ShareState) → ℕ → Option ShareState
share_of_worker shares worker = slice_index_or shares worker None

-- what a worker of an operator is given of a file, by its place among the operator's workers: of a scan its share of the records, typed
-- by the scan's columns, else nothing
abbrev pub IsDealtShare : Operator → List ℕ → ℕ → Option ShareState → Type 0
IsDealtShare operator file place None = is_scan operator.what ≡ false
IsDealtShare operator file place (Some share) =
    (is_scan operator.what ≡ true) × (share.left ≡ share_of scanned_number operator.workers place (scanned_records operator.schema file)) × (share.columns ≡ operator.schema)

-- each of a scan's workers was given its share of the scan's records, typed by the scan's columns, and nobody else was given one
pub record AreSharesDealt (flow : List Operator) (records : List (List (Result (List Value) RowFault))) (shares : List (Option ShareState)) : Type 0 where
  pub all : length shares ≡ crew_of flow
  pub scans : (worker : ℕ) → worker < crew_of flow → is_some (share_of_worker shares worker) ≡ is_scan (what_at flow (op_of flow worker))
  pub dealt : (worker : ℕ) → worker < crew_of flow → HasShare (share_of_worker shares worker) (role_of flow records worker)
  pub typed : (worker : ℕ) → worker < crew_of flow → IfSome (share_of_worker shares worker) (λ share. share.columns ≡ columns_at flow (op_of flow worker))

-- ---- the workers

-- what the workers of a workflow are made of
pub record Parts : Type 0 where
  pub flow : List Operator
  pub batch_size : ℕ
  pub shares : List (Option ShareState)
  pub outs : List (List Out)
  pub ins : List (List In)

-- a worker that was made of its parts, and has done nothing
pub record IsNew (parts : Parts) (worker : ℕ) (made : WorkerState) : Type 0 where
  pub stands : StandsNew (record { flow = parts.flow; number = worker; batch_size = parts.batch_size; share = share_of_worker parts.shares worker }) made
  pub outs : map link_of made.outs ≡ map roomless (ends_at parts.outs worker)
  pub ins : map end_of made.ins ≡ ends_at parts.ins worker
  pub journal : made.journal ≡ []
  pub unarmed : made.seat ≡ None

-- all of them
pub record AreNew (parts : Parts) (crew : List WorkerState) : Type 0 where
  pub all : length crew ≡ crew_of parts.flow
  pub each : (worker : ℕ) → worker < crew_of parts.flow → IsNew parts worker (worker_state_at crew worker)
