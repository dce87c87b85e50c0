-- What a worker's fields mean.
use Rattle.std.specs.Prelude.{◌≡◌, ℕ, false, true, ◌+◌, ◌^◌, ◌<◌, ◌≤◌, All, List, [], IfSome, Option, Bool}
use Rattle.amber_rows.specs.declared.column.Column.{Column}
use Rattle.amber_log.specs.declared.entry.Entry.{Entry}
use Rattle.amber_log.specs.declared.entry.Entry.TheVariants as entry
use Rattle.amber_meaning.specs.Position.{Restraint, one_if}
use Rattle.amber_scan.specs.Shares.{ShareState}
use Rattle.amber_link.specs.declared.upstreams.Upstream.{Upstream}
use Rattle.amber_link.specs.declared.downstreams.Downstream.{Downstream}
use Rattle.amber_operators.specs.declared.operator_state.OperatorState.{OperatorState}
use Rattle.amber_worker.specs.Links.{IsSoundRoute}
use Rattle.amber_worker.specs.declared.flags.Flags.{Flags}
use Rattle.amber_worker.specs.declared.route.Route.{Route}
use Rattle.amber_operators.specs.Kept.{IsInOrder}
use Rattle.amber_operators.specs.States.{IsScan}

-- the rows that an entry takes and emits
abbrev pub rows_moved : Entry → ℕ
rows_moved (entry.Take sender batch) = 0
rows_moved (entry.Go rows outs) = rows + outs
rows_moved (entry.Grant n) = 0
rows_moved (entry.Back n) = 0
rows_moved entry.Pause = 0
rows_moved entry.Resume = 0
rows_moved entry.Hold = 0
rows_moved entry.Finish = 0

-- no entry speaks of very many rows
abbrev pub AreShort : List Entry → Type 0
AreShort journal = All (λ one. rows_moved one < 2 ^ 63) journal

-- no flag is raised
abbrev pub no_flags : Flags
no_flags = record { held = false; waved = false; paused = false }

-- what holds a worker back that has this many units in hand and these flags
abbrev pub restraint_of : ℕ → Flags → Restraint
restraint_of hand flags = record { hand = hand; held = flags.held; waved = flags.waved; paused = flags.paused }

-- the fields of a worker that are within bounds; its columns are those of the rows at hand
pub record WorkerFields : Type 0 where
  pub operator_state : OperatorState
  pub columns : List Column
  pub building : Bool
  pub share : Option ShareState
  pub taken : ℕ
  pub emitted : ℕ
  pub batches : ℕ
  pub paused : Bool
  pub finished : Bool
  pub ins : List Upstream
  pub outs : List Downstream
  pub route : Route
  pub journal : List Entry

-- what a worker counts is within its steps, and these are few; one that is paused has not finished; one that has a share is a scan's
-- and has no senders, and its records are typed by these columns
pub record AreFew (f : WorkerFields) : Type 0 where
  pub in_order : IsInOrder f.operator_state f.building f.taken f.ins
  pub scans : IfSome f.share (λ _. IsScan f.operator_state)
  pub shares : IfSome f.share (λ _. f.ins ≡ [])
  pub typed : IfSome f.share (λ share. share.columns ≡ f.columns)
  pub steps : f.taken + f.emitted + f.batches + one_if f.finished ≤ 2 ^ 40
  pub unfinished : f.paused ≡ true → f.finished ≡ false
  pub received : All (λ one. one.taken ≤ f.batches) f.ins
  pub sent : f.finished ≡ false → All (λ one. one.link.kept.made ≤ f.emitted) f.outs
  pub over : All (λ one. one.link.kept.ended ≡ f.finished) f.outs
  pub routed : IsSoundRoute f.route
  pub moved : All (λ one. rows_moved one ≤ f.taken + f.emitted) f.journal
