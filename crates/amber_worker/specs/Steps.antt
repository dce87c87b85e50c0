-- What each single step of a worker changes.
use Rattle.std.specs.Prelude.{◌≡◌, ℕ, ◌+◌, ◌^◌, ◌<◌, ◌==◌, ◌&&◌, Bool, List, [], ◌∷◌, ◌++◌, length, map, Option, true, false, if◌then◌else◌}
use Rattle.amber_rows.specs.Order.{sort_rows}
use Rattle.amber_rows.specs.declared.value.Value.{Value}
use Rattle.amber_rows.specs.declared.column.Column.{Column}
use Rattle.amber_rows.specs.declared.batch.Batch.{Batch}
use Rattle.amber_log.specs.declared.entry.Entry.{Entry}
use Rattle.amber_log.specs.declared.entry.Entry.TheVariants as entry
use Rattle.amber_meaning.specs.Rules.{restraint_used}
use Rattle.amber_meaning.specs.Task.{Arrival, row_in}
use Rattle.amber_meaning.specs.Refused.{refusal_in}
use Rattle.amber_rows.specs.Lists.{first_of}
use Rattle.amber_meaning.specs.declared.answer.Refusal.{Refusal}
use Rattle.amber_meaning.specs.declared.answer.Refusal.TheVariants as refusal
use Rattle.amber_meaning.specs.declared.view.Stand.TheVariants as stand
use Rattle.amber_meaning.specs.declared.view.WorkerView.{WorkerView}
use Rattle.amber_board.specs.declared.types.WorkSeat.{WorkSeat}
use Rattle.amber_link.specs.Links.{has_some}
use Rattle.amber_link.specs.Sides.{AreEnded, AreLooked, IsTaken, have_all_ended}
use Rattle.amber_link.specs.declared.upstreams.Upstream.{Upstream}
use Rattle.amber_link.specs.declared.downstreams.Downstream.{Downstream}
use Rattle.amber_worker.specs.Counting.{CountsOne}
use Rattle.amber_operators.specs.Handed.{row_from}
use Rattle.amber_worker.specs.Links.{IsHandedOn, number_to}
use Rattle.amber_worker.specs.WorkerState.{WorkerState, has_ready, is_armed}
use Rattle.amber_operators.specs.declared.operator_state.OperatorState.{OperatorState}
use Rattle.amber_operators.specs.RowsTaken.{gives_if, keeps_if}
use Rattle.amber_operators.specs.Kept.{Closes, IsRefused}
use Rattle.amber_operators.specs.States.{Becomes, turned_to, IsExtra}

-- ---- rows

-- ---- the journal

-- rows more, after an entry
abbrev pub gone_on : Entry → ℕ → ℕ → List Entry
gone_on (entry.Take sender batch) rows outs = entry.Take sender batch ∷ entry.Go rows outs ∷ []
gone_on (entry.Go before given) rows outs = entry.Go (before + rows) (given + outs) ∷ []
gone_on (entry.Grant n) rows outs = entry.Grant n ∷ entry.Go rows outs ∷ []
gone_on (entry.Back n) rows outs = entry.Back n ∷ entry.Go rows outs ∷ []
gone_on entry.Pause rows outs = entry.Pause ∷ entry.Go rows outs ∷ []
gone_on entry.Resume rows outs = entry.Resume ∷ entry.Go rows outs ∷ []
gone_on entry.Hold rows outs = entry.Hold ∷ entry.Go rows outs ∷ []
gone_on entry.Finish rows outs = entry.Finish ∷ entry.Go rows outs ∷ []

-- rows taken and emitted between two other entries are one entry
unfoldable pub with_go : List Entry → ℕ → ℕ → List Entry
with_go [] rows outs = entry.Go rows outs ∷ []
with_go (one ∷ []) rows outs = gone_on one rows outs
with_go (one ∷ next ∷ more) rows outs = one ∷ with_go (next ∷ more) rows outs

-- ---- steps

-- the columns of the rows at hand
abbrev pub columns_at_hand : WorkerState → List Column
columns_at_hand w = if w.building then w.build_columns else w.columns

-- a row was taken; what the worker keeps became this, and these rows are given at the end
abbrev pub row_taken : Arrival → List Arrival → OperatorState → List (List Value) → WorkerState → WorkerState
row_taken one later now last w = record w {
  operator_state = now;
  rest = later;
  pending = (w.pending ++ gives_if w.operator_state w.building (row_in (columns_at_hand w) one.what)) ++ last;
  taken = w.taken + 1;
  refused = w.refused ++ refusal_in w.op one.from one.what;
  kept = w.kept ++ keeps_if w.operator_state (row_in (columns_at_hand w) one.what);
  journal = with_go w.journal 1 0;
}

-- the next row was taken
pub record TakesRow (old new : WorkerState) : Type 0 where
  pub one : Arrival
  pub later : List Arrival
  pub now : OperatorState
  pub last : List (List Value)
  pub drained : has_some old.pending ≡ false
  pub first : old.rest ≡ one ∷ later
  pub becomes : Becomes old.operator_state old.building (row_in (columns_at_hand old) one.what) now
  pub closes : Closes now ((length old.rest == 1) && have_all_ended old.ins) last
  pub after : new ≡ row_taken one later now last old

-- a pending row was emitted, under a count with a unit of the hand
abbrev pub row_emitted : Bool → List (List Value) → List Downstream → WorkerState → WorkerState
row_emitted counted later outs w = record w {
  pending = later;
  emitted = w.emitted + 1;
  restraint = restraint_used counted 1 w.restraint;
  outs = outs;
  journal = with_go w.journal 0 1;
}

-- the first pending row was emitted, and counted where a count is armed
pub record EmitsRow (old new : WorkerState) : Type 0 where
  pub row : List Value
  pub later : List (List Value)
  pub outs : List Downstream
  pub seat : Option WorkSeat
  pub first : old.pending ≡ row ∷ later
  pub handed : IsHandedOn (number_to old.route row) row old.outs outs
  pub counts : CountsOne old.seat seat
  pub after : new ≡ record (row_emitted (is_armed old) later outs old) { seat = seat }

-- the first pending row holds the worker from now on
abbrev pub held_at : WorkerState → WorkerState
held_at w = record w { restraint = record w.restraint { held = true }; journal = w.journal ++ entry.Hold ∷ [] }

-- a batch of this sender was taken; these rows are given at the end
abbrev pub batch_taken : Upstream → Batch → List Upstream → List (List Value) → WorkerState → WorkerState
batch_taken one batch ins last w = record w {
  operator_state = turned_to one.builds w.operator_state;
  building = one.builds;
  rest = map (row_from one.from) batch.rows;
  pending = last;
  batches = w.batches + 1;
  ins = ins;
  journal = w.journal ++ entry.Take one.from one.taken ∷ [];
}

-- the end was reached
abbrev pub all_done : List Downstream → WorkerState → WorkerState
all_done outs w = record w {
  finished = true;
  outs = outs;
  journal = w.journal ++ entry.Finish ∷ [];
}

-- the end was reached, and all streams were ended
pub record Finishes (old new : WorkerState) : Type 0 where
  pub drained : has_some old.pending ≡ false
  pub used : has_some old.rest ≡ false
  pub ended : have_all_ended old.ins ≡ true
  pub outs : List Downstream
  pub ends : AreEnded old.outs outs
  pub after : new ≡ all_done outs old

-- a batch of one of its senders was taken
pub record TakesBatch (old new : WorkerState) : Type 0 where
  pub drained : has_some old.pending ≡ false
  pub used : has_some old.rest ≡ false
  pub one : Upstream
  pub batch : Batch
  pub found : List Upstream
  pub looked : AreLooked old.ins found
  pub ready : has_ready found ≡ true
  pub ins : List Upstream
  pub taken : IsTaken found one batch ins
  pub from_small : one.from < 2 ^ 32
  pub number_small : one.taken < 2 ^ 64
  pub last : List (List Value)
  pub closes : Closes old.operator_state ((length batch.rows == 0) && have_all_ended ins) last
  pub after : new ≡ batch_taken one batch ins last old

-- what a worker shows
pub record IsShown (w : WorkerState) (view : WorkerView) : Type 0 where
  pub taken : view.taken ≡ w.taken
  pub rest : view.rest ≡ length w.rest
  pub out : view.out ≡ w.emitted
  pub pending : view.pending ≡ length w.pending
  pub stand : view.stand ≡ (if w.finished then stand.Finished else (if w.restraint.held then stand.Held else stand.Ready))
  pub next : view.next ≡ first_of w.pending
  pub extra : IsExtra w.operator_state (length w.refused) (length w.kept) view.extra

-- the keys that a worker gives: those that it has refused once it has finished, none before
abbrev pub AreKeysOf : Bool → OperatorState → List (List Value) → Type 0
AreKeysOf true d keys = IsRefused d keys
AreKeysOf false d keys = keys ≡ []

-- keys such as these stand after what was refused before, in their order
pub record AreKeysBehind (op : ℕ) (before : List Refusal) (Keys : List (List Value) → Type 0) (after : List Refusal) : Type 0 where
  pub keys : List (List Value)
  pub are : Keys keys
  pub behind : after ≡ before ++ map (refusal.Group op) (sort_rows keys)
