-- What is kept of a receiver until it is sent, and the rows of which it was made.
use Rattle.std.specs.Prelude.{◌≡◌, ℕ, ◌+◌, ◌-◌, ◌*◌, ◌/◌, ◌==◌, ◌<◌, List, [], ◌∷◌, ◌++◌, length, drop, Bool, true, false, if◌then◌else◌}
use Rattle.amber_rows.specs.Chunks.{chunks_of}
use Rattle.amber_rows.specs.declared.value.Value.{Value}
use Rattle.amber_rows.specs.declared.batch.Batch.{Batch}

-- the rows of a batch, how many batches were made, whether the last was, those that wait to be sent, the rows for the next one, and
-- for how many rows and the end there is room
pub record Outgoing : Type 0 where
  pub batch_size : ℕ
  pub made : ℕ
  pub ended : Bool
  pub waiting : List Batch
  pub partial : List (List Value)
  pub room : ℕ

-- the rows that are left for the next batch
abbrev pub left_over : ℕ → List (List Value) → List (List Value)
left_over batch_size stream = drop (length stream / batch_size * batch_size) stream

-- the batches that have gone, and those that wait, are those of the rows that were pushed, and what is left of these is kept
pub record Carries (out : Outgoing) (gone : List Batch) (pushed : List (List Value)) : Type 0 where
  pub some : 0 < out.batch_size
  pub batches : gone ++ out.waiting ≡ chunks_of out.batch_size pushed out.ended
  pub partial : out.partial ≡ (if out.ended then [] else left_over out.batch_size pushed)
  pub made : out.ended ≡ false → out.made ≡ length pushed / out.batch_size

-- a row more was pushed
pub record Adds (old : Outgoing) (row : List Value) (new : Outgoing) : Type 0 where
  pub each : (gone : List Batch) (pushed : List (List Value)) → Carries old gone pushed → Carries new gone (pushed ++ row ∷ [])
  pub batch_size : new.batch_size ≡ old.batch_size
  pub ended : new.ended ≡ false

-- the end was pushed, and no row
pub record EndsStream (old new : Outgoing) : Type 0 where
  pub each : (gone : List Batch) (pushed : List (List Value)) → Carries old gone pushed → Carries new gone pushed
  pub batch_size : new.batch_size ≡ old.batch_size
  pub ended : new.ended ≡ true

-- ---- what the calls make of it

-- a row more; a full batch waits to be sent
abbrev pub with_row : List Value → Outgoing → Outgoing
with_row row out =
    if length out.partial + 1 == out.batch_size
    then record out {
      made = out.made + 1;
      waiting = out.waiting ++ record { seq = out.made; rows = out.partial ++ row ∷ []; last = false } ∷ [];
      partial = [];
      room = out.room - 1;
    }
    else record out { partial = out.partial ++ row ∷ []; room = out.room - 1 }

-- the rows that are left are the last batch
abbrev pub with_end : Outgoing → Outgoing
with_end out = record out {
  made = out.made + 1;
  ended = true;
  waiting = out.waiting ++ record { seq = out.made; rows = out.partial; last = true } ∷ [];
  partial = [];
  room = 0;
}
