-- The batches in which a stream of rows is sent.
use Rattle.std.specs.Prelude.{ℕ, ◌*◌, ◌/◌, List, [], ◌∷◌, ◌++◌, length, map, take, drop, Bool, true, false, if◌then◌else◌}
use Rattle.amber_rows.specs.Lists.{numbers_below}
use Rattle.amber_rows.specs.declared.value.Value.{Value}
use Rattle.amber_rows.specs.declared.batch.Batch.{Batch}

-- the piece of a stream with this number: `batch_size` rows, or those that are left
abbrev pub piece_of : ℕ → List (List Value) → ℕ → List (List Value)
piece_of batch_size stream seq = take batch_size (drop (seq * batch_size) stream)

-- a stream in pieces of `batch_size` rows, numbered from 0, and where it has ended the rest, fewer rows, as the last one
unfoldable pub chunks_of : ℕ → List (List Value) → Bool → List Batch
chunks_of batch_size stream ended =
    map (λ seq. record { seq = seq; rows = piece_of batch_size stream seq; last = false }) (numbers_below (length stream / batch_size))
    ++ (if ended then record { seq = length stream / batch_size; rows = piece_of batch_size stream (length stream / batch_size); last = true } ∷ [] else [])
