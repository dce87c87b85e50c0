-- The batches of a stream that grows row by row.
use Rattle.std.proofs.Common.{◌≡◌, ℕ, zero, suc, ◌+◌, ◌*◌, ◌/◌, ◌<◌, ◌≤◌, List, [], ◌∷◌, ◌++◌, length, map, take, drop, true, false, refl, ap, ◌∙◌, arith, length-append, length-drop}
use Rattle.std.proofs.Math.Nat.{mul-le-mul_right}
use Rattle.std.proofs.Math.ListN.{drop_of_length-le}
use Rattle.std.proofs.lemmas.List.{append-nil, drop-append-le, map-append, take-append-le, take_all}
use Rattle.std.proofs.lemmas.Nat.{div-add-mod', div-mul-add}
use Rattle.amber_rows.specs.Chunks.{chunks_of, piece_of}
use Rattle.amber_rows.specs.Lists.{numbers_below}
use Rattle.amber_rows.specs.declared.value.Value.{Value}
use Rattle.amber_rows.specs.declared.batch.Batch.{Batch}
use Rattle.amber_link.specs.Outgoing.{left_over}

-- the full batch with this number
abbrev full_batch : ℕ → List (List Value) → ℕ → Batch
full_batch batch_size stream number = record { seq = number; rows = piece_of batch_size stream number; last = false }

-- ---- full batches stay as the stream grows

map-below : {B : Type 0} (f g : ℕ → B) (n : ℕ) → ((k : ℕ) → k < n → f k ≡ g k) → map f (numbers_below n) ≡ map g (numbers_below n)
unfolding numbers_below
map-below f g zero h = refl
map-below f g (suc n) h =
    let front = map-below f g n (λ k less. h k (omega arith)) in
    let last = h n (omega arith) in
    rw (map-append f, map-append g, front, last)

full-below : (batch_size n q : ℕ) (stream : List (List Value)) → n < q → q * batch_size ≤ length stream → n * batch_size + batch_size ≤ length stream
full-below batch_size n q stream less within =
    let more : (n + 1) * batch_size ≤ q * batch_size = mul-le-mul_right batch_size (omega arith) in
    omega arith

piece-longer : (batch_size n q : ℕ) (stream more : List (List Value)) → n < q → q * batch_size ≤ length stream → piece_of batch_size (stream ++ more) n ≡ piece_of batch_size stream n
piece-longer batch_size n q stream more less within =
    let all = full-below batch_size n q stream less within in
    let start : n * batch_size ≤ length stream = omega arith in
    let enough : batch_size ≤ length (drop (n * batch_size) stream) = omega (arith, length-drop (n * batch_size) stream) in
    rw (drop-append-le, take-append-le)

fulls-longer : (batch_size q : ℕ) (stream more : List (List Value)) → q * batch_size ≤ length stream
    → map (full_batch batch_size (stream ++ more)) (numbers_below q) ≡ map (full_batch batch_size stream) (numbers_below q)
fulls-longer batch_size q stream more within =
    map-below (full_batch batch_size (stream ++ more)) (full_batch batch_size stream) q
    (λ n less. ap (λ (rows : List (List Value)). record { seq = n; rows = rows; last = false }) (piece-longer batch_size n q stream more less within))

-- ---- what is left

-- the stream's length by its batches and what is left
pub length-left_over : (batch_size : ℕ) (stream : List (List Value)) → length stream ≡ length stream / batch_size * batch_size + length (left_over batch_size stream)
length-left_over batch_size stream =
    let parts = div-add-mod' (length stream) batch_size in
    omega (arith, length-drop (length stream / batch_size * batch_size) stream)

-- these are fewer than a batch has
pub left_over-few : (batch_size : ℕ) (stream : List (List Value)) → 0 < batch_size → length (left_over batch_size stream) < batch_size
left_over-few batch_size stream some =
    let parts = div-add-mod' (length stream) batch_size in
    omega (arith, length-drop (length stream / batch_size * batch_size) stream)

-- ---- a row more

quotient-same : (batch_size q l n : ℕ) → n ≡ q * batch_size + l → l < batch_size → n / batch_size ≡ q
quotient-same batch_size q l n e few = rw e (div-mul-add q batch_size l few)

-- a row that does not fill the batch
pub chunks-more : (batch_size : ℕ) (stream : List (List Value)) (row : List Value) → length (left_over batch_size stream) + 1 < batch_size
    → (length (stream ++ row ∷ []) / batch_size ≡ length stream / batch_size) × (chunks_of batch_size (stream ++ row ∷ []) false ≡ chunks_of batch_size stream false)
    × (left_over batch_size (stream ++ row ∷ []) ≡ left_over batch_size stream ++ row ∷ [])
unfolding chunks_of
chunks-more batch_size stream row few =
    let q = length stream / batch_size in
    let whole = length-left_over batch_size stream in
    let longer : length (stream ++ row ∷ []) ≡ q * batch_size + (length (left_over batch_size stream) + 1) = omega (arith, length-append stream (row ∷ [])) in
    let same : length (stream ++ row ∷ []) / batch_size ≡ q = quotient-same batch_size q (length (left_over batch_size stream) + 1) (length (stream ++ row ∷ [])) longer few in
    let within : q * batch_size ≤ length stream = omega arith in (
      same,
      rw (same, append-nil, append-nil) (fulls-longer batch_size q stream (row ∷ []) within),
      rw (same, drop-append-le) refl,
    )

-- a row that fills it
pub chunks-full : (batch_size : ℕ) (stream : List (List Value)) (row : List Value) → length (left_over batch_size stream) + 1 ≡ batch_size
    → (length (stream ++ row ∷ []) / batch_size ≡ length stream / batch_size + 1)
    × (chunks_of batch_size (stream ++ row ∷ []) false ≡ chunks_of batch_size stream false ++ record { seq = length stream / batch_size; rows = left_over batch_size stream ++ row ∷ []; last = false } ∷ [])
    × (left_over batch_size (stream ++ row ∷ []) ≡ [])
unfolding chunks_of numbers_below
chunks-full batch_size stream row fills =
    let q = length stream / batch_size in
    let whole = length-left_over batch_size stream in
    let longer : length (stream ++ row ∷ []) ≡ (q + 1) * batch_size + 0 = omega (arith, length-append stream (row ∷ [])) in
    let next : length (stream ++ row ∷ []) / batch_size ≡ q + 1 = quotient-same batch_size (q + 1) 0 (length (stream ++ row ∷ [])) longer (omega arith) in
    let next_suc : length (stream ++ row ∷ []) / batch_size ≡ suc q = omega arith in
    let within : q * batch_size ≤ length stream = omega arith in
    let front = fulls-longer batch_size q stream (row ∷ []) within in
    let piece : piece_of batch_size (stream ++ row ∷ []) q ≡ left_over batch_size stream ++ row ∷ [] =
    ap (λ rows. take batch_size rows) (drop-append-le (q * batch_size) stream (row ∷ []) within)
    ∙ take_all batch_size (left_over batch_size stream ++ row ∷ []) (omega (arith, length-append (left_over batch_size stream) (row ∷ []))) in
    let last : full_batch batch_size (stream ++ row ∷ []) q ≡ record { seq = q; rows = left_over batch_size stream ++ row ∷ []; last = false } =
    ap (λ (rows : List (List Value)). record { seq = q; rows = rows; last = false }) piece in
    let gone : left_over batch_size (stream ++ row ∷ []) ≡ [] =
    rw next (drop_of_length-le (stream ++ row ∷ []) {i = (q + 1) * batch_size} (omega arith)) in
    (next, rw (next_suc, append-nil, append-nil, map-append (full_batch batch_size (stream ++ row ∷ [])), front, last) refl, gone)

-- ---- the end

-- the rows that are left are the last batch
pub chunks-end : (batch_size : ℕ) (stream : List (List Value)) → 0 < batch_size
    → chunks_of batch_size stream true ≡ chunks_of batch_size stream false ++ record { seq = length stream / batch_size; rows = left_over batch_size stream; last = true } ∷ []
unfolding chunks_of
chunks-end batch_size stream some =
    let few = left_over-few batch_size stream some in
    let piece : piece_of batch_size stream (length stream / batch_size) ≡ left_over batch_size stream = take_all batch_size (left_over batch_size stream) (omega arith) in
    rw (append-nil, piece) refl
