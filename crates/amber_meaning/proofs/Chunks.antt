-- The batches of a stream: only the last is marked, their rows are a front of the stream, and how many there are.
use Rattle.std.proofs.Common.{◌≡◌, ℕ, zero, suc, ◌+◌, ◌*◌, ◌/◌, ◌<◌, ◌≤◌, List, [], ◌∷◌, ◌++◌, length, map, take, drop, Bool, true, false, refl, sym, ap, ◌∙◌, arith, append_assoc, length-append}
use Rattle.std.specs.List.{flat_map, list_any}
use Rattle.std.proofs.Math.Nat.{lt-div-mul-add, mul-le-mul_right, suc-mul, zero-mul}
use Rattle.std.proofs.Math.Seq.{take-add}
use Rattle.std.proofs.lemmas.Bool.{false≢true}
use Rattle.std.proofs.lemmas.List.{append-nil, drop-append-le, length-drop, length-map, map-append, take-append-drop, take-append-le, take_all}
use Rattle.std.proofs.lemmas.List.Concat.{flat_map-append}
use Rattle.std.proofs.lemmas.List.Folds.{flat_map-map}
use Rattle.amber_rows.specs.Chunks.{chunks_of, piece_of}
use Rattle.amber_rows.specs.Lists.{numbers_below}
use Rattle.amber_rows.specs.declared.value.Value.{Value}
use Rattle.amber_rows.specs.declared.batch.Batch.{Batch}
use Rattle.amber_rows.specs.Topology.{crew_of}
use Rattle.amber_meaning.specs.Legal.{AreOffered, Query, batches_for, role_in}
use Rattle.amber_meaning.specs.Position.{Position, one_if, taken_from}
use Rattle.amber_meaning.specs.State.{position_at}
use Rattle.amber_meaning.proofs.Orderly.{IsMarkedLast, IsOrderly, marked-ends, marked-front}

abbrev pub batch_rows : Batch → List (List Value)
batch_rows batch = batch.rows

abbrev pub is_marked : Batch → Bool
is_marked batch = batch.last

-- the full batch with this number
abbrev pub full_batch : ℕ → List (List Value) → ℕ → Batch
full_batch batch_size stream number = record { seq = number; rows = piece_of batch_size stream number; last = false }

full-unmarked : (batch_size : ℕ) (stream : List (List Value)) (ns : List ℕ) → list_any is_marked (map (full_batch batch_size stream) ns) ≡ false
full-unmarked batch_size stream [] = refl
full-unmarked batch_size stream (n ∷ ns) = full-unmarked batch_size stream ns

marked-behind : (batch_size : ℕ) (stream : List (List Value)) (ns : List ℕ) (b : Batch) → IsMarkedLast (map (full_batch batch_size stream) ns ++ b ∷ [])
marked-behind batch_size stream [] b = (λ e. refl, tt)
marked-behind batch_size stream (n ∷ ns) b = (λ e. absurd (false≢true e), marked-behind batch_size stream ns b)

marked-none : (batch_size : ℕ) (stream : List (List Value)) (ns : List ℕ) → IsMarkedLast (map (full_batch batch_size stream) ns ++ [])
marked-none batch_size stream [] = tt
marked-none batch_size stream (n ∷ ns) = (λ e. absurd (false≢true e), marked-none batch_size stream ns)

pub chunks-marked : (batch_size : ℕ) (stream : List (List Value)) (ended : Bool) → IsMarkedLast (chunks_of batch_size stream ended)
unfolding chunks_of
chunks-marked batch_size stream true = marked-behind batch_size stream _ _
chunks-marked batch_size stream false = marked-none batch_size stream _

-- ---- the rows

pieces : (batch_size : ℕ) (stream : List (List Value)) (n : ℕ) → flat_map (piece_of batch_size stream) (numbers_below n) ≡ take (n * batch_size) stream
unfolding numbers_below
pieces batch_size stream zero = rw (zero-mul batch_size) refl
pieces batch_size stream (suc n) =
    flat_map-append (piece_of batch_size stream) (numbers_below n) (n ∷ [])
    ∙ rw (pieces batch_size stream n, append-nil (piece_of batch_size stream n), suc-mul n batch_size) (sym (take-add (n * batch_size) batch_size stream))

full-rows : (batch_size : ℕ) (stream : List (List Value)) (n : ℕ) → flat_map batch_rows (map (full_batch batch_size stream) (numbers_below n)) ≡ take (n * batch_size) stream
full-rows batch_size stream n = flat_map-map batch_rows (full_batch batch_size stream) (numbers_below n) ∙ pieces batch_size stream n

-- what is left after the full batches
abbrev left_of : ℕ → List (List Value) → List (List Value)
left_of batch_size stream = drop (length stream / batch_size * batch_size) stream

chunks-whole : (batch_size : ℕ) (stream : List (List Value)) → 0 < batch_size → flat_map batch_rows (chunks_of batch_size stream true) ≡ stream
unfolding chunks_of
chunks-whole batch_size stream some =
    let q = length stream / batch_size in
    let near : length stream < q * batch_size + batch_size = lt-div-mul-add some in
    let short : length (drop (q * batch_size) stream) ≤ batch_size = rw (length-drop (q * batch_size) stream) (omega arith) in
    flat_map-append batch_rows (map (full_batch batch_size stream) (numbers_below q)) _
    ∙ rw (full-rows batch_size stream q, take_all batch_size (drop (q * batch_size) stream) short, append-nil (drop (q * batch_size) stream)) (take-append-drop (q * batch_size) stream)

chunks-part : (batch_size : ℕ) (stream : List (List Value)) → flat_map batch_rows (chunks_of batch_size stream false) ++ left_of batch_size stream ≡ stream
unfolding chunks_of
chunks-part batch_size stream =
    let q = length stream / batch_size in
    rw (append-nil (map (full_batch batch_size stream) (numbers_below q)), full-rows batch_size stream q) (take-append-drop (q * batch_size) stream)

-- the first batches have the first rows
pub front-rows : (batch_size : ℕ) (stream : List (List Value)) (ended : Bool) (xs more : List Batch) → 0 < batch_size → xs ++ more ≡ chunks_of batch_size stream ended
    → (rest : List (List Value)) × (flat_map batch_rows xs ++ rest ≡ stream)
front-rows batch_size stream true xs more some e =
    (flat_map batch_rows more, sym (flat_map-append batch_rows xs more) ∙ ap (flat_map batch_rows) e ∙ chunks-whole batch_size stream some)
front-rows batch_size stream false xs more some e = (
  flat_map batch_rows more ++ left_of batch_size stream,
  sym (append_assoc (flat_map batch_rows xs) (flat_map batch_rows more) (left_of batch_size stream))
      ∙ ap (λ l. l ++ left_of batch_size stream) (sym (flat_map-append batch_rows xs more) ∙ ap (flat_map batch_rows) e)
      ∙ chunks-part batch_size stream,
)

-- with a marked batch they are all
pub record IsWhole (batch_size : ℕ) (stream : List (List Value)) (ended : Bool) (xs : List Batch) : Type 0 where
  pub over : ended ≡ true
  pub rows : flat_map batch_rows xs ≡ stream
  pub count : length xs ≡ length stream / batch_size + 1

pub numbers-length : (n : ℕ) → length (numbers_below n) ≡ n
unfolding numbers_below
numbers-length zero = refl
numbers-length (suc n) = omega (arith, length-append (numbers_below n) (n ∷ []), numbers-length n)

pub chunks-count : (batch_size : ℕ) (stream : List (List Value)) (ended : Bool) → length (chunks_of batch_size stream ended) ≡ length stream / batch_size + one_if ended
unfolding chunks_of
chunks-count batch_size stream true =
    length-append (map (full_batch batch_size stream) (numbers_below (length stream / batch_size))) _
    ∙ rw (length-map (numbers_below (length stream / batch_size)) (full_batch batch_size stream), numbers-length (length stream / batch_size)) refl
chunks-count batch_size stream false =
    length-append (map (full_batch batch_size stream) (numbers_below (length stream / batch_size))) []
    ∙ rw (length-map (numbers_below (length stream / batch_size)) (full_batch batch_size stream), numbers-length (length stream / batch_size)) refl

chunks-unended : (batch_size : ℕ) (stream : List (List Value)) → list_any is_marked (chunks_of batch_size stream false) ≡ false
unfolding chunks_of
chunks-unended batch_size stream =
    ap (list_any is_marked) (append-nil (map (full_batch batch_size stream) (numbers_below (length stream / batch_size)))) ∙ full-unmarked batch_size stream (numbers_below (length stream / batch_size))

pub front-whole : (batch_size : ℕ) (stream : List (List Value)) (ended : Bool) (xs more : List Batch) → 0 < batch_size → xs ++ more ≡ chunks_of batch_size stream ended
    → list_any is_marked xs ≡ true → IsWhole batch_size stream ended xs
front-whole batch_size stream ended xs more some e marked =
    let none : more ≡ [] = marked-ends xs more (rw e (chunks-marked batch_size stream ended)) marked in
    let all : xs ≡ chunks_of batch_size stream ended = sym (append-nil xs) ∙ ap (λ l. xs ++ l) (sym none) ∙ e in
    by ended all
  where
    by : (b : Bool) → xs ≡ chunks_of batch_size stream b → IsWhole batch_size stream b xs
    by true all = record { over = refl; rows = ap (flat_map batch_rows) all ∙ chunks-whole batch_size stream some; count = ap length all ∙ chunks-count batch_size stream true }
    by false all = absurd (false≢true (sym (chunks-unended batch_size stream) ∙ sym (ap (list_any is_marked) all) ∙ marked))

-- never more than one after the full ones
pub front-count : (batch_size : ℕ) (stream : List (List Value)) (ended : Bool) (xs more : List Batch) → xs ++ more ≡ chunks_of batch_size stream ended
    → length xs ≤ length stream / batch_size + 1
front-count batch_size stream ended xs more e =
    let all = ap length e ∙ chunks-count batch_size stream ended in
    let parts = length-append xs more in
    by ended all
  where
    by : (b : Bool) → length (xs ++ more) ≡ length stream / batch_size + one_if b → length xs ≤ length stream / batch_size + 1
    by true all = let parts = length-append xs more in omega arith
    by false all = let parts = length-append xs more in omega arith

-- ---- as the stream grows

map-below : {A : Type 0} (f g : ℕ → A) (n : ℕ) → ((k : ℕ) → k < n → f k ≡ g k) → map f (numbers_below n) ≡ map g (numbers_below n)
unfolding numbers_below
map-below f g zero h = refl
map-below f g (suc n) h =
    let front = map-below f g n (λ k less. h k (omega arith)) in
    let last = h n (omega arith) in
    rw (map-append f, map-append g, front, last)

full-below : (batch_size n q : ℕ) (stream : List (List Value)) → n < q → q * batch_size ≤ length stream → n * batch_size + batch_size ≤ length stream
full-below batch_size n q stream less within =
    let more : (n + 1) * batch_size ≤ q * batch_size = mul-le-mul_right batch_size (omega arith) in
    omega arith

piece-longer : (batch_size n q : ℕ) (stream more : List (List Value)) → n < q → q * batch_size ≤ length stream → piece_of batch_size (stream ++ more) n ≡ piece_of batch_size stream n
piece-longer batch_size n q stream more less within =
    let all = full-below batch_size n q stream less within in
    let start : n * batch_size ≤ length stream = omega arith in
    let enough : batch_size ≤ length (drop (n * batch_size) stream) = omega (arith, length-drop (n * batch_size) stream) in
    rw (drop-append-le, take-append-le)

-- full batches stay as the stream grows
pub fulls-longer : (batch_size q : ℕ) (stream more : List (List Value)) → q * batch_size ≤ length stream
    → map (full_batch batch_size (stream ++ more)) (numbers_below q) ≡ map (full_batch batch_size stream) (numbers_below q)
fulls-longer batch_size q stream more within =
    map-below (full_batch batch_size (stream ++ more)) (full_batch batch_size stream) q
    (λ n less. ap (λ (rows : List (List Value)). record { seq = n; rows = rows; last = false }) (piece-longer batch_size n q stream more less within))

-- ---- offered batches

-- of each sender only the last batch may be marked
pub offered-orderly : (query : Query) (positions : List Position) (worker : ℕ) → AreOffered query positions → worker < crew_of query.flow
    → IsOrderly (role_in query worker) (position_at positions worker).taken
unfolding AreOffered batches_for
offered-orderly query positions worker offered less sender known =
    let begins = offered worker less sender known in
    marked-front (taken_from (position_at positions worker).taken sender) begins.0 (rw begins.1 (chunks-marked query.batch_size _ _))
