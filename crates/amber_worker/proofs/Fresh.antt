-- Whom a new worker has as senders and receivers.
use Rattle.std.proofs.Common.{◌≡◌, ℕ, zero, suc, ◌+◌, ◌<◌, ◌++◌, map, take, arith, List, [], ◌∷◌, length, All, get_or, true, false, refl, sym, ap, ◌∙◌}
use Rattle.std.proofs.lemmas.List.{map-append}
use Rattle.amber_rows.specs.Lists.{numbers_below}
use Rattle.std.proofs.lemmas.Bool.{and_parts}
use Rattle.amber_rows.specs.Topology.{crew_of, first_worker_of, follower_of, keyed_receiver_of, op_of, reader_of, reads, receiver_of, receivers_of, senders_of, sends_to, what_at, worker_count}
use Rattle.amber_rows.specs.Kinds.{is_keyed, side_keys}
use Rattle.amber_rows.specs.Routing.{key_bytes_of, route_of}
use Rattle.amber_rows.specs.declared.value.Value.{Value}
use Rattle.amber_rows.proofs.CrewFacts.{has-reader, placed}
use Rattle.amber_rows.specs.declared.flow.Operator.{Operator}
use Rattle.amber_meaning.proofs.Numbers.{among, among-first, among-more, below-in, kept-among}

-- a number stands among those of its list
at-among : (ns : List ℕ) (k d : ℕ) → k < length ns → among (get_or ns k d) ns ≡ true
at-among [] k d less = absurd (omega arith)
at-among (n ∷ ns) zero d less = among-first n ns
at-among (n ∷ ns) (suc k) d less = among-more (get_or ns k d) n ns (at-among ns k d (omega arith))

-- a sender is a worker
pub sender-known : (flow : List Operator) (worker sender : ℕ) → among sender (senders_of flow worker) ≡ true → sender < crew_of flow
unfolding senders_of
sender-known flow worker sender h = below-in (crew_of flow) sender (kept-among (λ n. sends_to flow n worker) sender (numbers_below (crew_of flow)) h).0

pub sender-within : (flow : List Operator) (worker k d : ℕ) → k < length (senders_of flow worker) → get_or (senders_of flow worker) k d < crew_of flow
sender-within flow worker k d less = sender-known flow worker (get_or (senders_of flow worker) k d) (at-among (senders_of flow worker) k d less)

pub senders-within : (flow : List Operator) (worker : ℕ) → All (λ (n : ℕ). n < crew_of flow) (senders_of flow worker)
senders-within flow worker k d less = sender-within flow worker k d less

-- one more has the next number
pub one-more : {A : Type 0} (number_of : A → ℕ) (ns : List ℕ) (place : ℕ) (made : List A) (one : A) → place < length ns → map number_of made ≡ take place ns
    → number_of one ≡ get_or ns place 0 → map number_of (made ++ one ∷ []) ≡ take (place + 1) ns
one-more number_of ns place made one less before own =
    map-append number_of made (one ∷ []) ∙ ap (λ l. l ++ number_of one ∷ []) before ∙ ap (λ n. take place ns ++ n ∷ []) own ∙ sym (take-next ns place less)
    ∙ ap (λ n. take n ns) next
  where
    next : suc place ≡ place + 1
    next = omega arith

    take-next : (xs : List ℕ) (n : ℕ) → n < length xs → take (suc n) xs ≡ take n xs ++ get_or xs n 0 ∷ []
    take-next [] n less = absurd (omega arith)
    take-next (x ∷ xs) zero less = refl
    take-next (x ∷ xs) (suc n) less = ap (λ l. x ∷ l) (take-next xs n (omega arith))

-- ---- to whom a row goes

pub route-follows : (flow : List Operator) (worker reader : ℕ) (row : List Value) → reader ≡ reader_of flow (op_of flow worker) → is_keyed (what_at flow reader) ≡ false
    → follower_of flow worker ≡ receiver_of flow worker row
unfolding receiver_of
route-follows flow worker reader row is keyed = rw (rw is at keyed) refl

pub route-keyed : (flow : List Operator) (worker reader : ℕ) (row : List Value) (keys : List ℕ) (first count : ℕ) → reader ≡ reader_of flow (op_of flow worker)
    → is_keyed (what_at flow reader) ≡ true → keys ≡ side_keys (what_at flow reader) (op_of flow worker) → first ≡ first_worker_of flow reader → count ≡ worker_count flow reader
    → first + route_of (key_bytes_of keys row) count ≡ receiver_of flow worker row
unfolding receiver_of keyed_receiver_of
route-keyed flow worker reader row keys first count is keyed keys_is first_is count_is = rw (keys_is, first_is, count_is, is, rw is at keyed) refl

sends-reads : (flow : List Operator) (sender worker : ℕ) → sends_to flow sender worker ≡ true → reads (what_at flow (op_of flow worker)) (op_of flow sender) ≡ true
unfolding sends_to
sends-reads flow sender worker h = (and_parts (reads (what_at flow (op_of flow worker)) (op_of flow sender)) _ h).0

-- where there is no reader there is no receiver
pub no-reader : (flow : List Operator) (worker : ℕ) (P : Type 0) → reader_of flow (op_of flow worker) ≡ 0 → 0 < length (receivers_of flow worker) → P
unfolding receivers_of
no-reader flow worker P none some =
    let receiver = get_or (receivers_of flow worker) 0 0 in
    let both = kept-among (λ n. sends_to flow worker n) receiver (numbers_below (crew_of flow)) (at-among (receivers_of flow worker) 0 0 some) in
    let at = placed flow receiver (below-in (crew_of flow) receiver both.0) in
    let found = has-reader flow (op_of flow worker) (op_of flow receiver) at.some at.within (sends-reads flow worker receiver both.1) in
    absurd (omega arith)
