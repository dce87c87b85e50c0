-- What refusals in their order are: operator by operator, records by their numbers, and keys in the order of rows.
use Rattle.std.proofs.Common.{◌≡◌, refl, sym, ap, ◌∙◌, ℕ, ◌<◌, ◌≤◌, eqb, ltb, cond, List, [], ◌∷◌, ◌++◌, map, Result, Ok, Err, Bool, true, false, arith}
use Rattle.std.specs.Cmp.{nat_cmp_is, nat_cmp_total}
use Rattle.std.specs.Ordering.{is_gt, is_lt, nat_cmp, ordering_reverse, ordering_then}
use Rattle.std.specs.declared.cmp.Ordering.{Ordering}
use Rattle.std.specs.declared.cmp.Ordering.TheVariants.{Less, Equal, Greater}
use Rattle.std.proofs.lemmas.Bool.{le-ltb, ltb-false, ltb-true}
use Rattle.std.proofs.lemmas.Cmp.{tied_itself}
use Rattle.amber_rows.specs.Order.{insert_row, row_cmp, sort_rows}
use Rattle.amber_rows.specs.OrderLaws.{row-total}
use Rattle.amber_rows.specs.declared.record.RowFault.{RowFault}
use Rattle.amber_rows.specs.declared.value.Value.{Value}
use Rattle.amber_meaning.specs.Refused.{refusal_in, refused_in}
use Rattle.amber_meaning.specs.Task.{Arrival}
use Rattle.amber_meaning.specs.Views.{by_number, insert_numbered}
use Rattle.amber_meaning.specs.declared.answer.Refusal.{Refusal}
use Rattle.amber_meaning.specs.declared.answer.Refusal.TheVariants as refusal
use Rattle.amber_dataflow.specs.Answers.{insert_refusal, refusal_cmp, refused_cmp, refuser, sort_refusals}

-- ---- of one operator after those of others

-- none is of a later operator
abbrev pub AreUpTo : ℕ → List Refusal → Type 0
AreUpTo op [] = Unit {0}
AreUpTo op (one ∷ more) = (refuser one ≤ op) × AreUpTo op more

-- all are of later operators
abbrev pub AreBehind : ℕ → List Refusal → Type 0
AreBehind op [] = Unit {0}
AreBehind op (one ∷ more) = (op < refuser one) × AreBehind op more

later-not-less : (x y : Refusal) → refuser x < refuser y → is_lt (refusal_cmp y x) ≡ false
later-not-less x y h = ap (λ o. is_lt (ordering_then o (refused_cmp y x))) (sym (nat_cmp_is (refuser y) (refuser x) Greater h))

behind-insert : (op : ℕ) (one : Refusal) (ys : List Refusal) → op < refuser one → AreBehind op ys → AreBehind op (insert_refusal one ys)
unfolding insert_refusal
behind-insert op one [] h b = (h, tt)
behind-insert op one (y ∷ ys) h b = by (is_lt (refusal_cmp y one)) (behind-insert op one ys h b.1)
  where
    by : (c : Bool) → AreBehind op (insert_refusal one ys) → AreBehind op (cond c (y ∷ insert_refusal one ys) (one ∷ y ∷ ys))
    by true more = (b.0, more)
    by false more = (h, (b.0, b.1))

behind-sort : (op : ℕ) (ys : List Refusal) → AreBehind op ys → AreBehind op (sort_refusals ys)
unfolding sort_refusals
behind-sort op [] b = tt
behind-sort op (y ∷ ys) b = behind-insert op y (sort_refusals ys) b.0 (behind-sort op ys b.1)

insert-before : (op : ℕ) (one : Refusal) (xs ys : List Refusal) → refuser one ≤ op → AreBehind op ys → insert_refusal one (xs ++ ys) ≡ insert_refusal one xs ++ ys
unfolding insert_refusal
insert-before op one [] [] low b = refl
insert-before op one [] (y ∷ ys) low b =
    let high = b.0 in
    ap (λ c. cond c (y ∷ insert_refusal one ys) (one ∷ y ∷ ys)) (later-not-less one y (omega arith))
insert-before op one (x ∷ xs) ys low b = by (is_lt (refusal_cmp x one)) (insert-before op one xs ys low b)
  where
    by : (c : Bool) → insert_refusal one (xs ++ ys) ≡ insert_refusal one xs ++ ys
        → cond c (x ∷ insert_refusal one (xs ++ ys)) (one ∷ x ∷ (xs ++ ys)) ≡ cond c (x ∷ insert_refusal one xs) (one ∷ x ∷ xs) ++ ys
    by true more = ap (λ l. x ∷ l) more
    by false more = refl

-- those of later operators stand behind
pub sort-append : (op : ℕ) (xs ys : List Refusal) → AreUpTo op xs → AreBehind op ys → sort_refusals (xs ++ ys) ≡ sort_refusals xs ++ sort_refusals ys
unfolding sort_refusals
sort-append op [] ys low high = refl
sort-append op (x ∷ xs) ys low high =
    ap (insert_refusal x) (sort-append op xs ys low.1 high) ∙ insert-before op x (sort_refusals xs) (sort_refusals ys) low.0 (behind-sort op ys high)

-- ---- keys

less-turned : (o : Ordering) → is_lt (ordering_reverse o) ≡ is_gt o
less-turned Less = refl
less-turned Equal = refl
less-turned Greater = refl

key-less : (op : ℕ) (k l : List Value) → is_lt (refusal_cmp (refusal.Group op l) (refusal.Group op k)) ≡ is_gt (row_cmp k l)
key-less op k l =
    ap (λ o. is_lt (ordering_then o (row_cmp l k))) (tied_itself nat_cmp_total op) ∙ ap is_lt (row-total.antisymm l k) ∙ less-turned (row_cmp k l)

insert-key : (op : ℕ) (k : List Value) (keys : List (List Value)) → insert_refusal (refusal.Group op k) (map (refusal.Group op) keys) ≡ map (refusal.Group op) (insert_row k keys)
unfolding insert_refusal insert_row
insert-key op k [] = refl
insert-key op k (l ∷ keys) =
    ap (λ c. cond c (refusal.Group op l ∷ insert_refusal (refusal.Group op k) (map (refusal.Group op) keys)) (refusal.Group op k ∷ refusal.Group op l ∷ map (refusal.Group op) keys)) (key-less op k l)
    ∙ by (is_gt (row_cmp k l)) (insert-key op k keys)
  where
    by : (c : Bool) → insert_refusal (refusal.Group op k) (map (refusal.Group op) keys) ≡ map (refusal.Group op) (insert_row k keys)
        → cond c (refusal.Group op l ∷ insert_refusal (refusal.Group op k) (map (refusal.Group op) keys)) (refusal.Group op k ∷ refusal.Group op l ∷ map (refusal.Group op) keys)
        ≡ map (refusal.Group op) (cond c (l ∷ insert_row k keys) (k ∷ l ∷ keys))
    by true more = ap (λ t. refusal.Group op l ∷ t) more
    by false more = refl

-- keys of groups stand in the order of rows
pub sort-keys : (op : ℕ) (keys : List (List Value)) → sort_refusals (map (refusal.Group op) keys) ≡ map (refusal.Group op) (sort_rows keys)
unfolding sort_refusals sort_rows
sort-keys op [] = refl
sort-keys op (k ∷ keys) = ap (insert_refusal (refusal.Group op k)) (sort-keys op keys) ∙ insert-key op k (sort_rows keys)

-- ---- records

less-numbers : (m n : ℕ) → is_lt (nat_cmp m n) ≡ ltb m n
less-numbers m n = by (ltb m n) (eqb m n)
  where
    by : (b c : Bool) → is_lt (cond b Less (cond c Equal Greater)) ≡ b
    by true c = refl
    by false true = refl
    by false false = refl

record-less : (op m n : ℕ) (f g : RowFault) → is_lt (refusal_cmp (refusal.Record op m f) (refusal.Record op n g)) ≡ ltb m n
record-less op m n f g = ap (λ o. is_lt (ordering_then o (nat_cmp m n))) (tied_itself nat_cmp_total op) ∙ less-numbers m n

-- records whose numbers rise, from this one on
abbrev Rise : ℕ → List Arrival → Type 0
Rise least [] = Unit {0}
Rise least (one ∷ more) = (least ≤ one.from) × Rise one.from more

rise-lower : (a b : ℕ) (arrivals : List Arrival) → a ≤ b → Rise b arrivals → Rise a arrivals
rise-lower a b [] h r = tt
rise-lower a b (one ∷ more) h r = (let here = r.0 in omega arith, r.1)

rise-insert : (least : ℕ) (one : Arrival) (arrivals : List Arrival) → least ≤ one.from → Rise least arrivals → Rise least (insert_numbered one arrivals)
unfolding insert_numbered
rise-insert least one [] h r = (h, tt)
rise-insert least one (other ∷ more) h r = by (ltb other.from one.from) refl (λ low. rise-insert other.from one more low r.1)
  where
    by : (b : Bool) → ltb other.from one.from ≡ b → (other.from ≤ one.from → Rise other.from (insert_numbered one more))
        → Rise least (cond b (other ∷ insert_numbered one more) (one ∷ other ∷ more))
    by true e rest = (r.0, rest (let less = ltb-true other.from one.from e in omega arith))
    by false e rest = (h, (ltb-false other.from one.from e, r.1))

rise-sort : (arrivals : List Arrival) → Rise 0 (by_number arrivals)
unfolding by_number
rise-sort [] = tt
rise-sort (one ∷ more) = rise-insert 0 one (by_number more) (omega arith) (rise-sort more)

-- a record stands before those with greater numbers
insert-first : (op n : ℕ) (why : RowFault) (arrivals : List Arrival) → Rise n arrivals
    → insert_refusal (refusal.Record op n why) (refused_in op arrivals) ≡ refusal.Record op n why ∷ refused_in op arrivals
unfolding insert_refusal
insert-first op n why [] r = refl
insert-first op n why (other ∷ more) r = by other.what (insert-first op n why more (rise-lower n other.from more r.0 r.1))
  where
    by : (what : Result (List Value) RowFault) → insert_refusal (refusal.Record op n why) (refused_in op more) ≡ refusal.Record op n why ∷ refused_in op more
        → insert_refusal (refusal.Record op n why) (refusal_in op other.from what ++ refused_in op more) ≡ refusal.Record op n why ∷ (refusal_in op other.from what ++ refused_in op more)
    by (Ok row) rest = rest
    by (Err fault) rest =
        ap (λ c. cond c (refusal.Record op other.from fault ∷ insert_refusal (refusal.Record op n why) (refused_in op more))
        (refusal.Record op n why ∷ refusal.Record op other.from fault ∷ refused_in op more)) (record-less op other.from n fault why ∙ le-ltb other.from n r.0)

insert-record : (op least n : ℕ) (why : RowFault) (arrivals : List Arrival) → Rise least arrivals
    → insert_refusal (refusal.Record op n why) (refused_in op arrivals) ≡ refused_in op (insert_numbered (record { from = n; what = Err why }) arrivals)
unfolding insert_refusal insert_numbered
insert-record op least n why [] r = refl
insert-record op least n why (other ∷ more) r = by (ltb other.from n) refl (insert-record op other.from n why more r.1)
  where
    skip : (what : Result (List Value) RowFault) → ltb other.from n ≡ true
        → insert_refusal (refusal.Record op n why) (refused_in op more) ≡ refused_in op (insert_numbered (record { from = n; what = Err why }) more)
        → insert_refusal (refusal.Record op n why) (refusal_in op other.from what ++ refused_in op more)
        ≡ refusal_in op other.from what ++ refused_in op (insert_numbered (record { from = n; what = Err why }) more)
    skip (Ok row) e rest = rest
    skip (Err fault) e rest =
        ap (λ c. cond c (refusal.Record op other.from fault ∷ insert_refusal (refusal.Record op n why) (refused_in op more))
        (refusal.Record op n why ∷ refusal.Record op other.from fault ∷ refused_in op more)) (record-less op other.from n fault why ∙ e)
        ∙ ap (λ t. refusal.Record op other.from fault ∷ t) rest

    by : (b : Bool) → ltb other.from n ≡ b
        → insert_refusal (refusal.Record op n why) (refused_in op more) ≡ refused_in op (insert_numbered (record { from = n; what = Err why }) more)
        → insert_refusal (refusal.Record op n why) (refusal_in op other.from other.what ++ refused_in op more)
        ≡ refused_in op (cond b (other ∷ insert_numbered (record { from = n; what = Err why }) more) (record { from = n; what = Err why } ∷ other ∷ more))
    by true e rest = skip other.what e rest
    by false e rest = insert-first op n why (other ∷ more) (ltb-false other.from n e, r.1)

insert-fine : (op from : ℕ) (row : List Value) (arrivals : List Arrival) → refused_in op (insert_numbered (record { from = from; what = Ok row }) arrivals) ≡ refused_in op arrivals
unfolding insert_numbered
insert-fine op from row [] = refl
insert-fine op from row (other ∷ more) = by (ltb other.from from) (insert-fine op from row more)
  where
    by : (b : Bool) → refused_in op (insert_numbered (record { from = from; what = Ok row }) more) ≡ refused_in op more
        → refused_in op (cond b (other ∷ insert_numbered (record { from = from; what = Ok row }) more) (record { from = from; what = Ok row } ∷ other ∷ more))
        ≡ refusal_in op other.from other.what ++ refused_in op more
    by true rest = ap (λ l. refusal_in op other.from other.what ++ l) rest
    by false rest = refl

-- records stand by their numbers
pub sort-records : (op : ℕ) (arrivals : List Arrival) → sort_refusals (refused_in op arrivals) ≡ refused_in op (by_number arrivals)
unfolding sort_refusals by_number
sort-records op [] = refl
sort-records op (one ∷ more) = by one.what (sort-records op more)
  where
    by : (what : Result (List Value) RowFault) → sort_refusals (refused_in op more) ≡ refused_in op (by_number more)
        → sort_refusals (refusal_in op one.from what ++ refused_in op more) ≡ refused_in op (insert_numbered (record { from = one.from; what = what }) (by_number more))
    by (Ok row) rest = rest ∙ sym (insert-fine op one.from row (by_number more))
    by (Err why) rest =
        ap (insert_refusal (refusal.Record op one.from why)) rest ∙ insert-record op 0 one.from why (by_number more) (rise-sort more)
