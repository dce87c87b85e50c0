-- Refusals that rise, and of which those that tie stand as they stand in a list, are that list in its order.
use Rattle.std.proofs.Common.{◌≡◌, ℕ, suc, ◌+◌, ◌<◌, List, [], ◌∷◌, length, get_or, filter, not, ◌&&◌, cond, Bool, true, false, refl, sym, ap, ◌∙◌, arith}
use Rattle.std.specs.List.Sorted.{IsSortedBy, IsStableBy, ties}
use Rattle.std.specs.Ordering.{is_eq, is_gt, is_lt, ordering_reverse}
use Rattle.std.specs.Cmp.{IsTotalOrder, nat_cmp_total, on_total, then_total}
use Rattle.std.specs.declared.cmp.Ordering.{Ordering}
use Rattle.std.specs.declared.cmp.Ordering.TheVariants.{Less, Equal, Greater}
use Rattle.std.proofs.lemmas.Bool.{false≢true}
use Rattle.std.proofs.lemmas.Cmp.{alike_right, tied_itself, upto}
use Rattle.std.proofs.lemmas.List.Sorted.{ranks_by, sorted_far}
use Rattle.amber_rows.proofs.Sorting.{equal_from}
use Rattle.amber_rows.specs.OrderLaws.{row-total}
use Rattle.amber_meaning.specs.declared.answer.Refusal.{Refusal}
use Rattle.amber_meaning.specs.declared.answer.Refusal.TheVariants as refusal
use Rattle.amber_dataflow.specs.Answers.{insert_refusal, refusal_cmp, refused_cmp, refuser, sort_refusals}

-- ---- the order

refused-antisymm : (x y : Refusal) → refused_cmp x y ≡ ordering_reverse (refused_cmp y x)
refused-antisymm (refusal.Record op m f) (refusal.Record other n g) = nat_cmp_total.antisymm m n
refused-antisymm (refusal.Record op m f) (refusal.Group other l) = refl
refused-antisymm (refusal.Group op k) (refusal.Record other n g) = refl
refused-antisymm (refusal.Group op k) (refusal.Group other l) = row-total.antisymm k l

refused-trans : (x y z : Refusal) → refused_cmp x y ≡ Less → refused_cmp y z ≡ Less → refused_cmp x z ≡ Less
refused-trans (refusal.Record a m f) (refusal.Record b n g) (refusal.Record c o h) p q = nat_cmp_total.trans m n o p q
refused-trans (refusal.Record a m f) (refusal.Record b n g) (refusal.Group c u) p q = refl
refused-trans (refusal.Record a m f) (refusal.Group b t) (refusal.Record c o h) p q = cc
refused-trans (refusal.Record a m f) (refusal.Group b t) (refusal.Group c u) p q = refl
refused-trans (refusal.Group a s) (refusal.Record b n g) (refusal.Record c o h) p q = cc
refused-trans (refusal.Group a s) (refusal.Record b n g) (refusal.Group c u) p q = cc
refused-trans (refusal.Group a s) (refusal.Group b t) (refusal.Record c o h) p q = cc
refused-trans (refusal.Group a s) (refusal.Group b t) (refusal.Group c u) p q = row-total.trans s t u p q

refused-congr : (x y z : Refusal) → refused_cmp x y ≡ Equal → refused_cmp x z ≡ refused_cmp y z
refused-congr (refusal.Record a m f) (refusal.Record b n g) (refusal.Record c o h) p = nat_cmp_total.congr m n o p
refused-congr (refusal.Record a m f) (refusal.Record b n g) (refusal.Group c u) p = refl
refused-congr (refusal.Record a m f) (refusal.Group b t) z p = cc
refused-congr (refusal.Group a s) (refusal.Record b n g) z p = cc
refused-congr (refusal.Group a s) (refusal.Group b t) (refusal.Record c o h) p = refl
refused-congr (refusal.Group a s) (refusal.Group b t) (refusal.Group c u) p = row-total.congr s t u p

pub refusal-total : IsTotalOrder refusal_cmp
refusal-total = then_total (on_total refuser nat_cmp_total) (record { antisymm = refused-antisymm; trans = refused-trans; congr = refused-congr })

-- ---- those that tie

abbrev tied : Refusal → Refusal → Bool
tied z x = is_eq (refusal_cmp z x)

abbrev less : Refusal → Refusal → Bool
less x y = is_lt (refusal_cmp x y)

tie-is : (o : Ordering) → (not (is_lt o) && not (is_lt (ordering_reverse o))) ≡ is_eq o
tie-is Less = refl
tie-is Equal = refl
tie-is Greater = refl

ties-tied : (z : Refusal) (xs : List Refusal) → filter (ties less z) xs ≡ filter (tied z) xs
ties-tied z [] = refl
ties-tied z (x ∷ xs) =
    let one : ties less z x ≡ tied z x = ap (λ o. not (is_lt (refusal_cmp z x)) && not (is_lt o)) (refusal-total.antisymm x z) ∙ tie-is (refusal_cmp z x) in
    ap (λ b. cond b (x ∷ filter (ties less z) xs) (filter (ties less z) xs)) one ∙ ap (λ l. cond (tied z x) (x ∷ l) l) (ties-tied z xs)

tied-own : (x : Refusal) → tied x x ≡ true
tied-own x = ap is_eq (tied_itself refusal-total x)

apart : (z x y : Refusal) → less y x ≡ true → tied z x ≡ true → tied z y ≡ true → ⊥
apart z x y e tx ty =
    false≢true (ap is_lt (sym (equal_from (refusal_cmp z x) tx) ∙ refusal-total.congr z y x (equal_from (refusal_cmp z y) ty)) ∙ e)

pass : (c d : Bool) (x y : Refusal) (longer l : List Refusal) → (c ≡ true → d ≡ true → ⊥) → longer ≡ cond c (x ∷ l) l
    → cond d (y ∷ longer) longer ≡ cond c (x ∷ cond d (y ∷ l) l) (cond d (y ∷ l) l)
pass true true x y longer l none e = absurd (none refl refl)
pass true false x y longer l none e = e
pass false true x y longer l none e = ap (λ t. y ∷ t) e
pass false false x y longer l none e = e

filter-insert : (z x : Refusal) (xs : List Refusal) → filter (tied z) (insert_refusal x xs) ≡ filter (tied z) (x ∷ xs)
unfolding insert_refusal
filter-insert z x [] = refl
filter-insert z x (y ∷ ys) = by (less y x) refl (filter-insert z x ys)
  where
    by : (b : Bool) → less y x ≡ b → filter (tied z) (insert_refusal x ys) ≡ filter (tied z) (x ∷ ys)
        → filter (tied z) (cond b (y ∷ insert_refusal x ys) (x ∷ y ∷ ys)) ≡ filter (tied z) (x ∷ y ∷ ys)
    by false e more = refl
    by true e more = pass (tied z x) (tied z y) x y (filter (tied z) (insert_refusal x ys)) (filter (tied z) ys) (apart z x y e) more

filter-sort : (z : Refusal) (xs : List Refusal) → filter (tied z) (sort_refusals xs) ≡ filter (tied z) xs
unfolding sort_refusals
filter-sort z [] = refl
filter-sort z (x ∷ xs) = filter-insert z x (sort_refusals xs) ∙ ap (λ l. cond (tied z x) (x ∷ l) l) (filter-sort z xs)

-- ---- refusals that rise

abbrev IsBelow : Refusal → List Refusal → Type 0
IsBelow x [] = Unit {0}
IsBelow x (y ∷ ys) = (is_gt (refusal_cmp x y) ≡ false) × IsBelow x ys

abbrev Rises : List Refusal → Type 0
Rises [] = Unit {0}
Rises (x ∷ xs) = IsBelow x xs × Rises xs

not-after : (o : Ordering) → is_lt o ≡ false → is_gt (ordering_reverse o) ≡ false
not-after Less e = cc
not-after Equal e = refl
not-after Greater e = refl

less-not : (o : Ordering) → is_lt o ≡ true → is_gt o ≡ false
less-not Less e = refl
less-not Equal e = refl
less-not Greater e = cc

below-down : (x y : Refusal) (ys : List Refusal) → is_gt (refusal_cmp x y) ≡ false → IsBelow y ys → IsBelow x ys
below-down x y [] h b = tt
below-down x y (z ∷ zs) h b = (upto refusal-total x y z h b.0, below-down x y zs h b.1)

below-insert : (x one : Refusal) (ys : List Refusal) → is_gt (refusal_cmp x one) ≡ false → IsBelow x ys → IsBelow x (insert_refusal one ys)
unfolding insert_refusal
below-insert x one [] h b = (h, tt)
below-insert x one (y ∷ ys) h b = by (less y one) (below-insert x one ys h b.1)
  where
    by : (c : Bool) → IsBelow x (insert_refusal one ys) → IsBelow x (cond c (y ∷ insert_refusal one ys) (one ∷ y ∷ ys))
    by true more = (b.0, more)
    by false more = (h, (b.0, b.1))

rises-insert : (one : Refusal) (xs : List Refusal) → Rises xs → Rises (insert_refusal one xs)
unfolding insert_refusal
rises-insert one [] up = (tt, tt)
rises-insert one (x ∷ xs) up = by (less x one) refl (rises-insert one xs up.1)
  where
    by : (c : Bool) → less x one ≡ c → Rises (insert_refusal one xs) → Rises (cond c (x ∷ insert_refusal one xs) (one ∷ x ∷ xs))
    by true e more = (below-insert x one xs (less-not (refusal_cmp x one) e) up.0, more)
    by false e more =
        let low : is_gt (refusal_cmp one x) ≡ false = ap is_gt (refusal-total.antisymm one x) ∙ not-after (refusal_cmp x one) e in
        ((low, below-down one x xs low up.0), up)

rises-sort : (xs : List Refusal) → Rises (sort_refusals xs)
unfolding sort_refusals
rises-sort [] = tt
rises-sort (x ∷ xs) = rises-insert x (sort_refusals xs) (rises-sort xs)

below-from : (x : Refusal) (xs : List Refusal) → ((j : ℕ) (d : Refusal) → j < length xs → less (get_or xs j d) x ≡ false) → IsBelow x xs
below-from x [] h = tt
below-from x (y ∷ ys) h = (
  ap is_gt (refusal-total.antisymm x y) ∙ not-after (refusal_cmp y x) (h 0 x (omega arith)),
  below-from x ys (λ j d k. h (suc j) d (omega arith)),
)

rises-sorted : (xs : List Refusal) → IsSortedBy less xs → Rises xs
rises-sorted [] up = tt
rises-sorted (x ∷ xs) up = (
  below-from x xs (λ j d h. sorted_far _ (ranks_by refusal-total (λ y. y)) (x ∷ xs) up 0 (suc j) d (omega arith) (omega arith)),
  rises-sorted xs (λ k d l h. let next : suc k + 1 ≡ suc (k + 1) = omega arith in rw next at (up (suc k) d (omega arith) (omega arith))),
)

-- ---- lists that rise and whose ties stand alike are equal

not-equal : (o : Ordering) → is_gt o ≡ false → is_gt (ordering_reverse o) ≡ false → o ≡ Equal
not-equal Less h k = cc
not-equal Equal h k = refl
not-equal Greater h k = cc

own-first : (x : Refusal) (xs : List Refusal) → filter (tied x) (x ∷ xs) ≡ x ∷ filter (tied x) xs
own-first x xs = ap (λ b. cond b (x ∷ filter (tied x) xs) (filter (tied x) xs)) (tied-own x)

tie-below : (y x : Refusal) (ys : List Refusal) (first : Refusal) (rest : List Refusal) → IsBelow y ys → filter (tied x) ys ≡ first ∷ rest → is_gt (refusal_cmp y x) ≡ false
tie-below y x [] first rest b e = cc
tie-below y x (w ∷ ys) first rest b e = by (tied x w) refl e (tie-below y x ys first rest b.1)
  where
    by : (c : Bool) → tied x w ≡ c → cond c (w ∷ filter (tied x) ys) (filter (tied x) ys) ≡ first ∷ rest
        → (filter (tied x) ys ≡ first ∷ rest → is_gt (refusal_cmp y x) ≡ false) → is_gt (refusal_cmp y x) ≡ false
    by true t f more = ap is_gt (alike_right refusal-total x w y (equal_from (refusal_cmp x w) t)) ∙ b.0
    by false t f more = more f

self-below : (x : Refusal) → is_gt (refusal_cmp x x) ≡ false
self-below x = ap is_gt (tied_itself refusal-total x)

strip : (b : Bool) (x : Refusal) (xs ys : List Refusal) → cond b (x ∷ xs) xs ≡ cond b (x ∷ ys) ys → xs ≡ ys
strip true x xs ys e = cc
strip false x xs ys e = e

heads : (x y : Refusal) (xs ys : List Refusal) → x ∷ xs ≡ y ∷ ys → x ≡ y
heads x y xs ys e = cc

unique : (xs ys : List Refusal) → Rises xs → Rises ys → ((z : Refusal) → filter (tied z) xs ≡ filter (tied z) ys) → xs ≡ ys
unique [] [] up rise same = refl
unique [] (y ∷ ys) up rise same = let e : [] ≡ y ∷ filter (tied y) ys = same y ∙ own-first y ys in cc
unique (x ∷ xs) [] up rise same = let e : [] ≡ x ∷ filter (tied x) xs = sym (same x) ∙ own-first x xs in cc
unique (x ∷ xs) (y ∷ ys) up rise same =
    let there : filter (tied x) (y ∷ ys) ≡ x ∷ filter (tied x) xs = sym (same x) ∙ own-first x xs in
    let low = tie-below y x (y ∷ ys) x (filter (tied x) xs) (self-below y, rise.0) there in
    let high = tie-below x y (x ∷ xs) y (filter (tied y) ys) (self-below x, up.0) (same y ∙ own-first y ys) in
    let tie : refusal_cmp x y ≡ Equal = not-equal (refusal_cmp x y) high (ap is_gt (sym (refusal-total.antisymm y x)) ∙ low) in
    let here : filter (tied x) (y ∷ ys) ≡ y ∷ filter (tied x) ys = ap (λ o. cond (is_eq o) (y ∷ filter (tied x) ys) (filter (tied x) ys)) tie in
    let head : x ≡ y = heads x y (filter (tied x) xs) (filter (tied x) ys) (sym there ∙ here) in
    let tail : xs ≡ ys = unique xs ys up.1 rise.1 (λ z.
    strip (tied z x) x (filter (tied z) xs) (filter (tied z) ys)
    (same z ∙ ap (λ w. cond (tied z w) (w ∷ filter (tied z) ys) (filter (tied z) ys)) (sym head))) in
    ap (λ w. w ∷ xs) head ∙ ap (λ l. y ∷ l) tail

-- what a stable sort leaves
pub sorted-refusals : (xs ys : List Refusal) → IsSortedBy less ys → IsStableBy less xs ys → ys ≡ sort_refusals xs
sorted-refusals xs ys up stable =
    unique ys (sort_refusals xs) (rises-sorted ys up) (rises-sort xs)
    (λ z. sym (ties-tied z ys) ∙ stable z ∙ ties-tied z xs ∙ sym (filter-sort z xs))
