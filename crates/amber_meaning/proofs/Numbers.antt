-- Lists of different numbers: what is in them.
use Rattle.std.proofs.Common.{◌≡◌, ℕ, zero, suc, ◌<◌, ◌≤◌, ◌||◌, ◌&&◌, not, cond, eqb, Bool, true, false, List, [], ◌∷◌, ◌++◌, map, filter, refl, sym, ◌∙◌, ap, arith, ◌⊎◌, inl, inr}
use Rattle.std.specs.List.{flat_map, list_any}
use Rattle.std.proofs.lemmas.Bool.{and_parts, cases_lt, both_ways, eq-eqb, eqb-true, false≢true, false_from_ne_true, not-true, or_cases, or_left, or_right}
use Rattle.std.proofs.lemmas.List.{map_push, map-id}
use Rattle.std.proofs.lemmas.List.Folds.{list_any-append}
use Rattle.amber_rows.specs.Lists.{numbers_below}

-- whether a number is in a list
abbrev pub among : ℕ → List ℕ → Bool
among n ns = list_any (λ x. eqb x n) ns

-- no number stands twice
abbrev pub are_different : List ℕ → Bool
are_different [] = true
are_different (n ∷ ns) = not (among n ns) && are_different ns

pub among-first : (n : ℕ) (ns : List ℕ) → among n (n ∷ ns) ≡ true
among-first n ns = or_left (eqb n n) (among n ns) (eq-eqb n n refl)

pub among-more : (n m : ℕ) (ns : List ℕ) → among n ns ≡ true → among n (m ∷ ns) ≡ true
among-more n m ns h = or_right (eqb m n) (among n ns) h

-- ---- members

pub among-either : (n : ℕ) (ns ms : List ℕ) → among n (ns ++ ms) ≡ (among n ns || among n ms)
among-either n ns ms = list_any-append (λ x. eqb x n) ns ms

pub among-left : (n : ℕ) (ns ms : List ℕ) → among n ns ≡ true → among n (ns ++ ms) ≡ true
among-left n ns ms h = among-either n ns ms ∙ or_left (among n ns) (among n ms) h

pub among-right : (n : ℕ) (ns ms : List ℕ) → among n ms ≡ true → among n (ns ++ ms) ≡ true
among-right n ns ms h = among-either n ns ms ∙ or_right (among n ns) (among n ms) h

pub among-cases : (n : ℕ) (ns ms : List ℕ) → among n (ns ++ ms) ≡ true → (among n ns ≡ true) ⊎ (among n ms ≡ true)
among-cases n ns ms h = or_cases (among n ns) (among n ms) (sym (among-either n ns ms) ∙ h)

pub among_step : (m n : ℕ) (ns : List ℕ) (P : Type 0) → among n (m ∷ ns) ≡ true → (m ≡ n → P) → (among n ns ≡ true → P) → P
among_step m n ns P h here there = by (or_cases (eqb m n) (among n ns) h)
  where
    by : (eqb m n ≡ true) ⊎ (among n ns ≡ true) → P
    by (inl e) = here (eqb-true m n e)
    by (inr e) = there e

-- a member of one of the lists that are put one after the other
pub among-flat : (f : ℕ → List ℕ) (k n : ℕ) (ks : List ℕ) → among k ks ≡ true → among n (f k) ≡ true → among n (flat_map f ks) ≡ true
among-flat f k n [] h e = absurd (false≢true h)
among-flat f k n (j ∷ ks) h e =
    among_step j k ks (among n (flat_map f (j ∷ ks)) ≡ true) h
    (λ same. among-left n (f j) (flat_map f ks) (ap (λ i. among n (f i)) same ∙ e))
    (λ there. among-right n (f j) (flat_map f ks) (among-flat f k n ks there e))

-- ---- members of a filter

pub among-kept : (test : ℕ → Bool) (n : ℕ) (ns : List ℕ) → among n ns ≡ true → test n ≡ true → among n (filter test ns) ≡ true
among-kept test n [] h t = absurd (false≢true h)
among-kept test n (m ∷ ns) h t = by (test m) refl (λ there. among-kept test n ns there t)
  where
    by : (b : Bool) → test m ≡ b → (among n ns ≡ true → among n (filter test ns) ≡ true) → among n (cond b (m ∷ filter test ns) (filter test ns)) ≡ true
    by true e rest = among_step m n ns (among n (m ∷ filter test ns) ≡ true) h (λ same. rw same (among-first n (filter test ns))) (λ there. among-more n m (filter test ns) (rest there))
    by false e rest = among_step m n ns (among n (filter test ns) ≡ true) h (λ same. absurd (both_ways (test m) e (ap test same ∙ t))) rest

pub kept-among : (test : ℕ → Bool) (n : ℕ) (ns : List ℕ) → among n (filter test ns) ≡ true → (among n ns ≡ true) × (test n ≡ true)
kept-among test n [] h = absurd (false≢true h)
kept-among test n (m ∷ ns) h = by (test m) refl h (kept-among test n ns)
  where
    by : (b : Bool) → test m ≡ b → among n (cond b (m ∷ filter test ns) (filter test ns)) ≡ true
        → (among n (filter test ns) ≡ true → (among n ns ≡ true) × (test n ≡ true)) → (among n (m ∷ ns) ≡ true) × (test n ≡ true)
    by true e k rest =
        among_step m n (filter test ns) ((among n (m ∷ ns) ≡ true) × (test n ≡ true)) k
        (λ same. (rw same (among-first n ns), ap test (sym same) ∙ e)) (λ there. (among-more n m ns (rest there).0, (rest there).1))
    by false e k rest = (among-more n m ns (rest k).0, (rest k).1)

-- ---- different numbers

different_front : (n : ℕ) (ns : List ℕ) → among n ns ≡ false → are_different ns ≡ true → are_different (n ∷ ns) ≡ true
different_front n ns e d = rw e d

pub different-kept : (test : ℕ → Bool) (ns : List ℕ) → are_different ns ≡ true → are_different (filter test ns) ≡ true
different-kept test [] d = refl
different-kept test (n ∷ ns) d = by (test n) (different-kept test ns (and_parts (not (among n ns)) (are_different ns) d).1)
  where
    by : (b : Bool) → are_different (filter test ns) ≡ true → are_different (cond b (n ∷ filter test ns) (filter test ns)) ≡ true
    by true rest =
        let none : among n ns ≡ false = not-true (among n ns) (and_parts (not (among n ns)) (are_different ns) d).0 in
        different_front n (filter test ns) (false_from_ne_true (among n (filter test ns)) (λ h. both_ways (among n ns) none (kept-among test n ns h).0)) rest
    by false rest = rest

pub different-both : (ns ms : List ℕ) → are_different ns ≡ true → are_different ms ≡ true → ((n : ℕ) → among n ns ≡ true → among n ms ≡ true → ⊥)
    → are_different (ns ++ ms) ≡ true
different-both [] ms d e apart = e
different-both (n ∷ ns) ms d e apart =
    let parts = and_parts (not (among n ns)) (are_different ns) d in
    let left : among n ns ≡ false = not-true (among n ns) parts.0 in
    let right : among n ms ≡ false = false_from_ne_true (among n ms) (apart n (among-first n ns)) in
    let none : among n (ns ++ ms) ≡ false = among-either n ns ms ∙ rw (left, right) refl in
    different_front n (ns ++ ms) none (different-both ns ms parts.1 e (λ m h k. apart m (among-more m n ns h) k))

-- ---- numbers in a row

-- what a function makes of the numbers below this one
abbrev pub row_of_numbers : (ℕ → ℕ) → ℕ → List ℕ
row_of_numbers f n = map f (numbers_below n)

row_more : (f : ℕ → ℕ) (n : ℕ) → row_of_numbers f (suc n) ≡ row_of_numbers f n ++ f n ∷ []
unfolding numbers_below
row_more f n = map_push f (numbers_below n) n

pub in-row : (f : ℕ → ℕ) (n k : ℕ) → k < n → among (f k) (row_of_numbers f n) ≡ true
in-row f zero k h = absurd (omega arith)
in-row f (suc n) k h = rw (row_more f n) (by (cases_lt k n) (in-row f n k))
  where
    by : (k < n) ⊎ (n ≤ k) → (k < n → among (f k) (row_of_numbers f n) ≡ true) → among (f k) (row_of_numbers f n ++ f n ∷ []) ≡ true
    by (inl less) rest = among-left (f k) (row_of_numbers f n) (f n ∷ []) (rest less)
    by (inr most) rest =
        let same : k ≡ n = omega arith in
        among-right (f k) (row_of_numbers f n) (f n ∷ []) (rw same (among-first (f n) []))

pub row-in : (f : ℕ → ℕ) (n m : ℕ) → among m (row_of_numbers f n) ≡ true → (k : ℕ) × (k < n) × (f k ≡ m)
unfolding numbers_below
row-in f zero m h = absurd (false≢true h)
row-in f (suc n) m h = by (among-cases m (row_of_numbers f n) (f n ∷ []) (ap (among m) (sym (row_more f n)) ∙ h)) (row-in f n m)
  where
    by : (among m (row_of_numbers f n) ≡ true) ⊎ (among m (f n ∷ []) ≡ true) → (among m (row_of_numbers f n) ≡ true → (k : ℕ) × (k < n) × (f k ≡ m))
        → (k : ℕ) × (k < suc n) × (f k ≡ m)
    by (inl before) rest = let found = rest before in (found.0, omega (arith, found.1), found.2)
    by (inr last) rest = among_step (f n) m [] ((k : ℕ) × (k < suc n) × (f k ≡ m)) last (λ e. (n, omega arith, e)) (λ e. absurd (false≢true e))

pub different-row : (f : ℕ → ℕ) → ((a b : ℕ) → f a ≡ f b → a ≡ b) → (n : ℕ) → are_different (row_of_numbers f n) ≡ true
unfolding numbers_below
different-row f one zero = refl
different-row f one (suc n) =
    rw (row_more f n) (different-both (row_of_numbers f n) (f n ∷ []) (different-row f one n) refl
    (λ m h k. let found = row-in f n m h in
    among_step (f n) m [] ⊥ k (λ e. let same : found.0 ≡ n = one found.0 n (found.2 ∙ sym e) in omega (arith, found.1, same)) false≢true))

pub in-below : (n k : ℕ) → k < n → among k (numbers_below n) ≡ true
in-below n k h = ap (among k) (sym (map-id (numbers_below n))) ∙ in-row (λ m. m) n k h

pub below-in : (n k : ℕ) → among k (numbers_below n) ≡ true → k < n
below-in n k h =
    let found = row-in (λ m. m) n k (ap (among k) (map-id (numbers_below n)) ∙ h) in
    omega (arith, found.1, found.2)

pub different-below : (n : ℕ) → are_different (numbers_below n) ≡ true
different-below n = ap are_different (sym (map-id (numbers_below n))) ∙ different-row (λ m. m) (λ a b e. e) n
