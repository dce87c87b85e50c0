-- Records in the order of their numbers, whoever had them.
use Rattle.std.proofs.Common.{◌≡◌, ℕ, ◌+◌, ◌<◌, ◌&&◌, ◌||◌, eqb, ltb, List, [], ◌∷◌, map, Result, Ok, Err, Bool, true, false, not, cond, refl, sym, ap, ◌∙◌, arith}
use Rattle.std.proofs.lemmas.Bool.{and_from, and_parts, eqb-false, eqb-true, le-ltb, lt-ltb, ltb-false, ltb-true, ne_eqb, not-true, or_parts}
use Rattle.amber_meaning.specs.Plan.{numbered_record}
use Rattle.amber_rows.specs.declared.value.Value.{Value}
use Rattle.amber_rows.specs.declared.record.RowFault.{RowFault}
use Rattle.amber_meaning.specs.Refused.{refused_records, refused_in}
use Rattle.amber_rows.specs.Shares.{with_numbers}
use Rattle.amber_meaning.specs.Task.{Arrival}
use Rattle.amber_meaning.specs.Views.{by_number, insert_numbered}
use Rattle.amber_meaning.specs.declared.answer.Refusal.TheVariants as refusal
use Rattle.amber_meaning.proofs.Numbers.{among, are_different}
use Rattle.amber_laws.proofs.Bags.{Same, Empty, Keep, Turn, Join, same-any, same-map, same-self}

-- ---- the order of numbers

insert-turn : (x y : Arrival) (zs : List Arrival) → (x.from ≡ y.from → ⊥) → insert_numbered x (insert_numbered y zs) ≡ insert_numbered y (insert_numbered x zs)
unfolding insert_numbered
insert-turn x y [] ne = by (ltb y.from x.from) (ltb x.from y.from) refl refl
  where
    by : (a b : Bool) → ltb y.from x.from ≡ a → ltb x.from y.from ≡ b → cond a (y ∷ x ∷ []) (x ∷ y ∷ []) ≡ cond b (x ∷ y ∷ []) (y ∷ x ∷ [])
    by true true e f = absurd (omega (arith, ltb-true _ _ e, ltb-true _ _ f))
    by true false e f = refl
    by false true e f = refl
    by false false e f = absurd (ne (omega (arith, ltb-false _ _ e, ltb-false _ _ f)))
insert-turn x y (z ∷ zs) ne = by (ltb z.from x.from) (ltb z.from y.from) refl refl (insert-turn x y zs ne)
  where
    ends : (a b : Bool) → ltb y.from x.from ≡ a → ltb x.from y.from ≡ b → ltb z.from x.from ≡ false → ltb z.from y.from ≡ false
        → cond a (y ∷ cond (ltb z.from x.from) (z ∷ insert_numbered x zs) (x ∷ z ∷ zs)) (x ∷ y ∷ z ∷ zs) ≡ cond b (x ∷ cond (ltb z.from y.from) (z ∷ insert_numbered y zs) (y ∷ z ∷ zs)) (y ∷ x ∷ z ∷ zs)
    ends true true e f g h = absurd (omega (arith, ltb-true _ _ e, ltb-true _ _ f))
    ends true false e f g h = rw g refl
    ends false true e f g h = rw h refl
    ends false false e f g h = absurd (ne (omega (arith, ltb-false _ _ e, ltb-false _ _ f)))

    by : (a b : Bool) → ltb z.from x.from ≡ a → ltb z.from y.from ≡ b → insert_numbered x (insert_numbered y zs) ≡ insert_numbered y (insert_numbered x zs)
        → insert_numbered x (cond b (z ∷ insert_numbered y zs) (y ∷ z ∷ zs)) ≡ insert_numbered y (cond a (z ∷ insert_numbered x zs) (x ∷ z ∷ zs))
    by true true e f h = rw (e, f) (ap (λ l. z ∷ l) h)
    by true false e f h =
        let less : ltb y.from x.from ≡ true = lt-ltb _ _ (omega (arith, ltb-true _ _ e, ltb-false _ _ f)) in
        rw (less, e, f) refl
    by false true e f h =
        let less : ltb x.from y.from ≡ true = lt-ltb _ _ (omega (arith, ltb-false _ _ e, ltb-true _ _ f)) in
        rw (e, less, f) refl
    by false false e f h = ends (ltb y.from x.from) (ltb x.from y.from) refl refl e f

-- the numbers of records
abbrev pub numbers_in : List Arrival → List ℕ
numbers_in xs = map (λ (one : Arrival). one.from) xs

different-turn : (a b : ℕ) (p q r : Bool) → eqb b a ≡ eqb a b → (not (eqb b a || p) && (not q && r)) ≡ (not (eqb a b || q) && (not p && r))
different-turn a b p q r e = rw e (by (eqb a b) p q)
  where
    by : (c p q : Bool) → (not (c || p) && (not q && r)) ≡ (not (c || q) && (not p && r))
    by true p q = refl
    by false true true = refl
    by false true false = refl
    by false false true = refl
    by false false false = refl

eqb-turn : (a b : ℕ) → eqb b a ≡ eqb a b
eqb-turn a b = by (eqb b a) (eqb a b) refl refl
  where
    by : (c d : Bool) → eqb b a ≡ c → eqb a b ≡ d → c ≡ d
    by true true e f = refl
    by true false e f = absurd (eqb-false a b f (sym (eqb-true b a e)))
    by false true e f = absurd (eqb-false b a e (sym (eqb-true a b f)))
    by false false e f = refl

same-different : {xs ys : List ℕ} → Same xs ys → are_different xs ≡ are_different ys
same-different Empty = refl
same-different (Keep x xs ys h) = rw (same-any (λ y. eqb y x) h, same-different h) refl
same-different (Turn x y xs) = different-turn x y (among x xs) (among y xs) (are_different xs) (eqb-turn x y)
same-different (Join xs ys zs h k) = same-different h ∙ same-different k

-- records with different numbers have one order
by_number-same : {xs ys : List Arrival} → Same xs ys → are_different (numbers_in xs) ≡ true → by_number xs ≡ by_number ys
unfolding by_number
by_number-same Empty d = refl
by_number-same (Keep x xs ys h) d = ap (insert_numbered x) (by_number-same h (and_parts (not (among x.from (numbers_in xs))) _ d).1)
by_number-same (Turn x y xs) d =
    let apart = or_parts (eqb y.from x.from) _ (not-true _ (and_parts (not (eqb y.from x.from || among x.from (numbers_in xs))) _ d).0) in
    insert-turn x y (by_number xs) (λ e. eqb-false y.from x.from apart.0 (sym e))
by_number-same (Join xs ys zs h k) d =
    by_number-same h d ∙ by_number-same k (sym (same-different (same-map (λ (one : Arrival). one.from) h)) ∙ d)

insert-same : (x : Arrival) (xs : List Arrival) → Same (insert_numbered x xs) (x ∷ xs)
unfolding insert_numbered
insert-same x [] = same-self (x ∷ [])
insert-same x (y ∷ ys) = by (ltb y.from x.from) (insert-same x ys)
  where
    by : (b : Bool) → Same (insert_numbered x ys) (x ∷ ys) → Same (cond b (y ∷ insert_numbered x ys) (x ∷ y ∷ ys)) (x ∷ y ∷ ys)
    by true h = Join (y ∷ insert_numbered x ys) (y ∷ x ∷ ys) (x ∷ y ∷ ys) (Keep y (insert_numbered x ys) (x ∷ ys) h) (Turn y x ys)
    by false h = same-self (x ∷ y ∷ ys)

pub ordered-same : (xs : List Arrival) → Same (by_number xs) xs
unfolding by_number
ordered-same [] = Empty
ordered-same (x ∷ xs) = Join (insert_numbered x (by_number xs)) (x ∷ by_number xs) (x ∷ xs) (insert-same x (by_number xs)) (Keep x (by_number xs) xs (ordered-same xs))

-- ---- numbered records

not-below : (records : List (Result (List Value) RowFault)) (n m : ℕ) → m < n → among m (numbers_in (with_numbers numbered_record n records)) ≡ false
unfolding with_numbers
not-below [] n m h = refl
not-below (one ∷ more) n m h = rw (ne_eqb n m (λ e. omega arith)) (not-below more (n + 1) m (omega arith))

nth-apart : (records : List (Result (List Value) RowFault)) (n : ℕ) → are_different (numbers_in (with_numbers numbered_record n records)) ≡ true
unfolding with_numbers
nth-apart [] n = refl
nth-apart (one ∷ more) n = and_from _ _ (ap not (not-below more (n + 1) n (omega arith))) (nth-apart more (n + 1))

nth-ordered : (records : List (Result (List Value) RowFault)) (n : ℕ) → by_number (with_numbers numbered_record n records) ≡ with_numbers numbered_record n records
unfolding with_numbers by_number insert_numbered
nth-ordered [] n = refl
nth-ordered (one ∷ []) n = refl
nth-ordered (one ∷ next ∷ more) n =
    ap (insert_numbered (record { from = n; what = one })) (nth-ordered (next ∷ more) (n + 1))
    ∙ rw (le-ltb (n + 1) n (omega arith)) refl

-- records that were dealt out stand, put in order, as they were
pub records-ordered : (records : List (Result (List Value) RowFault)) (xs : List Arrival) → Same xs (with_numbers numbered_record 1 records) → by_number xs ≡ with_numbers numbered_record 1 records
records-ordered records xs h =
    by_number-same h (same-different (same-map (λ (one : Arrival). one.from) h) ∙ nth-apart records 1) ∙ nth-ordered records 1

-- those with a fault are refused
pub records-refused : (op : ℕ) (records : List (Result (List Value) RowFault)) (n : ℕ) → refused_in op (with_numbers numbered_record n records) ≡ refused_records op n records
unfolding with_numbers refused_records
records-refused op [] n = refl
records-refused op (Ok row ∷ more) n = records-refused op more (n + 1)
records-refused op (Err why ∷ more) n = ap (λ l. refusal.Record op n why ∷ l) (records-refused op more (n + 1))
