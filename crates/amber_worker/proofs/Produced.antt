-- What a worker has produced, a row more and a batch more.
use Rattle.std.proofs.Common.{◌≡◌, ℕ, ◌+◌, ◌<◌, ◌≤◌, eqb, ◌&&◌, sym, ◌∙◌, List, [], ◌∷◌, ◌++◌, length, take, drop, Bool, true, false, if◌then◌else◌, refl, ap, arith, append_assoc, length-drop}
use Rattle.std.proofs.lemmas.Bool.{eq-eqb, eqb-true, false≢true}
use Rattle.std.proofs.lemmas.List.{append-nil}
use Rattle.amber_rows.specs.declared.value.Value.{Value}
use Rattle.amber_meaning.specs.Position.{Taken, all_arrivals, have_ended, is_complete, kept, product}
use Rattle.amber_meaning.specs.Task.{Arrival, Role, Task}
use Rattle.amber_meaning.specs.Produce.{closing, produce, yields}

-- ---- a list that is left from a place on

-- something is left, so the place is within the list
pub left-within : {A : Type 0} (n : ℕ) (xs : List A) (y : A) (ys : List A) → drop n xs ≡ y ∷ ys → n + 1 ≤ length xs
left-within n xs y ys e = let lengths = ap length e in omega (arith, length-drop n xs)

-- nothing is left, so the place is not
pub left-nothing : {A : Type 0} (n : ℕ) (xs : List A) → drop n xs ≡ [] → length xs ≤ n
left-nothing n xs e = let lengths = ap length e in omega (arith, length-drop n xs)

-- what follows a list is what is left of both from its end on
pub left-behind : {A : Type 0} (n : ℕ) (xs ys : List A) → n ≡ length xs → drop n (xs ++ ys) ≡ ys
left-behind n xs ys e = rw e (by xs)
  where
    by : (xs : List _) → drop (length xs) (xs ++ ys) ≡ ys
    by [] = refl
    by (x ∷ xs) = by xs

-- ---- what rows yield

pub produce-none : (task : Task) (before arrivals : List Arrival) → produce task before arrivals [] ≡ []
unfolding produce
produce-none task before [] = refl
produce-none task before (one ∷ arrivals) = refl

-- a row more was taken
pub produce-next : (task : Task) (before arrivals : List Arrival) (constants : List (List Value)) (one : Arrival) (more : List Arrival) (now : List Value)
    → drop (length constants) arrivals ≡ one ∷ more
    → produce task before arrivals (constants ++ now ∷ []) ≡ produce task before arrivals constants ++ yields task (before ++ take (length constants) arrivals) one now
unfolding produce
produce-next task before [] [] one more now e = cc
produce-next task before [] (k ∷ constants) one more now e = cc
produce-next task before (x ∷ arrivals) [] one more now e =
    let same : x ≡ one = cc in
    rw (same, produce-none task (before ++ one ∷ []) arrivals, append-nil, append-nil) refl
produce-next task before (x ∷ arrivals) (k ∷ constants) one more now e =
    rw (produce-next task (before ++ x ∷ []) arrivals constants one more now e, append_assoc, append_assoc) refl

-- more was handed than was taken
pub produce-longer : (task : Task) (before arrivals more : List Arrival) (constants : List (List Value)) → length constants ≤ length arrivals
    → produce task before (arrivals ++ more) constants ≡ produce task before arrivals constants
unfolding produce
produce-longer task before [] more [] h = produce-none task before more
produce-longer task before [] more (k ∷ constants) h = absurd (omega arith)
produce-longer task before (x ∷ arrivals) more [] h = refl
produce-longer task before (x ∷ arrivals) more (k ∷ constants) h =
    ap (λ rows. yields task before x k ++ rows) (produce-longer task (before ++ x ∷ []) arrivals more constants (omega arith))

-- a worker to whom more can come has produced what its rows yield
pub product-open : (role : Role) (taken : List Taken) (constants : List (List Value)) → is_complete role taken (length constants) ≡ false
    → product role taken constants ≡ produce role.task [] (all_arrivals role taken) constants
unfolding product
product-open role taken constants e = rw e (append-nil _)

-- and at the end the closing rows besides
pub product-is : (role : Role) (taken : List Taken) (constants : List (List Value))
    → product role taken constants
    ≡ produce role.task [] (all_arrivals role taken) constants ++ (if is_complete role taken (length constants) then closing role.task (all_arrivals role taken) else [])
unfolding product
product-is role taken constants = refl

-- where something is left, more can come
pub not-complete : (role : Role) (taken : List Taken) (rows : ℕ) → rows < length (all_arrivals role taken) → is_complete role taken rows ≡ false
not-complete role taken rows less = by (eqb rows (length (all_arrivals role taken))) (have_ended role.senders taken) refl
  where
    by : (b ended : Bool) → eqb rows (length (all_arrivals role taken)) ≡ b → (ended && b) ≡ false
    by true ended e = let same = eqb-true rows (length (all_arrivals role taken)) e in absurd (omega arith)
    by false true e = refl
    by false false e = refl

-- ---- tests

pub and-turned : (a b : Bool) → (a && b) ≡ (b && a)
and-turned true true = refl
and-turned true false = refl
and-turned false true = refl
and-turned false false = refl

-- two tests that come out alike
pub same-test : (a b c d : ℕ) → (a ≡ b → c ≡ d) → (c ≡ d → a ≡ b) → eqb a b ≡ eqb c d
same-test a b c d there back = by (eqb a b) (eqb c d) refl refl
  where
    by : (x y : Bool) → eqb a b ≡ x → eqb c d ≡ y → x ≡ y
    by true true e f = refl
    by true false e f = absurd (false≢true (sym f ∙ eq-eqb c d (there (eqb-true a b e))))
    by false true e f = absurd (false≢true (sym e ∙ eq-eqb a b (back (eqb-true c d f))))
    by false false e f = refl

-- ---- the rows that are kept

-- of more rows than have a fate the same are kept
pub kept-longer : {A : Type 0} (rows more : List A) (outcomes : List Bool) → length outcomes ≤ length rows → kept (rows ++ more) outcomes ≡ kept rows outcomes
unfolding kept
kept-longer [] [] [] h = refl
kept-longer [] (y ∷ more) [] h = refl
kept-longer [] more (fate ∷ outcomes) h = absurd (omega arith)
kept-longer (x ∷ rows) more [] h = refl
kept-longer (x ∷ rows) more (true ∷ outcomes) h = ap (λ l. x ∷ l) (kept-longer rows more outcomes (omega arith))
kept-longer (x ∷ rows) more (false ∷ outcomes) h = kept-longer rows more outcomes (omega arith)

-- the next row is kept too
pub kept-next : {A : Type 0} (rows : List A) (outcomes : List Bool) (row : A) (more : List A) → drop (length outcomes) rows ≡ row ∷ more
    → kept rows (outcomes ++ true ∷ []) ≡ kept rows outcomes ++ row ∷ []
unfolding kept
kept-next [] [] row more e = cc
kept-next [] (fate ∷ outcomes) row more e = cc
kept-next (x ∷ []) [] row more e = let same : x ≡ row = cc in rw same refl
kept-next (x ∷ y ∷ rows) [] row more e = let same : x ≡ row = cc in rw same refl
kept-next (x ∷ rows) (true ∷ outcomes) row more e = ap (λ l. x ∷ l) (kept-next rows outcomes row more e)
kept-next (x ∷ rows) (false ∷ outcomes) row more e = kept-next rows outcomes row more e
