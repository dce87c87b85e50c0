-- Who sends to whom, from either side.
use Rattle.std.proofs.Common.{◌≡◌, ℕ, zero, suc, ◌<◌, eqb, List, [], ◌∷◌, ◌++◌, Bool, true, false, if◌then◌else◌, ◌⊎◌, inl, inr, refl, sym, ◌∙◌, arith}
use Rattle.std.specs.Prelude.{filter}
use Rattle.std.specs.List.{list_any}
use Rattle.std.proofs.lemmas.Bool.{eq-eqb, eqb-true, false≢true, or_cases, or_left, or_right}
use Rattle.std.proofs.lemmas.Bool.Decides.{eqb_tells}
use Rattle.amber_rows.specs.Lists.{numbers_below}
use Rattle.amber_rows.specs.Topology.{crew_of, receivers_of, senders_of, sends_to}
use Rattle.amber_rows.specs.declared.flow.Operator.{Operator}

abbrev pub is_in : List ℕ → ℕ → Bool
is_in xs x = list_any (λ y. eqb y x) xs

-- ---- what is left of a list by a test

pub in-filter : (test : ℕ → Bool) (xs : List ℕ) (x : ℕ) → is_in (filter test xs) x ≡ true → (test x ≡ true) × (is_in xs x ≡ true)
in-filter test [] x e = absurd (false≢true e)
in-filter test (y ∷ ys) x e = by (test y) refl e (in-filter test ys x)
  where
    first : test y ≡ true → (eqb y x ≡ true) ⊎ (is_in (filter test ys) x ≡ true) → (is_in (filter test ys) x ≡ true → (test x ≡ true) × (is_in ys x ≡ true))
        → (test x ≡ true) × (is_in (y ∷ ys) x ≡ true)
    first f (inl here) rest = (rw (← eqb-true y x here) f, or_left _ _ here)
    first f (inr there) rest = ((rest there).0, or_right _ _ (rest there).1)

    by : (b : Bool) → test y ≡ b → is_in (if b then y ∷ filter test ys else filter test ys) x ≡ true
        → (is_in (filter test ys) x ≡ true → (test x ≡ true) × (is_in ys x ≡ true)) → (test x ≡ true) × (is_in (y ∷ ys) x ≡ true)
    by true f e rest = first f (or_cases (eqb y x) _ e) rest
    by false f e rest = ((rest e).0, or_right _ _ (rest e).1)

pub filter-in : (test : ℕ → Bool) (xs : List ℕ) (x : ℕ) → test x ≡ true → is_in xs x ≡ true → is_in (filter test xs) x ≡ true
filter-in test [] x f e = absurd (false≢true e)
filter-in test (y ∷ ys) x f e = by (test y) refl (or_cases (eqb y x) _ e) (filter-in test ys x f)
  where
    by : (b : Bool) → test y ≡ b → (eqb y x ≡ true) ⊎ (is_in ys x ≡ true) → (is_in ys x ≡ true → is_in (filter test ys) x ≡ true)
        → is_in (if b then y ∷ filter test ys else filter test ys) x ≡ true
    by true g (inl here) rest = or_left _ _ here
    by true g (inr there) rest = or_right _ _ (rest there)
    by false g (inl here) rest = absurd (false≢true (sym g ∙ rw (eqb-true y x here) f))
    by false g (inr there) rest = rest there

-- ---- the numbers below one

in-append : (xs : List ℕ) (y x : ℕ) → is_in (xs ++ y ∷ []) x ≡ true → (is_in xs x ≡ true) ⊎ (y ≡ x)
in-append [] y x e = by (or_cases (eqb y x) _ e)
  where
    by : (eqb y x ≡ true) ⊎ (false ≡ true) → (false ≡ true) ⊎ (y ≡ x)
    by (inl here) = inr (eqb-true y x here)
    by (inr never) = absurd (false≢true never)
in-append (z ∷ xs) y x e = by (or_cases (eqb z x) _ e) (in-append xs y x)
  where
    by : (eqb z x ≡ true) ⊎ (is_in (xs ++ y ∷ []) x ≡ true) → (is_in (xs ++ y ∷ []) x ≡ true → (is_in xs x ≡ true) ⊎ (y ≡ x)) → (is_in (z ∷ xs) x ≡ true) ⊎ (y ≡ x)
    by (inl here) rest = inl (or_left _ _ here)
    by (inr there) rest = elim (rest there) [ inl in-xs ↦ inl (or_right _ _ in-xs) | inr is ↦ inr is ]

append-in : (xs : List ℕ) (y x : ℕ) → (is_in xs x ≡ true) ⊎ (y ≡ x) → is_in (xs ++ y ∷ []) x ≡ true
append-in [] y x (inl never) = absurd (false≢true never)
append-in [] y x (inr is) = or_left _ _ (eq-eqb y x is)
append-in (z ∷ xs) y x (inl in-xs) = by (or_cases (eqb z x) _ in-xs) (append-in xs y x)
  where
    by : (eqb z x ≡ true) ⊎ (is_in xs x ≡ true) → ((is_in xs x ≡ true) ⊎ (y ≡ x) → is_in (xs ++ y ∷ []) x ≡ true) → is_in (z ∷ (xs ++ y ∷ [])) x ≡ true
    by (inl here) rest = or_left _ _ here
    by (inr there) rest = or_right _ _ (rest (inl there))
append-in (z ∷ xs) y x (inr is) = or_right _ _ (append-in xs y x (inr is))

pub below-in : (n x : ℕ) → is_in (numbers_below n) x ≡ true → x < n
unfolding numbers_below
below-in zero x e = absurd (false≢true e)
below-in (suc n) x e = elim (in-append (numbers_below n) n x e) [ inl before ↦ (let h = below-in n x before in omega arith) | inr is ↦ omega arith ]

pub in-below : (n x : ℕ) → x < n → is_in (numbers_below n) x ≡ true
unfolding numbers_below
in-below zero x h = absurd (omega arith)
in-below (suc n) x h = append-in (numbers_below n) n x
    (elim (eqb_tells n x) [ inl is ↦ inr is.1 | inr other ↦ inl (in-below n x (let ne = other.1 in omega arith)) ])

-- ---- senders and receivers

pub receives : (flow : List Operator) (sender worker : ℕ) → worker < crew_of flow → is_in (senders_of flow worker) sender ≡ true
    → (is_in (receivers_of flow sender) worker ≡ true) × (sender < crew_of flow)
unfolding senders_of receivers_of
receives flow sender worker h e =
    let found = in-filter (λ one. sends_to flow one worker) (numbers_below (crew_of flow)) sender e in
    (filter-in (λ one. sends_to flow sender one) (numbers_below (crew_of flow)) worker found.0 (in-below (crew_of flow) worker h), below-in (crew_of flow) sender found.1)

pub sends : (flow : List Operator) (sender worker : ℕ) → sender < crew_of flow → is_in (receivers_of flow sender) worker ≡ true
    → (is_in (senders_of flow worker) sender ≡ true) × (worker < crew_of flow)
unfolding senders_of receivers_of
sends flow sender worker h e =
    let found = in-filter (λ one. sends_to flow sender one) (numbers_below (crew_of flow)) worker e in
    (filter-in (λ one. sends_to flow one worker) (numbers_below (crew_of flow)) sender found.0 (in-below (crew_of flow) sender h), below-in (crew_of flow) worker found.1)
