-- What stands at a number of a list: where the list was changed at one number, where it was mapped, and where nothing stands.
use Rattle.std.proofs.Common.{◌≡◌, ◌≢◌, refl, sym, ap, ◌∙◌, ℕ, zero, suc, ◌+◌, ◌-◌, ◌<◌, ◌≤◌, List, [], ◌∷◌, ◌++◌, append-nil, append_assoc, length, map, nat_eq, Bool, true, false, None, Some, unwrap_or, option_map, if◌then◌else◌, add-one, arith}
use Rattle.std.specs.List.{flat_map, slice_get}
use Rattle.std.proofs.lemmas.Bool.{eq-eqb, ne_eqb}
use Rattle.amber_rows.specs.Lists.{changed_at, changed_from, nth, numbers_below}
use Rattle.amber_meaning.proofs.Lists.{nth-next}
use Rattle.amber_dataflow.proofs.Listed.{listed-more}

-- ---- changed at one number

module _ {A : Type 0} (change : A → A) where
  length-changed : (number place : ℕ) (xs : List A) → length (changed_from change number place xs) ≡ length xs
  length-changed number place [] = refl
  length-changed number place (x ∷ xs) = ap suc (length-changed number (suc place) xs)

  get-other : (number place : ℕ) (xs : List A) (i : ℕ) → place + i ≢ number → slice_get (changed_from change number place xs) i ≡ slice_get xs i
  get-other number place [] i ne = refl
  get-other number place (x ∷ xs) zero ne = ap (λ b. Some (if b then change x else x)) (ne_eqb place number (λ e. ne (let e = e in omega arith)))
  get-other number place (x ∷ xs) (suc i) ne = get-other number (suc place) xs i (λ e. ne (let e = e in omega arith))

  get-here : (number place : ℕ) (xs : List A) (i : ℕ) → place + i ≡ number → slice_get (changed_from change number place xs) i ≡ option_map change (slice_get xs i)
  get-here number place [] i is = refl
  get-here number place (x ∷ xs) zero is = ap (λ b. Some (if b then change x else x)) (eq-eqb place number (omega arith))
  get-here number place (x ∷ xs) (suc i) is = get-here number (suc place) xs i (omega arith)

  -- at another number nothing has changed
  pub nth-other : (op : ℕ) (xs : List A) (k : ℕ) → k ≢ op → nth (changed_at change op xs) k ≡ nth xs k
  nth-other op xs zero ne = refl
  nth-other op xs (suc i) ne =
      ap (nth (changed_at change op xs)) (sym (add-one i)) ∙ nth-next (changed_at change op xs) i
      ∙ get-other op 1 xs i (λ e. ne (let e = e in omega arith)) ∙ sym (nth-next xs i) ∙ ap (nth xs) (add-one i)

  -- at that number what stood there has
  pub nth-here : (op : ℕ) (xs : List A) → 0 < op → nth (changed_at change op xs) op ≡ option_map change (nth xs op)
  nth-here zero xs some = absurd (omega arith)
  nth-here (suc i) xs some =
      ap (nth (changed_at change (suc i) xs)) (sym (add-one i)) ∙ nth-next (changed_at change (suc i) xs) i
      ∙ get-here (suc i) 1 xs i (omega arith) ∙ ap (option_map change) (sym (nth-next xs i) ∙ ap (nth xs) (add-one i))

  -- the list is as long as before
  pub length-changed_at : (op : ℕ) (xs : List A) → length (changed_at change op xs) ≡ length xs
  length-changed_at op xs = length-changed op 1 xs

-- ---- what is there

-- one that is there, whatever is read where none is
pub nth-some : {A : Type 0} (none : A) (xs : List A) (op : ℕ) → 0 < op → op ≤ length xs → nth xs op ≡ Some (unwrap_or (nth xs op) none)
nth-some none xs zero some within = absurd (omega arith)
nth-some {A} none xs (suc i) some within =
    ap (nth xs) (sym (add-one i)) ∙ nth-next xs i ∙ get xs i (omega arith)
    ∙ ap (λ found. Some (unwrap_or found none)) (sym (nth-next xs i) ∙ ap (nth xs) (add-one i))
  where
    get : (xs : List A) (i : ℕ) → i < length xs → slice_get xs i ≡ Some (unwrap_or (slice_get xs i) none)
    get [] i less = absurd (omega arith)
    get (x ∷ xs) zero less = refl
    get (x ∷ xs) (suc i) less = get xs i (omega arith)

-- where it was changed
pub at-here : {A : Type 0} (none : A) (change : A → A) (op : ℕ) (xs : List A) → 0 < op → op ≤ length xs
    → unwrap_or (nth (changed_at change op xs) op) none ≡ change (unwrap_or (nth xs op) none)
at-here none change op xs some within =
    ap (λ found. unwrap_or found none) (nth-here change op xs some ∙ ap (option_map change) (nth-some none xs op some within))

-- beyond the last nothing is there
pub nth-past : {A : Type 0} (xs : List A) (op : ℕ) → length xs < op → nth xs op ≡ None
nth-past xs zero past = refl
nth-past {A} xs (suc i) past = ap (nth xs) (sym (add-one i)) ∙ nth-next xs i ∙ get xs i (omega arith)
  where
    get : (xs : List A) (i : ℕ) → length xs ≤ i → slice_get xs i ≡ None
    get [] i past = refl
    get (x ∷ xs) zero past = absurd (omega arith)
    get (x ∷ xs) (suc i) past = get xs i (omega arith)

-- ---- mapped

-- where all were mapped
pub at-map : {A B : Type 0} (f : A → B) (xs : List A) (op : ℕ) (none : A) (nothing : B) → nothing ≡ f none
    → unwrap_or (nth (map f xs) op) nothing ≡ f (unwrap_or (nth xs op) none)
at-map {A} {B} f xs op none nothing is = by (nat_eq op 0)
  where
    get : (xs : List A) (i : ℕ) → unwrap_or (slice_get (map f xs) i) nothing ≡ f (unwrap_or (slice_get xs i) none)
    get [] i = is
    get (x ∷ xs) zero = refl
    get (x ∷ xs) (suc i) = get xs i

    by : (b : Bool) → unwrap_or (if b then None else slice_get (map f xs) (op - 1)) nothing ≡ f (unwrap_or (if b then None else slice_get xs (op - 1)) none)
    by true = is
    by false = get xs (op - 1)

-- ---- listed by numbers

-- of a list that goes on after another, one number more
pub listed-after : {A : Type 0} (f : ℕ → List A) (n : ℕ) (first old new : List A) → old ≡ first ++ flat_map f (map suc (numbers_below n)) → new ≡ old ++ f (n + 1)
    → new ≡ first ++ flat_map f (map suc (numbers_below (n + 1)))
listed-after f n first old new is more =
    let before = flat_map f (map suc (numbers_below n)) in
    more ∙ ap (λ xs. xs ++ f (n + 1)) is ∙ append_assoc first before (f (n + 1))
    ∙ ap (λ xs. first ++ xs) (listed-more f n before (before ++ f (n + 1)) refl refl)

-- the same by numbers from 0
pub below-after : {A : Type 0} (f : ℕ → List A) (n : ℕ) (first old new : List A) → old ≡ first ++ flat_map f (numbers_below n) → new ≡ old ++ f n
    → new ≡ first ++ flat_map f (numbers_below (n + 1))
unfolding numbers_below
below-after f n first old new is more =
    more ∙ ap (λ xs. xs ++ f n) is ∙ append_assoc first (flat_map f (numbers_below n)) (f n)
    ∙ ap (λ xs. first ++ xs) (sym (flat-last f (numbers_below n) n) ∙ ap (λ k. flat_map f (numbers_below k)) (sym (add-one n)))
  where
    flat-last : {A : Type 0} (f : ℕ → List A) (xs : List ℕ) (n : ℕ) → flat_map f (xs ++ n ∷ []) ≡ flat_map f xs ++ f n
    flat-last f [] n = append-nil (f n)
    flat-last f (x ∷ xs) n = ap (λ ys. f x ++ ys) (flat-last f xs n) ∙ sym (append_assoc (f x) (flat_map f xs) (f n))

-- ---- the same at each number

-- lists with the same elements are the same
get-same : {A : Type 0} (xs ys : List A) → length xs ≡ length ys → ((i : ℕ) → i < length xs → slice_get xs i ≡ slice_get ys i) → xs ≡ ys
get-same [] [] long same = refl
get-same [] (y ∷ ys) long same = absurd (omega arith)
get-same (x ∷ xs) [] long same = absurd (omega arith)
get-same (x ∷ xs) (y ∷ ys) long same =
    rw (some-same (same 0 (omega arith)), get-same xs ys (omega (arith, long)) (λ i less. same (suc i) (omega arith))) refl
  where
    some-same : Some x ≡ Some y → x ≡ y
    some-same e = ap (λ found. unwrap_or found x) e

-- the same by numbers from 1
pub nth-same : {A : Type 0} (xs ys : List A) → length xs ≡ length ys → ((op : ℕ) → 0 < op → op ≤ length xs → nth xs op ≡ nth ys op) → xs ≡ ys
nth-same xs ys long same = get-same xs ys long (λ i less. sym (nth-next xs i) ∙ same (i + 1) (omega arith) (omega arith) ∙ nth-next ys i)
