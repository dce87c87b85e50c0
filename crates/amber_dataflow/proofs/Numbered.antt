-- What is listed by number, and read at a number.
use Rattle.std.proofs.Common.{◌≡◌, refl, sym, ap, ◌∙◌, ℕ, zero, suc, ◌+◌, ◌<◌, ◌≤◌, List, [], ◌∷◌, ◌++◌, length, map, Some, inl, inr, length-append, add-one, arith}
use Rattle.std.specs.List.{slice_get}
use Rattle.std.proofs.lemmas.List.{length-map, map-append}
use Rattle.std.proofs.lemmas.Bool.Decides.{eqb_tells}
use Rattle.amber_rows.specs.Lists.{nth, numbers_below}
use Rattle.amber_rows.specs.declared.flow.Operator.{Operator}
use Rattle.amber_meaning.specs.Stops.{op_numbers}
use Rattle.amber_meaning.proofs.Lists.{nth-next}

pub length-numbers : (n : ℕ) → length (numbers_below n) ≡ n
unfolding numbers_below
length-numbers zero = refl
length-numbers (suc n) = length-append (numbers_below n) (n ∷ []) ∙ ap (λ m. m + 1) (length-numbers n) ∙ add-one n

get-before : {A : Type 0} (xs ys : List A) (i : ℕ) → i < length xs → slice_get (xs ++ ys) i ≡ slice_get xs i
get-before [] ys i less = absurd (omega arith)
get-before (x ∷ xs) ys zero less = refl
get-before (x ∷ xs) ys (suc i) less = get-before xs ys i (omega arith)

get-last : {A : Type 0} (xs : List A) (y : A) → slice_get (xs ++ y ∷ []) (length xs) ≡ Some y
get-last [] y = refl
get-last (x ∷ xs) y = get-last xs y

get-listed : {A : Type 0} (g : ℕ → A) (n i : ℕ) → i < n → slice_get (map g (numbers_below n)) i ≡ Some (g i)
unfolding numbers_below
get-listed g zero i less = absurd (omega arith)
get-listed g (suc n) i less =
    let long : length (map g (numbers_below n)) ≡ n = length-map (numbers_below n) g ∙ length-numbers n in
    ap (λ xs. slice_get xs i) (map-append g (numbers_below n) (n ∷ []))
    ∙ elim (eqb_tells i n) [
      | inl same ↦ ap (slice_get (map g (numbers_below n) ++ g n ∷ [])) (same.1 ∙ sym long) ∙ get-last (map g (numbers_below n)) (g n) ∙ ap (λ k. Some (g k)) (sym same.1)
      | inr other ↦ let ne = other.1 in
          get-before (map g (numbers_below n)) (g n ∷ []) i (rw long (omega arith)) ∙ get-listed g n i (omega arith)
    ]

map-twice : {A : Type 0} (f : ℕ → A) (xs : List ℕ) → map f (map suc xs) ≡ map (λ x. f (suc x)) xs
map-twice f [] = refl
map-twice f (x ∷ xs) = ap (λ ys. f (suc x) ∷ ys) (map-twice f xs)

pub nth-numbers : {A : Type 0} (f : ℕ → A) (flow : List Operator) (op : ℕ) → 0 < op → op ≤ length flow → nth (map f (op_numbers flow)) op ≡ Some (f op)
nth-numbers f flow zero some within = absurd (omega arith)
nth-numbers f flow (suc i) some within = ap (nth (map f (op_numbers flow))) (sym (add-one i)) ∙ nth-next (map f (op_numbers flow)) i ∙ ap (λ xs. slice_get xs i) (map-twice f (numbers_below (length flow))) ∙ get-listed (λ x. f (suc x)) (length flow) i (omega arith)

pub length-ops : (flow : List Operator) → length (op_numbers flow) ≡ length flow
length-ops flow = length-map (numbers_below (length flow)) suc ∙ length-numbers (length flow)
