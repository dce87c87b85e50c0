-- What comes of several elements, one more at a time.
use Rattle.std.proofs.Common.{◌≡◌, ℕ, ◌+◌, ◌<◌, ◌&&◌, List, [], ◌∷◌, ◌++◌, length, take, drop, get_or, Option, Bool, sym, ap, ◌∙◌, append_assoc}
use Rattle.std.specs.List.{flat_map}
use Rattle.std.proofs.lemmas.Grind.{flat_map-append}
use Rattle.std.proofs.lemmas.List.{append-nil, drop_more, take_more}
use Rattle.amber_rows.specs.declared.value.Value.{Value}
use Rattle.amber_rows.specs.declared.cond.Cond.{Cond}
use Rattle.amber_operators.specs.ManyRows.{lets_by}
use Rattle.amber_operators.specs.declared.letting_by.Gate.{Gate}
use Rattle.amber_operators.proofs.Lists.{take-next}

-- one more of a list
pub flat-more : {A B : Type 0} (f : A → List B) (xs ys : List A) (x : A) → flat_map f (xs ++ x ∷ []) ≡ flat_map f xs ++ f x
flat-more f xs ys x = flat_map-append f xs (x ∷ []) ∙ ap (λ l. flat_map f xs ++ l) (append-nil (f x))

pub flat-next : {A B : Type 0} (f : A → List B) (xs : List A) (i : ℕ) (x : A) → i < length xs → x ≡ get_or xs i x → flat_map f (take (i + 1) xs) ≡ flat_map f (take i xs) ++ f x
flat-next f xs i x less is = ap (flat_map f) (take_more xs i x less ∙ ap (λ y. take i xs ++ y ∷ []) (sym is)) ∙ flat-more f (take i xs) [] x

-- the first of those that are left
pub flat-front : {A B : Type 0} (f : A → List B) (xs : List A) (i : ℕ) (x : A) (ys : List A) → drop i xs ≡ x ∷ ys → flat_map f (take (i + 1) xs) ≡ flat_map f (take i xs) ++ f x
flat-front f xs i x ys left = ap (flat_map f) (take-next i xs x ys left) ∙ flat-more f (take i xs) [] x

-- what comes of the next is looked at
pub items-step : {A : Type 0} (f : A → List (List Value)) (when : Option Cond) (gate next : Gate) (xs : List A) (i : ℕ) (x : A) (passes : Bool) → i < length xs → x ≡ get_or xs i x
    → ((later : List (List Value)) → (passes && lets_by when next later) ≡ lets_by when gate (f x ++ later))
    → (later : List (List Value)) → (passes && lets_by when next (flat_map f (drop (i + 1) xs) ++ later)) ≡ lets_by when gate (flat_map f (drop i xs) ++ later)
items-step f when gate next xs i x passes less is step later =
    step (flat_map f (drop (i + 1) xs) ++ later)
    ∙ ap (lets_by when gate) (sym (append_assoc (f x) (flat_map f (drop (i + 1) xs)) later))
    ∙ ap (λ l. lets_by when gate (l ++ later)) (ap (λ y. f y ++ flat_map f (drop (i + 1) xs)) is ∙ sym (ap (flat_map f) (drop_more xs i x less)))
