-- Walks along a list, whose result so far is that of the elements so far.
use Rattle.std.proofs.Common.{◌≡◌, ℕ, ◌+◌, ◌<◌, ◌≤◌, List, [], ◌∷◌, ◌++◌, length, get_or, take, refl, sym, ap, ◌∙◌, append_assoc}
use Rattle.std.proofs.lemmas.List.{take_all, take_more}

-- one element more, where what a list gives is what its elements give, one after the other
pub walk-more : {X Y : Type 0} (f : List X → List Y) → ((xs ys : List X) → f (xs ++ ys) ≡ f xs ++ f ys)
    → (xs : List X) (i : ℕ) (x : X) (old new : List Y) → i < length xs → x ≡ get_or xs i x → old ≡ f (take i xs) → new ≡ old ++ f (x ∷ []) → new ≡ f (take (i + 1) xs)
walk-more f both xs i x old new h e o n =
    let next : take (i + 1) xs ≡ take i xs ++ x ∷ [] = take_more xs i x h ∙ ap (λ y. take i xs ++ y ∷ []) (sym e) in
    n ∙ ap (λ ys. ys ++ f (x ∷ [])) o ∙ sym (ap f next ∙ both (take i xs) (x ∷ []))

-- the whole list
pub walk-end : {X Y : Type 0} (f : List X → List Y) (xs : List X) (i : ℕ) (all : List Y) → length xs ≤ i → all ≡ f (take i xs) → all ≡ f xs
walk-end f xs i all h e = e ∙ ap f (take_all i xs h)

-- the same after what stood before
pub walk-after : {X Y : Type 0} (f : List X → List Y) → ((xs ys : List X) → f (xs ++ ys) ≡ f xs ++ f ys)
    → (xs : List X) (i : ℕ) (x : X) (start old new : List Y) → i < length xs → x ≡ get_or xs i x → old ≡ start ++ f (take i xs) → new ≡ old ++ f (x ∷ []) → new ≡ start ++ f (take (i + 1) xs)
walk-after f both xs i x start old new h e o n =
    n ∙ ap (λ ys. ys ++ f (x ∷ [])) o ∙ append_assoc start (f (take i xs)) (f (x ∷ [])) ∙ ap (λ ys. start ++ ys) (walk-more f both xs i x (f (take i xs)) (f (take i xs) ++ f (x ∷ [])) h e refl refl)

pub walk-after_end : {X Y : Type 0} (f : List X → List Y) (xs : List X) (i : ℕ) (start all : List Y) → length xs ≤ i → all ≡ start ++ f (take i xs) → all ≡ start ++ f xs
walk-after_end f xs i start all h e = e ∙ ap (λ ys. start ++ f ys) (take_all i xs h)
