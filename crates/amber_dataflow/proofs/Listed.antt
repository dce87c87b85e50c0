-- What the operators give, one after the other.
use Rattle.std.proofs.Common.{◌≡◌, sym, ap, ◌∙◌, ℕ, ◌+◌, List, [], ◌∷◌, ◌++◌, map, suc, add-one, append-nil}
use Rattle.std.specs.List.{flat_map}
use Rattle.std.proofs.lemmas.Grind.{flat_map-append}
use Rattle.std.proofs.lemmas.List.{map-append}
use Rattle.amber_rows.specs.Lists.{numbers_below}

pub listed-more : {A : Type 0} (f : ℕ → List A) (n : ℕ) (old new : List A) → old ≡ flat_map f (map suc (numbers_below n)) → new ≡ old ++ f (n + 1)
    → new ≡ flat_map f (map suc (numbers_below (n + 1)))
unfolding numbers_below
listed-more f n old new is more =
    more ∙ ap (λ xs. xs ++ f (n + 1)) is
    ∙ ap (λ xs. flat_map f (map suc (numbers_below n)) ++ xs) (sym (append-nil (f (n + 1))) ∙ ap (λ m. f m ++ []) (add-one n))
    ∙ sym (flat_map-append f (map suc (numbers_below n)) (suc n ∷ []))
    ∙ ap (flat_map f) (sym (map-append suc (numbers_below n) (n ∷ [])))
    ∙ ap (λ m. flat_map f (map suc (numbers_below m))) (sym (add-one n))
