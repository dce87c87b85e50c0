-- Pieces of a list, one after the other.
use Rattle.std.specs.Prelude.{ℕ, ◌-◌, List, [], ◌∷◌, drop, take}

-- the pieces of a list one after the other: each goes from the end of the one before it, the first from `start`, to its own end
unfoldable pub pieces_from : {A : Type 0} → ℕ → List ℕ → List A → List (List A)
pieces_from start [] xs = []
pieces_from start (end ∷ ends) xs = take (end - start) (drop start xs) ∷ pieces_from end ends xs
