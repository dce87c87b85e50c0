-- The front part of a piece.
use Rattle.std.proofs.Common.{◌≡◌, ℕ, List, ◌++◌, take, drop}
use Rattle.std.proofs.lemmas.List.{take-append-drop}

-- the first bytes of a piece and what follows them are the piece
pub front_part : (n : ℕ) (piece part : List ℕ) → part ≡ take n piece → part ++ drop n piece ≡ piece
front_part n piece part is = rw is (take-append-drop n piece)
