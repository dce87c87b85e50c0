-- What a read takes of the bytes that a source has left.
use Rattle.std.specs.Prelude.{◌≡◌, ℕ, List, [], Option}
use Rattle.std.specs.Io.KnownBytes.{Consumes, IsAtEnd}

-- the first of the bytes that were left were taken, and none only where none was left
abbrev pub TakesNext : Option (List ℕ) → Option (List ℕ) → List ℕ → Type 0
TakesNext old new bytes = Consumes old new bytes × (bytes ≡ [] → IsAtEnd old)
