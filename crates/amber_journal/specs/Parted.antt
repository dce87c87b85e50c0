-- The words of a line, one after the other.
use Rattle.std.specs.Prelude.{ℕ, ◌==◌, List, [], Option, Some, None}
use Rattle.std.specs.List.{slice_split}

-- the words of a text with one space between each two
abbrev pub words : List ℕ → List (List ℕ)
words bytes = slice_split (λ b. b == 32) bytes

-- the words after a space, if there is one
abbrev pub words_after : Option (List ℕ) → List (List ℕ)
words_after None = []
words_after (Some rest) = words rest
