-- The first line of a text.
use Rattle.std.proofs.Common.{◌≡◌, ℕ, ◌+◌, ◌-◌, ◌<◌, ◌≤◌, true, List, [], ◌∷◌, length, get_or, take, drop, map, ap}
use Rattle.std.specs.Str.Lines.{strip_carriage_return}
use Rattle.amber_log.proofs.Pieces.{all_lacks, first_piece, lacks, one_piece}
use Rattle.amber_script.specs.Script.{script_lines}

-- a text without a line feed
pub one_line : (bytes : List ℕ) → lacks 10 bytes ≡ true → script_lines bytes ≡ strip_carriage_return bytes ∷ []
one_line bytes h = ap (map strip_carriage_return) (one_piece 10 bytes h)

-- a text with a line feed at this place, and none before
pub first_line : (bytes : List ℕ) (place : ℕ) → place < length bytes → lacks 10 (take place bytes) ≡ true → get_or bytes place 0 ≡ 10
    → script_lines bytes ≡ strip_carriage_return (take place bytes) ∷ script_lines (take (length bytes - (place + 1)) (drop (place + 1) bytes))
first_line bytes place inside h is = ap (map strip_carriage_return) (first_piece 10 bytes place inside h is)

-- the same, where no place up to the end has one
pub no_feed : (bytes : List ℕ) (place : ℕ) → length bytes ≤ place → lacks 10 (take place bytes) ≡ true → script_lines bytes ≡ strip_carriage_return bytes ∷ []
no_feed bytes place past h = one_line bytes (all_lacks 10 bytes place past h)
