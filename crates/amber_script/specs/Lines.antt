-- The lines of a text that grows: those that a line feed ends, and the one that is still open.
use Rattle.std.specs.Prelude.{◌≡◌, ℕ, ◌==◌, not, List, [], ◌∷◌, ◌++◌, map, Bool, if◌then◌else◌}
use Rattle.std.specs.List.{list_all}
use Rattle.std.specs.Str.Lines.{strip_carriage_return}
use Rattle.amber_log.specs.ReadAs.{lines_of}
use Rattle.amber_script.specs.Script.{script_lines}

-- the lines that a line feed ends. One carriage return at a line's end is dropped
abbrev pub ended_lines : List ℕ → List (List ℕ)
ended_lines bytes = map strip_carriage_return (lines_of bytes)

-- none of these bytes is a line feed
abbrev pub is_within_line : List ℕ → Bool
is_within_line bytes = list_all (λ byte. not (byte == 10)) bytes

-- the line that no line feed has ended yet: what is behind the last line feed, or all where there is none
unfoldable pub open_line : List ℕ → List ℕ
open_line [] = []
open_line (byte ∷ bytes) = if is_within_line (byte ∷ bytes) then byte ∷ bytes else open_line bytes

-- ---- laws

-- the lines of a text are those that a line feed ends, and then the open one
abbrev pub LinesAreEndedOrOpen : Type 0
LinesAreEndedOrOpen = (bytes : List ℕ) → script_lines bytes ≡ ended_lines bytes ++ strip_carriage_return (open_line bytes) ∷ []

-- where a text goes on, so does its open line, and the lines that were ended stay
abbrev pub LinesGoOn : Type 0
LinesGoOn = (bytes more : List ℕ) → (ended_lines (bytes ++ more) ≡ ended_lines bytes ++ ended_lines (open_line bytes ++ more))
    × (open_line (bytes ++ more) ≡ open_line (open_line bytes ++ more))

-- behind a line feed another text begins
abbrev pub LinesBeginAnew : Type 0
LinesBeginAnew = (bytes more : List ℕ) → open_line bytes ≡ [] → (script_lines (bytes ++ more) ≡ ended_lines bytes ++ script_lines more)
    × (ended_lines (bytes ++ more) ≡ ended_lines bytes ++ ended_lines more) × (open_line (bytes ++ more) ≡ open_line more)
