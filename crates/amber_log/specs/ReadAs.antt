-- What log stands in a file, of which the last write may be torn.
use Rattle.std.specs.Prelude.{◌≡◌, ℕ, ◌==◌, ◌||◌, List, [], ◌∷◌, take, codes, bytes_eq, Result, Bool, true, false, ◌⊎◌, if◌then◌else◌}
use Rattle.amber_log.specs.Grammar.{IsLog}
use Rattle.amber_log.specs.LogText.{log_text, unlines}
use Rattle.amber_log.specs.ReadLines.{empty_log, read_lines}
use Rattle.amber_log.specs.declared.log.Log.{Log}

-- ---- lines

-- a byte before the first of these lines; before none, it begins a line that no line feed ends, which does not count
abbrev pub onto_line : ℕ → List (List ℕ) → List (List ℕ)
onto_line byte [] = []
onto_line byte (bytes ∷ lines) = (byte ∷ bytes) ∷ lines

-- the lines that a line feed ends, without it
unfoldable pub lines_of : List ℕ → List (List ℕ)
lines_of [] = []
lines_of (byte ∷ bytes) = if byte == 10 then [] ∷ lines_of bytes else onto_line byte (lines_of bytes)

-- ---- whole items

-- whether a line ends an item: `cut`, `long`, or one that begins with `do `
unfoldable pub closes : List ℕ → Bool
closes bytes = bytes_eq bytes (codes "cut") || (bytes_eq bytes (codes "long") || bytes_eq (take 3 bytes) (codes "do "))

abbrev pub keep : Bool → List ℕ → List (List ℕ) → List (List ℕ)
keep closing bytes (next ∷ lines) = bytes ∷ next ∷ lines
keep true bytes [] = bytes ∷ []
keep false bytes [] = []

-- the lines up to the last that ends an item
unfoldable pub cut_back : List (List ℕ) → List (List ℕ)
cut_back [] = []
cut_back (bytes ∷ lines) = keep (closes bytes) bytes (cut_back lines)

-- the first line, and the others up to the last that ends an item
unfoldable pub whole_lines : List (List ℕ) → List (List ℕ)
whole_lines [] = []
whole_lines (bytes ∷ lines) = bytes ∷ cut_back lines

-- the longest beginning of a file that is empty or ends with the first line or with a line that ends an item
unfoldable pub whole_items : List ℕ → List ℕ
whole_items bytes = unlines (whole_lines (lines_of bytes))

-- ---- the log

-- the log in whose text the whole items of a file are; the empty log where there are none
abbrev pub IsReadAs : List ℕ → Log → Type 0
IsReadAs bytes log = (IsLog log × (whole_items bytes ≡ log_text log)) ⊎ ((whole_items bytes ≡ []) × (log ≡ empty_log))

-- the log that a file is read as, or the number of the first line that cannot stand there
unfoldable pub read_of : List ℕ → Result Log ℕ
read_of bytes = read_lines (whole_lines (lines_of bytes))
