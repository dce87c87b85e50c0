-- The lines of a text, and the fields of a line.
use Rattle.std.specs.Prelude.{◌≡◌, ◌<◌, ◌≤◌, ℕ, ◌+◌, ◌-◌, ◌==◌, ◌||◌, List, [], ◌∷◌, All, Bool, true, false, cond, drop, filter, length, map, slice_index, Contains}
use Rattle.std.specs.List.{slice_split}

-- ---- lines and fields

-- a double quote stands among these bytes
abbrev pub HasQuote : List ℕ → Type 0
HasQuote bytes = Contains bytes 34

-- a line feed or a carriage return
abbrev pub ends_line : ℕ → Bool
ends_line byte = byte == 13 || byte == 10

-- a comma
abbrev pub ends_field : ℕ → Bool
ends_field byte = byte == 44

abbrev pub is_filled : List ℕ → Bool
is_filled [] = false
is_filled (byte ∷ bytes) = true

-- the lines of a text without what ends them, empty ones left out
unfoldable pub lines : List ℕ → List (List ℕ)
lines bytes = filter is_filled (slice_split ends_line bytes)

-- the fields of a line, which stand between its commas
unfoldable pub cut : List ℕ → List (List ℕ)
cut line = slice_split ends_field line

-- ---- places

-- the bytes until the first that passes
unfoldable pub until : (ℕ → Bool) → List ℕ → List ℕ
until test [] = []
until test (byte ∷ bytes) = cond (test byte) [] (byte ∷ until test bytes)

-- the bytes after the first that passes
unfoldable pub past : (ℕ → Bool) → List ℕ → List ℕ
past test [] = []
past test (byte ∷ bytes) = cond (test byte) bytes (past test bytes)

-- the line of a text that begins at this place
abbrev pub line_at : List ℕ → ℕ → List ℕ
line_at bytes start = until ends_line (drop start bytes)

-- what is noted of a line that begins at this place: the place, if the line has bytes
abbrev pub start_if_filled : ℕ → ℕ → List ℕ
start_if_filled start length = cond (length == 0) [] (start ∷ [])

-- a line can begin at this place of a text: the text ends there, or the byte before it ends a line
abbrev pub CanBegin : List ℕ → ℕ → Type 0
CanBegin bytes place = place < length bytes → (0 < place) × (ends_line (slice_index bytes (place - 1)) ≡ true)

-- nothing but ends of lines stands in a text from one place to another
pub record AreLineEnds (bytes : List ℕ) (from to : ℕ) : Type 0 where
  pub order : from ≤ to
  pub ends : (k : ℕ) → from ≤ k → k < to → k < length bytes → ends_line (slice_index bytes k) ≡ true

-- of a text from one place to another, nothing but ends of lines stands outside the lines that begin at these places
unfoldable pub StandApart : List ℕ → ℕ → List ℕ → ℕ → Type 0
StandApart bytes from [] to = AreLineEnds bytes from to
StandApart bytes from (start ∷ starts) to = AreLineEnds bytes from start × StandApart bytes (start + length (line_at bytes start)) starts to

-- the places at which the lines of a text begin from this place on
pub record AreStarts (bytes : List ℕ) (from : ℕ) (starts : List ℕ) : Type 0 where
  pub lines : map (line_at bytes) starts ≡ lines (drop from bytes)
  pub within : All (λ start. start < length bytes) starts
  pub apart : StandApart bytes from starts (length bytes)
