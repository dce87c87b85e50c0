-- A text that grows: the lines that a line feed ends, and the open one.
use Rattle.std.proofs.Common.{◌≡◌, ◌==◌, ◌&&◌, ℕ, Bool, true, false, not, List, [], ◌∷◌, ◌++◌, map, refl, sym, ap, ◌∙◌, append-nil, append_assoc}
use Rattle.std.specs.List.{onto_first, slice_split}
use Rattle.std.specs.Str.Lines.{strip_carriage_return}
use Rattle.std.proofs.lemmas.Bool.{and_from, and_parts, not-true}
use Rattle.std.proofs.lemmas.List.Folds.{list_all-append}
use Rattle.std.proofs.lemmas.List.Splits.{slice_split-cons_no, slice_split-cons_yes}
use Rattle.amber_log.specs.ReadAs.{lines_of, onto_line}
use Rattle.amber_script.specs.Lines.{LinesAreEndedOrOpen, LinesBeginAnew, LinesGoOn, ended_lines, is_within_line, open_line}

-- ---- one byte more

lines-feed : (byte : ℕ) (bytes : List ℕ) → (byte == 10) ≡ true → lines_of (byte ∷ bytes) ≡ [] ∷ lines_of bytes
unfolding lines_of
lines-feed byte bytes e = rw e refl

lines-other : (byte : ℕ) (bytes : List ℕ) → (byte == 10) ≡ false → lines_of (byte ∷ bytes) ≡ onto_line byte (lines_of bytes)
unfolding lines_of
lines-other byte bytes e = rw e refl

-- a text without a line feed is the open line
pub all-open : (bytes : List ℕ) → is_within_line bytes ≡ true → open_line bytes ≡ bytes
unfolding open_line
all-open [] within = refl
all-open (byte ∷ bytes) within = rw within refl

open-behind : (byte : ℕ) (bytes : List ℕ) → is_within_line (byte ∷ bytes) ≡ false → open_line (byte ∷ bytes) ≡ open_line bytes
unfolding open_line
open-behind byte bytes ends = rw ends refl

-- and ends none
pub none-ended : (bytes : List ℕ) → is_within_line bytes ≡ true → lines_of bytes ≡ []
unfolding lines_of
none-ended [] within = refl
none-ended (byte ∷ bytes) within =
    let parts = and_parts (not (byte == 10)) (is_within_line bytes) within in
    let other : (byte == 10) ≡ false = not-true (byte == 10) parts.0 in
    rw (other, none-ended bytes parts.1) refl

-- the open line has no line feed
pub within-open : (bytes : List ℕ) → is_within_line (open_line bytes) ≡ true
within-open [] = ap is_within_line (all-open [] refl)
within-open (byte ∷ bytes) = by_test (is_within_line (byte ∷ bytes)) refl (within-open bytes)
  where
    by_test : (within : Bool) → is_within_line (byte ∷ bytes) ≡ within → is_within_line (open_line bytes) ≡ true → is_within_line (open_line (byte ∷ bytes)) ≡ true
    by_test true e h = ap is_within_line (all-open (byte ∷ bytes) e) ∙ e
    by_test false e h = ap is_within_line (open-behind byte bytes e) ∙ h

-- a text with a line feed ends a line
abbrev EndsSome : List ℕ → Type 0
EndsSome bytes = (line : List ℕ) × (more : List (List ℕ)) × (lines_of bytes ≡ line ∷ more)

some-ended : (bytes : List ℕ) → is_within_line bytes ≡ false → EndsSome bytes
some-ended [] ends = absurd (true-false ends)
  where
    true-false : true ≡ false → ⊥
    true-false e = cc
some-ended (byte ∷ bytes) ends = by_byte (byte == 10) refl (some-ended bytes)
  where
    by_byte : (feed : Bool) → (byte == 10) ≡ feed → (is_within_line bytes ≡ false → EndsSome bytes) → EndsSome (byte ∷ bytes)
    by_byte true e h = ([], lines_of bytes, lines-feed byte bytes e)
    by_byte false e h =
        let first = h (rw e at ends) in
        (byte ∷ first.0, first.1, lines-other byte bytes e ∙ ap (onto_line byte) first.2)

-- ---- the parts that a line feed cuts

parts-more : (byte : ℕ) (bytes : List ℕ) (feed within : Bool) → (byte == 10) ≡ feed → is_within_line bytes ≡ within
    → slice_split (λ b. b == 10) bytes ≡ lines_of bytes ++ open_line bytes ∷ []
    → slice_split (λ b. b == 10) (byte ∷ bytes) ≡ lines_of (byte ∷ bytes) ++ open_line (byte ∷ bytes) ∷ []
parts-more byte bytes true within e w h =
    let ends : is_within_line (byte ∷ bytes) ≡ false = rw e refl in
    rw (slice_split-cons_yes (λ b. b == 10) byte bytes e, lines-feed byte bytes e, open-behind byte bytes ends) (ap (λ (parts : List (List ℕ)). [] ∷ parts) h)
parts-more byte bytes false true e w h =
    let inside : is_within_line (byte ∷ bytes) ≡ true = rw (e, w) refl in
    rw (slice_split-cons_no (λ b. b == 10) byte bytes e, none-ended (byte ∷ bytes) inside, all-open (byte ∷ bytes) inside)
    (ap (onto_first byte) (rw (none-ended bytes w, all-open bytes w) at h))
parts-more byte bytes false false e w h =
    let ends : is_within_line (byte ∷ bytes) ≡ false = rw (e, w) refl in
    let first = some-ended bytes w in
    rw (slice_split-cons_no (λ b. b == 10) byte bytes e, lines-other byte bytes e, open-behind byte bytes ends, first.2)
    (ap (onto_first byte) (rw first.2 at h))

parts-open : (bytes : List ℕ) → slice_split (λ b. b == 10) bytes ≡ lines_of bytes ++ open_line bytes ∷ []
parts-open [] = rw (none-ended [] refl, all-open [] refl) refl
parts-open (byte ∷ bytes) = parts-more byte bytes (byte == 10) (is_within_line bytes) refl refl (parts-open bytes)

map-append : (xs ys : List (List ℕ)) → map strip_carriage_return (xs ++ ys) ≡ map strip_carriage_return xs ++ map strip_carriage_return ys
map-append [] ys = refl
map-append (x ∷ xs) ys = ap (λ (lines : List (List ℕ)). strip_carriage_return x ∷ lines) (map-append xs ys)

pub lines_are_ended_or_open : LinesAreEndedOrOpen
lines_are_ended_or_open bytes = ap (map strip_carriage_return) (parts-open bytes) ∙ map-append (lines_of bytes) (open_line bytes ∷ [])

-- ---- a text that goes on

ends-more : (bytes more : List ℕ) → is_within_line bytes ≡ false → is_within_line (bytes ++ more) ≡ false
ends-more bytes more ends = list_all-append (λ byte. not (byte == 10)) bytes more ∙ rw ends refl

lines-on : (bytes more : List ℕ) → lines_of (bytes ++ more) ≡ lines_of bytes ++ lines_of (open_line bytes ++ more)
lines-on [] more = rw (none-ended [] refl, all-open [] refl) refl
lines-on (byte ∷ bytes) more = by_test (byte == 10) (is_within_line bytes) refl refl (lines-on bytes more)
  where
    by_test : (feed within : Bool) → (byte == 10) ≡ feed → is_within_line bytes ≡ within
        → lines_of (bytes ++ more) ≡ lines_of bytes ++ lines_of (open_line bytes ++ more)
        → lines_of (byte ∷ (bytes ++ more)) ≡ lines_of (byte ∷ bytes) ++ lines_of (open_line (byte ∷ bytes) ++ more)
    by_test true within e w h =
        let ends : is_within_line (byte ∷ bytes) ≡ false = rw e refl in
        rw (lines-feed byte (bytes ++ more) e, lines-feed byte bytes e, open-behind byte bytes ends) (ap (λ (lines : List (List ℕ)). [] ∷ lines) h)
    by_test false true e w h =
        let inside : is_within_line (byte ∷ bytes) ≡ true = rw (e, w) refl in
        rw (none-ended (byte ∷ bytes) inside, all-open (byte ∷ bytes) inside) refl
    by_test false false e w h =
        let ends : is_within_line (byte ∷ bytes) ≡ false = rw (e, w) refl in
        let first = some-ended bytes w in
        rw (lines-other byte (bytes ++ more) e, lines-other byte bytes e, open-behind byte bytes ends, first.2)
        (ap (onto_line byte) (rw first.2 at h))

open-on : (bytes more : List ℕ) → open_line (bytes ++ more) ≡ open_line (open_line bytes ++ more)
open-on [] more = rw (all-open [] refl) refl
open-on (byte ∷ bytes) more = by_test (is_within_line (byte ∷ bytes)) refl (open-on bytes more)
  where
    by_test : (within : Bool) → is_within_line (byte ∷ bytes) ≡ within → open_line (bytes ++ more) ≡ open_line (open_line bytes ++ more)
        → open_line (byte ∷ (bytes ++ more)) ≡ open_line (open_line (byte ∷ bytes) ++ more)
    by_test true e h = rw (all-open (byte ∷ bytes) e) refl
    by_test false e h = rw (open-behind byte bytes e, open-behind byte (bytes ++ more) (ends-more (byte ∷ bytes) more e)) h

pub lines_go_on : LinesGoOn
lines_go_on bytes more = (
  ap (map strip_carriage_return) (lines-on bytes more) ∙ map-append (lines_of bytes) (lines_of (open_line bytes ++ more)),
  open-on bytes more,
)

pub lines_begin_anew : LinesBeginAnew
lines_begin_anew bytes more none =
    let on = lines_go_on bytes more in
    let ended : ended_lines (bytes ++ more) ≡ ended_lines bytes ++ ended_lines more = rw none at on.0 in
    let open_ : open_line (bytes ++ more) ≡ open_line more = rw none at on.1 in (
      lines_are_ended_or_open (bytes ++ more)
          ∙ rw (ended, open_) (append_assoc (ended_lines bytes) (ended_lines more) (strip_carriage_return (open_line more) ∷ []))
          ∙ ap (λ (lines : List (List ℕ)). ended_lines bytes ++ lines) (sym (lines_are_ended_or_open more)),
      ended,
      open_,
    )

-- ---- a line feed in what comes

line-behind : (bytes rest : List ℕ) → is_within_line bytes ≡ true → lines_of (bytes ++ 10 ∷ rest) ≡ bytes ∷ lines_of rest
line-behind [] rest within = lines-feed 10 rest refl
line-behind (byte ∷ bytes) rest within =
    let parts = and_parts (not (byte == 10)) (is_within_line bytes) within in
    lines-other byte (bytes ++ 10 ∷ rest) (not-true (byte == 10) parts.0) ∙ ap (onto_line byte) (line-behind bytes rest parts.1)

feed-ends : (bytes rest : List ℕ) → is_within_line (bytes ++ 10 ∷ rest) ≡ false
feed-ends [] rest = refl
feed-ends (byte ∷ bytes) rest = rw (feed-ends bytes rest) (and-no (not (byte == 10)))
  where
    and-no : (b : Bool) → (b && false) ≡ false
    and-no true = refl
    and-no false = refl

open-anew : (bytes rest : List ℕ) → open_line (bytes ++ 10 ∷ rest) ≡ open_line rest
open-anew [] rest = open-behind 10 rest refl
open-anew (byte ∷ bytes) rest = open-behind byte (bytes ++ 10 ∷ rest) (feed-ends (byte ∷ bytes) rest) ∙ open-anew bytes rest

within-more : (begun front : List ℕ) → is_within_line begun ≡ true → is_within_line front ≡ true → is_within_line (begun ++ front) ≡ true
within-more begun front a b = list_all-append (λ byte. not (byte == 10)) begun front ∙ and_from (is_within_line begun) (is_within_line front) a b

-- an open line and what comes for it: the line that the first line feed ends, and those behind it
pub line-ended : (begun front rest : List ℕ) → is_within_line begun ≡ true → is_within_line front ≡ true
    → (ended_lines (begun ++ (front ++ 10 ∷ rest)) ≡ strip_carriage_return (begun ++ front) ∷ ended_lines rest)
    × (open_line (begun ++ (front ++ 10 ∷ rest)) ≡ open_line rest)
line-ended begun front rest a b =
    let whole : (begun ++ front) ++ 10 ∷ rest ≡ begun ++ (front ++ 10 ∷ rest) = append_assoc begun front (10 ∷ rest) in (
      rw whole at (ap (map strip_carriage_return) (line-behind (begun ++ front) rest (within-more begun front a b))),
      rw whole at (open-anew (begun ++ front) rest),
    )

-- nothing of what comes ends it
pub line-grown : (begun front : List ℕ) → is_within_line begun ≡ true → is_within_line front ≡ true
    → (ended_lines (begun ++ front) ≡ []) × (open_line (begun ++ front) ≡ begun ++ front)
line-grown begun front a b =
    let within = within-more begun front a b in
    (ap (map strip_carriage_return) (none-ended (begun ++ front) within), all-open (begun ++ front) within)

-- ---- a byte at a time

-- a line feed ends the open line
pub feed-next : (bytes : List ℕ) → (ended_lines (bytes ++ 10 ∷ []) ≡ ended_lines bytes ++ strip_carriage_return (open_line bytes) ∷ []) × (open_line (bytes ++ 10 ∷ []) ≡ [])
feed-next bytes =
    let on = lines_go_on bytes (10 ∷ []) in
    let ended = line-ended (open_line bytes) [] [] (within-open bytes) refl in
    let none : lines_of [] ≡ [] = none-ended [] refl in
    let same : open_line bytes ++ [] ≡ open_line bytes = append-nil (open_line bytes) in (
      on.0 ∙ ap (λ (lines : List (List ℕ)). ended_lines bytes ++ lines) (rw (same, none) at ended.0),
      on.1 ∙ ended.1 ∙ all-open [] refl,
    )

-- another byte goes on the open line
pub byte-next : (bytes : List ℕ) (byte : ℕ) → (byte == 10) ≡ false
    → (ended_lines (bytes ++ byte ∷ []) ≡ ended_lines bytes) × (open_line (bytes ++ byte ∷ []) ≡ open_line bytes ++ byte ∷ [])
byte-next bytes byte other =
    let on = lines_go_on bytes (byte ∷ []) in
    let one : is_within_line (byte ∷ []) ≡ true = rw other refl in
    let grown = line-grown (open_line bytes) (byte ∷ []) (within-open bytes) one in (
      on.0 ∙ ap (λ (lines : List (List ℕ)). ended_lines bytes ++ lines) grown.0 ∙ append-nil (ended_lines bytes),
      on.1 ∙ grown.1,
    )
