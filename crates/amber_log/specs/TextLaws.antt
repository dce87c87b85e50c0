-- Where a text first cannot go on, and which of a file's bytes are read.
use Rattle.std.specs.Prelude.{◌≡◌, ℕ, ◌+◌, ◌<◌, ◌≤◌, List, [], ◌∷◌, ◌++◌, length, map, take, Ok, Err, ◌⊎◌, ◌↔◌, true}
use Rattle.amber_log.specs.Grammar.{IsLog}
use Rattle.amber_log.specs.LogText.{log_lines, log_text, unlines}
use Rattle.amber_log.specs.ReadAs.{closes, lines_of, read_of, whole_items, whole_lines}
use Rattle.amber_log.specs.Words.{spell}
use Rattle.amber_log.specs.declared.log.Log.{Log}

-- ---- the first bad line

-- these lines begin those of some log that has a text
pub record BeginsText (lines : List (List ℕ)) : Type 0 where
  pub log : Log
  pub text : IsLog log
  pub more : List (List ℕ)
  pub whole : lines ++ more ≡ map spell (log_lines log)

-- the lines before this one, numbered from 1, begin a log's, and with it they begin no log's
pub record IsFirstBadLine (lines : List (List ℕ)) (number : ℕ) : Type 0 where
  pub place : ℕ
  pub nth : number ≡ place + 1
  pub inside : place < length lines
  pub good : BeginsText (take place lines)
  pub bad : BeginsText (take (place + 1) lines) → ⊥

-- reading fails exactly where a line of the whole items cannot stand, and names the first such line
abbrev pub FailsAtFirstBadLine : Type 0
FailsAtFirstBadLine = (bytes : List ℕ) (number : ℕ) → (read_of bytes ≡ Err number) ↔ IsFirstBadLine (whole_lines (lines_of bytes)) number

-- ---- whole items

-- whole lines, of which the last ends an item or is the only one
pub record EndsWithItem (bytes : List ℕ) : Type 0 where
  pub before : List (List ℕ)
  pub last : List ℕ
  pub lines : lines_of bytes ≡ before ++ last ∷ []
  pub text : bytes ≡ unlines (before ++ last ∷ [])
  pub ends : (closes last ≡ true) ⊎ (before ≡ [])

-- nothing, or lines up to the end of an item
abbrev pub AreWholeItems : List ℕ → Type 0
AreWholeItems bytes = (bytes ≡ []) ⊎ EndsWithItem bytes

-- a beginning of the bytes of this kind, and the longest
pub record IsLongestOf (bytes front : List ℕ) : Type 0 where
  pub rest : List ℕ
  pub begins : front ++ rest ≡ bytes
  pub kind : AreWholeItems front
  pub longest : (other more : List ℕ) → other ++ more ≡ bytes → AreWholeItems other → length other ≤ length front

abbrev pub WholeItemsAreLongest : Type 0
WholeItemsAreLongest = (bytes : List ℕ) → IsLongestOf bytes (whole_items bytes)

-- ---- texts read back

-- a log that has a text is what its text is read as
abbrev pub TextsReadBack : Type 0
TextsReadBack = (log : Log) → IsLog log → read_of (log_text log) ≡ Ok log
