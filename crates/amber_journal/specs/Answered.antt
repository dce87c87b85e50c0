-- What reading a log's file answers.
use Rattle.std.specs.Prelude.{◌≡◌, ℕ, List, Result, Ok, Err, ◌⊎◌, ⊤}
use Rattle.amber_log.specs.ReadAs.{lines_of, whole_lines}
use Rattle.amber_log.specs.TextLaws.{IsFirstBadLine}
use Rattle.amber_log.specs.declared.log.Log.{Log}
use Rattle.amber_journal.specs.declared.read.LogErr.{LogErr}
use Rattle.amber_journal.specs.declared.read.LogErr.TheVariants.{NoMemory, Text}

-- the log that was found, or the number of the first bad line; or nothing, where memory ran out
abbrev pub GivesLog : Result Log LogErr → Result Log ℕ → Type 0
GivesLog (Ok log) found = found ≡ Ok log
GivesLog (Err (Text line)) found = found ≡ Err line
GivesLog (Err NoMemory) found = ⊤

-- P of the line, where one is named
abbrev pub IfText : Result Log LogErr → (ℕ → Type 0) → Type 0
IfText (Ok log) P = ⊤
IfText (Err (Text line)) P = P line
IfText (Err NoMemory) P = ⊤

-- this answer, unless memory ran out
abbrev pub IsUnlessNoMemory : Result Log LogErr → Result Log LogErr → Type 0
IsUnlessNoMemory result wanted = (result ≡ wanted) ⊎ (result ≡ Err NoMemory)

-- the number of the first line of a file's whole items with which the lines begin those of no log
abbrev pub IsBadLineOf : List ℕ → ℕ → Type 0
IsBadLineOf bytes line = IsFirstBadLine (whole_lines (lines_of bytes)) line
