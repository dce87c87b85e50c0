-- The line that a list of words is.
use Rattle.std.specs.Prelude.{ℕ, ◌+◌, ◌^◌, ◌==◌, nat_lt, List, [], ◌∷◌, codes, bytes_eq, Option, Some, None, option_map, option_and_then, if◌then◌else◌}
use Rattle.std.specs.List.{slice_split}
use Rattle.amber_log.specs.Commands.{command_named}
use Rattle.amber_log.specs.Operands.{number, above_zero}
use Rattle.amber_log.specs.declared.command.Command.{Command}
use Rattle.amber_log.specs.declared.entry.Entry.TheVariants as entry
use Rattle.amber_log.specs.declared.leg.Close.TheVariants as close
use Rattle.amber_log.specs.declared.line.Line.{Line}
use Rattle.amber_log.specs.declared.line.Line.TheVariants as line

-- ---- lines by the number of their words

-- what two numbers below these limits make
abbrev pub with_two : {A : Type 0} → (ℕ → ℕ → A) → ℕ → ℕ → List ℕ → List ℕ → Option A
with_two make first_limit second_limit first second =
    option_and_then (λ m. option_map (λ n. make m n) (number second_limit second)) (number first_limit first)

-- a line of one word
unfoldable pub line_one : List ℕ → Option Line
line_one word =
    if bytes_eq word (codes "run") then Some line.Run
    else if bytes_eq word (codes "end") then Some line.End
    else if bytes_eq word (codes "p") then Some (line.Entry entry.Pause)
    else if bytes_eq word (codes "r") then Some (line.Entry entry.Resume)
    else if bytes_eq word (codes "h") then Some (line.Entry entry.Hold)
    else if bytes_eq word (codes "f") then Some (line.Entry entry.Finish)
    else if bytes_eq word (codes "cut") then Some (line.Close close.Cut)
    else if bytes_eq word (codes "long") then Some (line.Close close.Long)
    else None

-- a line of two words
unfoldable pub line_two : List ℕ → List ℕ → Option Line
line_two word a =
    if bytes_eq word (codes "w") then option_map (λ worker. line.Worker worker) (number (2 ^ 32) a)
    else if bytes_eq word (codes "a") then option_map (λ n. line.Entry (entry.Grant n)) (option_and_then above_zero (number (2 ^ 64) a))
    else if bytes_eq word (codes "b") then option_map (λ n. line.Entry (entry.Back n)) (option_and_then above_zero (number (2 ^ 64) a))
    else None

-- a step that takes or emits a row
abbrev pub moving : ℕ → ℕ → Option Line
moving rows outs = if nat_lt 0 (rows + outs) then Some (line.Entry (entry.Go rows outs)) else None

-- the head, whose version is 1
unfoldable pub head_line : List ℕ → List ℕ → Option Line
head_line version batch =
    if bytes_eq version (codes "1") then option_map (λ n. line.Head n) (option_and_then above_zero (number 65537 batch)) else None

-- a line of three words
unfoldable pub line_three : List ℕ → List ℕ → List ℕ → Option Line
line_three word a b =
    if bytes_eq word (codes "t") then with_two (λ sender batch. line.Entry (entry.Take sender batch)) (2 ^ 32) (2 ^ 64) a b
    else if bytes_eq word (codes "g") then option_and_then (λ rows. option_and_then (moving rows) (number (2 ^ 64) b)) (number (2 ^ 64) a)
    else if bytes_eq word (codes "amber") then head_line a b
    else None

-- a line other than a command's, by how many words it has
abbrev pub line_by : List ℕ → List (List ℕ) → Option Line
line_by word [] = line_one word
line_by word (a ∷ []) = line_two word a
line_by word (a ∷ b ∷ []) = line_three word a b
line_by word (a ∷ b ∷ c ∷ more) = None

-- ---- commands

-- the command of these words: its name, its operator and what it says beside
unfoldable pub command_in : List (List ℕ) → Option Command
command_in [] = None
command_in (name ∷ []) = None
command_in (name ∷ op ∷ words) = option_and_then (λ n. command_named name n words) (number (2 ^ 32) op)

-- ---- lines

-- the line of these words, if there is one
unfoldable pub line_of : List (List ℕ) → Option Line
line_of [] = None
line_of (word ∷ words) = if bytes_eq word (codes "do") then option_map (λ one. line.Do one) (command_in words) else line_by word words

-- the line that these bytes are, words with one space between each two
unfoldable pub parse : List ℕ → Option Line
parse bytes = line_of (slice_split (λ b. b == 32) bytes)
