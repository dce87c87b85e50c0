-- The example's log as its text, and what is said of a text: its first bad line, its illegal line, or that it is legal.
use Rattle.std.specs.Prelude.{⊤}
use Rattle.std.proofs.Common.{ℕ, ◌-◌, List, [], ◌∷◌, ◌++◌, take, drop, codes, Option, Result, Ok, Err}
use Rattle.amber_log.specs.LogText.{unlines}
use Rattle.amber_log.specs.ReadAs.{closes, cut_back, lines_of, read_of, whole_lines}
use Rattle.amber_log.specs.ReadLines.{finish, read_lines, read_on, step}
use Rattle.amber_log.specs.ReadWords.{command_in, head_line, line_of, line_one, line_three, line_two, parse}
use Rattle.amber_log.specs.Operands.{comparison_of, constant_of, number, signed_number}
use Rattle.amber_log.specs.Commands.{command_named}
use Rattle.amber_log.specs.declared.log.Log.{Log}
use Rattle.amber_meaning.specs.Legal.{Query}
use Rattle.amber_meaning.proofs.ExampleCases.{kept_from, query_of}
use Rattle.amber_judge.proofs.ExampleTests.{tests_on_literals}
use Rattle.amber_lines.specs.Lines.{bad_line_from, illegal_line, judge_all, may_enter, position_behind}

-- what texts read as
unfoldable pub reading_on_literals : ⊤
unfolding read_of whole_lines cut_back closes lines_of read_lines read_on step finish parse line_of line_one line_two line_three head_line command_in command_named comparison_of constant_of signed_number number
reading_on_literals = tt

-- how lines are judged
unfoldable pub judging_on_literals : ⊤
unfolding tests_on_literals illegal_line bad_line_from judge_all may_enter position_behind
judging_on_literals = tt

-- the example over the five orders
abbrev pub query : Query
query = query_of (kept_from 0) 400

-- five lines in front of others: the scan reads its five rows, and worker 1 takes them as its first batch
abbrev pub after_the_scan : List (List ℕ) → List (List ℕ)
after_the_scan lines = codes "w 0" ∷ codes "g 5 5" ∷ codes "f" ∷ codes "w 1" ∷ codes "t 0 0" ∷ lines

abbrev pub example : List (List ℕ)
example =
    codes "amber 1 400"
    ∷ codes "do count 2 3"
    ∷ codes "run"
    ∷ after_the_scan (
    codes "a 3"
    ∷ codes "g 3 3"
    ∷ codes "p"
    ∷ codes "cut"
    ∷ codes "do inspect 2"
    ∷ codes "end"
    ∷ codes "w 1"
    ∷ codes "g 2 2"
    ∷ codes "f"
    ∷ codes "w 2"
    ∷ codes "t 1 0"
    ∷ codes "g 5 0"
    ∷ codes "f"
    ∷ codes "cut" ∷ []
    )

-- a pause after two rows, and the leg up to it
abbrev pub with_a_pause : List (List ℕ)
with_a_pause =
    codes "amber 1 400"
    ∷ codes "do pause 2 2"
    ∷ codes "run"
    ∷ after_the_scan (codes "g 3 3" ∷ codes "p" ∷ codes "cut" ∷ [])

-- another line in place of the one with this number
abbrev pub with_line : ℕ → List ℕ → List (List ℕ) → List (List ℕ)
with_line number line lines = take (number - 1) lines ++ line ∷ drop number lines

-- a line more, which gets this number
abbrev pub with_more : ℕ → List ℕ → List (List ℕ) → List (List ℕ)
with_more number line lines = take (number - 1) lines ++ line ∷ drop (number - 1) lines

-- without the line with this number
abbrev pub without_line : ℕ → List (List ℕ) → List (List ℕ)
without_line number lines = take (number - 1) lines ++ drop number lines

abbrev pub judged_in : Query → Result Log ℕ → Result (Option ℕ) ℕ
judged_in over (Ok log) = Ok (illegal_line over log)
judged_in over (Err number) = Err number

-- the first bad line of a text, or the illegal line of the log that it reads as
abbrev pub judged_text : Query → List (List ℕ) → Result (Option ℕ) ℕ
judged_text over lines = judged_in over (read_of (unlines lines))
