-- A text that grows and single lines, read on literals.
use Rattle.std.proofs.Common.{◌≡◌, ℕ, negsuc, List, [], ◌∷◌, ◌++◌, codes, refl}
use Rattle.amber_log.specs.ReadAs.{lines_of}
use Rattle.amber_log.specs.declared.command.Command.TheVariants as command
use Rattle.amber_rows.specs.declared.value.Value.TheVariants as value
use Rattle.amber_script.proofs.Examples.{flow, lines, scripts_on_literals}
use Rattle.amber_script.specs.Lines.{ended_lines, open_line}
use Rattle.amber_script.specs.Script.{said_by}
use Rattle.amber_script.specs.declared.error.ScriptWhy.TheVariants as why
use Rattle.amber_script.specs.declared.script_line.ScriptLine.{ScriptLine}
use Rattle.amber_script.specs.declared.script_line.ScriptLine.TheVariants as script_line

-- a text whose ended lines and open line are these
abbrev Cuts : List ℕ → List (List ℕ) → List ℕ → Type 0
Cuts bytes ended begun = (ended_lines bytes ≡ ended) × (open_line bytes ≡ begun)

-- what a line says
abbrev Says : List ℕ → ScriptLine → Type 0
Says line said = said_by flow line ≡ said

-- ---- a text that grows

nothing : Cuts [] [] []
unfolding lines_of open_line
nothing = (refl, refl)

no_line_yet : Cuts (codes "run") [] (codes "run")
unfolding lines_of open_line
no_line_yet = (refl, refl)

line_that_is_ended : Cuts (lines (codes "run" ∷ [])) (codes "run" ∷ []) []
unfolding lines_of open_line
line_that_is_ended = (refl, refl)

line_that_is_begun : Cuts (lines (codes "run" ∷ [] ∷ []) ++ codes "pause f") (codes "run" ∷ [] ∷ []) (codes "pause f")
unfolding lines_of open_line
line_that_is_begun = (refl, refl)

return_of_an_ended_line : Cuts (codes "run" ++ 13 ∷ 10 ∷ 13 ∷ 13 ∷ 10 ∷ []) (codes "run" ∷ (13 ∷ []) ∷ []) []
unfolding lines_of open_line
return_of_an_ended_line = (refl, refl)

return_of_the_open_line : Cuts (10 ∷ codes "run" ++ 13 ∷ []) ([] ∷ []) (codes "run" ++ 13 ∷ [])
unfolding lines_of open_line
return_of_the_open_line = (refl, refl)

-- ---- single lines

empty_line : Says [] script_line.Skipped
unfolding scripts_on_literals
empty_line = refl

blank_line : Says (32 ∷ 9 ∷ []) script_line.Skipped
unfolding scripts_on_literals
blank_line = refl

comment : Says (codes " # run") script_line.Skipped
unfolding scripts_on_literals
comment = refl

line_of_a_command : Says (codes "set f -5") (script_line.Command (command.Set 2 (value.Int (negsuc 4))))
unfolding scripts_on_literals
line_of_a_command = refl

line_of_no_word : Says (codes "end") (script_line.Bad why.Word)
unfolding scripts_on_literals
line_of_no_word = refl

line_of_no_number : Says (codes "pause f 0") (script_line.Bad why.Number)
unfolding scripts_on_literals
line_of_no_number = refl
