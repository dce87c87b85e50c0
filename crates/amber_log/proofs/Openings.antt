-- Two commands whose items begin with the same line are the same.
use Rattle.std.proofs.Common.{◌≡◌, List, ℕ, [], ◌∷◌, ◌++◌, Option, Some, refl, sym, ap, ◌∙◌, true}
use Rattle.std.specs.Prelude.{bytes_eq}
use Rattle.amber_log.specs.Grammar.{IsLine}
use Rattle.amber_log.specs.Items.{is_same_command, opening_of}
use Rattle.amber_log.specs.LogText.{line_text}
use Rattle.amber_log.specs.Words.{spell}
use Rattle.amber_log.specs.declared.command.Command.{Command}
use Rattle.amber_log.specs.declared.command.Command.TheVariants as command
use Rattle.amber_log.specs.declared.line.Line.{Line}
use Rattle.amber_log.specs.declared.line.Line.TheVariants as line
use Rattle.amber_log.specs.ReadWords.{parse}
use Rattle.amber_log.proofs.Plain.{parse-spell}
use Rattle.std.proofs.lemmas.List.{append_cancel_right}
use Rattle.std.proofs.lemmas.Slice.Eq.{bytes_eq-Decides}

-- the command of a line that opens an item
abbrev opened_by : Line → Command
opened_by (line.Do command) = command
opened_by line.Run = command.Run
opened_by other = command.End

opened-back : (one : Command) → opened_by (opening_of one) ≡ one
opened-back command.Run = refl
opened-back command.End = refl
opened-back other = refl

some-same : (a b : Line) → ◌≡◌ {A = Option Line} (Some a) (Some b) → a ≡ b
some-same a b e = cc

lines-same : (a b : Line) → IsLine a → IsLine b → line_text a ≡ line_text b → a ≡ b
lines-same a b is other e =
    some-same a b (sym (parse-spell a is) ∙ ap parse (append_cancel_right (spell a) (spell b) (10 ∷ []) e) ∙ parse-spell b other)

-- whose items begin with the same text, is the same command
pub same-command : (a b : Command) → IsLine (opening_of a) → IsLine (opening_of b) → is_same_command a b ≡ true → a ≡ b
same-command a b is other same =
    let text : line_text (opening_of a) ≡ line_text (opening_of b) = (bytes_eq-Decides (line_text (opening_of a)) (line_text (opening_of b))).0 same in
    sym (opened-back a) ∙ ap opened_by (lines-same (opening_of a) (opening_of b) is other text) ∙ opened-back b
