-- Items of a log that were made for the first of some commands.
use Rattle.std.proofs.Common.{◌≡◌, ℕ, zero, suc, ◌+◌, ◌<◌, ◌≤◌, List, [], ◌∷◌, ◌++◌, length, drop, get_or, map, take, Option, None, Some, Bool, true, false, refl, sym, ap, ap₂, ◌∙◌, arith}
use Rattle.std.specs.Prelude.{bytes_eq, if◌then◌else◌}
use Rattle.std.specs.List.{All}
use Rattle.std.proofs.lemmas.List.{drop-drop, drop_all, drop_more, take_more}
use Rattle.std.proofs.lemmas.List.Elements.{All-head, All-push, All-tail}
use Rattle.std.proofs.lemmas.Slice.Eq.{bytes_eq-Decides}
use Rattle.amber_log.specs.Grammar.{AreItems, IsCommand, IsItem, IsKeptAsLine, IsLine, is_last}
use Rattle.amber_log.specs.Items.{command_of, is_same_command, opening_of}
use Rattle.amber_log.specs.LogText.{item_lines, item_text, line_text}
use Rattle.amber_log.specs.declared.command.Command.{Command}
use Rattle.amber_log.specs.declared.command.Command.TheVariants as command
use Rattle.amber_log.specs.declared.line.Line.TheVariants as line
use Rattle.amber_log.specs.declared.log.Item.{Item}
use Rattle.amber_log.specs.declared.log.Item.TheVariants as item
use Rattle.amber_log.proofs.Openings.{same-command}
use Rattle.amber_journal.proofs.ItemText.{text_of_command}
use Rattle.amber_course.specs.Course.{end_alone, is_for_first, strange_from}

-- ---- one command

-- an item of a command that is no leg begins with the command's line
opens-kept : (one : Command) → IsKeptAsLine one → opening_of one ≡ line.Do one
opens-kept command.Run is = absurd is
opens-kept command.End is = absurd is
opens-kept other is = refl

pub line-of-command : (one : Command) → IsCommand one → IsLine (opening_of one)
line-of-command command.Run is = tt
line-of-command command.End is = tt
line-of-command other is = is

-- an item begins with a line that has a text
pub line-of-item : (one : Item) → IsItem one → IsLine (opening_of (command_of one))
line-of-item (item.Do command) is = line-of-command command is
line-of-item (item.Run leg) is = tt
line-of-item (item.End leg) is = tt

-- two commands that are no legs are the same where their texts are
pub same-text : (first second : Command) → IsKeptAsLine first → IsKeptAsLine second
    → bytes_eq (item_text (item.Do first)) (item_text (item.Do second)) ≡ is_same_command first second
same-text first second is other = rw (text_of_command first, text_of_command second, opens-kept first is, opens-kept second other) refl

pub same-self : (one : Command) → is_same_command one one ≡ true
same-self one = (bytes_eq-Decides (line_text (opening_of one)) (line_text (opening_of one))).1 refl

-- ---- from each command to the next

pub lines-more : (commands : List Command) (place : ℕ) (one : Command) → place < length commands → one ≡ get_or commands place one → IsLine (opening_of one)
    → All (λ command. IsLine (opening_of command)) (take place commands) → All (λ command. IsLine (opening_of command)) (take (place + 1) commands)
lines-more commands place one less is here lines =
    rw (take_more commands place one less, ← is) (All-push (λ command. IsLine (opening_of command)) (take place commands) one lines here)

-- ---- from each item to the next

on-from : (line : ℕ) (commands : List Command) (one : Item) (items : List Item) → is_for_first commands one ≡ true
    → strange_from line commands (one ∷ items) ≡ strange_from (line + length (item_lines one)) (drop 1 commands) items
unfolding strange_from
on-from line [] one items fit = absurd cc
on-from line (next ∷ commands) one items fit = rw fit refl

stop-at : (line : ℕ) (commands : List Command) (one : Item) (items : List Item) → is_for_first commands one ≡ false → strange_from line commands (one ∷ items) ≡ Some line
unfolding strange_from
stop-at line [] one items unfit = refl
stop-at line (next ∷ commands) one items unfit = rw unfit refl

pub strange-more : (line : ℕ) (commands : List Command) (items : List Item) (place : ℕ) (d : Item) → place < length items → is_for_first (drop place commands) (get_or items place d) ≡ true
    → strange_from line (drop place commands) (drop place items) ≡ strange_from (line + length (item_lines (get_or items place d))) (drop (place + 1) commands) (drop (place + 1) items)
strange-more line commands items place d less fit =
    ap (strange_from line (drop place commands)) (drop_more items place d less)
    ∙ on-from line (drop place commands) (get_or items place d) (drop (place + 1) items) fit
    ∙ ap (λ rest. strange_from (line + length (item_lines (get_or items place d))) rest (drop (place + 1) items)) (drop-drop 1 place commands)

pub strange-here : (line : ℕ) (commands : List Command) (items : List Item) (place : ℕ) (d : Item) → place < length items → is_for_first (drop place commands) (get_or items place d) ≡ false
    → strange_from line (drop place commands) (drop place items) ≡ Some line
strange-here line commands items place d less unfit =
    ap (strange_from line (drop place commands)) (drop_more items place d less) ∙ stop-at line (drop place commands) (get_or items place d) (drop (place + 1) items) unfit

none-left : (line : ℕ) (commands : List Command) → strange_from line commands [] ≡ None
unfolding strange_from
none-left line [] = refl
none-left line (next ∷ commands) = refl

pub strange-end : (line : ℕ) (commands : List Command) (items : List Item) (place : ℕ) → length items ≤ place → strange_from line (drop place commands) (drop place items) ≡ None
strange-end line commands items place most = ap (strange_from line (drop place commands)) (drop_all place items most) ∙ none-left line (drop place commands)

pub item-at : (over : Bool) (items : List Item) (k : ℕ) (d : Item) → AreItems over items → k < length items → IsItem (get_or items k d)
unfolding AreItems
item-at over [] k d are less = absurd (omega (arith, less))
item-at over (one ∷ more) zero d are less = are.1
item-at over (one ∷ more) (suc k) d are less = item-at (is_last one) more k d are.2 (omega (arith, less))

-- ---- all items

-- none of them is strange, so they were made for the first commands
passed : (same : Bool) (later : Option ℕ) (line : ℕ) → (if same then later else Some line) ≡ None → (same ≡ true) × (later ≡ None)
passed true later line e = (refl, e)
passed false later line e = absurd cc

pub commands-first : (line : ℕ) (commands : List Command) (items : List Item) (over : Bool) → All (λ command. IsLine (opening_of command)) commands → AreItems over items
    → strange_from line commands items ≡ None → (left : List Command) × (map command_of items ++ left ≡ commands)
unfolding strange_from AreItems
commands-first line commands [] over lines are e = (commands, refl)
commands-first line [] (one ∷ items) over lines are e = absurd cc
commands-first line (next ∷ commands) (one ∷ items) over lines are e =
    let pass = passed (is_same_command next (command_of one)) (strange_from (line + length (item_lines one)) commands items) line e in
    let more = commands-first (line + length (item_lines one)) commands items (is_last one) (All-tail (λ command. IsLine (opening_of command)) next commands lines) are.2 pass.1 in
    let here = same-command next (command_of one) (All-head (λ command. IsLine (opening_of command)) next commands lines) (line-of-item one are.1) pass.0 in
    (more.0, ap₂ (λ (first : Command) (rest : List Command). first ∷ rest) (sym here) more.1)

-- the other way: no item is strange that was made for its command
pub commands-none : (line : ℕ) (commands : List Command) (items : List Item) (left : List Command) → map command_of items ++ left ≡ commands → strange_from line commands items ≡ None
unfolding strange_from
commands-none line commands [] left e = none-left line commands
commands-none line commands (one ∷ items) left e =
    rw (← e, same-self (command_of one)) (commands-none (line + length (item_lines one)) (map command_of items ++ left) items left refl)

-- each of the commands has a line, and so has the one to run to the end
pub lines-with-end : (commands : List Command) → All (λ command. IsLine (opening_of command)) commands → All (λ command. IsLine (opening_of command)) (commands ++ end_alone)
lines-with-end commands lines = All-push (λ command. IsLine (opening_of command)) commands command.End lines tt
