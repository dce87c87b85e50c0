-- The script of a log is read as the commands of its items.
use Rattle.std.proofs.Common.{◌≡◌, ◌==◌, ℕ, zero, suc, ◌+◌, ◌-◌, ◌^◌, ◌<◌, ◌≤◌, true, false, Bool, List, [], ◌∷◌, ◌++◌, map, codes, get_or, length, Option, None, Some, Ok, refl, sym, ap, ◌∙◌, subst, arith, append_assoc, inl, inr, nat_le, nat_lt}
use Rattle.std.specs.Prelude.{not, ◌&&◌}
use Rattle.std.specs.Fmt.{decimal}
use Rattle.std.specs.List.{flat_map, list_all, onto_first, slice_split}
use Rattle.std.specs.Str.Lines.{strip_carriage_return}
use Rattle.std.proofs.lemmas.Bool.{and_parts, cases_Bool, not-true}
use Rattle.std.proofs.lemmas.Bool.Decides.{nat_tests}
use Rattle.amber_rows.specs.FlowRules.{AreNext}
use Rattle.amber_rows.specs.Lists.{nth}
use Rattle.amber_rows.specs.Columns.{schema_of}
use Rattle.amber_rows.specs.declared.column.Column.{Column}
use Rattle.amber_rows.specs.declared.cond.Cond.{Cond}
use Rattle.amber_rows.specs.declared.flow.Operator.{Operator}
use Rattle.amber_rows.specs.declared.value.Value.{Value}
use Rattle.amber_log.specs.Fits.{fits_of, is_source, is_target, has_worker, is_there, takes_cond, takes_constant}
use Rattle.amber_log.specs.Grammar.{AreItems, IsCommand, IsConstant, IsItem, is_last}
use Rattle.amber_log.specs.LogText.{item_lines}
use Rattle.amber_log.specs.Words.{sign_of}
use Rattle.amber_log.specs.declared.command.Command.{Command}
use Rattle.amber_log.specs.declared.command.Command.TheVariants as command
use Rattle.amber_log.specs.declared.log.Item.{Item}
use Rattle.amber_log.specs.declared.log.Item.TheVariants as item
use Rattle.amber_meaning.specs.Texts.{id_in, name_in, value_word, word_of, words_line}
use Rattle.amber_report.specs.Scripts.{script_line}
use Rattle.amber_script.specs.Commands.{read_command}
use Rattle.amber_script.specs.Script.{commands_from, said, said_by, says, script_lines, script_of}
use Rattle.amber_script.specs.declared.script_line.ScriptLine.TheVariants as told
use Rattle.amber_commands.specs.Commands.{are_scripted, commands_in, commands_of, commands_text, fits_script, unfit_line}
use Rattle.amber_commands.specs.Laws.{HasTextNames, ScriptsReadBack}
use Rattle.amber_commands.proofs.Commanding.{IsMeant, cell-of, clear-means, cond-of, constant-of, count-means, drop-means, inspect-means, lose-means, operator-of, pause-means, run-means, set-means, source-of, there-of, when-means, worker-of}
use Rattle.amber_commands.proofs.Spelling.{are-texts, blanked, blanked-inline, blanked-line, blanked-read, is_inline}

-- ---- one line

-- a command has a line in a script, which says it
pub record IsReadBack (flow : List Operator) (meant : Command) : Type 0 where
  pub line : List ℕ
  pub text : script_line flow meant ≡ line ++ 10 ∷ []
  pub inline : list_all is_inline line ≡ true
  pub says : said_by flow line ≡ told.Command meant

line-said : (flow : List Operator) (words : List (List ℕ)) (meant : Command) → IsMeant flow words meant → says (blanked words) ≡ true
    → said_by flow (blanked words) ≡ told.Command meant
unfolding said_by read_command
line-said flow words meant m begun = rw begun (rw (blanked-read words m.texts m.are) (rw (are-texts words m.texts m.are) (ap said m.said)))

back : (flow : List Operator) (meant : Command) (word : List ℕ) (more : List (List ℕ)) → IsMeant flow (word ∷ more) meant → script_line flow meant ≡ words_line (word ∷ more)
    → says (blanked (word ∷ more)) ≡ true → IsReadBack flow meant
back flow meant word more m text begun = record {
  line = blanked (word ∷ more);
  text = text ∙ blanked-line word more;
  inline = blanked-inline (word ∷ more) m.texts m.are;
  says = line-said flow (word ∷ more) meant m begun;
}

few-rows : (n : ℕ) → is_target n ≡ true → n < 2 ^ 64
few-rows n h = let parts = and_parts (nat_lt 0 n) (nat_le n (2 ^ 40)) h in let most : n ≤ 2 ^ 40 = grind (arith, nat_tests) in omega (arith, most)

-- ---- each command

pub run-back : (flow : List Operator) → IsReadBack flow command.Run
unfolding script_line says
run-back flow = back flow command.Run (codes "run") [] (run-means flow) refl refl

pause-back : (flow : List Operator) (op n : ℕ) → AreNext [] flow → (is_source (nth flow op) && is_target n) ≡ true → IsReadBack flow (command.Pause op n)
unfolding script_line says
pause-back flow op n ops fits =
    let parts = and_parts (is_source (nth flow op)) (is_target n) fits in
    let at = source-of (nth flow op) parts.0 in
    back flow (command.Pause op n) (codes "pause") (id_in (nth flow op) ∷ decimal n ∷ [])
    (subst (λ (x : Option Operator). IsMeant flow (codes "pause" ∷ id_in x ∷ decimal n ∷ []) (command.Pause op n)) (sym at.1)
    (pause-means flow op n at.0 (operator-of flow op at.0 ops at.1) at.2 parts.1 (few-rows n parts.1))) refl refl

count-back : (flow : List Operator) (op n : ℕ) → AreNext [] flow → (is_source (nth flow op) && is_target n) ≡ true → IsReadBack flow (command.Count op n)
unfolding script_line says
count-back flow op n ops fits =
    let parts = and_parts (is_source (nth flow op)) (is_target n) fits in
    let at = source-of (nth flow op) parts.0 in
    back flow (command.Count op n) (codes "break") (codes "count" ∷ id_in (nth flow op) ∷ decimal n ∷ [])
    (subst (λ (x : Option Operator). IsMeant flow (codes "break" ∷ codes "count" ∷ id_in x ∷ decimal n ∷ []) (command.Count op n)) (sym at.1)
    (count-means flow op n at.0 (operator-of flow op at.0 ops at.1) at.2 parts.1 (few-rows n parts.1))) refl refl

when-back : (flow : List Operator) (op : ℕ) (cond : Cond) → AreNext [] flow → HasTextNames flow → IsConstant cond.constant → takes_cond (nth flow op) cond ≡ true
    → IsReadBack flow (command.When op cond)
unfolding script_line says
when-back flow op cond ops names text fits =
    let at = cond-of (nth flow op) cond fits in
    let cell = cell-of (nth at.0.schema cond.column) cond.constant at.3 in
    let name = names op cond.column at.0 cell.0 at.1 cell.1 in
    let meant = when-means flow op cond at.0 cell.0 (operator-of flow op at.0 ops at.1) at.2 cell.1 text cell.2 name in
    let column = subst (λ (y : Option Column). IsMeant flow (codes "break" ∷ codes "when" ∷ at.0.id ∷ word_of (name_in y) ∷ sign_of cond.op ∷ value_word cond.constant ∷ [])
    (command.When op cond)) (sym cell.1) meant in
    back flow (command.When op cond) (codes "break")
    (codes "when" ∷ id_in (nth flow op) ∷ word_of (name_in (nth (schema_of (nth flow op)) cond.column)) ∷ sign_of cond.op ∷ value_word cond.constant ∷ [])
    (subst (λ (x : Option Operator).
    IsMeant flow (codes "break" ∷ codes "when" ∷ id_in x ∷ word_of (name_in (nth (schema_of x) cond.column)) ∷ sign_of cond.op ∷ value_word cond.constant ∷ []) (command.When op cond))
    (sym at.1) column) refl refl

clear-back : (flow : List Operator) (op : ℕ) → AreNext [] flow → is_there (nth flow op) ≡ true → IsReadBack flow (command.Clear op)
unfolding script_line says
clear-back flow op ops fits =
    let at = there-of (nth flow op) fits in
    back flow (command.Clear op) (codes "clear") (id_in (nth flow op) ∷ [])
    (subst (λ (x : Option Operator). IsMeant flow (codes "clear" ∷ id_in x ∷ []) (command.Clear op)) (sym at.1) (clear-means flow op at.0 (operator-of flow op at.0 ops at.1))) refl refl

set-back : (flow : List Operator) (op : ℕ) (v : Value) → AreNext [] flow → IsConstant v → takes_constant (nth flow op) v ≡ true → IsReadBack flow (command.Set op v)
unfolding script_line says
set-back flow op v ops text fits =
    let at = constant-of (nth flow op) v fits in
    back flow (command.Set op v) (codes "set") (id_in (nth flow op) ∷ value_word v ∷ [])
    (subst (λ (x : Option Operator). IsMeant flow (codes "set" ∷ id_in x ∷ value_word v ∷ []) (command.Set op v)) (sym at.1)
    (set-means flow op v at.0 (operator-of flow op at.0 ops at.1) text at.2)) refl refl

drop-back : (flow : List Operator) (op worker : ℕ) → AreNext [] flow → worker < 2 ^ 32 → has_worker (nth flow op) worker ≡ true → IsReadBack flow (command.Drop op worker)
unfolding script_line says
drop-back flow op worker ops small fits =
    let at = worker-of (nth flow op) worker fits in
    back flow (command.Drop op worker) (codes "drop") (id_in (nth flow op) ∷ decimal worker ∷ [])
    (subst (λ (x : Option Operator). IsMeant flow (codes "drop" ∷ id_in x ∷ decimal worker ∷ []) (command.Drop op worker)) (sym at.1)
    (drop-means flow op worker at.0 (operator-of flow op at.0 ops at.1) at.2 (omega (arith, small)))) refl refl

lose-back : (flow : List Operator) (op worker : ℕ) → AreNext [] flow → worker < 2 ^ 32 → has_worker (nth flow op) worker ≡ true → IsReadBack flow (command.Lose op worker)
unfolding script_line says
lose-back flow op worker ops small fits =
    let at = worker-of (nth flow op) worker fits in
    back flow (command.Lose op worker) (codes "lose") (id_in (nth flow op) ∷ decimal worker ∷ [])
    (subst (λ (x : Option Operator). IsMeant flow (codes "lose" ∷ id_in x ∷ decimal worker ∷ []) (command.Lose op worker)) (sym at.1)
    (lose-means flow op worker at.0 (operator-of flow op at.0 ops at.1) at.2 (omega (arith, small)))) refl refl

inspect-back : (flow : List Operator) (op : ℕ) → AreNext [] flow → is_there (nth flow op) ≡ true → IsReadBack flow (command.Inspect op)
unfolding script_line says
inspect-back flow op ops fits =
    let at = there-of (nth flow op) fits in
    back flow (command.Inspect op) (codes "inspect") (id_in (nth flow op) ∷ [])
    (subst (λ (x : Option Operator). IsMeant flow (codes "inspect" ∷ id_in x ∷ []) (command.Inspect op)) (sym at.1) (inspect-means flow op at.0 (operator-of flow op at.0 ops at.1))) refl refl

-- a command of a log, which fits
command-back : (flow : List Operator) (meant : Command) → AreNext [] flow → HasTextNames flow → IsCommand meant → fits_script flow meant ≡ true → IsReadBack flow meant
unfolding fits_of
command-back flow command.Run ops names is fits = absurd is
command-back flow command.End ops names is fits = absurd is
command-back flow (command.Pause op n) ops names is fits = pause-back flow op n ops fits
command-back flow (command.Count op n) ops names is fits = count-back flow op n ops fits
command-back flow (command.When op cond) ops names is fits = when-back flow op cond ops names is.1.1 fits
command-back flow (command.Clear op) ops names is fits = clear-back flow op ops fits
command-back flow (command.Set op v) ops names is fits = set-back flow op v ops is.1 fits
command-back flow (command.Drop op worker) ops names is fits = drop-back flow op worker ops is.1 fits
command-back flow (command.Inspect op) ops names is fits = inspect-back flow op ops fits
command-back flow (command.Lose op worker) ops names is fits = lose-back flow op worker ops is.1 fits

-- ---- all lines

-- each command of a list has its line
unfoldable pub AreReadBack : List Operator → List Command → Type 0
AreReadBack flow [] = Unit {0}
AreReadBack flow (meant ∷ more) = IsReadBack flow meant × AreReadBack flow more

no-feed : (b : ℕ) → is_inline b ≡ true → (b == 10) ≡ false
no-feed b h = not-true (b == 10) (and_parts (not (b == 10)) (not (b == 13)) h).0

no-return : (b : ℕ) → is_inline b ≡ true → (b == 13) ≡ false
no-return b h = not-true (b == 13) (and_parts (not (b == 10)) (not (b == 13)) h).1

split-line : (line rest : List ℕ) → list_all is_inline line ≡ true → slice_split (λ byte. byte == 10) (line ++ 10 ∷ rest) ≡ line ∷ slice_split (λ byte. byte == 10) rest
split-line [] rest h = refl
split-line (b ∷ bs) rest h =
    let parts = and_parts (is_inline b) (list_all is_inline bs) h in
    rw (no-feed b parts.0) (ap (onto_first b) (split-line bs rest parts.1))

at-no-return : (line : List ℕ) (i : ℕ) → list_all is_inline line ≡ true → (get_or line i 0 == 13) ≡ false
at-no-return [] i h = refl
at-no-return (b ∷ bs) zero h = no-return b (and_parts (is_inline b) (list_all is_inline bs) h).0
at-no-return (b ∷ bs) (suc i) h = at-no-return bs i (and_parts (is_inline b) (list_all is_inline bs) h).1

keeps-line : (line : List ℕ) → list_all is_inline line ≡ true → strip_carriage_return line ≡ line
keeps-line line h = rw (at-no-return line (length line - 1) h) refl

first-line : (line rest : List ℕ) → list_all is_inline line ≡ true → script_lines ((line ++ 10 ∷ []) ++ rest) ≡ line ∷ script_lines rest
first-line line rest h =
    ap script_lines (append_assoc line (10 ∷ []) rest)
    ∙ ap (map strip_carriage_return) (split-line line rest h)
    ∙ ap (λ first. first ∷ script_lines rest) (keeps-line line h)

lines-read : (flow : List Operator) (commands : List Command) (number : ℕ) → AreReadBack flow commands
    → commands_from number flow (script_lines (flat_map (script_line flow) commands)) ≡ Ok commands
unfolding AreReadBack commands_from said_by says
lines-read flow [] number h = refl
lines-read flow (meant ∷ more) number h =
    let rest : List ℕ = flat_map (script_line flow) more in
    let lines : script_lines (script_line flow meant ++ rest) ≡ h.0.line ∷ script_lines rest =
    ap (λ (text : List ℕ). script_lines (text ++ rest)) h.0.text ∙ first-line h.0.line rest h.0.inline in
    rw lines (rw (h.0.says, lines-read flow more (number + 1) h.1) refl)

-- ---- the items of a log

back-append : (flow : List Operator) (front other : List Command) → AreReadBack flow front → AreReadBack flow other → AreReadBack flow (front ++ other)
unfolding AreReadBack
back-append flow [] other h k = k
back-append flow (meant ∷ front) other h k = (h.0, back-append flow front other h.1 k)

item-back : (flow : List Operator) (one : Item) → AreNext [] flow → HasTextNames flow → IsItem one → are_scripted flow (commands_in one) ≡ true → AreReadBack flow (commands_in one)
unfolding AreReadBack
item-back flow (item.Do meant) ops names is fits = (command-back flow meant ops names is (and_parts (fits_script flow meant) true fits).0, tt)
item-back flow (item.Run leg) ops names is fits = (run-back flow, tt)
item-back flow (item.End leg) ops names is fits = tt

fit-first : (flow : List Operator) (one : Item) (items : List Item) (line : ℕ) → unfit_line line flow (one ∷ items) ≡ None
    → (are_scripted flow (commands_in one) ≡ true) × (unfit_line (line + length (item_lines one)) flow items ≡ None)
unfolding unfit_line
fit-first flow one items line h =
    elim (cases_Bool (are_scripted flow (commands_in one))) [
      | inl fit ↦ (fit, rw fit at h)
      | inr unfit ↦ absurd (none-of line (rw unfit at h))
    ]
  where
    none-of : (n : ℕ) → ◌≡◌ {A = Option ℕ} (Some n) None → ⊥
    none-of n e = cc

items-back : (flow : List Operator) (items : List Item) (over : Bool) (line : ℕ) → AreNext [] flow → HasTextNames flow → AreItems over items → unfit_line line flow items ≡ None
    → AreReadBack flow (commands_of items)
unfolding AreReadBack AreItems
items-back flow [] over line ops names is h = tt
items-back flow (one ∷ items) over line ops names is h =
    let first = fit-first flow one items line h in
    back-append flow (commands_in one) (commands_of items) (item-back flow one ops names is.1 first.0)
    (items-back flow items (is_last one) (line + length (item_lines one)) ops names is.2 first.1)

pub scripts_read_back : ScriptsReadBack
unfolding script_of commands_text
scripts_read_back flow log is names is_log h = lines-read flow (commands_of log.items) 1 (items-back flow log.items false 2 is.operators names is_log.items h)
