-- The printed texts. Every line ends with a line feed.
use Rattle.std.specs.Prelude.{ℕ, ◌+◌, ◌==◌, ◌&&◌, nat_le, not, List, [], ◌∷◌, ◌++◌, length, codes, Option, Some, None, Bool, true, false, if◌then◌else◌}
use Rattle.std.specs.List.{flat_map, list_all}
use Rattle.std.specs.Fmt.{decimal, signed_decimal}
use Rattle.amber_meaning.specs.Kinds.{kind_word}
use Rattle.amber_rows.specs.Columns.{names_of, columns_at}
use Rattle.amber_rows.specs.Lists.{nth}
use Rattle.amber_rows.specs.RowText.{fields_text_of, row_text_of, rows_text_of}
use Rattle.amber_rows.specs.declared.value.Value.{Value}
use Rattle.amber_rows.specs.declared.value.Value.TheVariants as value
use Rattle.amber_rows.specs.declared.column.Column.{Column}
use Rattle.amber_rows.specs.declared.cond.Cond.{Cond}
use Rattle.amber_rows.specs.declared.record.RowFault.{RowFault}
use Rattle.amber_rows.specs.declared.record.RowFault.TheVariants as fault
use Rattle.amber_rows.specs.declared.flow.Operator.{Operator}
use Rattle.amber_log.specs.Commands.{action_of}
use Rattle.amber_log.specs.Words.{sign_of}
use Rattle.amber_log.specs.declared.command.Command.{Command}
use Rattle.amber_log.specs.declared.effect.Action.{Action}
use Rattle.amber_log.specs.declared.effect.Action.TheVariants as action
use Rattle.amber_log.specs.declared.effect.Argument.{Argument}
use Rattle.amber_log.specs.declared.effect.Argument.TheVariants as argument
use Rattle.amber_meaning.specs.declared.answer.Answer.{Answer}
use Rattle.amber_meaning.specs.declared.answer.Refusal.{Refusal}
use Rattle.amber_meaning.specs.declared.answer.Refusal.TheVariants as refusal
use Rattle.amber_meaning.specs.declared.view.Counted.{Counted}
use Rattle.amber_meaning.specs.declared.view.Extra.{Extra}
use Rattle.amber_meaning.specs.declared.view.Extra.TheVariants as extra
use Rattle.amber_meaning.specs.declared.view.Inspected.{Inspected}
use Rattle.amber_meaning.specs.declared.view.Stand.{Stand}
use Rattle.amber_meaning.specs.declared.view.Stand.TheVariants as stand
use Rattle.amber_meaning.specs.declared.view.Stop.{Stop}
use Rattle.amber_meaning.specs.declared.view.Stop.TheVariants as stop
use Rattle.amber_meaning.specs.declared.view.WorkerView.{WorkerView}

-- ---- words

-- a blank before a word
abbrev pub after_blank : List ℕ → List ℕ
after_blank word = 32 ∷ word

-- 0x21 to 0x7E without the quote
abbrev pub is_bare_byte : ℕ → Bool
is_bare_byte b = nat_le 33 b && nat_le b 126 && not (b == 34)

-- not empty, no `#` at its front, and only such bytes
abbrev pub is_bare : List ℕ → Bool
is_bare [] = false
is_bare (b ∷ bs) = not (b == 35) && list_all is_bare_byte (b ∷ bs)

-- a byte between quotes: a quote, a backslash, a line feed and a carriage return have an escape
abbrev pub escaped_byte : ℕ → List ℕ
escaped_byte b =
    if b == 34 then 92 ∷ 34 ∷ [] else (if b == 92 then 92 ∷ 92 ∷ [] else (if b == 10 then 92 ∷ 110 ∷ [] else (if b == 13 then 92 ∷ 114 ∷ [] else b ∷ [])))

-- a text as one word: bare where it can be, else in quotes
unfoldable pub word_of : List ℕ → List ℕ
word_of text = if is_bare text then text else 34 ∷ (flat_map escaped_byte text ++ 34 ∷ [])

-- a value as a word
abbrev pub value_word : Value → List ℕ
value_word (value.Int n) = signed_decimal n
value_word (value.Text t) = word_of t

-- words with blanks between them, as a line
unfoldable pub words_line : List (List ℕ) → List ℕ
words_line [] = 10 ∷ []
words_line (word ∷ []) = word ++ 10 ∷ []
words_line (word ∷ next ∷ more) = word ++ after_blank (words_line (next ∷ more))

-- words with blanks between them, and after one more blank what ends the line
unfoldable pub words_before : List (List ℕ) → List ℕ → List ℕ
words_before [] end = end
words_before (word ∷ more) end = word ++ after_blank (words_before more end)

-- ---- names

abbrev pub id_in : Option Operator → List ℕ
id_in None = []
id_in (Some operator) = operator.id

-- the id of an operator
abbrev pub id_at : List Operator → ℕ → List ℕ
id_at flow op = id_in (nth flow op)

abbrev pub name_in : Option Column → List ℕ
name_in None = []
name_in (Some column) = column.name

-- the name of an operator's column
abbrev pub column_name_at : List Operator → ℕ → ℕ → List ℕ
column_name_at flow op column = name_in (nth (columns_at flow op) column)

-- column, sign and constant
abbrev pub cond_words : List Operator → ℕ → Cond → List (List ℕ)
cond_words flow op cond = word_of (column_name_at flow op cond.column) ∷ sign_of cond.op ∷ value_word cond.constant ∷ []

-- ---- replies to commands

-- what a command says beside its operator, as it stands in a script
abbrev pub argument_reply : List Operator → ℕ → Argument → List (List ℕ)
argument_reply flow op argument.Nothing = []
argument_reply flow op (argument.Rows n) = decimal n ∷ []
argument_reply flow op (argument.Worker worker) = decimal worker ∷ []
argument_reply flow op (argument.Constant constant) = value_word constant ∷ []
argument_reply flow op (argument.Condition cond) = cond_words flow op cond

-- what is done as it stands in a script
abbrev pub script_words : List Operator → Action → List (List ℕ)
script_words flow (action.Leg false) = codes "run" ∷ []
script_words flow (action.Leg true) = codes "end" ∷ []
script_words flow (action.AtRest effect) = effect.words ++ (id_at flow effect.op ∷ argument_reply flow effect.op effect.argument)

-- a command as it stands in a script
abbrev pub reply_words : List Operator → Command → List (List ℕ)
reply_words flow command = script_words flow (action_of command)

-- that a command was done
unfoldable pub ok_text : List Operator → Command → List ℕ
ok_text flow done = words_line (codes "ok" ∷ reply_words flow done)

-- the row that was dropped, or that there was none
unfoldable pub drop_text : List Operator → ℕ → ℕ → Option (List Value) → List ℕ
drop_text flow op worker None = words_line (codes "none" ∷ codes "drop" ∷ id_at flow op ∷ decimal worker ∷ [])
drop_text flow op worker (Some row) = words_before (codes "ok" ∷ codes "drop" ∷ id_at flow op ∷ decimal worker ∷ []) (row_text_of row)

-- ---- stops

abbrev pub stop_text : List Operator → Stop → List ℕ
stop_text flow (stop.Held op worker row) = words_before (codes "stop" ∷ codes "held" ∷ id_at flow op ∷ decimal worker ∷ []) (row_text_of row)
stop_text flow (stop.Count op target) = words_line (codes "stop" ∷ codes "count" ∷ id_at flow op ∷ decimal target ∷ [])
stop_text flow (stop.Pause op n emitted) = words_line (codes "stop" ∷ codes "pause" ∷ id_at flow op ∷ decimal n ∷ decimal emitted ∷ [])
stop_text flow stop.End = words_line (codes "stop" ∷ codes "end" ∷ [])

unfoldable pub stops_text : List Operator → List Stop → List ℕ
stops_text flow stops = flat_map (stop_text flow) stops

-- ---- inspections

abbrev pub stand_word : Stand → List ℕ
stand_word stand.Ready = codes "ready"
stand_word stand.Held = codes "held"
stand_word stand.Finished = codes "finished"

abbrev pub extra_words : Extra → List (List ℕ)
extra_words extra.Nothing = []
extra_words (extra.Scan refused) = codes "refused" ∷ decimal refused ∷ []
extra_words (extra.Join keys built) = codes "keys" ∷ decimal keys ∷ codes "built" ∷ decimal built ∷ []
extra_words (extra.Group groups) = codes "groups" ∷ decimal groups ∷ []
extra_words (extra.Sink kept) = codes "kept" ∷ decimal kept ∷ []

-- the first pending row
abbrev pub next_text : Option (List Value) → List ℕ
next_text None = []
next_text (Some row) = words_before (codes "next" ∷ []) (row_text_of row)

abbrev pub view_words : ℕ → WorkerView → List (List ℕ)
view_words worker view =
    codes "worker" ∷ decimal worker ∷ codes "taken" ∷ decimal view.taken ∷ codes "rest" ∷ decimal view.rest ∷ codes "out" ∷ decimal view.out
    ∷ codes "pending" ∷ decimal view.pending ∷ stand_word view.stand ∷ extra_words view.extra

-- the workers from this number on
unfoldable pub views_text : ℕ → List WorkerView → List ℕ
views_text worker [] = []
views_text worker (view ∷ more) = words_line (view_words worker view) ++ (next_text view.next ++ views_text (worker + 1) more)

abbrev pub constant_text : Option Value → List ℕ
constant_text None = []
constant_text (Some constant) = words_line (codes "constant" ∷ value_word constant ∷ [])

abbrev pub pause_text : Option ℕ → List ℕ
pause_text None = []
pause_text (Some n) = words_line (codes "pause" ∷ decimal n ∷ [])

abbrev pub count_text : Option Counted → List ℕ
count_text None = []
count_text (Some count) = words_line (codes "count" ∷ decimal count.counted ∷ codes "of" ∷ decimal count.target ∷ [])

abbrev pub when_text : List Operator → ℕ → Option Cond → List ℕ
when_text flow op None = []
when_text flow op (Some cond) = words_line (codes "when" ∷ cond_words flow op cond)

abbrev pub kind_in : Option Operator → List ℕ
kind_in None = []
kind_in (Some operator) = kind_word operator.what

-- what an operator shows
unfoldable pub inspected_text : List Operator → Inspected → List ℕ
inspected_text flow seen =
    words_line (codes "inspect" ∷ id_at flow seen.op ∷ kind_in (nth flow seen.op) ∷ [])
    ++ (constant_text seen.constant ++ (pause_text seen.pause ++ (count_text seen.count ++ (when_text flow seen.op seen.when ++ views_text 0 seen.workers))))

-- ---- the answer

-- why a record was refused
abbrev pub fault_words : RowFault → List (List ℕ)
fault_words fault.Width = codes "width" ∷ []
fault_words (fault.Int column) = codes "int" ∷ decimal column ∷ []
fault_words (fault.Utf8 column) = codes "utf8" ∷ decimal column ∷ []

-- a key as a record, where it has a column
abbrev pub key_text : List (List ℕ) → List Value → List ℕ
key_text words [] = words_line words
key_text words (cell ∷ cells) = words_before words (row_text_of (cell ∷ cells))

abbrev pub refusal_text : List Operator → Refusal → List ℕ
refusal_text flow (refusal.Record op number why) =
    words_line (codes "refused" ∷ codes "record" ∷ id_at flow op ∷ decimal number ∷ fault_words why)
refusal_text flow (refusal.Group op key) = key_text (codes "refused" ∷ codes "group" ∷ id_at flow op ∷ []) key

-- what was refused, a line each; `rows K`; the columns' names as a record; the rows as records
unfoldable pub answer_text : List Operator → Answer → List ℕ
answer_text flow answer =
    flat_map (refusal_text flow) answer.refused
    ++ (words_line (codes "rows" ∷ decimal (length answer.rows) ∷ []) ++ (fields_text_of (names_of answer.columns) ++ rows_text_of answer.rows))
