-- Scripts read on literals.
use Rattle.std.specs.Prelude.{⊤}
use Rattle.std.proofs.Common.{◌≡◌, ℕ, pos, negsuc, List, [], ◌∷◌, ◌++◌, codes, None, Some, Ok, Err, refl}
use Rattle.std.specs.List.{flat_map}
use Rattle.std.specs.Fmt.{digits}
use Rattle.std.specs.Str.{chars, is_utf8}
use Rattle.amber_rows.specs.Number.{read_int_of}
use Rattle.amber_rows.specs.declared.value.Value.TheVariants as value
use Rattle.amber_rows.specs.declared.column.ColKind.TheVariants as kind
use Rattle.amber_rows.specs.declared.column.Column.{Column}
use Rattle.amber_rows.specs.declared.cond.Cmp.TheVariants as cmp
use Rattle.amber_rows.specs.declared.flow.What.TheVariants as what
use Rattle.amber_rows.specs.declared.flow.Operator.{Operator}
use Rattle.amber_log.specs.declared.command.Command.{Command}
use Rattle.amber_log.specs.declared.command.Command.TheVariants as command
use Rattle.amber_log.specs.Operands.{comparison_of}
use Rattle.amber_script.specs.Commands.{break_by, command_by, read_command}
use Rattle.amber_script.specs.Numbers.{number_up_to, whole_number}
use Rattle.amber_script.specs.Script.{commands_from, said_by, says, script_of}
use Rattle.amber_script.specs.Words.{words_from, script_words_of}
use Rattle.amber_script.specs.declared.error.ScriptWhy.{ScriptWhy}
use Rattle.amber_script.specs.declared.error.ScriptWhy.TheVariants as why

-- what unfolds
unfoldable pub scripts_on_literals : ⊤
unfolding break_by command_by comparison_of read_command number_up_to whole_number commands_from said_by says script_of words_from read_int_of digits is_utf8 chars lib.Utf8.encode
scripts_on_literals = tt

-- ---- a workflow: orders, those of some quantity by two workers, those of no nuts, the sink

abbrev pub orders : List Column
orders =
    record { name = codes "id"; kind = kind.Int } ∷ record { name = codes "item"; kind = kind.Text } ∷ record { name = codes "qty"; kind = kind.Int }
    ∷ record { name = codes "unit price"; kind = kind.Int } ∷ []

abbrev pub flow : List Operator
flow =
    record { id = codes "o"; what = what.Scan (codes "o.csv"); schema = orders; workers = 1 }
    ∷ record { id = codes "f"; what = what.Filter 1 (record { column = 3; op = cmp.Gt; constant = value.Int (pos 0) }); schema = orders; workers = 2 }
    ∷ record { id = codes "t"; what = what.Filter 2 (record { column = 2; op = cmp.Ne; constant = value.Text (codes "nut") }); schema = orders; workers = 1 }
    ∷ record { id = codes "s"; what = what.Sink 3; schema = orders; workers = 1 } ∷ []

-- a script of these commands
abbrev pub Reads : List ℕ → List Command → Type 0
Reads bytes commands = script_of bytes flow ≡ Ok commands

-- a script whose first bad line, for this reason, is this one
abbrev pub Refuses : List ℕ → ℕ → ScriptWhy → Type 0
Refuses bytes line reason = script_of bytes flow ≡ Err (record { line = line; why = reason })

-- lines that end with a line feed
abbrev pub lines : List (List ℕ) → List ℕ
lines texts = flat_map (λ text. text ++ 10 ∷ []) texts

-- ---- words

words_apart : script_words_of (9 ∷ codes " pause   f" ++ 9 ∷ codes "2 ") ≡ Some (codes "pause" ∷ codes "f" ∷ codes "2" ∷ [])
unfolding scripts_on_literals
words_apart = refl

no_words : script_words_of (32 ∷ 9 ∷ []) ≡ Some []
unfolding scripts_on_literals
no_words = refl

quotation_of : script_words_of (codes "\"run\" \"\" \"a b\"") ≡ Some (codes "run" ∷ [] ∷ codes "a b" ∷ [])
unfolding scripts_on_literals
quotation_of = refl

escapes : script_words_of (codes "\"\\\"\\\\\\n\\r\"") ≡ Some ((34 ∷ 92 ∷ 10 ∷ 13 ∷ []) ∷ [])
unfolding scripts_on_literals
escapes = refl

other_escape : script_words_of (codes "\"\\t\"") ≡ None
unfolding scripts_on_literals
other_escape = refl

quote_not_closed : script_words_of (codes "\"run") ≡ None
unfolding scripts_on_literals
quote_not_closed = refl

escape_not_closed : script_words_of (codes "\"run\\") ≡ None
unfolding scripts_on_literals
escape_not_closed = refl

quote_in_bare_word : script_words_of (codes "ru\"n") ≡ None
unfolding scripts_on_literals
quote_in_bare_word = refl

word_behind_quote : script_words_of (codes "\"run\"x") ≡ None
unfolding scripts_on_literals
word_behind_quote = refl

backslash_in_bare_word : script_words_of (codes "a\\n") ≡ Some (codes "a\\n" ∷ [])
unfolding scripts_on_literals
backslash_in_bare_word = refl

-- ---- lines

empty : Reads [] []
unfolding scripts_on_literals
empty = refl

skipped : Reads (lines ([] ∷ (32 ∷ 9 ∷ []) ∷ codes "# a \"comment" ∷ (9 ∷ 35 ∷ 255 ∷ []) ∷ (13 ∷ []) ∷ [])) []
unfolding scripts_on_literals
skipped = refl

quoted_hash_is_no_comment : Refuses (codes "\"#\"") 1 why.Word
unfolding scripts_on_literals
quoted_hash_is_no_comment = refl

several_commands : Reads (lines (codes "run" ∷ codes "pause f 2" ∷ codes "set f -5" ∷ codes "inspect o" ∷ codes "clear s" ∷ []))
    (command.Run ∷ command.Pause 2 2 ∷ command.Set 2 (value.Int (negsuc 4)) ∷ command.Inspect 1 ∷ command.Clear 4 ∷ [])
unfolding scripts_on_literals
several_commands = refl

last_line_without_feed : Reads (lines (codes "run" ∷ []) ++ codes "run") (command.Run ∷ command.Run ∷ [])
unfolding scripts_on_literals
last_line_without_feed = refl

carriage_returns : Reads (lines ((codes "run" ++ 13 ∷ []) ∷ []) ++ codes "run" ++ 13 ∷ []) (command.Run ∷ command.Run ∷ [])
unfolding scripts_on_literals
carriage_returns = refl

one_return_is_dropped : Refuses (codes "run" ++ 13 ∷ 13 ∷ []) 1 why.Word
unfolding scripts_on_literals
one_return_is_dropped = refl

first_bad_line : Refuses (lines (codes "# no" ∷ codes "run" ∷ codes "pause s 1" ∷ codes "end" ∷ [])) 3 why.Kind
unfolding scripts_on_literals
first_bad_line = refl

-- ---- each reason

no_utf8 : Refuses (255 ∷ []) 1 why.Word
unfolding scripts_on_literals
no_utf8 = refl

no_utf8_in_a_constant : Refuses (codes "set t " ++ 195 ∷ []) 1 why.Word
unfolding scripts_on_literals
no_utf8_in_a_constant = refl

bad_quote : Refuses (codes "\"run") 1 why.Word
unfolding scripts_on_literals
bad_quote = refl

byte_order_mark : Refuses (239 ∷ 187 ∷ 191 ∷ codes "run") 1 why.Word
unfolding scripts_on_literals
byte_order_mark = refl

end_is_none : Refuses (codes "end") 1 why.Word
unfolding scripts_on_literals
end_is_none = refl

too_many_words : Refuses (codes "run f") 1 why.Word
unfolding scripts_on_literals
too_many_words = refl

too_few_words : Refuses (codes "pause f") 1 why.Word
unfolding scripts_on_literals
too_few_words = refl

no_operator : Refuses (codes "pause x 1") 1 why.Operator
unfolding scripts_on_literals
no_operator = refl

no_operator_to_clear : Refuses (codes "clear x") 1 why.Operator
unfolding scripts_on_literals
no_operator_to_clear = refl

pause_of_the_sink : Refuses (codes "pause s 1") 1 why.Kind
unfolding scripts_on_literals
pause_of_the_sink = refl

set_of_a_scan : Refuses (codes "set o 1") 1 why.Kind
unfolding scripts_on_literals
set_of_a_scan = refl

zero : Refuses (codes "pause f 0") 1 why.Number
unfolding scripts_on_literals
zero = refl

leading_zero : Refuses (codes "pause f 01") 1 why.Number
unfolding scripts_on_literals
leading_zero = refl

plus : Refuses (codes "pause f +1") 1 why.Number
unfolding scripts_on_literals
plus = refl

no_digits : Refuses (codes "pause f \"\"") 1 why.Number
unfolding scripts_on_literals
no_digits = refl

greatest : Reads (codes "pause f 1099511627776") (command.Pause 2 1099511627776 ∷ [])
unfolding scripts_on_literals
greatest = refl

above_greatest : Refuses (codes "pause f 1099511627777") 1 why.Number
unfolding scripts_on_literals
above_greatest = refl

huge_number : Refuses (codes "pause f 99999999999999999999999999") 1 why.Number
unfolding scripts_on_literals
huge_number = refl

no_int : Refuses (codes "set f x") 1 why.Mismatch
unfolding scripts_on_literals
no_int = refl

int_as_in_scans : Reads (codes "set f +007") (command.Set 2 (value.Int (pos 7)) ∷ [])
unfolding scripts_on_literals
int_as_in_scans = refl

any_text : Reads (codes "set t \"big cog\"") (command.Set 3 (value.Text (codes "big cog")) ∷ [])
unfolding scripts_on_literals
any_text = refl

quoted_command : Reads (codes "\"run\"") (command.Run ∷ [])
unfolding scripts_on_literals
quoted_command = refl

quoted_words : Reads (codes "pause \"f\" \"2\"") (command.Pause 2 2 ∷ [])
unfolding scripts_on_literals
quoted_words = refl

-- ---- reasons that compete

operator_before_number : Refuses (codes "pause x 0") 1 why.Operator
unfolding scripts_on_literals
operator_before_number = refl

kind_before_number : Refuses (codes "pause s 0") 1 why.Kind
unfolding scripts_on_literals
kind_before_number = refl

kind_before_mismatch : Refuses (codes "set o x") 1 why.Kind
unfolding scripts_on_literals
kind_before_mismatch = refl

-- ---- workers that are lost

loss : Reads (codes "lose f 1") (command.Lose 2 1 ∷ [])
unfolding scripts_on_literals
loss = refl

loss_of_nobody : Refuses (codes "lose f 2") 1 why.Worker
unfolding scripts_on_literals
loss_of_nobody = refl

loss_without_worker : Refuses (codes "lose f") 1 why.Word
unfolding scripts_on_literals
loss_without_worker = refl
