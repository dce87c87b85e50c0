-- Scripts with stops at a count or a condition, and with rows that are dropped, read on literals.
use Rattle.std.proofs.Common.{pos, negsuc, [], ◌∷◌, ◌++◌, codes, refl}
use Rattle.amber_rows.specs.declared.cond.Cmp.TheVariants as cmp
use Rattle.amber_rows.specs.declared.value.Value.TheVariants as value
use Rattle.amber_log.specs.declared.command.Command.TheVariants as command
use Rattle.amber_script.proofs.Examples.{Reads, Refuses, lines, scripts_on_literals}
use Rattle.amber_script.specs.declared.error.ScriptWhy.TheVariants as why

-- ---- stops at a count

first_row : Reads (codes "break count f 1") (command.Count 2 1 ∷ [])
unfolding scripts_on_literals
first_row = refl

most_rows : Reads (codes "break count o 1099511627776") (command.Count 1 1099511627776 ∷ [])
unfolding scripts_on_literals
most_rows = refl

quoted_count : Reads (codes "\"break\" \"count\" \"f\" \"20\"") (command.Count 2 20 ∷ [])
unfolding scripts_on_literals
quoted_count = refl

count_without_rows : Refuses (codes "break count f") 1 why.Word
unfolding scripts_on_literals
count_without_rows = refl

count_with_more : Refuses (codes "break count f 1 2") 1 why.Word
unfolding scripts_on_literals
count_with_more = refl

count_at_no_operator : Refuses (codes "break count x 1") 1 why.Operator
unfolding scripts_on_literals
count_at_no_operator = refl

count_at_the_sink : Refuses (codes "break count s 1") 1 why.Kind
unfolding scripts_on_literals
count_at_the_sink = refl

count_of_no_rows : Refuses (codes "break count f 0") 1 why.Number
unfolding scripts_on_literals
count_of_no_rows = refl

count_of_too_many : Refuses (codes "break count f 1099511627777") 1 why.Number
unfolding scripts_on_literals
count_of_too_many = refl

count_with_leading_zero : Refuses (codes "break count f 01") 1 why.Number
unfolding scripts_on_literals
count_with_leading_zero = refl

count_that_is_none : Refuses (codes "break count f -1") 1 why.Number
unfolding scripts_on_literals
count_that_is_none = refl

count_words_before_operator : Refuses (codes "break count x") 1 why.Word
unfolding scripts_on_literals
count_words_before_operator = refl

count_operator_before_number : Refuses (codes "break count x 0") 1 why.Operator
unfolding scripts_on_literals
count_operator_before_number = refl

count_kind_before_number : Refuses (codes "break count s 0") 1 why.Kind
unfolding scripts_on_literals
count_kind_before_number = refl

-- ---- stops at a condition

first_column : Reads (codes "break when o id = 7") (command.When 1 (record { column = 1; op = cmp.Eq; constant = value.Int (pos 7) }) ∷ [])
unfolding scripts_on_literals
first_column = refl

other_text : Reads (codes "break when f item != nut") (command.When 2 (record { column = 2; op = cmp.Ne; constant = value.Text (codes "nut") }) ∷ [])
unfolding scripts_on_literals
other_text = refl

less : Reads (codes "break when f qty < -3") (command.When 2 (record { column = 3; op = cmp.Lt; constant = value.Int (negsuc 2) }) ∷ [])
unfolding scripts_on_literals
less = refl

at_most : Reads (codes "break when t qty <= +007") (command.When 3 (record { column = 3; op = cmp.Le; constant = value.Int (pos 7) }) ∷ [])
unfolding scripts_on_literals
at_most = refl

quoted_column : Reads (codes "break when t \"unit price\" > 10") (command.When 3 (record { column = 4; op = cmp.Gt; constant = value.Int (pos 10) }) ∷ [])
unfolding scripts_on_literals
quoted_column = refl

quoted_text : Reads (codes "break when t item >= \"big \\\"cog\\\"\"") (command.When 3 (record { column = 2; op = cmp.Ge; constant = value.Text (codes "big \"cog\"") }) ∷ [])
unfolding scripts_on_literals
quoted_text = refl

digits_as_text : Reads (codes "break when t item = 7") (command.When 3 (record { column = 2; op = cmp.Eq; constant = value.Text (codes "7") }) ∷ [])
unfolding scripts_on_literals
digits_as_text = refl

empty_text : Reads (codes "break when t item = \"\"") (command.When 3 (record { column = 2; op = cmp.Eq; constant = value.Text [] }) ∷ [])
unfolding scripts_on_literals
empty_text = refl

quoted_sign : Reads (codes "break when f qty \"<\" \"1\"") (command.When 2 (record { column = 3; op = cmp.Lt; constant = value.Int (pos 1) }) ∷ [])
unfolding scripts_on_literals
quoted_sign = refl

quote_not_closed : Refuses (codes "break when t item = \"cog") 1 why.Word
unfolding scripts_on_literals
quote_not_closed = refl

quote_before_operator : Refuses (codes "break when x item = \"cog\"s") 1 why.Word
unfolding scripts_on_literals
quote_before_operator = refl

constant_without_utf8 : Refuses (codes "break when t item = " ++ 195 ∷ []) 1 why.Word
unfolding scripts_on_literals
constant_without_utf8 = refl

condition_without_constant : Refuses (codes "break when f qty >") 1 why.Word
unfolding scripts_on_literals
condition_without_constant = refl

condition_with_more : Refuses (codes "break when f qty > 1 2") 1 why.Word
unfolding scripts_on_literals
condition_with_more = refl

unknown_sign : Refuses (codes "break when f qty == 1") 1 why.Word
unfolding scripts_on_literals
unknown_sign = refl

sign_and_constant_in_one : Refuses (codes "break when f qty >1") 1 why.Word
unfolding scripts_on_literals
sign_and_constant_in_one = refl

condition_at_no_operator : Refuses (codes "break when x qty > 1") 1 why.Operator
unfolding scripts_on_literals
condition_at_no_operator = refl

condition_at_the_sink : Refuses (codes "break when s qty > 1") 1 why.Kind
unfolding scripts_on_literals
condition_at_the_sink = refl

no_column : Refuses (codes "break when f price > 1") 1 why.Column
unfolding scripts_on_literals
no_column = refl

column_by_number : Refuses (codes "break when f 3 > 1") 1 why.Column
unfolding scripts_on_literals
column_by_number = refl

part_of_a_column : Refuses (codes "break when f unit > 1") 1 why.Column
unfolding scripts_on_literals
part_of_a_column = refl

no_int_in_an_int_column : Refuses (codes "break when f qty > some") 1 why.Mismatch
unfolding scripts_on_literals
no_int_in_an_int_column = refl

empty_int : Refuses (codes "break when f qty = \"\"") 1 why.Mismatch
unfolding scripts_on_literals
empty_int = refl

too_large_an_int : Refuses (codes "break when f qty < 9223372036854775808") 1 why.Mismatch
unfolding scripts_on_literals
too_large_an_int = refl

sign_before_operator : Refuses (codes "break when x qty == 1") 1 why.Word
unfolding scripts_on_literals
sign_before_operator = refl

operator_before_column : Refuses (codes "break when x price > 1") 1 why.Operator
unfolding scripts_on_literals
operator_before_column = refl

kind_before_column : Refuses (codes "break when s price > 1") 1 why.Kind
unfolding scripts_on_literals
kind_before_column = refl

kind_before_mismatch : Refuses (codes "break when s qty > some") 1 why.Kind
unfolding scripts_on_literals
kind_before_mismatch = refl

column_before_mismatch : Refuses (codes "break when f price > some") 1 why.Column
unfolding scripts_on_literals
column_before_mismatch = refl

-- ---- `break` alone

break_alone : Refuses (codes "break") 1 why.Word
unfolding scripts_on_literals
break_alone = refl

break_and_stop_in_one_word : Refuses (codes "\"break count\" f 1") 1 why.Word
unfolding scripts_on_literals
break_and_stop_in_one_word = refl

break_at_a_pause : Refuses (codes "break pause f 1") 1 why.Word
unfolding scripts_on_literals
break_at_a_pause = refl

other_stop_before_operator : Refuses (codes "break at x 0") 1 why.Word
unfolding scripts_on_literals
other_stop_before_operator = refl

-- ---- rows that are dropped

first_worker : Reads (codes "drop f 0") (command.Drop 2 0 ∷ [])
unfolding scripts_on_literals
first_worker = refl

second_worker : Reads (codes "drop f 1") (command.Drop 2 1 ∷ [])
unfolding scripts_on_literals
second_worker = refl

worker_of_the_sink : Reads (codes "drop s 0") (command.Drop 4 0 ∷ [])
unfolding scripts_on_literals
worker_of_the_sink = refl

drop_without_worker : Refuses (codes "drop f") 1 why.Word
unfolding scripts_on_literals
drop_without_worker = refl

drop_with_more : Refuses (codes "drop f 0 0") 1 why.Word
unfolding scripts_on_literals
drop_with_more = refl

drop_at_no_operator : Refuses (codes "drop x 0") 1 why.Operator
unfolding scripts_on_literals
drop_at_no_operator = refl

worker_with_leading_zero : Refuses (codes "drop f 01") 1 why.Number
unfolding scripts_on_literals
worker_with_leading_zero = refl

two_zeros : Refuses (codes "drop f 00") 1 why.Number
unfolding scripts_on_literals
two_zeros = refl

worker_with_a_sign : Refuses (codes "drop f +1") 1 why.Number
unfolding scripts_on_literals
worker_with_a_sign = refl

worker_without_digits : Refuses (codes "drop f \"\"") 1 why.Number
unfolding scripts_on_literals
worker_without_digits = refl

worker_by_name : Refuses (codes "drop f one") 1 why.Number
unfolding scripts_on_literals
worker_by_name = refl

no_such_worker : Refuses (codes "drop f 2") 1 why.Worker
unfolding scripts_on_literals
no_such_worker = refl

no_worker_of_32_bits : Refuses (codes "drop f 4294967296") 1 why.Worker
unfolding scripts_on_literals
no_worker_of_32_bits = refl

no_worker_of_64_bits : Refuses (codes "drop f 18446744073709551616") 1 why.Worker
unfolding scripts_on_literals
no_worker_of_64_bits = refl

no_worker_of_any_size : Refuses (codes "drop f 99999999999999999999999999") 1 why.Worker
unfolding scripts_on_literals
no_worker_of_any_size = refl

drop_words_before_operator : Refuses (codes "drop x 0 0") 1 why.Word
unfolding scripts_on_literals
drop_words_before_operator = refl

drop_operator_before_number : Refuses (codes "drop x 01") 1 why.Operator
unfolding scripts_on_literals
drop_operator_before_number = refl

number_before_worker : Refuses (codes "drop o 01") 1 why.Number
unfolding scripts_on_literals
number_before_worker = refl

large_number_before_worker : Refuses (codes "drop o 099999999999999999999999999") 1 why.Number
unfolding scripts_on_literals
large_number_before_worker = refl

-- ---- whole scripts

all_three : Reads (lines (codes "break when f qty > 100" ∷ codes "run" ∷ codes "drop f 1" ∷ codes "clear f" ∷ codes "break count t 3" ∷ codes "run" ∷ []))
    (command.When 2 (record { column = 3; op = cmp.Gt; constant = value.Int (pos 100) }) ∷ command.Run ∷ command.Drop 2 1 ∷ command.Clear 2 ∷ command.Count 3 3 ∷ command.Run ∷ [])
unfolding scripts_on_literals
all_three = refl

first_of_two_bad_lines : Refuses (lines (codes "run" ∷ codes "drop f 2" ∷ codes "break count f 0" ∷ [])) 2 why.Worker
unfolding scripts_on_literals
first_of_two_bad_lines = refl
