-- The example with one change each: at which line it is no text, or not legal.
use Rattle.std.proofs.Common.{◌≡◌, ℕ, [], ◌∷◌, ◌++◌, codes, Some, None, Ok, Err, refl}
use Rattle.amber_meaning.specs.Legal.{Query}
use Rattle.amber_meaning.proofs.ExampleCases.{kept_from, query_of}
use Rattle.amber_lines.proofs.ExampleLog.{example, judged_text, judging_on_literals, query, reading_on_literals, with_line, without_line}

the_example_is_legal : judged_text query example ≡ Ok None
unfolding reading_on_literals judging_on_literals
the_example_is_legal = refl

-- ---- no text

another_version_is_no_text : judged_text query (with_line 1 (codes "amber 3 400") example) ≡ Err 1
unfolding reading_on_literals judging_on_literals
another_version_is_no_text = refl

a_batch_of_too_many_rows_is_no_text : judged_text query (with_line 1 (codes "amber 1 65537") example) ≡ Err 1
unfolding reading_on_literals judging_on_literals
a_batch_of_too_many_rows_is_no_text = refl

workers_must_rise : judged_text query (with_line 7 (codes "w 0") example) ≡ Err 7
unfolding reading_on_literals judging_on_literals
workers_must_rise = refl

numbers_have_64_bits : judged_text query (with_line 10 (codes "g 18446744073709551616 3") example) ≡ Err 10
unfolding reading_on_literals judging_on_literals
numbers_have_64_bits = refl

nothing_follows_a_leg_to_the_end : judged_text query (example ++ codes "run" ∷ codes "cut" ∷ []) ≡ Err 23
unfolding reading_on_literals judging_on_literals
nothing_follows_a_leg_to_the_end = refl

-- a leg that is not closed is not read, and what is left is legal
what_is_torn_is_not_read : judged_text query (example ++ codes "run" ∷ codes "w 9" ∷ []) ≡ Ok None
unfolding reading_on_literals judging_on_literals
what_is_torn_is_not_read = refl

-- ---- not legal

-- the scan has not finished, so it has no batch of five rows
only_a_finished_sender_has_its_last_batch : judged_text query (without_line 6 example) ≡ Ok (Some 7)
unfolding reading_on_literals judging_on_literals
only_a_finished_sender_has_its_last_batch = refl

a_unit_that_is_left_is_not_given_back : judged_text query (with_line 9 (codes "a 4") example) ≡ Ok (Some 12)
unfolding reading_on_literals judging_on_literals
a_unit_that_is_left_is_not_given_back = refl

more_rows_than_units : judged_text query (with_line 10 (codes "g 4 4") example) ≡ Ok (Some 10)
unfolding reading_on_literals judging_on_literals
more_rows_than_units = refl

an_operator_that_is_not_there : judged_text query (with_line 13 (codes "do inspect 9") example) ≡ Ok (Some 13)
unfolding reading_on_literals judging_on_literals
an_operator_that_is_not_there = refl

a_row_is_left_pending : judged_text query (with_line 16 (codes "g 2 1") example) ≡ Ok (Some 17)
unfolding reading_on_literals judging_on_literals
a_row_is_left_pending = refl

a_sink_emits_nothing : judged_text query (with_line 20 (codes "g 5 1") example) ≡ Ok (Some 20)
unfolding reading_on_literals judging_on_literals
a_sink_emits_nothing = refl

all_have_finished_and_it_was_not_too_long : judged_text query (with_line 22 (codes "long") example) ≡ Ok (Some 22)
unfolding reading_on_literals judging_on_literals
all_have_finished_and_it_was_not_too_long = refl

another_batch_size : judged_text (query_of (kept_from 0) 399) example ≡ Ok (Some 1)
unfolding reading_on_literals judging_on_literals
another_batch_size = refl

-- a query that may make this many steps; the example makes 30
abbrev within : ℕ → Query
within most = record query { most = most }

thirty_steps_are_enough : judged_text (within 30) example ≡ Ok None
unfolding reading_on_literals judging_on_literals
thirty_steps_are_enough = refl

with_the_last_step_there_are_too_many : judged_text (within 29) example ≡ Ok (Some 21)
unfolding reading_on_literals judging_on_literals
with_the_last_step_there_are_too_many = refl
