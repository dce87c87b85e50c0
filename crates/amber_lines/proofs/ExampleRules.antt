-- For each rule a log that keeps it, and one with one change that does not: the line at which it is not legal.
use Rattle.std.proofs.Common.{◌≡◌, ℕ, List, [], ◌∷◌, codes, Some, None, Ok, refl}
use Rattle.amber_meaning.specs.Legal.{Query}
use Rattle.amber_meaning.proofs.ExampleCases.{kept_from, priced_query, query_of}
use Rattle.amber_lines.proofs.ExampleLog.{after_the_scan, example, judged_text, judging_on_literals, query, reading_on_literals, with_a_pause, with_line, with_more, without_line}

-- ---- taking a batch

-- five rows in batches of two
abbrev in_small_batches : List (List ℕ)
in_small_batches =
    codes "amber 1 2"
    ∷ codes "end"
    ∷ after_the_scan (
    codes "g 2 2"
    ∷ codes "t 0 1"
    ∷ codes "g 2 2"
    ∷ codes "t 0 2"
    ∷ codes "g 1 1"
    ∷ codes "f"
    ∷ codes "w 2"
    ∷ codes "t 1 0"
    ∷ codes "g 2 0"
    ∷ codes "t 1 1"
    ∷ codes "g 2 0"
    ∷ codes "t 1 2"
    ∷ codes "g 1 0"
    ∷ codes "f"
    ∷ codes "cut" ∷ []
    )

abbrev by_two : Query
by_two = query_of (kept_from 0) 2

small_batches_are_legal : judged_text by_two in_small_batches ≡ Ok None
unfolding reading_on_literals judging_on_literals
small_batches_are_legal = refl

a_batch_is_taken_only_with_no_rest : judged_text by_two (with_line 8 (codes "g 1 1") in_small_batches) ≡ Ok (Some 9)
unfolding reading_on_literals judging_on_literals
a_batch_is_taken_only_with_no_rest = refl

a_batch_is_taken_only_with_no_row_pending : judged_text by_two (with_line 8 (codes "g 2 1") in_small_batches) ≡ Ok (Some 9)
unfolding reading_on_literals judging_on_literals
a_batch_is_taken_only_with_no_row_pending = refl

batches_are_taken_in_their_order : judged_text by_two (with_line 9 (codes "t 0 2") in_small_batches) ≡ Ok (Some 9)
unfolding reading_on_literals judging_on_literals
batches_are_taken_in_their_order = refl

batches_are_taken_of_senders_alone : judged_text by_two (with_line 9 (codes "t 2 0") in_small_batches) ≡ Ok (Some 9)
unfolding reading_on_literals judging_on_literals
batches_are_taken_of_senders_alone = refl

-- a join, whose build side is worker 0
abbrev of_a_join : List (List ℕ)
of_a_join =
    codes "amber 1 400"
    ∷ codes "end"
    ∷ codes "w 0"
    ∷ codes "g 3 3"
    ∷ codes "f"
    ∷ codes "w 1"
    ∷ codes "g 5 5"
    ∷ codes "f"
    ∷ codes "w 2"
    ∷ codes "t 0 0"
    ∷ codes "g 3 0"
    ∷ codes "t 1 0"
    ∷ codes "g 5 6"
    ∷ codes "f"
    ∷ codes "w 3"
    ∷ codes "t 2 0"
    ∷ codes "g 6 0"
    ∷ codes "f"
    ∷ codes "cut" ∷ []

the_join_is_legal : judged_text priced_query of_a_join ≡ Ok None
unfolding reading_on_literals judging_on_literals
the_join_is_legal = refl

no_probe_batch_before_the_build_side_has_ended : judged_text priced_query (with_line 10 (codes "t 1 0") of_a_join) ≡ Ok (Some 10)
unfolding reading_on_literals judging_on_literals
no_probe_batch_before_the_build_side_has_ended = refl

-- ---- finishing

nobody_finishes_with_rest : judged_text by_two (without_line 12 in_small_batches) ≡ Ok (Some 12)
unfolding reading_on_literals judging_on_literals
nobody_finishes_with_rest = refl

nobody_finishes_with_a_row_pending : judged_text by_two (with_line 12 (codes "g 1 0") in_small_batches) ≡ Ok (Some 13)
unfolding reading_on_literals judging_on_literals
nobody_finishes_with_a_row_pending = refl

nobody_finishes_before_the_last_batch : judged_text by_two (with_line 11 (codes "f") in_small_batches) ≡ Ok (Some 11)
unfolding reading_on_literals judging_on_literals
nobody_finishes_before_the_last_batch = refl

a_finished_worker_makes_no_entry : judged_text query (with_more 7 (codes "p") example) ≡ Ok (Some 7)
unfolding reading_on_literals judging_on_literals
a_finished_worker_makes_no_entry = refl

-- ---- pausing

the_pause_is_legal : judged_text query with_a_pause ≡ Ok None
unfolding reading_on_literals judging_on_literals
the_pause_is_legal = refl

nobody_pauses_twice : judged_text query (with_more 11 (codes "p") with_a_pause) ≡ Ok (Some 11)
unfolding reading_on_literals judging_on_literals
nobody_pauses_twice = refl

nobody_resumes_that_is_not_paused : judged_text query (with_line 10 (codes "r") with_a_pause) ≡ Ok (Some 10)
unfolding reading_on_literals judging_on_literals
nobody_resumes_that_is_not_paused = refl

a_paused_worker_moves_no_row : judged_text query (with_more 11 (codes "g 1 1") with_a_pause) ≡ Ok (Some 11)
unfolding reading_on_literals judging_on_literals
a_paused_worker_moves_no_row = refl

a_paused_worker_that_resumes_moves_rows : judged_text query (with_more 11 (codes "r") (with_more 11 (codes "g 1 1") with_a_pause)) ≡ Ok None
unfolding reading_on_literals judging_on_literals
a_paused_worker_that_resumes_moves_rows = refl
