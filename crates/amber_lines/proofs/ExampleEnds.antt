-- Holding, units and how legs are closed: for each rule a log that keeps it, and one with one change that does not.
use Rattle.std.proofs.Common.{◌≡◌, ℕ, List, [], ◌∷◌, codes, Some, None, Ok, refl}
use Rattle.amber_meaning.specs.Legal.{Query}
use Rattle.amber_lines.proofs.ExampleLog.{after_the_scan, example, judged_text, judging_on_literals, query, reading_on_literals, with_a_pause, with_line, with_more, without_line}

-- ---- holding

-- orders 2 and 4 meet the condition; the row that was held is waved on when the second leg begins
abbrev with_a_condition : List (List ℕ)
with_a_condition =
    codes "amber 1 400"
    ∷ codes "do when 2 3 >= i12"
    ∷ codes "run"
    ∷ after_the_scan (
    codes "g 2 1"
    ∷ codes "h"
    ∷ codes "cut"
    ∷ codes "run"
    ∷ codes "w 1"
    ∷ codes "g 2 2"
    ∷ codes "h"
    ∷ codes "cut" ∷ []
    )

holding_is_legal : judged_text query with_a_condition ≡ Ok None
unfolding reading_on_literals judging_on_literals
holding_is_legal = refl

nobody_holds_before_a_row_that_does_not_meet : judged_text query (with_line 9 (codes "g 1 0") with_a_condition) ≡ Ok (Some 10)
unfolding reading_on_literals judging_on_literals
nobody_holds_before_a_row_that_does_not_meet = refl

nobody_holds_before_a_waved_row : judged_text query (with_line 14 (codes "h") with_a_condition) ≡ Ok (Some 14)
unfolding reading_on_literals judging_on_literals
nobody_holds_before_a_waved_row = refl

no_row_goes_past_one_that_meets : judged_text query (with_line 9 (codes "g 2 2") with_a_condition) ≡ Ok (Some 9)
unfolding reading_on_literals judging_on_literals
no_row_goes_past_one_that_meets = refl

only_the_waved_row_goes_past : judged_text query (with_line 14 (codes "g 2 3") with_a_condition) ≡ Ok (Some 14)
unfolding reading_on_literals judging_on_literals
only_the_waved_row_goes_past = refl

a_held_worker_moves_no_row : judged_text query (with_more 11 (codes "g 0 1") with_a_condition) ≡ Ok (Some 11)
unfolding reading_on_literals judging_on_literals
a_held_worker_moves_no_row = refl

a_held_worker_may_pause : judged_text query (with_more 11 (codes "p") with_a_condition) ≡ Ok None
unfolding reading_on_literals judging_on_literals
a_held_worker_may_pause = refl

a_held_worker_does_not_resume : judged_text query (with_more 11 (codes "p") (with_more 11 (codes "r") with_a_condition)) ≡ Ok (Some 12)
unfolding reading_on_literals judging_on_literals
a_held_worker_does_not_resume = refl

-- ---- units

-- a count and a condition at one operator
abbrev with_units : List (List ℕ)
with_units =
    codes "amber 1 400"
    ∷ codes "do count 2 5"
    ∷ codes "do when 2 3 >= i12"
    ∷ codes "run"
    ∷ after_the_scan (
    codes "a 2"
    ∷ codes "g 2 1"
    ∷ codes "h"
    ∷ codes "b 1"
    ∷ codes "cut" ∷ []
    )

units_given_back_are_legal : judged_text query with_units ≡ Ok None
unfolding reading_on_literals judging_on_literals
units_given_back_are_legal = refl

nobody_holds_with_an_empty_hand : judged_text query (with_line 12 (codes "b 1") (with_line 13 (codes "h") with_units)) ≡ Ok (Some 13)
unfolding reading_on_literals judging_on_literals
nobody_holds_with_an_empty_hand = refl

the_whole_hand_is_given_back : judged_text query (with_line 10 (codes "a 3") with_units) ≡ Ok (Some 13)
unfolding reading_on_literals judging_on_literals
the_whole_hand_is_given_back = refl

a_row_is_taken_only_with_a_unit_for_those_before_it : judged_text query (with_line 10 (codes "a 1") with_units) ≡ Ok (Some 11)
unfolding reading_on_literals judging_on_literals
a_row_is_taken_only_with_a_unit_for_those_before_it = refl

units_are_claimed_under_a_count_alone : judged_text query (with_line 2 (codes "do clear 2") with_units) ≡ Ok (Some 10)
unfolding reading_on_literals judging_on_literals
units_are_claimed_under_a_count_alone = refl

no_count_is_passed : judged_text query (with_line 9 (codes "a 4") (with_line 10 (codes "g 4 4") example)) ≡ Ok (Some 12)
unfolding reading_on_literals judging_on_literals
no_count_is_passed = refl

-- ---- the end of a leg

-- a pause that does not stand yet
abbrev too_early : List (List ℕ)
too_early = with_line 2 (codes "do pause 2 4") with_a_pause

-- a query that may make this many steps; this leg makes 18
abbrev within : ℕ → Query
within most = record query { most = most }

no_cut_without_a_stop : judged_text query too_early ≡ Ok (Some 11)
unfolding reading_on_literals judging_on_literals
no_cut_without_a_stop = refl

no_cut_at_the_end_before_all_have_finished : judged_text query (without_line 21 example) ≡ Ok (Some 21)
unfolding reading_on_literals judging_on_literals
no_cut_at_the_end_before_all_have_finished = refl

long_at_the_limit : judged_text (within 18) (with_line 11 (codes "long") too_early) ≡ Ok None
unfolding reading_on_literals judging_on_literals
long_at_the_limit = refl

no_long_below_the_limit : judged_text (within 19) (with_line 11 (codes "long") too_early) ≡ Ok (Some 11)
unfolding reading_on_literals judging_on_literals
no_long_below_the_limit = refl

no_long_where_a_stop_stands : judged_text (within 18) (with_line 2 (codes "do pause 2 2") (with_line 11 (codes "long") too_early)) ≡ Ok (Some 11)
unfolding reading_on_literals judging_on_literals
no_long_where_a_stop_stands = refl

-- ---- workers

a_worker_that_is_not_there : judged_text query (with_line 18 (codes "w 3") example) ≡ Ok (Some 18)
unfolding reading_on_literals judging_on_literals
a_worker_that_is_not_there = refl
