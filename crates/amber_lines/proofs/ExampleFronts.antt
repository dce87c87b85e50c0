-- Fronts of the example's lines, and a log of a group with four workers.
use Rattle.std.proofs.Common.{◌≡◌, ℕ, List, [], ◌∷◌, ◌++◌, take, codes, Some, None, Ok, is_some, Bool, true, false, refl}
use Rattle.amber_log.specs.LogText.{log_lines}
use Rattle.amber_log.specs.declared.line.Line.{Line}
use Rattle.amber_log.specs.declared.line.Line.TheVariants as line
use Rattle.amber_log.specs.declared.log.Log.{Log}
use Rattle.amber_meaning.proofs.ExampleCases.{by_item, counted_log, query_of}
use Rattle.amber_lines.specs.Lines.{Fresh, judge_all}
use Rattle.amber_lines.proofs.ExampleLog.{after_the_scan, judged_text, judging_on_literals, query, reading_on_literals, with_line}

abbrev log : Log
log = record { batch = 400; items = counted_log }

-- whether these lines may stand there
abbrev may_stand : List Line → Bool
may_stand lines = is_some (judge_all query Fresh lines)

-- the last line is the number of the filter's worker, whose part is still empty
up_to_an_empty_part : may_stand (take 7 (log_lines log)) ≡ true
unfolding judging_on_literals
up_to_an_empty_part = refl

up_to_a_worker_that_is_not_there : may_stand (take 6 (log_lines log) ++ line.Worker 3 ∷ []) ≡ false
unfolding judging_on_literals
up_to_a_worker_that_is_not_there = refl

nothing_is_a_beginning : may_stand [] ≡ true
unfolding judging_on_literals
nothing_is_a_beginning = refl

-- ---- a group with four workers, of which two get no row

abbrev group_result : List (List ℕ)
group_result =
    codes "amber 1 400"
    ∷ codes "end"
    ∷ after_the_scan (
    codes "f"
    ∷ codes "w 2"
    ∷ codes "t 0 0"
    ∷ codes "f"
    ∷ codes "w 3"
    ∷ codes "t 0 0"
    ∷ codes "g 3 2"
    ∷ codes "f"
    ∷ codes "w 4"
    ∷ codes "t 0 0"
    ∷ codes "g 2 1"
    ∷ codes "f"
    ∷ codes "w 5"
    ∷ codes "t 1 0"
    ∷ codes "t 2 0"
    ∷ codes "t 3 0"
    ∷ codes "g 2 0"
    ∷ codes "t 4 0"
    ∷ codes "g 1 0"
    ∷ codes "f"
    ∷ codes "cut" ∷ []
    )

the_group_is_legal : judged_text (query_of by_item 400) group_result ≡ Ok None
unfolding reading_on_literals judging_on_literals
the_group_is_legal = refl

-- the third worker has two keys and three rows
no_more_rows_than_the_worker_was_given : judged_text (query_of by_item 400) (with_line 14 (codes "g 4 2") group_result) ≡ Ok (Some 14)
unfolding reading_on_literals judging_on_literals
no_more_rows_than_the_worker_was_given = refl

nothing_is_taken_twice : judged_text (query_of by_item 400) (with_line 22 (codes "t 1 0") group_result) ≡ Ok (Some 22)
unfolding reading_on_literals judging_on_literals
nothing_is_taken_twice = refl

-- worker 5 is the sink, and the sixth
no_seventh_worker : judged_text (query_of by_item 400) (with_line 20 (codes "w 6") group_result) ≡ Ok (Some 20)
unfolding reading_on_literals judging_on_literals
no_seventh_worker = refl
