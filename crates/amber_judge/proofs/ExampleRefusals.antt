-- Logs that are not legal: the example's log with one change.
use Rattle.std.proofs.Common.{◌≡◌, List, [], ◌∷◌, false, refl}
use Rattle.std.proofs.lemmas.Bool.{both_ways}
use Rattle.amber_log.specs.declared.command.Command.TheVariants as command
use Rattle.amber_log.specs.declared.entry.Entry.TheVariants as entry
use Rattle.amber_log.specs.declared.leg.Close.TheVariants as close
use Rattle.amber_log.specs.declared.log.Item.{Item}
use Rattle.amber_log.specs.declared.log.Item.TheVariants as item
use Rattle.amber_meaning.specs.Legal.{IsLegal}
use Rattle.amber_judge.specs.LegalTests.{may_reach}
use Rattle.amber_meaning.specs.State.{start_of}
use Rattle.amber_meaning.proofs.ExampleCases.{kept_from, log_with, part, query_of}
use Rattle.amber_judge.proofs.ExampleTests.{tests_on_literals}
use Rattle.amber_judge.proofs.LegalFrom.{logs_are_tested}
use Rattle.amber_meaning.proofs.Senders.{senders_first}

abbrev IsRefused : List Item → Type 0
IsRefused items = IsLegal (query_of (kept_from 0) 400) (record { batch = 400; items = items }) → ⊥

refused_by_test : (items : List Item) → may_reach (query_of (kept_from 0) 400) (start_of (kept_from 0)) items ≡ false → IsRefused items
refused_by_test items e legal =
    both_ways _ e ((logs_are_tested (query_of (kept_from 0) 400) (start_of (kept_from 0)) items (senders_first (kept_from 0) refl)).1 (legal.after, legal.reached))

-- the filter takes batch 1 of the scan before batch 0
batch_out_of_turn : IsRefused (log_with 1 3 3 2 0 close.Cut 2)
unfolding tests_on_literals
batch_out_of_turn = refused_by_test _ refl

-- it claims a unit that it neither uses nor gives back
unit_left_over : IsRefused (log_with 0 4 3 2 0 close.Cut 2)
unfolding tests_on_literals
unit_left_over = refused_by_test _ refl

-- it emits four rows with three units
row_without_unit : IsRefused (log_with 0 3 4 2 0 close.Cut 2)
unfolding tests_on_literals
row_without_unit = refused_by_test _ refl

-- an operator is inspected that is not there
no_such_operator : IsRefused (log_with 0 3 3 2 0 close.Cut 9)
unfolding tests_on_literals
no_such_operator = refused_by_test _ refl

-- the filter finishes before its last row is gone
row_kept_back : IsRefused (log_with 0 3 3 1 0 close.Cut 2)
unfolding tests_on_literals
row_kept_back = refused_by_test _ refl

-- the sink emits a row
row_of_a_sink : IsRefused (log_with 0 3 3 2 1 close.Cut 2)
unfolding tests_on_literals
row_of_a_sink = refused_by_test _ refl

-- the last leg is said to be too long
not_too_long : IsRefused (log_with 0 3 3 2 0 close.Long 2)
unfolding tests_on_literals
not_too_long = refused_by_test _ refl

-- the scan does not finish, so its rows are no whole batch
no_batch_yet : IsRefused (item.Do (command.Count 2 3)
    ∷ item.Run (record {
      parts = part 0 (entry.Go 5 5 ∷ [])
          ∷ part 1 (entry.Take 0 0 ∷ entry.Grant 3 ∷ entry.Go 3 3 ∷ entry.Pause ∷ []) ∷ [];
      close = close.Cut;
    }) ∷ [])
unfolding tests_on_literals
no_batch_yet = refused_by_test _ refl
