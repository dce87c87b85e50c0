-- What the workers of the example write down and show, computed from the definitions.
use Rattle.std.specs.Prelude.{⊤}
use Rattle.std.proofs.Common.{◌≡◌, ℕ, zero, suc, ◌+◌, pos, List, [], ◌∷◌, length, replicate, Option, Some, None, Result, Ok, Err, Bool, true, false, refl}
use Rattle.amber_rows.specs.declared.value.Value.{Value}
use Rattle.amber_rows.specs.declared.value.Value.TheVariants as value
use Rattle.amber_rows.specs.declared.batch.Batch.{Batch}
use Rattle.amber_rows.specs.declared.record.RowFault.{RowFault}
use Rattle.amber_rows.specs.declared.record.RowFault.TheVariants as fault
use Rattle.amber_rows.specs.Chunks.{chunks_of}
use Rattle.amber_rows.specs.Lists.{numbers_below}
use Rattle.amber_rows.specs.Cond.{holds_of}
use Rattle.amber_rows.specs.Topology.{crew_of, first_worker_of, follower_of, op_of, reader_from, receiver_of, senders_of, sends_to, workers_of}
use Rattle.amber_rows.specs.Operators.{group_result, pick_cells}
use Rattle.amber_rows.specs.Order.{insert_row, sort_rows}
use Rattle.amber_rows.specs.Suits.{suits_of}
use Rattle.amber_log.specs.Fits.{fits_of}
use Rattle.amber_log.specs.declared.entry.Entry.{Entry}
use Rattle.amber_log.specs.declared.entry.Entry.TheVariants as entry
use Rattle.amber_log.specs.declared.leg.Close.TheVariants as close
use Rattle.amber_log.specs.declared.log.Item.{Item}
use Rattle.amber_log.specs.declared.log.Item.TheVariants as item
use Rattle.amber_meaning.specs.Legal.{Query, batches_for, entries_of, role_in, stream_of}
use Rattle.amber_judge.specs.LegalTests.{are_offered, begins, is_settled, may_close_end, may_lead, may_make, may_reach, may_work, same_rows}
use Rattle.amber_meaning.specs.Plan.{role_of, task_of}
use Rattle.amber_rows.specs.Shares.{share_of, with_numbers}
use Rattle.amber_meaning.specs.Position.{Position, all_arrivals, have_ended, kept, origin, product, taken_from}
use Rattle.amber_meaning.specs.Replay.{after_item, after_items, led_by, positions_after, state_after, after_leg}
use Rattle.amber_judge.specs.RuleTests.{may_finish, may_go, may_take}
use Rattle.amber_meaning.specs.Rules.{assigned}
use Rattle.amber_meaning.specs.State.{begin_leg, begin_last_leg, start_of, steps_in}
use Rattle.amber_meaning.specs.Stops.{without_stops}
use Rattle.amber_meaning.specs.Task.{built_of}
use Rattle.amber_meaning.specs.Produce.{closing, produce, yields}
use Rattle.amber_meaning.specs.Views.{answer_in, by_number, insert_numbered, taken_by, view_of}
use Rattle.amber_meaning.specs.declared.answer.Answer.{Answer}
use Rattle.amber_meaning.specs.declared.answer.Refusal.{Refusal}
use Rattle.amber_meaning.specs.declared.answer.Refusal.TheVariants as refusal
use Rattle.amber_meaning.specs.declared.view.Extra.TheVariants as extra
use Rattle.amber_meaning.specs.declared.view.Stand.TheVariants as stand
use Rattle.amber_meaning.specs.declared.view.WorkerView.{WorkerView}
use Rattle.amber_worker.proofs.ExampleFlow.{from_two, numbers}

-- ---- what unfolds

workers_on_literals : ⊤
unfolding holds_of suits_of pick_cells group_result sort_rows insert_row numbers_below chunks_of crew_of first_worker_of workers_of op_of reader_from follower_of receiver_of sends_to senders_of role_of task_of share_of with_numbers all_arrivals product produce yields closing built_of kept have_ended taken_from view_of
workers_on_literals = tt

logs_on_literals : ⊤
unfolding workers_on_literals fits_of entries_of batches_for stream_of steps_in state_after after_items after_item after_leg positions_after led_by start_of begin_leg begin_last_leg without_stops are_offered begins same_rows is_settled may_close_end may_lead may_make may_reach may_work may_finish may_go may_take answer_in by_number insert_numbered taken_by
logs_on_literals = tt

-- ---- records, logs and answers

abbrev Typed : Type 0
Typed = Result (List Value) RowFault

abbrev pub cell : ℕ → List Value
cell n = value.Int (pos n) ∷ []

-- a record of one number
abbrev n : ℕ → Typed
n number = Ok (cell number)

abbrev query : List Typed → ℕ → Query
query records batch_size = record { flow = from_two; records = records ∷ [] ∷ [] ∷ []; batch_size = batch_size; most = 10000 }

abbrev t : ℕ → ℕ → Entry
t from batch = entry.Take from batch

abbrev g : ℕ → ℕ → Entry
g rows outs = entry.Go rows outs

abbrev f : Entry
f = entry.Finish

-- all of the run in one leg, in which the workers write down these entries
abbrev log : List Entry → List Entry → List Entry → List Item
log scan filter sink =
    item.End (record { parts = record { worker = 0; entries = scan } ∷ record { worker = 1; entries = filter } ∷ record { worker = 2; entries = sink } ∷ []; close = close.Cut }) ∷ []

abbrev is_legal : Query → List Item → Bool
is_legal query log = may_reach query (start_of query.flow) log

abbrev answered : Query → List Item → Answer
answered query log = answer_in query (state_after query log)

abbrev answer : List Refusal → List (List Value) → Answer
answer refused rows = record { refused = refused; columns = numbers; rows = rows }

-- ---- five numbers in one batch

abbrev five : List Typed
five = n 3 ∷ n 1 ∷ n 2 ∷ n 5 ∷ n 0 ∷ []

abbrev log_of_five : List Item
log_of_five = log (g 5 5 ∷ f ∷ []) (t 0 0 ∷ g 5 3 ∷ f ∷ []) (t 1 0 ∷ g 3 0 ∷ f ∷ [])

five_is_legal : is_legal (query five 400) log_of_five ≡ true
unfolding logs_on_literals
five_is_legal = refl

five_is_answered : answered (query five 400) log_of_five ≡ answer [] (cell 2 ∷ cell 3 ∷ cell 5 ∷ [])
unfolding logs_on_literals
five_is_answered = refl

-- ---- three numbers, two of them the same, in batches of two

abbrev twice : List Typed
twice = n 3 ∷ n 1 ∷ n 3 ∷ []

abbrev log_of_twice : List Item
log_of_twice = log (g 3 3 ∷ f ∷ []) (t 0 0 ∷ g 2 1 ∷ t 0 1 ∷ g 1 1 ∷ f ∷ []) (t 1 0 ∷ g 2 0 ∷ t 1 1 ∷ f ∷ [])

twice_is_legal : is_legal (query twice 2) log_of_twice ≡ true
unfolding logs_on_literals
twice_is_legal = refl

twice_is_answered : answered (query twice 2) log_of_twice ≡ answer [] (cell 3 ∷ cell 3 ∷ [])
unfolding logs_on_literals
twice_is_answered = refl

-- ---- no number

abbrev none : List Typed
none = []

abbrev log_of_none : List Item
log_of_none = log (f ∷ []) (t 0 0 ∷ f ∷ []) (t 1 0 ∷ f ∷ [])

none_is_legal : is_legal (query none 400) log_of_none ≡ true
unfolding logs_on_literals
none_is_legal = refl

none_is_answered : answered (query none 400) log_of_none ≡ answer [] []
unfolding logs_on_literals
none_is_answered = refl

-- ---- records that are no rows

abbrev faulty : List Typed
faulty = Err (fault.Int 1) ∷ n 1 ∷ Err fault.Width ∷ []

abbrev log_of_faulty : List Item
log_of_faulty = log (g 3 1 ∷ f ∷ []) (t 0 0 ∷ g 1 0 ∷ f ∷ []) (t 1 0 ∷ f ∷ [])

faulty_is_legal : is_legal (query faulty 400) log_of_faulty ≡ true
unfolding logs_on_literals
faulty_is_legal = refl

faulty_is_answered : answered (query faulty 400) log_of_faulty ≡ answer (refusal.Record 1 1 (fault.Int 1) ∷ refusal.Record 1 3 fault.Width ∷ []) []
unfolding logs_on_literals
faulty_is_answered = refl

-- ---- the filter's steps over the five numbers

abbrev pub batch_of_five : Batch
batch_of_five = record { seq = 0; rows = cell 3 ∷ cell 1 ∷ cell 2 ∷ cell 5 ∷ cell 0 ∷ []; last = true }

-- the batch was taken, this many of its rows, and this many rows were emitted
abbrev place : ℕ → ℕ → Position
place rows outs = record origin { taken = record { from = 0; batch = batch_of_five } ∷ []; constants = replicate rows (cell 2); outcomes = replicate outs true }

abbrev shown : ℕ → ℕ → WorkerView
shown rows outs = view_of (role_in (query five 400) 1) (place rows outs)

abbrev view : ℕ → ℕ → ℕ → List (List Value) → Option (List Value) → WorkerView
view taken rest out pending next = record { taken = taken; rest = rest; out = out; pending = length pending; stand = stand.Ready; next = next; extra = extra.Nothing }

abbrev still : ℕ → ℕ → ℕ → WorkerView
still taken rest out = view taken rest out [] None

abbrev before : ℕ → ℕ → ℕ → List Value → WorkerView
before taken rest out row = view taken rest out (row ∷ []) (Some row)

views : shown 0 0 ∷ shown 1 0 ∷ shown 1 1 ∷ shown 2 1 ∷ shown 3 1 ∷ shown 3 2 ∷ shown 4 2 ∷ shown 4 3 ∷ shown 5 3 ∷ []
    ≡ still 0 5 0 ∷ before 1 4 0 (cell 3) ∷ still 1 4 1 ∷ still 2 3 1 ∷ before 3 2 1 (cell 2) ∷ still 3 2 2 ∷ before 4 1 2 (cell 5) ∷ still 4 1 3 ∷ still 5 0 3 ∷ []
unfolding workers_on_literals
views = refl

view_at_first : view_of (role_in (query five 400) 1) origin ≡ still 0 0 0
unfolding workers_on_literals
view_at_first = refl

view_at_the_end : view_of (role_in (query five 400) 1) (record (place 5 3) { finished = true }) ≡ record (still 5 0 3) { stand = stand.Finished }
unfolding workers_on_literals
view_at_the_end = refl

-- ---- many threes

abbrev threes : ℕ → List (List Value)
threes count = replicate count (cell 3)

-- the filter may write this down where the scan has made the batches of this many rows of these threes
abbrev may_write : ℕ → ℕ → List Entry → Bool
may_write batch_size count entries =
    may_lead (λ sender. chunks_of batch_size (threes count) true) (assigned (role_in (query five 400) 1) (record { constants = cell 2; when = None; counted = false })) origin entries

in_one_batch : may_write 400 400 (t 0 0 ∷ g 400 400 ∷ t 0 1 ∷ f ∷ []) ≡ true
unfolding logs_on_literals
in_one_batch = refl

-- this many batches of one row from the one with this number on, each taken and its row passed on; then the last, with none
abbrev one_by_one : ℕ → ℕ → List Entry
one_by_one number zero = t 0 number ∷ f ∷ []
one_by_one number (suc count) = t 0 number ∷ g 1 1 ∷ one_by_one (number + 1) count

in_twenty_batches : may_write 1 20 (one_by_one 0 20) ≡ true
unfolding logs_on_literals
in_twenty_batches = refl

-- 400 threes in batches of one row are as many batches, and the last
all_batches : length (chunks_of 1 (threes 400) true) ≡ 401
unfolding numbers_below chunks_of
all_batches = refl
