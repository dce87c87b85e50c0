-- Tests for legs and logs: they are true exactly of what leads on.
use Rattle.std.specs.Prelude.{ℕ, ◌==◌, nat_le, nat_lt, ◌&&◌, not, suc, List, [], ◌∷◌, length, map, Option, Some, None, is_some, Bool, true, false}
use Rattle.std.specs.List.{list_all}
use Rattle.amber_rows.specs.Lists.{numbers_below, is_empty}
use Rattle.amber_rows.specs.Topology.{crew_of}
use Rattle.amber_rows.specs.Operators.{same_row}
use Rattle.amber_rows.specs.declared.value.Value.{Value}
use Rattle.amber_rows.specs.declared.batch.Batch.{Batch}
use Rattle.amber_log.specs.Fits.{fits_of}
use Rattle.amber_log.specs.declared.entry.Entry.{Entry}
use Rattle.amber_log.specs.declared.entry.Entry.TheVariants as entry
use Rattle.amber_log.specs.declared.leg.Close.{Close}
use Rattle.amber_log.specs.declared.leg.Close.TheVariants as close
use Rattle.amber_log.specs.declared.leg.Part.{Part}
use Rattle.amber_log.specs.declared.log.Item.{Item}
use Rattle.amber_log.specs.declared.log.Item.TheVariants as item
use Rattle.amber_meaning.specs.Legal.{Query, assignment_in, batches_for, entries_of, role_in, stops_in}
use Rattle.amber_meaning.specs.Position.{Position, taken_from}
use Rattle.amber_meaning.specs.Replay.{after_item, after_leg, batch_for}
use Rattle.amber_meaning.specs.Rules.{Assignment, position_after}
use Rattle.amber_judge.specs.RuleTests.{may_move}
use Rattle.amber_meaning.specs.State.{Counting, State, arms_at, begin_leg, begin_last_leg, counted_at, have_finished, position_at, steps_in}

-- ---- batches

unfoldable pub same_rows : List (List Value) → List (List Value) → Bool
same_rows [] [] = true
same_rows [] (y ∷ ys) = false
same_rows (x ∷ xs) [] = false
same_rows (x ∷ xs) (y ∷ ys) = same_row x y && same_rows xs ys

abbrev pub same_flag : Bool → Bool → Bool
same_flag true b = b
same_flag false b = not b

abbrev pub same_batch : Batch → Batch → Bool
same_batch a b = (a.seq == b.seq) && (same_flag a.last b.last && same_rows a.rows b.rows)

-- whether the first batches are a beginning of the others
unfoldable pub begins : List Batch → List Batch → Bool
begins [] ys = true
begins (x ∷ xs) [] = false
begins (x ∷ xs) (y ∷ ys) = same_batch x y && begins xs ys

-- what a worker took of a sender are the first batches that the sender has made for it
abbrev pub is_first_of : Query → List Position → ℕ → ℕ → Bool
is_first_of query positions receiver sender = begins (taken_from (position_at positions receiver).taken sender) (batches_for query positions sender receiver)

unfoldable pub are_offered : Query → List Position → Bool
are_offered query positions =
    list_all (λ receiver. list_all (is_first_of query positions receiver) (role_in query receiver).senders) (numbers_below (crew_of query.flow))

-- ---- a leg

-- the batch that an entry takes is there
abbrev pub is_offered : (ℕ → List Batch) → Entry → Bool
is_offered offer (entry.Take from number) = is_some (batch_for offer (entry.Take from number))
is_offered offer (entry.Go rows outs) = true
is_offered offer (entry.Grant n) = true
is_offered offer (entry.Back n) = true
is_offered offer entry.Pause = true
is_offered offer entry.Resume = true
is_offered offer entry.Hold = true
is_offered offer entry.Finish = true

-- entries may follow one another from a position, where `offer` has the batches of each sender
unfoldable pub may_lead : (ℕ → List Batch) → Assignment → Position → List Entry → Bool
may_lead offer it p [] = true
may_lead offer it p (one ∷ more) = may_move it p one && (is_offered offer one && may_lead offer it (position_after it.orders (batch_for offer one) one p) more)

-- what a worker did may be what a leg's parts say
abbrev pub may_do : Query → State → List Part → ℕ → Bool
may_do query before parts worker =
    may_lead (λ sender. batches_for query (after_leg query before parts).positions sender worker) (assignment_in query before worker)
    (position_at before.positions worker) (entries_of parts worker)

unfoldable pub may_work : Query → State → List Part → Bool
may_work query before parts =
    list_all (λ part. nat_lt part.worker (crew_of query.flow)) parts
    && (list_all (may_do query before parts) (numbers_below (crew_of query.flow)) && are_offered query (after_leg query before parts).positions)

abbrev pub is_within : Query → State → ℕ → Option Counting → Bool
is_within query state op None = true
is_within query state op (Some counting) = nat_le (counted_at query.flow state op counting) counting.target

-- no hand holds a unit, and no count has counted more than it asks for
unfoldable pub is_settled : Query → State → Bool
is_settled query state =
    list_all (λ worker. (position_at state.positions worker).restraint.hand == 0) (numbers_below (crew_of query.flow))
    && list_all (λ op. is_within query state op (arms_at state op).count) (map suc (numbers_below (length state.arms)))

unfoldable pub may_close_run : Query → State → Close → Bool
may_close_run query state close.Cut = is_settled query state && (nat_le (steps_in state) query.most && not (is_empty (stops_in query state)))
may_close_run query state close.Long = is_settled query state && ((steps_in state == query.most) && is_empty (stops_in query state))

unfoldable pub may_close_end : Query → State → Close → Bool
may_close_end query state close.Cut = is_settled query state && (nat_le (steps_in state) query.most && have_finished state)
may_close_end query state close.Long = is_settled query state && ((steps_in state == query.most) && not (have_finished state))

-- ---- items

-- whether an item may follow in a state
unfoldable pub may_make : Query → State → Item → Bool
may_make query state (item.Do command) = fits_of query.flow command
may_make query state (item.Run leg) = may_work query (begin_leg state) leg.parts && may_close_run query (after_leg query (begin_leg state) leg.parts) leg.close
may_make query state (item.End leg) = may_work query (begin_last_leg state) leg.parts && may_close_end query (after_leg query (begin_last_leg state) leg.parts) leg.close

-- whether items may follow one another from a state
unfoldable pub may_reach : Query → State → List Item → Bool
may_reach query state [] = true
may_reach query state (one ∷ more) = may_make query state one && may_reach query (after_item query state one) more
