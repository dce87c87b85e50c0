-- What a home keeps of a count, on literals: one worker, of whose rows some are gone.
use Rattle.std.proofs.Common.{◌≡◌, List, [], ◌∷◌, None, Some, Bool, true, false, refl, arith}
use Rattle.amber_log.specs.declared.effect.Change.TheVariants as change
use Rattle.amber_log.specs.Effect.{no_change}
use Rattle.amber_meaning.specs.Position.{Position, origin}
use Rattle.amber_meaning.specs.State.{Counting, counted_by}
use Rattle.amber_home.specs.Asked.{Asked, IsCountOf, IsTargetOf, asked_changed, asked_left, no_asked}
use Rattle.amber_boards.specs.declared.target.Target.{Target}

-- a worker of whose rows these were emitted or dropped
abbrev worker : List Bool → List Position
worker outcomes = record origin { outcomes = outcomes } ∷ []

-- a count of two rows that was armed when one row was gone, in the definitions and as a home keeps it
abbrev counting : Counting
counting = record { target = 2; base = 1 ∷ [] }

abbrev two_more : Target
two_more = record { target = 2; since = 1 }

-- ---- how it stands to the definitions

one_row_counted : IsTargetOf (worker (true ∷ true ∷ [])) two_more counting
unfolding counted_by
one_row_counted = record { target = refl; counted = refl; gone = (omega arith, tt) }

a_dropped_row_is_not_counted : IsTargetOf (worker (true ∷ false ∷ [])) two_more counting
unfolding counted_by
a_dropped_row_is_not_counted = record { target = refl; counted = refl; gone = (omega arith, tt) }

a_row_from_before_it_was_armed : IsTargetOf (worker (true ∷ true ∷ [])) (record two_more { since = 0 }) counting → ⊥
unfolding counted_by
a_row_from_before_it_was_armed is = let wrong = is.counted in absurd (omega arith)

another_target : IsTargetOf (worker (true ∷ true ∷ [])) (record two_more { target = 3 }) counting → ⊥
another_target is = let wrong = is.target in absurd (omega arith)

fewer_rows_than_were_gone : IsTargetOf (worker []) (record two_more { since = 0 }) counting → ⊥
fewer_rows_than_were_gone is = let wrong = is.gone.0 in absurd (omega arith)

a_count_that_nobody_armed : IsCountOf (worker []) (Some two_more) None → ⊥
a_count_that_nobody_armed is = is

-- ---- what changes it

abbrev asked : Asked
asked = record no_asked { pause = Some 9; count = Some two_more }

a_count_counts_from_now : asked_changed (record no_change { count = change.Put 5 }) 7 asked ≡ record asked { count = Some (record { target = 5; since = 7 }) }
a_count_counts_from_now = refl

not_yet : asked_left 2 asked ≡ asked
not_yet = refl

the_count_stands : asked_left 3 asked ≡ record asked { count = None }
the_count_stands = refl

the_pause_stands : asked_left 9 asked ≡ record asked { pause = None }
the_pause_stands = refl
