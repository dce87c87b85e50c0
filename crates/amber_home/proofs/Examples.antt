-- Homes on literals: a step of a home, and what a home keeps; each also with data that are wrong.
use Rattle.std.specs.Prelude.{⊤}
use Rattle.std.proofs.Common.{◌≡◌, ◌≢◌, ◌⊎◌, ℕ, zero, suc, ◌+◌, ◌^◌, pos, List, [], ◌∷◌, ◌++◌, codes, None, Some, unwrap_or, false, inl, inr, refl, sym, ap, subst, ◌∙◌, arith}
use Rattle.std.proofs.lemmas.Bool.{ne_eqb}
use Rattle.std.specs.Str.{chars, is_utf8}
use Rattle.amber_rows.specs.Number.{read_int_of}
use Rattle.amber_rows.specs.Record.{cells_of, file_records, has_header, row_of, typed_records}
use Rattle.amber_rows.specs.declared.value.Value.TheVariants as value
use Rattle.amber_rows.specs.declared.flow.Operator.{Operator}
use Rattle.amber_log.specs.Grammar.{AreItems}
use Rattle.amber_log.specs.declared.command.Command.TheVariants as command
use Rattle.amber_log.specs.declared.entry.Entry.{Entry}
use Rattle.amber_log.specs.declared.entry.Entry.TheVariants as entry
use Rattle.amber_log.specs.declared.leg.Part.{Part}
use Rattle.amber_log.specs.declared.log.Item.{Item}
use Rattle.amber_log.specs.declared.log.Item.TheVariants as item
use Rattle.amber_lines.specs.KeptStops.{kept_stops, stops_along}
use Rattle.amber_meaning.specs.declared.view.Stop.TheVariants as stop
use Rattle.amber_meaning.specs.Legal.{IsLegal, Reaches, entries_of}
use Rattle.amber_meaning.specs.Plain.{records_of, scan_count, wrong_header}
use Rattle.amber_meaning.specs.Position.{origin}
use Rattle.amber_meaning.specs.Replay.{after_items, state_after}
use Rattle.amber_meaning.specs.State.{start_of}
use Rattle.amber_meaning.proofs.ExampleCases.{texts_on_literals}
use Rattle.amber_meaning.proofs.Lists.{nth-next}
use Rattle.amber_worker.specs.Steps.{with_go}
use Rattle.amber_worker.specs.Turning.{WritesStep}
use Rattle.amber_worker.proofs.ExampleFlow.{from_two}
use Rattle.amber_home.specs.Asked.{Asked, no_asked}
use Rattle.amber_home.specs.HomeState.{HandsOut, HomeState, IsAsFar, IsHeldNext, IsLeftAlone, NextMakesStep, StepsOn, first_unfinished, next_worker, query_of, state_of}
use Rattle.amber_dataflow.specs.Dataflow.{DataflowState}
use Rattle.amber_dataflow.proofs.Standing.{stand-there}
use Rattle.amber_home.specs.Kept.{AreHeaded, IsHome, LiveState}
use Rattle.amber_home.specs.declared.phase.Counts.TheVariants.{Unarmed}
use Rattle.amber_home.specs.declared.phase.Phase.{Phase}
use Rattle.amber_home.specs.declared.phase.Phase.TheVariants as phase

homes_on_literals : ⊤
unfolding texts_on_literals records_of typed_records file_records row_of cells_of read_int_of is_utf8 chars lib.Utf8.encode state_of first_unfinished
homes_on_literals = tt

none_some : {A : Type 0} (x : A) → None ≡ Some x → ⊥
none_some x e = cc

-- ---- homes

-- the numbers 2, 1 and 3
abbrev file : List ℕ
file = codes "n" ++ 10 ∷ codes "2" ++ 10 ∷ codes "1" ++ 10 ∷ codes "3" ++ 10 ∷ []

-- a home of the workflow that keeps the numbers from 2 up
abbrev home : List Item → Phase → List Part → HomeState
home items now parts = record { flow = from_two; files = file ∷ []; most = 100; log = record { batch = 400; items = items }; phase = now; parts = parts; alone = 0; turned = [] }

abbrev part : ℕ → List Entry → Part
part worker entries = record { worker = worker; entries = entries }

-- ---- a step

-- within the first leg, of which this was done
abbrev within : List Part → HomeState
within parts = home [] (phase.Open false Unarmed) parts

-- the scan has taken a row, and emits it
abbrev before : HomeState
before = within (part 0 (entry.Go 1 0 ∷ []) ∷ [])

abbrev after : HomeState
after = record (within (part 0 (entry.Go 1 1 ∷ []) ∷ [])) { alone = 1 }

nothing_of_others : (worker : ℕ) (entries : List Entry) → entries_of (part 0 entries ∷ []) (suc worker) ≡ []
unfolding entries_of
nothing_of_others worker entries = rw (ne_eqb 0 (suc worker) (omega arith)) refl

nobody_else : (worker : ℕ) → worker ≢ 0 → IsLeftAlone before after worker
unfolding homes_on_literals
nobody_else zero apart = absurd (apart refl)
nobody_else (suc worker) apart = record {
  stands = ap (λ found. unwrap_or found origin) (nth-next (state_of after).positions (suc worker) ∙ sym (nth-next (state_of before).positions (suc worker)));
  writes = nothing_of_others worker (entry.Go 1 1 ∷ []) ∙ sym (nothing_of_others worker (entry.Go 1 0 ∷ []));
}

the_scan_emits_its_row : StepsOn before after
unfolding homes_on_literals with_go
the_scan_emits_its_row = record { only = refl; fed = before; feeds = inl refl; does = inl (record { one = refl; writes = inl refl }); others = nobody_else }

-- where no count is in force no units are handed out
none_handed : (fed : HomeState) → HandsOut before fed → ⊥
unfolding homes_on_literals
none_handed fed handed = let wrong = handed.counted in cc

-- so a step is one of the home as it was
one_alone : (new : HomeState) → StepsOn before new → (NextMakesStep before new ⊎ IsHeldNext before new) × ((worker : ℕ) → worker ≢ next_worker before → IsLeftAlone before new worker)
one_alone new steps = elim steps.feeds [
  | inl same ↦
      subst (λ (fed : HomeState). (NextMakesStep fed new ⊎ IsHeldNext fed new) × ((worker : ℕ) → worker ≢ next_worker fed → IsLeftAlone fed new worker)) same (steps.does, steps.others)
  | inr handed ↦ absurd (none_handed steps.fed handed)
]

two_steps_at_once : StepsOn before (within (part 0 (entry.Go 2 1 ∷ []) ∷ [])) → ⊥
unfolding homes_on_literals
two_steps_at_once steps = elim (one_alone _ steps).0 [
  | inl made ↦ let wrong = made.one in absurd (omega arith)
  | inr held ↦ let wrong = held.none in absurd (omega arith)
]

-- a step after a row that was taken writes one entry, or one more
no_more : (entries : List Entry) → WritesStep (entry.Go 1 0 ∷ []) (entry.Go 1 1 ∷ entry.Pause ∷ entry.Resume ∷ entries) → ⊥
unfolding with_go
no_more entries (inl emits) = cc
no_more entries (inr (inl takes)) = cc
no_more entries (inr (inr (inl takes))) = let wrong = takes.2 in cc
no_more entries (inr (inr (inr finishes))) = cc

a_pause_of_its_own : StepsOn before (within (part 0 (entry.Go 1 1 ∷ entry.Pause ∷ entry.Resume ∷ []) ∷ [])) → ⊥
unfolding homes_on_literals
a_pause_of_its_own steps = elim (one_alone _ steps).0 [
  | inl made ↦ no_more [] made.writes
  | inr held ↦ let wrong = held.none in absurd (omega arith)
]

a_pause_of_another : StepsOn before (within (part 0 (entry.Go 1 1 ∷ []) ∷ part 1 (entry.Pause ∷ entry.Resume ∷ []) ∷ [])) → ⊥
unfolding homes_on_literals
a_pause_of_another steps = let wrong = ((one_alone _ steps).1 1 (λ same. absurd (omega arith))).writes in cc

a_command_with_the_step : StepsOn before (record after { log = record { batch = 400; items = item.Do (command.Pause 2 1) ∷ [] } }) → ⊥
a_command_with_the_step steps = let wrong = ap (λ (h : HomeState). h.log.items) steps.only in cc

-- ---- as far as it was

a_step_goes_further : IsAsFar before after → ⊥
unfolding homes_on_literals
a_step_goes_further far = let wrong = far.steps in absurd (omega arith)

-- ---- what a home keeps

-- with no command yet the log is legal, and once memory ran out nothing is said of the workers
nothing_done_is_legal : IsLegal (query_of (home [] phase.Spent [])) (home [] phase.Spent []).log
unfolding AreItems Reaches
nothing_done_is_legal = record { text = record { batch = (omega arith, omega arith); items = tt }; batch = refl; after = start_of from_two; reached = refl }

-- with no workers, nothing in force and no stops
abbrev nobody : List Operator → LiveState
nobody flow = record { dataflow = record { flow = flow; workers = [] }; arms = []; boards = []; stops = []; back = [] }

-- the file begins with the name of the column
column_is_named : AreHeaded from_two (file ∷ [])
unfolding homes_on_literals wrong_header scan_count has_header
column_is_named = record { one_each = refl; headers = refl }

nothing_is_said_of_workers : IsHome (home [] phase.Spent []) (nobody [])
nothing_is_said_of_workers = record { few = omega arith; headed = column_is_named; legal = nothing_done_is_legal; stands = tt }

too_many_steps : IsHome (record (home [] phase.Spent []) { most = 2 ^ 40 + 1 }) (nobody []) → ⊥
too_many_steps keeps = let wrong = keeps.few in absurd (omega arith)

-- what a home keeps of a pause after one row
abbrev asked_once : List Asked
asked_once = no_asked ∷ record no_asked { pause = Some 1; constants = value.Int (pos 2) ∷ [] } ∷ no_asked ∷ []

nobody_is_there : IsHome (home [] phase.Resting []) (record (nobody from_two) { arms = asked_once }) → ⊥
unfolding homes_on_literals
nobody_is_there keeps = let wrong = stand-there _ _ _ _ keeps.stands.at in absurd (omega arith)

what_nobody_asked_for : (d : DataflowState) → IsHome (home [] phase.Resting []) (record { dataflow = d; arms = asked_once; boards = []; stops = []; back = [] }) → ⊥
unfolding state_after after_items start_of
what_nobody_asked_for d keeps = none_some 1 (sym (keeps.stands.in_force.each 2).pause)

a_stop_before_any_leg : (d : DataflowState) (arms : List Asked) → IsHome (home [] phase.Resting []) (record { dataflow = d; arms = arms; boards = []; stops = stop.End ∷ []; back = [] }) → ⊥
unfolding kept_stops stops_along
a_stop_before_any_leg d arms keeps = let wrong = keeps.stands.stops_are in cc
