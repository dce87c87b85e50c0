-- A leg that a count stops, computed: its reply is the line of that count alone, which has counted all of its rows.
use Rattle.std.proofs.Common.{◌≡◌, List, [], ◌∷◌, codes, refl}
use Rattle.amber_rows.specs.declared.flow.Operator.{Operator}
use Rattle.amber_log.specs.declared.command.Command.TheVariants as command
use Rattle.amber_log.specs.declared.entry.Entry.TheVariants as entry
use Rattle.amber_log.specs.declared.leg.Close.TheVariants as close
use Rattle.amber_log.specs.declared.leg.Leg.{Leg}
use Rattle.amber_log.specs.declared.log.Item.{Item}
use Rattle.amber_log.specs.declared.log.Item.TheVariants as item
use Rattle.amber_meaning.specs.declared.view.Stop.TheVariants as stop
use Rattle.amber_meaning.specs.Legal.{Query, stops_in}
use Rattle.amber_meaning.specs.State.{State, emitted_by}
use Rattle.amber_meaning.specs.Texts.{stops_text}
use Rattle.amber_meaning.proofs.ExampleCases.{kept_from, lines, part, query_of, texts_on_literals}
use Rattle.amber_laws.specs.CountLaws.{run_state, stops_at_count}

-- five orders come through a filter that keeps all; its count asks for three of them, and another one for the scan's sixth
abbrev flow : List Operator
flow = kept_from 0

abbrev query : Query
query = query_of flow 400

abbrev done : List Item
done = item.Do (command.Count 2 3) ∷ item.Do (command.Count 1 6) ∷ []

abbrev leg : Leg
leg = record {
  parts = part 0 (entry.Grant 5 ∷ entry.Go 5 5 ∷ entry.Finish ∷ [])
      ∷ part 1 (entry.Take 0 0 ∷ entry.Grant 3 ∷ entry.Go 3 3 ∷ entry.Pause ∷ []) ∷ [];
  close = close.Cut;
}

abbrev reached : State
reached = run_state query done leg

reply : stops_text flow (stops_in query reached) ≡ lines (codes "stop count f 3" ∷ [])
unfolding texts_on_literals
reply = refl

filters_count : stops_at_count query reached 2 ≡ stop.Count 2 3 ∷ []
unfolding texts_on_literals
filters_count = refl

scans_count : stops_at_count query reached 1 ≡ []
unfolding texts_on_literals
scans_count = refl

emitted : emitted_by flow reached 1 ∷ emitted_by flow reached 2 ∷ [] ≡ 5 ∷ 3 ∷ []
unfolding texts_on_literals
emitted = refl
