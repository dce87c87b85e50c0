-- Which stops are kept after the example's items.
use Rattle.std.proofs.Common.{◌≡◌, [], ◌∷◌, take, refl}
use Rattle.amber_meaning.specs.declared.view.Stop.TheVariants as stop
use Rattle.amber_meaning.proofs.ExampleCases.{counted_log, states_on_literals}
use Rattle.amber_lines.specs.KeptStops.{kept_stops, stops_along}
use Rattle.amber_lines.proofs.ExampleLog.{query}

none_before_the_first_leg : kept_stops query (take 1 counted_log) ≡ []
unfolding states_on_literals kept_stops stops_along
none_before_the_first_leg = refl

-- the cut took the count away
the_leg_keeps_its_count : kept_stops query (take 2 counted_log) ≡ stop.Count 2 3 ∷ []
unfolding states_on_literals kept_stops stops_along
the_leg_keeps_its_count = refl

a_command_keeps_it : kept_stops query (take 3 counted_log) ≡ stop.Count 2 3 ∷ []
unfolding states_on_literals kept_stops stops_along
a_command_keeps_it = refl

the_last_leg_has_its_own : kept_stops query counted_log ≡ stop.End ∷ []
unfolding states_on_literals kept_stops stops_along
the_last_leg_has_its_own = refl
