-- The stops of a state, and what a cut and a command remove.
use Rattle.std.proofs.Common.{◌≡◌, pos, List, [], ◌∷◌, replicate, codes, Some, true, refl}
use Rattle.amber_rows.specs.declared.value.Value.{Value}
use Rattle.amber_rows.specs.declared.value.Value.TheVariants as value
use Rattle.amber_log.specs.declared.command.Command.TheVariants as command
use Rattle.amber_meaning.specs.declared.view.Stop.TheVariants as stop
use Rattle.amber_meaning.specs.Plan.{role_of}
use Rattle.amber_meaning.specs.Position.{origin, no_restraint}
use Rattle.amber_meaning.specs.State.{Counting, State, after_command, no_arms}
use Rattle.amber_meaning.specs.Stops.{stops_of, without_stops}
use Rattle.amber_meaning.proofs.ExampleCases.{five, kept_from, order, states_on_literals, typed}

abbrev zero : List Value
zero = value.Int (pos 0) ∷ []

abbrev counting : Counting
counting = record { target = 3; base = 0 ∷ [] }

-- a pause stands at the scan and one does not at the filter, whose count stands; the filter's worker is held; all have finished
abbrev stopped : State
stopped = record {
  arms = record no_arms { pause = Some 2 } ∷ record no_arms { pause = Some 4; count = Some counting; constants = zero } ∷ no_arms ∷ [];
  positions = record origin { constants = replicate 5 []; outcomes = replicate 5 true; finished = true }
      ∷ record origin {
        taken = record { from = 0; batch = record { seq = 0; rows = five; last = true } } ∷ [];
        constants = replicate 4 zero;
        outcomes = replicate 3 true;
        restraint = record no_restraint { held = true };
        finished = true;
      }
      ∷ record origin { finished = true } ∷ [];
}

stops_in_order : stops_of (kept_from 0) (role_of (kept_from 0) (typed five ∷ [] ∷ [] ∷ [])) stopped
    ≡ stop.Held 2 0 (order 4 (codes "cog") 12) ∷ stop.Count 2 3 ∷ stop.Pause 1 2 5 ∷ stop.End ∷ []
unfolding states_on_literals
stops_in_order = refl

-- the pause at the filter stays
cut_removes : without_stops (kept_from 0) stopped
    ≡ record stopped { arms = no_arms ∷ record no_arms { pause = Some 4; constants = zero } ∷ no_arms ∷ [] }
unfolding states_on_literals
cut_removes = refl

-- what was asked to stop is taken back at the filter, whose constant stays
clear_takes_back : after_command (kept_from 0) (command.Clear 2) stopped
    ≡ record stopped { arms = record no_arms { pause = Some 2 } ∷ record no_arms { constants = zero } ∷ no_arms ∷ [] }
unfolding states_on_literals
clear_takes_back = refl
