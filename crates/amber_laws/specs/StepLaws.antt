-- How many steps a run makes does not depend on its schedule.
use Rattle.std.specs.Prelude.{◌≡◌, ◌≤◌, ◌↔◌, List, Bool, true}
use Rattle.amber_rows.specs.FlowRules.{IsFlow}
use Rattle.amber_log.specs.declared.leg.Part.{Part}
use Rattle.amber_log.specs.declared.log.Log.{Log}
use Rattle.amber_meaning.specs.Legal.{IsLegal, IsOpen, IsUnaltered, Query}
use Rattle.amber_meaning.specs.State.{State, have_finished, steps_in}
use Rattle.amber_meaning.specs.Total.{step_total}

-- the steps so far are at most the query's, and all of them exactly where all workers have finished
abbrev pub KeepsTotal : Query → State → Type 0
KeepsTotal query state = (steps_in state ≤ step_total query) × ((steps_in state ≡ step_total query) ↔ (have_finished state ≡ true))

-- whatever the order in which the workers of a workflow moved: a legal log that sets no constant and drops no row
abbrev pub SchedulesTakeOneTotal : Type 0
SchedulesTakeOneTotal = (query : Query) (log : Log) → IsFlow query.flow → IsUnaltered log.items → (legal : IsLegal query log) → KeepsTotal query legal.after

-- and within a leg that is still open after such a log
abbrev pub OpenLegsTakeOneTotal : Type 0
OpenLegsTakeOneTotal = (query : Query) (log : Log) (to_end : Bool) (parts : List Part)
    → IsFlow query.flow → IsUnaltered log.items → (leg : IsOpen query log to_end parts) → KeepsTotal query leg.now
