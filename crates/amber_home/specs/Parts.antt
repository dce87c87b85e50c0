-- The parts of the leg that is open, and for how many turns its workers were driven.
use Rattle.std.specs.Prelude.{ℕ, List, []}
use Rattle.amber_dataflow.specs.AtWork.{turned_by}
use Rattle.amber_dataflow.specs.Dataflow.{leg_parts}
use Rattle.amber_dataflow.specs.Parts.{parts_from}
use Rattle.amber_log.specs.declared.leg.Part.{Part}
use Rattle.amber_home.specs.Kept.{LiveState}
use Rattle.amber_home.specs.declared.phase.Phase.{Phase}
use Rattle.amber_home.specs.declared.phase.Phase.TheVariants as phase

-- what the workers have done in it; none where none is open, and none while they are away
abbrev pub open_parts : Phase → LiveState → List Part
open_parts phase.Resting live = []
open_parts (phase.Open to_end counts) live = leg_parts live.dataflow
open_parts (phase.Lent to_end) live = []
open_parts (phase.Unsettled to_end) live = parts_from 0 live.back
open_parts (phase.Redoing to_end empty) live = parts_from 0 live.back
open_parts phase.Over live = []
open_parts phase.Spent live = []

-- for how many turns each of the workers was driven
abbrev pub open_turned : Phase → LiveState → List ℕ
open_turned phase.Resting live = turned_by live.dataflow.workers
open_turned (phase.Open to_end counts) live = turned_by live.dataflow.workers
open_turned (phase.Lent to_end) live = []
open_turned (phase.Unsettled to_end) live = turned_by live.back
open_turned (phase.Redoing to_end empty) live = turned_by live.back
open_turned phase.Over live = []
open_turned phase.Spent live = []
