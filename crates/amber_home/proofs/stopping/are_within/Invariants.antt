-- None of the first operators' counts has counted more than it asks for.
use Rattle.std.proofs.Common.{◌≡◌, ℕ, ◌<◌, ◌≤◌, false}
use Rattle.amber_dataflow.specs.Dataflow.{rows_emitted}
use Rattle.amber_home.specs.Leg.{count_at}
use Rattle.amber_home.specs.Redoing.{is_over}
use Rattle.amber_home.proofs.stopping.are_within.Given as goal

abbrev pub invariant-operators : goal.invariant-operators
invariant-operators l = (op : ℕ) → 0 < op → op ≤ l.before → is_over (count_at l.arms op) (rows_emitted l.dataflow op) ≡ false
