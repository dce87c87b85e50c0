-- Those of the first operators are far.
use Rattle.std.proofs.Common.{ℕ, ◌<◌, ◌≤◌}
use Rattle.amber_leg.specs.Leg.{IsFarAt}
use Rattle.amber_leg.proofs.nearness.is_pause_near.Given as goal

abbrev pub invariant-operators : goal.invariant-operators
invariant-operators l = record {
  far : (op : ℕ) → 0 < op → op ≤ l.place → IsFarAt l.home op;
}
