-- What stands at the first operators was taken away; the others are as they were.
use Rattle.std.proofs.Common.{◌≡◌, ℕ, ◌<◌, ◌≤◌, length, Some}
use Rattle.amber_rows.specs.Lists.{nth}
use Rattle.amber_home.specs.Leg.{cut_at}
use Rattle.amber_home.proofs.stopping.end_stops.Given as goal

abbrev pub invariant-loop-before : goal.invariant-loop-before
invariant-loop-before l = record {
  long : length l.arms ≡ length l.initial.arms;
  done : (op : ℕ) → 0 < op → op ≤ l.before → nth l.arms op ≡ Some (cut_at l.initial.arms l.dataflow op);
  rest : (op : ℕ) → l.before < op → nth l.arms op ≡ nth l.initial.arms op;
}
