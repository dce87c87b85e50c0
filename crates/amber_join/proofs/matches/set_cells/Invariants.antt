-- The cells so far are equal.
use Rattle.std.proofs.Common.{◌≡◌, ◌<◌, ℕ, get_or, length}
use Rattle.amber_rows.specs.declared.value.Value.{Value}
use Rattle.amber_join.proofs.matches.set_cells.Given as goal

abbrev pub invariant-loop-i : goal.invariant-loop-i
invariant-loop-i l = record {
  long : length l.places ≡ length l.cells;
  same : (k : ℕ) (d : Value) → k < l.i → get_or l.places k d ≡ get_or l.cells k d;
}
