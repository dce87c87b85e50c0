-- The rows of the first workers of the operator are counted.
use Rattle.std.proofs.Common.{◌≡◌, ◌+◌, ◌*◌, ◌^◌, ◌≤◌, map}
use Rattle.amber_rows.specs.Lists.{numbers_below}
use Rattle.amber_dataflow.specs.AtWork.{emitted_at}
use Rattle.amber_dataflow.proofs.counts.emitted_by.Given as goal

abbrev pub invariant-loop-place : goal.invariant-loop-place
invariant-loop-place l = record {
  rows : l.rows ≡ emitted_at l.crew (map (λ place. l.first + place) (numbers_below l.place));
  few : l.rows ≤ l.place * 2 ^ 40;
}
