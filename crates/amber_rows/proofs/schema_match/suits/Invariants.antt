-- The row fits where its cells from the next one on fit the columns from the next one on.
use Rattle.std.proofs.Common.{◌≡◌, drop}
use Rattle.amber_rows.specs.Suits.{suits_of}
use Rattle.amber_rows.proofs.schema_match.suits.Given as goal

abbrev pub invariant-loop-i : goal.invariant-loop-i
invariant-loop-i l = suits_of l.columns l.cells ≡ suits_of (drop l.i l.columns) (drop l.i l.cells)
