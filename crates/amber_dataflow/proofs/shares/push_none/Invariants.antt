-- So many were appended to the others.
use Rattle.std.proofs.Common.{◌≡◌, ◌++◌, None, replicate}
use Rattle.amber_dataflow.proofs.shares.push_none.Given as goal

abbrev pub invariant-workers : goal.invariant-workers
invariant-workers l = record { more : l.shares.items ≡ l.initial.shares.items ++ replicate l.counter None }
