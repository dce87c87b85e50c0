-- The shares so far were appended.
use Rattle.std.proofs.Common.{◌≡◌, ◌++◌, Some, map}
use Rattle.amber_dataflow.proofs.shares.push_shares.Given as goal

abbrev pub invariant-loop-share : goal.invariant-loop-share
invariant-loop-share l = l.shares.items ≡ l.initial.shares.items ++ map Some l.yielded
