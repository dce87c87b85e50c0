-- So many were made.
use Rattle.std.proofs.Common.{◌≡◌, [], replicate}
use Rattle.amber_dataflow.proofs.linking.no_ins.Given as goal

abbrev pub invariant-loop : goal.invariant-loop
invariant-loop l = l.ins.items ≡ replicate l.counter []
