-- The refusals of the operators so far.
use Rattle.std.proofs.Common.{◌≡◌}
use Rattle.std.specs.List.{flat_map}
use Rattle.amber_plain.proofs.answering.all_refused.Given as goal

abbrev pub invariant-loop-refused : goal.invariant-loop-refused
invariant-loop-refused l = l.all.items ≡ flat_map (λ one. one) l.yielded
