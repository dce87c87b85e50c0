-- The keys so far are refused.
use Rattle.std.proofs.Common.{◌≡◌, map}
use Rattle.amber_meaning.specs.declared.answer.Refusal.TheVariants as refusal
use Rattle.amber_plain.proofs.evaluator.refuse_groups.Given as goal

abbrev pub invariant-loop-key : goal.invariant-loop-key
invariant-loop-key l = l.refused.items ≡ map (refusal.Group l.op) l.yielded
