-- None is the one.
use Rattle.std.proofs.Common.{◌==◌, arith}
use Rattle.amber_link.specs.declared.downstreams.Downstream.{Downstream}
use Rattle.amber_link.proofs.Sides.{none-any}
use Rattle.amber_link.proofs.downstreams.place_to.Goals as goal

pub returns-clause-none : goal.returns-clause-none
returns-clause-none c = none-any (λ (one : Downstream). one.to == c.args.to) c.args.outs.now (λ k d less. c.loop-i.invariant k d (omega (arith, c.loop-i-test.false)))
