-- A batch may be taken of the sender at the place.
use Rattle.std.proofs.Common.{◌≡◌, true, sym, ◌∙◌, subst}
use Rattle.amber_link.proofs.Sides.{some-any}
use Rattle.amber_link.specs.Sides.{have_builders_ended, may_come}
use Rattle.amber_worker.specs.WorkerState.{WorkerState, has_ready}
use Rattle.amber_worker.proofs.worker.Worker.take_next_of.Goals as goal

pub take_from-requires-clause-ready : goal.take_from-requires-clause-ready
take_from-requires-clause-ready c =
    subst (λ (w : WorkerState). has_ready w.ins ≡ true) (sym (c.pass_used.ensures ∙ c.return_used.ensures))
    (some-any (may_come (have_builders_ended c.args.self.now.ins)) c.args.self.now.ins c.args.place c.requires.there c.requires.next)
