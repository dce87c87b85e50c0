-- Room is no matter.
use Rattle.std.proofs.Common.{◌∙◌, eqb, ap}
use Rattle.std.specs.List.{list_any}
use Rattle.amber_link.specs.declared.downstreams.Downstream.{Downstream}
use Rattle.amber_worker.specs.WorkerState.{WorkerState}
use Rattle.amber_worker.proofs.Roomless.{same-receivers}
use Rattle.amber_worker.proofs.worker.Worker.sends_to.Goals as goal

pub returns : goal.returns
returns c =
    c.has_receiver.ensures ∙ ap (λ outs. list_any (λ (one : Downstream). eqb one.to c.args.worker) outs) c.as_slice.ensures.value
    ∙ same-receivers c.args.worker c.self.inside.outs.items
    ∙ ap (λ (w : WorkerState). list_any (λ (one : Downstream). eqb one.to c.args.worker) w.outs) c.self.view_is
