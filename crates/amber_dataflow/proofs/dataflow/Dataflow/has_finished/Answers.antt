-- The worker is there, and has finished as it says.
use Rattle.std.proofs.Common.{ap, ◌∙◌, rules}
use Rattle.amber_worker.specs.WorkerState.{WorkerState}
use Rattle.amber_dataflow.specs.Dataflow.{DataflowState, has_finished}
use Rattle.amber_dataflow.proofs.Split.{read-at}
use Rattle.amber_dataflow.proofs.dataflow.Dataflow.has_finished.Goals as goal

pub returns : goal.returns
unfolding has_finished
returns c =
    c.is_finished.ensures ∙ ap (λ (w : WorkerState). w.finished) (c.index.ensures ∙ read-at c.self.inside.workers.items c.args.worker c.index.result.now (search rules))
    ∙ ap (λ (d : DataflowState). has_finished d c.args.worker) c.self.view_is
