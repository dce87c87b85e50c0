-- The worker is there, and is paused as it says.
use Rattle.std.proofs.Common.{ap, ◌∙◌, rules}
use Rattle.amber_worker.specs.WorkerState.{WorkerState}
use Rattle.amber_dataflow.specs.Dataflow.{DataflowState, is_paused}
use Rattle.amber_dataflow.proofs.Split.{read-at}
use Rattle.amber_dataflow.proofs.dataflow.Dataflow.is_paused.Goals as goal

pub returns : goal.returns
unfolding is_paused
returns c =
    c.is_paused.ensures ∙ ap (λ (w : WorkerState). w.restraint.paused) (c.index.ensures ∙ read-at c.self.inside.workers.items c.args.worker c.index.result.now (search rules))
    ∙ ap (λ (d : DataflowState). is_paused d c.args.worker) c.self.view_is
