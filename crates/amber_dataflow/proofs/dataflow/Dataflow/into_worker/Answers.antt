-- The worker is there.
use Rattle.std.proofs.Common.{ap, ◌∙◌, rules}
use Rattle.amber_dataflow.specs.AtWork.{worker_state_at}
use Rattle.amber_dataflow.specs.Dataflow.{DataflowState}
use Rattle.amber_dataflow.proofs.Split.{read-at}
use Rattle.amber_dataflow.proofs.dataflow.Dataflow.into_worker.Goals as goal

pub returns : goal.returns
returns c =
    c.swap_remove.ensures.value ∙ read-at c.self.inside.workers.items c.args.worker c.swap_remove.result (search rules)
    ∙ ap (λ (d : DataflowState). worker_state_at d.workers c.args.worker) c.self.view_is
