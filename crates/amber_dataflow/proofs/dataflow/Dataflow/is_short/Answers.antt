-- The worker is there, and needs a unit as it says.
use Rattle.std.proofs.Common.{ap, ◌∙◌, rules}
use Rattle.amber_worker.specs.WorkerState.{needs_unit}
use Rattle.amber_dataflow.specs.Dataflow.{DataflowState, is_short}
use Rattle.amber_dataflow.proofs.Split.{read-at}
use Rattle.amber_dataflow.proofs.dataflow.Dataflow.is_short.Goals as goal

pub returns : goal.returns
unfolding is_short
returns c =
    c.needs_unit.ensures ∙ ap needs_unit (c.index.ensures ∙ read-at c.self.inside.workers.items c.args.worker c.index.result.now (search rules))
    ∙ ap (λ (d : DataflowState). is_short d c.args.worker) c.self.view_is
