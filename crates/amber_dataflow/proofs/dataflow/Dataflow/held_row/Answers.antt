-- The worker is there, and is held before the row that it says.
use Rattle.std.proofs.Common.{ap, ◌∙◌, rules}
use Rattle.amber_worker.specs.Changes.{row_held}
use Rattle.amber_dataflow.specs.Dataflow.{DataflowState, row_held_at}
use Rattle.amber_dataflow.proofs.Split.{read-at}
use Rattle.amber_dataflow.proofs.dataflow.Dataflow.held_row.Goals as goal

pub returns : goal.returns
unfolding row_held_at
returns c =
    c.held_row.ensures ∙ ap row_held (c.index.ensures ∙ read-at c.self.inside.workers.items c.args.worker c.index.result.now (search rules))
    ∙ ap (λ (d : DataflowState). row_held_at d c.args.worker) c.self.view_is
