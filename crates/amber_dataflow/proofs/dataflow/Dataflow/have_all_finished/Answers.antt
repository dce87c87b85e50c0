-- All have finished where each has.
use Rattle.std.proofs.Common.{ap, ◌∙◌}
use Rattle.std.specs.List.{list_all}
use Rattle.amber_worker.specs.WorkerState.{WorkerState}
use Rattle.amber_dataflow.specs.Dataflow.{have_all_finished}
use Rattle.amber_dataflow.proofs.dataflow.Dataflow.have_all_finished.Goals as goal

pub returns : goal.returns
unfolding have_all_finished
returns c = c.have_finished.ensures ∙ ap (λ crew. list_all (λ (w : WorkerState). w.finished) crew) c.as_slice.ensures.value ∙ ap have_all_finished c.self.view_is
