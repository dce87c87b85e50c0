-- Both filters stand at the beginning.
use Rattle.std.proofs.Common.{None, List, ℕ, []}
use Rattle.amber_rows.specs.declared.flow.Operator.{Operator}
use Rattle.amber_meaning.specs.Position.{origin}
use Rattle.amber_worker.specs.AtPosition.{first_context, no_base}
use Rattle.amber_worker.specs.Changes.{StandsNew}
use Rattle.amber_worker.specs.Replacing.{StandAlike}
use Rattle.amber_worker.specs.WorkerState.{WorkerState}
use Rattle.amber_worker_tests.proofs.workers.waiting_replaced.Goals as goal

alike : (flow : List Operator) (number batch : ℕ) (old made : WorkerState) → StandsNew (record { flow = flow; number = number; batch_size = batch; share = None }) old
    → StandsNew (record { flow = flow; number = number; batch_size = batch; share = None }) made → StandAlike old made
unfolding StandsNew
alike flow number batch old made first second = (first_context flow [] batch number, no_base, origin, (first [] tt).shows, (second [] tt).shows)

pub replace_with-requires-clause-alike : goal.replace_with-requires-clause-alike
replace_with-requires-clause-alike c = alike c.in_ok-flow.flow 1 1 _ _ c.in_ok-filter.ensures.stands c.in_ok-made.ensures.stands
