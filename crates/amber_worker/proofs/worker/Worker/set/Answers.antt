-- A filter with another constant.
use Rattle.amber_worker.proofs.Commands.{shows-set}
use Rattle.amber_worker.proofs.worker.Worker.set.Goals as goal

pub returns-clause-shows : goal.returns-clause-shows
returns-clause-shows c = rw (← c.self.view_is, c.set_value.ensures) (shows-set c.args.value _)
