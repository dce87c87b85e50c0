-- Another condition.
use Rattle.amber_worker.proofs.Commands.{shows-watching}
use Rattle.amber_worker.proofs.worker.Worker.watch_for.Goals as goal

pub returns-clause-shows : goal.returns-clause-shows
returns-clause-shows c = rw (← c.self.view_is) (shows-watching c.args.when _)
