-- What the worker keeps is shown.
use Rattle.std.proofs.Common.{rules}
use Rattle.amber_worker.proofs.Seen.{view-is}
use Rattle.amber_worker.proofs.worker.Worker.view.Goals as goal

pub returns : goal.returns
returns c = view-is c.args.self.now _ (search rules)
