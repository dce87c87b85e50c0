-- Nothing is sent yet.
use Rattle.amber_worker.proofs.Drives.{sent-same}
use Rattle.amber_worker.proofs.worker.Worker.send_after.Goals as goal

pub returns-then-turns-gt1-clause-sends : goal.returns-then-turns-gt1-clause-sends
returns-then-turns-gt1-clause-sends c = sent-same c.args.self.now
