-- A turn of a worker that stands still.
use Rattle.amber_worker.proofs.Dealings.{stands-dealing}
use Rattle.amber_worker.proofs.worker.Worker.stand.Goals as goal

pub returns-clause-ok : goal.returns-clause-ok
returns-clause-ok c = stands-dealing c.args.how c.args.self.now c.deal_with.new.self c.standing-turn.result c.standing-turn.ensures c.in_ok-deal_with.ensures.ok
