-- A worker that does what it is told makes no turn.
use Rattle.std.proofs.Common.{Some}
use Rattle.std.proofs.lemmas.Result.{on_ok_weaker}
use Rattle.amber_worker.proofs.Heeding.{makes-dealt, makes-paused}
use Rattle.amber_worker.proofs.worker.Worker.heed.Goals as goal

pub returns-in-Some-clause-makes : goal.returns-in-Some-clause-makes
returns-in-Some-clause-makes c = on_ok_weaker c.deal_with.result (makes-dealt (Some c.args.control) c.in-Some.how c.args.self.now c.deal_with.new.self c.in-Some.ensures.is c.in-Some.ensures.may) c.deal_with.ensures.ok

pub returns-in-None-clause-makes : goal.returns-in-None-clause-makes
returns-in-None-clause-makes c = on_ok_weaker c.stand_paused.result (makes-paused c.args.self.now c.stand_paused.new.self) c.stand_paused.ensures.ok
