-- The ends before the last one stay as they were.
use Rattle.std.proofs.lemmas.List.Elements.{All-pop}
use Rattle.amber_worker.specs.Made.{IsFreshOut}
use Rattle.amber_worker_tests.proofs.ends.last_end.Goals as goal

pub returns-in-Some-clause-left : goal.returns-in-Some-clause-left
returns-in-Some-clause-left c = (All-pop (IsFreshOut c.args.batch) _ _ _ c.pop.ensures.items c.requires).0

pub returns-in-None-clause-left : goal.returns-in-None-clause-left
returns-in-None-clause-left c = (All-pop (IsFreshOut c.args.batch) _ _ _ c.pop.ensures.items c.requires).0
