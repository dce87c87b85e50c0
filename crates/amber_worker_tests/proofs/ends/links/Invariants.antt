-- Through the links so far nothing went.
use Rattle.std.specs.Prelude.{All}
use Rattle.amber_worker.specs.Made.{IsFreshIn, IsFreshOut}
use Rattle.amber_worker_tests.proofs.ends.links.Given as goal

abbrev pub invariant-links : goal.invariant-links
invariant-links l = record {
  outs : All (IsFreshOut l.batch) l.outs.items;
  ins : All IsFreshIn l.ins.items;
}
