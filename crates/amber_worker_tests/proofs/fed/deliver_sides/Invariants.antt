-- Through the links that are left nothing went.
use Rattle.std.specs.Prelude.{All}
use Rattle.amber_worker.specs.Made.{IsFreshOut}
use Rattle.amber_worker_tests.proofs.fed.deliver_sides.Given as goal

abbrev pub invariant-loop-rows : goal.invariant-loop-rows
invariant-loop-rows l = record { senders : All (IsFreshOut 65536) l.senders.items }
