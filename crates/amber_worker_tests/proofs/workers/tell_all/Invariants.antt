-- Through the links that are left nothing went.
use Rattle.std.specs.Prelude.{All}
use Rattle.amber_worker.specs.Made.{IsFreshOut}
use Rattle.amber_worker_tests.proofs.workers.tell_all.Given as goal

abbrev pub invariant-loop-number : goal.invariant-loop-number
invariant-loop-number l = record { senders : All (IsFreshOut 1) l.senders.items }
