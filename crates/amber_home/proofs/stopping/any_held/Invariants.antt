-- None of the first workers is held.
use Rattle.std.proofs.Common.{◌≡◌, ℕ, ◌<◌, false}
use Rattle.amber_dataflow.specs.Dataflow.{is_held}
use Rattle.amber_home.proofs.stopping.any_held.Given as goal

abbrev pub invariant-workers : goal.invariant-workers
invariant-workers l = (worker : ℕ) → worker < l.worker → is_held l.dataflow worker ≡ false
