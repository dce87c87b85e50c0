-- None of the first workers is paused.
use Rattle.std.proofs.Common.{◌≡◌, ℕ, ◌<◌, false}
use Rattle.amber_dataflow.specs.Dataflow.{is_paused}
use Rattle.amber_home.proofs.stopping.any_paused.Given as goal

abbrev pub invariant-workers : goal.invariant-workers
invariant-workers l = (worker : ℕ) → worker < l.worker → is_paused l.dataflow worker ≡ false
