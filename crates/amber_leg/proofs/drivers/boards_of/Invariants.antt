-- So many boards were found.
use Rattle.std.proofs.Common.{◌≡◌, ◌<◌, ◌≤◌, ℕ, length, vec_capacity}
use Rattle.amber_dataflow.specs.AtWork.{worker_state_at}
use Rattle.amber_home.specs.Lent.{board_of}
use Rattle.amber_leg.specs.Driving.{board_for}
use Rattle.amber_leg.proofs.drivers.boards_of.Given as goal

abbrev pub invariant-workers : goal.invariant-workers
invariant-workers l = record {
  long : length l.found.items ≡ l.number;
  room : length l.workers ≤ vec_capacity l.found;
  each : (worker : ℕ) → worker < l.number → board_for l.found.items worker ≡ board_of l.boards (worker_state_at l.workers worker).op;
}
