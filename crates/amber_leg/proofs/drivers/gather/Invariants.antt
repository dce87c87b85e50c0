-- Those with the smallest numbers are back, and the others are where they were.
use Rattle.std.proofs.Common.{◌≡◌, ◌<◌, ◌≤◌, ℕ, Some, length, slice_index, slice_index_or, vec_capacity}
use Rattle.amber_dataflow.specs.AtWork.{worker_state_at}
use Rattle.amber_leg.specs.Driving.{worker_placed}
use Rattle.amber_leg.specs.declared.driver.Driver.{Driver}
use Rattle.amber_leg.proofs.drivers.gather.Given as goal

abbrev pub invariant-workers : goal.invariant-workers
invariant-workers l = record {
  long : length l.workers.items ≡ l.number;
  drivers : length l.drivers ≡ length l.initial.drivers;
  room : l.count ≤ vec_capacity l.workers;
  rest : (place : ℕ) (d : Driver) → l.number ≤ place → worker_placed (slice_index_or l.drivers (slice_index l.owners place) d) place
      ≡ worker_placed (slice_index_or l.initial.drivers (slice_index l.owners place) d) place;
  back : (place : ℕ) (d : Driver) → place < l.number → worker_placed (slice_index_or l.initial.drivers (slice_index l.owners place) d) place
      ≡ Some (worker_state_at l.workers.items place);
}
