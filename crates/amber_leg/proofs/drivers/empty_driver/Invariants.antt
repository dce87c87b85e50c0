-- So many places are there, all empty.
use Rattle.std.proofs.Common.{◌≡◌, ◌≤◌, replicate, None, vec_capacity}
use Rattle.amber_leg.proofs.drivers.empty_driver.Given as goal

abbrev pub invariant-places : goal.invariant-places
invariant-places l = record {
  made : l.workers.items ≡ replicate l._place None;
  room : l.places ≤ vec_capacity l.workers;
}
