-- So many drivers are there, with empty places.
use Rattle.std.proofs.Common.{◌≡◌, ◌≤◌, All, length, replicate, None, vec_capacity}
use Rattle.amber_leg.proofs.drivers.empty_drivers.Given as goal

abbrev pub invariant-drivers : goal.invariant-drivers
invariant-drivers l = record {
  long : length l.made.items ≡ l.driver;
  empty : All (λ one. one.workers.items ≡ replicate (length l.owners) None) l.made.items;
  room : l.drivers ≤ vec_capacity l.made;
}
