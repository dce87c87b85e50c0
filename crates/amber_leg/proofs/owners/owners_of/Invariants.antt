-- There is an owner for each worker, and a load for each driver.
use Rattle.std.proofs.Common.{◌≡◌, ◌<◌, All, length}
use Rattle.amber_leg.proofs.owners.owners_of.Given as goal

abbrev pub invariant-workers : goal.invariant-workers
invariant-workers l = record {
  all : length l.owners.items ≡ l.count;
  within : All (λ owner. owner < l.drivers) l.owners.items;
  loads : length l.loads.items ≡ l.drivers;
}
