-- The one that was found is a driver.
use Rattle.std.proofs.Common.{◌<◌, length}
use Rattle.amber_leg.proofs.owners.least_of.Given as goal

abbrev pub invariant-drivers : goal.invariant-drivers
invariant-drivers l = l.least < length l.loads
