-- The new best cells so far.
use Rattle.std.proofs.Common.{◌≡◌, map, take}
use Rattle.amber_group.specs.Steps.{change_of}
use Rattle.amber_group.proofs.totals.find_changes.Given as goal

abbrev pub invariant-loop-running : goal.invariant-loop-running
invariant-loop-running l = l.changes.items ≡ map (change_of l.row) (take l.running-index l.runnings)
