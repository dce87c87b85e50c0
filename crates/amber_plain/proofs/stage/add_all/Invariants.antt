-- The build rows so far are kept.
use Rattle.std.proofs.Common.{◌≡◌}
use Rattle.amber_join.specs.Join.{Join}
use Rattle.amber_plain.proofs.stage.add_all.Given as goal

abbrev pub invariant-loop-row : goal.invariant-loop-row
invariant-loop-row l = ◌≡◌ {A = Join} l.state (record l.initial.state { rows = l.yielded })
