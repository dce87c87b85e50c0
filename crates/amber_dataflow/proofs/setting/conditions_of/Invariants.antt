-- So many copies were made.
use Rattle.std.proofs.Common.{◌≡◌, replicate}
use Rattle.amber_dataflow.proofs.setting.conditions_of.Given as goal

abbrev pub invariant-copies : goal.invariant-copies
invariant-copies l = record { made : l.copies.items ≡ replicate l.counter l.cond }
