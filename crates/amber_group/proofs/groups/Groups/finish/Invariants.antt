-- The groups so far.
use Rattle.std.proofs.Common.{◌≡◌, map}
use Rattle.std.specs.Map.Iter.{deref_pair}
use Rattle.amber_group.specs.Finished.{refused_of, finished_rows}
use Rattle.amber_group.proofs.groups.Groups.finish.Given as goal

abbrev pub invariant-loop-key : goal.invariant-loop-key
invariant-loop-key l = record {
  rows : l.rows.items ≡ finished_rows (map deref_pair l.yielded);
  refused : l.refused.items ≡ refused_of (map deref_pair l.yielded);
}
