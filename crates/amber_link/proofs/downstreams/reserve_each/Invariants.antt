-- Those so far have room.
use Rattle.std.proofs.Common.{◌≡◌, ◌<◌, All, ℕ, false, get_or, length, map}
use Rattle.amber_link.specs.Sides.{without_room}
use Rattle.amber_link.specs.declared.downstreams.Downstream.{Downstream}
use Rattle.amber_link.proofs.downstreams.reserve_each.Given as goal

abbrev pub invariant-loop-i : goal.invariant-loop-i
invariant-loop-i l = record {
  same : map without_room l.outs ≡ map without_room l.fn.outs;
  roomy : (k : ℕ) (d : Downstream) → k < l.i → get_or l.rows k 0 < (get_or l.outs k d).link.kept.room;
  unended : All (λ (one : Downstream). one.link.kept.ended ≡ false) l.outs;
  one_each : length l.rows ≡ length l.outs;
}
