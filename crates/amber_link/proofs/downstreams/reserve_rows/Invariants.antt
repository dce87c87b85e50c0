-- Those so far have room.
use Rattle.std.proofs.Common.{◌≡◌, ◌<◌, All, ℕ, false, get_or, map}
use Rattle.amber_link.specs.Sides.{without_room}
use Rattle.amber_link.specs.declared.downstreams.Downstream.{Downstream}
use Rattle.amber_link.proofs.downstreams.reserve_rows.Given as goal

abbrev pub invariant-loop-one : goal.invariant-loop-one
invariant-loop-one l = record {
  same : map without_room l.outs ≡ map without_room l.fn.outs;
  roomy : (k : ℕ) (d : Downstream) → k < l.one-index → l.fn.rows < (get_or l.outs k d).link.kept.room;
  unended : All (λ (one : Downstream). one.link.kept.ended ≡ false) l.outs;
}
