-- Those so far are ended, the others are as they were.
use Rattle.std.proofs.Common.{◌≡◌, ◌<◌, ◌≤◌, ℕ, get_or}
use Rattle.amber_link.specs.Sides.{IsEnded}
use Rattle.amber_link.specs.declared.downstreams.Downstream.{Downstream}
use Rattle.amber_link.proofs.downstreams.end_all.Given as goal

abbrev pub invariant-loop-one : goal.invariant-loop-one
invariant-loop-one l = record {
  ended : (k : ℕ) (d : Downstream) → k < l.one-index → IsEnded (get_or l.fn.outs k d) (get_or l.outs k d);
  rest : (k : ℕ) (d : Downstream) → l.one-index ≤ k → get_or l.outs k d ≡ get_or l.fn.outs k d;
}
