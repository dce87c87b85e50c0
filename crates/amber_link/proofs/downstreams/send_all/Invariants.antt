-- Those so far were sent to, the others are as they were.
use Rattle.std.proofs.Common.{◌≡◌, ◌<◌, ◌≤◌, ℕ, get_or}
use Rattle.amber_link.specs.Sides.{CanSendNoMore, HasSentOn}
use Rattle.amber_link.specs.declared.downstreams.Downstream.{Downstream}
use Rattle.amber_link.proofs.downstreams.send_all.Given as goal

abbrev pub invariant-loop-one : goal.invariant-loop-one
invariant-loop-one l = record {
  forwards : (k : ℕ) (d : Downstream) → k < l.one-index → HasSentOn (get_or l.fn.outs k d) (get_or l.outs k d);
  sent : (k : ℕ) (d : Downstream) → k < l.one-index → CanSendNoMore (get_or l.outs k d);
  rest : (k : ℕ) (d : Downstream) → l.one-index ≤ k → get_or l.outs k d ≡ get_or l.fn.outs k d;
}
