-- So many rows so far were handed on.
use Rattle.std.proofs.Common.{◌≡◌, ℕ, ◌+◌, ◌<◌, ◌≤◌, All, false, length}
use Rattle.amber_worker.specs.Emitting.{EmitsMany, side_of}
use Rattle.amber_worker.proofs.emitting.emit_many.Given as goal

abbrev pub invariant-loop : goal.invariant-loop
invariant-loop l = record {
  emits : EmitsMany l.route l.counter (side_of l.fn.pending l.fn.outs) (side_of l.pending l.outs);
  left : l.counter + length l.pending ≡ length l.fn.pending;
  room : (n : ℕ) → All (λ one. n + l.counter < one.link.kept.room) l.fn.outs → All (λ one. n < one.link.kept.room) l.outs;
  few : (n : ℕ) → All (λ one. one.link.kept.made ≤ n) l.fn.outs → All (λ one. one.link.kept.made ≤ n + l.counter) l.outs;
  still_open : All (λ one. one.link.kept.ended ≡ false) l.outs;
}
