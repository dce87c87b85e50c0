-- What was made for the receivers so far has gone on.
use Rattle.std.proofs.Common.{◌≡◌, ℕ, ◌<◌, ◌==◌, get_or, true}
use Rattle.std.specs.List.{list_any}
use Rattle.amber_link.specs.declared.downstreams.Downstream.{Downstream}
use Rattle.amber_dataflow.specs.AtWork.{StayPut, worker_state_at}
use Rattle.amber_dataflow.specs.Passing.{AreSameBesides, Come, Settled, SettledStay}
use Rattle.amber_dataflow.proofs.settling.settle_outputs.Given as goal

abbrev pub invariant-receivers : goal.invariant-receivers
invariant-receivers l = record {
  put : StayPut l.initial.crew l.crew;
  done : (place to : ℕ) → place < l.place → ((d : Downstream) → (get_or (worker_state_at l.initial.crew l.number).outs place d).to ≡ to) → Settled l.crew l.number to;
  come : (to : ℕ) → list_any (λ (one : Downstream). one.to == to) (worker_state_at l.initial.crew l.number).outs ≡ true → Come l.crew l.number to;
  others : SettledStay l.initial.crew l.crew;
  aside : AreSameBesides l.initial.crew l.crew;
}
