-- What the senders so far have made has come.
use Rattle.std.proofs.Common.{◌≡◌, ℕ, ◌<◌, get_or}
use Rattle.amber_link.specs.declared.upstreams.Upstream.{Upstream}
use Rattle.amber_dataflow.specs.AtWork.{StayPut, worker_state_at}
use Rattle.amber_dataflow.specs.Passing.{AreSameBesides, Settled, SettledStay}
use Rattle.amber_dataflow.proofs.settling.settle_inputs.Given as goal

abbrev pub invariant-senders : goal.invariant-senders
invariant-senders l = record {
  put : StayPut l.initial.crew l.crew;
  done : (place from : ℕ) → place < l.place → ((d : Upstream) → (get_or (worker_state_at l.initial.crew l.number).ins place d).from ≡ from) → Settled l.crew from l.number;
  others : SettledStay l.initial.crew l.crew;
  aside : AreSameBesides l.initial.crew l.crew;
}
