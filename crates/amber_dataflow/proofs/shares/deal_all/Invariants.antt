-- The operators so far are dealt to, and the first wrong header is that of the operators which are left.
use Rattle.std.proofs.Common.{◌≡◌, ◌+◌, ◌<◌, ℕ, drop, take, length}
use Rattle.amber_rows.specs.Topology.{crew_of}
use Rattle.amber_meaning.specs.Plain.{records_of, wrong_header}
use Rattle.amber_meaning.specs.ScanFiles.{files_left}
use Rattle.amber_dataflow.specs.Start.{share_of_worker}
use Rattle.amber_dataflow.proofs.Dealing.{IsDealt}
use Rattle.amber_dataflow.proofs.shares.deal_all.Given as goal

abbrev pub invariant-operators : goal.invariant-operators
invariant-operators g l = record {
  header : wrong_header 1 l.files l.flow ≡ wrong_header (l.before + 1) (files_left l.files (take l.before l.flow)) (drop l.before l.flow);
  all : length l.shares.items ≡ crew_of (take l.before l.flow);
  dealt : (k : ℕ) → k < crew_of (take l.before l.flow) → IsDealt l.flow (records_of l.files l.flow) k (share_of_worker l.shares.items k);
}
