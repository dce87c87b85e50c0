-- The part as far as this place was done.
use Rattle.std.proofs.Common.{◌≡◌, ◌≤◌}
use Rattle.amber_dataflow.specs.AtWork.{steps_by}
use Rattle.amber_dataflow.proofs.RedoneParts.{IsFront}
use Rattle.amber_dataflow.proofs.redoing.redo_entries.Given as goal

abbrev pub invariant-entries : goal.invariant-entries
invariant-entries l = record {
  front : IsFront (record { worker = l.number; entries = l.entries; counted = l.counted; most = l.most }) l.initial.crew l.crew l.place l.hand;
  steps : l.steps ≡ steps_by l.crew;
  within : steps_by l.crew ≤ l.most;
}
