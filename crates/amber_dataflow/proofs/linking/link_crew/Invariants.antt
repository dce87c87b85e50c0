-- The workers so far are linked with all of their receivers.
use Rattle.amber_rows.specs.Topology.{crew_of, sends_to}
use Rattle.amber_dataflow.specs.Start.{AreEnds}
use Rattle.amber_dataflow.proofs.linking.link_crew.Given as goal

abbrev pub invariant-senders : goal.invariant-senders
invariant-senders l = record {
  ends : AreEnds (record { sends = sends_to l.flow; batch_size = l.batch_size; senders = l.sender; receivers = crew_of l.flow }) l.outs.items l.ins.items;
}
