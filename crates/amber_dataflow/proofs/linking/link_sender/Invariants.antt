-- The sender is linked with those of its receivers that have come up.
use Rattle.amber_rows.specs.Topology.{sends_to}
use Rattle.amber_dataflow.specs.Start.{GivesEnds}
use Rattle.amber_dataflow.proofs.linking.link_sender.Given as goal

abbrev pub invariant-receivers : goal.invariant-receivers
invariant-receivers l = record {
  gives : GivesEnds (record { sends = sends_to l.flow l.sender; batch_size = l.batch_size; count = l.receiver; before = l.initial.ins }) l.outs l.ins;
}
