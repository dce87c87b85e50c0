-- One sender more is linked with its receivers.
use Rattle.std.proofs.Common.{◌≡◌, subst, rules}
use Rattle.amber_rows.specs.Topology.{crew_of, sends_to}
use Rattle.amber_worker.proofs.Bounds.{written-back}
use Rattle.amber_dataflow.specs.Start.{AreEnds, GivesEnds}
use Rattle.amber_dataflow.proofs.Webs.{ends-more, ends-none}
use Rattle.amber_dataflow.proofs.linking.link_crew.Goals as goal

pub senders-init : goal.senders-init
senders-init c = record {
  ends = rw (c.new-outs.ensures.items, c.in_ok-ins.ensures, c.workers-count.ensures) (ends-none (sends_to c.args.flow.now) c.args.batch_size (crew_of c.args.flow.now));
}

pub senders-preserved : goal.senders-preserved
senders-preserved c =
    let gives : GivesEnds (record { sends = sends_to c.args.flow.now c.senders.sender; batch_size = c.args.batch_size; count = crew_of c.args.flow.now; before = c.senders.ins.items })
    c.in_ok-link_sender.field-0 c.link_sender.new.ins = rw c.as_mut_slice.ensures.value at c.in_ok-link_sender.ensures.gives in
    record {
      ends = rw (c.in_ok-push.ensures.items, written-back c.senders.ins.len c.senders.ins.items c.link_sender.new.ins c.senders.ins.ok.0 gives.all)
          (ends-more _ c.senders.outs.items c.senders.ins.items c.senders.invariant.ends c.in_ok-link_sender.field-0 c.link_sender.new.ins gives);
    }

pub returns : goal.returns
returns c =
    let all : c.senders.sender ≡ crew_of c.args.flow.now = search rules in
    subst (λ n. AreEnds (record { sends = sends_to c.args.flow.now; batch_size = c.args.batch_size; senders = n; receivers = crew_of c.args.flow.now }) c.senders.outs.items c.senders.ins.items)
    all c.senders.invariant.ends
