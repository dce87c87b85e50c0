-- One receiver more is linked, or is none.
use Rattle.std.proofs.Common.{◌≡◌, ◌++◌, ◌∷◌, [], true, false, length, rules, ap, ◌∙◌, ◌<◌, set}
use Rattle.std.proofs.lemmas.List.{get_or_default}
use Rattle.amber_rows.specs.Topology.{sends_to}
use Rattle.amber_dataflow.specs.Start.{ends_at}
use Rattle.amber_dataflow.proofs.Webs.{fresh-out, gives-more, gives-none, gives-not}
use Rattle.amber_dataflow.proofs.linking.link_sender.Goals as goal
use Rattle.amber_dataflow.proofs.linking.link_sender.Goals.{then-sends_to+in_ok-out+in_ok-push+in_ok-push-2, else-sends_to}

pub receivers-init : goal.receivers-init
receivers-init c = record { gives = rw c.new-outs.ensures (gives-none (sends_to c.args.flow.now c.args.sender) c.args.batch_size c.args.ins.now) }

pub receivers-preserved : goal.receivers-preserved
receivers-preserved c = elim c.if-sends_to.branch [
  | then-sends_to+in_ok-out+in_ok-push+in_ok-push-2 w ↦ (
      let gives = c.receivers.invariant.gives in
      let sends : sends_to c.args.flow.now c.args.sender c.receivers.receiver ≡ true = search rules in
      let there : c.receivers.receiver < length c.receivers.ins = search rules in
      let longer : c.if-sends_to.outs ≡ c.receivers.outs ++ w.in_ok-out.out ∷ [] = search rules in
      let is : w.push-then-sends_to.new.self ≡ ends_at c.receivers.ins c.receivers.receiver ++ w.in_ok-out.into ∷ [] =
      w.in_ok-push-2.ensures ∙ ap (λ l. l ++ w.in_ok-out.into ∷ []) (get_or_default c.receivers.ins c.receivers.receiver w.index-ins-receiver.result [] there) in
      let later : c.if-sends_to.ins ≡ set c.receivers.ins c.receivers.receiver (ends_at c.receivers.ins c.receivers.receiver ++ w.in_ok-out.into ∷ []) =
      w.ins-is ∙ ap (set c.receivers.ins c.receivers.receiver) is in
      record {
        gives = rw (longer, later)
            (gives-more _ c.receivers.outs c.receivers.ins gives w.in_ok-out.out w.in_ok-out.into sends there w.in_ok-out.ensures.linked
            (fresh-out w.in_ok-out.out c.args.batch_size w.in_ok-out.ensures.none_sent w.in_ok-out.ensures.out) (w.in_ok-out.ensures.none_came, w.in_ok-out.ensures.none_known));
      })
  | else-sends_to w ↦ (
      let sends : sends_to c.args.flow.now c.args.sender c.receivers.receiver ≡ false = search rules in
      record { gives = rw (w.outs-is, w.ins-is) (gives-not _ c.receivers.outs c.receivers.ins c.receivers.invariant.gives sends) })
]
