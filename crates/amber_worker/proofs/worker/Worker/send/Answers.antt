-- What waits is sent.
use Rattle.std.proofs.Common.{◌≡◌, length, refl, ap, arith}
use Rattle.amber_link.specs.Sides.{CanSendNoMore}
use Rattle.amber_link.proofs.SentOn.{sent_on-ended, sent_on-erased, sent_on-made}
use Rattle.amber_worker.proofs.Bounds.{few-sent, written-back}
use Rattle.amber_worker.proofs.Roomless.{all-roomless}
use Rattle.amber_worker.proofs.worker.Worker.send.Goals as goal

pub invariant_of-self : goal.invariant_of-self
invariant_of-self c =
    let lent = ap length c.as_mut_slice.ensures.value in
    let len : c.self.inside.outs.len ≡ length c.self.inside.outs.items = omega (arith, lent, c.as_mut_slice.ensures.len) in
    let stays : length c.send_all.new.outs ≡ length c.self.inside.outs.items = omega (arith, lent, c.send_all.auto.outs) in
    let sent = rw c.as_mut_slice.ensures.value at c.send_all.ensures.forwards in
    rw (written-back _ _ _ len stays)
    (few-sent _ _ c.self.invariant (λ e. sent_on-made _ _ _ sent (c.self.invariant.sent e)) (sent_on-ended _ _ _ sent c.self.invariant.over))

pub returns-clause-sends : goal.returns-clause-sends
returns-clause-sends c =
    let lent = ap length c.as_mut_slice.ensures.value in
    let len : c.self.inside.outs.len ≡ length c.self.inside.outs.items = omega (arith, lent, c.as_mut_slice.ensures.len) in
    let stays : length c.send_all.new.outs ≡ length c.self.inside.outs.items = omega (arith, lent, c.send_all.auto.outs) in
    let sent = rw c.as_mut_slice.ensures.value at c.send_all.ensures.forwards in
    rw (← c.self.view_is, written-back _ _ _ len stays) (record { sent = sent_on-erased _ _ sent; only = refl })

pub returns-clause-all : goal.returns-clause-all
returns-clause-all c =
    let lent = ap length c.as_mut_slice.ensures.value in
    let len : c.self.inside.outs.len ≡ length c.self.inside.outs.items = omega (arith, lent, c.as_mut_slice.ensures.len) in
    let stays : length c.send_all.new.outs ≡ length c.self.inside.outs.items = omega (arith, lent, c.send_all.auto.outs) in
    rw (written-back _ _ _ len stays) (all-roomless CanSendNoMore c.send_all.new.outs c.send_all.ensures.sent)
