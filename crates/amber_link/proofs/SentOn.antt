-- What stays as it was where what waits for receivers is sent.
use Rattle.std.proofs.Common.{◌≡◌, ◌<◌, ◌≤◌, All, Bool, ℕ, List, map, refl, ap, ◌∙◌}
use Rattle.amber_link.specs.Outgoing.{Outgoing}
use Rattle.amber_link.specs.Sides.{AreSameReceivers, HasSentOn, HaveSentOn, IsSameReceiver, without_room}
use Rattle.amber_link.specs.declared.downstreams.Downstream.{Downstream}
use Rattle.amber_link.proofs.LinkEnds.{forwards-none, forwards-then}
use Rattle.amber_link.proofs.SameEnds.{pairwise-weaker}
use Rattle.amber_link.proofs.Sides.{pairwise-all, pairwise-map, pairwise-refl, pairwise-then}

-- ---- one receiver

on-same : (one : Downstream) → HasSentOn one one
on-same one = record { to = refl; link = forwards-none one.link }

on-then : (a b c : Downstream) → HasSentOn a b → HasSentOn b c → HasSentOn a c
on-then a b c one two = record { to = two.to ∙ one.to; link = forwards-then a.link b.link c.link one.link two.link }

on-erased : (a b : Downstream) → HasSentOn a b → HasSentOn (without_room a) (without_room b)
on-erased a b on = record {
  to = on.to;
  link = record { ring = on.link.ring; only = ap (λ (kept : Outgoing). record kept { room = 0 }) on.link.only; order = on.link.order };
}

-- all that is kept for a receiver but what waits
pub record KeepsAllElse (old new : Outgoing) : Type 0 where
  pub batch_size : new.batch_size ≡ old.batch_size
  pub made : new.made ≡ old.made
  pub ended : new.ended ≡ old.ended
  pub partial : new.partial ≡ old.partial
  pub room : new.room ≡ old.room

pub on-keeps : (a b : Downstream) → HasSentOn a b → KeepsAllElse a.link.kept b.link.kept
on-keeps a b on = record {
  batch_size = ap (λ (kept : Outgoing). kept.batch_size) on.link.only;
  made = ap (λ (kept : Outgoing). kept.made) on.link.only;
  ended = ap (λ (kept : Outgoing). kept.ended) on.link.only;
  partial = ap (λ (kept : Outgoing). kept.partial) on.link.only;
  room = ap (λ (kept : Outgoing). kept.room) on.link.only;
}

-- ---- all receivers

pub sent_on-same : (outs : List Downstream) → HaveSentOn outs outs
sent_on-same outs = pairwise-refl HasSentOn on-same outs

pub sent_on-then : (a b c : List Downstream) → HaveSentOn a b → HaveSentOn b c → HaveSentOn a c
sent_on-then a b c one two = pairwise-then HasSentOn on-then a b c one two

-- whatever room there is
pub sent_on-erased : (outs after : List Downstream) → HaveSentOn outs after → HaveSentOn (map without_room outs) (map without_room after)
sent_on-erased outs after on = pairwise-map HasSentOn HasSentOn without_room on-erased outs after on

pub sent_on-ends : (outs after : List Downstream) → HaveSentOn outs after → AreSameReceivers outs after
sent_on-ends outs after on = pairwise-weaker HasSentOn IsSameReceiver (λ a b one. record { to = one.to; link = one.link.ring }) outs after on

pub sent_on-made : (n : ℕ) (outs after : List Downstream) → HaveSentOn outs after → All (λ (one : Downstream). one.link.kept.made ≤ n) outs → All (λ (one : Downstream). one.link.kept.made ≤ n) after
sent_on-made n outs after on all =
    pairwise-all HasSentOn (λ (one : Downstream). one.link.kept.made ≤ n) (λ (one : Downstream). one.link.kept.made ≤ n) (λ a b one few. rw (on-keeps a b one).made few) outs after on all

pub sent_on-ended : (t : Bool) (outs after : List Downstream) → HaveSentOn outs after → All (λ (one : Downstream). one.link.kept.ended ≡ t) outs → All (λ (one : Downstream). one.link.kept.ended ≡ t) after
sent_on-ended t outs after on all =
    pairwise-all HasSentOn (λ (one : Downstream). one.link.kept.ended ≡ t) (λ (one : Downstream). one.link.kept.ended ≡ t) (λ a b one is. (on-keeps a b one).ended ∙ is) outs after on all

pub sent_on-room : (n : ℕ) (outs after : List Downstream) → HaveSentOn outs after → All (λ (one : Downstream). n < one.link.kept.room) outs → All (λ (one : Downstream). n < one.link.kept.room) after
sent_on-room n outs after on all =
    pairwise-all HasSentOn (λ (one : Downstream). n < one.link.kept.room) (λ (one : Downstream). n < one.link.kept.room) (λ a b one has. rw (on-keeps a b one).room has) outs after on all
