-- The ends that one worker holds: of those that send to it, and of those to which it sends.
use Rattle.std.specs.Prelude.{◌≡◌, ℕ, ◌+◌, ◌<◌, ◌==◌, ◌&&◌, ◌||◌, ◌⊎◌, not, List, [], ◌∷◌, ◌++◌, length, slice_index_or, slice_set, Bool, true, false}
use Rattle.std.specs.List.{list_all}
use Rattle.rtrb.specs.Ring.{known_free}
use Rattle.amber_rows.specs.declared.value.Value.{Value}
use Rattle.amber_rows.specs.declared.batch.Batch.{Batch}
use Rattle.amber_link.specs.Links.{AreLinked, AreSettled, Forwards, GivesBatches, IsWhole, SameIn, SameOut, has_some, waiting}
use Rattle.amber_link.specs.Outgoing.{Adds, EndsStream}
use Rattle.amber_link.specs.declared.upstreams.Upstream.{Upstream}
use Rattle.amber_link.specs.declared.downstreams.Downstream.{Downstream}

-- two lists of elements that stand so to each other, one by one
unfoldable pub Pairwise : {A : Type 0} → (A → A → Type 0) → List A → List A → Type 0
Pairwise R [] [] = Unit {0}
Pairwise R [] (y ∷ ys) = ⊥
Pairwise R (x ∷ xs) [] = ⊥
Pairwise R (x ∷ xs) (y ∷ ys) = R x y × Pairwise R xs ys

-- ---- senders

-- a batch of this sender may be taken, where the build side has ended or not
abbrev pub may_come : Bool → Upstream → Bool
may_come built one = (not one.ended && (one.builds || built)) && has_some (waiting one.link)

-- the batch with this number of this sender comes next, and may be taken
abbrev pub comes_next : Bool → ℕ → ℕ → Upstream → Bool
comes_next built from number one = ((one.from == from) && (one.taken == number)) && may_come built one

-- the last batches of all senders of the build side were taken
abbrev pub have_builders_ended : List Upstream → Bool
have_builders_ended ins = list_all (λ one. not one.builds || one.ended) ins

-- the last batches of all senders were taken
abbrev pub have_all_ended : List Upstream → Bool
have_all_ended ins = list_all (λ one. one.ended) ins

-- nothing was taken of a sender, but perhaps more is known to have come
pub record IsLooked (old new : Upstream) : Type 0 where
  pub gives : GivesBatches old.link [] new.link
  pub only : new ≡ record old { link = new.link }

abbrev pub AreLooked : List Upstream → List Upstream → Type 0
AreLooked old new = Pairwise IsLooked old new

-- one of these senders gives this batch, the first that waits, and they are as these then
pub record IsTaken (ins : List Upstream) (one : Upstream) (batch : Batch) (after : List Upstream) : Type 0 where
  pub front : List Upstream
  pub back : List Upstream
  pub now : Upstream
  pub found : ins ≡ front ++ one ∷ back
  pub unended : one.ended ≡ false
  pub side : (one.builds || have_builders_ended ins) ≡ true
  pub gives : GivesBatches one.link (batch ∷ []) now.link
  pub is : now ≡ record one { taken = one.taken + 1; ended = batch.last; link = now.link }
  pub after_it : after ≡ front ++ now ∷ back

-- ---- receivers

-- a receiver, whatever room there is
abbrev pub without_room : Downstream → Downstream
without_room one = record one { link = record one.link { kept = record one.link.kept { room = 0 } } }

-- a row more was pushed for the receiver at this place
pub record HandsOn (place : ℕ) (row : List Value) (outs after : List Downstream) : Type 0 where
  pub within : place < length outs
  pub now : Downstream
  pub is : after ≡ slice_set outs place now
  pub to : now.to ≡ (slice_index_or outs place now).to
  pub ring : now.link.ring ≡ (slice_index_or outs place now).link.ring
  pub adds : Adds (slice_index_or outs place now).link.kept row now.link.kept

-- the stream for a receiver was ended
pub record IsEnded (old new : Downstream) : Type 0 where
  pub to : new.to ≡ old.to
  pub ring : new.link.ring ≡ old.link.ring
  pub closes : EndsStream old.link.kept new.link.kept

abbrev pub AreEnded : List Downstream → List Downstream → Type 0
AreEnded old new = Pairwise IsEnded old new

-- of the batches that wait for a receiver some were sent, in their order, and all else stays
pub record HasSentOn (old new : Downstream) : Type 0 where
  pub to : new.to ≡ old.to
  pub link : Forwards old.link new.link

abbrev pub HaveSentOn : List Downstream → List Downstream → Type 0
HaveSentOn old new = Pairwise HasSentOn old new

-- nothing waits for a receiver, or no free slot of its ring is known
abbrev pub CanSendNoMore : Downstream → Type 0
CanSendNoMore one = (one.link.kept.waiting ≡ []) ⊎ (known_free one.link.ring ≡ 0)

-- ---- both

-- the receivers of one worker and the senders of another
pub record LinkSides : Type 0 where
  pub outs : List Downstream
  pub ins : List Upstream

-- from one worker to another, or from a place among the receivers to one among the senders
pub record Way : Type 0 where
  pub from : ℕ
  pub to : ℕ

-- all that was made for the receiver at one place is, where the call answers Ok, in the inbox of the sender at the other place
pub record Settles (all : Bool) (places : Way) (old new : LinkSides) : Type 0 where
  pub out : Downstream
  pub into : Upstream
  pub outs_is : new.outs ≡ slice_set old.outs places.from (record (slice_index_or old.outs places.from out) { link = out.link })
  pub ins_is : new.ins ≡ slice_set old.ins places.to (record (slice_index_or old.ins places.to into) { link = into.link })
  pub linked : AreLinked out.link into.link
  pub forwards : Forwards (slice_index_or old.outs places.from out).link out.link
  pub gives : GivesBatches (slice_index_or old.ins places.to into).link [] into.link
  pub whole : IsWhole (slice_index_or old.outs places.from out).link (slice_index_or old.ins places.to into).link
  pub settled : all ≡ true → AreSettled out.link into.link

-- the same ends of the same links, one by one
pub record IsSameSender (old new : Upstream) : Type 0 where
  pub from : new.from ≡ old.from
  pub link : SameIn old.link new.link

pub record IsSameReceiver (old new : Downstream) : Type 0 where
  pub to : new.to ≡ old.to
  pub link : SameOut old.link new.link

abbrev pub AreSameSenders : List Upstream → List Upstream → Type 0
AreSameSenders old new = Pairwise IsSameSender old new

abbrev pub AreSameReceivers : List Downstream → List Downstream → Type 0
AreSameReceivers old new = Pairwise IsSameReceiver old new
