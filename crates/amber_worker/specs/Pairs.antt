-- Two workers and the link from the one to the other.
use Rattle.std.specs.Prelude.{◌≡◌, ℕ, ◌<◌, List, [], ◌++◌, length, slice_index_or, slice_set}
use Rattle.amber_rows.specs.Chunks.{chunks_of}
use Rattle.amber_rows.specs.Lists.{IsPrefix}
use Rattle.amber_rows.specs.declared.batch.Batch.{Batch}
use Rattle.amber_meaning.specs.Position.{Position, emitted_rows, taken_from}
use Rattle.amber_link.specs.Links.{AreLinked, AreSettled, Forwards, GivesBatches, waiting}
use Rattle.amber_link.specs.declared.upstreams.Upstream.{Upstream}
use Rattle.amber_link.specs.declared.downstreams.Downstream.{Downstream}
use Rattle.amber_worker.specs.AtPosition.{Context, IsAtPosition, Placement, Shows, stream_to}
use Rattle.amber_worker.specs.WorkerState.{WorkerState}

-- the places of the link from one worker to another: at which the one keeps the other as a receiver, and the other the one as a
-- sender
pub record IsLinkAt (from to : WorkerState) (j k : ℕ) : Type 0 where
  pub j_within : j < length from.outs
  pub k_within : k < length to.ins
  pub to_is : (one : Downstream) → (slice_index_or from.outs j one).to ≡ to.number
  pub from_is : (one : Upstream) → (slice_index_or to.ins k one).from ≡ from.number

-- what the one keeps of the other as a receiver, and the other of the one as a sender, are the two ends of a link
unfoldable pub AreJoined : WorkerState → WorkerState → Type 0
AreJoined from to = (j k : ℕ) → IsLinkAt from to j k → (one : Downstream) (other : Upstream)
    → AreLinked (slice_index_or from.outs j one).link (slice_index_or to.ins k other).link

-- what the one has made for the other went on to it, or a part of that; nothing was taken, and nothing else has changed
pub record PassesOn (from to from_now to_now : WorkerState) : Type 0 where
  pub j : ℕ
  pub k : ℕ
  pub places : IsLinkAt from to j k
  pub out : Downstream
  pub into : Upstream
  pub from_only : from_now ≡ record from { outs = slice_set from.outs j (record (slice_index_or from.outs j out) { link = out.link }) }
  pub to_only : to_now ≡ record to { ins = slice_set to.ins k (record (slice_index_or to.ins k into) { link = into.link }) }
  pub linked : AreLinked out.link into.link
  pub forwards : Forwards (slice_index_or from.outs j out).link out.link
  pub gives : GivesBatches (slice_index_or to.ins k into).link [] into.link

-- all that the one has made for the other was taken or is in the other's inbox
pub record AreSettledAt (from to : WorkerState) : Type 0 where
  pub j : ℕ
  pub k : ℕ
  pub places : IsLinkAt from to j k
  pub out : Downstream
  pub into : Upstream
  pub out_is : (one : Downstream) → slice_index_or from.outs j one ≡ out
  pub into_is : (one : Upstream) → slice_index_or to.ins k one ≡ into
  pub settled : AreSettled out.link into.link

-- a worker stands wherever it stood
unfoldable pub StaysAt : WorkerState → WorkerState → Type 0
StaysAt old new = (context : Context) (start p : Position)
    → IsAtPosition context old start p → IsAtPosition context new start p

-- the batches that a worker makes in a position for another
abbrev pub made_for : Placement → Position → ℕ → List Batch
made_for placement p receiver = chunks_of placement.batch_size (stream_to placement receiver (emitted_rows placement.role p)) p.finished

-- where a worker stands: at which position, and in what context
pub record Standing : Type 0 where
  pub context : Context
  pub position : Position

-- the two stand there, over the same earlier batches of their link
pub record AreBeside (from to : WorkerState) (one other : Standing) : Type 0 where
  pub shows : Shows one.context from one.position
  pub other_shows : Shows other.context to other.position
  pub earlier : one.context.base.gave other.context.placement.number ≡ other.context.base.had one.context.placement.number

-- wherever they do, what the other has taken of the one are the first of the batches that the one has made for it
unfoldable pub Offers : WorkerState → WorkerState → Type 0
Offers from to = (one other : Standing) → AreBeside from to one other
    → IsPrefix (taken_from other.position.taken one.context.placement.number) (made_for one.context.placement one.position other.context.placement.number)

-- what the other has taken of the one, and what waits in its inbox, are all of them
unfoldable pub OffersAll : WorkerState → WorkerState → Type 0
OffersAll from to = (one other : Standing) → AreBeside from to one other
    → (k : ℕ) (d : Upstream) → k < length to.ins → (slice_index_or to.ins k d).from ≡ one.context.placement.number
    → taken_from other.position.taken one.context.placement.number ++ waiting (slice_index_or to.ins k d).link
    ≡ made_for one.context.placement one.position other.context.placement.number
