-- The two ends of a link: what is known of the batches that go through it.
use Rattle.std.specs.Prelude.{◌≡◌, ◌==◌, length, ◌<◌, List, [], ◌∷◌, ◌++◌, Bool, true, false}
use Rattle.rtrb.specs.Ring.{IsPair, SameConsumer, SameProducer, known_free, known_items, producer_capacity, received, sent}
use Rattle.amber_rows.specs.Chunks.{chunks_of}
use Rattle.amber_rows.specs.declared.value.Value.{Value}
use Rattle.amber_rows.specs.declared.batch.Batch.{Batch}
use Rattle.amber_link.specs.Outgoing.{Carries}
use Rattle.amber_link.specs.declared.ends.Out.{Out}
use Rattle.amber_link.specs.declared.ends.In.{In}
use Rattle.amber_link.specs.declared.ends.Sent.{Sent}

-- a list has a first element
abbrev pub has_some : {A : Type 0} → List A → Bool
has_some [] = false
has_some (x ∷ xs) = true

-- the two ends of one link
abbrev pub AreLinked : Out → In → Type 0
AreLinked out into = IsPair out.ring into.ring × (0 < producer_capacity out.ring)

-- the same end
abbrev pub SameOut : Out → Out → Type 0
SameOut old new = SameProducer old.ring new.ring

abbrev pub SameIn : In → In → Type 0
SameIn old new = SameConsumer old.ring new.ring

-- the batches that went in at the one end, after those that it was said to have given before, and those that wait are those of the
-- rows that were pushed
abbrev pub OutCarries : Out → List Batch → List (List Value) → Type 0
OutCarries out gave pushed = Carries out.kept (gave ++ sent out.ring) pushed

-- the batches that are known to have come to the other end, and those of them that wait to be taken
abbrev pub come : In → List Batch
come into = received into.ring ++ known_items into.ring

abbrev pub waiting : In → List Batch
waiting into = into.inbox.items ++ known_items into.ring

-- the batches that have come, after those that had come before, are those that were taken and those that wait
pub record HasGiven (into : In) (had taken : List Batch) : Type 0 where
  pub all : had ++ come into ≡ taken ++ waiting into

-- the first batch has no row
abbrev pub starts_empty : List Batch → Bool
starts_empty [] = false
starts_empty (batch ∷ later) = length batch.rows == 0

-- all batches that waited were sent, or no free slot of the ring is known
abbrev pub IsSentTo : Sent → Out → Type 0
IsSentTo Sent.All out = out.kept.waiting ≡ []
IsSentTo Sent.Kept out = known_free out.ring ≡ 0

-- ---- what calls change

-- batches went on from those that wait to those that were sent, in their order
pub record Forwards (old new : Out) : Type 0 where
  pub ring : SameOut old new
  pub only : new.kept ≡ record old.kept { waiting = new.kept.waiting }
  pub order : sent new.ring ++ new.kept.waiting ≡ sent old.ring ++ old.kept.waiting

-- these batches were taken, the first of those that wait; and perhaps more have come
pub record GivesBatches (old : In) (taken : List Batch) (new : In) : Type 0 where
  pub ring : SameIn old new
  pub more : List Batch
  pub come_more : come new ≡ come old ++ more
  pub waiting_more : waiting old ++ more ≡ taken ++ waiting new

-- ---- a whole link

-- the batches that were taken, in the inbox, in the ring and in the outbox, one after the other, are those of the rows that were
-- pushed
pub record IsWhole (out : Out) (into : In) : Type 0 where
  pub beyond : List Batch
  pub chunks : (had taken : List Batch) (pushed : List (List Value)) → OutCarries out had pushed → HasGiven into had taken
      → (taken ++ waiting into) ++ (beyond ++ out.kept.waiting) ≡ chunks_of out.kept.batch_size pushed out.kept.ended

-- all that was made is in the inbox
pub record AreSettled (out : Out) (into : In) : Type 0 where
  pub outbox : out.kept.waiting ≡ []
  pub ring : received into.ring ≡ sent out.ring
  pub known : known_items into.ring ≡ []
  pub chunks : (had taken : List Batch) (pushed : List (List Value)) → OutCarries out had pushed → HasGiven into had taken
      → taken ++ into.inbox.items ≡ chunks_of out.kept.batch_size pushed out.kept.ended
