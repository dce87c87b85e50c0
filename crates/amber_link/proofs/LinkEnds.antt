-- The ends of links, and whole links.
use Rattle.std.proofs.Common.{◌≡◌, ◌/◌, length, List, [], ◌∷◌, ◌++◌, false, if◌then◌else◌, refl, sym, ap, ◌∙◌, append_assoc}
use mathlib.Core.List.{IsPrefix}
use Rattle.std.proofs.lemmas.List.{append-nil}
use Rattle.std.proofs.lemmas.Bool.{false≢true}
use Rattle.rtrb.specs.Ring.{known_items, received, sent}
use Rattle.amber_rows.specs.Chunks.{chunks_of}
use Rattle.amber_rows.specs.declared.value.Value.{Value}
use Rattle.amber_rows.specs.declared.batch.Batch.{Batch}
use Rattle.amber_link.specs.Links.{AreLinked, AreSettled, Forwards, GivesBatches, HasGiven, IsWhole, OutCarries, SameIn, SameOut, come, has_some, waiting}
use Rattle.amber_link.specs.Outgoing.{Outgoing, left_over}
use Rattle.amber_link.specs.declared.ends.Out.{Out}
use Rattle.amber_link.specs.declared.ends.In.{In}

-- a list with no first element
pub none-first : {A : Type 0} (xs : List A) → has_some xs ≡ false → xs ≡ []
none-first [] e = refl
none-first (x ∷ xs) e = absurd (false≢true (sym e))

-- ---- the same ends

pub same-in : (a : In) → SameIn a a
same-in a = ((refl, refl, refl, refl), refl)

pub same-in-then : (a b c : In) → SameIn a b → SameIn b c → SameIn a c
same-in-then a b c ((w, s, n, h), k) ((w2, s2, n2, h2), k2) = ((w2 ∙ w, s2 ∙ s, n2 ∙ n, h2 ∙ h), k2 ∙ k)

pub same-out : (a : Out) → SameOut a a
same-out a = ((refl, refl, refl, refl), refl)

pub same-out-then : (a b c : Out) → SameOut a b → SameOut b c → SameOut a c
same-out-then a b c ((w, s, n, h), k) ((w2, s2, n2, h2), k2) = ((w2 ∙ w, s2 ∙ s, n2 ∙ n, h2 ∙ h), k2 ∙ k)

-- the two ends stay those of one link
pub linked-still : (a b : Out) (c d : In) → AreLinked a c → SameOut a b → SameIn c d → AreLinked b d
linked-still a b c d ((w, s, n, h), some) ((w1, s1, n1, h1), k1) ((w2, s2, n2, h2), k2) = (
  (w2 ∙ w ∙ sym w1, s2 ∙ s ∙ sym s1, n2 ∙ n ∙ sym n1, h2 ∙ h ∙ sym h1),
  rw k1 some,
)

-- ---- batches that are taken

pub gives-none : (a : In) → GivesBatches a [] a
gives-none a = record { ring = same-in a; more = []; come_more = sym (append-nil (come a)); waiting_more = append-nil (waiting a) }

pub gives-then : (a b c : In) (xs ys : List Batch) → GivesBatches a xs b → GivesBatches b ys c → GivesBatches a (xs ++ ys) c
gives-then a b c xs ys one two = record {
  ring = same-in-then a b c one.ring two.ring;
  more = one.more ++ two.more;
  come_more = two.come_more ∙ ap (λ l. l ++ two.more) one.come_more ∙ append_assoc (come a) one.more two.more;
  waiting_more =
      sym (append_assoc (waiting a) one.more two.more) ∙ ap (λ l. l ++ two.more) one.waiting_more ∙ append_assoc xs (waiting b) two.more
      ∙ ap (λ l. xs ++ l) two.waiting_more ∙ sym (append_assoc xs ys (waiting c));
}

pub taken-gives : (a b : In) (had taken given : List Batch) → GivesBatches a given b → HasGiven a had taken → HasGiven b had (taken ++ given)
taken-gives a b had taken given gives has = record {
  all =
      ap (λ l. had ++ l) gives.come_more ∙ sym (append_assoc had (come a) gives.more) ∙ ap (λ l. l ++ gives.more) has.all ∙ append_assoc taken (waiting a) gives.more
      ∙ ap (λ l. taken ++ l) gives.waiting_more ∙ sym (append_assoc taken given (waiting b));
}

pub taken-looked : (a b : In) (had taken : List Batch) → GivesBatches a [] b → HasGiven a had taken → HasGiven b had taken
taken-looked a b had taken gives has = record { all = (taken-gives a b had taken [] gives has).all ∙ ap (λ l. l ++ waiting b) (append-nil taken) }

-- ---- batches that are sent

pub forwards-none : (a : Out) → Forwards a a
forwards-none a = record { ring = same-out a; only = refl; order = refl }

pub forwards-then : (a b c : Out) → Forwards a b → Forwards b c → Forwards a c
forwards-then a b c one two = record {
  ring = same-out-then a b c one.ring two.ring;
  only = two.only ∙ ap (λ (kept : Outgoing). record kept { waiting = c.kept.waiting }) one.only;
  order = two.order ∙ one.order;
}

pub carries-forwards : (a b : Out) (gave : List Batch) (pushed : List (List Value)) → Forwards a b → OutCarries a gave pushed → OutCarries b gave pushed
carries-forwards a b gave pushed forwards carries = record {
  some = rw batch_size carries.some;
  batches =
      append_assoc gave (sent b.ring) b.kept.waiting ∙ ap (λ l. gave ++ l) forwards.order ∙ sym (append_assoc gave (sent a.ring) a.kept.waiting) ∙ carries.batches
      ∙ ap (λ n. chunks_of n pushed a.kept.ended) (sym batch_size) ∙ ap (chunks_of b.kept.batch_size pushed) (sym ended);
  partial = ap (λ (kept : Outgoing). kept.partial) forwards.only ∙ carries.partial
      ∙ ap (λ n. if a.kept.ended then [] else left_over n pushed) (sym batch_size) ∙ ap (λ e. if e then [] else left_over b.kept.batch_size pushed) (sym ended);
  made = λ unended. ap (λ (kept : Outgoing). kept.made) forwards.only ∙ carries.made (sym ended ∙ unended) ∙ ap (λ n. length pushed / n) (sym batch_size);
}
  where
    batch_size : b.kept.batch_size ≡ a.kept.batch_size
    batch_size = ap (λ (kept : Outgoing). kept.batch_size) forwards.only

    ended : b.kept.ended ≡ a.kept.ended
    ended = ap (λ (kept : Outgoing). kept.ended) forwards.only

-- ---- a whole link

-- what the ring holds beyond what is known is known to whoever has both ends
pub whole-by : (out after : Out) (into looked : In) → sent after.ring ≡ sent out.ring → received looked.ring ≡ received into.ring
    → IsPrefix (known_items into.ring) (known_items looked.ring) → received looked.ring ++ known_items looked.ring ≡ sent after.ring → IsWhole out into
whole-by out after into looked sent_same received_same (beyond, known) fifo = record {
  beyond = beyond;
  chunks = λ had taken pushed carries has.
      let all : sent out.ring ≡ come into ++ beyond =
      sym (fifo ∙ sent_same) ∙ ap (λ l. l ++ known_items looked.ring) received_same ∙ ap (λ l. received into.ring ++ l) (sym known)
      ∙ sym (append_assoc (received into.ring) (known_items into.ring) beyond) in
      ap (λ l. l ++ (beyond ++ out.kept.waiting)) (sym has.all)
      ∙ append_assoc had (come into) (beyond ++ out.kept.waiting)
      ∙ ap (λ l. had ++ l) (sym (append_assoc (come into) beyond out.kept.waiting) ∙ ap (λ l. l ++ out.kept.waiting) (sym all))
      ∙ sym (append_assoc had (sent out.ring) out.kept.waiting)
      ∙ carries.batches;
}

-- nothing waits to be sent, and nothing is in the ring
pub settled-by : (out : Out) (into : In) → out.kept.waiting ≡ [] → received into.ring ≡ sent out.ring → known_items into.ring ≡ [] → AreSettled out into
settled-by out into none even known = record {
  outbox = none;
  ring = even;
  known = known;
  chunks = λ had taken pushed carries has.
      ap (λ l. taken ++ l) (sym (ap (λ l. into.inbox.items ++ l) known ∙ append-nil into.inbox.items))
      ∙ sym has.all
      ∙ ap (λ l. had ++ l) (ap (λ l. received into.ring ++ l) known ∙ append-nil (received into.ring) ∙ even)
      ∙ sym (append-nil (had ++ sent out.ring)) ∙ ap (λ l. (had ++ sent out.ring) ++ l) (sym none)
      ∙ carries.batches;
}

-- ---- one batch goes from the ring into the inbox

pub moved-one : {a b : In} (batch : Batch) → SameIn a b → received b.ring ≡ received a.ring ++ batch ∷ [] → known_items a.ring ≡ batch ∷ known_items b.ring
    → b.inbox.items ≡ a.inbox.items ++ batch ∷ [] → GivesBatches a [] b × (waiting b ≡ waiting a)
moved-one {a} {b} batch same popped known put =
    let there : waiting b ≡ waiting a =
    ap (λ l. l ++ known_items b.ring) put ∙ append_assoc a.inbox.items (batch ∷ []) (known_items b.ring) ∙ ap (λ l. a.inbox.items ++ l) (sym known) in (
      record {
        ring = same;
        more = [];
        come_more = ap (λ l. l ++ known_items b.ring) popped ∙ append_assoc (received a.ring) (batch ∷ []) (known_items b.ring) ∙ ap (λ l. received a.ring ++ l) (sym known) ∙ sym (append-nil (come a));
        waiting_more = append-nil (waiting a) ∙ sym there;
      },
      there,
    )

-- one batch goes through the ring
pub forwards-one : (a b c : Out) (batch : Batch) → Forwards a b → SameOut b c → c.kept ≡ record b.kept { waiting = c.kept.waiting } → b.kept.waiting ≡ batch ∷ c.kept.waiting
    → sent c.ring ≡ sent b.ring ++ batch ∷ [] → Forwards a c
forwards-one a b c batch one same only first more = forwards-then a b c one (record {
  ring = same;
  only = only;
  order = ap (λ l. l ++ c.kept.waiting) more ∙ append_assoc (sent b.ring) (batch ∷ []) c.kept.waiting ∙ ap (λ l. sent b.ring ++ l) (sym first);
})

-- a batch that was sent has come, and stands in the inbox
pub gives-one : (a b c : In) (batch : Batch) → GivesBatches a [] b → SameIn b c → received c.ring ≡ received b.ring ++ batch ∷ [] → known_items b.ring ≡ [] → known_items c.ring ≡ []
    → c.inbox.items ≡ b.inbox.items ++ batch ∷ [] → GivesBatches a [] c
gives-one a b c batch one same popped none still put = gives-then a b c [] [] one (record {
  ring = same;
  more = batch ∷ [];
  come_more =
      ap (λ l. received c.ring ++ l) still ∙ append-nil (received c.ring) ∙ popped ∙ ap (λ l. l ++ batch ∷ []) (sym (ap (λ l. received b.ring ++ l) none ∙ append-nil (received b.ring)));
  waiting_more =
      ap (λ l. (b.inbox.items ++ l) ++ batch ∷ []) none ∙ ap (λ l. l ++ batch ∷ []) (append-nil b.inbox.items) ∙ sym (ap (λ l. c.inbox.items ++ l) still ∙ append-nil c.inbox.items ∙ put);
})

-- a look, and the inbox takes room
pub gives-looked : (a b : In) → SameIn a b → received b.ring ≡ received a.ring → IsPrefix (known_items a.ring) (known_items b.ring) → b.inbox.items ≡ a.inbox.items → GivesBatches a [] b
gives-looked a b same popped (more, known) put = record {
  ring = same;
  more = more;
  come_more = ap (λ l. l ++ known_items b.ring) popped ∙ ap (λ l. received a.ring ++ l) (sym known) ∙ sym (append_assoc (received a.ring) (known_items a.ring) more);
  waiting_more = append_assoc a.inbox.items (known_items a.ring) more ∙ ap (λ l. a.inbox.items ++ l) known ∙ ap (λ l. l ++ known_items b.ring) (sym put);
}
