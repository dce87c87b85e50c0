-- Links on literals: what is kept of the rows that were pushed, and ends of a link of which nothing is lost, and of which a batch is.
use Rattle.std.proofs.Common.{◌≡◌, ℕ, ◌+◌, ◌++◌, List, [], ◌∷◌, map, pos, Bool, true, false, refl, sym, ap, ◌∙◌, append-nil, arith}
use Rattle.std.proofs.lemmas.Bool.{false≢true}
use Rattle.rtrb.specs.Ring.{known_items, received, sent}
use Rattle.amber_rows.specs.Chunks.{chunks_of}
use Rattle.amber_rows.specs.Lists.{numbers_below}
use Rattle.amber_rows.specs.declared.value.Value.{Value}
use Rattle.amber_rows.specs.declared.value.Value.TheVariants as value
use Rattle.amber_rows.specs.declared.batch.Batch.{Batch}
use Rattle.amber_link.specs.Links.{AreSettled, IsWhole, waiting}
use Rattle.amber_link.specs.Outgoing.{Carries, Outgoing}
use Rattle.amber_link.specs.declared.ends.Out.{Out}
use Rattle.amber_link.specs.declared.ends.In.{In}
use Rattle.amber_link.proofs.LinkEnds.{settled-by, whole-by}

-- ---- rows and batches

abbrev row : ℕ → List Value
row n = value.Int (pos n) ∷ []

-- a full batch of two rows
abbrev pair : ℕ → ℕ → Batch
pair number n = record { seq = number; rows = row n ∷ row (n + 1) ∷ []; last = false }

-- the last batch, of one row, and whether it is marked
abbrev rest : Bool → Batch
rest marked = record { seq = 2; rows = row 5 ∷ []; last = marked }

-- five rows are two batches of two rows, and one row that is left
abbrev five : List (List Value)
five = row 1 ∷ row 2 ∷ row 3 ∷ row 4 ∷ row 5 ∷ []

-- what is kept of a receiver once these were pushed, where these batches wait
abbrev kept : List Batch → Outgoing
kept waiting = record { batch_size = 2; made = 2; ended = false; waiting = waiting; partial = row 5 ∷ []; room = 0 }

-- once the stream was ended too
abbrev kept_at_the_end : List Batch → Outgoing
kept_at_the_end waiting = record { batch_size = 2; made = 3; ended = true; waiting = waiting; partial = []; room = 0 }

-- ---- what is kept of the rows that were pushed

one_has_gone : Carries (kept (pair 1 3 ∷ [])) (pair 0 1 ∷ []) five
unfolding chunks_of numbers_below
one_has_gone = record { some = omega arith; batches = refl; partial = refl; made = λ unended. refl }

the_last_is_marked : Carries (kept_at_the_end (pair 1 3 ∷ rest true ∷ [])) (pair 0 1 ∷ []) five
unfolding chunks_of numbers_below
the_last_is_marked = record { some = omega arith; batches = refl; partial = refl; made = λ unended. absurd (false≢true (sym unended)) }

-- the numbers of batches, and whether they are marked as the last
abbrev numbers : List Batch → List ℕ
numbers batches = map (λ batch. batch.seq) batches

abbrev marks : List Batch → List Bool
marks batches = map (λ batch. batch.last) batches

-- a batch went past another
out_of_order : Carries (kept (pair 0 1 ∷ [])) (pair 1 3 ∷ []) five → ⊥
unfolding chunks_of numbers_below
out_of_order carries = let wrong = ap numbers carries.batches in cc

a_batch_is_lost : Carries (kept []) (pair 0 1 ∷ []) five → ⊥
unfolding chunks_of numbers_below
a_batch_is_lost carries = let wrong = carries.batches in cc

a_row_is_lost : Carries (record (kept (pair 1 3 ∷ [])) { partial = [] }) (pair 0 1 ∷ []) five → ⊥
a_row_is_lost carries = let wrong = carries.partial in cc

one_is_counted_twice : Carries (record (kept (pair 1 3 ∷ [])) { made = 3 }) (pair 0 1 ∷ []) five → ⊥
one_is_counted_twice carries = let wrong = carries.made refl in absurd (omega arith)

the_last_is_not_marked : Carries (kept_at_the_end (pair 1 3 ∷ rest false ∷ [])) (pair 0 1 ∷ []) five → ⊥
unfolding chunks_of numbers_below
the_last_is_not_marked carries = let wrong = ap marks carries.batches in cc

-- ---- whole links

-- the two ends of a link: what is kept at the one, what went in there, and what came out at the other and waits, with nothing more known
pub record Ends (kept_so : Outgoing) (gone come : List Batch) : Type 0 where
  pub out : Out
  pub into : In
  pub kept_is : out.kept ≡ kept_so
  pub sent_is : sent out.ring ≡ gone
  pub received_is : received into.ring ≡ come
  pub inbox_is : into.inbox.items ≡ come
  pub known_is : known_items into.ring ≡ []

nothing_is_lost : (e : Ends (kept (pair 1 3 ∷ [])) (pair 0 1 ∷ []) (pair 0 1 ∷ [])) → IsWhole e.out e.into
nothing_is_lost e =
    whole-by e.out e.out e.into e.into refl refl ([], append-nil (known_items e.into.ring))
    (ap (λ l. received e.into.ring ++ l) e.known_is ∙ append-nil (received e.into.ring) ∙ e.received_is ∙ sym e.sent_is)

-- the first batch went in, and only the second came out
module _ (e : Ends (kept []) (pair 0 1 ∷ pair 1 3 ∷ []) (pair 1 3 ∷ [])) where
  carried : Carries e.out.kept ([] ++ sent e.out.ring) five
  unfolding chunks_of numbers_below
  carried = rw (e.kept_is, e.sent_is) (record { some = omega arith; batches = refl; partial = refl; made = λ unended. refl })

  waits : waiting e.into ≡ pair 1 3 ∷ []
  waits = rw (e.inbox_is, e.known_is) refl

  the_first_is_lost : IsWhole e.out e.into → ⊥
  unfolding chunks_of numbers_below
  the_first_is_lost whole =
      let all = whole.chunks [] [] five carried (record { all = ap (λ l. l ++ known_items e.into.ring) (e.received_is ∙ sym e.inbox_is) }) in
      let same : (pair 1 3 ∷ []) ++ (whole.beyond ++ e.out.kept.waiting) ≡ chunks_of 2 five false =
      ap (λ l. l ++ (whole.beyond ++ e.out.kept.waiting)) (sym waits) ∙ all ∙ ap (λ (k : Outgoing). chunks_of k.batch_size five k.ended) e.kept_is in
      let wrong = ap numbers same in
      cc

-- ---- settled links

all_has_come : (e : Ends (kept []) (pair 0 1 ∷ pair 1 3 ∷ []) (pair 0 1 ∷ pair 1 3 ∷ [])) → AreSettled e.out e.into
all_has_come e = settled-by e.out e.into (ap (λ (k : Outgoing). k.waiting) e.kept_is) (e.received_is ∙ sym e.sent_is) e.known_is

one_waits_to_be_sent : (e : Ends (kept (pair 1 3 ∷ [])) (pair 0 1 ∷ []) (pair 0 1 ∷ [])) → AreSettled e.out e.into → ⊥
one_waits_to_be_sent e settled = let wrong = sym settled.outbox ∙ ap (λ (k : Outgoing). k.waiting) e.kept_is in cc

one_has_not_come : (e : Ends (kept []) (pair 0 1 ∷ pair 1 3 ∷ []) (pair 0 1 ∷ [])) → AreSettled e.out e.into → ⊥
one_has_not_come e settled = let wrong = sym e.received_is ∙ settled.ring ∙ e.sent_is in cc
