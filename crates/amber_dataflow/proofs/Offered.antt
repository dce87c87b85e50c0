-- What a worker that does a leg again may take of its senders.
use Rattle.std.proofs.Common.{◌≡◌, ◌≢◌, refl, sym, ap, subst, ◌∙◌, ℕ, zero, suc, ◌+◌, ◌<◌, List, [], ◌∷◌, ◌++◌, length, get_or, nat_eq, Bool, true, false, Option, Some, None, is_some, if◌then◌else◌, ◌⊎◌, inl, inr, arith, append-nil, append_assoc}
use Rattle.std.specs.List.{list_any, slice_get}
use Rattle.std.proofs.lemmas.Bool.{eqb-true, false≢true, or_cases}
use Rattle.std.proofs.lemmas.Option.{slice_get_within}
use Rattle.amber_rows.specs.Lists.{first_of, nth}
use Rattle.amber_rows.specs.Topology.{crew_of}
use Rattle.amber_rows.specs.declared.batch.Batch.{Batch}
use Rattle.amber_link.specs.Links.{has_some, waiting}
use Rattle.amber_link.specs.Sides.{AreLooked, IsLooked, Pairwise}
use Rattle.amber_link.specs.declared.upstreams.Upstream.{Upstream}
use Rattle.amber_meaning.specs.Legal.{Query, batches_for, role_in, stream_of}
use Rattle.amber_meaning.specs.Plan.{role_of}
use Rattle.amber_meaning.specs.Position.{Position, has_last, taken_from}
use Rattle.amber_meaning.specs.Rules.{with_batch}
use Rattle.amber_meaning.proofs.Chunks.{chunks-marked}
use Rattle.amber_meaning.proofs.Lists.{nth-next, slice_get-seam}
use Rattle.amber_meaning.proofs.OneState.{taken_from-push}
use Rattle.amber_meaning.proofs.Orderly.{IsMarkedLast, marked-ends}
use Rattle.amber_worker.specs.AtPosition.{Receives, placement_of}
use Rattle.amber_worker.specs.Pairs.{AreSettledAt, OffersAll}
use Rattle.amber_worker.specs.Redoing.{batch_from, next_batch}
use Rattle.amber_worker.specs.WorkerState.{WorkerState}
use Rattle.amber_worker.proofs.PairFacts.{offers-all, receives-at}
use Rattle.amber_dataflow.specs.AtWork.{SendsTo, context_in, worker_state_at}
use Rattle.amber_dataflow.specs.Passing.{Settled}
use Rattle.amber_dataflow.specs.Redoing.{AreRedoneAt, Stance, in_hand, state_in}
use Rattle.amber_dataflow.proofs.InHands.{sending-redone}
use Rattle.amber_dataflow.proofs.Linked.{settled-same}
use Rattle.amber_dataflow.proofs.Reached.{listed-at}

-- ---- lists

-- where a list goes on behind a front, there is more
some-left : {A : Type 0} (xs ys all : List A) (y : A) → xs ++ ys ≡ all → slice_get all (length xs) ≡ Some y → has_some ys ≡ true
some-left xs [] all y is there =
    let within = slice_get_within all (length xs) y there in
    let long = ap length (sym is ∙ append-nil xs) in
    absurd (omega arith)
some-left xs (z ∷ ys) all y is there = refl

some-more : {A : Type 0} (xs more ys : List A) → xs ++ more ≡ ys → has_some xs ≡ true → has_some ys ≡ true
some-more [] more ys is some = absurd (false≢true some)
some-more (x ∷ xs) more ys is some = ap (λ l. has_some l) (sym is)

first-some : (batches : List Batch) → has_some batches ≡ true → is_some (first_of batches) ≡ true
first-some [] some = absurd (false≢true some)
first-some (batch ∷ more) some = refl

-- of a sender's batches only the last is marked
batches-marked : (query : Query) (positions : List Position) (from to : ℕ) → IsMarkedLast (batches_for query positions from to)
unfolding batches_for
batches-marked query positions from to = chunks-marked query.batch_size _ _

-- ---- what a settled link offers

module _ (at : Stance) (crew : List WorkerState) (stand : AreRedoneAt at crew) (from to : ℕ) (does : SendsTo at.query.flow from to) (settled : Settled crew from to) where
  settled-hands : AreSettledAt (in_hand at.positions crew from) (in_hand at.positions crew to)
  settled-hands = settled-same (worker_state_at crew from) (in_hand at.positions crew from) (worker_state_at crew to) (in_hand at.positions crew to) refl refl refl refl settled

  -- what was taken and what waits are all batches that the sender has made
  pub all-offered : (k : ℕ) (d : Upstream) → k < length (worker_state_at crew to).ins → (get_or (worker_state_at crew to).ins k d).from ≡ from
      → taken_from (at.positions to).taken from ++ waiting (get_or (worker_state_at crew to).ins k d).link ≡ batches_for at.query (state_in at).positions from to
  unfolding batches_for stream_of OffersAll placement_of role_of
  all-offered k d less own =
      let one = sending-redone at crew stand from to does in
      let before = one.before in
      let there : to < crew_of at.query.flow = does.0 in
      let here : from < crew_of at.query.flow = omega arith in
      let sends = stand.each from here in
      let takes = stand.each to there in
      let all = offers-all (in_hand at.positions crew from) (in_hand at.positions crew to) settled-hands
      (record { context = context_in stand.bases at.query at.start from; position = at.positions from }) (record { context = context_in stand.bases at.query at.start to; position = at.positions to })
      (record { shows = sends.shows; other_shows = takes.shows; earlier = stand.earlier from to })
      k d less own in
      rw (listed-at at.positions (crew_of at.query.flow) from here) all

  -- where a batch comes next it waits, and the last was not taken
  pub comes-next : (k : ℕ) (d : Upstream) → k < length (worker_state_at crew to).ins → (get_or (worker_state_at crew to).ins k d).from ≡ from → (number : ℕ) (batch : Batch)
      → number ≡ length (taken_from (at.positions to).taken from) → nth (batches_for at.query (state_in at).positions from to) (number + 1) ≡ Some batch
      → ((get_or (worker_state_at crew to).ins k d).ended ≡ false) × (has_some (waiting (get_or (worker_state_at crew to).ins k d).link) ≡ true)
  unfolding placement_of role_of
  comes-next k d less own number batch next there =
      let one : Upstream = get_or (worker_state_at crew to).ins k d in
      let taken = taken_from (at.positions to).taken from in
      let batches = batches_for at.query (state_in at).positions from to in
      let all = all-offered k d less own in
      let some = some-left taken (waiting one.link) batches batch all (sym (nth-next batches (length taken)) ∙ ap (λ n. nth batches (n + 1)) (sym next) ∙ there) in
      let takes = stand.each to does.0 in
      let receives = receives-at (role_in at.query to).senders (context_in stand.bases at.query at.start to).base.had (at.positions to).taken (worker_state_at crew to).ins k from d less own takes.shows.ins in
      (receives.ended ∙ unmarked (has_last (at.positions to).taken from) refl some, some)
    where
      unmarked : (b : Bool) → has_last (at.positions to).taken from ≡ b → has_some (waiting (get_or (worker_state_at crew to).ins k d).link) ≡ true → b ≡ false
      unmarked false is some = refl
      unmarked true is some =
          let none : waiting (get_or (worker_state_at crew to).ins k d).link ≡ [] =
          marked-ends (taken_from (at.positions to).taken from) (waiting (get_or (worker_state_at crew to).ins k d).link) (subst IsMarkedLast (sym (all-offered k d less own)) (batches-marked at.query (state_in at).positions from to)) is in
          absurd (false≢true (ap (λ l. has_some l) (sym none) ∙ some))

-- so a look finds it
pub looked-there : (from : ℕ) (ins found : List Upstream) → AreLooked ins found → list_any (λ (one : Upstream). nat_eq one.from from) ins ≡ true
    → ((k : ℕ) (d : Upstream) → k < length ins → (get_or ins k d).from ≡ from → ((get_or ins k d).ended ≡ false) × (has_some (waiting (get_or ins k d).link) ≡ true))
    → is_some (batch_from found from) ≡ true
unfolding batch_from Pairwise
looked-there from [] found looked known each = absurd (false≢true known)
looked-there from (one ∷ ins) [] looked known each = absurd looked
looked-there from (one ∷ ins) (now ∷ found) looked known each =
    by (nat_eq now.from from) refl (looked-there from ins found looked.1)
  where
    same-from : now.from ≡ one.from
    same-from = ap (λ (s : Upstream). s.from) looked.0.only

    here : nat_eq now.from from ≡ true → is_some (next_batch now) ≡ true
    here is =
        let first = each 0 one (omega arith) (sym same-from ∙ eqb-true now.from from is) in
        let unended : now.ended ≡ false = ap (λ (s : Upstream). s.ended) looked.0.only ∙ first.0 in
        rw unended (first-some (waiting now.link) (some-more (waiting one.link) looked.0.gives.more (waiting now.link) looked.0.gives.waiting_more first.1))

    by : (b : Bool) → nat_eq now.from from ≡ b
        → (list_any (λ (one : Upstream). nat_eq one.from from) ins ≡ true
        → ((k : ℕ) (d : Upstream) → k < length ins → (get_or ins k d).from ≡ from → ((get_or ins k d).ended ≡ false) × (has_some (waiting (get_or ins k d).link) ≡ true))
        → is_some (batch_from found from) ≡ true)
        → is_some (if b then next_batch now else batch_from found from) ≡ true
    by true is rest = here is
    by false is rest = rest (later is (or_cases (nat_eq one.from from) _ known)) (λ k d less own. each (suc k) d (omega arith) own)
      where
        later : nat_eq now.from from ≡ false → (nat_eq one.from from ≡ true) ⊎ (list_any (λ (one : Upstream). nat_eq one.from from) ins ≡ true)
            → list_any (λ (one : Upstream). nat_eq one.from from) ins ≡ true
        later not (inl first) = absurd (false≢true (sym not ∙ ap (λ n. nat_eq n from) same-from ∙ first))
        later not (inr there) = there

-- ---- what was taken was offered

-- a batch behind those that were taken, which with it are the first that the sender has made, has the next number
pub taken-offered : (p : Position) (from number : ℕ) (batch : Batch) (rest all : List Batch) → number ≡ length (taken_from p.taken from)
    → taken_from (with_batch from batch p).taken from ++ rest ≡ all → nth all (number + 1) ≡ Some batch
taken-offered p from number batch rest all next is =
    let taken = taken_from p.taken from in
    ap (λ n. nth all (n + 1)) next ∙ nth-next all (length taken)
    ∙ ap (λ l. slice_get l (length taken)) (sym is ∙ ap (λ l. l ++ rest) (taken_from-push p.taken from batch) ∙ append_assoc taken (batch ∷ []) rest)
    ∙ slice_get-seam taken batch rest
