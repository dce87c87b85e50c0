-- What is kept of senders goes on with the batches that are taken of them, and with looks.
use Rattle.std.proofs.Common.{◌≡◌, ℕ, suc, ◌+◌, eqb, ◌||◌, List, [], ◌∷◌, ◌++◌, length, map, All, Bool, true, false, if◌then◌else◌, refl, sym, ap, ◌∙◌, arith, length-append, subst}
use Rattle.std.specs.List.{list_any}
use Rattle.std.proofs.lemmas.Bool.{eq-eqb, eqb-true, false≢true, or_left, or_right}
use Rattle.std.proofs.lemmas.List.{append-nil, map-append}
use Rattle.std.proofs.lemmas.List.Elements.{All-cons, filter-append}
use Rattle.amber_rows.specs.declared.batch.Batch.{Batch}
use Rattle.amber_meaning.specs.Position.{Taken, has_last, taken_from}
use Rattle.amber_meaning.specs.Task.{Task, is_builder}
use Rattle.amber_link.specs.Links.{GivesBatches, HasGiven}
use Rattle.amber_link.specs.Sides.{AreLooked, IsLooked, Pairwise}
use Rattle.amber_link.proofs.LinkEnds.{taken-gives, taken-looked}
use Rattle.amber_link.specs.declared.upstreams.Upstream.{Upstream}
use Rattle.amber_worker.specs.AtPosition.{ReceiveAll, Receives}

-- ---- the batches of one sender

abbrev pub as_taken : ℕ → Batch → Taken
as_taken from batch = record { from = from; batch = batch }

-- a batch more of this sender
taken_from-same : (taken : List Taken) (from : ℕ) (batch : Batch) → taken_from (taken ++ as_taken from batch ∷ []) from ≡ taken_from taken from ++ batch ∷ []
unfolding taken_from
taken_from-same taken from batch =
    ap (λ (l : List Taken). map (λ one. one.batch) l) (filter-append _ taken (as_taken from batch ∷ []))
    ∙ map-append _ _ _
    ∙ ap (λ l. taken_from taken from ++ l) (by (eqb from from) (eq-eqb from from refl))
  where
    by : (b : Bool) → b ≡ true → map (λ (one : Taken). one.batch) (if b then as_taken from batch ∷ [] else []) ≡ batch ∷ []
    by true e = refl
    by false e = absurd (false≢true e)

-- a batch more of another sender
taken_from-other : (taken : List Taken) (from sender : ℕ) (batch : Batch) → eqb from sender ≡ false → taken_from (taken ++ as_taken from batch ∷ []) sender ≡ taken_from taken sender
unfolding taken_from
taken_from-other taken from sender batch other =
    ap (λ (l : List Taken). map (λ one. one.batch) l) (filter-append _ taken (as_taken from batch ∷ []))
    ∙ map-append _ _ _
    ∙ ap (λ l. taken_from taken sender ++ l) (by (eqb from sender) other)
    ∙ append-nil _
  where
    by : (b : Bool) → b ≡ false → map (λ (one : Taken). one.batch) (if b then as_taken from batch ∷ [] else []) ≡ []
    by true e = absurd (false≢true (sym e))
    by false e = refl

-- ---- what is kept of senders

both_false : (a b : Bool) → (a || b) ≡ false → (a ≡ false) × (b ≡ false)
both_false true b h = absurd (false≢true (sym h))
both_false false b h = (refl, h)

turned : (a b : ℕ) → eqb a b ≡ false → eqb b a ≡ false
turned a b h = by (eqb b a) refl
  where
    by : (c : Bool) → eqb b a ≡ c → c ≡ false
    by true e = let same : b ≡ a = eqb-true b a e in absurd (false≢true (sym h ∙ eq-eqb a b (sym same)))
    by false e = refl

receives-other : (taken : List Taken) (from sender : ℕ) (had : List Batch) (batch : Batch) (one : Upstream) → eqb from sender ≡ false → Receives sender had taken one
    → Receives sender had (taken ++ as_taken from batch ∷ []) one
receives-other taken from sender had batch one other h = record {
  from = h.from;
  taken = rw (taken_from-other taken from sender batch other) h.taken;
  ended = rw (taken_from-other taken from sender batch other) h.ended;
  come = subst (λ batches. HasGiven one.link had batches) (sym (taken_from-other taken from sender batch other)) h.come;
}

receive_all-other : (had : ℕ → List Batch) (taken : List Taken) (from : ℕ) (batch : Batch) (senders : List ℕ) (ins : List Upstream) → list_any (λ other. eqb other from) senders ≡ false
    → ReceiveAll senders had taken ins → ReceiveAll senders had (taken ++ as_taken from batch ∷ []) ins
unfolding ReceiveAll
receive_all-other had taken from batch [] [] other h = tt
receive_all-other had taken from batch [] (one ∷ ins) other h = absurd h
receive_all-other had taken from batch (sender ∷ senders) [] other h = absurd h
receive_all-other had taken from batch (sender ∷ senders) (one ∷ ins) other h =
    let parts = both_false (eqb sender from) _ other in
    (receives-other taken from sender (had sender) batch one (turned sender from parts.0) h.0, h.1, receive_all-other had taken from batch senders ins parts.1 h.2)

-- one of these is a sender
pub is-sender : (had : ℕ → List Batch) (taken : List Taken) (senders : List ℕ) (front back : List Upstream) (one : Upstream) → ReceiveAll senders had taken (front ++ one ∷ back)
    → list_any (λ other. eqb other one.from) senders ≡ true
unfolding ReceiveAll
is-sender had taken [] [] back one h = absurd h
is-sender had taken [] (first ∷ front) back one h = absurd h
is-sender had taken (sender ∷ senders) [] back one h = or_left _ _ (eq-eqb sender one.from (sym h.0.from))
is-sender had taken (sender ∷ senders) (first ∷ front) back one h = or_right _ _ (is-sender had taken senders front back one h.2)

its-own : (taken : List Taken) (sender : ℕ) (had : List Batch) (one : Upstream) → Receives sender had taken one → Receives one.from had taken one
its-own taken sender had one h = record {
  from = refl;
  taken = h.taken ∙ ap (λ n. length (taken_from taken n)) (sym h.from);
  ended = h.ended ∙ ap (λ n. has_last taken n) (sym h.from);
  come = subst (λ n. HasGiven one.link had (taken_from taken n)) (sym h.from) h.come;
}

-- what is kept of it is of its own number
pub is-received : (had : ℕ → List Batch) (taken : List Taken) (senders : List ℕ) (front back : List Upstream) (one : Upstream) → ReceiveAll senders had taken (front ++ one ∷ back)
    → Receives one.from (had one.from) taken one
unfolding ReceiveAll
is-received had taken [] [] back one h = absurd h
is-received had taken [] (first ∷ front) back one h = absurd h
is-received had taken (sender ∷ senders) [] back one h = subst (λ n. Receives one.from (had n) taken one) (sym h.0.from) (its-own taken sender (had sender) one h.0)
is-received had taken (sender ∷ senders) (first ∷ front) back one h = is-received had taken senders front back one h.2

-- those before it are others
before-others : (had : ℕ → List Batch) (taken : List Taken) (sender : ℕ) (senders : List ℕ) (front back : List Upstream) (one : Upstream) → list_any (λ other. eqb other sender) senders ≡ false
    → ReceiveAll senders had taken (front ++ one ∷ back) → eqb sender one.from ≡ false
before-others had taken sender senders front back one apart h = by (eqb sender one.from) refl
  where
    by : (b : Bool) → eqb sender one.from ≡ b → b ≡ false
    by true e =
        let same : sender ≡ one.from = eqb-true sender one.from e in
        absurd (false≢true (sym apart ∙ rw same (is-sender had taken senders front back one h)))
    by false e = refl

marked-more : (batches : List Batch) (batch : Batch) → list_any (λ (b : Batch). b.last) batches ≡ false → list_any (λ (b : Batch). b.last) (batches ++ batch ∷ []) ≡ batch.last
marked-more [] batch h = by batch.last
  where
    by : (b : Bool) → (b || false) ≡ b
    by true = refl
    by false = refl
marked-more (first ∷ batches) batch h =
    let parts = both_false first.last _ h in
    rw parts.0 (marked-more batches batch parts.1)

-- its next batch was taken
receives-next : (taken : List Taken) (sender : ℕ) (had : List Batch) (one now : Upstream) (batch : Batch) → one.ended ≡ false → GivesBatches one.link (batch ∷ []) now.link
    → now ≡ record one { taken = one.taken + 1; ended = batch.last; link = now.link } → Receives sender had taken one → Receives sender had (taken ++ as_taken sender batch ∷ []) now
receives-next taken sender had one now batch unended gives is h =
    let before = h.taken in
    let next : now.taken ≡ one.taken + 1 = ap (λ (s : Upstream). s.taken) is in
    record {
      from = ap (λ (s : Upstream). s.from) is ∙ h.from;
      taken = rw (taken_from-same taken sender batch) (omega (arith, length-append (taken_from taken sender) (batch ∷ [])));
      ended = ap (λ (s : Upstream). s.ended) is ∙ rw (taken_from-same taken sender batch) (sym (marked-more (taken_from taken sender) batch (sym h.ended ∙ unended)));
      come = subst (λ batches. HasGiven now.link had batches) (sym (taken_from-same taken sender batch)) (taken-gives one.link now.link had (taken_from taken sender) (batch ∷ []) gives h.come);
    }

pub receive_all-next : (had : ℕ → List Batch) (taken : List Taken) (senders : List ℕ) (front back : List Upstream) (one now : Upstream) (batch : Batch) → one.ended ≡ false
    → GivesBatches one.link (batch ∷ []) now.link → now ≡ record one { taken = one.taken + 1; ended = batch.last; link = now.link }
    → ReceiveAll senders had taken (front ++ one ∷ back) → ReceiveAll senders had (taken ++ as_taken one.from batch ∷ []) (front ++ now ∷ back)
unfolding ReceiveAll
receive_all-next had taken [] [] back one now batch unended gives is h = absurd h
receive_all-next had taken [] (first ∷ front) back one now batch unended gives is h = absurd h
receive_all-next had taken (sender ∷ senders) [] back one now batch unended gives is h =
    let same : one.from ≡ sender = h.0.from in (
      subst (λ n. Receives sender (had sender) (taken ++ as_taken n batch ∷ []) now) (sym same) (receives-next taken sender (had sender) one now batch unended gives is h.0),
      h.1,
      receive_all-other had taken one.from batch senders back (rw same h.1) h.2,
    )
receive_all-next had taken (sender ∷ senders) (first ∷ front) back one now batch unended gives is h = (
  receives-other taken one.from sender (had sender) batch first (turned sender one.from (before-others had taken sender senders front back one h.1 h.2)) h.0,
  h.1,
  receive_all-next had taken senders front back one now batch unended gives is h.2,
)

-- ---- looks

receives-looked : (sender : ℕ) (had : List Batch) (taken : List Taken) (one now : Upstream) → IsLooked one now → Receives sender had taken one → Receives sender had taken now
receives-looked sender had taken one now looked h = record {
  from = ap (λ (s : Upstream). s.from) looked.only ∙ h.from;
  taken = ap (λ (s : Upstream). s.taken) looked.only ∙ h.taken;
  ended = ap (λ (s : Upstream). s.ended) looked.only ∙ h.ended;
  come = taken-looked one.link now.link had (taken_from taken sender) looked.gives h.come;
}

pub receive_all-looked : (had : ℕ → List Batch) (taken : List Taken) (senders : List ℕ) (ins found : List Upstream) → AreLooked ins found → ReceiveAll senders had taken ins → ReceiveAll senders had taken found
unfolding ReceiveAll Pairwise
receive_all-looked had taken senders [] [] looked h = h
receive_all-looked had taken senders [] (now ∷ found) looked h = absurd looked
receive_all-looked had taken senders (one ∷ ins) [] looked h = absurd looked
receive_all-looked had taken [] (one ∷ ins) (now ∷ found) looked h = absurd h
receive_all-looked had taken (sender ∷ senders) (one ∷ ins) (now ∷ found) looked h =
    (receives-looked sender (had sender) taken one now looked.0 h.0, h.1, receive_all-looked had taken senders ins found looked.1 h.2)

pub sides-looked : (task : Task) (ins found : List Upstream) → AreLooked ins found → All (λ one. one.builds ≡ is_builder task one.from) ins
    → All (λ one. one.builds ≡ is_builder task one.from) found
unfolding Pairwise
sides-looked task [] [] looked sides = λ k d less. absurd (omega arith)
sides-looked task [] (now ∷ found) looked sides = absurd looked
sides-looked task (one ∷ ins) [] looked sides = absurd looked
sides-looked task (one ∷ ins) (now ∷ found) looked sides =
    All-cons (λ (s : Upstream). s.builds ≡ is_builder task s.from) now found
    (ap (λ (s : Upstream). s.builds) looked.0.only ∙ sides 0 one (omega arith) ∙ ap (λ (s : Upstream). is_builder task s.from) (sym looked.0.only))
    (sides-looked task ins found looked.1 (λ k d less. sides (suc k) d (omega arith)))
