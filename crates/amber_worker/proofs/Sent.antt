-- What is kept of receivers, as rows are pushed, streams are ended, and batches go on.
use Rattle.std.proofs.Common.{◌≡◌, ℕ, zero, suc, ◌<◌, eqb, ◌||◌, List, [], ◌∷◌, ◌++◌, length, get_or, set, Option, Some, None, Bool, true, false, refl, sym, ap, ◌∙◌, arith, subst}
use Rattle.std.specs.List.{list_any}
use Rattle.std.proofs.lemmas.Bool.{eq-eqb, eqb-true, false≢true, or_left, or_right}
use Rattle.std.proofs.lemmas.List.{append-nil}
use Rattle.std.proofs.lemmas.List.Elements.{filter-append}
use Rattle.std.specs.Option.{MatchOption}
use Rattle.rtrb.specs.Ring.{sent}
use Rattle.amber_rows.specs.declared.value.Value.{Value}
use Rattle.amber_rows.specs.declared.batch.Batch.{Batch}
use Rattle.amber_link.specs.Links.{Forwards, OutCarries}
use Rattle.amber_link.specs.Outgoing.{Adds, Carries, Outgoing}
use Rattle.amber_link.specs.Sides.{AreEnded, IsEnded, HandsOn, Pairwise}
use Rattle.amber_link.specs.declared.downstreams.Downstream.{Downstream}
use Rattle.amber_link.proofs.LinkEnds.{carries-forwards}
use Rattle.amber_worker.specs.Links.{IsHandedOn}
use Rattle.amber_worker.specs.AtPosition.{Output, Placement, SendAll, Sends, stream_to}

neither : (a b : Bool) → (a || b) ≡ false → (a ≡ false) × (b ≡ false)
neither true b h = absurd (false≢true (sym h))
neither false b h = (refl, h)

turned : (a b : ℕ) → eqb a b ≡ false → eqb b a ≡ false
turned a b h = by (eqb b a) refl
  where
    by : (c : Bool) → eqb b a ≡ c → c ≡ false
    by true e = let same : b ≡ a = eqb-true b a e in absurd (false≢true (sym h ∙ eq-eqb a b (sym same)))
    by false e = refl

-- ---- which receivers there are

pub sends-to-all : (placement : Placement) (receivers : List ℕ) (output : Output) (outs : List Downstream) (receiver : ℕ)
    → SendAll placement receivers output outs → list_any (λ (one : Downstream). eqb one.to receiver) outs ≡ list_any (λ one. eqb one receiver) receivers
unfolding SendAll
sends-to-all placement [] output [] receiver h = refl
sends-to-all placement [] output (one ∷ outs) receiver h = absurd h
sends-to-all placement (first ∷ more) output [] receiver h = absurd h
sends-to-all placement (first ∷ more) output (one ∷ outs) receiver h = rw (h.0.to, sends-to-all placement more output outs receiver h.2)

is-receiver : (placement : Placement) (receivers : List ℕ) (output : Output) (outs : List Downstream) (i : ℕ) → i < length outs → (n : ℕ)
    → ((d : Downstream) → (get_or outs i d).to ≡ n) → SendAll placement receivers output outs → list_any (λ other. eqb other n) receivers ≡ true
unfolding SendAll
is-receiver placement [] output [] i less n own h = absurd (omega arith)
is-receiver placement [] output (one ∷ outs) i less n own h = absurd h
is-receiver placement (receiver ∷ receivers) output [] i less n own h = absurd h
is-receiver placement (receiver ∷ receivers) output (one ∷ outs) zero less n own h = or_left _ _ (eq-eqb receiver n (sym h.0.to ∙ own one))
is-receiver placement (receiver ∷ receivers) output (one ∷ outs) (suc i) less n own h = or_right _ _ (is-receiver placement receivers output outs i (omega arith) n own h.2)

-- ---- a row more

-- these rows were emitted, and the streams have not ended
abbrev pub unended : List (List Value) → (ℕ → List Batch) → Output
unended rows gave = record { rows = rows; ended = false; gave = gave }

-- it goes to this receiver
stream-here : (placement : Placement) (receiver : ℕ) (rows : List (List Value)) (row : List Value) → placement.route row ≡ receiver
    → stream_to placement receiver (rows ++ row ∷ []) ≡ stream_to placement receiver rows ++ row ∷ []
stream-here placement receiver rows row here =
    filter-append (λ (other : List Value). eqb (placement.route other) receiver) rows (row ∷ []) ∙ ap (λ l. stream_to placement receiver rows ++ l) (rw (here, eq-eqb receiver receiver refl) refl)

-- it goes to another
stream-there : (placement : Placement) (receiver : ℕ) (rows : List (List Value)) (row : List Value) → eqb (placement.route row) receiver ≡ false
    → stream_to placement receiver (rows ++ row ∷ []) ≡ stream_to placement receiver rows
stream-there placement receiver rows row other =
    filter-append (λ (one : List Value). eqb (placement.route one) receiver) rows (row ∷ []) ∙ ap (λ l. stream_to placement receiver rows ++ l) (rw other refl) ∙ append-nil (stream_to placement receiver rows)

sends-other : (placement : Placement) (receiver : ℕ) (rows : List (List Value)) (row : List Value) (gave : ℕ → List Batch) (one : Downstream) → eqb (placement.route row) receiver ≡ false
    → Sends placement receiver (unended rows gave) one → Sends placement receiver (unended (rows ++ row ∷ []) gave) one
sends-other placement receiver rows row gave one other h = record {
  to = h.to;
  batch_size = h.batch_size;
  over = h.over;
  carries = subst (λ stream. OutCarries one.link (gave receiver) stream) (sym (stream-there placement receiver rows row other)) h.carries;
}

sends-more : (placement : Placement) (receiver : ℕ) (rows : List (List Value)) (row : List Value) (gave : ℕ → List Batch) (one now : Downstream) → placement.route row ≡ receiver
    → now.to ≡ one.to → now.link.ring ≡ one.link.ring → Adds one.link.kept row now.link.kept
    → Sends placement receiver (unended rows gave) one → Sends placement receiver (unended (rows ++ row ∷ []) gave) now
sends-more placement receiver rows row gave one now here to ring adds h = record {
  to = to ∙ h.to;
  batch_size = adds.batch_size ∙ h.batch_size;
  over = adds.ended;
  carries = subst (λ stream. OutCarries now.link (gave receiver) stream) (sym (stream-here placement receiver rows row here))
      (subst (λ l. Carries now.link.kept (gave receiver ++ l) (stream_to placement receiver rows ++ row ∷ [])) (sym (ap sent ring))
      (adds.each (gave receiver ++ sent one.link.ring) (stream_to placement receiver rows) h.carries));
}

-- none of these gets the row
all-other : (placement : Placement) (receivers : List ℕ) (rows : List (List Value)) (row : List Value) (gave : ℕ → List Batch) (outs : List Downstream)
    → list_any (λ other. eqb other (placement.route row)) receivers ≡ false
    → SendAll placement receivers (unended rows gave) outs → SendAll placement receivers (unended (rows ++ row ∷ []) gave) outs
unfolding SendAll
all-other placement [] rows row gave [] none h = tt
all-other placement [] rows row gave (one ∷ outs) none h = absurd h
all-other placement (receiver ∷ receivers) rows row gave [] none h = absurd h
all-other placement (receiver ∷ receivers) rows row gave (one ∷ outs) none h =
    let parts = neither (eqb receiver (placement.route row)) (list_any (λ other. eqb other (placement.route row)) receivers) none in
    (sends-other placement receiver rows row gave one (turned receiver (placement.route row) parts.0) h.0, h.1, all-other placement receivers rows row gave outs parts.1 h.2)

-- the one at this place gets it
one-more : (placement : Placement) (receivers : List ℕ) (rows : List (List Value)) (row : List Value) (gave : ℕ → List Batch) (outs : List Downstream) (i : ℕ) (now : Downstream)
    → i < length outs → ((d : Downstream) → (get_or outs i d).to ≡ placement.route row) → now.to ≡ (get_or outs i now).to → now.link.ring ≡ (get_or outs i now).link.ring
    → Adds (get_or outs i now).link.kept row now.link.kept
    → SendAll placement receivers (unended rows gave) outs → SendAll placement receivers (unended (rows ++ row ∷ []) gave) (set outs i now)
unfolding SendAll
one-more placement [] rows row gave [] i now less own to ring adds h = absurd (omega arith)
one-more placement [] rows row gave (one ∷ outs) i now less own to ring adds h = absurd h
one-more placement (receiver ∷ receivers) rows row gave [] i now less own to ring adds h = absurd h
one-more placement (receiver ∷ receivers) rows row gave (one ∷ outs) zero now less own to ring adds h =
    let here : placement.route row ≡ receiver = sym (own one) ∙ h.0.to in (
      sends-more placement receiver rows row gave one now here to ring adds h.0,
      h.1,
      all-other placement receivers rows row gave outs (ap (λ n. list_any (λ other. eqb other n) receivers) here ∙ h.1) h.2,
    )
one-more placement (receiver ∷ receivers) rows row gave (one ∷ outs) (suc i) now less own to ring adds h = (
  sends-other placement receiver rows row gave one (by (eqb (placement.route row) receiver) refl) h.0,
  h.1,
  one-more placement receivers rows row gave outs i now (omega arith) own to ring adds h.2,
)
  where
    by : (b : Bool) → eqb (placement.route row) receiver ≡ b → b ≡ false
    by true e =
        let here : placement.route row ≡ receiver = eqb-true (placement.route row) receiver e in
        absurd (false≢true (sym (ap (λ n. list_any (λ other. eqb other n) receivers) here ∙ h.1) ∙ is-receiver placement receivers (unended rows gave) outs i (omega arith) (placement.route row) own h.2))
    by false e = refl

-- the row goes to the receiver with its number
pub send_all-row : (placement : Placement) (receivers : List ℕ) (rows : List (List Value)) (row : List Value) (gave : ℕ → List Batch) (outs after : List Downstream) (number : ℕ)
    → (0 < length receivers → number ≡ placement.route row)
    → SendAll placement receivers (unended rows gave) outs → IsHandedOn number row outs after → SendAll placement receivers (unended (rows ++ row ∷ []) gave) after
send_all-row placement receivers rows row gave outs after number routes h handed = by handed.place handed.so
  where
    nobody : (receivers : List ℕ) → (0 < length receivers → number ≡ placement.route row) → list_any (λ other. eqb other number) receivers ≡ false
        → list_any (λ other. eqb other (placement.route row)) receivers ≡ false
    nobody [] routed none = refl
    nobody (receiver ∷ receivers) routed none = ap (λ n. list_any (λ other. eqb other n) (receiver ∷ receivers)) (sym (routed (omega arith))) ∙ none

    some-receiver : (receivers : List ℕ) → list_any (λ other. eqb other number) receivers ≡ true → 0 < length receivers
    some-receiver [] e = absurd (false≢true e)
    some-receiver (receiver ∷ receivers) e = omega arith

    by : (place : Option ℕ)
        → MatchOption place ((list_any (λ (one : Downstream). eqb one.to number) outs ≡ false) × (after ≡ outs)) (λ i. HandsOn i row outs after × ((d : Downstream) → (get_or outs i d).to ≡ number))
        → SendAll placement receivers (unended (rows ++ row ∷ []) gave) after
    by None (none, same) =
        subst (λ l. SendAll placement receivers (unended (rows ++ row ∷ []) gave) l) (sym same)
        (all-other placement receivers rows row gave outs (nobody receivers routes (sym (sends-to-all placement receivers (unended rows gave) outs number h) ∙ none)) h)
    by (Some i) (hands, own) =
        let there = some-receiver receivers (is-receiver placement receivers (unended rows gave) outs i hands.within number own h) in
        subst (λ l. SendAll placement receivers (unended (rows ++ row ∷ []) gave) l) (sym hands.is)
        (one-more placement receivers rows row gave outs i hands.now hands.within (λ d. own d ∙ routes there) hands.to hands.ring hands.adds h)

-- ---- the end

sends-end : (placement : Placement) (receiver : ℕ) (rows : List (List Value)) (gave : ℕ → List Batch) (one now : Downstream) → Sends placement receiver (unended rows gave) one → IsEnded one now
    → Sends placement receiver (record { rows = rows; ended = true; gave = gave }) now
sends-end placement receiver rows gave one now h ends = record {
  to = ends.to ∙ h.to;
  batch_size = ends.closes.batch_size ∙ h.batch_size;
  over = ends.closes.ended;
  carries = subst (λ l. Carries now.link.kept (gave receiver ++ l) (stream_to placement receiver rows)) (sym (ap sent ends.ring)) (ends.closes.each (gave receiver ++ sent one.link.ring) (stream_to placement receiver rows) h.carries);
}

pub send_all-end : (placement : Placement) (receivers : List ℕ) (rows : List (List Value)) (gave : ℕ → List Batch) (outs after : List Downstream)
    → SendAll placement receivers (unended rows gave) outs → AreEnded outs after → SendAll placement receivers (record { rows = rows; ended = true; gave = gave }) after
unfolding SendAll Pairwise
send_all-end placement [] rows gave [] [] h ends = tt
send_all-end placement [] rows gave [] (now ∷ after) h ends = absurd ends
send_all-end placement [] rows gave (one ∷ outs) after h ends = absurd h
send_all-end placement (receiver ∷ receivers) rows gave [] after h ends = absurd h
send_all-end placement (receiver ∷ receivers) rows gave (one ∷ outs) [] h ends = absurd ends
send_all-end placement (receiver ∷ receivers) rows gave (one ∷ outs) (now ∷ after) h ends =
    (sends-end placement receiver rows gave one now h.0 ends.0, h.1, send_all-end placement receivers rows gave outs after h.2 ends.1)

-- ---- batches go on

-- at this place batches were sent
pub send_all-sent : (placement : Placement) (receivers : List ℕ) (output : Output) (outs : List Downstream) (j : ℕ) (d out : Downstream)
    → j < length outs → Forwards (get_or outs j d).link out.link
    → SendAll placement receivers output outs → SendAll placement receivers output (set outs j (record (get_or outs j d) { link = out.link }))
unfolding SendAll
send_all-sent placement [] output [] j d out less sends h = absurd (omega arith)
send_all-sent placement [] output (one ∷ outs) j d out less sends h = absurd h
send_all-sent placement (receiver ∷ receivers) output [] j d out less sends h = absurd h
send_all-sent placement (receiver ∷ receivers) output (one ∷ outs) zero d out less sends h = (
  record {
    to = h.0.to;
    batch_size = ap (λ (o : Outgoing). o.batch_size) sends.only ∙ h.0.batch_size;
    over = ap (λ (o : Outgoing). o.ended) sends.only ∙ h.0.over;
    carries = carries-forwards one.link out.link (output.gave receiver) (stream_to placement receiver output.rows) sends h.0.carries;
  },
  h.1,
  h.2,
)
send_all-sent placement (receiver ∷ receivers) output (one ∷ outs) (suc j) d out less sends h =
    (h.0, h.1, send_all-sent placement receivers output outs j d out (omega arith) sends h.2)
