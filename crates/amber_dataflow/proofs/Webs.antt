-- Links are laid one after the other.
use Rattle.std.proofs.Common.{◌≡◌, ◌≢◌, refl, sym, ap, ◌∙◌, ℕ, zero, suc, ◌+◌, ◌<◌, List, [], ◌∷◌, ◌++◌, All, length, get_or, set, if◌then◌else◌, Bool, true, false, ◌⊎◌, inl, inr, subst, arith, length-set, replicate, get_or-set_same, get_or-set_other}
use Rattle.std.proofs.lemmas.Bool.{cases_lt, false≢true}
use Rattle.std.proofs.lemmas.Bool.Decides.{eqb_tells}
use Rattle.std.proofs.lemmas.List.{append-nil, get_or_append_left, get_or_push, length-replicate, length_push}
use Rattle.std.proofs.lemmas.List.Elements.{All-nil}
use Rattle.amber_rows.proofs.CrewFacts.{below-next, below-none}
use Rattle.rtrb.specs.Ring.{sent}
use Rattle.amber_link.specs.Links.{AreLinked}
use Rattle.amber_link.specs.Outgoing.{Outgoing}
use Rattle.amber_link.specs.declared.ends.Out.{Out}
use Rattle.amber_link.specs.declared.ends.In.{In}
use Rattle.amber_worker.specs.Made.{IsFreshIn, IsFreshOut}
use Rattle.amber_dataflow.specs.Start.{AreEnds, GivesEnd, GivesEnds, Places, Sending, Web, ends_at, from_whom, passing, to_whom}

-- ---- one element more

pub pushed-cases : {A : Type 0} (xs : List A) (x d : A) (k : ℕ) → k < length (xs ++ x ∷ [])
    → ((k < length xs) × (get_or (xs ++ x ∷ []) k d ≡ get_or xs k d)) ⊎ ((k ≡ length xs) × (get_or (xs ++ x ∷ []) k d ≡ x))
pushed-cases xs x d k below = elim (cases_lt k (length xs)) [
  | inl less ↦ inl (less, get_or_append_left xs (x ∷ []) d k less)
  | inr more ↦ (let all = length_push xs x in let same : k ≡ length xs = omega arith in inr (same, get_or_push xs x d k (sym same)))
]

pub all-pushed : {A : Type 0} (P : A → Type 0) (xs : List A) (x : A) → All P xs → P x → All P (xs ++ x ∷ [])
all-pushed P xs x before here k d below = elim (pushed-cases xs x d k below) [
  | inl earlier ↦ subst P (sym earlier.1) (before k d earlier.0)
  | inr last ↦ subst P (sym last.1) here
]

-- ---- numbers that pass a test

pub passing-yes : (test : ℕ → Bool) (n : ℕ) → test n ≡ true → passing test (n + 1) ≡ passing test n ++ n ∷ []
passing-yes test n passes = below-next test n ∙ ap (λ b. passing test n ++ (if b then n ∷ [] else [])) passes

pub passing-not : (test : ℕ → Bool) (n : ℕ) → test n ≡ false → passing test (n + 1) ≡ passing test n
passing-not test n fails = below-next test n ∙ ap (λ b. passing test n ++ (if b then n ∷ [] else [])) fails ∙ append-nil (passing test n)

below-more : (xs : List ℕ) (n k : ℕ) → ((i : ℕ) → i < length xs → get_or xs i 0 < n) → k < length (xs ++ n ∷ []) → get_or (xs ++ n ∷ []) k 0 < n + 1
below-more xs n k before below = elim (pushed-cases xs n 0 k below) [
  | inl earlier ↦ (let less = before k earlier.0 in let is = earlier.1 in omega arith)
  | inr last ↦ (let is = last.1 in omega arith)
]

passing-next : (test : ℕ → Bool) (n k : ℕ) (b : Bool) → test n ≡ b → ((i : ℕ) → i < length (passing test n) → get_or (passing test n) i 0 < n)
    → k < length (passing test (n + 1)) → get_or (passing test (n + 1)) k 0 < n + 1
passing-next test n k true passes before below =
    subst (λ xs. get_or xs k 0 < n + 1) (sym (passing-yes test n passes)) (below-more (passing test n) n k before (subst (λ xs. k < length xs) (passing-yes test n passes) below))
passing-next test n k false fails before below =
    let less : get_or (passing test n) k 0 < n = before k (subst (λ xs. k < length xs) (passing-not test n fails) below) in
    subst (λ xs. get_or xs k 0 < n + 1) (sym (passing-not test n fails)) (omega arith)

-- they are below the bound
pub passing-less : (test : ℕ → Bool) (n k : ℕ) → k < length (passing test n) → get_or (passing test n) k 0 < n
passing-less test zero k below = absurd (let none : length (passing test 0) ≡ 0 = ap length (below-none test) in omega arith)
passing-less test (suc n) k below =
    let next : n + 1 ≡ suc n = omega arith in
    subst (λ m. get_or (passing test m) k 0 < m) next
    (passing-next test n k (test n) refl (passing-less test n) (subst (λ m. k < length (passing test m)) (sym next) below))

-- ---- the links of one sender

pub fresh-out : (out : Out) (batch_size : ℕ) → sent out.ring ≡ [] → out.kept ≡ record { batch_size = batch_size; made = 0; ended = false; waiting = []; partial = []; room = 0 } → IsFreshOut batch_size out
fresh-out out batch_size none is =
    (none, is ∙ ap (λ (kept : Outgoing). record { batch_size = batch_size; made = 0; ended = false; waiting = []; partial = []; room = kept.room }) (sym is))

pub gives-none : (sends : ℕ → Bool) (batch_size : ℕ) (before : List (List In)) → GivesEnds (record { sends = sends; batch_size = batch_size; count = 0; before = before }) [] before
gives-none sends batch_size before = record {
  all = refl;
  each = sym (ap length (below-none sends));
  fresh = All-nil (IsFreshOut batch_size);
  beyond = λ receiver h. refl;
  without = λ receiver fails. refl;
  given = λ receiver less passes. absurd (omega arith);
}

module _ (s : Sending) (outs : List Out) (after : List (List In)) (gives : GivesEnds s outs after) where
  -- the next one is no receiver
  pub gives-not : s.sends s.count ≡ false → GivesEnds (record s { count = s.count + 1 }) outs after
  gives-not fails = record {
    all = gives.all;
    each = gives.each ∙ ap length (sym (passing-not s.sends s.count fails));
    fresh = gives.fresh;
    beyond = λ receiver h. gives.beyond receiver (omega arith);
    without = gives.without;
    given = given;
  }
    where
      same : passing s.sends (s.count + 1) ≡ passing s.sends s.count
      same = passing-not s.sends s.count fails

      earlier : (receiver : ℕ) → GivesEnd s outs after receiver → GivesEnd (record s { count = s.count + 1 }) outs after receiver
      earlier receiver old = record {
        into = old.into;
        is = old.is;
        fresh = old.fresh;
        linked = λ j d below at. old.linked j d below (ap (λ xs. get_or xs j 0) (sym same) ∙ at);
      }

      given : (receiver : ℕ) → receiver < s.count + 1 → s.sends receiver ≡ true → GivesEnd (record s { count = s.count + 1 }) outs after receiver
      given receiver less passes = elim (eqb_tells receiver s.count) [
        | inl here ↦ absurd (false≢true (sym fails ∙ ap s.sends (sym here.1) ∙ passes))
        | inr other ↦ (let ne = other.1 in earlier receiver (gives.given receiver (omega arith) passes))
      ]

  -- the next one is a receiver
  module _ (out : Out) (into : In) (passes : s.sends s.count ≡ true) (there : s.count < length after) (linked : AreLinked out into) where
    abbrev pub more_outs : List Out
    more_outs = outs ++ out ∷ []

    abbrev pub more_ins : List (List In)
    more_ins = set after s.count (ends_at after s.count ++ into ∷ [])

    abbrev pub next_sending : Sending
    next_sending = record s { count = s.count + 1 }

    named : passing s.sends (s.count + 1) ≡ passing s.sends s.count ++ s.count ∷ []
    named = passing-yes s.sends s.count passes

    others : (receiver : ℕ) → receiver ≢ s.count → ends_at more_ins receiver ≡ ends_at after receiver
    others receiver other = get_or-set_other after s.count receiver (ends_at after s.count ++ into ∷ []) [] other

    here-linked : (j : ℕ) (d : Out) → j < length more_outs → get_or (passing s.sends (s.count + 1)) j 0 ≡ s.count → AreLinked (get_or more_outs j d) into
    here-linked j d below at = elim (pushed-cases outs out d j below) [
      | inl earlier ↦ (let less = passing-less s.sends s.count j (subst (λ n. j < n) gives.each earlier.0) in
          let is = get_or_append_left (passing s.sends s.count) (s.count ∷ []) 0 j (subst (λ n. j < n) gives.each earlier.0) in
          let so : get_or (passing s.sends s.count) j 0 ≡ s.count = sym is ∙ ap (λ xs. get_or xs j 0) (sym named) ∙ at in absurd (omega arith))
      | inr last ↦ subst (λ (o : Out). AreLinked o into) (sym last.1) linked
    ]

    module _ (receiver : ℕ) (less : receiver < s.count) (old : GivesEnd s outs after receiver) where
      earlier-linked : (j : ℕ) (d : Out) → j < length more_outs → get_or (passing s.sends (s.count + 1)) j 0 ≡ receiver → AreLinked (get_or more_outs j d) old.into
      earlier-linked j d below at = elim (pushed-cases outs out d j below) [
        | inl earlier ↦ (let is = get_or_append_left (passing s.sends s.count) (s.count ∷ []) 0 j (subst (λ n. j < n) gives.each earlier.0) in
            subst (λ (o : Out). AreLinked o old.into) (sym earlier.1) (old.linked j d earlier.0 (sym is ∙ ap (λ xs. get_or xs j 0) (sym named) ∙ at)))
        | inr last ↦ (let is = get_or_push (passing s.sends s.count) s.count 0 j (sym gives.each ∙ sym last.0) in
            let so : s.count ≡ receiver = sym is ∙ ap (λ xs. get_or xs j 0) (sym named) ∙ at in absurd (omega arith))
      ]

      earlier-gives : GivesEnd next_sending more_outs more_ins receiver
      earlier-gives = record {
        into = old.into;
        is = others receiver (λ same. omega arith) ∙ old.is;
        fresh = old.fresh;
        linked = earlier-linked;
      }

    pub gives-more : IsFreshOut s.batch_size out → IsFreshIn into → GivesEnds next_sending more_outs more_ins
    gives-more fresh_out fresh_in = record {
      all = length-set after s.count (ends_at after s.count ++ into ∷ []) ∙ gives.all;
      each = length_push outs out ∙ ap (λ n. n + 1) gives.each ∙ sym (length_push (passing s.sends s.count) s.count) ∙ sym (ap length named);
      fresh = all-pushed (IsFreshOut s.batch_size) outs out gives.fresh fresh_out;
      beyond = λ receiver h. others receiver (λ same. omega arith) ∙ gives.beyond receiver (omega arith);
      without = λ receiver fails. others receiver (λ same. false≢true (sym fails ∙ ap s.sends same ∙ passes)) ∙ gives.without receiver fails;
      given = given;
    }
      where
        given : (receiver : ℕ) → receiver < s.count + 1 → s.sends receiver ≡ true → GivesEnd next_sending more_outs more_ins receiver
        given receiver less sent = elim (eqb_tells receiver s.count) [
          | inl here ↦ subst (GivesEnd next_sending more_outs more_ins) (sym here.1) (record {
            into = into;
            is = get_or-set_same after s.count (ends_at after s.count ++ into ∷ []) [] there ∙ ap (λ l. l ++ into ∷ []) (gives.beyond s.count (omega arith));
            fresh = fresh_in;
            linked = here-linked;
          })
          | inr other ↦ (let ne = other.1 in
              let before : receiver < s.count = omega arith in earlier-gives receiver before (gives.given receiver before sent))
        ]

-- ---- the links of all

abbrev no_ins : List In
no_ins = []

replicate-at : (n k : ℕ) → get_or (replicate n no_ins) k [] ≡ []
replicate-at zero k = refl
replicate-at (suc n) zero = refl
replicate-at (suc n) (suc k) = replicate-at n k

pub ends-none : (sends : ℕ → ℕ → Bool) (batch_size receivers : ℕ) → AreEnds (record { sends = sends; batch_size = batch_size; senders = 0; receivers = receivers }) [] (replicate receivers [])
ends-none sends batch_size receivers = record {
  all_outs = refl;
  all_ins = length-replicate receivers [];
  outs = λ sender less. absurd (omega arith);
  ins = λ receiver less. ap length (replicate-at receivers receiver) ∙ sym (ap length (below-none (λ sender. sends sender receiver)));
  fresh_outs = λ sender less. absurd (omega arith);
  fresh_ins = λ receiver less. subst (All IsFreshIn) (sym (replicate-at receivers receiver)) (All-nil IsFreshIn);
  linked = λ sender receiver places out into. absurd (let less = places.sender_within in omega arith);
}

module _ (web : Web) (outs : List (List Out)) (ins : List (List In)) (ends : AreEnds web outs ins) (own : List Out) (after : List (List In))
    (gives : GivesEnds (record { sends = web.sends web.senders; batch_size = web.batch_size; count = web.receivers; before = ins }) own after) where
  abbrev pub next_web : Web
  next_web = record web { senders = web.senders + 1 }

  own-at : ends_at (outs ++ own ∷ []) web.senders ≡ own
  own-at = get_or_push outs own [] web.senders ends.all_outs

  outs-before : (sender : ℕ) → sender < web.senders → ends_at (outs ++ own ∷ []) sender ≡ ends_at outs sender
  outs-before sender less = get_or_append_left outs (own ∷ []) [] sender (subst (λ n. sender < n) (sym ends.all_outs) less)

  abbrev Sends : ℕ → ℕ → Bool
  Sends receiver sender = web.sends sender receiver

  counted : (receiver : ℕ) → receiver < web.receivers → (b : Bool) → web.sends web.senders receiver ≡ b → length (ends_at after receiver) ≡ length (from_whom next_web receiver)
  counted receiver less true passes =
      ap length (gives.given receiver less passes).is ∙ length_push (ends_at ins receiver) (gives.given receiver less passes).into ∙ ap (λ n. n + 1) (ends.ins receiver less)
      ∙ sym (length_push (from_whom web receiver) web.senders) ∙ sym (ap length (passing-yes (Sends receiver) web.senders passes))
  counted receiver less false fails =
      ap length (gives.without receiver fails) ∙ ends.ins receiver less ∙ sym (ap length (passing-not (Sends receiver) web.senders fails))

  fresh : (receiver : ℕ) → receiver < web.receivers → (b : Bool) → web.sends web.senders receiver ≡ b → All IsFreshIn (ends_at after receiver)
  fresh receiver less true passes =
      subst (All IsFreshIn) (sym (gives.given receiver less passes).is)
      (all-pushed IsFreshIn (ends_at ins receiver) (gives.given receiver less passes).into (ends.fresh_ins receiver less) (gives.given receiver less passes).fresh)
  fresh receiver less false fails = subst (All IsFreshIn) (sym (gives.without receiver fails)) (ends.fresh_ins receiver less)

  abbrev Linked : (sender receiver j k : ℕ) → Type 0
  Linked sender receiver j k = (out : Out) (into : In) → AreLinked (get_or (ends_at (outs ++ own ∷ []) sender) j out) (get_or (ends_at after receiver) k into)

  -- an earlier sender, of a receiver at an earlier place
  old-linked : (sender receiver : ℕ) (at : Places web sender receiver) → sender < web.senders
      → ((d : In) → get_or (ends_at after receiver) at.k d ≡ get_or (ends_at ins receiver) at.k d) → Linked sender receiver at.j at.k
  old-linked sender receiver at less same out into =
      subst (λ (l : List Out). AreLinked (get_or l at.j out) (get_or (ends_at after receiver) at.k into)) (sym (outs-before sender less))
      (subst (λ (i : In). AreLinked (get_or (ends_at outs sender) at.j out) i) (sym (same into)) (ends.linked sender receiver at out into))

  earlier : (sender receiver : ℕ) (at : Places next_web sender receiver) → sender < web.senders → (b : Bool) → web.sends web.senders receiver ≡ b → Linked sender receiver at.j at.k
  earlier sender receiver at less false fails =
      let same = passing-not (Sends receiver) web.senders fails in
      old-linked sender receiver (record {
        j = at.j;
        k = at.k;
        sender_within = less;
        receiver_within = at.receiver_within;
        j_within = at.j_within;
        k_within = subst (λ xs. at.k < length xs) same at.k_within;
        to = at.to;
        from = ap (λ xs. get_or xs at.k 0) (sym same) ∙ at.from;
      }) less (λ d. ap (λ l. get_or l at.k d) (gives.without receiver fails))
  earlier sender receiver at less true passes =
      let g = gives.given receiver at.receiver_within passes in
      let same = passing-yes (Sends receiver) web.senders passes in
      elim (pushed-cases (from_whom web receiver) web.senders 0 at.k (subst (λ xs. at.k < length xs) same at.k_within)) [
        | inl before ↦ old-linked sender receiver (record {
          j = at.j;
          k = at.k;
          sender_within = less;
          receiver_within = at.receiver_within;
          j_within = at.j_within;
          k_within = before.0;
          to = at.to;
          from = sym before.1 ∙ ap (λ xs. get_or xs at.k 0) (sym same) ∙ at.from;
        }) less (λ d. ap (λ l. get_or l at.k d) g.is ∙ get_or_append_left (ends_at ins receiver) (g.into ∷ []) d at.k (subst (λ n. at.k < n) (sym (ends.ins receiver at.receiver_within)) before.0))
        | inr last ↦ (let so : web.senders ≡ sender = sym last.1 ∙ ap (λ xs. get_or xs at.k 0) (sym same) ∙ at.from in absurd (omega arith))
      ]

  -- the new sender
  newest : (receiver : ℕ) (at : Places next_web web.senders receiver) → (b : Bool) → web.sends web.senders receiver ≡ b → Linked web.senders receiver at.j at.k
  newest receiver at false fails =
      let same = passing-not (Sends receiver) web.senders fails in
      let below = passing-less (Sends receiver) web.senders at.k (subst (λ xs. at.k < length xs) same at.k_within) in
      let so : get_or (passing (Sends receiver) web.senders) at.k 0 ≡ web.senders = ap (λ xs. get_or xs at.k 0) (sym same) ∙ at.from in absurd (omega arith)
  newest receiver at true passes =
      let g = gives.given receiver at.receiver_within passes in
      let same = passing-yes (Sends receiver) web.senders passes in
      elim (pushed-cases (from_whom web receiver) web.senders 0 at.k (subst (λ xs. at.k < length xs) same at.k_within)) [
        | inl before ↦ (let below = passing-less (Sends receiver) web.senders at.k before.0 in
            let so : get_or (from_whom web receiver) at.k 0 ≡ web.senders = sym before.1 ∙ ap (λ xs. get_or xs at.k 0) (sym same) ∙ at.from in absurd (omega arith))
        | inr last ↦ (λ out into.
            let is : get_or (ends_at after receiver) at.k into ≡ g.into = ap (λ l. get_or l at.k into) g.is
            ∙ get_or_push (ends_at ins receiver) g.into into at.k (ends.ins receiver at.receiver_within ∙ sym last.0) in
            subst (λ (l : List Out). AreLinked (get_or l at.j out) (get_or (ends_at after receiver) at.k into)) (sym own-at)
            (subst (λ (i : In). AreLinked (get_or own at.j out) i) (sym is) (g.linked at.j out (subst (λ n. at.j < n) (sym gives.each) at.j_within) at.to)))
      ]

  pub ends-more : AreEnds next_web (outs ++ own ∷ []) after
  ends-more = record {
    all_outs = length_push outs own ∙ ap (λ n. n + 1) ends.all_outs;
    all_ins = gives.all ∙ ends.all_ins;
    outs = λ sender less. elim (eqb_tells sender web.senders) [
      | inl here ↦ subst (λ n. length (ends_at (outs ++ own ∷ []) n) ≡ length (to_whom web n)) (sym here.1) (ap length own-at ∙ gives.each)
      | inr other ↦ (let ne = other.1 in let before : sender < web.senders = omega arith in ap length (outs-before sender before) ∙ ends.outs sender before)
    ];
    ins = λ receiver less. counted receiver less (web.sends web.senders receiver) refl;
    fresh_outs = λ sender less. elim (eqb_tells sender web.senders) [
      | inl here ↦ subst (λ n. All (IsFreshOut web.batch_size) (ends_at (outs ++ own ∷ []) n)) (sym here.1) (subst (All (IsFreshOut web.batch_size)) (sym own-at) gives.fresh)
      | inr other ↦ (let ne = other.1 in let before : sender < web.senders = omega arith in
          subst (All (IsFreshOut web.batch_size)) (sym (outs-before sender before)) (ends.fresh_outs sender before))
    ];
    fresh_ins = λ receiver less. fresh receiver less (web.sends web.senders receiver) refl;
    linked = linked;
  }
    where
      linked : (sender receiver : ℕ) (at : Places next_web sender receiver) → (out : Out) (into : In)
          → AreLinked (get_or (ends_at (outs ++ own ∷ []) sender) at.j out) (get_or (ends_at after receiver) at.k into)
      linked sender receiver at out into = elim (eqb_tells sender web.senders) [
        | inl here ↦ subst (λ n. (own_at : Places next_web n receiver) → (o : Out) (i : In)
            → AreLinked (get_or (ends_at (outs ++ own ∷ []) n) own_at.j o) (get_or (ends_at after receiver) own_at.k i)) (sym here.1)
            (λ own_at. newest receiver own_at (web.sends web.senders receiver) refl) at out into
        | inr other ↦ (let ne = other.1 in let within = at.sender_within in
            earlier sender receiver at (omega arith) (web.sends web.senders receiver) refl out into)
      ]
