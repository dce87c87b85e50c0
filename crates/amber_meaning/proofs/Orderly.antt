-- What holds of batches that were taken in order, and how far what was handed and produced stays as more batches and rows are taken.
use Rattle.std.proofs.Common.{◌≡◌, ℕ, zero, suc, ◌+◌, ◌<◌, ◌≤◌, eqb, List, [], ◌∷◌, ◌++◌, length, map, replicate, Bool, true, false, if◌then◌else◌, ◌⊎◌, inl, inr, refl, sym, ap, ◌∙◌, arith, append_assoc, length-append}
use Rattle.std.specs.Prelude.{filter}
use Rattle.std.specs.List.{flat_map, list_any}
use Rattle.std.proofs.lemmas.Bool.{and_from, and_parts, eqb-true, false≢true, false_from_ne_true, or_cases, or_left}
use Rattle.std.proofs.lemmas.List.{append-nil}
use Rattle.std.proofs.lemmas.List.Concat.{flat_map-append}
use Rattle.std.proofs.lemmas.List.Folds.{list_any-append}
use Rattle.amber_rows.specs.Kinds.{is_scan}
use Rattle.amber_rows.specs.declared.value.Value.{Value}
use Rattle.amber_rows.specs.declared.batch.Batch.{Batch}
use Rattle.amber_rows.specs.declared.flow.What.{What}
use Rattle.amber_meaning.specs.Task.{Arrival, Role, Task}
use Rattle.amber_meaning.specs.Produce.{closing, produce, yields}
use Rattle.amber_meaning.specs.Position.{Taken, all_arrivals, arrivals_of, has_last, have_ended, is_complete, product, share_or, taken_from}
use Rattle.amber_meaning.proofs.OneState.{taken_from-push}

-- ---- lists of batches of which only the last may be marked

abbrev pub IsMarkedLast : List Batch → Type 0
IsMarkedLast [] = Unit {0}
IsMarkedLast (batch ∷ more) = (batch.last ≡ true → more ≡ []) × IsMarkedLast more

-- nothing follows a marked batch
pub marked-ends : (xs ys : List Batch) → IsMarkedLast (xs ++ ys) → list_any (λ batch. batch.last) xs ≡ true → ys ≡ []
marked-ends [] ys h e = absurd (false≢true e)
marked-ends (x ∷ []) ys h e = by (or_cases x.last _ e)
  where
    by : (x.last ≡ true) ⊎ (list_any (λ (batch : Batch). batch.last) [] ≡ true) → ys ≡ []
    by (inl here) = h.0 here
    by (inr there) = absurd (false≢true there)
marked-ends (x ∷ y ∷ xs) ys h e = by (or_cases x.last _ e) (marked-ends (y ∷ xs) ys h.1)
  where
    by : (x.last ≡ true) ⊎ (list_any (λ (batch : Batch). batch.last) (y ∷ xs) ≡ true) → (list_any (λ (batch : Batch). batch.last) (y ∷ xs) ≡ true → ys ≡ []) → ys ≡ []
    by (inl here) rest = let none = h.0 here in cc
    by (inr there) rest = rest there

pub none-before : {A : Type 0} (xs ys : List A) → xs ++ ys ≡ [] → xs ≡ []
none-before [] ys e = refl
none-before (x ∷ xs) ys e = cc

pub marked-front : (xs ys : List Batch) → IsMarkedLast (xs ++ ys) → IsMarkedLast xs
marked-front [] ys h = tt
marked-front (x ∷ xs) ys h = (λ e. none-before xs ys (h.0 e), marked-front xs ys h.1)

-- ---- what was taken

pub taken_from-append : (xs ys : List Taken) (sender : ℕ) → taken_from (xs ++ ys) sender ≡ taken_from xs sender ++ taken_from ys sender
unfolding taken_from
taken_from-append [] ys sender = refl
taken_from-append (one ∷ more) ys sender = by (eqb one.from sender) (taken_from-append more ys sender)
  where
    by : (b : Bool)
        → map (λ (t : Taken). t.batch) (filter (λ (t : Taken). eqb t.from sender) (more ++ ys))
        ≡ map (λ (t : Taken). t.batch) (filter (λ (t : Taken). eqb t.from sender) more) ++ map (λ (t : Taken). t.batch) (filter (λ (t : Taken). eqb t.from sender) ys)
        → map (λ (t : Taken). t.batch) (if b then one ∷ filter (λ (t : Taken). eqb t.from sender) (more ++ ys) else filter (λ (t : Taken). eqb t.from sender) (more ++ ys))
        ≡ map (λ (t : Taken). t.batch) (if b then one ∷ filter (λ (t : Taken). eqb t.from sender) more else filter (λ (t : Taken). eqb t.from sender) more) ++ map (λ (t : Taken). t.batch) (filter (λ (t : Taken). eqb t.from sender) ys)
    by true e = ap (λ l. one.batch ∷ l) e
    by false e = e

pub has_last-more : (xs ys : List Taken) (sender : ℕ) → has_last xs sender ≡ true → has_last (xs ++ ys) sender ≡ true
has_last-more xs ys sender e =
    rw (taken_from-append xs ys sender, list_any-append (λ (batch : Batch). batch.last) (taken_from xs sender) (taken_from ys sender)) (or_left _ _ e)

pub have_ended-more : (senders : List ℕ) (xs ys : List Taken) → have_ended senders xs ≡ true → have_ended senders (xs ++ ys) ≡ true
unfolding have_ended
have_ended-more [] xs ys e = refl
have_ended-more (sender ∷ senders) xs ys e =
    let parts = and_parts (has_last xs sender) _ e in
    and_from _ _ (has_last-more xs ys sender parts.0) (have_ended-more senders xs ys parts.1)

-- only the last batch that was taken of a sender may be marked
abbrev pub IsOrderly : Role → List Taken → Type 0
IsOrderly role taken = (sender : ℕ) → list_any (λ one. eqb one sender) role.senders ≡ true → IsMarkedLast (taken_from taken sender)

-- whoever is taken from had not ended
pub not-ended : (role : Role) (taken : List Taken) (from : ℕ) (batch : Batch) → IsOrderly role (taken ++ record { from = from; batch = batch } ∷ [])
    → list_any (λ one. eqb one from) role.senders ≡ true → has_last taken from ≡ true → ⊥
not-ended role taken from batch orderly known e =
    let none = marked-ends (taken_from taken from) (batch ∷ []) (rw (taken_from-push taken from batch) at (orderly from known)) e in cc

-- ---- what was handed and produced

pub share_or-more : (kind : What) (share xs ys : List Arrival) → (more : List Arrival) × (share_or kind share (xs ++ ys) ≡ share_or kind share xs ++ more)
share_or-more kind share xs ys = by (is_scan kind)
  where
    by : (scan : Bool) → (more : List Arrival) × ((if scan then share else xs ++ ys) ≡ (if scan then share else xs) ++ more)
    by true = ([], sym (append-nil share))
    by false = (ys, refl)

pub fed-more : (role : Role) (xs ys : List Taken) → (more : List Arrival) × (all_arrivals role (xs ++ ys) ≡ all_arrivals role xs ++ more)
unfolding all_arrivals
fed-more role xs ys =
    let some = share_or-more role.task.kind role.share (flat_map arrivals_of xs) (flat_map arrivals_of ys) in
    (some.0, rw (flat_map-append arrivals_of xs ys) some.1)

pub produce-more : (task : Task) (before hs more : List Arrival) (ks : List (List Value)) → length ks ≤ length hs
    → produce task before (hs ++ more) ks ≡ produce task before hs ks
unfolding produce
produce-more task before [] [] ks h = refl
produce-more task before [] (m ∷ more) [] h = refl
produce-more task before [] (m ∷ more) (k ∷ ks) h = absurd (omega arith)
produce-more task before (x ∷ hs) more [] h = refl
produce-more task before (x ∷ hs) more (k ∷ ks) h =
    ap (λ l. yields task before x k ++ l) (produce-more task (before ++ x ∷ []) hs more ks (omega arith))

-- before the senders have ended nothing is produced at the end
pub product-before : (role : Role) (taken : List Taken) (ks : List (List Value)) → have_ended role.senders taken ≡ false
    → product role taken ks ≡ produce role.task [] (all_arrivals role taken) ks
unfolding product
product-before role taken ks e = rw e (append-nil _)

pub product-grows : (role : Role) (taken : List Taken) (t : Taken) (ks : List (List Value)) → length ks ≤ length (all_arrivals role taken)
    → have_ended role.senders taken ≡ false → length (product role taken ks) ≤ length (product role (taken ++ t ∷ []) ks)
unfolding product
product-grows role taken t ks within e =
    let more = fed-more role taken (t ∷ []) in
    rw (product-before role taken ks e, more.1, produce-more role.task [] (all_arrivals role taken) more.0 ks within)
    (rw (length-append (produce role.task [] (all_arrivals role taken) ks) _) (omega arith))

-- ---- as rows are taken, what was produced only grows

produce-later : (task : Task) (before hs : List Arrival) (ks later : List (List Value))
    → (more : List (List Value)) × (produce task before hs (ks ++ later) ≡ produce task before hs ks ++ more)
unfolding produce
produce-later task before [] ks later = ([], refl)
produce-later task before (one ∷ hs) [] later = (produce task before (one ∷ hs) later, refl)
produce-later task before (one ∷ hs) (k ∷ ks) later =
    let rest = produce-later task (before ++ one ∷ []) hs ks later in (
      rest.0,
      ap (λ (rows : List (List Value)). yields task before one k ++ rows) rest.1
          ∙ sym (append_assoc (yields task before one k) (produce task (before ++ one ∷ []) hs ks) rest.0),
    )

incomplete : (role : Role) (taken : List Taken) (rows : ℕ) → rows < length (all_arrivals role taken) → is_complete role taken rows ≡ false
incomplete role taken rows less =
    false_from_ne_true _ (λ e. let all = eqb-true rows (length (all_arrivals role taken)) ((and_parts _ _ e).1) in absurd (omega arith))

some-later : (role : Role) (taken : List Taken) (ks later : List (List Value)) → length ks < length (all_arrivals role taken)
    → (more : List (List Value)) × (product role taken (ks ++ later) ≡ product role taken ks ++ more)
unfolding product
some-later role taken ks later within =
    let all = ks ++ later in
    let rest = produce-later role.task [] (all_arrivals role taken) ks later in
    let closed : List (List Value) = if is_complete role taken (length all) then closing role.task (all_arrivals role taken) else [] in
    let early : product role taken ks ≡ produce role.task [] (all_arrivals role taken) ks =
    ap (λ (b : Bool). produce role.task [] (all_arrivals role taken) ks ++ (if b then closing role.task (all_arrivals role taken) else [])) (incomplete role taken (length ks) within)
    ∙ append-nil (produce role.task [] (all_arrivals role taken) ks) in (
      rest.0 ++ closed,
      ap (λ (rows : List (List Value)). rows ++ closed) rest.1
          ∙ append_assoc (produce role.task [] (all_arrivals role taken) ks) rest.0 closed
          ∙ ap (λ (rows : List (List Value)). rows ++ (rest.0 ++ closed)) (sym early),
    )

pub product-later : (role : Role) (taken : List Taken) (ks : List (List Value)) (n : ℕ) (now : List Value) → length ks + n ≤ length (all_arrivals role taken)
    → (more : List (List Value)) × (product role taken (ks ++ replicate n now) ≡ product role taken ks ++ more)
product-later role taken ks zero now within = ([], ap (product role taken) (append-nil ks) ∙ sym (append-nil (product role taken ks)))
product-later role taken ks (suc n) now within = some-later role taken ks (replicate (suc n) now) (omega arith)
