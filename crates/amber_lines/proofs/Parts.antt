-- The entries of a worker among the parts of a leg.
use Rattle.std.proofs.Common.{◌≡◌, ℕ, ◌+◌, ◌<◌, eqb, List, [], ◌∷◌, ◌++◌, length, Bool, true, false, ◌⊎◌, inl, inr, refl, sym, ap, ◌∙◌, arith}
use Rattle.std.specs.Prelude.{filter}
use Rattle.std.specs.List.{flat_map, list_any}
use Rattle.std.proofs.lemmas.Bool.{eq-eqb, eqb-true, false≢true, ne_eqb, or_cases, or_left, or_right}
use Rattle.std.proofs.lemmas.List.{append-nil}
use Rattle.std.proofs.lemmas.List.Concat.{flat_map-append}
use Rattle.std.proofs.lemmas.List.Elements.{filter-append}
use Rattle.std.proofs.lemmas.List.Folds.{list_any-append}
use Rattle.amber_rows.specs.Topology.{crew_of}
use Rattle.amber_log.specs.Grammar.{AreEntries, AreParts, IsPart, is_go}
use Rattle.amber_log.specs.declared.entry.Entry.{Entry}
use Rattle.amber_log.specs.declared.leg.Part.{Part}
use Rattle.amber_meaning.specs.Legal.{AreKnown, Query, entries_of}

abbrev pub part : ℕ → List Entry → Part
part worker entries = record { worker = worker; entries = entries }

-- ---- entries

pub entries-append : (xs ys : List Part) (worker : ℕ) → entries_of (xs ++ ys) worker ≡ entries_of xs worker ++ entries_of ys worker
unfolding entries_of
entries-append xs ys worker =
    ap (flat_map (λ (one : Part). one.entries)) (filter-append (λ (one : Part). eqb one.worker worker) xs ys)
    ∙ flat_map-append (λ (one : Part). one.entries) (filter (λ (one : Part). eqb one.worker worker) xs) (filter (λ (one : Part). eqb one.worker worker) ys)

-- its own part, before others
pub entries-first : (worker : ℕ) (entries : List Entry) (parts : List Part) → entries_of (part worker entries ∷ parts) worker ≡ entries ++ entries_of parts worker
unfolding entries_of
entries-first worker entries parts = rw (eq-eqb worker worker refl) refl

-- another's part
pub entries-skip : (worker other : ℕ) (entries : List Entry) (parts : List Part) → (other ≡ worker → ⊥) → entries_of (part worker entries ∷ parts) other ≡ entries_of parts other
unfolding entries_of
entries-skip worker other entries parts apart = rw (ne_eqb worker other (λ e. apart (sym e))) refl

pub entries-none : (worker : ℕ) → entries_of [] worker ≡ []
unfolding entries_of
entries-none worker = refl

pub entries-last : (before : List Part) (worker : ℕ) (entries : List Entry) → entries_of (before ++ part worker entries ∷ []) worker ≡ entries_of before worker ++ entries
entries-last before worker entries =
    entries-append before (part worker entries ∷ []) worker
    ∙ ap (λ (l : List Entry). entries_of before worker ++ l) (entries-first worker entries [] ∙ ap (λ (l : List Entry). entries ++ l) (entries-none worker) ∙ append-nil entries)

pub entries-else : (before : List Part) (worker other : ℕ) (entries : List Entry) → (other ≡ worker → ⊥)
    → entries_of (before ++ part worker entries ∷ []) other ≡ entries_of before other
entries-else before worker other entries apart =
    entries-append before (part worker entries ∷ []) other
    ∙ ap (λ (l : List Entry). entries_of before other ++ l) (entries-skip worker other entries [] apart ∙ entries-none other) ∙ append-nil (entries_of before other)

-- workers below the parts have none
pub entries-below : (least worker : ℕ) (parts : List Part) → AreParts least parts → worker < least → entries_of parts worker ≡ []
unfolding AreParts
entries-below least worker [] h less = entries-none worker
entries-below least worker (one ∷ parts) h less =
    let above = h.0 in
    entries-skip one.worker worker one.entries parts (λ e. omega arith) ∙ entries-below (one.worker + 1) worker parts h.2 (omega arith)

-- ---- parts

pub AreParts-front : (least : ℕ) (xs ys : List Part) → AreParts least (xs ++ ys) → AreParts least xs
unfolding AreParts
AreParts-front least [] ys h = tt
AreParts-front least (one ∷ xs) ys h = (h.0, h.1, AreParts-front (one.worker + 1) xs ys h.2)

AreEntries-front : (gone : Bool) (xs ys : List Entry) → AreEntries gone (xs ++ ys) → AreEntries gone xs
unfolding AreEntries
AreEntries-front gone [] ys h = tt
AreEntries-front gone (one ∷ xs) ys h = (h.0, h.1, AreEntries-front (is_go one) xs ys h.2)

-- the last part with its first entries
pub AreParts-shorter : (least : ℕ) (before : List Part) (worker : ℕ) (entries more : List Entry) → 0 < length entries
    → AreParts least (before ++ part worker (entries ++ more) ∷ []) → AreParts least (before ++ part worker entries ∷ [])
unfolding AreParts
AreParts-shorter least [] worker entries more some h =
    (h.0, record { worker = h.1.worker; some = some; entries = AreEntries-front false entries more h.1.entries }, tt)
AreParts-shorter least (one ∷ before) worker entries more some h = (h.0, h.1, AreParts-shorter (one.worker + 1) before worker entries more some h.2)

pub AreParts-last : (least : ℕ) (before : List Part) (one : Part) → AreParts least (before ++ one ∷ []) → IsPart one
unfolding AreParts
AreParts-last least [] one h = h.1
AreParts-last least (first ∷ before) one h = AreParts-last (first.worker + 1) before one h.2

-- ---- known workers

pub known-push : (query : Query) (before : List Part) (worker : ℕ) (entries : List Entry) → AreKnown query before → worker < crew_of query.flow
    → AreKnown query (before ++ part worker entries ∷ [])
known-push query before worker entries known less other h =
    by (or_cases _ _ (sym (list_any-append (λ (one : Part). eqb one.worker other) before (part worker entries ∷ [])) ∙ h))
  where
    last : (eqb worker other ≡ true) ⊎ (false ≡ true) → other < crew_of query.flow
    last (inl same) = let e = eqb-true worker other same in omega arith
    last (inr none) = absurd (false≢true none)

    by : (list_any (λ (one : Part). eqb one.worker other) before ≡ true) ⊎ (list_any (λ (one : Part). eqb one.worker other) (part worker entries ∷ []) ≡ true)
        → other < crew_of query.flow
    by (inl there) = known other there
    by (inr here) = last (or_cases (eqb worker other) false here)

pub known-front : (query : Query) (xs ys : List Part) → AreKnown query (xs ++ ys) → AreKnown query xs
known-front query xs ys known other h =
    known other (list_any-append (λ (one : Part). eqb one.worker other) xs ys ∙ or_left _ _ h)

pub known-first : (query : Query) (one : Part) (parts : List Part) → AreKnown query (one ∷ parts) → one.worker < crew_of query.flow
known-first query one parts known = known one.worker (or_left _ _ (eq-eqb one.worker one.worker refl))

pub known-later : (query : Query) (one : Part) (parts : List Part) → AreKnown query (one ∷ parts) → AreKnown query parts
known-later query one parts known other h = known other (or_right _ _ h)
