-- The table of the places as the row that came last is forgotten.
use Rattle.std.proofs.Common.{◌≡◌, ℕ, ◌+◌, ◌<◌, ◌↔◌, ◌||◌, Bool, true, false, cond, List, [], ◌∷◌, ◌++◌, length, Option, Some, None, IfNone, IsSome, is_some, option_to_list, slice_get, refl, sym, ap, subst, ◌∙◌, arith, length-append}
use Rattle.std.specs.List.{list_any, IsDistinct}
use Rattle.std.specs.Map.{keys_of, lookup, values_of}
use Rattle.std.proofs.lemmas.Bool.{false≢true}
use Rattle.std.proofs.lemmas.List.{append-nil, same_from_push}
use Rattle.amber_keys.specs.KeyTable.{set_value_at}
use Rattle.amber_rows.specs.Operators.{first_keys, pick_cells, same_row}
use Rattle.amber_rows.specs.declared.value.Value.{Value}
use Rattle.amber_keys.specs.Tables.{among, replaced}
use Rattle.amber_keys.proofs.FirstKeys.{among-first_keys}
use Rattle.amber_keys.proofs.Tables.{cond_none, entries-known, entries-new, entries-replaced, lookup-at, lookup-entries, replaced-twice, set-at, set-same}
use Rattle.amber_join.specs.Places.{places_from, places_of, table_of}
use Rattle.amber_join.proofs.PlaceTables.{agree, own, places-none}

abbrev Row : Type 0
Row = List Value

any_by : {A : Type 0} (test : A → Bool) (n : ℕ) (x : A) (xs : List A) (t : Bool) → test x ≡ t → (places_from test (n + 1) xs ≡ [] → list_any test xs ≡ false)
    → places_from test n (x ∷ xs) ≡ [] → (t || list_any test xs) ≡ false
unfolding places_from
any_by test n x xs true e rest none = let some = rw e at none in absurd (cc)
any_by test n x xs false e rest none = rest (rw e at none)

-- where there is no place none passes
any-none : {A : Type 0} (test : A → Bool) (n : ℕ) (xs : List A) → places_from test n xs ≡ [] → list_any test xs ≡ false
unfolding places_from
any-none test n [] none = refl
any-none test n (x ∷ xs) none = any_by test n x xs (test x) refl (any-none test (n + 1) xs) none

no-push : {A : Type 0} (xs : List A) (x : A) → xs ++ x ∷ [] ≡ [] → ⊥
no-push xs x e = let long = ap length e in absurd (omega (arith, long, length-append xs (x ∷ [])))

some_by : {A : Type 0} (t : Bool) (x y : A) → cond t (Some x) None ≡ Some y → y ≡ x
some_by true x y e = cc
some_by false x y e = absurd (cc)

true_unless : (t : Bool) → (t ≡ false → ⊥) → t ≡ true
true_unless true h = refl
true_unless false h = absurd (h refl)

-- of one place more there are those before it
nothing_before : (before : List ℕ) (last : ℕ) → length (before ++ last ∷ []) ≡ 1 → before ≡ []
nothing_before [] last e = refl
nothing_before (place ∷ before) last e = absurd (omega (arith, e, length-append before (last ∷ [])))

-- what comes last is what was taken off
last_goes : {A : Type 0} (before after all : List A) (x : A) (last : Option A) → all ≡ before ++ x ∷ [] → all ≡ after ++ option_to_list last → (IsSome last ↔ (0 < length all)) → after ≡ before
last_goes before after all x (Some y) is parts some = sym (same_from_push before after x y (sym is ∙ parts)).0
last_goes before after all x None is parts some =
    let long = ap length is in
    absurd (false≢true (some.1 (omega (arith, long, length-append before (x ∷ [])))))

module _ (keys : List ℕ) (rows : List Row) (row : Row) (entries : List (Row × List ℕ)) (is : entries ≡ table_of keys (rows ++ row ∷ [])) where
  absent : places_of keys rows (pick_cells keys row) ≡ [] → among (pick_cells keys row) (first_keys keys rows) ≡ false
  absent none = among-first_keys keys rows (pick_cells keys row) ∙ any-none (λ other. same_row (pick_cells keys other) (pick_cells keys row)) 0 rows none

  none_of : among (pick_cells keys row) (first_keys keys rows) ≡ false → places_of keys rows (pick_cells keys row) ≡ []
  none_of gone = places-none (λ other. same_row (pick_cells keys other) (pick_cells keys row)) 0 rows (sym (among-first_keys keys rows (pick_cells keys row)) ∙ gone)

  -- the key of the row is there
  pub is-told : lookup (same_row (pick_cells keys row)) entries ≡ None → ⊥
  unfolding table_of
  is-told none =
      let k = pick_cells keys row in
      let all = rows ++ row ∷ [] in
      let gone : among k (first_keys keys all) ≡ false = cond_none (among k (first_keys keys all)) _ (sym (lookup-entries (places_of keys all) k (first_keys keys all)) ∙ ap (lookup (same_row k)) (sym is) ∙ none) in
      no-push (places_of keys rows k) (length rows)
      (sym (own keys rows row) ∙ places-none (λ other. same_row (pick_cells keys other) k) 0 all (sym (among-first_keys keys all k) ∙ gone))

  module _ (place : ℕ) (found : List ℕ) (distinct : IsDistinct same_row (keys_of entries)) (here : slice_get (keys_of entries) place ≡ Some (pick_cells keys row))
      (at : slice_get (values_of entries) place ≡ Some found) where
    -- it has the places that it had before, and that of the row
    places-are : found ≡ places_of keys rows (pick_cells keys row) ++ length rows ∷ []
    unfolding table_of
    places-are =
        let k = pick_cells keys row in
        let all = rows ++ row ∷ [] in
        some_by (among k (first_keys keys all)) (places_of keys all k) found
        (sym (lookup-entries (places_of keys all) k (first_keys keys all)) ∙ ap (lookup (same_row k)) (sym is) ∙ lookup-at k entries place distinct here ∙ at)
        ∙ own keys rows row

    -- it had others before
    fewer : (left : List ℕ) (last : ℕ) → found ≡ left ++ last ∷ [] → 0 < length left → set_value_at entries place left ≡ table_of keys rows
    unfolding table_of
    fewer left last parts some =
        let k = pick_cells keys row in
        let ks = first_keys keys rows in
        let f = places_of keys rows in
        let all = rows ++ row ∷ [] in
        let same : f k ≡ left = (same_from_push (f k) left (length rows) last (sym places-are ∙ parts)).0 in
        let there : among k ks ≡ true = true_unless (among k ks) (λ gone. let none : left ≡ [] = sym same ∙ none_of gone in let short = ap length none in absurd (omega (arith, short, some))) in
        let was : lookup (same_row k) (table_of keys rows) ≡ Some (f k) = lookup-entries f k ks ∙ ap (λ t. cond t (Some (f k)) None) there in
        let grown : replaced k (places_of keys all k) (table_of keys rows) ≡ entries =
        entries-known (places_of keys) keys rows row (agree keys rows row) (table_of keys rows) refl (f k) (places_of keys all k) was (λ e. refl) ∙ sym is in
        set-at k left entries place distinct here
        ∙ ap (replaced k left) (sym grown)
        ∙ replaced-twice k (places_of keys all k) left (table_of keys rows)
        ∙ sym (entries-replaced f f k left (λ x e. refl) same ks)

    -- it had none
    without : (after : List (Row × List ℕ)) (last : Option (Row × List ℕ)) → length found ≡ 1 → set_value_at entries place found ≡ after ++ option_to_list last
        → (IsSome last ↔ (0 < length (set_value_at entries place found))) → after ≡ table_of keys rows
    unfolding table_of
    without after last one parts some =
        let k = pick_cells keys row in
        let ks = first_keys keys rows in
        let f = places_of keys rows in
        let all = rows ++ row ∷ [] in
        let gone : among k ks ≡ false = absent (nothing_before (f k) (length rows) (sym (ap length places-are) ∙ one)) in
        let none : lookup (same_row k) (table_of keys rows) ≡ None = lookup-entries f k ks ∙ ap (λ t. cond t (Some (f k)) None) gone in
        let grown : table_of keys rows ++ (k, places_of keys all k) ∷ [] ≡ entries =
        entries-new (places_of keys) keys rows row (agree keys rows row) (table_of keys rows) refl (places_of keys all k) none (λ e. refl) ∙ sym is in
        let kept : set_value_at entries place found ≡ entries = set-same entries place found at in
        last_goes (table_of keys rows) after (set_value_at entries place found) (k, places_of keys all k) last (kept ∙ sym grown) parts some

    -- a place was taken away: the key keeps the others
    pub table-fewer : (left : List ℕ) (last : Option ℕ) → found ≡ left ++ option_to_list last → is_some last ≡ true → 0 < length left → set_value_at entries place left ≡ table_of keys rows
    table-fewer left None parts taken some = absurd (false≢true taken)
    table-fewer left (Some last) parts taken some = fewer left last parts some

    -- its only place was left: the key goes, and is the last one
    pub table-without : (left : List ℕ) (last : Option ℕ) → found ≡ left ++ option_to_list last → is_some last ≡ false → IfNone last (length left ≡ 1)
        → (after : List (Row × List ℕ)) (final : Option (Row × List ℕ)) → set_value_at entries place left ≡ after ++ option_to_list final
        → (IsSome final ↔ (0 < length (set_value_at entries place left))) → after ≡ table_of keys rows
    table-without left (Some last) parts taken one after final goes some = absurd (false≢true (sym taken))
    table-without left None parts taken one after final goes some =
        let same : found ≡ left = parts ∙ append-nil left in
        without after final (ap length same ∙ one) (ap (set_value_at entries place) same ∙ goes)
        (subst (λ ps. IsSome final ↔ (0 < length (set_value_at entries place ps))) (sym same) some)
