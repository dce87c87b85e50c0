-- Entries of keys, as what one of them stands for changes or a new one comes.
use Rattle.std.proofs.Common.{◌≡◌, ℕ, zero, suc, ◌||◌, Bool, true, false, cond, List, [], ◌∷◌, ◌++◌, Option, Some, None, is_some, slice_get, refl, sym, ap, subst, ◌∙◌}
use Rattle.std.specs.List.{AllByRecursion, IsDistinct}
use Rattle.std.specs.Map.{keys_of, lookup, values_of}
use Rattle.std.proofs.lemmas.List.{map-append}
use Rattle.indexmap.specs.IndexMap.{set_value_at}
use Rattle.amber_rows.specs.Operators.{first_keys, pick_cells, same_row}
use Rattle.amber_rows.specs.declared.value.Value.{Value}
use Rattle.amber_keys.specs.Tables.{among, replaced, table_entries}
use Rattle.amber_keys.proofs.FirstKeys.{first_keys-push}
use Rattle.amber_keys.specs.SameRows.{same-is, same-itself, same-swap}

abbrev Row : Type 0
Row = List Value

apart_by : (k x : Row) (xs : List Row) (t : Bool) → same_row x k ≡ t → (t || among k xs) ≡ false → (among k xs ≡ false → AllByRecursion (λ z. same_row k z ≡ false) xs)
    → AllByRecursion (λ z. same_row k z ≡ false) (x ∷ xs)
apart_by k x xs true p q rest = absurd (cc)
apart_by k x xs false p q rest = (same-swap k x ∙ p, rest q)

apart : (k : Row) (xs : List Row) → among k xs ≡ false → AllByRecursion (λ z. same_row k z ≡ false) xs
apart k [] h = tt
apart k (x ∷ xs) h = apart_by k x xs (same_row x k) refl h (apart k xs)

cond_some : {A : Type 0} (t : Bool) (x y : A) → cond t (Some x) None ≡ Some y → (t ≡ true) × (y ≡ x)
cond_some true x y e = (refl, cc)
cond_some false x y e = absurd (cc)

pub cond_none : {A : Type 0} (t : Bool) (x : A) → cond t (Some x) None ≡ None → t ≡ false
cond_none true x e = absurd (cc)
cond_none false x e = refl

differs-at : (x key : Row) (ks : List Row) (place : ℕ) → AllByRecursion (λ y. same_row x y ≡ false) ks → slice_get ks place ≡ Some key → same_row x key ≡ false
differs-at x key [] place later here = absurd (cc)
differs-at x key (y ∷ ks) zero later here = let same : y ≡ key = cc in ap (same_row x) (sym same) ∙ later.0
differs-at x key (y ∷ ks) (suc place) later here = differs-at x key ks place later.1 here

module _ {A : Type 0} where
  lookup_by : (f : Row → A) (k x : Row) (xs : List Row) (t : Bool) → same_row x k ≡ t → lookup (same_row k) (table_entries f xs) ≡ cond (among k xs) (Some (f k)) None
      → lookup (same_row k) (table_entries f (x ∷ xs)) ≡ cond (among k (x ∷ xs)) (Some (f k)) None
  lookup_by f k x xs true e rest = rw (same-swap k x, e) (ap (λ z. Some (f z)) (same-is x k e))
  lookup_by f k x xs false e rest = rw (same-swap k x, e) rest

  -- a look-up finds what the key stands for, where the key is there
  pub lookup-entries : (f : Row → A) (k : Row) (ks : List Row) → lookup (same_row k) (table_entries f ks) ≡ cond (among k ks) (Some (f k)) None
  lookup-entries f k [] = refl
  lookup-entries f k (x ∷ xs) = lookup_by f k x xs (same_row x k) refl (lookup-entries f k xs)

  -- what stands beside keys that are not one key may be read off another function that agrees on the others
  entries-others : (f g : Row → A) (k : Row) → ((x : Row) → same_row k x ≡ false → g x ≡ f x) → (ks : List Row) → AllByRecursion (λ x. same_row k x ≡ false) ks
      → table_entries f ks ≡ table_entries g ks
  entries-others f g k agree [] h = refl
  entries-others f g k agree (x ∷ xs) h = λ i. (x, sym (agree x h.0) i) ∷ entries-others f g k agree xs h.1 i

  pub entries-absent : (f g : Row → A) (k : Row) → ((x : Row) → same_row k x ≡ false → g x ≡ f x) → (ks : List Row) → among k ks ≡ false → table_entries f ks ≡ table_entries g ks
  entries-absent f g k agree ks e = entries-others f g k agree ks (apart k ks e)

  -- a key that is not there goes last
  pub entries-last : (f g : Row → A) (k : Row) (new : A) → ((x : Row) → same_row k x ≡ false → g x ≡ f x) → g k ≡ new → (ks : List Row) → among k ks ≡ false
      → table_entries g (ks ++ k ∷ []) ≡ table_entries f ks ++ (k, new) ∷ []
  entries-last f g k new agree own ks e =
      map-append (λ key. (key, g key)) ks (k ∷ []) ∙ (λ i. sym (entries-absent f g k agree ks e) i ++ (k, own i) ∷ [])

  replaced_by : (f g : Row → A) (k : Row) (new : A) → ((x : Row) → same_row k x ≡ false → g x ≡ f x) → g k ≡ new → (x : Row) (t : Bool) → same_row k x ≡ t → cond t new (f x) ≡ g x
  replaced_by f g k new agree own x true e = sym own ∙ ap g (same-is k x e)
  replaced_by f g k new agree own x false e = sym (agree x e)

  -- a key that is there stands for another thing
  pub entries-replaced : (f g : Row → A) (k : Row) (new : A) → ((x : Row) → same_row k x ≡ false → g x ≡ f x) → g k ≡ new → (ks : List Row)
      → table_entries g ks ≡ replaced k new (table_entries f ks)
  entries-replaced f g k new agree own [] = refl
  entries-replaced f g k new agree own (x ∷ xs) =
      λ i. (x, sym (replaced_by f g k new agree own x (same_row k x) refl) i) ∷ entries-replaced f g k new agree own xs i

  twice_by : (old between new : A) (t : Bool) → cond t new (cond t between old) ≡ cond t new old
  twice_by old between new true = refl
  twice_by old between new false = refl

  -- of two things that take one place the second stands
  pub replaced-twice : (k : Row) (between new : A) (entries : List (Row × A)) → replaced k new (replaced k between entries) ≡ replaced k new entries
  replaced-twice k between new [] = refl
  replaced-twice k between new (entry ∷ entries) = λ i. (entry.0, twice_by entry.1 between new (same_row k entry.0) i) ∷ replaced-twice k between new entries i

  there_by : (new : A) (entry : Row × A) (rest more : Option A) (t : Bool) → is_some more ≡ is_some rest → is_some (cond t (Some (cond t new entry.1)) more) ≡ is_some (cond t (Some entry.1) rest)
  there_by new entry rest more true e = refl
  there_by new entry rest more false e = e

  -- a key is there as before
  pub lookup-replaced : (k : Row) (new : A) (entries : List (Row × A)) → is_some (lookup (same_row k) (replaced k new entries)) ≡ is_some (lookup (same_row k) entries)
  lookup-replaced k new [] = refl
  lookup-replaced k new (entry ∷ entries) =
      there_by new entry (lookup (same_row k) entries) (lookup (same_row k) (replaced k new entries)) (same_row k entry.0) (lookup-replaced k new entries)

  -- ---- a key at its place

  replaced-apart : (key : Row) (new : A) (entries : List (Row × A)) → AllByRecursion (λ y. same_row key y ≡ false) (keys_of entries) → replaced key new entries ≡ entries
  replaced-apart key new [] later = refl
  replaced-apart key new (entry ∷ entries) later = λ i. (entry.0, cond (later.0 i) new entry.1) ∷ replaced-apart key new entries later.1 i

  -- a value that is written where it stands changes nothing
  pub set-same : (entries : List (Row × A)) (place : ℕ) (old : A) → slice_get (values_of entries) place ≡ Some old → set_value_at entries place old ≡ entries
  set-same [] place old here = absurd (cc)
  set-same (entry ∷ entries) zero old here = let same : old ≡ entry.1 = cc in ap (λ value. (entry.0, value) ∷ entries) same
  set-same (entry ∷ entries) (suc place) old here = ap (λ rest. entry ∷ rest) (set-same entries place old here)

  module _ (key : Row) where
    -- what stands beside a key at its place is what the key stands for
    pub lookup-at : (entries : List (Row × A)) (place : ℕ) → IsDistinct same_row (keys_of entries) → slice_get (keys_of entries) place ≡ Some key
        → lookup (same_row key) entries ≡ slice_get (values_of entries) place
    unfolding IsDistinct
    lookup-at [] place distinct here = absurd (cc)
    lookup-at (entry ∷ entries) zero distinct here =
        let own : entry.0 ≡ key = cc in
        ap (λ t. cond t (Some entry.1) (lookup (same_row key) entries)) (ap (same_row key) own ∙ same-itself key)
    lookup-at (entry ∷ entries) (suc place) distinct here =
        ap (λ t. cond t (Some entry.1) (lookup (same_row key) entries)) (same-swap key entry.0 ∙ differs-at entry.0 key (keys_of entries) place distinct.0 here)
        ∙ lookup-at entries place distinct.1 here

    -- a value that is written at a key's place is what the key stands for
    pub set-at : (new : A) (entries : List (Row × A)) (place : ℕ) → IsDistinct same_row (keys_of entries) → slice_get (keys_of entries) place ≡ Some key
        → set_value_at entries place new ≡ replaced key new entries
    unfolding IsDistinct
    set-at new [] place distinct here = absurd (cc)
    set-at new (entry ∷ entries) zero distinct here =
        let own : entry.0 ≡ key = cc in
        let later : AllByRecursion (λ y. same_row key y ≡ false) (keys_of entries) = subst (λ x. AllByRecursion (λ y. same_row x y ≡ false) (keys_of entries)) own distinct.0 in
        λ i. (entry.0, cond (sym (ap (same_row key) own ∙ same-itself key) i) new entry.1) ∷ sym (replaced-apart key new entries later) i
    set-at new (entry ∷ entries) (suc place) distinct here =
        λ i. (entry.0, cond (sym (same-swap key entry.0 ∙ differs-at entry.0 key (keys_of entries) place distinct.0 here) i) new entry.1) ∷ set-at new entries place distinct.1 here i

  module _ (of_rows : List Row → Row → A) (keys : List ℕ) (rows : List Row) (row : Row)
      (agree : (x : Row) → same_row (pick_cells keys row) x ≡ false → of_rows (rows ++ row ∷ []) x ≡ of_rows rows x)
      (entries : List (Row × A)) (is : entries ≡ table_entries (of_rows rows) (first_keys keys rows)) where
    -- a row more whose key is there: the key stands for another thing
    pub entries-known : (old new : A) → lookup (same_row (pick_cells keys row)) entries ≡ Some old
        → (old ≡ of_rows rows (pick_cells keys row) → new ≡ of_rows (rows ++ row ∷ []) (pick_cells keys row))
        → replaced (pick_cells keys row) new entries ≡ table_entries (of_rows (rows ++ row ∷ [])) (first_keys keys (rows ++ row ∷ []))
    entries-known old new found next =
        let k = pick_cells keys row in
        let ks = first_keys keys rows in
        let f = of_rows rows in
        let g = of_rows (rows ++ row ∷ []) in
        let both = cond_some (among k ks) (f k) old (sym (lookup-entries f k ks) ∙ ap (lookup (same_row k)) (sym is) ∙ found) in
        let same : first_keys keys (rows ++ row ∷ []) ≡ ks = first_keys-push keys rows row ∙ ap (λ t. cond t ks (ks ++ k ∷ [])) both.0 in
        ap (replaced k new) is ∙ sym (entries-replaced f g k new agree (sym (next both.1)) ks) ∙ ap (table_entries g) (sym same)

    -- a row more whose key is new: the key goes last
    pub entries-new : (new : A) → lookup (same_row (pick_cells keys row)) entries ≡ None
        → (among (pick_cells keys row) (first_keys keys rows) ≡ false → new ≡ of_rows (rows ++ row ∷ []) (pick_cells keys row))
        → entries ++ (pick_cells keys row, new) ∷ [] ≡ table_entries (of_rows (rows ++ row ∷ [])) (first_keys keys (rows ++ row ∷ []))
    entries-new new none next =
        let k = pick_cells keys row in
        let ks = first_keys keys rows in
        let f = of_rows rows in
        let g = of_rows (rows ++ row ∷ []) in
        let absent : among k ks ≡ false = cond_none (among k ks) (f k) (sym (lookup-entries f k ks) ∙ ap (lookup (same_row k)) (sym is) ∙ none) in
        let last : first_keys keys (rows ++ row ∷ []) ≡ ks ++ k ∷ [] = first_keys-push keys rows row ∙ ap (λ t. cond t ks (ks ++ k ∷ [])) absent in
        ap (λ es. es ++ (k, new) ∷ []) is ∙ sym (entries-last f g k new agree (sym (next absent)) ks absent) ∙ ap (table_entries g) (sym last)
