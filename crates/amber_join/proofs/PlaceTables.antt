-- The table of the places as a row is added, and what the places of a key lead to.
use Rattle.std.proofs.Common.{◌≡◌, ℕ, suc, ◌+◌, ◌||◌, Bool, true, false, cond, List, [], ◌∷◌, ◌++◌, length, filter, map, Some, None, slice_get, refl, sym, ap, ◌∙◌, append_assoc, arith, length-append}
use Rattle.std.specs.List.{filter_map, list_any, IsDistinct}
use Rattle.std.specs.Map.{keys_of, lookup, values_of}
use Rattle.std.proofs.lemmas.List.{append-nil, length-map}
use Rattle.amber_keys.specs.KeyTable.{set_value_at}
use Rattle.amber_rows.specs.Operators.{first_keys, matches_of, pick_cells, same_row}
use Rattle.amber_rows.specs.declared.value.Value.{Value}
use Rattle.amber_keys.specs.SameRows.{same-itself}
use Rattle.amber_keys.specs.Tables.{among}
use Rattle.amber_keys.proofs.FirstKeys.{among-first_keys, rows_with-absent}
use Rattle.amber_keys.proofs.Tables.{cond_none, entries-known, entries-new, lookup-at, lookup-entries, set-at}
use Rattle.amber_join.specs.Places.{places_from, places_of, table_of}

abbrev Row : Type 0
Row = List Value

-- ---- places

slice_get-seam : {A : Type 0} (xs : List A) (y : A) (ys : List A) → slice_get (xs ++ y ∷ ys) (length xs) ≡ Some y
slice_get-seam [] y ys = refl
slice_get-seam (x ∷ xs) y ys = slice_get-seam xs y ys

push_by : {A : Type 0} (test : A → Bool) (n : ℕ) (x y : A) (xs : List A) (t : Bool) → test x ≡ t
    → places_from test (n + 1) (xs ++ y ∷ []) ≡ places_from test (n + 1) xs ++ cond (test y) ((n + 1 + length xs) ∷ []) []
    → places_from test n (x ∷ xs ++ y ∷ []) ≡ places_from test n (x ∷ xs) ++ cond (test y) ((n + suc (length xs)) ∷ []) []
unfolding places_from
push_by test n x y xs true e h =
    let same : n + 1 + length xs ≡ n + suc (length xs) = omega arith in
    rw (e, ← same) (ap (λ ps. n ∷ ps) h)
push_by test n x y xs false e h =
    let same : n + 1 + length xs ≡ n + suc (length xs) = omega arith in
    rw (e, ← same) h

one_place : {A : Type 0} (test : A → Bool) (n : ℕ) (y : A) (t : Bool) → test y ≡ t → cond t (n ∷ []) [] ≡ cond t ((n + 0) ∷ []) []
one_place test n y true e = let same : n ≡ n + 0 = omega arith in ap (λ k. k ∷ []) same
one_place test n y false e = refl

-- one more follows all others
pub places-push : {A : Type 0} (test : A → Bool) (n : ℕ) (xs : List A) (y : A) → places_from test n (xs ++ y ∷ []) ≡ places_from test n xs ++ cond (test y) ((n + length xs) ∷ []) []
unfolding places_from
places-push test n [] y = one_place test n y (test y) refl
places-push test n (x ∷ xs) y = push_by test n x y xs (test x) refl (places-push test (n + 1) xs y)

none_by : {A : Type 0} (test : A → Bool) (n : ℕ) (x : A) (xs : List A) (t : Bool) → test x ≡ t → (t || list_any test xs) ≡ false → (list_any test xs ≡ false → places_from test (n + 1) xs ≡ [])
    → places_from test n (x ∷ xs) ≡ []
unfolding places_from
none_by test n x xs true e h rest = absurd (cc)
none_by test n x xs false e h rest = rw e (rest h)

-- no place where none passes
pub places-none : {A : Type 0} (test : A → Bool) (n : ℕ) (xs : List A) → list_any test xs ≡ false → places_from test n xs ≡ []
unfolding places_from
places-none test n [] h = refl
places-none test n (x ∷ xs) h = none_by test n x xs (test x) refl h (places-none test (n + 1) xs)

read_by : {A : Type 0} (test : A → Bool) (before : List A) (x : A) (xs : List A) (t : Bool) → test x ≡ t
    → filter_map (slice_get (before ++ x ∷ xs)) (places_from test (length before + 1) xs) ≡ filter test xs
    → filter_map (slice_get (before ++ x ∷ xs)) (places_from test (length before) (x ∷ xs)) ≡ filter test (x ∷ xs)
unfolding places_from
read_by test before x xs true e h = rw (e, slice_get-seam before x xs) (ap (λ rest. x ∷ rest) h)
read_by test before x xs false e h = rw e h

read-from : {A : Type 0} (test : A → Bool) (before xs : List A) → filter_map (slice_get (before ++ xs)) (places_from test (length before) xs) ≡ filter test xs
unfolding places_from
read-from test before [] = refl
read-from test before (x ∷ xs) =
    let on : before ++ x ∷ [] ++ xs ≡ before ++ x ∷ xs = append_assoc before (x ∷ []) xs in
    let more : length (before ++ x ∷ []) ≡ length before + 1 = length-append before (x ∷ []) in
    read_by test before x xs (test x) refl
    (ap (λ all. filter_map (slice_get all) (places_from test (length before + 1) xs)) (sym on)
    ∙ ap (λ n. filter_map (slice_get (before ++ x ∷ [] ++ xs)) (places_from test n xs)) (sym more)
    ∙ read-from test (before ++ x ∷ []) xs)

-- what stands at the places of those that pass is those that pass
pub read-places : {A : Type 0} (test : A → Bool) (xs : List A) → filter_map (slice_get xs) (places_from test 0 xs) ≡ filter test xs
read-places test xs = read-from test [] xs

-- ---- the table

module _ (keys : List ℕ) (rows : List Row) (row : Row) where
  -- other keys keep their places
  pub agree : (x : Row) → same_row (pick_cells keys row) x ≡ false → places_of keys (rows ++ row ∷ []) x ≡ places_of keys rows x
  agree x e =
      places-push (λ other. same_row (pick_cells keys other) x) 0 rows row
      ∙ ap (λ t. places_of keys rows x ++ cond t ((0 + length rows) ∷ []) []) e
      ∙ append-nil (places_of keys rows x)

  -- its key has one more
  pub own : places_of keys (rows ++ row ∷ []) (pick_cells keys row) ≡ places_of keys rows (pick_cells keys row) ++ length rows ∷ []
  own =
      let same : 0 + length rows ≡ length rows = omega arith in
      places-push (λ other. same_row (pick_cells keys other) (pick_cells keys row)) 0 rows row
      ∙ ap (λ t. places_of keys rows (pick_cells keys row) ++ cond t ((0 + length rows) ∷ []) []) (same-itself (pick_cells keys row))
      ∙ ap (λ n. places_of keys rows (pick_cells keys row) ++ n ∷ []) same

  module _ (entries : List (Row × List ℕ)) (is : entries ≡ table_of keys rows) where
    -- the key is there: it has one place more
    pub table-known : (place : ℕ) (old new : List ℕ) → IsDistinct same_row (keys_of entries) → slice_get (keys_of entries) place ≡ Some (pick_cells keys row)
        → slice_get (values_of entries) place ≡ Some old → new ≡ old ++ length rows ∷ [] → set_value_at entries place new ≡ table_of keys (rows ++ row ∷ [])
    unfolding table_of
    table-known place old new distinct here found more =
        set-at (pick_cells keys row) new entries place distinct here
        ∙ entries-known (places_of keys) keys rows row agree entries is old new (lookup-at (pick_cells keys row) entries place distinct here ∙ found)
        (λ e. more ∙ ap (λ ps. ps ++ length rows ∷ []) e ∙ sym own)

    -- the key is new: it has this place alone
    pub table-new : (new : List ℕ) → lookup (same_row (pick_cells keys row)) entries ≡ None → new ≡ length rows ∷ []
        → entries ++ (pick_cells keys row, new) ∷ [] ≡ table_of keys (rows ++ row ∷ [])
    unfolding table_of
    table-new new none one =
        entries-new (places_of keys) keys rows row agree entries is new none
        (λ absent.
        one
        ∙ ap (λ ps. ps ++ length rows ∷ []) (sym (places-none (λ other. same_row (pick_cells keys other) (pick_cells keys row)) 0 rows (sym (among-first_keys keys rows (pick_cells keys row)) ∙ absent)))
        ∙ sym own)

pub length-table : (keys : List ℕ) (rows : List Row) → length (table_of keys rows) ≡ length (first_keys keys rows)
unfolding table_of
length-table keys rows = length-map (first_keys keys rows) (λ key. (key, places_of keys rows key))

-- no row makes no key
pub no-table : (keys : List ℕ) (rows : List Row) → rows ≡ [] → [] ≡ table_of keys rows
unfolding table_of first_keys
no-table keys rows none = sym (ap (table_of keys) none)

-- ---- a probe

module _ (build_keys probe_keys : List ℕ) (build : List Row) (row : Row) (entries : List (Row × List ℕ)) (is : entries ≡ table_of build_keys build) where
  found_by : (t : Bool) → among (pick_cells probe_keys row) (first_keys build_keys build) ≡ t → (places : List ℕ)
      → cond t (Some (places_of build_keys build (pick_cells probe_keys row))) None ≡ Some places
      → map (λ other. row ++ other) (filter_map (slice_get build) places) ≡ matches_of build_keys probe_keys build row
  unfolding matches_of
  found_by true e places h =
      let same : places ≡ places_of build_keys build (pick_cells probe_keys row) = cc in
      ap (map (λ other. row ++ other))
      (ap (filter_map (slice_get build)) same ∙ read-places (λ other. same_row (pick_cells build_keys other) (pick_cells probe_keys row)) build)
  found_by false e places h = absurd (cc)

  -- the rows at the places that the table has for a probe row's key give its matches
  pub probe-found : (place : ℕ) (places : List ℕ) → IsDistinct same_row (keys_of entries) → slice_get (keys_of entries) place ≡ Some (pick_cells probe_keys row)
      → slice_get (values_of entries) place ≡ Some places → map (λ other. row ++ other) (filter_map (slice_get build) places) ≡ matches_of build_keys probe_keys build row
  unfolding table_of
  probe-found place places distinct here found =
      let k = pick_cells probe_keys row in
      let ks = first_keys build_keys build in
      found_by (among k ks) refl places
      (sym (lookup-entries (places_of build_keys build) k ks) ∙ ap (lookup (same_row k)) (sym is) ∙ lookup-at k entries place distinct here ∙ found)

  -- no match where the table has none
  pub probe-none : lookup (same_row (pick_cells probe_keys row)) entries ≡ None → [] ≡ matches_of build_keys probe_keys build row
  unfolding table_of matches_of
  probe-none none =
      let k = pick_cells probe_keys row in
      let ks = first_keys build_keys build in
      let absent : among k ks ≡ false = cond_none (among k ks) _ (sym (lookup-entries (places_of build_keys build) k ks) ∙ ap (lookup (same_row k)) (sym is) ∙ none) in
      ap (map (λ other. row ++ other)) (sym (rows_with-absent build_keys build k absent))
