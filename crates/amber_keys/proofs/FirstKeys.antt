-- The keys of rows, each where it stands first, as rows are appended.
use Rattle.std.proofs.Common.{◌≡◌, ℕ, ◌||◌, Bool, true, false, cond, not, List, [], ◌∷◌, ◌++◌, filter, refl, sym, ap, ◌∙◌}
use Rattle.std.specs.List.{list_any}
use Rattle.std.proofs.lemmas.List.{append-nil}
use Rattle.std.proofs.lemmas.List.Elements.{filter-append}
use Rattle.amber_rows.specs.Operators.{first_keys, pick_cells, rows_with, same_row}
use Rattle.amber_rows.specs.declared.value.Value.{Value}
use Rattle.amber_keys.specs.SameRows.{same-is, same-itself}
use Rattle.amber_keys.specs.Tables.{among}

abbrev Row : Type 0
Row = List Value

other-way : (a b : Row) (t : Bool) → same_row b a ≡ t → same_row a b ≡ false → t ≡ false
other-way a b true e ne =
    let same : b ≡ a = same-is b a e in
    let itself : same_row a b ≡ true = ap (λ x. same_row a x) same ∙ same-itself a in
    absurd (cc (sym itself ∙ ne))
other-way a b false e ne = refl

-- the rows that differ from one
others : Row → List Row → List Row
others y rows = filter (λ other. not (same_row other y)) rows

others_by : (y k z : Row) (rows : List Row) (t : Bool) → same_row z y ≡ t → same_row y k ≡ false → among k (others y rows) ≡ among k rows
    → among k (cond (not t) (z ∷ others y rows) (others y rows)) ≡ (same_row z k || among k rows)
unfolding others
others_by y k z rows true e ne h =
    let gone : same_row z k ≡ false = ap (λ x. same_row x k) (same-is z y e) ∙ ne in
    h ∙ sym (ap (λ t. t || among k rows) gone)
others_by y k z rows false e ne h = ap (λ t. same_row z k || t) h

-- of those that differ from a row, as many are equal to another one as of all
any-others : (y k : Row) → same_row y k ≡ false → (rows : List Row) → among k (others y rows) ≡ among k rows
unfolding others
any-others y k ne [] = refl
any-others y k ne (z ∷ rows) = others_by y k z rows (same_row z y) refl ne (any-others y k ne rows)

last_other : (y k : Row) (t : Bool) → same_row k y ≡ t → others y (k ∷ []) ≡ cond t [] (k ∷ [])
unfolding others
last_other y k true e = rw e refl
last_other y k false e = rw e refl

push_by : (y k : Row) (found : List Row) (t u : Bool) → among k found ≡ t → same_row y k ≡ u
    → (y ∷ others y (cond t found (found ++ k ∷ []))) ≡ cond (u || among k (others y found)) (y ∷ others y found) (y ∷ others y found ++ k ∷ [])
unfolding others
push_by y k found true true e f = refl
push_by y k found true false e f = rw (any-others y k f found, e) refl
push_by y k found false true e f =
    let itself : same_row k y ≡ true = ap (λ x. same_row k x) (same-is y k f) ∙ same-itself k in
    ap (λ xs. y ∷ xs) (filter-append (λ other. not (same_row other y)) found (k ∷ []) ∙ ap (λ xs. others y found ++ xs) (last_other y k true itself) ∙ append-nil (others y found))
push_by y k found false false e f =
    let differs : same_row k y ≡ false = other-way y k (same_row k y) refl f in
    rw (any-others y k f found, e)
    (ap (λ xs. y ∷ xs) (filter-append (λ other. not (same_row other y)) found (k ∷ []) ∙ ap (λ xs. others y found ++ xs) (last_other y k false differs)))

-- a row more has its key last, or at its old place
pub first_keys-push : (keys : List ℕ) (rows : List Row) (row : Row)
    → first_keys keys (rows ++ row ∷ []) ≡ cond (among (pick_cells keys row) (first_keys keys rows)) (first_keys keys rows) (first_keys keys rows ++ pick_cells keys row ∷ [])
unfolding first_keys others
first_keys-push keys [] row = refl
first_keys-push keys (y ∷ rows) row =
    ap (λ found. pick_cells keys y ∷ others (pick_cells keys y) found) (first_keys-push keys rows row)
    ∙ push_by (pick_cells keys y) (pick_cells keys row) (first_keys keys rows) (among (pick_cells keys row) (first_keys keys rows)) (same_row (pick_cells keys y) (pick_cells keys row)) refl refl

among_by : (y k : Row) (found : List Row) (t : Bool) → same_row y k ≡ t → (t || among k (others y found)) ≡ (t || among k found)
among_by y k found true e = refl
among_by y k found false e = any-others y k e found

-- a key is among the keys exactly where a row has it
pub among-first_keys : (keys : List ℕ) (rows : List Row) (k : Row) → among k (first_keys keys rows) ≡ list_any (λ row. same_row (pick_cells keys row) k) rows
unfolding first_keys others
among-first_keys keys [] k = refl
among-first_keys keys (y ∷ rows) k =
    among_by (pick_cells keys y) k (first_keys keys rows) (same_row (pick_cells keys y) k) refl ∙ ap (λ t. same_row (pick_cells keys y) k || t) (among-first_keys keys rows k)

none_by : {X : Type 0} (test : X → Bool) (x : X) (xs : List X) (t : Bool) → test x ≡ t → (t || list_any test xs) ≡ false → (list_any test xs ≡ false → filter test xs ≡ []) → filter test (x ∷ xs) ≡ []
none_by test x xs true f g rest = absurd (cc)
none_by test x xs false f g rest = rw f (rest g)

none_passes : {X : Type 0} (test : X → Bool) (xs : List X) → list_any test xs ≡ false → filter test xs ≡ []
none_passes test [] e = refl
none_passes test (x ∷ xs) e = none_by test x xs (test x) refl e (none_passes test xs)

-- no row has a key that is not among the keys
pub rows_with-absent : (keys : List ℕ) (rows : List Row) (k : Row) → among k (first_keys keys rows) ≡ false → rows_with keys rows k ≡ []
rows_with-absent keys rows k e = none_passes (λ row. same_row (pick_cells keys row) k) rows (sym (among-first_keys keys rows k) ∙ e)
