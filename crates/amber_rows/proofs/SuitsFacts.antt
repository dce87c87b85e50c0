-- Whether a row fits columns, one column after the other.
use Rattle.std.proofs.Common.{◌≡◌, ◌≢◌, ◌<◌, ◌≤◌, ◌+◌, ◌&&◌, ℕ, suc, List, [], ◌∷◌, length, drop, get_or, refl, sym, ◌∙◌, ap, add-one, drop-cons, true, false, Bool}
use Rattle.std.proofs.lemmas.List.{drop_all}
use Rattle.amber_rows.specs.Columns.{kind_of}
use Rattle.amber_rows.specs.Suits.{same_kind, suits_of}
use Rattle.amber_rows.specs.declared.column.Column.{Column}
use Rattle.amber_rows.specs.declared.value.Value.{Value}

-- a row of another width fits no columns
pub suits-width : (columns : List Column) (row : List Value) → length row ≢ length columns → suits_of columns row ≡ false
unfolding suits_of
suits-width [] [] e = absurd (e refl)
suits-width [] (cell ∷ cells) e = refl
suits-width (column ∷ columns) [] e = refl
suits-width (column ∷ columns) (cell ∷ cells) e = by (same_kind column.kind (kind_of cell)) (suits-width columns cells (λ same. e (ap suc same)))
  where
    by : (b : Bool) → suits_of columns cells ≡ false → (b && suits_of columns cells) ≡ false
    by true rest = rest
    by false rest = refl

-- one column more
pub suits-next : (columns : List Column) (row : List Value) (i : ℕ) (column : Column) (cell : Value) → i < length columns → i < length row
    → column ≡ get_or columns i column → cell ≡ get_or row i cell
    → suits_of (drop i columns) (drop i row) ≡ (same_kind column.kind (kind_of cell) && suits_of (drop (i + 1) columns) (drop (i + 1) row))
unfolding suits_of
suits-next columns row i column cell h k e f =
    let left : drop i columns ≡ column ∷ drop (suc i) columns = drop-cons columns i column h ∙ ap (λ c. c ∷ drop (suc i) columns) (sym e) in
    let right : drop i row ≡ cell ∷ drop (suc i) row = drop-cons row i cell k ∙ ap (λ c. c ∷ drop (suc i) row) (sym f) in
    rw (left, right, add-one) refl

-- no column is left
pub suits-end : (columns : List Column) (row : List Value) (i : ℕ) → length columns ≤ i → length row ≤ i → suits_of (drop i columns) (drop i row) ≡ true
unfolding suits_of
suits-end columns row i h k = rw (drop_all i columns h, drop_all i row k) refl
