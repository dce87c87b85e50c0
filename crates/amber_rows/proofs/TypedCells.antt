-- A record is typed from its first column on: the cells so far, and then what the others give.
use Rattle.std.proofs.Common.{◌≡◌, ◌≢◌, ◌<◌, ◌≤◌, ◌+◌, ◌∙◌, ℕ, zero, suc, List, [], ◌∷◌, ◌++◌, length, drop, get_or, Some, Result, Ok, Err, refl, sym, ap, arith, append_assoc, drop-cons}
use Rattle.std.proofs.lemmas.Bool.{eq-eqb, ne_eqb}
use Rattle.std.proofs.lemmas.List.{append-nil, drop_all}
use Rattle.csv.specs.Records.{field_at}
use Rattle.amber_rows.specs.Record.{cell_before, cell_of, cells_of, row_of}
use Rattle.amber_rows.specs.declared.value.Value.{Value}
use Rattle.amber_rows.specs.declared.column.Column.{Column}
use Rattle.amber_rows.specs.declared.record.RowFault.{RowFault}
use Rattle.amber_rows.specs.declared.record.RowFault.TheVariants as fault

-- cells before the others, or the fault of the others
abbrev pub after_cells : List Value → Result (List Value) RowFault → Result (List Value) RowFault
after_cells done (Ok cells) = Ok (done ++ cells)
after_cells done (Err why) = Err why

after-none : (rest : Result (List Value) RowFault) → rest ≡ after_cells [] rest
after-none (Ok cells) = refl
after-none (Err why) = refl

after-one : (done : List Value) (cell : Value) (rest : Result (List Value) RowFault) → after_cells done (cell_before (Ok cell) rest) ≡ after_cells (done ++ cell ∷ []) rest
after-one done cell (Ok cells) = rw append_assoc refl
after-one done cell (Err why) = refl

-- the fields from one that is there on
field-drop : (fields : List (List ℕ)) (i : ℕ) (x : List ℕ) → Some x ≡ field_at fields i → drop i fields ≡ x ∷ drop (i + 1) fields
unfolding field_at
field-drop [] i x e = cc e
field-drop (f ∷ fs) zero x e = let same : f ≡ x = cc e in rw same refl
field-drop (f ∷ fs) (suc i) x e =
    let step : suc i + 1 ≡ suc (i + 1) = omega arith in
    rw step (field-drop fs i x e)

-- the columns from one that is there on
column-drop : (columns : List Column) (i : ℕ) (x : Column) → i < length columns → x ≡ get_or columns i x → drop i columns ≡ x ∷ drop (i + 1) columns
column-drop columns i x lt e =
    let next : i + 1 ≡ suc i = omega arith in
    rw (next, drop-cons columns i x lt, ← e) refl

-- a wrong number of fields
pub row-width : (columns : List Column) (fields : List (List ℕ)) → length fields ≢ length columns → Err fault.Width ≡ row_of columns fields
unfolding row_of
row-width columns fields other = rw (ne_eqb (length fields) (length columns) other) refl

-- before the first column
pub row-start : (columns : List Column) (fields : List (List ℕ)) → length fields ≡ length columns → row_of columns fields ≡ after_cells [] (cells_of 1 columns fields)
unfolding row_of
row-start columns fields same = rw (eq-eqb (length fields) (length columns) same) (after-none (cells_of 1 columns fields))

-- one more cell
pub row-go : (columns : List Column) (fields : List (List ℕ)) (i : ℕ) (row : Result (List Value) RowFault) (done : List Value) (column : Column) (field : List ℕ) (cell : Value)
    → row ≡ after_cells done (cells_of (i + 1) (drop i columns) (drop i fields)) → i < length columns → column ≡ get_or columns i column → Some field ≡ field_at fields i
    → Ok cell ≡ cell_of (i + 1) column.kind field → row ≡ after_cells (done ++ cell ∷ []) (cells_of (i + 1 + 1) (drop (i + 1) columns) (drop (i + 1) fields))
unfolding cells_of
row-go columns fields i row done column field cell h lt ec ef e =
    let cs = column-drop columns i column lt ec in
    let fs = field-drop fields i field ef in
    (rw (cs, fs, ← e) at h) ∙ after-one done cell _

-- a column whose field is no cell
pub row-stop : (columns : List Column) (fields : List (List ℕ)) (i : ℕ) (row : Result (List Value) RowFault) (done : List Value) (column : Column) (field : List ℕ) (why : RowFault)
    → row ≡ after_cells done (cells_of (i + 1) (drop i columns) (drop i fields)) → i < length columns → column ≡ get_or columns i column → Some field ≡ field_at fields i
    → Err why ≡ cell_of (i + 1) column.kind field → Err why ≡ row
unfolding cells_of
row-stop columns fields i row done column field why h lt ec ef e =
    let cs = column-drop columns i column lt ec in
    let fs = field-drop fields i field ef in
    sym (rw (cs, fs, ← e) at h)

-- past the last column
pub row-all : (columns : List Column) (fields : List (List ℕ)) (i : ℕ) (row : Result (List Value) RowFault) (done : List Value)
    → row ≡ after_cells done (cells_of (i + 1) (drop i columns) (drop i fields)) → length columns ≤ i → Ok done ≡ row
unfolding cells_of
row-all columns fields i row done h past =
    let none = drop_all i columns past in
    sym ((rw none at h) ∙ ap Ok (append-nil done))
