-- A line that is typed in one pass: its fields one by one, and the first fault.
use Rattle.std.proofs.Common.{◌≡◌, ◌<◌, ◌≤◌, ℕ, zero, suc, List, [], ◌∷◌, Some, Result, Ok, Err, drop, length, inl, inr, refl, arith}
use Rattle.std.proofs.lemmas.Bool.{cases_Bool, eq-eqb}
use Rattle.std.proofs.lemmas.List.Splits.{length-slice_split}
use Rattle.csv.specs.Records.{field_at}
use Rattle.amber_rows.specs.Record.{cells_of, row_of}
use Rattle.amber_rows.proofs.TypedCells.{after_cells}
use Rattle.amber_rows.specs.declared.value.Value.{Value}
use Rattle.amber_rows.specs.declared.column.Column.{Column}
use Rattle.amber_rows.specs.declared.record.RowFault.{RowFault}
use Rattle.amber_cut.specs.Lines.{cut, ends_field, past, until}

-- ---- fields

-- a line has at least one field
pub cut-some : (line : List ℕ) → 0 < length (cut line)
unfolding cut
cut-some line = omega (arith, length-slice_split ends_field line)

-- the first field of a line with a comma, and those after it
pub cut-first : (line : List ℕ) → length (until ends_field line) < length line → cut line ≡ until ends_field line ∷ cut (past ends_field line)
unfolding cut until past
cut-first [] h = absurd (omega (arith, h))
cut-first (x ∷ xs) h = elim (cases_Bool (ends_field x)) [
  | inl t ↦ rw t refl
  | inr f ↦ let less = rw f at h in let later = cut-first xs (omega (arith, less)) in rw (f, later) refl
]

-- the only field of a line without one
pub cut-last : (line : List ℕ) → length line ≤ length (until ends_field line) → cut line ≡ line ∷ []
unfolding cut until
cut-last [] h = refl
cut-last (x ∷ xs) h = elim (cases_Bool (ends_field x)) [
  | inl t ↦ let less = rw t at h in absurd (omega (arith, less))
  | inr f ↦ let less = rw f at h in let later = cut-last xs (omega (arith, less)) in rw (f, later) refl
]

-- the field that stands first from a place on
pub field-here : (fields more : List (List ℕ)) (i : ℕ) (field : List ℕ) → drop i fields ≡ field ∷ more → Some field ≡ field_at fields i
unfolding field_at
field-here [] more zero field e = absurd (cc e)
field-here [] more (suc i) field e = absurd (cc e)
field-here (f ∷ fs) more zero field e = cc e
field-here (f ∷ fs) more (suc i) field e = field-here fs more i field e

-- ---- cells

-- no cell so far
pub none-so-far : (rest : Result (List Value) RowFault) → rest ≡ after_cells [] rest
none-so-far (Ok cells) = refl
none-so-far (Err why) = refl

-- as many fields as columns
pub row-same : (columns : List Column) (fields : List (List ℕ)) → length fields ≡ length columns → row_of columns fields ≡ cells_of 1 columns fields
unfolding row_of
row-same columns fields same = rw (eq-eqb (length fields) (length columns) same) refl
