-- A file's first record against the names of its columns.
use Rattle.std.proofs.Common.{◌≡◌, ℕ, zero, suc, ◌+◌, ◌<◌, ◌≤◌, Bool, true, false, not, ◌&&◌, List, [], ◌∷◌, length, get_or, drop, map, Some, refl, sym, ap, ◌∙◌, arith, add-one, bytes_eq}
use Rattle.std.specs.Cmp.Lexicographic.{pointwise}
use Rattle.std.proofs.lemmas.List.{drop_more, drop_all, drop-map, length-map}
use Rattle.csv.specs.Records.{field_at}
use Rattle.amber_rows.specs.Columns.{names_of}
use Rattle.amber_rows.specs.Reading.{HasRead}
use Rattle.amber_rows.specs.Record.{file_records, has_header}
use Rattle.amber_rows.proofs.FileRecords.{HasRead-front}
use Rattle.amber_rows.specs.declared.column.Column.{Column}
use Rattle.amber_rows.specs.declared.record_reader.RecordReader.{RecordReader}

abbrev Fields : Type 0
Fields = List (List ℕ)

drop_field : (fields : Fields) (i : ℕ) (f : List ℕ) → field_at fields i ≡ Some f → drop i fields ≡ f ∷ drop (suc i) fields
unfolding field_at
drop_field [] i f e = absurd (cc)
drop_field (x ∷ fields) zero f e = cc
drop_field (x ∷ fields) (suc i) f e = drop_field fields i f e

-- one name more
pub names-more : (fields : Fields) (columns : List Column) (i : ℕ) (f : List ℕ) (column : Column) → i < length columns → column ≡ get_or columns i column → field_at fields i ≡ Some f
    → pointwise bytes_eq (drop i fields) (drop i (names_of columns)) ≡ (bytes_eq f column.name && pointwise bytes_eq (drop (i + 1) fields) (drop (i + 1) (names_of columns)))
names-more fields columns i f column h e is =
    let name : Column → List ℕ = λ c. c.name in
    let one : drop i fields ≡ f ∷ drop (i + 1) fields = rw add-one (drop_field fields i f is) in
    let more : drop i columns ≡ column ∷ drop (i + 1) columns = drop_more columns i column h ∙ ap (λ x. x ∷ drop (i + 1) columns) (sym e) in
    let names : drop i (names_of columns) ≡ column.name ∷ drop (i + 1) (names_of columns) =
    drop-map name i columns ∙ ap (map name) more ∙ ap (λ xs. column.name ∷ xs) (sym (drop-map name (i + 1) columns)) in
    rw (one, names) refl

pub names-end : (fields : Fields) (columns : List Column) (i : ℕ) → length fields ≡ length columns → length columns ≤ i
    → pointwise bytes_eq (drop i fields) (drop i (names_of columns)) ≡ true
names-end fields columns i same h =
    let name : Column → List ℕ = λ c. c.name in
    let none : drop i fields ≡ [] = drop_all i fields (omega arith) in
    let long : length (names_of columns) ≤ i = omega (arith, length-map columns name) in
    rw (none, drop_all i (names_of columns) long) refl

-- a file of no records
pub header-none : (columns : List Column) (file : List ℕ) → file_records file ≡ [] → has_header columns file ≡ false
unfolding has_header
header-none columns file e = rw e refl

-- the first record of a file
pub header-some : (columns : List Column) (file : List ℕ) (r : RecordReader) (fields : Fields) → HasRead file r (fields ∷ [])
    → has_header columns file ≡ pointwise bytes_eq fields (names_of columns)
unfolding has_header
header-some columns file r fields h = let front = HasRead-front h in rw front.1 refl

pub not_true : (b : Bool) → true ≡ not b → b ≡ false
not_true true e = absurd (cc)
not_true false e = refl

pub not_false : (b : Bool) → false ≡ not b → b ≡ true
not_false true e = refl
not_false false e = absurd (cc)
