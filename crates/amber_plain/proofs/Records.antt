-- The records of a scan's file one by one: its rows go into a chain, and the others are refused.
use Rattle.std.proofs.Common.{◌≡◌, ℕ, suc, ◌+◌, List, [], ◌∷◌, ◌++◌, length, map, Result, Ok, Err, refl, sym, ap, ◌∙◌, arith, add-zero}
use Rattle.std.specs.List.{filter_map}
use Rattle.std.proofs.lemmas.List.{length-map, map-append}
use Rattle.std.proofs.lemmas.List.Elements.{filter_map-append}
use Rattle.amber_rows.proofs.FileRecords.{typed-all, typed-none}
use Rattle.amber_rows.specs.Reading.{HasRead}
use Rattle.amber_rows.specs.Record.{file_records, ok_of, row_of, typed_records}
use Rattle.amber_rows.specs.declared.value.Value.{Value}
use Rattle.amber_rows.specs.declared.column.Column.{Column}
use Rattle.amber_rows.specs.declared.record.RowFault.{RowFault}
use Rattle.amber_rows.specs.declared.record_reader.RecordReader.{RecordReader}
use Rattle.amber_meaning.specs.Refused.{refused_records}
use Rattle.amber_meaning.specs.declared.answer.Refusal.{Refusal}
use Rattle.amber_plain.specs.declared.limit.LimitErr.{LimitErr}
use Rattle.amber_plain.specs.Holding.{FallsShort, Fills}
use Rattle.amber_plain.specs.Stages.{count_through}
use Rattle.amber_plain.specs.declared.chain.Chain.{Chain}
use Rattle.amber_plain.proofs.Passing.{Takes-more, Takes-none, count_through-append, count_through-none, rows_through-append, rows_through-none, short_after}

abbrev Rows : Type 0
Rows = List (List Value)

abbrev Typed : Type 0
Typed = List (Result (List Value) RowFault)

abbrev Fields : Type 0
Fields = List (List ℕ)

-- ---- chains

pub Fills-none : (a : Chain) → Fills a a []
Fills-none a = record { stages = refl; taken = rw (rows_through-none a.stages.items) (Takes-none a.holder) }

pub Fills-more : (a b c : Chain) (xs ys : Rows) → Fills a b xs → Fills b c ys → Fills a c (xs ++ ys)
Fills-more a b c xs ys f g = record {
  stages = g.stages ∙ f.stages;
  taken = rw (rows_through-append a.stages.items xs ys) (Takes-more a.holder b.holder c.holder _ _ f.taken (rw f.stages at g.taken));
}

-- ---- records

refused_records-append : (op n : ℕ) (xs ys : Typed) → refused_records op n (xs ++ ys) ≡ refused_records op n xs ++ refused_records op (n + length xs) ys
unfolding refused_records
refused_records-append op n [] ys = rw add-zero refl
refused_records-append op n (Ok row ∷ xs) ys =
    let same : n + 1 + length xs ≡ n + suc (length xs) = omega arith in
    refused_records-append op (n + 1) xs ys ∙ ap (λ k. refused_records op (n + 1) xs ++ refused_records op k ys) same
refused_records-append op n (Err why ∷ xs) ys =
    let same : n + 1 + length xs ≡ n + suc (length xs) = omega arith in
    rw (refused_records-append op (n + 1) xs ys, same) refl

-- the rows among these records
abbrev pub rows_in : List Column → List Fields → Rows
rows_in columns done = filter_map ok_of (map (row_of columns) done)

rows_in-append : (columns : List Column) (xs ys : List Fields) → rows_in columns (xs ++ ys) ≡ rows_in columns xs ++ rows_in columns ys
rows_in-append columns xs ys =
    ap (λ typed. filter_map ok_of typed) (map-append (row_of columns) xs ys) ∙ filter_map-append ok_of (map (row_of columns) xs) (map (row_of columns) ys)

-- these records went into a chain, or were refused
pub record Gathers (op : ℕ) (columns : List Column) (done : List Fields) (old new : Chain) (refused : List Refusal) : Type 0 where
  pub moved : Fills old new (rows_in columns done)
  pub spent : old.left ≡ new.left + count_through old.stages.items (rows_in columns done)
  pub refused_so_far : refused ≡ refused_records op 1 (map (row_of columns) done)

-- a reader has read the header and some records, which were gathered
pub record IsAt (file : List ℕ) (r : RecordReader) (number : ℕ) (op : ℕ) (columns : List Column) (old new : Chain) (refused : List Refusal) : Type 0 where
  pub header : List (List ℕ)
  pub done : List (List (List ℕ))
  pub read : HasRead file r (header ∷ done)
  pub counted : number ≡ length done + 1
  pub gathers : Gathers op columns done old new refused

pub Gathers-none : (op : ℕ) (columns : List Column) (chain : Chain) (refused : List Refusal) → refused ≡ [] → Gathers op columns [] chain chain refused
unfolding refused_records
Gathers-none op columns chain refused e = record {
  moved = Fills-none chain;
  spent = omega (arith, count_through-none chain.stages.items);
  refused_so_far = e;
}

pub Gathers-more : (op : ℕ) (columns : List Column) (done : List Fields) (old mid new : Chain) (refused newly : List Refusal) (fields : Fields) (typed : Result (List Value) RowFault) (number : ℕ)
    → Gathers op columns done old mid refused → number ≡ length done + 1 → typed ≡ row_of columns fields
    → Fills mid new (filter_map ok_of (typed ∷ [])) → mid.left ≡ new.left + count_through mid.stages.items (filter_map ok_of (typed ∷ []))
    → newly ≡ refused ++ refused_records op number (typed ∷ [])
    → Gathers op columns (done ++ fields ∷ []) old new newly
Gathers-more op columns done old mid new refused newly fields typed number g n t m l r =
    let before = map (row_of columns) done in
    let all : map (row_of columns) (done ++ fields ∷ []) ≡ before ++ typed ∷ [] = map-append (row_of columns) done (fields ∷ []) ∙ ap (λ x. before ++ x ∷ []) (sym t) in
    let rows : rows_in columns (done ++ fields ∷ []) ≡ rows_in columns done ++ filter_map ok_of (typed ∷ []) = ap (λ xs. filter_map ok_of xs) all ∙ filter_map-append ok_of before (typed ∷ []) in
    let place : 1 + length before ≡ number = omega (arith, length-map done (row_of columns)) in
    let here = rw g.moved.stages at l in
    record {
      moved = rw rows (Fills-more old mid new _ _ g.moved m);
      spent = rw rows (omega (arith, g.spent, here, count_through-append old.stages.items (rows_in columns done) (filter_map ok_of (typed ∷ []))));
      refused_so_far = r ∙ ap (λ xs. xs ++ refused_records op number (typed ∷ [])) g.refused_so_far
          ∙ sym (ap (λ xs. refused_records op 1 xs) all ∙ refused_records-append op 1 before (typed ∷ []) ∙ ap (λ k. refused_records op 1 before ++ refused_records op k (typed ∷ [])) place);
    }

-- all records were gathered
pub gathers-all : (op : ℕ) (columns : List Column) (file : List ℕ) (header : Fields) (done : List Fields) (old new : Chain) (refused : List Refusal)
    → Gathers op columns done old new refused → file_records file ≡ header ∷ done
    → Fills old new (filter_map ok_of (typed_records columns file)) × (old.left ≡ new.left + count_through old.stages.items (filter_map ok_of (typed_records columns file)))
    × (refused ≡ refused_records op 1 (typed_records columns file))
gathers-all op columns file header done old new refused g e = rw (typed-all columns file header done e) (g.moved, g.spent, g.refused_so_far)

-- there is no record, not even a header
pub gathers-nothing : (op : ℕ) (columns : List Column) (file : List ℕ) (chain : Chain) (refused : List Refusal) → file_records file ≡ [] → refused ≡ []
    → Fills chain chain (filter_map ok_of (typed_records columns file)) × (chain.left ≡ chain.left + count_through chain.stages.items (filter_map ok_of (typed_records columns file)))
    × (refused ≡ refused_records op 1 (typed_records columns file))
gathers-nothing op columns file chain refused e n =
    let g = Gathers-none op columns chain refused n in rw (typed-none columns file e) (g.moved, g.spent, g.refused_so_far)

-- the rows fell short within a record
pub gathers-short : (op : ℕ) (columns : List Column) (file : List ℕ) (header : Fields) (done : List Fields) (fields : Fields) (later : List Fields) (old mid : Chain) (refused : List Refusal)
    (typed : Result (List Value) RowFault) (why : LimitErr) → Gathers op columns done old mid refused → file_records file ≡ header ∷ (done ++ fields ∷ later) → typed ≡ row_of columns fields
    → FallsShort why mid.left (count_through mid.stages.items (filter_map ok_of (typed ∷ [])))
    → FallsShort why old.left (count_through old.stages.items (filter_map ok_of (typed_records columns file)))
gathers-short op columns file header done fields later old mid refused typed why g e t h =
    let stages = old.stages.items in
    let one : filter_map ok_of (typed ∷ []) ≡ rows_in columns (fields ∷ []) = ap (λ x. filter_map ok_of (x ∷ [])) t in
    let here = rw (g.moved.stages, one) at h in
    let rest : rows_in columns (fields ∷ later) ≡ rows_in columns (fields ∷ []) ++ rows_in columns later = rows_in-append columns (fields ∷ []) later in
    let all : count_through stages (rows_in columns (done ++ fields ∷ later)) ≡ count_through stages (rows_in columns done) + count_through stages (rows_in columns (fields ∷ later)) =
    ap (count_through stages) (rows_in-append columns done (fields ∷ later)) ∙ count_through-append stages (rows_in columns done) (rows_in columns (fields ∷ later)) in
    let more : count_through stages (rows_in columns (fields ∷ later)) ≡ count_through stages (rows_in columns (fields ∷ [])) + count_through stages (rows_in columns later) =
    ap (count_through stages) rest ∙ count_through-append stages (rows_in columns (fields ∷ [])) (rows_in columns later) in
    rw (typed-all columns file header (done ++ fields ∷ later) e) (short_after why old.left mid.left _ _ _ g.spent here (omega (arith, all, more)))
