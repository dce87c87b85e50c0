-- How the text under a writer grows, a record at a time.
use Rattle.std.proofs.Common.{◌≡◌, ◌<◌, ◌+◌, ◌∙◌, ℕ, List, [], ◌∷◌, ◌++◌, length, take, get_or, map, Option, Some, None, false, refl, ap}
use Rattle.std.specs.Global.{Vec}
use Rattle.std.specs.Io.KnownBytes.{Appends}
use Rattle.std.proofs.lemmas.List.{append-nil, flat_map_more, take_more}
use Rattle.csv.specs.Writing as csv
use Rattle.csv.specs.declared.writer.Writer.{Writer}
use Rattle.amber_rows.specs.RowText.{HasWritten, any_width, fields_text_of, row_text_of, rows_text_of, value_text}
use Rattle.amber_rows.specs.declared.value.Value.{Value}

-- a record's text is the same whether or not records may differ in length
escaped-any : (field : List ℕ) → csv.escaped any_width field ≡ csv.escaped csv.default_writer field
unfolding csv.escaped
escaped-any [] = refl
escaped-any (b ∷ rest) = rw (escaped-any rest) refl

field-any : (field : List ℕ) → csv.field_text any_width field ≡ csv.field_text csv.default_writer field
field-any field = rw (escaped-any field) refl

fields-any : (fields : List (List ℕ)) → csv.fields_text any_width fields ≡ csv.fields_text csv.default_writer fields
unfolding csv.fields_text
fields-any [] = refl
fields-any (field ∷ rest) = rw (escaped-any field, fields-any rest) refl

row-any : (fields : List (List ℕ)) → csv.row_text any_width fields ≡ csv.row_text csv.default_writer fields
unfolding csv.is_blank
row-any [] = refl
row-any (field ∷ []) = rw (escaped-any field, fields-any []) refl
row-any (field ∷ next ∷ rest) = rw (escaped-any field, fields-any (next ∷ rest)) refl

-- what stands under a writer
appended : (old new : Option (List ℕ)) (text piece : List ℕ) → Appends old new piece → old ≡ Some text → new ≡ Some (text ++ piece)
appended None new text piece h e = cc e
appended (Some xs) None text piece h e = absurd h
appended (Some xs) (Some ys) text piece h e =
    let same : xs ≡ text = cc e in
    ap Some (rw same at h)

-- one more record
pub written-more : {text : List ℕ} (old new : Writer (Vec ℕ)) (fields : List (List ℕ)) → HasWritten text old
    → Appends (csv.text_written (λ v. Some v.items) old) (csv.text_written (λ v. Some v.items) new) (csv.row_text (csv.writer_setup old) fields)
    → csv.writer_setup new ≡ csv.writer_setup old → csv.fields_written new ≡ 0 → csv.has_written new ≡ false
    → HasWritten (text ++ fields_text_of fields) new
unfolding fields_text_of
written-more {text} old new fields h grown setup none shown = record {
  setup = setup ∙ h.setup;
  fields = none;
  shown = shown;
  written = appended _ _ text _ (rw (h.setup, row-any fields) at grown) h.written;
}

-- no row yet, one more row, all rows
pub rows-none : (text : List ℕ) → text ++ rows_text_of [] ≡ text
unfolding rows_text_of
rows-none text = append-nil text

pub rows-more : (text : List ℕ) (rows : List (List Value)) (i : ℕ) (row : List Value) → i < length rows → row ≡ get_or rows i row
    → (text ++ rows_text_of (take i rows)) ++ fields_text_of (map value_text row) ≡ text ++ rows_text_of (take (i + 1) rows)
unfolding rows_text_of
rows-more text rows i row lt e = rw (take_more rows i row lt, ← e) (flat_map_more row_text_of text (take i rows) row)
