-- The text of rows: a record each, as RFC 4180 has them, with line feeds as their ends.
use Rattle.std.specs.Global.{Vec}
use Rattle.std.specs.Prelude.{◌≡◌, ℕ, List, map, Some, false, true}
use Rattle.std.specs.List.{flat_map}
use Rattle.std.specs.Fmt.{signed_decimal}
use Rattle.csv.specs.Writing as csv
use Rattle.csv.specs.declared.writer.Writer.{Writer}
use Rattle.csv.specs.declared.writer.WriterBuilder.{WriterBuilder}
use Rattle.amber_rows.specs.declared.value.Value.{Value}
use Rattle.amber_rows.specs.declared.value.Value.TheVariants.{Int, Text}

-- a number in decimal, with `-` where it is negative; a text as it is
abbrev pub value_text : Value → List ℕ
value_text (Int n) = signed_decimal n
value_text (Text t) = t

-- a record of these fields, with its line end
unfoldable pub fields_text_of : List (List ℕ) → List ℕ
fields_text_of fields = csv.row_text csv.default_writer fields

-- the record of a row, with its line end
abbrev pub row_text_of : List Value → List ℕ
row_text_of row = fields_text_of (map value_text row)

-- the records of rows, one after the other
unfoldable pub rows_text_of : List (List Value) → List ℕ
rows_text_of rows = flat_map row_text_of rows

-- the default writer, with records of any lengths
abbrev pub any_width : WriterBuilder
any_width = csv.with_flexible csv.default_writer true

-- the writer stands between two records, and this is its text so far
pub record HasWritten (text : List ℕ) (w : Writer (Vec ℕ)) : Type 0 where
  pub setup : csv.writer_setup w ≡ any_width
  pub fields : csv.fields_written w ≡ 0
  pub shown : csv.has_written w ≡ false
  pub written : csv.text_written (λ v. Some v.items) w ≡ Some text
