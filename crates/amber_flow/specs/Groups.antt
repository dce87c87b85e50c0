-- The groups of a workflow.
use Rattle.std.specs.Prelude.{ℕ, List, ◌++◌, codes, is_some, ok_or, Result, Ok}
use Rattle.std.specs.List.{filter_map, list_all}
use Rattle.serde_json.specs.Data.{Data}
use Rattle.amber_rows.specs.Columns.{agg_kind}
use Rattle.amber_rows.specs.declared.column.Column.{Column}
use Rattle.amber_rows.specs.declared.flow.What.TheVariants.{Group}
use Rattle.amber_rows.specs.declared.flow.Operator.{Operator}
use Rattle.amber_flow.specs.Aggregates.{agg_column, agg_of, is_agg_text}
use Rattle.amber_rows.specs.Chain.{◌>>=◌, each, require}
use Rattle.amber_flow.specs.Columns.{column_named, column_number}
use Rattle.amber_flow.specs.Fields.{text_at, texts_at}
use Rattle.amber_flow.specs.Inputs.{operator_columns, operator_number}
use Rattle.amber_flow.specs.declared.error.FlowWhy.{FlowWhy}
use Rattle.amber_flow.specs.declared.error.FlowWhy.TheVariants.{Column as NoColumn, Forward, Mismatch, Shape}
use Rattle.amber_flow.specs.declared.parts.Parts.{Parts}

-- a group of the rows of an operator with these columns
unfoldable pub group_over : ℕ → List Column → List (List ℕ) → List (List ℕ) → Result Parts FlowWhy
group_over input columns names texts = do
  keys ← ok_or (each (column_number columns) names) NoColumn
  aggs ← ok_or (each (agg_of columns) texts) NoColumn
  summed ← require (list_all (λ agg. is_some (agg_kind columns agg)) aggs) Mismatch
  Ok (record { what = Group input keys aggs; schema = filter_map (column_named columns) names ++ filter_map (agg_column columns) texts })

unfoldable pub group_of : List Operator → Data → Result Parts FlowWhy
group_of before tree = do
  id ← ok_or (text_at (codes "input") tree) Shape
  names ← ok_or (texts_at (codes "keys") tree) Shape
  texts ← ok_or (texts_at (codes "aggregates") tree) Shape
  formed ← require (list_all is_agg_text texts) Shape
  input ← ok_or (operator_number before id) Forward
  columns ← ok_or (operator_columns before input) Forward
  group_over input columns names texts
