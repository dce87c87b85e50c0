-- Files on literals: their records, and the sequential answer over them.
use Rattle.std.proofs.Common.{◌≡◌, ℕ, List, [], ◌∷◌, codes, refl}
use Rattle.std.specs.Prelude.{⊤}
use Rattle.std.specs.Str.{chars, is_utf8}
use Rattle.amber_rows.specs.Number.{read_int_of}
use Rattle.amber_rows.specs.Record.{cells_of, file_records, row_of, typed_records}
use Rattle.amber_rows.specs.declared.agg.Agg.TheVariants as agg
use Rattle.amber_rows.specs.declared.column.ColKind.TheVariants as kind
use Rattle.amber_rows.specs.declared.column.Column.{Column}
use Rattle.amber_rows.specs.declared.flow.What.TheVariants as what
use Rattle.amber_rows.specs.declared.flow.Operator.{Operator}
use Rattle.amber_meaning.specs.Legal.{query_over}
use Rattle.amber_meaning.specs.Plain.{answer_from, answer_of, outputs, records_of, refusals}
use Rattle.amber_meaning.specs.Refused.{refused_records}
use Rattle.amber_meaning.specs.Texts.{answer_text}
use Rattle.amber_meaning.proofs.ExampleCases.{kept_from, lines, orders, query_of, scan_orders, texts_on_literals}

-- what files hold, and the answer over them
files_on_literals : ⊤
unfolding texts_on_literals answer_of answer_from outputs refusals refused_records records_of typed_records file_records row_of cells_of read_int_of is_utf8 chars lib.Utf8.encode
files_on_literals = tt

o_csv : List ℕ
o_csv = lines (codes "id,item,qty" ∷ codes "1,nut,5" ∷ codes "2,bolt,12" ∷ codes "3,nut,7" ∷ codes "4,cog,12" ∷ codes "5,bolt,1" ∷ [])

-- the five orders come from this file
orders_are_read : query_over (kept_from 0) (o_csv ∷ []) 400 1000 ≡ query_of (kept_from 0) 400
unfolding files_on_literals o_csv
orders_are_read = refl

-- ---- records that are no rows

abbrev pub straight : List Operator
straight = scan_orders ∷ record { id = codes "s"; what = what.Sink 1; schema = orders; workers = 1 } ∷ []

mixed_csv : List ℕ
mixed_csv = lines (codes "id,item,qty" ∷ codes "x,nut" ∷ codes "+07,nut,5" ∷ codes "a,nut,5" ∷ [])

mixed : answer_text straight (answer_of straight (mixed_csv ∷ []))
    ≡ lines (codes "refused record o 1 width" ∷ codes "refused record o 3 int 1" ∷ codes "rows 1" ∷ codes "id,item,qty" ∷ codes "7,nut,5" ∷ [])
unfolding files_on_literals mixed_csv
mixed = refl

-- ---- a sum that leaves 64 bits

abbrev pub pairs : List Column
pairs = record { name = codes "k"; kind = kind.Text } ∷ record { name = codes "v"; kind = kind.Int } ∷ []

abbrev pub sums : List Column
sums = record { name = codes "k"; kind = kind.Text } ∷ record { name = codes "sum:v"; kind = kind.Int } ∷ []

abbrev pub summed : List Operator
summed =
    record { id = codes "o"; what = what.Scan (codes "o.csv"); schema = pairs; workers = 1 }
    ∷ record { id = codes "g"; what = what.Group 1 (1 ∷ []) (agg.Sum 2 ∷ []); schema = sums; workers = 1 }
    ∷ record { id = codes "s"; what = what.Sink 2; schema = sums; workers = 1 } ∷ []

large_csv : List ℕ
large_csv = lines (codes "k,v" ∷ codes "a,9223372036854775807" ∷ codes "a,1" ∷ [])

large : answer_text summed (answer_of summed (large_csv ∷ [])) ≡ lines (codes "refused group g a" ∷ codes "rows 0" ∷ codes "k,sum:v" ∷ [])
unfolding files_on_literals large_csv
large = refl

fitting_csv : List ℕ
fitting_csv = lines (codes "k,v" ∷ codes "a,9223372036854775807" ∷ codes "a,1" ∷ codes "a,-1" ∷ [])

fitting : answer_text summed (answer_of summed (fitting_csv ∷ [])) ≡ lines (codes "rows 1" ∷ codes "k,sum:v" ∷ codes "a,9223372036854775807" ∷ [])
unfolding files_on_literals fitting_csv
fitting = refl
