-- What holds of each kind of operator. These facts are defined here only.
use Rattle.std.specs.Prelude.{◌≡◌, ℕ, ◌<◌, ◌≤◌, ◌==◌, List, [], ◌∷◌, ◌++◌, length, map, Option, Some, None, Bool, true, false, if◌then◌else◌}
use Rattle.std.specs.List.{list_all}
use Rattle.amber_rows.specs.Columns.{AreIn, HasInput, IsCondOn, IsEarlier, agg_kind, agg_name, column_kinds, columns_at, is_column_name, kinds_at, names_at, names_of}
use Rattle.amber_rows.specs.declared.column.Column.{Column}
use Rattle.amber_rows.specs.declared.cond.Cond.{Cond}
use Rattle.amber_rows.specs.declared.flow.What.{What}
use Rattle.amber_rows.specs.declared.flow.What.TheVariants as what
use Rattle.amber_rows.specs.declared.flow.Operator.{Operator}

-- ---- when it is well formed

-- what each kind asks of an operator with these columns, where these stand before it
abbrev pub IsKind : List Operator → What → List Column → Type 0
IsKind before (what.Scan file) columns = (0 < length file) × (length file ≤ 255) × (list_all is_column_name (names_of columns) ≡ true)
IsKind before (what.Filter input cond) columns = HasInput before input columns × IsCondOn columns cond
IsKind before (what.Project input from) columns = IsEarlier before input × AreIn (columns_at before input) from
    × (column_kinds columns ≡ kinds_at (columns_at before input) from) × (list_all is_column_name (names_of columns) ≡ true)
IsKind before (what.Join build probe build_keys probe_keys) columns = IsEarlier before build × IsEarlier before probe
    × AreIn (columns_at before build) build_keys × AreIn (columns_at before probe) probe_keys × (0 < length build_keys)
    × (kinds_at (columns_at before build) build_keys ≡ kinds_at (columns_at before probe) probe_keys)
    × (columns ≡ columns_at before probe ++ columns_at before build)
IsKind before (what.Group input keys aggs) columns = IsEarlier before input × AreIn (columns_at before input) keys
    × (map Some (column_kinds columns) ≡ map Some (kinds_at (columns_at before input) keys) ++ map (agg_kind (columns_at before input)) aggs)
    × (names_of columns ≡ names_at (columns_at before input) keys ++ map (agg_name (columns_at before input)) aggs)
IsKind before (what.Sink input) columns = HasInput before input columns

-- ---- where its rows come from

-- the operators from which it reads
abbrev pub inputs_of : What → List ℕ
inputs_of (what.Scan file) = []
inputs_of (what.Filter input cond) = input ∷ []
inputs_of (what.Project input from) = input ∷ []
inputs_of (what.Join build probe build_keys probe_keys) = build ∷ probe ∷ []
inputs_of (what.Group input keys aggs) = input ∷ []
inputs_of (what.Sink input) = input ∷ []

-- the input whose rows it works on, one after the other, of a join the probe side; a scan has none
abbrev pub main_input : What → Option ℕ
main_input (what.Scan file) = None
main_input (what.Filter input cond) = Some input
main_input (what.Project input from) = Some input
main_input (what.Join build probe build_keys probe_keys) = Some probe
main_input (what.Group input keys aggs) = Some input
main_input (what.Sink input) = Some input

-- the input whose rows it keeps first, to look them up: a join has one, its build side
abbrev pub build_input : What → Option ℕ
build_input (what.Scan file) = None
build_input (what.Filter input cond) = None
build_input (what.Project input from) = None
build_input (what.Join build probe build_keys probe_keys) = Some build
build_input (what.Group input keys aggs) = None
build_input (what.Sink input) = None

-- its rows are those of a file
abbrev pub is_scan : What → Bool
is_scan (what.Scan file) = true
is_scan (what.Filter input cond) = false
is_scan (what.Project input from) = false
is_scan (what.Join build probe build_keys probe_keys) = false
is_scan (what.Group input keys aggs) = false
is_scan (what.Sink input) = false

-- its rows are the answer
abbrev pub is_sink : What → Bool
is_sink (what.Scan file) = false
is_sink (what.Filter input cond) = false
is_sink (what.Project input from) = false
is_sink (what.Join build probe build_keys probe_keys) = false
is_sink (what.Group input keys aggs) = false
is_sink (what.Sink input) = true

-- ---- to which of its workers a row goes

-- rows go to it by their keys
abbrev pub is_keyed : What → Bool
is_keyed (what.Scan file) = false
is_keyed (what.Filter input cond) = false
is_keyed (what.Project input from) = false
is_keyed (what.Join build probe build_keys probe_keys) = true
is_keyed (what.Group input keys aggs) = true
is_keyed (what.Sink input) = false

-- the keys by which the rows of an operator go into it
abbrev pub side_keys : What → ℕ → List ℕ
side_keys (what.Scan file) op = []
side_keys (what.Filter input cond) op = []
side_keys (what.Project input from) op = []
side_keys (what.Join build probe build_keys probe_keys) op = if build == op then build_keys else probe_keys
side_keys (what.Group input keys aggs) op = keys
side_keys (what.Sink input) op = []

-- ---- what can be set

-- the condition whose constant a command may set: a filter's
abbrev pub settable_cond : What → Option Cond
settable_cond (what.Scan file) = None
settable_cond (what.Filter input cond) = Some cond
settable_cond (what.Project input from) = None
settable_cond (what.Join build probe build_keys probe_keys) = None
settable_cond (what.Group input keys aggs) = None
settable_cond (what.Sink input) = None
