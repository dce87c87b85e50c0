-- Commands that are read fit the workflow.
use Rattle.std.proofs.Common.{◌≡◌, ◌+◌, ◌-◌, ◌<◌, ◌==◌, ℕ, zero, suc, Bool, true, false, List, [], ◌∷◌, ◌++◌, length, Option, None, Some, option_map, refl, sym, subst, ◌∙◌, arith}
use Rattle.std.specs.Prelude.{◌&&◌, not, slice_get}
use Rattle.std.specs.List.{list_all}
use Rattle.std.proofs.lemmas.Bool.{and_from, ne_eqb}
use Rattle.std.proofs.lemmas.List.Folds.{list_all-append}
use Rattle.amber_rows.specs.Lists.{nth}
use Rattle.amber_rows.specs.Columns.{column_kind_at, kind_of, schema_of}
use Rattle.amber_rows.specs.Kinds.{is_sink}
use Rattle.amber_rows.specs.Suits.{same_kind}
use Rattle.amber_rows.specs.declared.value.Value.{Value}
use Rattle.amber_rows.specs.declared.cond.Cond.{Cond}
use Rattle.amber_rows.specs.declared.column.ColKind.{ColKind}
use Rattle.amber_rows.specs.declared.column.Column.{Column}
use Rattle.amber_rows.specs.declared.flow.What.{What}
use Rattle.amber_rows.specs.declared.flow.What.TheVariants as what
use Rattle.amber_rows.specs.declared.flow.Operator.{Operator}
use Rattle.amber_log.specs.Fits.{may_be_set_to, is_cell_of, is_source, is_there, takes_cond, takes_constant}
use Rattle.amber_log.specs.declared.command.Command.{Command}
use Rattle.amber_script.specs.Commands.{filtered_kind, settable_kind}

-- ---- operators

is_at : (flow : List Operator) (place : ℕ) → place < length flow → is_there (slice_get flow place) ≡ true
is_at [] place inside = absurd (omega (arith, inside))
is_at (operator ∷ flow) zero inside = refl
is_at (operator ∷ flow) (suc place) inside = is_at flow place (omega (arith, inside))

-- the operator at a place has the number after it
pub is_found : (flow : List Operator) (place : ℕ) → place < length flow → is_there (nth flow (place + 1)) ≡ true
is_found flow place inside =
    let no : (place + 1 == 0) ≡ false = ne_eqb (place + 1) 0 (omega arith) in
    let less : place + 1 - 1 ≡ place = omega arith in
    rw (no, less) (is_at flow place inside)

-- ---- constants

-- a value of a column's kind may stand there
of_cell : (column : Option Column) (kind : ColKind) (one : Value) → option_map (λ found. found.kind) column ≡ Some kind → same_kind kind (kind_of one) ≡ true → is_cell_of column one ≡ true
of_cell None kind one is fits = absurd (cc)
of_cell (Some column) kind one is fits =
    let same : column.kind ≡ kind = cc in
    subst (λ (k : ColKind). same_kind k (kind_of one) ≡ true) (sym same) fits

of_filter : (what : What) (columns : List Column) (kind : ColKind) (one : Value) → filtered_kind what columns ≡ Some kind → same_kind kind (kind_of one) ≡ true → may_be_set_to what columns one ≡ true
of_filter (what.Scan file) columns kind one is fits = absurd (cc)
of_filter (what.Filter input cond) columns kind one is fits = of_cell (nth columns cond.column) kind one is fits
of_filter (what.Project input from) columns kind one is fits = absurd (cc)
of_filter (what.Join build probe build_keys probe_keys) columns kind one is fits = absurd (cc)
of_filter (what.Group input keys aggs) columns kind one is fits = absurd (cc)
of_filter (what.Sink input) columns kind one is fits = absurd (cc)

-- a constant of the kind that can be set
pub is_taken : (operator : Option Operator) (kind : ColKind) (one : Value) → settable_kind operator ≡ Some kind → same_kind kind (kind_of one) ≡ true → takes_constant operator one ≡ true
is_taken None kind one is fits = absurd (cc)
is_taken (Some operator) kind one is fits = of_filter operator.what operator.schema kind one is fits

-- ---- conditions

-- a constant of the kind of a condition's column
pub is_cell : (columns : List Column) (number : ℕ) (kind : ColKind) (one : Value) → column_kind_at columns number ≡ Some kind → same_kind kind (kind_of one) ≡ true
    → is_cell_of (nth columns number) one ≡ true
is_cell columns number kind one is fits = of_cell (nth columns number) kind one is fits

-- a condition on a column of an operator that emits rows
pub is_tested : (operator : Option Operator) (cond : Cond) → is_source operator ≡ true → is_cell_of (nth (schema_of operator) cond.column) cond.constant ≡ true
    → takes_cond operator cond ≡ true
is_tested None cond emits cell = absurd (cc)
is_tested (Some operator) cond emits cell = and_from (not (is_sink operator.what)) (is_cell_of (nth operator.schema cond.column) cond.constant) emits cell

-- ---- lists

-- one command more
pub all_fit_more : (test : Command → Bool) (commands : List Command) (one : Command) → list_all test commands ≡ true → test one ≡ true
    → list_all test (commands ++ one ∷ []) ≡ true
all_fit_more test commands one before fits =
    list_all-append test commands (one ∷ []) ∙ and_from (list_all test commands) (test one && true) before (and_from (test one) true fits refl)
