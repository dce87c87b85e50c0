-- One row more in what is kept for an aggregate.
use Rattle.std.proofs.Common.{◌≡◌, ℕ, Bool, true, false, cond, List, [], ◌∷◌, ◌++◌, map, Option, Some, None, refl, sym, ap, ◌∙◌, arith, length-append, ◌+ℤ◌, pos}
use Rattle.std.specs.List.{cons_option}
use Rattle.std.specs.Option.{option_to_list}
use Rattle.std.specs.Ordering.{is_gt, is_lt}
use Rattle.std.proofs.lemmas.Int.{ints}
use Rattle.std.proofs.lemmas.List.{append-nil}
use Rattle.std.proofs.lemmas.List.Elements.{filter_map-append}
use Rattle.amber_rows.specs.Lists.{nth}
use Rattle.amber_rows.specs.Operators.{cells_at, greatest_of, greatest_value, least_of, least_value, number_of, total_of}
use Rattle.amber_rows.specs.Order.{value_cmp}
use Rattle.amber_rows.specs.declared.value.Value.{Value}
use Rattle.amber_rows.specs.declared.agg.Agg.{Agg}
use Rattle.amber_rows.specs.declared.agg.Agg.TheVariants as agg
use Rattle.amber_group.specs.declared.running.Running.TheVariants.{Count, Sum, Min, Max}
use Rattle.amber_group.specs.Running.{running_of}
use Rattle.amber_group.specs.Steps.{addend, change_of, first_of_both, with_best, running_after, winner}

abbrev Row : Type 0
Row = List Value

one_cell : (o : Option Value) → cons_option o [] ≡ option_to_list o
one_cell None = refl
one_cell (Some cell) = refl

cells-more : (column : ℕ) (rows : List Row) (row : Row) → cells_at column (rows ++ row ∷ []) ≡ cells_at column rows ++ option_to_list (nth row column)
cells-more column rows row =
    filter_map-append (λ (one : Row). nth one column) rows (row ∷ []) ∙ ap (λ cells. cells_at column rows ++ cells) (one_cell (nth row column))

total-push : (cells : List Value) (cell : Value) → total_of (cells ++ cell ∷ []) ≡ total_of cells +ℤ number_of cell
unfolding total_of
total-push [] cell = omega (arith, ints)
total-push (x ∷ cells) cell = omega (arith, ints, total-push cells cell)

sum-more : (cells : List Value) (o : Option Value) → total_of cells +ℤ addend o ≡ total_of (cells ++ option_to_list o)
sum-more cells None = let same : total_of cells +ℤ pos 0 ≡ total_of cells = omega (arith, ints) in same ∙ ap total_of (sym (append-nil cells))
sum-more cells (Some cell) = sym (total-push cells cell)

better : (b : Bool) (cell best : Value) → first_of_both (cond b (Some cell) None) (Some best) ≡ Some (cond b cell best)
better true cell best = refl
better false cell best = refl

least-push : (best cell : Value) (cells : List Value) → least_of best (cells ++ cell ∷ []) ≡ cond (is_lt (value_cmp cell (least_of best cells))) cell (least_of best cells)
unfolding least_of
least-push best cell [] = refl
least-push best cell (x ∷ cells) = least-push (cond (is_lt (value_cmp x best)) x best) cell cells

least-more : (cells : List Value) (o : Option Value) → first_of_both (winner is_lt (least_value cells) o) (least_value cells) ≡ least_value (cells ++ option_to_list o)
unfolding least_of
least-more [] None = refl
least-more [] (Some cell) = refl
least-more (x ∷ cells) None = ap (λ all. Some (least_of x all)) (sym (append-nil cells))
least-more (x ∷ cells) (Some cell) = better (is_lt (value_cmp cell (least_of x cells))) cell (least_of x cells) ∙ ap Some (sym (least-push x cell cells))

greatest-push : (best cell : Value) (cells : List Value)
    → greatest_of best (cells ++ cell ∷ []) ≡ cond (is_gt (value_cmp cell (greatest_of best cells))) cell (greatest_of best cells)
unfolding greatest_of
greatest-push best cell [] = refl
greatest-push best cell (x ∷ cells) = greatest-push (cond (is_gt (value_cmp x best)) x best) cell cells

greatest-more : (cells : List Value) (o : Option Value) → first_of_both (winner is_gt (greatest_value cells) o) (greatest_value cells) ≡ greatest_value (cells ++ option_to_list o)
unfolding greatest_of
greatest-more [] None = refl
greatest-more [] (Some cell) = refl
greatest-more (x ∷ cells) None = ap (λ all. Some (greatest_of x all)) (sym (append-nil cells))
greatest-more (x ∷ cells) (Some cell) = better (is_gt (value_cmp cell (greatest_of x cells))) cell (greatest_of x cells) ∙ ap Some (sym (greatest-push x cell cells))

running_after-more : (rows : List Row) (row : Row) (one : Agg) → running_after row (running_of rows one) ≡ running_of (rows ++ row ∷ []) one
unfolding running_of change_of with_best
running_after-more rows row agg.Count = ap Count (sym (length-append rows (row ∷ [])))
running_after-more rows row (agg.Sum column) = ap (Sum column) (sum-more (cells_at column rows) (nth row column) ∙ ap total_of (sym (cells-more column rows row)))
running_after-more rows row (agg.Min column) = ap (Min column) (least-more (cells_at column rows) (nth row column) ∙ ap least_value (sym (cells-more column rows row)))
running_after-more rows row (agg.Max column) = ap (Max column) (greatest-more (cells_at column rows) (nth row column) ∙ ap greatest_value (sym (cells-more column rows row)))

-- what is kept of rows, and then one row more, is what is kept of them all
pub steps-more : (rows : List Row) (row : Row) (aggs : List Agg) → map (running_after row) (map (running_of rows) aggs) ≡ map (running_of (rows ++ row ∷ [])) aggs
steps-more rows row [] = refl
steps-more rows row (one ∷ aggs) = λ i. running_after-more rows row one i ∷ steps-more rows row aggs i
