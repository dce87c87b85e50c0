-- The rows of groups at the end.
use Rattle.std.proofs.Common.{◌≡◌, ℕ, ◌+◌, ◌<◌, ◌≤◌, List, [], ◌∷◌, ◌++◌, length, get_or, map, drop, Option, Some, None, option_map, refl, sym, ap, ◌∙◌, append_assoc}
use Rattle.std.specs.List.{cons_option, filter_map}
use Rattle.std.specs.Option.{option_and_then}
use Rattle.std.proofs.lemmas.List.{append-nil, drop_all, drop_more}
use Rattle.std.proofs.lemmas.List.Elements.{filter_map-append}
use Rattle.amber_rows.specs.Operators.{agg_value, agg_values, first_keys, group_row, group_result, key_if_none, refused_keys, rows_with}
use Rattle.amber_rows.specs.declared.value.Value.{Value}
use Rattle.amber_rows.specs.declared.agg.Agg.{Agg}
use Rattle.amber_rows.specs.declared.agg.Agg.TheVariants as agg
use Rattle.amber_group.specs.declared.running.Running.{Running}
use Rattle.amber_group.specs.Finished.{refused_of, finished_row, finished_rows, value_of, aggregate_values}
use Rattle.amber_group.specs.Group.{groups_of}
use Rattle.amber_group.specs.Running.{running_of}

abbrev Row : Type 0
Row = List Value

abbrev Group : Type 0
Group = Row × List Running

value-running : (rows : List Row) (one : Agg) → value_of (running_of rows one) ≡ agg_value rows one
unfolding value_of running_of agg_value
value-running rows agg.Count = refl
value-running rows (agg.Sum column) = refl
value-running rows (agg.Min column) = refl
value-running rows (agg.Max column) = refl

values-running : (rows : List Row) (aggs : List Agg) → aggregate_values (map (running_of rows) aggs) ≡ agg_values rows aggs
unfolding aggregate_values agg_values
values-running rows [] = refl
values-running rows (one ∷ aggs) = λ i. option_and_then (λ cell. option_map (λ cells. cell ∷ cells) (values-running rows aggs i)) (value-running rows one i)

entry_by_entry : {A B : Type 0} (f : Row → A) (g : Row × A → Option B) (h : Row → Option B) → ((key : Row) → g (key, f key) ≡ h key) → (ks : List Row)
    → filter_map g (map (λ key. (key, f key)) ks) ≡ filter_map h ks
entry_by_entry f g h same [] = refl
entry_by_entry f g h same (key ∷ ks) = λ i. cons_option (same key i) (entry_by_entry f g h same ks i)

module _ (keys : List ℕ) (aggs : List Agg) (rows : List Row) where
  row-group : (key : Row) → finished_row (key, map (running_of (rows_with keys rows key)) aggs) ≡ group_row keys aggs rows key
  row-group key = ap (option_map (λ cells. key ++ cells)) (values-running (rows_with keys rows key) aggs)

  pub rows-groups : finished_rows (groups_of keys aggs rows) ≡ group_result keys aggs rows
  unfolding groups_of group_result
  rows-groups = entry_by_entry (λ key. map (running_of (rows_with keys rows key)) aggs) finished_row (group_row keys aggs rows) row-group (first_keys keys rows)

  pub refused-groups : refused_of (groups_of keys aggs rows) ≡ refused_keys keys aggs rows
  unfolding groups_of refused_keys
  refused-groups =
      entry_by_entry (λ key. map (running_of (rows_with keys rows key)) aggs) (λ group. key_if_none group.0 (finished_row group)) (λ key. key_if_none key (group_row keys aggs rows key))
      (λ key. ap (key_if_none key) (row-group key)) (first_keys keys rows)

-- ---- group by group

pub rows-next : (groups next : List Group) (old new : List Row) (group : Group) → next ≡ groups ++ group ∷ [] → old ≡ finished_rows groups → new ≡ old ++ finished_rows (group ∷ []) → new ≡ finished_rows next
rows-next groups next old new group on o n =
    n ∙ ap (λ before. before ++ finished_rows (group ∷ [])) o ∙ sym (ap finished_rows on ∙ filter_map-append finished_row groups (group ∷ []))

pub refused-next : (groups next : List Group) (old new : List Row) (group : Group) → next ≡ groups ++ group ∷ [] → old ≡ refused_of groups → new ≡ old ++ refused_of (group ∷ []) → new ≡ refused_of next
refused-next groups next old new group on o n =
    n ∙ ap (λ before. before ++ refused_of (group ∷ [])) o
    ∙ sym (ap refused_of on ∙ filter_map-append (λ (one : Group). key_if_none one.0 (finished_row one)) groups (group ∷ []))

-- ---- value by value

one_before : (cells : List Value) (value : Value) (values : Option Row)
    → option_map (λ more. cells ++ more) (option_map (λ more. value ∷ more) values) ≡ option_map (λ more. (cells ++ value ∷ []) ++ more) values
one_before cells value None = refl
one_before cells value (Some more) = ap Some (sym (append_assoc cells (value ∷ []) more))

running_here : (runnings : List Running) (i : ℕ) (running : Running) → i < length runnings → running ≡ get_or runnings i running → drop i runnings ≡ running ∷ drop (i + 1) runnings
running_here runnings i running h e = drop_more runnings i running h ∙ ap (λ x. x ∷ drop (i + 1) runnings) (sym e)

pub values-go : (runnings : List Running) (i : ℕ) (running : Running) (cells new : List Value) (value : Value) → i < length runnings → running ≡ get_or runnings i running
    → value_of running ≡ Some value → new ≡ cells ++ value ∷ []
    → option_map (λ values. cells ++ values) (aggregate_values (drop i runnings)) ≡ option_map (λ values. new ++ values) (aggregate_values (drop (i + 1) runnings))
unfolding aggregate_values
values-go runnings i running cells new value h e is n = rw (running_here runnings i running h e, is, n) (one_before cells value (aggregate_values (drop (i + 1) runnings)))

pub values-stop : (runnings : List Running) (i : ℕ) (running : Running) (cells : List Value) → i < length runnings → running ≡ get_or runnings i running
    → value_of running ≡ None → option_map (λ values. cells ++ values) (aggregate_values (drop i runnings)) ≡ None
unfolding aggregate_values
values-stop runnings i running cells h e is = rw (running_here runnings i running h e, is) refl

pub values-end : (runnings : List Running) (i : ℕ) (cells : List Value) → length runnings ≤ i → option_map (λ values. cells ++ values) (aggregate_values (drop i runnings)) ≡ Some cells
unfolding aggregate_values
values-end runnings i cells h = rw (drop_all i runnings h) (ap Some (append-nil cells))
