-- The table has the places of the matches, or there is none.
use Rattle.std.proofs.Common.{◌∙◌, ◌++◌, List, Some, ap, map, slice_get, sym}
use Rattle.std.specs.List.{filter_map}
use Rattle.std.specs.Map.{lookup}
use Rattle.amber_rows.specs.Operators.{matches_of, same_row}
use Rattle.amber_rows.specs.declared.value.Value.{Value}
use Rattle.amber_join.specs.Join.{Join}
use Rattle.amber_join.proofs.PlaceTables.{probe-found, probe-none}
use Rattle.amber_join.proofs.state.JoinState.probe_over.Goals as goal

pub returns : goal.returns
returns c =
    let row = c.args.row.now in
    let state = c.self.inside in
    let places = c.entry.result.1.now in
    c.new-2.ensures ∙ c.in_ok-made.ensures
    ∙ (λ j. map (λ (other : List Value). row ++ other) (filter_map (slice_get (c.as_slice.ensures.value j)) places))
    ∙ probe-found state.build_keys state.probe_keys state.rows.items row state.table.entries c.self.invariant c.in-Some.place places c.in-Some.ensures.distinct
    (c.in-Some.ensures.place ∙ ap Some c.in_ok-key.ensures) c.entry.ensures.value
    ∙ ap (λ (view : Join). matches_of view.build_keys view.probe_keys view.rows row) c.self.view_is

pub returns-in_default : goal.returns-in_default
returns-in_default c =
    let row = c.args.row.now in
    let state = c.self.inside in
    c.new-in_default.ensures ∙ c.new.ensures.items
    ∙ probe-none state.build_keys state.probe_keys state.rows.items row state.table.entries c.self.invariant
    (ap (λ k. lookup (same_row k) state.table.entries) (sym c.in_ok-key.ensures) ∙ c.in_default.ensures.absent)
    ∙ ap (λ (view : Join). matches_of view.build_keys view.probe_keys view.rows row) c.self.view_is
