-- The table has an entry for each key.
use Rattle.std.proofs.Common.{◌∙◌, ap, length}
use Rattle.amber_rows.specs.Operators.{first_keys}
use Rattle.amber_join.specs.Join.{Join}
use Rattle.amber_join.proofs.PlaceTables.{length-table}
use Rattle.amber_join.proofs.state.JoinState.keys.Goals as goal

pub returns : goal.returns
returns c =
    let state = c.self.inside in
    c.len.ensures ∙ ap length c.self.invariant ∙ length-table state.build_keys state.rows.items ∙ ap (λ (view : Join). length (first_keys view.build_keys view.rows)) c.self.view_is
