use Rattle.std.proofs.Common.{bytes_eq, rules}
use Rattle.std.proofs.lemmas.Iterator.{YieldsList-from_slice}
use Rattle.std.proofs.lemmas.Iterator.Search.{position_from_yields_List}
use Rattle.amber_rows.specs.declared.column.Column.{Column}
use Rattle.amber_flow.proofs.columns.place_of.Goals as goal

pub returns-clause-place : goal.returns-clause-place
returns-clause-place c =
    position_from_yields_List (λ (column : Column). bytes_eq column.name c.args.name.now) _ _ c.position.result c.position.ensures.ran (YieldsList-from_slice c.args.columns.now cc) (λ x b q k. search rules)
