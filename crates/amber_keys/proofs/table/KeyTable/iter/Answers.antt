-- The map's own.
use Rattle.std.proofs.Common.{◌∙◌, ap}
use Rattle.amber_keys.specs.KeyTable.{Table}
use Rattle.amber_keys.proofs.table.KeyTable.iter.Goals as goal

pub returns : goal.returns
returns g c = record { rest = c.iter.ensures.rest ∙ ap (λ (table : Table g.row.V.Denot). table.entries) c.self.view_is; runs = c.iter.ensures.runs }
