-- Cell by cell.
use Rattle.std.proofs.Common.{◌∙◌, ap, fold, sym, take_all}
use Rattle.std.proofs.hash.Loops.{each_more}
use Rattle.std.specs.List.{flat_map}
use Rattle.amber_keys.specs.Hashing.{cell_writes, key_writes}
use Rattle.amber_keys.proofs.key.KeyHash.hash.Goals as goal

pub loop-cell-preserved : goal.loop-cell-preserved
loop-cell-preserved g c =
    c.hash_cell.ensures
    ∙ ap (λ state. fold g.H.Hasher.write state (cell_writes c.cell-item.result)) c.loop-cell.invariant
    ∙ sym (each_more g.H.Hasher.write cell_writes c.args.state.now c.get-cells.result.now c.loop-cell.cell-index c.cell-item.result c.loop-cell-test.true c.cell-item.is)

pub returns : goal.returns
unfolding key_writes
returns g c =
    c.loop-cell.invariant
    ∙ ap (λ cells. fold g.H.Hasher.write c.args.state.now (flat_map cell_writes cells)) (take_all c.loop-cell.cell-index c.get-cells.result.now c.loop-cell-test.false ∙ c.get-cells.ensures ∙ c.self.view_is)
