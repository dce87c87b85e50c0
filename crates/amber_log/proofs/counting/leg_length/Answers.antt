-- No beginning of the parts has more lines than all of them.
use Rattle.std.proofs.Common.{◌∷◌, [], arith, length-append}
use Rattle.std.specs.List.{flat_map}
use Rattle.amber_log.specs.LogText.{part_lines}
use Rattle.amber_log.specs.declared.line.Line.TheVariants as line
use Rattle.amber_log.proofs.Lengths.{parts-few}
use Rattle.amber_log.proofs.counting.leg_length.Goals as goal

pub part_length-lines-requires : goal.part_length-lines-requires
part_length-lines-requires c =
    let leg = c.args.leg.now in
    let few = parts-few leg.parts c.loop-part.part-index c.part-item.result (rw c.get-part-items.ensures at c.loop-part-test.true)
    (rw c.get-part-items.ensures at c.part-item.is) in
    omega (arith, few, c.requires, length-append (flat_map part_lines leg.parts) (line.Close leg.close ∷ []))

pub overflow_add-lines : goal.overflow_add-lines
overflow_add-lines c =
    let leg = c.args.leg.now in
    let few = parts-few leg.parts c.loop-part.part-index c.part-item.result (rw c.get-part-items.ensures at c.loop-part-test.true)
    (rw c.get-part-items.ensures at c.part-item.is) in
    omega (arith, few, c.requires, c.loop-part.invariant, c.part_length-lines.ensures, length-append (flat_map part_lines leg.parts) (line.Close leg.close ∷ []))
