-- One row more.
use Rattle.std.proofs.Common.{arith}
use Rattle.amber_operators.proofs.RedoneFates.{fates-more, fates-none}
use Rattle.amber_operators.proofs.redone_rows.fates_of.Goals as goal

pub loop-i-init : goal.loop-i-init
loop-i-init c = (fates-none c.args.operator_state.now c.args.columns.now c.args.rows.now.items c.in_ok-each.each.items c.in_ok-each.ensures.items, omega (arith, c.in_ok-each.ensures.exact))

pub loop-i-preserved : goal.loop-i-preserved
loop-i-preserved c = (
  fates-more c.args.operator_state.now c.args.columns.now c.args.rows.now.items c.loop-i.i c.loop-i.each.items c.push_reserved.new.self.items c.in_ok-fate.fate c.loop-i.before c.loop-i.made c.made_of-made.result
      c.index-row.result.now c.loop-i.invariant.0 (omega (arith, c.loop-i-test.true, c.requires.there)) c.index-row.ensures c.in_ok-fate.ensures c.made_of-made.ensures.is
      c.made_of-made.ensures.one c.push_reserved.ensures.items,
  omega (arith, c.loop-i.invariant.1, c.push_reserved.ensures.capacity),
)
