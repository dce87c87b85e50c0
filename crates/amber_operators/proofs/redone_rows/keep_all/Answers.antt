-- One row more is kept, if it suits.
use Rattle.std.proofs.Common.{Ok, ◌∙◌, ◌++◌, List, ap, append_assoc, arith, sym}
use Rattle.amber_rows.specs.declared.value.Value.{Value}
use Rattle.amber_meaning.specs.Task.{row_in}
use Rattle.amber_operators.specs.RowsTaken.{keeps_if}
use Rattle.amber_operators.specs.declared.operator_state.OperatorState.TheVariants as operator_state
use Rattle.amber_operators.proofs.Lists.{left-next}
use Rattle.amber_operators.proofs.Yields.{flat-front}
use Rattle.amber_operators.proofs.redone_rows.keep_all.Goals as goal

pub loop-preserved : goal.loop-preserved
loop-preserved c =
    let old = c.loop.invariant in
    let first = sym old.rows ∙ c.in-Some.ensures.items in
    let i = c.loop.counter in
    record {
      rows = sym (left-next i c.args.rows.now.items c.in-Some.row c.pop_front.new.self.items first);
      kept = c.keep_one.ensures.keeps ∙ ap (λ l. l ++ keeps_if operator_state.Sink (row_in c.args.columns.now (Ok c.in-Some.row))) old.kept
          ∙ append_assoc c.args.kept.now.items _ _
          ∙ ap (λ l. c.args.kept.now.items ++ l) (sym (flat-front (λ (row : List Value). keeps_if operator_state.Sink (row_in c.args.columns.now (Ok row))) c.args.rows.now.items i c.in-Some.row c.pop_front.new.self.items first));
      longer = omega (arith, old.longer, c.keep_one.ensures.longer);
      slots = c.keep_one.ensures.slots ∙ old.slots;
    }
