-- One record more is taken.
use Rattle.std.proofs.Common.{◌++◌, ◌∙◌, List, ap, append_assoc, arith, false, subst, sym}
use Rattle.amber_rows.specs.declared.column.Column.{Column}
use Rattle.amber_meaning.specs.Refused.{refusal_in}
use Rattle.amber_meaning.specs.Task.{row_in}
use Rattle.amber_scan.specs.Shares.{Suits}
use Rattle.amber_scan.specs.declared.share.Scanned.{Scanned}
use Rattle.amber_operators.specs.RowsTaken.{gives_if}
use Rattle.amber_operators.specs.declared.operator_state.OperatorState.TheVariants as operator_state
use Rattle.amber_operators.proofs.Lists.{left-next}
use Rattle.amber_operators.proofs.Yields.{flat-front}
use Rattle.amber_operators.proofs.redone_records.take_records.Goals as goal

pub loop-preserved : goal.loop-preserved
loop-preserved c =
    let old = c.loop.invariant in
    let i = c.loop.counter in
    let one = c.take_ready-one.result in
    let columns = c.args.share.now.columns in
    let first = sym old.left ∙ c.take_ready-one.ensures.took in
    let suits = subst (λ (l : List Column). Suits l one.what) old.columns c.take_ready-one.ensures.suits in
    record {
      left = sym (left-next i c.args.share.now.left one c.take_ready-one.new.self.left first);
      ready = omega (arith, old.ready, c.take_ready-one.ensures.ready, c.loop-test.true, c.requires.there);
      columns = c.take_ready-one.ensures.columns ∙ old.columns;
      pending = c.place_record.ensures.pending columns suits ∙ ap (λ l. l ++ gives_if operator_state.Scan false (row_in columns one.what)) old.pending
          ∙ append_assoc c.args.pending.now.items _ _
          ∙ ap (λ l. c.args.pending.now.items ++ l) (sym (flat-front (λ (other : Scanned). gives_if operator_state.Scan false (row_in columns other.what)) c.args.share.now.left i one c.take_ready-one.new.self.left first));
      refused = c.place_record.ensures.refused ∙ ap (λ l. l ++ refusal_in c.args.op one.number one.what) old.refused
          ∙ append_assoc c.args.refused.now.items _ _
          ∙ ap (λ l. c.args.refused.now.items ++ l) (sym (flat-front (λ (other : Scanned). refusal_in c.args.op other.number other.what) c.args.share.now.left i one c.take_ready-one.new.self.left first));
      longer = omega (arith, old.longer, c.place_record.ensures.longer);
      slots = c.place_record.ensures.slots ∙ old.slots;
      longer_refused = omega (arith, old.longer_refused, c.place_record.ensures.longer_refused);
      slots_refused = c.place_record.ensures.slots_refused ∙ old.slots_refused;
    }
