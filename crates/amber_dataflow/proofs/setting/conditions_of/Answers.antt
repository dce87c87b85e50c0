-- One copy more was made.
use Rattle.amber_dataflow.proofs.Copies.{copies-more}
use Rattle.amber_dataflow.proofs.setting.conditions_of.Goals as goal

pub copies-init : goal.copies-init
copies-init c = record { made = c.new-copies.ensures.items }

pub copies-preserved : goal.copies-preserved
copies-preserved c = record {
  made = copies-more c.copies.counter c.args.cond.now c.in_ok-clone.field-0 c.copies.copies.items c.push.new.self.items c.copies.invariant.made c.in_ok-clone.ensures.cases
      c.in_ok-push.ensures.items;
}
