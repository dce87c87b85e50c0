-- The numbers are those of the senders and of the receivers.
use Rattle.std.proofs.Common.{subst}
use Rattle.amber_rows.specs.declared.flow.What.{What}
use Rattle.amber_worker.specs.Made.{AreFreshSenders}
use Rattle.amber_worker.proofs.new_worker.ends_of.Goals as goal

pub returns-clause-numbers : goal.returns-clause-numbers
returns-clause-numbers c = record {
  senders = c.in_ok-ins.ensures.numbers;
  fresh = subst (λ (k : What). AreFreshSenders c.args.flow.now k c.in_ok-ins.ins.items) c.what_of-what.ensures c.in_ok-ins.ensures.fresh;
  receivers = c.in_ok-outs.ensures.numbers;
}
