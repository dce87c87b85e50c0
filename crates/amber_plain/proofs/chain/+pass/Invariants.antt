-- The rows so far were sent.
use Rattle.std.proofs.Common.{◌≡◌, ◌+◌, ◌*◌, ◌++◌, length}
use Rattle.amber_plain.specs.Holding.{Takes}
use Rattle.amber_plain.specs.Stages.{count_through, rows_through}
use Rattle.amber_plain.proofs.chain.+pass.Given as goal

abbrev pub decreases-pass : goal.decreases-pass
decreases-pass l = 2 * length l.stages.now

abbrev pub decreases-pass_all : goal.decreases-pass_all
decreases-pass_all l = 2 * length l.stages.now + 1

abbrev pub invariant-pass_all-loop-row : goal.invariant-pass_all-loop-row
invariant-pass_all-loop-row l = record {
  taken : Takes l.initial.holder l.holder (rows_through l.stages l.yielded);
  whole : l.yielded ++ l.row-iterator.rest.items ≡ l.fn.rows.items;
  spent : l.initial.left ≡ l.left + count_through l.stages l.yielded;
}
