-- The workers so far are made, and the parts of the others are there.
use Rattle.std.proofs.Common.{◌≡◌, ◌<◌, ◌≤◌, ℕ, length}
use Rattle.amber_dataflow.specs.AtWork.{worker_state_at}
use Rattle.amber_dataflow.specs.Start.{IsNew, ends_at, share_of_worker}
use Rattle.amber_dataflow.proofs.new_workers.make_crew.Given as goal

abbrev pub invariant-workers : goal.invariant-workers
invariant-workers l = record {
  all : length l.crew.items ≡ l.worker;
  shares_all : length l.shares.items ≡ length l.initial.shares.items;
  outs_all : length l.outs.items ≡ length l.initial.outs.items;
  ins_all : length l.ins.items ≡ length l.initial.ins.items;
  shares : (k : ℕ) → l.worker ≤ k → share_of_worker l.shares.items k ≡ share_of_worker l.initial.shares.items k;
  outs : (k : ℕ) → l.worker ≤ k → ends_at l.outs.items k ≡ ends_at l.initial.outs.items k;
  ins : (k : ℕ) → l.worker ≤ k → ends_at l.ins.items k ≡ ends_at l.initial.ins.items k;
  made : (k : ℕ) → k < l.worker → IsNew (record {
    flow = l.flow;
    batch_size = l.batch_size;
    shares = l.initial.shares.items;
    outs = l.initial.outs.items;
    ins = l.initial.ins.items;
  }) k (worker_state_at l.crew.items k);
}
