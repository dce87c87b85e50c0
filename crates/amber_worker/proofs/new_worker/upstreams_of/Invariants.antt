-- The senders so far have the first numbers, and the first ends.
use Rattle.std.proofs.Common.{◌≡◌, ◌++◌, length, map, take}
use Rattle.std.specs.Vec.Iter.{into_iter_items}
use Rattle.amber_worker.specs.Made.{AreFreshSenders, end_of, from_of}
use Rattle.amber_worker.proofs.new_worker.upstreams_of.Given as goal

abbrev pub invariant-loop-link : goal.invariant-loop-link
invariant-loop-link l = record {
  all : l.yielded ++ into_iter_items l.link-iterator ≡ l.fn.ins.items;
  place : l.place ≡ length l.yielded;
  numbers : map from_of l.senders.items ≡ take l.place l.numbers;
  ends : map end_of l.senders.items ≡ l.yielded;
  fresh : AreFreshSenders l.flow l.what l.senders.items;
}
