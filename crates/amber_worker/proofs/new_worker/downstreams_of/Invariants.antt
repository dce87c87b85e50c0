-- The receivers so far have the first numbers, and the first ends.
use Rattle.std.proofs.Common.{◌≡◌, ◌++◌, length, map, take}
use Rattle.std.specs.Vec.Iter.{into_iter_items}
use Rattle.amber_worker.specs.Made.{out_of, to_of}
use Rattle.amber_worker.proofs.new_worker.downstreams_of.Given as goal

abbrev pub invariant-loop-link : goal.invariant-loop-link
invariant-loop-link l = record {
  all : l.yielded ++ into_iter_items l.link-iterator ≡ l.fn.outs.items;
  place : l.place ≡ length l.yielded;
  numbers : map to_of l.receivers.items ≡ take l.place l.numbers;
  links : map out_of l.receivers.items ≡ l.yielded;
}
