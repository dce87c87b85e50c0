-- The workers so far have their seats.
use Rattle.std.proofs.Common.{◌≡◌, ◌++◌, length}
use Rattle.std.specs.Vec.Iter.{into_iter_items}
use Rattle.amber_boards.proofs.Arming.{IsSeated}
use Rattle.amber_boards.proofs.OneByOne.{AreChanged}
use Rattle.amber_boards.proofs.counter.arm_operator.Given as goal

abbrev pub invariant-seats : goal.invariant-seats
invariant-seats l = record {
  all : l.yielded ++ into_iter_items l.seat-iterator ≡ l.fn.dealt.items;
  place : l.place ≡ length l.yielded;
  armed : AreChanged l.op l.first l.place (IsSeated l.first l.fn.dealt.items l.initial.dataflow) l.initial.dataflow l.dataflow;
}
