-- The workers so far have given their seats back.
use Rattle.std.proofs.Common.{◌≡◌}
use Rattle.std.specs.Vec.{vec_capacity}
use Rattle.amber_boards.proofs.Disarming.{AreBack, IsDisarmed}
use Rattle.amber_boards.proofs.OneByOne.{AreChanged}
use Rattle.amber_boards.proofs.counter.take_seats.Given as goal

abbrev pub invariant-workers : goal.invariant-workers
invariant-workers l = record {
  disarmed : AreChanged l.op l.first l.place (IsDisarmed l.first l.initial.dataflow) l.initial.dataflow l.dataflow;
  back : AreBack l.counter-inside.board l.first l.place l.initial.dataflow l.counter-inside.seats.items;
  board : l.counter-inside.board ≡ l.initial.counter-inside.board;
  target : l.counter-inside.target ≡ l.initial.counter-inside.target;
  room : vec_capacity l.counter-inside.seats ≡ vec_capacity l.initial.counter-inside.seats;
}
