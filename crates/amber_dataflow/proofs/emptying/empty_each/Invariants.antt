-- The workers so far have given the seat back, and the others have none.
use Rattle.std.proofs.Common.{◌≡◌, ◌++◌, drop, map, take}
use Rattle.amber_dataflow.specs.Redoing.{IsBareSeat, emptied}
use Rattle.amber_dataflow.proofs.emptying.empty_each.Given as goal

abbrev pub invariant-workers : goal.invariant-workers
invariant-workers l = record {
  crew : l.crew ≡ map emptied (take l.number l.initial.crew) ++ drop l.number l.initial.crew;
  bare : IsBareSeat l.board l.seat;
}
