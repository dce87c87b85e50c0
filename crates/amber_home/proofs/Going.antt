-- Workers that go on.
use Rattle.std.proofs.Common.{◌≡◌, refl, sym, ap, subst, ◌∙◌, ℕ, ◌<◌, List, length, Option, option_map, arith}
use Rattle.amber_rows.specs.Topology.{crew_of}
use Rattle.amber_rows.specs.declared.flow.Operator.{Operator}
use Rattle.amber_dataflow.specs.Dataflow.{AreAllThere, DataflowState, MovesUnder, StandAgain, TurnsAt, all_resumed, turned_of}
use Rattle.amber_dataflow.proofs.Resumed.{resumed-there}
use Rattle.amber_boards.specs.Boards.{ChangeUnits, CounterState, StandInForce}
use Rattle.amber_home.specs.Asked.{Asked}
use Rattle.amber_home.specs.Going.{AreReady, GoOn}
use Rattle.amber_home.specs.Leg.{is_count_asked}
use Rattle.amber_home.proofs.Driven.{turned-resumed, turned-units}
use Rattle.amber_home.proofs.Ready.{armed-in}

-- nobody has moved
pub on-refl : (arms : List Asked) (d : DataflowState) → GoOn arms d d
on-refl arms d = record { flow = refl; there = λ all. all; on = λ query start positions stand in_force. (positions, stand); undriven = λ worker. refl }

-- where one makes turns, all go on
pub one-on : (arms : List Asked) (boards : List (Option CounterState)) (old new : DataflowState) (worker most : ℕ) → AreReady arms boards old → worker < crew_of old.flow
    → TurnsAt most old new worker → GoOn arms old new
unfolding MovesUnder
one-on arms boards old new worker most ready inside turns = record {
  flow = turns.flow;
  there = λ all. turns.there;
  on = λ query start positions stand in_force.
      let next = turns.on query start positions stand (armed-in arms boards old ready worker inside query start positions stand in_force) in (next.0, next.1);
  undriven = turns.undriven;
}

-- who was paused goes on
pub resumed-on : (arms : List Asked) (boards : List (Option CounterState)) (old new : DataflowState) → AreReady arms boards old → new ≡ all_resumed old → StandAgain old new → GoOn arms old new
unfolding StandAgain
resumed-on arms boards old new ready is again = record {
  flow = ap (λ (d : DataflowState). d.flow) is;
  there = λ all. subst AreAllThere (sym is) (resumed-there old all);
  on = λ query start positions stand in_force.
      again query start positions stand
      (λ worker inside. armed-in arms boards old ready worker (subst (λ (f : List Operator). worker < crew_of f) (sym stand.flow) inside) query start positions stand in_force);
  undriven = λ worker. ap (λ (d : DataflowState). turned_of d worker) is ∙ turned-resumed old worker;
}

-- units change hands
pub units-on : (arms : List Asked) (counted : ℕ → Rattle.std.proofs.Common.Bool) (old new : DataflowState) → ((op : ℕ) → counted op ≡ is_count_asked arms op) → ChangeUnits counted old new → GoOn arms old new
units-on arms counted old new same units = record {
  flow = units.flow;
  there = λ all. units.long ∙ all ∙ ap crew_of (sym units.flow);
  on = λ query start positions stand in_force. units.on query start positions stand (λ op. in_force op ∙ sym (same op));
  undriven = turned-units counted old new units;
}

-- they go on, and then again
pub on-then : (arms : List Asked) (a b c : DataflowState) → GoOn arms a b → GoOn arms b c → GoOn arms a c
on-then arms a b c first second = record {
  flow = second.flow ∙ first.flow;
  there = λ all. second.there (first.there all);
  on = λ query start positions stand in_force. let next = first.on query start positions stand in_force in second.on query start next.0 next.1 in_force;
  undriven = λ worker. second.undriven worker ∙ first.undriven worker;
}

-- and stand somewhere in the same leg
pub stand-on : (arms : List Asked) (old new : DataflowState) → GoOn arms old new → StandInForce (is_count_asked arms) old → StandInForce (is_count_asked arms) new
stand-on arms old new on stand = let next = on.on stand.0 stand.1 stand.2 stand.3 stand.4 in (stand.0, stand.1, next.0, next.1, stand.4)
