-- What a worker shows does not depend on its seat, on the room of its journal, nor on how often it was driven.
use Rattle.std.proofs.Common.{◌≡◌, ℕ, List, Option, Bool}
use Rattle.amber_board.specs.declared.types.WorkSeat.{WorkSeat}
use Rattle.amber_log.specs.declared.entry.Entry.{Entry}
use Rattle.amber_meaning.specs.Position.{Position, Restraint}
use Rattle.amber_worker.specs.AtPosition.{Context, Shows}
use Rattle.amber_worker.specs.WorkerState.{WorkerState}

-- what stands apart from its work
pub record Apart : Type 0 where
  pub seat : Option WorkSeat
  pub restraint : Restraint
  pub journal : List Entry
  pub reserved : Bool
  pub turned : ℕ

abbrev pub with_apart : Apart → WorkerState → WorkerState
with_apart apart w = record w { seat = apart.seat; restraint = apart.restraint; journal = apart.journal; reserved = apart.reserved; turned = apart.turned }

-- the same position but for what holds it
pub shows-apart : (context : Context) (w : WorkerState) (p : Position) (apart : Apart) (restraint : Restraint) → apart.restraint ≡ restraint
    → Shows context w p → Shows context (with_apart apart w) (record p { restraint = restraint })
shows-apart context w p apart restraint same shows = record {
  op = shows.op;
  number = shows.number;
  operator_state = shows.operator_state;
  state = shows.state;
  columns = shows.columns;
  build_columns = shows.build_columns;
  sides = shows.sides;
  builders = shows.builders;
  building = shows.building;
  when = shows.when;
  rest = shows.rest;
  pending = shows.pending;
  taken = shows.taken;
  emitted = shows.emitted;
  batches = shows.batches;
  within = shows.within;
  produced = shows.produced;
  refused = shows.refused;
  kept = shows.kept;
  restraint = same;
  finished = shows.finished;
  ins = shows.ins;
  outs = shows.outs;
  route = shows.route;
}
