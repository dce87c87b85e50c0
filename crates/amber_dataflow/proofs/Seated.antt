-- One worker is given a seat or gives it back, or room is kept in its journal: where all stand then.
use Rattle.std.proofs.Common.{◌≡◌, refl, sym, ap, subst, Result, Ok, Err, ℕ, ◌<◌, List, length, set, Bool, true, if◌then◌else◌, arith, length-set}
use Rattle.std.specs.Result.{OnErr, OnOk}
use Rattle.std.proofs.lemmas.Bool.{ne_eqb}
use Rattle.amber_rows.specs.Topology.{crew_of}
use Rattle.amber_meaning.specs.Legal.{Query}
use Rattle.amber_meaning.specs.Position.{Position}
use Rattle.amber_meaning.specs.State.{State, position_at}
use Rattle.amber_worker.specs.AtPosition.{Context, IsAtPosition, KeepsUnder}
use Rattle.amber_worker.specs.WorkerState.{WorkerState, steps_made}
use Rattle.amber_worker.proofs.Turns.{keeps-same}
use Rattle.amber_dataflow.specs.AtWork.{context_in, is_counted, worker_state_at}
use Rattle.amber_dataflow.specs.Dataflow.{AreAllThere, DataflowState, IsDataflow, MovesUnder, StandAt, StandsUnder, room_kept, step_count}
use Rattle.amber_dataflow.proofs.Crews.{at-each, here-now, placed, same-place, there-still}
use Rattle.amber_dataflow.proofs.Renewed.{HasItsEnds, renewed}
use Rattle.amber_dataflow.proofs.Steps.{sum-more}

module _ (d : DataflowState) (worker : ℕ) (now : WorkerState) (there : worker < length d.workers) (ends : HasItsEnds (worker_state_at d.workers worker) now) where
  abbrev crew : List WorkerState
  crew = d.workers

  -- all, with this one as it is now
  abbrev put : DataflowState
  put = record d { workers = set crew worker now }

  same : (k : ℕ) → HasItsEnds (worker_state_at crew k) (worker_state_at (set crew worker now) k)
  same = at-each (λ k. HasItsEnds (worker_state_at crew k) (worker_state_at (set crew worker now) k)) worker
      (rw (here-now crew worker now there) ends)
      (λ k ne. rw (there-still crew worker now there k ne) (record { number = refl; ins = refl; outs = refl }))

  -- wherever they stood they stand again
  pub moves-put : (counted : Bool) → KeepsUnder counted (worker_state_at crew worker) now → MovesUnder counted d put worker
  unfolding KeepsUnder MovesUnder
  moves-put counted keeps query start positions stand under =
      let inside : worker < crew_of query.flow = rw (← stand.work.at.at_positions.all) there in
      let moved = keeps (context_in stand.work.at.at_positions.bases query start worker) (position_at start.positions worker) (positions worker) under (stand.work.at.at_positions.each worker inside) in (
        placed positions worker moved.0,
        record {
          flow = stand.flow;
          work = renewed query start start crew (set crew worker now) positions (placed positions worker moved.0) stand.work (length-set crew worker now) same
              (at-each (λ k. k < crew_of query.flow → IsAtPosition (context_in stand.work.at.at_positions.bases query start k)
              (worker_state_at (set crew worker now) k) (position_at start.positions k) (placed positions worker moved.0 k)) worker
              (λ h. rw (here-now crew worker now there, same-place worker) moved.1)
              (λ k ne h. rw (there-still crew worker now there k ne, ne_eqb k worker ne) (stand.work.at.at_positions.each k h)));
        },
        (λ other ne. ap (λ b. if b then moved.0 else positions other) (ne_eqb other worker ne)),
      )

  -- what is known of all workers still is
  pub kept-put : (counted : Bool) → KeepsUnder counted (worker_state_at crew worker) now → steps_made now ≡ steps_made (worker_state_at crew worker)
      → StandsUnder counted d worker → IsDataflow d → IsDataflow put
  unfolding MovesUnder step_count
  kept-put counted keeps steps stand is =
      let next = moves-put counted keeps stand.0 stand.1 stand.2 stand.3 stand.4 in
      record {
        flow = is.flow;
        few =
            let more = sum-more crew worker 0 now there (omega (arith, steps)) in
            let few = is.few in
            omega arith;
        stand = λ has. (stand.0, stand.1, next.0, next.1);
      }

-- ---- room

-- a worker stands where it stood
room-at : (context : Context) (w : WorkerState) (start p : Position) (room : Bool) → IsAtPosition context w start p → IsAtPosition context (record w { reserved = room }) start p
room-at context w start p room stands = record {
  leads = stands.leads;
  text = stands.text;
  shows = record {
    op = stands.shows.op;
    number = stands.shows.number;
    operator_state = stands.shows.operator_state;
    state = stands.shows.state;
    columns = stands.shows.columns;
    build_columns = stands.shows.build_columns;
    sides = stands.shows.sides;
    builders = stands.shows.builders;
    building = stands.shows.building;
    when = stands.shows.when;
    rest = stands.shows.rest;
    pending = stands.shows.pending;
    taken = stands.shows.taken;
    emitted = stands.shows.emitted;
    batches = stands.shows.batches;
    within = stands.shows.within;
    produced = stands.shows.produced;
    refused = stands.shows.refused;
    kept = stands.shows.kept;
    restraint = stands.shows.restraint;
    finished = stands.shows.finished;
    ins = stands.shows.ins;
    outs = stands.shows.outs;
    route = stands.shows.route;
  };
}

pub keeps-room : (counted : Bool) (w : WorkerState) → KeepsUnder counted w (record w { reserved = true })
unfolding KeepsUnder
keeps-room counted w context start p under stands = (p, room-at context w start p true stands)

-- and so do all
pub stand-reserved : (query : Query) (start : State) (d : DataflowState) (positions : ℕ → Position) (worker : ℕ) → worker < length d.workers → StandAt query start d positions
    → StandAt query start (room_kept worker d) positions
stand-reserved query start d positions worker there stand =
    let w = worker_state_at d.workers worker in
    let now : WorkerState = record w { reserved = true } in
    record {
      flow = stand.flow;
      work = renewed query start start d.workers (set d.workers worker now) positions positions stand.work (length-set d.workers worker now)
          (same d worker now there (record { number = refl; ins = refl; outs = refl }))
          (at-each (λ k. k < crew_of query.flow → IsAtPosition (context_in stand.work.at.at_positions.bases query start k) (worker_state_at (set d.workers worker now) k) (position_at start.positions k) (positions k)) worker
          (λ h. rw (here-now d.workers worker now there) (room-at (context_in stand.work.at.at_positions.bases query start worker) w (position_at start.positions worker) (positions worker) true (stand.work.at.at_positions.each worker h)))
          (λ k ne h. rw (there-still d.workers worker now there k ne) (stand.work.at.at_positions.each k h)));
    }

-- room was made, or there was no memory for it
module _ {E : Type 0} (counted : Bool) (w now : WorkerState) where
  reserved-keeps : (r : Result (Unit {0}) E) → OnOk r (now ≡ record w { reserved = true }) → OnErr r (now ≡ w) → KeepsUnder counted w now
  reserved-keeps (Ok done) ok err = subst (KeepsUnder counted w) (sym ok) (keeps-room counted w)
  reserved-keeps (Err e) ok err = keeps-same counted w now err

  reserved-steps : (r : Result (Unit {0}) E) → OnOk r (now ≡ record w { reserved = true }) → OnErr r (now ≡ w) → steps_made now ≡ steps_made w
  reserved-steps (Ok done) ok err = ap steps_made ok
  reserved-steps (Err e) ok err = ap steps_made err

  reserved-ends : (r : Result (Unit {0}) E) → OnOk r (now ≡ record w { reserved = true }) → OnErr r (now ≡ w) → HasItsEnds w now
  reserved-ends (Ok done) ok err = subst (HasItsEnds w) (sym ok) (record { number = refl; ins = refl; outs = refl })
  reserved-ends (Err e) ok err = subst (HasItsEnds w) (sym err) (record { number = refl; ins = refl; outs = refl })

pub kept-room : {E : Type 0} (d : DataflowState) (worker : ℕ) (now : WorkerState) → worker < length d.workers → AreAllThere d → IsDataflow d → (r : Result (Unit {0}) E)
    → OnOk r (now ≡ record (worker_state_at d.workers worker) { reserved = true }) → OnErr r (now ≡ worker_state_at d.workers worker)
    → IsDataflow (record d { workers = set d.workers worker now })
kept-room d worker now there all is r ok err =
    let stand = is.stand all in
    let w = worker_state_at d.workers worker in
    let counted = is_counted stand.0 stand.1 worker in
    kept-put d worker now there (reserved-ends counted w now r ok err) counted (reserved-keeps counted w now r ok err) (reserved-steps counted w now r ok err)
    (stand.0, stand.1, stand.2, stand.3, refl) is
