-- A worker of a home has taken the place of another: the home stands for the same log.
use Rattle.std.proofs.Common.{◌≡◌, refl, sym, ap, subst, ◌∙◌, ℕ, zero, suc, ◌<◌, Option, None, List, [], ◌∷◌, length, map, set}
use Rattle.amber_rows.specs.Topology.{crew_of}
use Rattle.amber_log.specs.declared.leg.Part.{Part}
use Rattle.amber_meaning.specs.Position.{Restraint}
use Rattle.amber_meaning.specs.State.{position_at}
use Rattle.amber_board.specs.declared.types.WorkSeat.{WorkSeat}
use Rattle.amber_worker.specs.Replacing.{with_links_of}
use Rattle.amber_worker.specs.WorkerState.{WorkerState}
use Rattle.amber_dataflow.specs.AtWork.{turned_by, worker_state_at}
use Rattle.amber_dataflow.specs.Dataflow.{AreAllThere, DataflowState, HaveDoneNothing, StandAt, journal_of, seat_of}
use Rattle.amber_dataflow.specs.Replacing.{MayReplace, StandReplaced, StandsFor, worker_replaced}
use Rattle.amber_dataflow.proofs.Crews.{at-each, here-now, there-still}
use Rattle.amber_home.specs.HomeState.{HomeState, query_of, rest_state}
use Rattle.amber_home.specs.Kept.{IsAtRest, IsHome, LiveState, StandsIn}
use Rattle.amber_home.specs.Parts.{open_parts, open_turned}
use Rattle.amber_home.specs.declared.phase.Phase.{Phase}
use Rattle.amber_home.specs.declared.phase.Phase.TheVariants as phase
use Rattle.amber_home.proofs.Homes.{at-rest}
use Rattle.amber_home.proofs.Units.{KeepUnits, below-kept, empty-kept, keep-set, unarmed-kept}

-- over links of its own the worker shows where the one with this number stands
abbrev pub StandsHere : HomeState → ℕ → WorkerState → Type 0
StandsHere e worker made = StandsFor (query_of e) (rest_state e) (position_at (rest_state e).positions) worker made

-- nobody has done anything since, where neither the one nor the others had
nothing-replaced : (d : DataflowState) (worker : ℕ) (made : WorkerState) → worker < length d.workers → HaveDoneNothing d → made.journal ≡ [] → HaveDoneNothing (worker_replaced worker made d)
unfolding journal_of
nothing-replaced d worker made there none done =
    let now = with_links_of (worker_state_at d.workers worker) made in
    at-each (λ k. (worker_state_at (set d.workers worker now) k).journal ≡ []) worker
    (ap (λ (w : WorkerState). w.journal) (here-now d.workers worker now there) ∙ done)
    (λ k ne. ap (λ (w : WorkerState). w.journal) (there-still d.workers worker now there k ne) ∙ none k)

-- the turns of the one are those of the other
pub turned-replaced : (crew : List WorkerState) (worker : ℕ) (now : WorkerState) → turned_by (set crew worker now) ≡ set (turned_by crew) worker now.turned
turned-replaced [] worker now = refl
turned-replaced (w ∷ crew) zero now = refl
turned-replaced (w ∷ crew) (suc worker) now = ap (λ more. w.turned ∷ more) (turned-replaced crew worker now)

-- what a home at rest shows of it
pub shown-replaced : (now : Phase) → now ≡ phase.Resting → (live later : LiveState) (worker : ℕ) (made : WorkerState) → later.dataflow ≡ worker_replaced worker made live.dataflow
    → (open_parts now later ≡ open_parts now live) × (open_turned now later ≡ set (open_turned now live) worker made.turned)
shown-replaced now resting live later worker made is =
    subst (λ (p : Phase). (open_parts p later ≡ open_parts p live) × (open_turned p later ≡ set (open_turned p live) worker made.turned)) (sym resting)
    (refl, ap (λ (d : DataflowState). turned_by d.workers) is ∙ turned-replaced live.dataflow.workers worker (with_links_of (worker_state_at live.dataflow.workers worker) made))

module _ (e : HomeState) (live : LiveState) (home : IsHome e live) (resting : e.phase ≡ phase.Resting) (worker : ℕ) (inside : worker < crew_of e.flow)
    (made : WorkerState) (done : made.journal ≡ []) (seatless : made.seat ≡ None) (stands : StandsHere e worker made) where
  abbrev d : DataflowState
  d = live.dataflow

  abbrev old : WorkerState
  old = worker_state_at d.workers worker

  abbrev rest : IsAtRest e live
  rest = at-rest e live home resting

  here : worker < crew_of d.flow
  here = subst (λ flow. worker < crew_of flow) (sym rest.at.flow) inside

  -- it has no seat
  pub seatless-here : seat_of d worker ≡ None
  seatless-here = rest.units.unarmed worker here

  pub may-replace : MayReplace d worker made
  may-replace = (query_of e, rest_state e, position_at (rest_state e).positions, rest.at, stands)

  there : worker < length d.workers
  there = rw rest.at.work.at.at_positions.all inside

  units-replaced : KeepUnits d (worker_replaced worker made d)
  unfolding seat_of
  units-replaced =
      let shows = (rest.at.work.at.at_positions.each worker inside).shows in
      keep-set d worker (with_links_of old made) there (record {
        seat = seatless ∙ sym seatless-here;
        hand = ap (λ (r : Restraint). r.hand) (stands.shows.restraint ∙ sym shows.restraint);
        emitted = stands.shows.emitted ∙ sym shows.emitted;
      })

  pub home-replaced : (now : DataflowState) → now ≡ worker_replaced worker made d → StandReplaced worker made d now → (parts : List Part) (turned : List ℕ)
      → IsHome (record e { parts = parts; turned = turned }) (record live { dataflow = now })
  unfolding StandReplaced
  home-replaced now is stand parts turned =
      let units : KeepUnits d now = subst (KeepUnits d) (sym is) units-replaced in
      record {
        few = home.few;
        headed = home.headed;
        legal = home.legal;
        stands = subst (λ (p : Phase). StandsIn p (record e { parts = parts; turned = turned }) (record live { dataflow = now })) (sym resting) (record {
          at = stand (query_of e) (rest_state e) (position_at (rest_state e).positions) rest.at stands;
          none = subst HaveDoneNothing (sym is) (nothing-replaced d worker made there rest.none done);
          in_force = rest.in_force;
          below = below-kept d now units _ rest.below;
          units = record {
            none = rest.units.none;
            unarmed = unarmed-kept d now units rest.units.unarmed;
            empty = empty-kept d now units rest.units.empty;
          };
          stops_are = rest.stops_are;
        });
      }

-- ---- a worker is taken out of its home

module _ (e : HomeState) (live : LiveState) (home : IsHome e live) (resting : e.phase ≡ phase.Resting) (worker : ℕ) (inside : worker < crew_of e.flow) where
  abbrev taken : WorkerState
  taken = worker_state_at live.dataflow.workers worker

  pub taken-rest : taken.journal ≡ []
  unfolding journal_of
  taken-rest = (at-rest e live home resting).none worker

  pub taken-unarmed : taken.seat ≡ None
  unfolding seat_of
  taken-unarmed =
      let rest = at-rest e live home resting in
      rest.units.unarmed worker (subst (λ flow. worker < crew_of flow) (sym rest.at.flow) inside)

  pub taken-stands : StandsHere e worker taken
  taken-stands =
      let at = (at-rest e live home resting).at.work.at.at_positions in
      record { base = at.bases worker; shows = (at.each worker inside).shows }
