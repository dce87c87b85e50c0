-- For how many turns the workers of a home were driven: what leaves these numbers as they are, and where they begin anew.
use Rattle.std.proofs.Common.{◌≡◌, refl, sym, ap, ◌∙◌, ℕ, zero, suc, List, [], ◌∷◌, length, map, replicate, set, drop, eqb, Bool, true, false, Option, None, Some, if◌then◌else◌, arith}
use Rattle.std.proofs.lemmas.Bool.{false≢true}
use Rattle.amber_rows.specs.Topology.{crew_of}
use Rattle.amber_rows.specs.declared.cond.Cond.{Cond}
use Rattle.amber_rows.specs.declared.value.Value.{Value}
use Rattle.amber_log.specs.declared.effect.Change.{Change}
use Rattle.amber_log.specs.declared.effect.Change.TheVariants as change
use Rattle.amber_log.specs.declared.effect.Effect.{Effect}
use Rattle.amber_meaning.specs.State.{worker_at}
use Rattle.amber_worker.specs.Changes.{held_dropped, resumed_at}
use Rattle.amber_operators.specs.States.{with_value}
use Rattle.amber_worker.specs.WorkerState.{WorkerState}
use Rattle.amber_dataflow.specs.AtWork.{turned_by, worker_state_at}
use Rattle.amber_dataflow.specs.Dataflow.{AreAllThere, AreBack, AreCrewOf, DataflowState, all_resumed, constant_put, handed_out, leg_begun, row_dropped, turned_of, when_put, worker_begun, worker_resumed, worker_set, worker_watching}
use Rattle.amber_dataflow.specs.Parts.{without_journal}
use Rattle.amber_dataflow.proofs.Resumed.{resumed-at}
use Rattle.amber_boards.specs.Boards.{ChangeUnits}
use Rattle.amber_home.specs.Applied.{dataflow_after, with_condition, with_constants, without_dropped}
use Rattle.amber_home.specs.Asked.{Asked}
use Rattle.amber_home.specs.Going.{GoOn}
use Rattle.amber_home.specs.HomeState.{HomeState, has_leg_crew, is_open}
use Rattle.amber_home.specs.Kept.{IsHome, LiveState, StandsIn}
use Rattle.amber_home.specs.Parts.{open_turned}
use Rattle.amber_home.specs.declared.phase.Phase.{Phase}
use Rattle.amber_home.specs.declared.phase.Phase.TheVariants as phase

-- ---- lists of workers

-- two lists as long as each other, of whom each worker was driven for as many turns
pub turned-same : (old new : List WorkerState) → length new ≡ length old → ((worker : ℕ) → (worker_state_at new worker).turned ≡ (worker_state_at old worker).turned)
    → turned_by new ≡ turned_by old
turned-same [] [] long same = refl
turned-same [] (w ∷ new) long same = absurd (omega arith)
turned-same (w ∷ old) [] long same = absurd (omega arith)
turned-same (w ∷ old) (v ∷ new) long same =
    let rest = turned-same old new (omega (arith, long)) (λ k. same (suc k)) in
    (λ i. same 0 i ∷ rest i)

-- a change of each worker that leaves its turns
turned-mapped : (change : WorkerState → WorkerState) → ((w : WorkerState) → (change w).turned ≡ w.turned) → (crew : List WorkerState) → turned_by (map change crew) ≡ turned_by crew
turned-mapped change leaves [] = refl
turned-mapped change leaves (w ∷ crew) = let rest = turned-mapped change leaves crew in (λ i. leaves w i ∷ rest i)

-- a change of one
turned-put : (crew : List WorkerState) (k : ℕ) (now : WorkerState) → now.turned ≡ (worker_state_at crew k).turned → turned_by (set crew k now) ≡ turned_by crew
turned-put [] k now same = refl
turned-put (w ∷ crew) zero now same = ap (λ n. n ∷ turned_by crew) same
turned-put (w ∷ crew) (suc k) now same = ap (λ turned. w.turned ∷ turned) (turned-put crew k now same)

-- ---- calls within a leg

-- units change hands
pub turned-units : (counted : ℕ → Bool) (old new : DataflowState) → ChangeUnits counted old new → (worker : ℕ) → turned_of new worker ≡ turned_of old worker
unfolding turned_of
turned-units counted old new units worker = ap (λ (w : WorkerState). w.turned) (units.same worker)

pub units-turned : (counted : ℕ → Bool) (old new : DataflowState) → ChangeUnits counted old new → turned_by new.workers ≡ turned_by old.workers
units-turned counted old new units = turned-same old.workers new.workers units.long (λ worker. ap (λ (w : WorkerState). w.turned) (units.same worker))

resumed-leaves : (w : WorkerState) → (worker_resumed w).turned ≡ w.turned
resumed-leaves w = by w.restraint.paused
  where
    by : (b : Bool) → (if b then resumed_at w else w).turned ≡ w.turned
    by true = refl
    by false = refl

-- who was paused goes on
pub turned-resumed : (d : DataflowState) (worker : ℕ) → turned_of (all_resumed d) worker ≡ turned_of d worker
unfolding turned_of
turned-resumed d worker = ap (λ (w : WorkerState). w.turned) (resumed-at d.workers worker) ∙ resumed-leaves (worker_state_at d.workers worker)

pub resumed-turned : (d : DataflowState) → turned_by (all_resumed d).workers ≡ turned_by d.workers
resumed-turned d = turned-mapped worker_resumed resumed-leaves d.workers

-- workers that go on
pub on-turned : (arms : List Asked) (old new : DataflowState) → GoOn arms old new → AreAllThere old → turned_by new.workers ≡ turned_by old.workers
unfolding turned_of
on-turned arms old new on all = turned-same old.workers new.workers (on.there all ∙ ap crew_of on.flow ∙ sym all) on.undriven

-- workers that are here again
pub back-turned : (crew : List WorkerState) (d : DataflowState) → AreCrewOf d.flow crew → AreBack crew d → turned_by d.workers ≡ turned_by crew
back-turned crew d are back =
    turned-same crew d.workers (back.there ∙ sym (are.4.at_positions.all ∙ ap crew_of are.3)) (λ worker. ap (λ (w : WorkerState). w.turned) (back.same worker))

-- ---- calls at rest, and where a leg begins and ends

-- nobody was driven yet
pub begun-turned : (to_end : Bool) (crew : List WorkerState) → turned_by (map (worker_begun to_end) crew) ≡ replicate (length crew) 0
begun-turned to_end [] = refl
begun-turned true (w ∷ crew) = ap (λ turned. 0 ∷ turned) (begun-turned true crew)
begun-turned false (w ∷ crew) = ap (λ turned. 0 ∷ turned) (begun-turned false crew)

pub leg-turned : (to_end : Bool) (d : DataflowState) → AreAllThere d → turned_by (leg_begun to_end d).workers ≡ replicate (crew_of d.flow) 0
leg-turned to_end d all = begun-turned to_end d.workers ∙ ap (λ n. replicate n 0) all

-- the journals were handed out
pub handed-turned : (d : DataflowState) → turned_by (handed_out d).workers ≡ turned_by d.workers
handed-turned d = turned-mapped without_journal (λ w. refl) d.workers

set-turned : (op : ℕ) (value : Value) (d : DataflowState) → turned_by (constant_put op value d).workers ≡ turned_by d.workers
set-turned op value d = turned-mapped (worker_set op value) (λ w. by w (eqb w.op op)) d.workers
  where
    by : (w : WorkerState) (b : Bool) → (if b then record w { operator_state = with_value value w.operator_state } else w).turned ≡ w.turned
    by w true = refl
    by w false = refl

watched-turned : (op : ℕ) (when : Option Cond) (d : DataflowState) → turned_by (when_put op when d).workers ≡ turned_by d.workers
watched-turned op when d = turned-mapped (worker_watching op when) (λ w. by w (eqb w.op op)) d.workers
  where
    by : (w : WorkerState) (b : Bool) → (if b then record w { when = when } else w).turned ≡ w.turned
    by w true = refl
    by w false = refl

dropped-turned : (worker : ℕ) (d : DataflowState) → turned_by (row_dropped worker d).workers ≡ turned_by d.workers
dropped-turned worker d =
    turned-put d.workers worker (held_dropped (worker_state_at d.workers worker)) (by (worker_state_at d.workers worker) (worker_state_at d.workers worker).restraint.held)
  where
    by : (w : WorkerState) (b : Bool) → (if b then record w { restraint = record w.restraint { held = false }; pending = drop 1 w.pending } else w).turned ≡ w.turned
    by w true = refl
    by w false = refl

constants-turned : (op : ℕ) (constant : Option Value) (d : DataflowState) → turned_by (with_constants op constant d).workers ≡ turned_by d.workers
constants-turned op None d = refl
constants-turned op (Some value) d = set-turned op value d

condition-turned : (op : ℕ) (when : Change Cond) (d : DataflowState) → turned_by (with_condition op when d).workers ≡ turned_by d.workers
condition-turned op change.Keep d = refl
condition-turned op change.TakeBack d = watched-turned op None d
condition-turned op (change.Put cond) d = watched-turned op (Some cond) d

without-turned : (op : ℕ) (drops : Option ℕ) (d : DataflowState) → turned_by (without_dropped op drops d).workers ≡ turned_by d.workers
without-turned op None d = refl
without-turned op (Some worker) d = dropped-turned (worker_at d.flow op worker) d

-- what a command asks for is done
pub after-turned : (effect : Effect) (d : DataflowState) → turned_by (dataflow_after effect d).workers ≡ turned_by d.workers
after-turned effect d =
    let dropped = without_dropped effect.op effect.drops d in
    condition-turned effect.op effect.arming.when (with_constants effect.op effect.arming.constant dropped)
    ∙ constants-turned effect.op effect.arming.constant dropped ∙ without-turned effect.op effect.drops d

-- ---- what a home shows of them

-- within a leg, that of the workers that are there
pub turned-open : (live : LiveState) (now : Phase) → is_open now ≡ true → open_turned now live ≡ turned_by live.dataflow.workers
turned-open live phase.Resting within = refl
turned-open live (phase.Open to_end counts) within = refl
turned-open live (phase.Lent to_end) within = absurd (false≢true within)
turned-open live (phase.Unsettled to_end) within = absurd (false≢true within)
turned-open live (phase.Redoing to_end empty) within = absurd (false≢true within)
turned-open live phase.Over within = absurd (false≢true within)
turned-open live phase.Spent within = absurd (false≢true within)

-- before they are settled, that of those that are back
pub turned-apart : (live : LiveState) (now : Phase) → is_open now ≡ false → has_leg_crew now ≡ true → open_turned now live ≡ turned_by live.back
turned-apart live phase.Resting apart back = absurd (false≢true back)
turned-apart live (phase.Open to_end counts) apart back = absurd (false≢true (sym apart))
turned-apart live (phase.Lent to_end) apart back = absurd (false≢true back)
turned-apart live (phase.Unsettled to_end) apart back = refl
turned-apart live (phase.Redoing to_end empty) apart back = absurd (false≢true back)
turned-apart live phase.Over apart back = absurd (false≢true back)
turned-apart live phase.Spent apart back = absurd (false≢true back)

-- within a leg it stays where the workers keep it
pub turned-stays : (now : Phase) → is_open now ≡ true → (live later : LiveState) → turned_by later.dataflow.workers ≡ turned_by live.dataflow.workers
    → open_turned now later ≡ open_turned now live
turned-stays now within live later same = turned-open later now within ∙ same ∙ sym (turned-open live now within)

-- as where they go on
pub turned-goes : (now : Phase) → is_open now ≡ true → (live later : LiveState) → GoOn live.arms live.dataflow later.dataflow → AreAllThere live.dataflow
    → open_turned now later ≡ open_turned now live
turned-goes now within live later on all = turned-stays now within live later (on-turned live.arms live.dataflow later.dataflow on all)

-- a home stays one, for however many turns its workers are said to have been driven
pub home-driven : {e : HomeState} {live : LiveState} (turned : List ℕ) → IsHome e live → IsHome (record e { turned = turned }) live
home-driven {e} {live} turned home = record { few = home.few; headed = home.headed; legal = home.legal; stands = by e.phase home.stands }
  where
    by : (now : Phase) → StandsIn now e live → StandsIn now (record e { turned = turned }) live
    by phase.Resting rest = record { at = rest.at; none = rest.none; in_force = rest.in_force; below = rest.below; units = rest.units; stops_are = rest.stops_are }
    by (phase.Open to_end counts) open_leg =
        let leg = open_leg.0 in
        (record { more = leg.more; positions = leg.positions; at = leg.at; in_force = leg.in_force; few = leg.few }, open_leg.1)
    by (phase.Lent to_end) away = record { more = away.more; in_force = away.in_force }
    by (phase.Unsettled to_end) back = record {
      away = record { more = back.away.more; in_force = back.away.in_force };
      workers = record { positions = back.workers.positions; at = back.workers.at; few = back.workers.few };
      ready = back.ready;
    }
    by (phase.Redoing to_end empty) back = record {
      away = record { more = back.away.more; in_force = back.away.in_force };
      positions = back.positions;
      stand = back.stand;
      worked = back.worked;
      few = back.few;
      seats = back.seats;
      fresh = back.fresh;
      empty_handed = back.empty_handed;
      full_handed = back.full_handed;
      none = back.none;
      targets = back.targets;
    }
    by phase.Over home = tt
    by phase.Spent home = tt
