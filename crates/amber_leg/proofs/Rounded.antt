-- The workers of a leg are lent, make turns, come back, and are settled.
use Rattle.std.proofs.Common.{◌≡◌, refl, sym, ap, subst, ◌∙◌, ℕ, suc, ◌+◌, ◌*◌, ◌<◌, ◌≤◌, ◌^◌, List, [], ◌∷◌, length, slice_index_or, true, inl, inr, arith}
use Rattle.std.specs.List.{sum, sum_by}
use Rattle.std.proofs.Math.ListN.{get_or-eq_default, get_or-map}
use Rattle.std.proofs.Math.Nat.{mul-le-mul_right}
use Rattle.std.proofs.lemmas.Bool.{cases_lt}
use Rattle.std.proofs.lemmas.List.Sums.{sum-map, sum_by-cons}
use Rattle.amber_rows.specs.Topology.{crew_of}
use Rattle.amber_meaning.specs.State.{steps_in}
use Rattle.amber_worker.specs.Counting.{IsBoardOf}
use Rattle.amber_worker.specs.WorkerState.{WorkerState}
use Rattle.amber_dataflow.specs.AtWork.{no_worker_state, steps_by, turned_by, worker_state_at}
use Rattle.amber_dataflow.specs.Parts.{parts_from}
use Rattle.amber_dataflow.proofs.Steps.{steps-cons, sum-member}
use Rattle.amber_home.specs.HomeState.{HomeState, IsWorkedLeg, counts_in, is_open, runs_to_end, state_of}
use Rattle.amber_home.specs.Lent.{IsLent, MakeTurns, board_of}
use Rattle.amber_home.specs.declared.crew.Crew.{Crew}
use Rattle.amber_home.specs.declared.phase.Counts.TheVariants.{Armed}
use Rattle.amber_home.specs.declared.phase.Phase.TheVariants as phase
use Rattle.amber_home.proofs.Alike.{emitted-told, steps-told}
use Rattle.amber_home.proofs.GoneOn.{lent-on, op-is, own-lent, steps-grow}
use Rattle.amber_home.proofs.Homes.{open-is}
use Rattle.amber_leg.specs.Dealing.{AreReadyFor, HaveCounted}
use Rattle.amber_leg.specs.Leg.{MakesRound, turned_at}
use Rattle.amber_leg.specs.Slices.{HasCounted}
use Rattle.amber_leg.proofs.Emitting.{emitted-by-crew, emitted-turned}

-- workers that are lent may make turns, of which so many a worker are left
module _ (away : HomeState) (crew : Crew) (lent : IsLent away crew) (turns : ℕ) (few : steps_by crew.workers.items + crew_of away.flow * turns ≤ 2 ^ 40)
    (fits : (worker : ℕ) → (worker_state_at crew.workers.items worker).turned + turns < 2 ^ 64) where
  own-turns : (worker : ℕ) → worker < crew_of away.flow → turns ≤ crew_of away.flow * turns
  own-turns worker inside = let less = mul-le-mul_right {m = 1} {n = crew_of away.flow} turns (omega arith) in omega (arith, less)

  pub lent-ready : AreReadyFor turns crew
  lent-ready = record {
    led = lent.led;
    each = λ worker there.
        let inside : worker < crew_of away.flow = rw (← lent.workers.at.at_positions.all) there in (
          (let one = sum-member crew.workers.items worker in let own = own-turns worker inside in omega arith),
          subst (λ op. IsBoardOf (board_of crew.boards op) (worker_state_at crew.workers.items worker).seat) (sym (op-is away crew lent worker inside)) (own-lent away crew lent worker inside),
          fits worker,
        );
  }

-- for how many turns a worker was driven, of a list of workers
pub turned-here : (crew : List WorkerState) (worker : ℕ) → slice_index_or (turned_by crew) worker 0 ≡ (worker_state_at crew worker).turned
turned-here crew worker = get_or-map (λ (w : WorkerState). w.turned) crew worker no_worker_state

-- no more steps were made by all of them together than turns
counted-all : (turns : ℕ) (old new : List WorkerState) → length new ≡ length old
    → ((worker : ℕ) → worker < length old → HasCounted turns (worker_state_at old worker) (worker_state_at new worker))
    → steps_by new + sum_by (λ w. w.turned) old ≤ steps_by old + sum_by (λ w. w.turned) new
counted-all turns [] [] long each = omega arith
counted-all turns [] (w ∷ new) long each = absurd (omega arith)
counted-all turns (w ∷ old) [] long each = absurd (omega arith)
counted-all turns (w ∷ old) (v ∷ new) long each =
    let rest = counted-all turns old new (omega (arith, long)) (λ k below. each (suc k) (omega arith)) in
    let first = each 0 (omega arith) in
    let steps = first.steps in
    rw (steps-cons w old, steps-cons v new, sum_by-cons (λ (x : WorkerState). x.turned) w old, sum_by-cons (λ (x : WorkerState). x.turned) v new) (omega (arith, rest, steps))

-- ---- a round

module _ (turns : ℕ) (old : HomeState) (within : is_open old.phase ≡ true) (armed : counts_in old.phase ≡ Armed) (crew after : Crew)
    (lent : IsLent (record old { phase = phase.Lent (runs_to_end old.phase); parts = []; turned = [] }) crew) (parts : old.parts ≡ parts_from 0 crew.workers.items)
    (steps : steps_by crew.workers.items ≡ steps_in (state_of old)) (worked : IsWorkedLeg old)
    (few : steps_in (state_of old) + crew_of old.flow * turns ≤ old.most) (made : MakeTurns turns crew after)
    (turned : old.turned ≡ turned_by crew.workers.items) (counted : HaveCounted turns crew.workers.items after.workers.items) where
  abbrev pub away : HomeState
  away = record old { phase = phase.Lent (runs_to_end old.phase); parts = []; turned = [] }

  all : length crew.workers.items ≡ crew_of old.flow
  all = lent.workers.at.at_positions.all

  each-turned : (worker : ℕ) → worker < crew_of old.flow → Rattle.amber_worker.specs.Turning.MakesTurns turns (worker_state_at crew.workers.items worker) (worker_state_at after.workers.items worker)
  each-turned worker inside = made.each worker (rw all inside)

  grown : (steps_by crew.workers.items ≤ steps_by after.workers.items) × (steps_by after.workers.items ≤ steps_by crew.workers.items + crew_of old.flow * turns)
  grown = subst (λ n. (steps_by crew.workers.items ≤ steps_by after.workers.items) × (steps_by after.workers.items ≤ steps_by crew.workers.items + n * turns)) all
      (steps-grow turns crew.workers.items after.workers.items made.all made.each)

  -- so they may be taken back
  pub lent-again : IsLent away after
  lent-again = lent-on away crew after turns lent made (let most = grown.1 in omega (arith, steps, few, most))

  -- the home once they are settled
  abbrev pub settled : HomeState
  settled = record old { phase = phase.Open (runs_to_end old.phase) Armed; parts = parts_from 0 after.workers.items; turned = turned_by after.workers.items }

  same-phase : settled ≡ record old { parts = parts_from 0 after.workers.items; turned = turned_by after.workers.items }
  same-phase = ap (λ now. record old { phase = now; parts = parts_from 0 after.workers.items; turned = turned_by after.workers.items }) (sym (open-is old.phase within ∙ ap (phase.Open (runs_to_end old.phase)) armed))

  was-at : (worker : ℕ) → turned_at old worker ≡ (worker_state_at crew.workers.items worker).turned
  was-at worker = ap (λ ns. slice_index_or ns worker 0) turned ∙ turned-here crew.workers.items worker

  -- beyond the last worker nobody was driven
  past-turned : (list : List WorkerState) (worker : ℕ) → length list ≤ worker → (worker_state_at list worker).turned ≡ 0
  past-turned list worker past = ap (λ (w : WorkerState). w.turned) (get_or-eq_default list no_worker_state past)

  counts : (worker : ℕ) → (turned_at old worker ≤ turned_at settled worker) × (turned_at settled worker ≤ turned_at old worker + turns)
  counts worker =
      let was = was-at worker in
      let is = turned-here after.workers.items worker in
      elim (cases_lt worker (length crew.workers.items)) [
        | inl inside ↦
            (let one = counted.each worker (let inside = inside in inside) in
            let more = one.more in
            let most = one.within in (
              omega (arith, was, is, more),
              omega (arith, was, is, most),
            ))
        | inr past ↦
            (let none = past-turned crew.workers.items worker (let past = past in omega arith) in
            let nobody = past-turned after.workers.items worker (let past = past in let long = made.all in omega (arith, long)) in (
              omega (arith, was, is, none, nobody),
              omega (arith, was, is, none, nobody),
            ))
      ]

  pub makes-round : IsWorkedLeg settled → MakesRound turns old settled
  makes-round again = record {
    only = same-phase;
    more = (let told = steps-told away after lent-again settled refl refl refl again in let less = grown.0 in omega (arith, told, less, steps));
    few = (let told = steps-told away after lent-again settled refl refl refl again in let less = grown.1 in omega (arith, told, less, steps, few));
    rows = λ op.
        let before = emitted-by-crew old.flow (state_of old) crew.workers.items (emitted-told away crew lent old refl refl parts worked) op in
        let now = emitted-by-crew old.flow (state_of settled) after.workers.items (emitted-told away after lent-again settled refl refl refl again) op in
        let more = emitted-turned old.flow turns crew.workers.items after.workers.items each-turned op in
        omega (arith, before, now, more);
    some = λ one worker inside.
        let more = (counted.each worker (rw all inside)).some one in
        let was = was-at worker in
        let is = turned-here after.workers.items worker in
        omega (arith, more, was, is);
    grown = λ worker. (counts worker).0;
    within = λ worker. (counts worker).1;
    driven =
        let before = ap sum turned ∙ sum-map (λ (w : WorkerState). w.turned) crew.workers.items in
        let now = sum-map (λ (w : WorkerState). w.turned) after.workers.items in
        let told = steps-told away after lent-again settled refl refl refl again in
        let less = counted-all turns crew.workers.items after.workers.items made.all counted.each in
        omega (arith, before, now, told, less, steps);
  }
