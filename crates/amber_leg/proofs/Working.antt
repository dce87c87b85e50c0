-- How many steps were made at home and for how many turns workers were driven, round after round.
use Rattle.std.proofs.Common.{◌≡◌, ◌⊎◌, sym, ap, ◌∙◌, ℕ, ◌+◌, ◌-◌, ◌*◌, ◌<◌, ◌≤◌, ◌^◌, slice_index_or, inl, inr, arith}
use Rattle.std.specs.List.{sum}
use Rattle.std.proofs.Math.Nat.{min-eq_left}
use Rattle.std.proofs.lemmas.Bool.{cases_lt, false≢true}
use Rattle.amber_rows.specs.Topology.{crew_of}
use Rattle.amber_meaning.specs.State.{steps_in}
use Rattle.amber_home.specs.HomeState.{HomeState, IsAsFar, MovesOrHolds, alone_more, state_of}
use Rattle.amber_leg.specs.Leg.{DrivesRound, EndsRounds, GoesFurther, AddsUp, IsOneHeld, IsUndriven, MakesRound, MakesRoundAndStep, MayCount, MovesOn, StepsAlone, turned_at}

-- ---- a round

-- after units were handed out
pub round-drives : (old fed new : HomeState) (turns : ℕ) → fed ≡ record old { parts = fed.parts } → IsAsFar old fed → MakesRound turns fed new → turns ≤ 65536
    → (steps_in (state_of fed) + crew_of fed.flow ≤ fed.most → 1 ≤ turns) → DrivesRound old new
round-drives old fed new turns only far round within enough =
    let turned : fed.turned ≡ old.turned = ap (λ (h : HomeState). h.turned) only in
    let here : (worker : ℕ) → turned_at fed worker ≡ turned_at old worker = λ worker. ap (λ ns. slice_index_or ns worker 0) turned in
    let flow : fed.flow ≡ old.flow = ap (λ (h : HomeState). h.flow) only in
    let most : fed.most ≡ old.most = ap (λ (h : HomeState). h.most) only in
    let workers : crew_of fed.flow ≡ crew_of old.flow = ap crew_of flow in
    let same = far.steps in
    record {
      alone = ap (λ (h : HomeState). h.alone) round.only ∙ ap (λ (h : HomeState). h.alone) only;
      some = λ left worker inside.
          let one = round.some (enough (omega (arith, left, same, workers, most))) worker (omega (arith, inside, workers)) in
          let was = here worker in
          omega (arith, one, was);
      grown = λ worker. let more = round.grown worker in let was = here worker in omega (arith, more, was);
      within = λ worker. let less = round.within worker in let was = here worker in omega (arith, less, was, within);
      driven = let driven = round.driven in let sums = ap sum turned in omega (arith, driven, sums, same);
    }

-- where rounds end at once, and behind a round
pub ends-same : (e : HomeState) → EndsRounds e e
ends-same e = record { alone = λ i. e.alone; grown = λ worker. omega arith; more = omega arith; driven = omega arith }

pub ends-behind : (old new : HomeState) → DrivesRound old new → steps_in (state_of old) ≤ steps_in (state_of new) → EndsRounds old new
ends-behind old new round more = record { alone = round.alone; grown = round.grown; more = more; driven = round.driven }

-- a step at home, after who was paused goes on
pub step-alone : (old mid new : HomeState) → mid ≡ record old { parts = mid.parts } → IsAsFar old mid → new ≡ record mid { parts = new.parts; alone = alone_more mid.alone } → MovesOrHolds mid new
    → StepsAlone old new
step-alone old mid new only far stepped moved = record {
  alone = ap (λ (h : HomeState). h.alone) stepped ∙ ap (λ (h : HomeState). alone_more h.alone) only;
  turned = ap (λ (h : HomeState). h.turned) stepped ∙ ap (λ (h : HomeState). h.turned) only;
  one = by moved;
}
  where
    by : MovesOrHolds mid new → steps_in (state_of new) ≤ steps_in (state_of old) + 1
    by (inl one) = let same = far.steps in omega (arith, same, one)
    by (inr held) = let same = far.steps in let none = held.0 in omega (arith, same, none)

-- ---- round after round

-- no more steps were made at home than a worker was driven for turns, but for as many as there were rounds with fewer steps left than
-- there are workers, and so many more
abbrev pub IsWithin : ℕ → HomeState → Type 0
IsWithin more e = (worker : ℕ) → worker < crew_of e.flow
    → e.alone ≤ turned_at e worker + (crew_of e.flow - (e.most - steps_in (state_of e))) + more

abbrev pub IsWithinOrHeld : HomeState → Type 0
IsWithinOrHeld e = IsWithin 0 e ⊎ (IsOneHeld e × ((steps_in (state_of e) < e.most) × IsWithin 1 e))

-- so many rounds were made, with a step at home behind each
pub record HasWorked (rounds : ℕ) (start now : HomeState) : Type 0 where
  pub alone : now.alone ≤ rounds
  pub turned : (worker : ℕ) → turned_at now worker ≤ rounds * 65536
  pub within : IsWithinOrHeld now
  pub steps : steps_in (state_of now) ≤ steps_in (state_of start) + now.alone + sum now.turned

pub worked-none : (e : HomeState) → IsUndriven e → HasWorked 0 e e
worked-none e undriven =
    let none = undriven.alone in
    record {
      alone = omega (arith, none);
      turned = λ worker. let nobody = undriven.turned worker in omega (arith, nobody);
      within = inl (λ worker inside. omega (arith, none));
      steps = omega arith;
    }

-- so further rounds may count their turns
pub worked-fits : (rounds : ℕ) (start now : HomeState) → HasWorked rounds start now → rounds ≤ 2 ^ 40 + 1 → MayCount 65536 now
worked-fits rounds start now worked few worker = let most = worked.turned worker in omega (arith, most, few)

-- one round more
module _ (rounds : ℕ) (start now new : HomeState) (worked : HasWorked rounds start now) (few : rounds ≤ 2 ^ 40 + 1) (works : MakesRoundAndStep now new) (moves : MovesOn now new)
    (further : GoesFurther now new) where
  abbrev between : HomeState
  between = works.between

  -- the step at home was counted
  one-alone : new.alone ≡ now.alone + 1
  one-alone =
      let alone = worked.alone in
      let same = works.round.alone in
      let fits : between.alone + 1 ≤ 2 ^ 64 - 1 = omega (arith, alone, few, same) in
      let is : new.alone ≡ between.alone + 1 = works.step.alone ∙ min-eq_left fits in
      omega (arith, is, same)

  turned-is : (worker : ℕ) → turned_at new worker ≡ turned_at between worker
  turned-is worker = ap (λ ns. slice_index_or ns worker 0) works.step.turned

  -- where nobody was held before
  was-within : IsWithin 0 now
  was-within = by worked.within
    where
      by : IsWithinOrHeld now → IsWithin 0 now
      by (inl within) = within
      by (inr held) = absurd (false≢true (sym (moves.loose held.0.0) ∙ held.0.1))

  -- where a step was made
  now-within : steps_in (state_of now) + 1 ≤ steps_in (state_of new) → IsWithin 0 new
  now-within more worker inside =
      let workers = ap (λ (h : HomeState). crew_of h.flow) further.only in
      let most = ap (λ (h : HomeState). h.most) further.only in
      let was = was-within worker (omega (arith, inside, workers)) in
      let alone = one-alone in
      let turned = turned-is worker in
      let grown = works.round.grown worker in
      let reached = moves.few in
      elim (cases_lt now.most (steps_in (state_of now) + crew_of now.flow)) [
        | inl fewer ↦ (let fewer = fewer in let left = works.left in let before = works.more in omega (arith, was, alone, turned, grown, reached, fewer, left, before, more, workers, most))
        | inr enough ↦
            (let enough = enough in
            let one = works.round.some enough worker (omega (arith, inside, workers)) in
            omega (arith, was, alone, turned, one, enough, workers, most))
      ]

  -- where none was
  held-within : steps_in (state_of new) ≤ steps_in (state_of now) → steps_in (state_of now) ≤ steps_in (state_of new) → (steps_in (state_of new) < new.most) × IsWithin 1 new
  held-within less more =
      let most = ap (λ (h : HomeState). h.most) further.only in (
        (let left = works.left in let before = works.more in omega (arith, left, before, less, most)),
        λ worker inside.
            let workers = ap (λ (h : HomeState). crew_of h.flow) further.only in
            let was = was-within worker (omega (arith, inside, workers)) in
            let alone = one-alone in
            let turned = turned-is worker in
            let grown = works.round.grown worker in
            let same : steps_in (state_of new) ≡ steps_in (state_of now) = omega (arith, less, more) in
            omega (arith, was, alone, turned, grown, same, workers, most),
      )

  still-within : (steps_in (state_of now) + 1 ≤ steps_in (state_of new)) ⊎ (IsOneHeld new × (steps_in (state_of now) ≤ steps_in (state_of new))) → IsWithinOrHeld new
  still-within (inl more) = inl (now-within more)
  still-within (inr held) = elim (cases_lt (steps_in (state_of now)) (steps_in (state_of new))) [
    | inl more ↦ inl (now-within (let more = more in omega arith))
    | inr less ↦ inr (held.0, held-within (let less = less in omega arith) held.1)
  ]

  pub worked-more : HasWorked (rounds + 1) start new
  worked-more = record {
    alone = let before = worked.alone in let alone = one-alone in omega (arith, before, alone);
    turned = λ worker.
        let before = worked.turned worker in
        let within = works.round.within worker in
        let turned = turned-is worker in
        omega (arith, before, within, turned);
    within = still-within moves.steps;
    steps =
        let before = worked.steps in
        let driven = works.round.driven in
        let one = works.step.one in
        let alone = one-alone in
        let sums = ap sum works.step.turned in
        omega (arith, before, driven, one, alone, sums);
  }

-- the leg was driven then
pub worked-ends : (rounds : ℕ) (start now new : HomeState) → HasWorked rounds start now → EndsRounds now new → GoesFurther now new → AddsUp start new
worked-ends rounds start now new worked ends further = record {
  driven = λ worker inside.
      let workers = ap (λ (h : HomeState). crew_of h.flow) further.only in
      let alone = ends.alone in
      let grown = ends.grown worker in
      by worker (omega (arith, inside, workers)) alone grown workers worked.within;
  steps =
      let before = worked.steps in
      let driven = ends.driven in
      let alone = ends.alone in
      omega (arith, before, driven, alone);
}
  where
    by : (worker : ℕ) → worker < crew_of now.flow → new.alone ≡ now.alone → turned_at now worker ≤ turned_at new worker → crew_of new.flow ≡ crew_of now.flow → IsWithinOrHeld now
        → new.alone ≤ turned_at new worker + crew_of new.flow
    by worker inside alone grown workers (inl within) = let was = within worker inside in omega (arith, was, alone, grown, workers)
    by worker inside alone grown workers (inr held) =
        let was = held.1.1 worker inside in
        let left = held.1.0 in
        omega (arith, was, alone, grown, workers, left, inside)
