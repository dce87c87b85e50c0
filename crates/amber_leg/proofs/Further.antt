-- A leg goes on, in time.
use Rattle.std.proofs.Common.{◌≡◌, ◌⊎◌, refl, sym, ap, subst, ◌∙◌, ℕ, ◌+◌, ◌*◌, ◌<◌, ◌≤◌, List, [], length, slice_index_or, Bool, true, Option, None, Some, unwrap_or, inl, inr, arith}
use Rattle.std.specs.List.{sum}
use Rattle.std.specs.Option.{IfNone}
use Rattle.std.proofs.lemmas.Bool.{false≢true}
use Rattle.amber_rows.specs.Lists.{nth}
use Rattle.amber_rows.specs.Topology.{crew_of, workers_of}
use Rattle.amber_log.specs.declared.leg.Part.{Part}
use Rattle.amber_meaning.specs.State.{State, arms_at, emitted_by, no_arms, steps_in}
use Rattle.amber_home.specs.HomeState.{DisarmsLeg, HomeState, IsAsFar, IsEarly, MovesOrHolds, NoneIsHeld, counts_in, is_open, runs_to_end, state_of, stops_of_home}
use Rattle.amber_home.specs.declared.phase.Counts.{Counts}
use Rattle.amber_home.specs.declared.phase.Counts.TheVariants.{Armed, Disarmed}
use Rattle.amber_home.proofs.Homes.{open-is}
use Rattle.amber_home.specs.declared.phase.Phase.{Phase}
use Rattle.amber_home.specs.declared.phase.Phase.TheVariants as phase
use Rattle.amber_leg.specs.Leg.{AreOnTime, DrivesLeg, GoesFurther, AddsUp, IsOneHeld, IsUndriven, MakesRound, MovesOn, StaysInTime, most_late, turned_at}
use Rattle.amber_leg.proofs.Near.{stays-in-time}

-- what is said where there is none
pub if-none : {A P : Type 0} (found : Option A) → ((x : A) → found ≡ Some x → ⊥) → IfNone found P → P
if-none None not holds = holds
if-none (Some x) not holds = absurd (not x refl)

-- what is in force within a leg does not depend on what was done
arms-of : (e : HomeState) (now : Phase) (parts other : List Part) (alone : ℕ) (turned : List ℕ) → is_open now ≡ true
    → (state_of (record e { phase = now; parts = parts; alone = alone; turned = turned })).arms ≡ (state_of (record e { phase = now; parts = other })).arms
unfolding state_of Rattle.amber_meaning.specs.Replay.after_leg
arms-of e phase.Resting parts other alone turned within = absurd (false≢true within)
arms-of e (phase.Open to_end counts) parts other alone turned within = refl
arms-of e (phase.Lent to_end) parts other alone turned within = absurd (false≢true within)
arms-of e (phase.Unsettled to_end) parts other alone turned within = absurd (false≢true within)
arms-of e phase.Over parts other alone turned within = absurd (false≢true within)
arms-of e (phase.Redoing to_end empty) parts other alone turned within = absurd (false≢true within)
arms-of e phase.Spent parts other alone turned within = absurd (false≢true within)

pub arms-same : (old new : HomeState) → is_open old.phase ≡ true → new ≡ record old { parts = new.parts; alone = new.alone; turned = new.turned } → (op : ℕ)
    → arms_at (state_of new) op ≡ arms_at (state_of old) op
arms-same old new within only op =
    ap (λ (h : HomeState). arms_at (state_of h) op) only
    ∙ ap (λ arms. unwrap_or (nth arms op) no_arms) (arms-of old old.phase new.parts old.parts new.alone new.turned within)

-- where nobody was driven, and no step was made at home
pub only-alone : (old new : HomeState) → new ≡ record old { parts = new.parts } → new ≡ record old { parts = new.parts; alone = new.alone; turned = new.turned }
only-alone old new only =
    only ∙ (λ i. record old { parts = new.parts; alone = sym (ap (λ (h : HomeState). h.alone) only) i; turned = sym (ap (λ (h : HomeState). h.turned) only) i })

-- where workers were
pub only-turned : (old new : HomeState) → new ≡ record old { parts = new.parts; turned = new.turned } → new ≡ record old { parts = new.parts; alone = new.alone; turned = new.turned }
only-turned old new only = only ∙ ap (λ n. record old { parts = new.parts; alone = n; turned = new.turned }) (sym (ap (λ (h : HomeState). h.alone) only))

pub only-then : (a b c : HomeState) → b ≡ record a { parts = b.parts; alone = b.alone; turned = b.turned } → c ≡ record b { parts = c.parts; alone = c.alone; turned = c.turned }
    → c ≡ record a { parts = c.parts; alone = c.alone; turned = c.turned }
only-then a b c one two = two ∙ ap (λ (h : HomeState). record h { parts = c.parts; alone = c.alone; turned = c.turned }) one

pub further-same : (e : HomeState) → GoesFurther e e
further-same e = record { only = refl; on_time = λ time. time }

pub further-then : (a b c : HomeState) → GoesFurther a b → GoesFurther b c → GoesFurther a c
further-then a b c one two = record { only = only-then a b c one.only two.only; on_time = λ time. two.on_time (one.on_time time) }

-- ---- a round

-- after one that began where no pause stood
pub further-round : (old fed new : HomeState) (turns : ℕ) → is_open old.phase ≡ true → IsEarly old → fed ≡ record old { parts = fed.parts } → IsAsFar old fed → MakesRound turns fed new
    → StaysInTime turns fed → GoesFurther old new
further-round old fed new turns within early only far round late =
    let fed-only = only-alone old fed only in
    let new-only = only-turned fed new round.only in
    let flow : fed.flow ≡ old.flow = ap (λ (h : HomeState). h.flow) only in
    let now : new.flow ≡ fed.flow = ap (λ (h : HomeState). h.flow) round.only in
    let within-fed : is_open fed.phase ≡ true = ap (λ (h : HomeState). is_open h.phase) only ∙ within in
    record {
      only = only-then old fed new fed-only new-only;
      on_time = λ time op n is.
          let armed = ap (λ arms. arms.pause) (sym (arms-same fed new within-fed new-only op)) ∙ is in
          let before = ap (λ arms. arms.pause) (sym (arms-same old fed within fed-only op)) ∙ armed in
          let few = early op n before in
          let same = far.rows op in
          subst (λ f. emitted_by f (state_of new) op ≤ n + most_late * length (workers_of f op)) (sym now)
          (stays-in-time fed turns op n (emitted_by fed.flow (state_of new) op) late armed (omega (arith, few, same)) (round.rows op));
    }

-- ---- a step

pub further-step : (old mid new : HomeState) (alone : ℕ) → is_open old.phase ≡ true → IsEarly old → mid ≡ record old { parts = mid.parts } → IsAsFar old mid
    → new ≡ record mid { parts = new.parts; alone = alone } → ((op : ℕ) → emitted_by new.flow (state_of new) op ≤ emitted_by mid.flow (state_of mid) op + 1) → GoesFurther old new
further-step old mid new alone within early only far stepped rows =
    let mid-only = only-alone old mid only in
    let new-only : new ≡ record mid { parts = new.parts; alone = new.alone; turned = new.turned } =
    stepped ∙ (λ i. record mid { parts = new.parts; alone = sym (ap (λ (h : HomeState). h.alone) stepped) i; turned = sym (ap (λ (h : HomeState). h.turned) stepped) i }) in
    let within-mid : is_open mid.phase ≡ true = ap (λ (h : HomeState). is_open h.phase) only ∙ within in
    record {
      only = only-then old mid new mid-only new-only;
      on_time = λ time op n is.
          let armed = ap (λ arms. arms.pause) (sym (arms-same mid new within-mid new-only op)) ∙ is in
          let before = ap (λ arms. arms.pause) (sym (arms-same old mid within mid-only op)) ∙ armed in
          let few = early op n before in
          let same = far.rows op in
          let one = rows op in
          omega (arith, few, same, one);
    }

-- ---- rounds

-- so many rounds have made as many steps, but where somebody is held
abbrev pub HaveMoved : ℕ → HomeState → HomeState → Type 0
HaveMoved rounds old new = (steps_in (state_of old) + rounds ≤ steps_in (state_of new)) ⊎ (IsOneHeld new × (steps_in (state_of old) + rounds ≤ steps_in (state_of new) + 1))

pub moved-more : (rounds : ℕ) (old now new : HomeState) → HaveMoved rounds old now → MovesOn now new → HaveMoved (rounds + 1) old new
moved-more rounds old now new (inl moved) moves = by moves.steps
  where
    by : ((steps_in (state_of now) + 1 ≤ steps_in (state_of new)) ⊎ (IsOneHeld new × (steps_in (state_of now) ≤ steps_in (state_of new)))) → HaveMoved (rounds + 1) old new
    by (inl more) = inl (omega arith)
    by (inr held) = inr (held.0, let same = held.1 in omega arith)
moved-more rounds old now new (inr held) moves = absurd (false≢true (sym (moves.loose held.0.0) ∙ held.0.1))

pub moved-most : (rounds most : ℕ) (old new : HomeState) → HaveMoved rounds old new → steps_in (state_of new) ≤ most → most + 2 ≤ steps_in (state_of old) + rounds → ⊥
moved-most rounds most old new (inl moved) few past = omega arith
moved-most rounds most old new (inr held) few past = let moved = held.1 in omega arith

-- a step after which as many were made, and one more, or somebody is held
pub moves-step : (old mid new : HomeState) → NoneIsHeld old → IsAsFar old mid → MovesOrHolds mid new → steps_in (state_of old) < old.most → MovesOn old new
moves-step old mid new loose far moved few = record {
  loose = loose;
  few = by-few moved;
  steps = by moved;
}
  where
    by : MovesOrHolds mid new → (steps_in (state_of old) + 1 ≤ steps_in (state_of new)) ⊎ (IsOneHeld new × (steps_in (state_of old) ≤ steps_in (state_of new)))
    by (inl one) = inl (let same = far.steps in omega (arith, same, one))
    by (inr held) = inr (held.1, let same = far.steps in let none = held.0 in omega (arith, same, none))

    by-few : MovesOrHolds mid new → steps_in (state_of new) ≤ old.most
    by-few (inl one) = let same = far.steps in omega (arith, same, one, few)
    by-few (inr held) = let same = far.steps in let none = held.0 in omega (arith, same, none, few)

-- ---- counts are armed, and disarmed

-- how counts stand changes no state
state-armed : (e : HomeState) (to_end : Bool) (counts later : Counts) → state_of (record e { phase = phase.Open to_end counts }) ≡ state_of (record e { phase = phase.Open to_end later })
unfolding state_of
state-armed e to_end counts later = refl

pub armed-state : (old new : HomeState) (counts : Counts) → is_open old.phase ≡ true → new ≡ record old { phase = phase.Open (runs_to_end old.phase) counts } → state_of new ≡ state_of old
armed-state old new counts within is =
    ap state_of is ∙ state-armed old (runs_to_end old.phase) counts (counts_in old.phase)
    ∙ ap (λ now. state_of (record old { phase = now })) (sym (open-is old.phase within))

pub armed-time : (old new : HomeState) (counts : Counts) → is_open old.phase ≡ true → new ≡ record old { phase = phase.Open (runs_to_end old.phase) counts } → IsEarly old → AreOnTime new
armed-time old new counts within is early op n armed =
    let same = armed-state old new counts within is in
    let few = early op n (ap (λ (s : State). (arms_at s op).pause) (sym same) ∙ armed) in
    let flow : new.flow ≡ old.flow = ap (λ (h : HomeState). h.flow) is in
    let rows : emitted_by new.flow (state_of new) op ≡ emitted_by old.flow (state_of old) op =
    ap (λ f. emitted_by f (state_of new) op) flow ∙ ap (λ s. emitted_by old.flow s op) same in
    omega (arith, few, rows)

-- what is in force does not depend on how counts stand
arms-open : (e : HomeState) (to_end : Bool) (counts later : Counts) (parts other : List Part)
    → (state_of (record e { phase = phase.Open to_end counts; parts = parts })).arms ≡ (state_of (record e { phase = phase.Open to_end later; parts = other })).arms
unfolding state_of Rattle.amber_meaning.specs.Replay.after_leg
arms-open e to_end counts later parts other = refl

pub disarmed-time : (old new : HomeState) → is_open old.phase ≡ true → DisarmsLeg old new → AreOnTime old → AreOnTime new
disarmed-time old new within disarms time op n armed =
    let flow : new.flow ≡ old.flow = ap (λ (h : HomeState). h.flow) disarms.only in
    let arms = arms-open old (runs_to_end old.phase) Disarmed (counts_in old.phase) new.parts old.parts in
    let same : arms_at (state_of new) op ≡ arms_at (state_of old) op =
    ap (λ (h : HomeState). arms_at (state_of h) op) disarms.only ∙ ap (λ found. unwrap_or (nth found op) no_arms) arms
    ∙ ap (λ now. arms_at (state_of (record old { phase = now })) op) (sym (open-is old.phase within)) in
    let rows = disarms.far.rows op in
    let most = time op n (ap (λ found. found.pause) (sym same) ∙ armed) in
    subst (λ f. emitted_by new.flow (state_of new) op ≤ n + most_late * length (workers_of f op)) (sym flow) (omega (arith, rows, most))

-- the boards are closed behind rounds
driven-disarmed : (old armed ran new : HomeState) → state_of armed ≡ state_of old → AddsUp armed ran → DisarmsLeg ran new → AddsUp old new
driven-disarmed old armed ran new same driven disarms =
    let alone : new.alone ≡ ran.alone = ap (λ (h : HomeState). h.alone) disarms.only in
    let turned : new.turned ≡ ran.turned = ap (λ (h : HomeState). h.turned) disarms.only in
    let workers : crew_of new.flow ≡ crew_of ran.flow = ap (λ (h : HomeState). crew_of h.flow) disarms.only in
    record {
      driven = λ worker inside.
          let own = driven.driven worker (omega (arith, inside, workers)) in
          let here : turned_at new worker ≡ turned_at ran worker = ap (λ ns. slice_index_or ns worker 0) turned in
          omega (arith, own, here, alone, workers);
      steps =
          let steps = driven.steps in
          let far = disarms.far.steps in
          let start = ap steps_in same in
          let sums = ap sum turned in
          omega (arith, steps, far, start, sums, alone);
    }

-- in a leg in which nothing was done yet
pub driven-none : (e : HomeState) → IsUndriven e → AddsUp e e
driven-none e undriven =
    let none = undriven.alone in
    record { driven = λ worker inside. omega (arith, none); steps = omega arith }

-- counts are armed in it
pub undriven-armed : (old armed : HomeState) (counts : Counts) → armed ≡ record old { phase = phase.Open (runs_to_end old.phase) counts } → IsUndriven old → IsUndriven armed
undriven-armed old armed counts is undriven = record {
  alone = ap (λ (h : HomeState). h.alone) is ∙ undriven.alone;
  turned = λ worker. ap (λ (h : HomeState). turned_at h worker) is ∙ undriven.turned worker;
}

-- a leg that was driven
pub drives-leg : (old armed ran new : HomeState) → is_open old.phase ≡ true → armed ≡ record old { phase = phase.Open (runs_to_end old.phase) Armed } → stops_of_home old ≡ [] → IsEarly old
    → GoesFurther armed ran → AddsUp armed ran → DisarmsLeg ran new → DrivesLeg old new
drives-leg old armed ran new within is none early further driven disarms =
    let within-ran : is_open ran.phase ≡ true = ap (λ (h : HomeState). is_open h.phase) (further.only ∙ ap (λ (h : HomeState). record h { parts = ran.parts; alone = ran.alone; turned = ran.turned }) is) in
    record {
      counts = Disarmed;
      unarmed = λ same. absurd (cc same);
      only = disarms.only
          ∙ ap (λ (h : HomeState). record h { parts = new.parts; phase = phase.Open (runs_to_end h.phase) Disarmed }) (further.only ∙ ap (λ (h : HomeState). record h { parts = ran.parts; alone = ran.alone; turned = ran.turned }) is)
          ∙ (λ i. record old {
            phase = phase.Open (runs_to_end old.phase) Disarmed;
            parts = new.parts;
            alone = sym (ap (λ (h : HomeState). h.alone) disarms.only) i;
            turned = sym (ap (λ (h : HomeState). h.turned) disarms.only) i;
          });
      driven = driven-disarmed old armed ran new (armed-state old armed Armed within is) driven disarms;
      in_time = inr (none, disarmed-time ran new within-ran disarms (further.on_time (armed-time old armed Armed within is early)));
    }

-- a step behind a round
pub moves-behind : (a b c : HomeState) → NoneIsHeld a → GoesFurther a b → steps_in (state_of a) ≤ steps_in (state_of b) → MovesOn b c → MovesOn a c
moves-behind a b c loose further more moves = record {
  loose = loose;
  few = (let few = moves.few in let most = ap (λ (h : HomeState). h.most) further.only in omega (arith, few, most));
  steps = by moves.steps;
}
  where
    by : (steps_in (state_of b) + 1 ≤ steps_in (state_of c)) ⊎ (IsOneHeld c × (steps_in (state_of b) ≤ steps_in (state_of c))) → (steps_in (state_of a) + 1 ≤ steps_in (state_of c)) ⊎ (IsOneHeld c × (steps_in (state_of a) ≤ steps_in (state_of c)))
    by (inl one) = inl (omega (arith, more, one))
    by (inr held) = inr (held.0, let same = held.1 in omega (arith, more, same))
