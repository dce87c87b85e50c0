-- The state that an unaltered legal log leads to: each position is sound, and what was taken is what was made.
use Rattle.std.proofs.Common.{◌≡◌, ℕ, zero, suc, ◌<◌, ◌≤◌, eqb, List, [], ◌∷◌, length, map, take, get_or, Option, Some, None, unwrap_or, is_some, Bool, true, false, not, ◌&&◌, if◌then◌else◌, refl, ap, ◌∙◌, arith, add-one}
use Rattle.std.specs.Prelude.{◌||◌}
use Rattle.std.specs.List.{slice_get}
use Rattle.std.proofs.lemmas.Bool.{and_parts, false≢true}
use Rattle.std.proofs.lemmas.List.{map-append, take_all, take_more}
use Rattle.amber_rows.specs.Lists.{numbers_below, changed_from}
use Rattle.amber_rows.specs.Topology.{crew_of, kind_at, op_of, what_at}
use Rattle.amber_rows.specs.declared.flow.Operator.{Operator}
use Rattle.amber_rows.specs.declared.value.Value.{Value}
use Rattle.amber_log.specs.Commands.{action_of}
use Rattle.amber_log.specs.Effect.{is_nobody}
use Rattle.amber_log.specs.declared.command.Command.{Command}
use Rattle.amber_log.specs.declared.command.Command.TheVariants as command
use Rattle.amber_log.specs.declared.effect.Action.{Action}
use Rattle.amber_log.specs.declared.effect.Action.TheVariants as action
use Rattle.amber_log.specs.declared.effect.Effect.{Effect}
use Rattle.amber_log.specs.declared.leg.Close.{Close}
use Rattle.amber_log.specs.declared.leg.Close.TheVariants as close
use Rattle.amber_log.specs.declared.leg.Part.{Part}
use Rattle.amber_log.specs.declared.log.Item.{Item}
use Rattle.amber_log.specs.declared.log.Item.TheVariants as item
use Rattle.amber_log.specs.declared.log.Log.{Log}
use Rattle.amber_meaning.specs.Legal.{AreOffered, IsLegal, IsOpen, IsUnaltered, IsWorked, Makes, Query, Reaches, action_alters, after_close, alters, entries_of, leg_start, role_in}
use Rattle.amber_meaning.specs.Plan.{role_of, task_of}
use Rattle.amber_meaning.specs.Position.{Position, origin}
use Rattle.amber_meaning.specs.State.{Arms, State, after_action, after_command, arms_at, begin_leg, begin_last_leg, first_constants, let_go, no_arms, orders_of, position_at, put_constant, start_of, without_arms}
use Rattle.amber_meaning.specs.Stops.{arms_left, op_numbers, without_stops}
use Rattle.amber_meaning.proofs.AtRest.{nobody-none}
use Rattle.amber_meaning.proofs.Lists.{nth-next}
use Rattle.amber_meaning.proofs.OneState.{origin-at, position-get_or}
use Rattle.amber_meaning.proofs.Rest.{legal_logs_rest}
use Rattle.amber_meaning.proofs.Chunks.{offered-orderly}
use Rattle.amber_laws.proofs.Sound.{IsSound, led-sound, origin-sound, restrained-sound}

-- ---- the constants in force

-- at each operator its own constants are in force
abbrev pub HasOwn : List Operator → List Arms → Type 0
HasOwn flow arms = map (λ (a : Arms). a.constants) arms ≡ map (λ (o : Operator). first_constants o.what) flow

changed-own : (change : Arms → Arms) (number place : ℕ) (arms : List Arms) → ((a : Arms) → (change a).constants ≡ a.constants)
    → map (λ (a : Arms). a.constants) (changed_from change number place arms) ≡ map (λ (a : Arms). a.constants) arms
changed-own change number place [] same = refl
changed-own change number place (a ∷ arms) same = by (eqb place number) (changed-own change number (suc place) arms same)
  where
    by : (b : Bool) → map (λ (a : Arms). a.constants) (changed_from change number (suc place) arms) ≡ map (λ (a : Arms). a.constants) arms
        → (if b then change a else a).constants ∷ map (λ (a : Arms). a.constants) (changed_from change number (suc place) arms) ≡ a.constants ∷ map (λ (a : Arms). a.constants) arms
    by true e = rw (same a, e) refl
    by false e = rw e refl

without_arms-own : (arms : List Arms) → map (λ (a : Arms). a.constants) (map without_arms arms) ≡ map (λ (a : Arms). a.constants) arms
without_arms-own [] = refl
without_arms-own (a ∷ arms) = ap (λ l. a.constants ∷ l) (without_arms-own arms)

start-own : (flow : List Operator) → HasOwn flow (map (λ (operator : Operator). record no_arms { constants = first_constants operator.what }) flow)
start-own [] = refl
start-own (o ∷ flow) = ap (λ l. first_constants o.what ∷ l) (start-own flow)

-- the constants at a number
constants-of : (flow : List Operator) (arms : List Arms) (n : ℕ) → HasOwn flow arms
    → (unwrap_or (slice_get arms n) no_arms).constants ≡ first_constants (kind_at (slice_get flow n))
constants-of [] [] n h = refl
constants-of [] (a ∷ arms) n h = cc
constants-of (o ∷ flow) [] n h = cc
constants-of (o ∷ flow) (a ∷ arms) zero h = cc
constants-of (o ∷ flow) (a ∷ arms) (suc n) h =
    let rest : map (λ (a : Arms). a.constants) arms ≡ map (λ (o : Operator). first_constants o.what) flow = cc in
    constants-of flow arms n rest

pub own-constants : (flow : List Operator) (state : State) (op : ℕ) → HasOwn flow state.arms → (arms_at state op).constants ≡ first_constants (what_at flow op)
own-constants flow state zero h = refl
own-constants flow state (suc n) h =
    rw (← add-one n, nth-next state.arms n, nth-next flow n) (constants-of flow state.arms n h)

slice_get-some : {A : Type 0} (xs : List A) (n : ℕ) (d : A) → n < length xs → slice_get xs n ≡ Some (get_or xs n d)
slice_get-some [] n d h = absurd (omega arith)
slice_get-some (x ∷ xs) zero d h = refl
slice_get-some (x ∷ xs) (suc n) d h = slice_get-some xs n d (omega arith)

-- what is made of each operator by its number
first-ops : (flow : List Operator) (d : Operator) (n : ℕ) → n ≤ length flow
    → map (λ op. first_constants (what_at flow op)) (map suc (numbers_below n)) ≡ map (λ (o : Operator). first_constants o.what) (take n flow)
unfolding numbers_below
first-ops flow d zero h = refl
first-ops flow d (suc n) h =
    let here : first_constants (what_at flow (suc n)) ≡ first_constants (get_or flow n d).what =
    rw (← add-one n, nth-next flow n, slice_get-some flow n d (omega arith)) refl in
    ap (map (λ op. first_constants (what_at flow op))) (map-append suc (numbers_below n) (n ∷ []))
    ∙ map-append (λ op. first_constants (what_at flow op)) (map suc (numbers_below n)) (suc n ∷ [])
    ∙ rw (first-ops flow d n (omega arith), here, ← add-one n, take_more flow n d (omega arith), map-append (λ (o : Operator). first_constants o.what) (take n flow) (get_or flow n d ∷ [])) refl

all-ops : (flow : List Operator) → map (λ op. first_constants (what_at flow op)) (op_numbers flow) ≡ map (λ (o : Operator). first_constants o.what) flow
unfolding numbers_below
all-ops [] = refl
all-ops (o ∷ flow) =
    first-ops (o ∷ flow) o (length (o ∷ flow)) (omega arith) ∙ ap (map (λ (o : Operator). first_constants o.what)) (take_all (length (o ∷ flow)) (o ∷ flow) (omega arith))

left-ops : (flow : List Operator) (state : State) (ops : List ℕ) → HasOwn flow state.arms
    → map (λ (a : Arms). a.constants) (map (arms_left flow state) ops) ≡ map (λ op. first_constants (what_at flow op)) ops
left-ops flow state [] h = refl
left-ops flow state (op ∷ ops) h = rw (own-constants flow state op h, left-ops flow state ops h) refl

-- ---- states

-- at each operator its own constants are in force, and each position is sound
pub record IsFit (query : Query) (state : State) : Type 0 where
  pub own : HasOwn query.flow state.arms
  pub sound : (worker : ℕ) → worker < crew_of query.flow → IsSound (role_in query worker) (position_at state.positions worker)

after_leg-fit : (query : Query) (before after : State) (parts : List Part) → IsWorked query before parts after → IsFit query before → IsFit query after
unfolding role_of task_of
after_leg-fit query before after parts h fit = record {
  own = rw h.same_arms fit.own;
  sound = λ worker less.
      led-sound (role_in query worker) (orders_of (arms_at before (op_of query.flow worker))) (position_at before.positions worker)
      (position_at after.positions worker) (entries_of parts worker) (own-constants query.flow before (op_of query.flow worker) fit.own)
      (offered-orderly query after.positions worker h.offered less) (fit.sound worker less) (h.moved worker less);
}

pub let_go-at : (ps : List Position) (worker : ℕ) → position_at (map let_go ps) worker ≡ let_go (position_at ps worker)
let_go-at ps worker = rw (position-get_or (map let_go ps) worker, position-get_or ps worker) (by ps worker)
  where
    by : (ps : List Position) (n : ℕ) → get_or (map let_go ps) n origin ≡ let_go (get_or ps n origin)
    by [] n = refl
    by (p ∷ ps) zero = refl
    by (p ∷ ps) (suc n) = by ps n

begin_leg-fit : (query : Query) (to_end : Bool) (state : State) → IsFit query state → IsFit query (leg_start to_end state)
unfolding begin_leg begin_last_leg
begin_leg-fit query true state fit = record {
  own = without_arms-own state.arms ∙ fit.own;
  sound = λ worker less. rw (let_go-at state.positions worker) (restrained-sound (role_in query worker) (position_at state.positions worker) _ (fit.sound worker less));
}
begin_leg-fit query false state fit = record {
  own = fit.own;
  sound = λ worker less. rw (let_go-at state.positions worker) (restrained-sound (role_in query worker) (position_at state.positions worker) _ (fit.sound worker less));
}

-- what does not alter what comes out puts no constant, and drops no row
abbrev tells_alteration : Action → Bool
tells_alteration (action.Leg to_end) = true
tells_alteration (action.AtRest effect) = effect.alters || (not (is_some effect.arming.constant) && is_nobody effect.drops)

-- each command is so
alterations-told : (one : Command) → tells_alteration (action_of one) ≡ true
alterations-told command.Run = refl
alterations-told other = refl

none-put : (constant : Option Value) → not (is_some constant) ≡ true → constant ≡ None
none-put None e = refl
none-put (Some value) e = cc

unaltered-parts : (effect : Effect) → not effect.alters ≡ true → tells_alteration (action.AtRest effect) ≡ true → (effect.arming.constant ≡ None) × (effect.drops ≡ None)
unaltered-parts effect e told = by effect.alters e told
  where
    by : (alters : Bool) → not alters ≡ true → (alters || (not (is_some effect.arming.constant) && is_nobody effect.drops)) ≡ true → (effect.arming.constant ≡ None) × (effect.drops ≡ None)
    by true e told = absurd (false≢true e)
    by false e told =
        let parts = and_parts (not (is_some effect.arming.constant)) (is_nobody effect.drops) told in
        (none-put effect.arming.constant parts.0, nobody-none effect.drops parts.1)

after_command-fit : (query : Query) (state : State) (done : Command) → not (alters (item.Do done)) ≡ true → IsFit query state → IsFit query (after_command query.flow done state)
unfolding after_command
after_command-fit query state done e fit = by (action_of done) e (alterations-told done)
  where
    by : (action : Action) → not (action_alters action) ≡ true → tells_alteration action ≡ true → IsFit query (after_action query.flow action state)
    by (action.Leg to_end) e told = fit
    by (action.AtRest effect) e told =
        let parts = unaltered-parts effect e told in
        record {
          own = changed-own _ effect.op 1 state.arms (λ a. ap (λ constant. put_constant constant a.constants) parts.0) ∙ fit.own;
          sound = λ worker less. rw parts.1 (fit.sound worker less);
        }

closed-fit : (query : Query) (state : State) (closed : Close) → IsFit query state → IsFit query (after_close query state closed)
unfolding without_stops
closed-fit query state close.Cut fit = record { own = left-ops query.flow state (op_numbers query.flow) fit.own ∙ all-ops query.flow; sound = fit.sound }
closed-fit query state close.Long fit = fit

made-fit : (query : Query) (state after : State) (one : Item) → Makes query state one after → not (alters one) ≡ true → IsFit query state → IsFit query after
made-fit query state after (item.Do done) h e fit = rw h.1 (after_command-fit query state done e fit)
made-fit query state after (item.Run leg) h e fit =
    rw h.3 (closed-fit query h.0 leg.close (after_leg-fit query (begin_leg state) h.0 leg.parts h.1 (begin_leg-fit query false state fit)))
made-fit query state after (item.End leg) h e fit =
    rw h.3 (after_leg-fit query (begin_last_leg state) h.0 leg.parts h.1 (begin_leg-fit query true state fit))

reached-fit : (query : Query) (state after : State) (items : List Item) → Reaches query state items after → IsUnaltered items → IsFit query state → IsFit query after
unfolding Reaches
reached-fit query state after [] h e fit = rw (← h) fit
reached-fit query state after (one ∷ more) h e fit =
    let parts = and_parts (not (alters one)) _ e in
    reached-fit query h.0 after more h.2 parts.1 (made-fit query state h.0 one h.1 parts.0 fit)

start-fit : (query : Query) → IsFit query (start_of query.flow)
unfolding start_of
start-fit query = record {
  own = start-own query.flow;
  sound = λ worker less. rw (origin-at (crew_of query.flow) worker) (origin-sound (role_in query worker));
}

-- ---- runs

-- a state that an unaltered run may reach, also within a leg
pub record IsRun (query : Query) (state : State) : Type 0 where
  pub some : 0 < query.batch_size
  pub crew : length state.positions ≡ crew_of query.flow
  pub sound : (worker : ℕ) → worker < crew_of query.flow → IsSound (role_in query worker) (position_at state.positions worker)
  pub offered : AreOffered query state.positions

legal-fit : (query : Query) (log : Log) (legal : IsLegal query log) → IsUnaltered log.items → IsFit query legal.after
legal-fit query log legal e = reached-fit query (start_of query.flow) legal.after log.items legal.reached e (start-fit query)

pub legal-run : (query : Query) (log : Log) (legal : IsLegal query log) → IsUnaltered log.items → IsRun query legal.after
legal-run query log legal e =
    let rests = legal_logs_rest query log legal in
    record {
      some = omega (arith, legal.text.batch, legal.batch);
      crew = rests.crew;
      sound = (legal-fit query log legal e).sound;
      offered = rests.offered;
    }

pub open-run : (query : Query) (log : Log) (to_end : Bool) (parts : List Part) (leg : IsOpen query log to_end parts) → IsUnaltered log.items → IsRun query leg.now
open-run query log to_end parts leg e = record {
  some = omega (arith, leg.legal.text.batch, leg.legal.batch);
  crew = leg.worked.crew;
  sound = (after_leg-fit query (leg_start to_end leg.legal.after) leg.now parts leg.worked (begin_leg-fit query to_end leg.legal.after (legal-fit query log leg.legal e))).sound;
  offered = leg.worked.offered;
}
