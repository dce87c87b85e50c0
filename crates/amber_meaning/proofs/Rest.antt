-- How states stand between legs, and how legs are opened and closed.
use Rattle.std.proofs.Common.{◌≡◌, ℕ, zero, suc, ◌+◌, ◌≤◌, eqb, List, [], ◌∷◌, ◌++◌, length, map, get_or, replicate, Option, Some, None, Bool, true, false, if◌then◌else◌, refl, sym, ap, ◌∙◌, arith, length-append}
use Rattle.std.specs.List.{sum_by}
use Rattle.std.proofs.lemmas.Bool.{false≢true}
use Rattle.std.proofs.lemmas.List.{length-map, length-replicate}
use Rattle.std.proofs.lemmas.List.Folds.{sum_by-replicate}
use Rattle.std.proofs.lemmas.List.Sums.{sum_by-cons, sum_by_push}
use Rattle.amber_rows.specs.Topology.{crew_of}
use Rattle.amber_rows.specs.Lists.{numbers_below, changed_from}
use Rattle.amber_rows.specs.declared.value.Value.{Value}
use Rattle.amber_rows.specs.declared.flow.Operator.{Operator}
use Rattle.amber_log.specs.Commands.{action_of}
use Rattle.amber_log.specs.Grammar.{AreParts}
use Rattle.amber_log.specs.declared.command.Command.{Command}
use Rattle.amber_log.specs.declared.effect.Action.{Action}
use Rattle.amber_log.specs.declared.effect.Action.TheVariants as action
use Rattle.amber_log.specs.declared.leg.Close.{Close}
use Rattle.amber_log.specs.declared.leg.Close.TheVariants as close
use Rattle.amber_log.specs.declared.leg.Part.{Part}
use Rattle.amber_log.specs.declared.log.Item.{Item}
use Rattle.amber_log.specs.declared.log.Item.TheVariants as item
use Rattle.amber_meaning.specs.Laws.{EndsClose, IsResting, LegalLogsRest, LegsOpen, RunsClose}
use Rattle.amber_meaning.specs.Legal.{AreOffered, ClosesEnd, ClosesRun, IsSettled, IsWorked, Makes, Query, Reaches, after_close, batches_for, entries_of, leg_start, stream_of}
use Rattle.amber_meaning.specs.Position.{Position, emitted_count, is_emitted, kept, origin, steps_of, taken_from}
use Rattle.amber_meaning.specs.Rules.{Leads}
use Rattle.amber_meaning.specs.State.{State, after_action, after_command, begin_leg, begin_last_leg, let_go, position_at, start_of, steps_in, without_arms, without_held, without_row, worker_at}
use Rattle.amber_meaning.specs.Stops.{op_numbers, without_stops}
use Rattle.amber_meaning.proofs.Fronts.{legal_logs_grow}
use Rattle.amber_meaning.proofs.OneState.{origin-at, position-get_or}

-- ---- positions that differ in what holds them back but the hand, and in dropped rows, alone

record IsLike (p q : Position) : Type 0 where
  taken : p.taken ≡ q.taken
  constants : p.constants ≡ q.constants
  hand : p.restraint.hand ≡ q.restraint.hand
  finished : p.finished ≡ q.finished
  emitted : (rows : List (List Value)) → kept rows p.outcomes ≡ kept rows q.outcomes
  steps : steps_of p ≡ steps_of q

IsLike-refl : (p : Position) → IsLike p p
IsLike-refl p = record { taken = refl; constants = refl; hand = refl; finished = refl; emitted = λ rows. refl; steps = refl }

let_go-like : (p : Position) → IsLike p (let_go p)
let_go-like p = record { taken = refl; constants = refl; hand = refl; finished = refl; emitted = λ rows. refl; steps = refl }

kept-dropped : (rows : List (List Value)) (outcomes : List Bool) → kept rows outcomes ≡ kept rows (outcomes ++ false ∷ [])
unfolding kept
kept-dropped [] outcomes = refl
kept-dropped (row ∷ []) [] = refl
kept-dropped (row ∷ next ∷ rows) [] = refl
kept-dropped (row ∷ rows) (true ∷ outcomes) = ap (λ l. row ∷ l) (kept-dropped rows outcomes)
kept-dropped (row ∷ rows) (false ∷ outcomes) = kept-dropped rows outcomes

emitted-dropped : (outcomes : List Bool) → emitted_count outcomes ≡ emitted_count (outcomes ++ false ∷ [])
emitted-dropped outcomes = let more = sum_by_push (λ outcome. if is_emitted outcome then 1 else 0) outcomes false in omega arith

without_held-like : (p : Position) → IsLike p (without_held p)
without_held-like p = by p.restraint.held
  where
    by : (b : Bool) → IsLike p (if b then record p { outcomes = p.outcomes ++ false ∷ []; restraint = record p.restraint { held = false } } else p)
    by true = record {
      taken = refl;
      constants = refl;
      hand = refl;
      finished = refl;
      emitted = λ rows. kept-dropped rows p.outcomes;
      steps = rw (← emitted-dropped p.outcomes);
    }
    by false = IsLike-refl p

-- ---- lists of them

abbrev AreLike : List Position → List Position → Type 0
AreLike [] [] = Unit {0}
AreLike [] (q ∷ qs) = ⊥
AreLike (p ∷ ps) [] = ⊥
AreLike (p ∷ ps) (q ∷ qs) = IsLike p q × AreLike ps qs

like-map : (ps : List Position) → AreLike ps (map let_go ps)
like-map [] = tt
like-map (p ∷ ps) = (let_go-like p, like-map ps)

like-changed : (number place : ℕ) (ps : List Position) → AreLike ps (changed_from without_held number place ps)
like-changed number place [] = tt
like-changed number place (p ∷ ps) = (by (eqb place number), like-changed number (suc place) ps)
  where
    by : (b : Bool) → IsLike p (if b then without_held p else p)
    by true = without_held-like p
    by false = IsLike-refl p

like-length : (ps qs : List Position) → AreLike ps qs → length ps ≡ length qs
like-length [] [] h = refl
like-length [] (q ∷ qs) h = absurd h
like-length (p ∷ ps) [] h = absurd h
like-length (p ∷ ps) (q ∷ qs) h = ap suc (like-length ps qs h.1)

like-steps : (ps qs : List Position) → AreLike ps qs → sum_by steps_of ps ≡ sum_by steps_of qs
like-steps [] [] h = refl
like-steps [] (q ∷ qs) h = absurd h
like-steps (p ∷ ps) [] h = absurd h
like-steps (p ∷ ps) (q ∷ qs) h =
    sum_by-cons steps_of p ps ∙ rw (h.0.steps, like-steps ps qs h.1) refl ∙ sym (sum_by-cons steps_of q qs)

like-get_or : (ps qs : List Position) (n : ℕ) → AreLike ps qs → IsLike (get_or ps n origin) (get_or qs n origin)
like-get_or [] [] n h = IsLike-refl origin
like-get_or [] (q ∷ qs) n h = absurd h
like-get_or (p ∷ ps) [] n h = absurd h
like-get_or (p ∷ ps) (q ∷ qs) zero h = h.0
like-get_or (p ∷ ps) (q ∷ qs) (suc n) h = like-get_or ps qs n h.1

like-at : (ps qs : List Position) (worker : ℕ) → AreLike ps qs → IsLike (position_at ps worker) (position_at qs worker)
like-at ps qs worker h = rw (position-get_or ps worker, position-get_or qs worker) (like-get_or ps qs worker h)

like-batches : (query : Query) (ps qs : List Position) (sender receiver : ℕ) → AreLike ps qs
    → batches_for query ps sender receiver ≡ batches_for query qs sender receiver
unfolding batches_for stream_of
like-batches query ps qs sender receiver h =
    let like = like-at ps qs sender h in
    rw (like.taken, like.constants, like.finished, like.emitted _)

like-offered : (query : Query) (ps qs : List Position) → AreLike ps qs → AreOffered query ps → AreOffered query qs
unfolding AreOffered
like-offered query ps qs h offered receiver less sender known =
    rw (← (like-at ps qs receiver h).taken, ← like-batches query ps qs sender receiver h) (offered receiver less sender known)

-- ---- states between legs

resting-like : (query : Query) (state after : State) → length after.arms ≡ length state.arms → AreLike state.positions after.positions
    → IsResting query state → IsResting query after
unfolding steps_in
resting-like query state after arms like h = record {
  arms = arms ∙ h.arms;
  crew = sym (like-length state.positions after.positions like) ∙ h.crew;
  hands = λ worker less. sym (like-at state.positions after.positions worker like).hand ∙ h.hands worker less;
  offered = like-offered query state.positions after.positions like h.offered;
  few = rw (← like-steps state.positions after.positions like) h.few;
}

like-itself : (ps : List Position) → AreLike ps ps
like-itself [] = tt
like-itself (p ∷ ps) = (IsLike-refl p, like-itself ps)

changed-length : {A : Type 0} (change : A → A) (number place : ℕ) (xs : List A) → length (changed_from change number place xs) ≡ length xs
changed-length change number place [] = refl
changed-length change number place (x ∷ xs) = ap suc (changed-length change number (suc place) xs)

dropped-like : (flow : List Operator) (op : ℕ) (drops : Option ℕ) (ps : List Position) → AreLike ps (without_row flow op drops ps)
dropped-like flow op None ps = like-itself ps
dropped-like flow op (Some worker) ps = like-changed (worker_at flow op worker + 1) 1 ps

after_command-rests : (query : Query) (state : State) (done : Command) → IsResting query state → IsResting query (after_command query.flow done state)
unfolding after_command
after_command-rests query state done h = by (action_of done)
  where
    by : (action : Action) → IsResting query (after_action query.flow action state)
    by (action.Leg to_end) = h
    by (action.AtRest effect) =
        resting-like query state (after_action query.flow (action.AtRest effect) state) (changed-length _ effect.op 1 state.arms)
        (dropped-like query.flow effect.op effect.drops state.positions) h

start-rests : (query : Query) → IsResting query (start_of query.flow)
unfolding start_of steps_in AreOffered taken_from
start-rests query = record {
  arms = length-map query.flow _;
  crew = length-replicate (crew_of query.flow) origin;
  hands = λ worker less. rw (origin-at (crew_of query.flow) worker);
  offered = λ receiver less sender known. rw (origin-at (crew_of query.flow) receiver) (batches_for query (replicate (crew_of query.flow) origin) sender receiver, refl);
  few = rw (sum_by-replicate steps_of (crew_of query.flow) origin) (omega arith);
}

numbers-length : (n : ℕ) → length (numbers_below n) ≡ n
unfolding numbers_below
numbers-length zero = refl
numbers-length (suc n) = omega (arith, length-append (numbers_below n) (n ∷ []), numbers-length n)

ops-length : (flow : List Operator) → length (op_numbers flow) ≡ length flow
ops-length flow = length-map (numbers_below (length flow)) suc ∙ numbers-length (length flow)

closed-rests : (query : Query) (before reached : State) (parts : List Part) → IsWorked query before parts reached → length before.arms ≡ length query.flow
    → IsSettled query reached → steps_in reached ≤ query.most → IsResting query reached
closed-rests query before reached parts after_leg arms settled steps =
    record { arms = ap length after_leg.same_arms ∙ arms; crew = after_leg.crew; hands = settled.hands; offered = after_leg.offered; few = steps }

run-settled : (query : Query) (state : State) (closed : Close) → ClosesRun query state closed → IsSettled query state
run-settled query state close.Cut h = h.0
run-settled query state close.Long h = h.0

run-few : (query : Query) (state : State) (closed : Close) → ClosesRun query state closed → steps_in state ≤ query.most
run-few query state close.Cut h = h.1
run-few query state close.Long h = let most = h.1 in omega arith

end-settled : (query : Query) (state : State) (closed : Close) → ClosesEnd query state closed → IsSettled query state
end-settled query state close.Cut h = h.0
end-settled query state close.Long h = h.0

end-few : (query : Query) (state : State) (closed : Close) → ClosesEnd query state closed → steps_in state ≤ query.most
end-few query state close.Cut h = h.1
end-few query state close.Long h = let most = h.1 in omega arith

after_close-rests : (query : Query) (state : State) (closed : Close) → IsResting query state → IsResting query (after_close query state closed)
unfolding without_stops
after_close-rests query state close.Cut h =
    resting-like query state (without_stops query.flow state)
    (length-map (op_numbers query.flow) _ ∙ ops-length query.flow ∙ sym h.arms) (like-itself state.positions) h
after_close-rests query state close.Long h = h

begin_leg-arms : (state : State) → length (begin_leg state).arms ≡ length state.arms
unfolding begin_leg
begin_leg-arms state = refl

ended-arms : (state : State) → length (begin_last_leg state).arms ≡ length state.arms
unfolding begin_last_leg
ended-arms state = length-map state.arms without_arms

made-rests : (query : Query) (state after : State) (one : Item) → Makes query state one after → IsResting query state → IsResting query after
made-rests query state after (item.Do done) h rests = rw h.1 (after_command-rests query state done rests)
made-rests query state after (item.Run leg) h rests =
    rw h.3 (after_close-rests query h.0 leg.close
    (closed-rests query (begin_leg state) h.0 leg.parts h.1 (begin_leg-arms state ∙ rests.arms) (run-settled query h.0 leg.close h.2) (run-few query h.0 leg.close h.2)))
made-rests query state after (item.End leg) h rests =
    rw h.3 (closed-rests query (begin_last_leg state) h.0 leg.parts h.1 (ended-arms state ∙ rests.arms) (end-settled query h.0 leg.close h.2) (end-few query h.0 leg.close h.2))

reached-rests : (query : Query) (state after : State) (items : List Item) → Reaches query state items after → IsResting query state → IsResting query after
unfolding Reaches
reached-rests query state after [] h rests = rw (← h) rests
reached-rests query state after (one ∷ more) h rests = reached-rests query h.0 after more h.2 (made-rests query state h.0 one h.1 rests)

pub legal_logs_rest : LegalLogsRest
legal_logs_rest query log legal = reached-rests query (start_of query.flow) legal.after log.items legal.reached (start-rests query)

-- ---- legs

begin_leg-like : (to_end : Bool) (state : State) → AreLike state.positions (leg_start to_end state).positions
unfolding begin_leg begin_last_leg
begin_leg-like true state = like-map state.positions
begin_leg-like false state = like-map state.positions

nobody-after_leg : (query : Query) (state : State) → length state.positions ≡ crew_of query.flow → AreOffered query state.positions → IsWorked query state [] state
unfolding entries_of Leads
nobody-after_leg query state crew offered = record {
  same_arms = refl;
  crew = crew;
  known = λ worker none. absurd (false≢true none);
  moved = λ worker less. refl;
  offered = offered;
}

pub legs_open : LegsOpen
unfolding AreParts steps_in
legs_open query log to_end legal more =
    let rests = legal_logs_rest query log legal in
    let like = begin_leg-like to_end legal.after in
    let now : State = leg_start to_end legal.after in (
      record {
        legal = legal;
        more = more;
        text = tt;
        now = now;
        worked = nobody-after_leg query now (sym (like-length legal.after.positions now.positions like) ∙ rests.crew)
            (like-offered query legal.after.positions now.positions like rests.offered);
        few = rw (← like-steps legal.after.positions now.positions like) rests.few;
      },
      refl,
    )

pub runs_close : RunsClose
runs_close query log parts closed leg closes =
    legal_logs_grow query log.batch log.items (item.Run (record { parts = parts; close = closed })) (after_close query leg.now closed)
    leg.legal leg.more leg.text (leg.now, leg.worked, closes, refl)

pub ends_close : EndsClose
ends_close query log parts closed leg closes =
    legal_logs_grow query log.batch log.items (item.End (record { parts = parts; close = closed })) leg.now
    leg.legal leg.more leg.text (leg.now, leg.worked, closes, refl)
