-- In every state that a legal log leads to, and in a leg that goes on, each worker's position is bounded.
use Rattle.std.proofs.Common.{◌≡◌, ℕ, zero, suc, ◌+◌, ◌<◌, eqb, List, [], ◌∷◌, map, get_or, Option, Some, None, Bool, true, false, if◌then◌else◌, ◌⊎◌, inl, inr, refl}
use Rattle.amber_rows.specs.Topology.{crew_of}
use Rattle.amber_log.specs.Commands.{action_of}
use Rattle.amber_log.specs.declared.command.Command.{Command}
use Rattle.amber_log.specs.declared.effect.Action.{Action}
use Rattle.amber_log.specs.declared.effect.Action.TheVariants as action
use Rattle.amber_log.specs.declared.leg.Close.{Close}
use Rattle.amber_log.specs.declared.leg.Close.TheVariants as close
use Rattle.amber_log.specs.declared.leg.Part.{Part}
use Rattle.amber_log.specs.declared.log.Item.{Item}
use Rattle.amber_log.specs.declared.log.Item.TheVariants as item
use Rattle.amber_log.specs.declared.log.Log.{Log}
use Rattle.amber_meaning.specs.Legal.{IsLegal, IsOpen, IsWorked, Makes, Query, Reaches, after_close, entries_of, leg_start, role_in}
use Rattle.amber_meaning.specs.Position.{Position, origin}
use Rattle.amber_meaning.specs.State.{State, after_action, after_command, begin_leg, begin_last_leg, let_go, position_at, start_of, without_held, without_row, worker_at}
use Rattle.amber_rows.specs.Lists.{changed_from}
use Rattle.amber_meaning.specs.Stops.{without_stops}
use Rattle.amber_meaning.specs.Task.{Role}
use Rattle.amber_meaning.proofs.Chunks.{offered-orderly}
use Rattle.amber_meaning.proofs.OneState.{origin-at, position-get_or}
use Rattle.amber_lines.specs.Moving.{orders_in}
use Rattle.amber_lines.proofs.Bounded.{IsBounded, led-bounded, let_go-bounded, origin-bounded, without_held-bounded}

-- each worker's position is bounded
abbrev pub AreBounded : Query → List Position → Type 0
AreBounded query positions = (worker : ℕ) → worker < crew_of query.flow → IsBounded (role_in query worker) (position_at positions worker)

-- ---- one position among others

let_go-at : (positions : List Position) (worker : ℕ) → get_or (map let_go positions) worker origin ≡ let_go (get_or positions worker origin)
let_go-at [] worker = refl
let_go-at (p ∷ positions) zero = refl
let_go-at (p ∷ positions) (suc worker) = let_go-at positions worker

-- a position after a change of one is the one before, or it changed
changed-or : (number place : ℕ) (positions : List Position) (worker : ℕ)
    → (get_or (changed_from without_held number place positions) worker origin ≡ get_or positions worker origin)
    ⊎ (get_or (changed_from without_held number place positions) worker origin ≡ without_held (get_or positions worker origin))
changed-or number place [] worker = inl refl
changed-or number place (p ∷ positions) zero = by (eqb place number)
  where
    by : (b : Bool) → ((if b then without_held p else p) ≡ p) ⊎ ((if b then without_held p else p) ≡ without_held p)
    by true = inr refl
    by false = inl refl
changed-or number place (p ∷ positions) (suc worker) = changed-or number (suc place) positions worker

-- ---- states

start-bounded : (query : Query) → AreBounded query (start_of query.flow).positions
unfolding start_of
start-bounded query worker less =
    rw (origin-at (crew_of query.flow) worker) (origin-bounded (role_in query worker))

begin_leg-bounded : (query : Query) (positions : List Position) → AreBounded query positions → AreBounded query (map let_go positions)
begin_leg-bounded query positions h worker less =
    rw (position-get_or (map let_go positions) worker, let_go-at positions worker, ← position-get_or positions worker)
    (let_go-bounded (role_in query worker) (position_at positions worker) (h worker less))

pub leg_start-bounded : (query : Query) (to_end : Bool) (state : State) → AreBounded query state.positions → AreBounded query (leg_start to_end state).positions
unfolding begin_leg begin_last_leg
leg_start-bounded query true state h = begin_leg-bounded query state.positions h
leg_start-bounded query false state h = begin_leg-bounded query state.positions h

dropped-bounded : (query : Query) (number : ℕ) (positions : List Position) → AreBounded query positions → AreBounded query (changed_from without_held number 1 positions)
dropped-bounded query number positions h worker less = by (changed-or number 1 positions worker)
  where
    role : Role
    role = role_in query worker

    at : IsBounded role (get_or positions worker origin)
    at = rw position-get_or at (h worker less)

    by : (get_or (changed_from without_held number 1 positions) worker origin ≡ get_or positions worker origin)
        ⊎ (get_or (changed_from without_held number 1 positions) worker origin ≡ without_held (get_or positions worker origin))
        → IsBounded role (position_at (changed_from without_held number 1 positions) worker)
    by (inl same) = rw (position-get_or (changed_from without_held number 1 positions) worker, same) at
    by (inr new) = rw (position-get_or (changed_from without_held number 1 positions) worker, new) (without_held-bounded role (get_or positions worker origin) at)

row-bounded : (query : Query) (op : ℕ) (drops : Option ℕ) (positions : List Position) → AreBounded query positions → AreBounded query (without_row query.flow op drops positions)
row-bounded query op None positions h = h
row-bounded query op (Some worker) positions h = dropped-bounded query (worker_at query.flow op worker + 1) positions h

after_command-bounded : (query : Query) (state : State) (done : Command) → AreBounded query state.positions → AreBounded query (after_command query.flow done state).positions
unfolding after_command
after_command-bounded query state done h = by (action_of done)
  where
    by : (action : Action) → AreBounded query (after_action query.flow action state).positions
    by (action.Leg to_end) = h
    by (action.AtRest effect) = row-bounded query effect.op effect.drops state.positions h

pub after_leg-bounded : (query : Query) (before after : State) (parts : List Part) → IsWorked query before parts after → AreBounded query before.positions
    → AreBounded query after.positions
after_leg-bounded query before after parts after_leg h worker less =
    led-bounded (role_in query worker) (orders_in query before worker) (position_at before.positions worker) (position_at after.positions worker)
    (entries_of parts worker) (offered-orderly query after.positions worker after_leg.offered less) (after_leg.moved worker less) (h worker less)

after_close-bounded : (query : Query) (state : State) (closed : Close) → AreBounded query state.positions → AreBounded query (after_close query state closed).positions
unfolding without_stops
after_close-bounded query state close.Cut h = h
after_close-bounded query state close.Long h = h

made-bounded : (query : Query) (state after : State) (one : Item) → Makes query state one after → AreBounded query state.positions → AreBounded query after.positions
made-bounded query state after (item.Do done) h bounded = rw h.1 (after_command-bounded query state done bounded)
made-bounded query state after (item.Run leg) h bounded =
    rw h.3 (after_close-bounded query h.0 leg.close (after_leg-bounded query (begin_leg state) h.0 leg.parts h.1 (leg_start-bounded query false state bounded)))
made-bounded query state after (item.End leg) h bounded =
    rw h.3 (after_leg-bounded query (begin_last_leg state) h.0 leg.parts h.1 (leg_start-bounded query true state bounded))

reached-bounded : (query : Query) (state after : State) (items : List Item) → Reaches query state items after → AreBounded query state.positions
    → AreBounded query after.positions
unfolding Reaches
reached-bounded query state after [] h bounded = rw (← h) bounded
reached-bounded query state after (one ∷ more) h bounded = reached-bounded query h.0 after more h.2 (made-bounded query state h.0 one h.1 bounded)

pub legal-bounded : (query : Query) (log : Log) → (legal : IsLegal query log) → AreBounded query legal.after.positions
legal-bounded query log legal = reached-bounded query (start_of query.flow) legal.after log.items legal.reached (start-bounded query)

pub open-bounded : (query : Query) (log : Log) (to_end : Bool) (parts : List Part) → (leg : IsOpen query log to_end parts) → AreBounded query leg.now.positions
open-bounded query log to_end parts leg =
    after_leg-bounded query (leg_start to_end leg.legal.after) leg.now parts leg.worked (leg_start-bounded query to_end leg.legal.after (legal-bounded query log leg.legal))
