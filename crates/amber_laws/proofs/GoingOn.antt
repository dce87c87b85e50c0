-- Of each worker the rows that are gone stay gone, in order, whatever items follow.
use Rattle.std.proofs.Common.{ℕ, zero, suc, ◌+◌, ◌<◌, eqb, List, [], ◌∷◌, ◌++◌, get_or, replicate, Option, Some, None, Bool, true, false, refl, sym, ap}
use Rattle.std.specs.Prelude.{if◌then◌else◌}
use Rattle.amber_rows.specs.Lists.{IsPrefix, changed_at, changed_from}
use Rattle.amber_rows.specs.Topology.{crew_of, op_of}
use Rattle.amber_rows.specs.declared.flow.Operator.{Operator}
use Rattle.amber_log.specs.declared.effect.Action.TheVariants as action
use Rattle.amber_log.specs.declared.effect.Effect.{Effect}
use Rattle.amber_log.specs.declared.entry.Entry.{Entry}
use Rattle.amber_log.specs.declared.entry.Entry.TheVariants as entry
use Rattle.amber_log.specs.declared.leg.Close.{Close}
use Rattle.amber_log.specs.declared.leg.Close.TheVariants as close
use Rattle.amber_log.specs.declared.leg.Part.{Part}
use Rattle.amber_meaning.specs.Legal.{IsWorked, Query, after_close, entries_of, role_in}
use Rattle.amber_meaning.specs.Position.{Position, origin}
use Rattle.amber_meaning.specs.Rules.{Leads, Moves, Orders, assigned}
use Rattle.amber_meaning.specs.State.{State, after_action, arms_at, begin_leg, orders_of, position_at, without_held, without_row, worker_at}
use Rattle.amber_meaning.specs.Stops.{without_stops}
use Rattle.amber_meaning.specs.Task.{Role}
use Rattle.amber_meaning.proofs.Lists.{IsPrefix-refl, IsPrefix-trans}
use Rattle.amber_meaning.proofs.OneState.{position-get_or}
use Rattle.amber_laws.proofs.Reached.{let_go-at}

-- ---- workers go on

-- of each worker the rows that were gone in one state are the first of those that are gone in another
abbrev pub GoOn : ℕ → State → State → Type 0
GoOn crew old new = (worker : ℕ) → worker < crew → IsPrefix (position_at old.positions worker).outcomes (position_at new.positions worker).outcomes

moved-on : (role : Role) (orders : Orders) (p q : Position) (one : Entry) → Moves (assigned role orders) p one q → IsPrefix p.outcomes q.outcomes
moved-on role orders p q (entry.Take from number) h = rw h.2 (IsPrefix-refl p.outcomes)
moved-on role orders p q (entry.Go rows outs) h = (replicate outs true, ap (λ (s : Position). s.outcomes) (sym h.2))
moved-on role orders p q (entry.Grant n) h = rw h.2 (IsPrefix-refl p.outcomes)
moved-on role orders p q (entry.Back n) h = rw h.2 (IsPrefix-refl p.outcomes)
moved-on role orders p q entry.Pause h = rw h.2 (IsPrefix-refl p.outcomes)
moved-on role orders p q entry.Resume h = rw h.2 (IsPrefix-refl p.outcomes)
moved-on role orders p q entry.Hold h = rw h.2 (IsPrefix-refl p.outcomes)
moved-on role orders p q entry.Finish h = rw h.2 (IsPrefix-refl p.outcomes)

led-on : (role : Role) (orders : Orders) (p q : Position) (entries : List Entry) → Leads (assigned role orders) p entries q → IsPrefix p.outcomes q.outcomes
unfolding Leads
led-on role orders p q [] h = rw h (IsPrefix-refl q.outcomes)
led-on role orders p q (one ∷ more) h = IsPrefix-trans p.outcomes h.0.outcomes q.outcomes (moved-on role orders p h.0 one h.1) (led-on role orders h.0 q more h.2)

without_held-on : (p : Position) → IsPrefix p.outcomes (without_held p).outcomes
without_held-on p = by p.restraint.held
  where
    by : (b : Bool) → IsPrefix p.outcomes (if b then record p { outcomes = p.outcomes ++ false ∷ []; restraint = record p.restraint { held = false } } else p).outcomes
    by true = (false ∷ [], refl)
    by false = IsPrefix-refl p.outcomes

dropped-on : (number place : ℕ) (ps : List Position) (n : ℕ) → IsPrefix (get_or ps n origin).outcomes (get_or (changed_from without_held number place ps) n origin).outcomes
dropped-on number place [] n = IsPrefix-refl origin.outcomes
dropped-on number place (p ∷ ps) zero = by (eqb place number)
  where
    by : (b : Bool) → IsPrefix p.outcomes (if b then without_held p else p).outcomes
    by true = without_held-on p
    by false = IsPrefix-refl p.outcomes
dropped-on number place (p ∷ ps) (suc n) = dropped-on number (suc place) ps n

pub go-on-refl : (crew : ℕ) (state : State) → GoOn crew state state
go-on-refl crew state worker less = IsPrefix-refl (position_at state.positions worker).outcomes

pub go-on-trans : (crew : ℕ) (a b c : State) → GoOn crew a b → GoOn crew b c → GoOn crew a c
go-on-trans crew a b c h k worker less = IsPrefix-trans _ _ _ (h worker less) (k worker less)

-- in a leg
worked-on : (query : Query) (start reached : State) (parts : List Part) → IsWorked query start parts reached → GoOn (crew_of query.flow) start reached
worked-on query start reached parts h worker less =
    led-on (role_in query worker) (orders_of (arms_at start (op_of query.flow worker))) (position_at start.positions worker) (position_at reached.positions worker) (entries_of parts worker) (h.moved worker less)

begun-on : (query : Query) (state : State) → GoOn (crew_of query.flow) state (begin_leg state)
unfolding begin_leg
begun-on query state worker less = rw (let_go-at state.positions worker) (IsPrefix-refl (position_at state.positions worker).outcomes)

pub leg-on : (query : Query) (state reached : State) (parts : List Part) → IsWorked query (begin_leg state) parts reached → GoOn (crew_of query.flow) state reached
leg-on query state reached parts h = go-on-trans (crew_of query.flow) state (begin_leg state) reached (begun-on query state) (worked-on query (begin_leg state) reached parts h)

-- a cut changes no position
pub closed-on : (query : Query) (state : State) (closed : Close) → GoOn (crew_of query.flow) state (after_close query state closed)
unfolding without_stops
closed-on query state close.Cut worker less = IsPrefix-refl (position_at state.positions worker).outcomes
closed-on query state close.Long worker less = IsPrefix-refl (position_at state.positions worker).outcomes

-- a row that is dropped is gone too
row-on : (flow : List Operator) (op : ℕ) (drops : Option ℕ) (ps : List Position) (worker : ℕ)
    → IsPrefix (position_at ps worker).outcomes (position_at (without_row flow op drops ps) worker).outcomes
row-on flow op None ps worker = IsPrefix-refl (position_at ps worker).outcomes
row-on flow op (Some one) ps worker =
    rw (position-get_or ps worker, position-get_or (changed_at without_held (worker_at flow op one + 1) ps) worker) (dropped-on (worker_at flow op one + 1) 1 ps worker)

pub rest-on : (query : Query) (state : State) (effect : Effect) → GoOn (crew_of query.flow) state (after_action query.flow (action.AtRest effect) state)
rest-on query state effect worker less = row-on query.flow effect.op effect.drops state.positions worker
