-- What is in force, as a home keeps it, stays what the definitions say: over states alone.
use Rattle.std.proofs.Common.{◌≡◌, refl, sym, ap, subst, ◌∙◌, ℕ, zero, suc, ◌+◌, ◌-◌, ◌<◌, eqb, nat_eq, List, [], ◌∷◌, ◌++◌, length, map, replicate, Bool, true, false, Option, None, Some, unwrap_or, if◌then◌else◌, inl, inr, arith}
use Rattle.std.specs.List.{slice_get}
use Rattle.std.proofs.lemmas.Bool.{cases_lt}
use Rattle.std.proofs.lemmas.Bool.Decides.{eqb_tells}
use Rattle.std.proofs.lemmas.List.{length-map}
use Rattle.amber_rows.specs.Lists.{IsPrefix, changed_at, changed_from, nth}
use Rattle.amber_rows.specs.Topology.{crew_of, op_of, workers_of}
use Rattle.amber_rows.specs.declared.flow.Operator.{Operator}
use Rattle.amber_log.specs.declared.effect.Action.TheVariants.{AtRest}
use Rattle.amber_log.specs.declared.effect.Effect.{Effect}
use Rattle.amber_log.specs.declared.entry.Entry.{Entry}
use Rattle.amber_log.specs.declared.entry.Entry.TheVariants as entry
use Rattle.amber_log.specs.declared.leg.Part.{Part}
use Rattle.amber_meaning.specs.Legal.{IsWorked, Query, entries_of, leg_start, role_in}
use Rattle.amber_meaning.specs.Position.{Position, origin}
use Rattle.amber_meaning.specs.Rules.{Leads, Moves, Orders, assigned}
use Rattle.amber_meaning.specs.State.{Arms, Counting, State, after_action, arms_at, arms_changed, begin_last_leg, begin_leg, counted_at, crew_at, emitted_by, first_constants, gone_at, let_go, no_arms, orders_of, position_at, start_of, without_arms, without_held, without_row, worker_at}
use Rattle.amber_meaning.specs.Stops.{arms_left, count_left, op_numbers, pause_left, without_stops}
use Rattle.amber_meaning.specs.Task.{Role}
use Rattle.amber_meaning.proofs.Crews.{worker-known}
use Rattle.amber_meaning.proofs.Lists.{IsPrefix-refl, IsPrefix-trans}
use Rattle.amber_meaning.proofs.Numbers.{among, among-first, among-more}
use Rattle.amber_dataflow.proofs.Numbered.{length-ops, nth-numbers}
use Rattle.amber_home.specs.Applied.{HasOperator}
use Rattle.amber_home.specs.Asked.{Asked, IsAskedOf, IsCountOf, IsInForce, asked_at, asked_changed, asked_left, emitted_of, first_asked, is_reached, no_asked, stands_after, without_asked}
use Rattle.amber_boards.specs.declared.target.Target.{Target}
use Rattle.amber_home.proofs.Counted.{AreLater, asked-changed, asked-later, reached-test}
use Rattle.amber_home.proofs.Places.{at-here, at-map, length-changed_at, nth-other, nth-past}

-- ---- before any command

-- it is what filters begin with
pub in-force-first : (flow : List Operator) → IsInForce flow (start_of flow) (first_asked flow)
unfolding start_of
in-force-first flow = record { all = length-map flow _; each = λ op. by op (nat_eq op 0) }
  where
    get : (crew : List Position) (xs : List Operator) (i : ℕ)
        → IsAskedOf crew (unwrap_or (slice_get (map (λ (o : Operator). record no_asked { constants = first_constants o.what }) xs) i) no_asked)
        (unwrap_or (slice_get (map (λ (o : Operator). record no_arms { constants = first_constants o.what }) xs) i) no_arms)
    get crew [] i = record { pause = refl; count = tt; when = refl; constants = refl }
    get crew (x ∷ xs) zero = record { pause = refl; count = tt; when = refl; constants = refl }
    get crew (x ∷ xs) (suc i) = get crew xs i

    by : (op : ℕ) (b : Bool)
        → IsAskedOf (crew_at flow (start_of flow) op)
        (unwrap_or (if b then None else slice_get (map (λ (o : Operator). record no_asked { constants = first_constants o.what }) flow) (op - 1)) no_asked)
        (unwrap_or (if b then None else slice_get (map (λ (o : Operator). record no_arms { constants = first_constants o.what }) flow) (op - 1)) no_arms)
    by op true = record { pause = refl; count = tt; when = refl; constants = refl }
    by op false = get (crew_at flow (start_of flow) op) flow (op - 1)

-- ---- workers go on

-- of each worker the rows that were gone are still gone
abbrev pub StayGone : ℕ → State → State → Type 0
StayGone crew old new = (worker : ℕ) → worker < crew → IsPrefix (position_at old.positions worker).outcomes (position_at new.positions worker).outcomes

-- so of those of an operator
crew-later : (flow : List Operator) (old new : State) → StayGone (crew_of flow) old new → (op : ℕ) → AreLater (crew_at flow old op) (crew_at flow new op)
unfolding crew_at
crew-later flow old new gone op = listed (workers_of flow op) (λ worker known. gone worker (worker-known flow op worker known))
  where
    listed : (workers : List ℕ) → ((worker : ℕ) → among worker workers ≡ true → IsPrefix (position_at old.positions worker).outcomes (position_at new.positions worker).outcomes)
        → AreLater (map (position_at old.positions) workers) (map (position_at new.positions) workers)
    listed [] gone = tt
    listed (one ∷ more) gone = (gone one (among-first one more), listed more (λ other known. gone other (among-more other one more known)))

-- where the same is in force, and what was gone stays gone, the home keeps the same
pub in-force-later : (flow : List Operator) (old new : State) (asked : List Asked) → new.arms ≡ old.arms → StayGone (crew_of flow) old new → IsInForce flow old asked → IsInForce flow new asked
in-force-later flow old new asked same gone is = record {
  all = is.all;
  each = λ op.
      subst (λ arms. IsAskedOf (crew_at flow new op) (asked_at asked op) (unwrap_or (nth arms op) no_arms)) (sym same)
      (asked-later (crew_at flow old op) (crew_at flow new op) (asked_at asked op) (arms_at old op) (crew-later flow old new gone op) (is.each op));
}

-- no entry brings back a row that is gone
moved-on : (role : Role) (orders : Orders) (p q : Position) (one : Entry) → Moves (assigned role orders) p one q → IsPrefix p.outcomes q.outcomes
moved-on role orders p q (entry.Take from number) h = rw h.2 (IsPrefix-refl p.outcomes)
moved-on role orders p q (entry.Go rows outs) h = (replicate outs true, ap (λ (s : Position). s.outcomes) (sym h.2))
moved-on role orders p q (entry.Grant n) h = rw h.2 (IsPrefix-refl p.outcomes)
moved-on role orders p q (entry.Back n) h = rw h.2 (IsPrefix-refl p.outcomes)
moved-on role orders p q entry.Pause h = rw h.2 (IsPrefix-refl p.outcomes)
moved-on role orders p q entry.Resume h = rw h.2 (IsPrefix-refl p.outcomes)
moved-on role orders p q entry.Hold h = rw h.2 (IsPrefix-refl p.outcomes)
moved-on role orders p q entry.Finish h = rw h.2 (IsPrefix-refl p.outcomes)

-- nor do several
led-on : (role : Role) (orders : Orders) (p q : Position) (entries : List Entry) → Leads (assigned role orders) p entries q → IsPrefix p.outcomes q.outcomes
unfolding Leads
led-on role orders p q [] h = rw h (IsPrefix-refl q.outcomes)
led-on role orders p q (one ∷ more) h = IsPrefix-trans p.outcomes h.0.outcomes q.outcomes (moved-on role orders p h.0 one h.1) (led-on role orders h.0 q more h.2)

-- in a leg the home keeps the same
pub in-force-worked : (query : Query) (start reached : State) (parts : List Part) (asked : List Asked) → IsWorked query start parts reached → IsInForce query.flow start asked
    → IsInForce query.flow reached asked
in-force-worked query start reached parts asked h is =
    in-force-later query.flow start reached asked h.same_arms
    (λ worker inside. led-on (role_in query worker) (orders_of (arms_at start (op_of query.flow worker))) (position_at start.positions worker) (position_at reached.positions worker)
    (entries_of parts worker) (h.moved worker inside)) is

-- ---- a leg begins

-- no row that is gone comes back as a leg begins
begun-on : (to_end : Bool) (crew : ℕ) (state : State) → StayGone crew state (leg_start to_end state)
unfolding begin_leg begin_last_leg
begun-on to_end crew state worker inside = by to_end
  where
    released : IsPrefix (position_at state.positions worker).outcomes (position_at (map let_go state.positions) worker).outcomes
    released = rw (at-map let_go state.positions (worker + 1) origin origin refl) (IsPrefix-refl (position_at state.positions worker).outcomes)

    by : (b : Bool) → IsPrefix (position_at state.positions worker).outcomes (position_at (leg_start b state).positions worker).outcomes
    by true = released
    by false = released

-- where all was taken back only the constants are left
cleared : (crew later : List Position) (asked : Asked) (arms : Arms) → IsAskedOf crew asked arms → IsAskedOf later (without_asked asked) (without_arms arms)
cleared crew later asked arms is = record { pause = refl; count = tt; when = refl; constants = is.constants }

-- to the end all is taken back that was asked to stop anywhere
pub in-force-begun : (flow : List Operator) (state : State) (asked : List Asked) (to_end : Bool) → IsInForce flow state asked
    → IsInForce flow (leg_start to_end state) (if to_end then map without_asked asked else asked)
unfolding begin_leg begin_last_leg
in-force-begun flow state asked false is = in-force-later flow state (begin_leg state) asked refl (begun-on false (crew_of flow) state) is
in-force-begun flow state asked true is = record {
  all = length-map asked without_asked ∙ is.all;
  each = λ op.
      rw (at-map without_asked asked op no_asked no_asked refl, at-map without_arms state.arms op no_arms no_arms refl)
      (cleared (crew_at flow state op) (crew_at flow (begin_last_leg state) op) (asked_at asked op) (arms_at state op) (is.each op));
}

-- ---- a command is done at rest

-- nor where the row of a held worker is dropped
without_held-on : (p : Position) → IsPrefix p.outcomes (without_held p).outcomes
without_held-on p = by p.restraint.held
  where
    by : (b : Bool) → IsPrefix p.outcomes (if b then record p { outcomes = p.outcomes ++ false ∷ []; restraint = record p.restraint { held = false } } else p).outcomes
    by true = (false ∷ [], refl)
    by false = IsPrefix-refl p.outcomes

-- a row that is dropped is gone too
row-on : (flow : List Operator) (op : ℕ) (drops : Option ℕ) (ps : List Position) (worker : ℕ)
    → IsPrefix (position_at ps worker).outcomes (position_at (without_row flow op drops ps) worker).outcomes
row-on flow op None ps worker = IsPrefix-refl (position_at ps worker).outcomes
row-on flow op (Some one) ps worker = dropped (worker_at flow op one + 1) (worker + 1)
  where
    get : (number place : ℕ) (ps : List Position) (i : ℕ)
        → IsPrefix (unwrap_or (slice_get ps i) origin).outcomes (unwrap_or (slice_get (changed_from without_held number place ps) i) origin).outcomes
    get number place [] i = IsPrefix-refl origin.outcomes
    get number place (p ∷ ps) zero = by (eqb place number)
      where
        by : (b : Bool) → IsPrefix p.outcomes (if b then without_held p else p).outcomes
        by true = without_held-on p
        by false = IsPrefix-refl p.outcomes
    get number place (p ∷ ps) (suc i) = get number (suc place) ps i

    dropped : (number k : ℕ) → IsPrefix (unwrap_or (nth ps k) origin).outcomes (unwrap_or (nth (changed_at without_held number ps) k) origin).outcomes
    dropped number k = by (nat_eq k 0)
      where
        by : (b : Bool) → IsPrefix (unwrap_or (if b then None else slice_get ps (k - 1)) origin).outcomes
            (unwrap_or (if b then None else slice_get (changed_at without_held number ps) (k - 1)) origin).outcomes
        by true = IsPrefix-refl origin.outcomes
        by false = get number 1 ps (k - 1)

module _ (flow : List Operator) (state : State) (asked : List Asked) (is : IsInForce flow state asked) where
  -- whatever a command does, it does to what the home keeps what it does to what is in force
  module _ (effect : Effect) (there : HasOperator effect.op (length flow)) (long : length state.arms ≡ length flow) where
    abbrev after : State
    after = after_action flow (AtRest effect) state

    abbrev change : Asked → Asked
    change = asked_changed effect.arming (emitted_of (crew_at flow state effect.op))

    abbrev change_arms : Arms → Arms
    change_arms = arms_changed effect.arming (gone_at flow state effect.op)

    abbrev IsAskedAfter : ℕ → Type 0
    IsAskedAfter op = IsAskedOf (crew_at flow state op) (asked_at (changed_at change effect.op asked) op) (arms_at after op)

    -- at the operator that it names
    changed-here : IsAskedAfter effect.op
    changed-here =
        rw (at-here no_asked change effect.op asked there.0 (rw is.all there.1), at-here no_arms change_arms effect.op state.arms there.0 (rw long there.1))
        (asked-changed (crew_at flow state effect.op) effect.arming (asked_at asked effect.op) (arms_at state effect.op) (is.each effect.op))

    -- and at each
    changed-at : (op : ℕ) → IsAskedAfter op
    changed-at op =
        elim (eqb_tells op effect.op) [
          | inl same ↦ subst IsAskedAfter (sym same.1) changed-here
          | inr other ↦ rw (nth-other change effect.op asked op other.1, nth-other change_arms effect.op state.arms op other.1) (is.each op)
        ]

    pub in-force-after : IsInForce flow after (changed_at (asked_changed effect.arming (emitted_by flow state effect.op)) effect.op asked)
    unfolding emitted_by
    in-force-after = record {
      all = length-changed_at change effect.op asked ∙ is.all;
      each = λ op.
          asked-later (crew_at flow state op) (crew_at flow after op) (asked_at (changed_at change effect.op asked) op) (arms_at after op)
          (crew-later flow state after (λ worker inside. row-on flow effect.op effect.drops state.positions worker) op) (changed-at op);
    }

  -- ---- a leg is cut

  -- what is left of a count
  left-count : (op : ℕ) (kept : Option Target) (count : Option Counting) → IsCountOf (crew_at flow state op) kept count
      → IsCountOf (crew_at flow state op) (if is_reached kept (emitted_of (crew_at flow state op)) then None else kept) (count_left flow state op count)
  left-count op None None one = tt
  left-count op None (Some counting) one = absurd one
  left-count op (Some kept) None one = absurd one
  left-count op (Some kept) (Some counting) one =
      rw (reached-test (crew_at flow state op) kept counting one) (by (eqb (counted_at flow state op counting) counting.target))
    where
      by : (b : Bool) → IsCountOf (crew_at flow state op) (if b then None else Some kept) (if b then None else Some counting)
      by true = tt
      by false = one

  -- what is left of a pause
  left-pause : (op : ℕ) (pause : Option ℕ) → (if stands_after pause (emitted_by flow state op) then None else pause) ≡ pause_left flow state op pause
  left-pause op None = refl
  left-pause op (Some n) = refl

  -- what is left at an operator
  left-at : (op : ℕ) → IsAskedOf (crew_at flow state op) (asked_left (emitted_by flow state op) (asked_at asked op)) (arms_left flow state op)
  unfolding emitted_by
  left-at op =
      let one = is.each op in
      record {
        pause = rw one.pause (left-pause op (arms_at state op).pause);
        count = left-count op (asked_at asked op).count (arms_at state op).count one.count;
        when = one.when;
        constants = one.constants;
      }

  abbrev kept_left : ℕ → Asked
  kept_left op = asked_left (emitted_by flow state op) (asked_at asked op)

  -- the counts and the pauses that stand are taken away
  pub in-force-cut : IsInForce flow (without_stops flow state) (map (λ op. asked_left (emitted_by flow state op) (asked_at asked op)) (op_numbers flow))
  unfolding without_stops crew_at
  in-force-cut = record { all = length-map (op_numbers flow) kept_left ∙ length-ops flow; each = at }
    where
      nothing : (crew : List Position) → IsAskedOf crew no_asked no_arms
      nothing crew = record { pause = refl; count = tt; when = refl; constants = refl }

      at : (op : ℕ) → IsAskedOf (crew_at flow (without_stops flow state) op) (asked_at (map kept_left (op_numbers flow)) op) (arms_at (without_stops flow state) op)
      at zero = nothing (crew_at flow (without_stops flow state) zero)
      at (suc i) =
          elim (cases_lt i (length flow)) [
            | inl within ↦ rw (nth-numbers kept_left flow (suc i) (omega arith) (omega arith), nth-numbers (arms_left flow state) flow (suc i) (omega arith) (omega arith)) (left-at (suc i))
            | inr past ↦ rw (
              nth-past (map kept_left (op_numbers flow)) (suc i) (rw (length-map (op_numbers flow) kept_left, length-ops flow) (omega arith)),
              nth-past (map (arms_left flow state) (op_numbers flow)) (suc i) (rw (length-map (op_numbers flow) (arms_left flow state), length-ops flow) (omega arith)),
            ) (nothing (crew_at flow (without_stops flow state) (suc i)))
          ]
