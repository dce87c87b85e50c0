-- What is in force where workers stand, the first that has not finished, and that nobody holds a unit where no count is armed.
use Rattle.std.proofs.Common.{◌≡◌, refl, sym, ap, ◌∙◌, ℕ, zero, suc, ◌<◌, ◌≤◌, List, [], ◌∷◌, get_or, map, Option, if◌then◌else◌, true, false, None, Some, is_some, subst, arith}
use Rattle.std.proofs.lemmas.Bool.{false≢true}
use Rattle.amber_rows.specs.Topology.{crew_of, op_of}
use Rattle.amber_rows.specs.Lists.{numbers_below}
use Rattle.amber_log.specs.declared.entry.Entry.{Entry}
use Rattle.amber_log.specs.declared.entry.Entry.TheVariants as entry
use Rattle.amber_meaning.specs.Position.{Position, Restraint, origin}
use Rattle.amber_meaning.specs.Rules.{Leads, Moves, Orders, assigned}
use Rattle.amber_meaning.specs.State.{Counting, State, arms_at, counted_by, crew_at, emitted_by, position_at}
use Rattle.amber_meaning.specs.Task.{Role}
use Rattle.amber_meaning.proofs.OneState.{position-get_or}
use Rattle.amber_lines.specs.Moving.{orders_in}
use Rattle.amber_meaning.specs.Legal.{IsSettled, Query, assignment_in, entries_of, role_in}
use Rattle.amber_dataflow.specs.AtWork.{state_reached, worker_state_at}
use Rattle.amber_dataflow.specs.Dataflow.{DataflowState, StandAt, hand_of, leg_parts, rows_emitted}
use Rattle.amber_dataflow.proofs.Reached.{listed-at}
use Rattle.amber_dataflow.proofs.Standing.{stand-emitted, stand-position, stand-worked}
use Rattle.amber_boards.specs.Boards.{AreEmptyHanded, AreWithinTargets, IsWithinTarget, target_at}
use Rattle.amber_boards.specs.declared.target.Target.{Target}
use Rattle.amber_rows.specs.declared.flow.Operator.{Operator}
use Rattle.amber_home.specs.Asked.{Asked, IsCountOf, IsInForce, emitted_of, no_asked}
use Rattle.amber_home.specs.HomeState.{first_unfinished}
use Rattle.amber_home.specs.Leg.{count_at, counts_asked}
use Rattle.amber_home.proofs.InForce.{in-force-worked}
use Rattle.amber_home.proofs.Places.{at-map}

-- ---- no units

hand-moves : (role : Role) (orders : Orders) (p q : Position) (one : Entry) → orders.counted ≡ false → p.restraint.hand ≡ 0 → Moves (assigned role orders) p one q → q.restraint.hand ≡ 0
hand-moves role orders p q (entry.Take from number) uncounted none moves = ap (λ m. m.restraint.hand) moves.2 ∙ none
hand-moves role orders p q (entry.Go rows outs) uncounted none moves = ap (λ m. m.restraint.hand) moves.2 ∙ rw uncounted none
hand-moves role orders p q (entry.Grant n) uncounted none moves = absurd (false≢true (sym uncounted ∙ moves.1.counted))
hand-moves role orders p q (entry.Back n) uncounted none moves = ap (λ m. m.restraint.hand) moves.2
hand-moves role orders p q entry.Pause uncounted none moves = ap (λ m. m.restraint.hand) moves.2 ∙ none
hand-moves role orders p q entry.Resume uncounted none moves = ap (λ m. m.restraint.hand) moves.2 ∙ none
hand-moves role orders p q entry.Hold uncounted none moves = ap (λ m. m.restraint.hand) moves.2 ∙ none
hand-moves role orders p q entry.Finish uncounted none moves = ap (λ m. m.restraint.hand) moves.2 ∙ none

pub hand-stays : (role : Role) (orders : Orders) (p q : Position) (entries : List Entry) → orders.counted ≡ false → p.restraint.hand ≡ 0 → Leads (assigned role orders) p entries q → q.restraint.hand ≡ 0
unfolding Leads
hand-stays role orders p q [] uncounted none leads = ap (λ m. m.restraint.hand) (sym leads) ∙ none
hand-stays role orders p q (one ∷ more) uncounted none leads =
    hand-stays role orders leads.0 q more uncounted (hand-moves role orders p leads.0 one uncounted none leads.1) leads.2

-- ---- the first that has not

first-in : (positions : List Position) (n : ℕ) → ((k : ℕ) → k < n → (get_or positions k origin).finished ≡ true) → (get_or positions n origin).finished ≡ false
    → first_unfinished positions ≡ n
unfolding first_unfinished
first-in [] zero done not-yet = refl
first-in [] (suc n) done not-yet = absurd (false≢true (done 0 (omega arith)))
first-in (p ∷ more) zero done not-yet = ap (λ b. if b then suc (first_unfinished more) else 0) not-yet
first-in (p ∷ more) (suc n) done not-yet =
    ap (λ b. if b then suc (first_unfinished more) else 0) (done 0 (omega arith)) ∙ ap suc (first-in more n (λ k less. done (suc k) (omega arith)) not-yet)

pub first-listed : (positions : ℕ → Position) (n worker : ℕ) → worker < n → ((k : ℕ) → k < worker → (positions k).finished ≡ true) → (positions worker).finished ≡ false
    → first_unfinished (map positions (numbers_below n)) ≡ worker
first-listed positions n worker inside done not-yet =
    first-in (map positions (numbers_below n)) worker
    (λ k less. ap (λ (p : Position). p.finished) (read k (omega arith)) ∙ done k less) (ap (λ (p : Position). p.finished) (read worker inside) ∙ not-yet)
  where
    read : (k : ℕ) → k < n → get_or (map positions (numbers_below n)) k origin ≡ positions k
    read k less = sym (position-get_or (map positions (numbers_below n)) k) ∙ listed-at positions n k less

-- ---- where workers stand

-- the target that is asked for at an operator
pub target-asked : (arms : List Asked) (op : ℕ) → target_at (counts_asked arms) op ≡ count_at arms op
target-asked arms op = at-map (λ (asked : Asked). asked.count) arms op no_asked None refl

-- a count that is within its target has counted no more
within-count : (crew : List Position) (kept : Option Target) (counting : Counting) → IsCountOf crew kept (Some counting) → IsWithinTarget kept (emitted_of crew)
    → counted_by counting.base crew ≤ counting.target
within-count crew None counting is within = absurd is
within-count crew (Some kept) counting is within =
    let target = is.target in
    let counted = is.counted in
    let most = within.1 in
    omega arith

module _ (query : Query) (start : State) (d : DataflowState) (positions : ℕ → Position) (stand : StandAt query start d positions) where
  -- what a worker's journal leads from and to
  pub leads-at : (worker : ℕ) → worker < crew_of query.flow
      → Leads (assignment_in query start worker) (position_at start.positions worker) (entries_of (leg_parts d) worker) (positions worker)
  leads-at worker inside =
      subst (Leads (assignment_in query start worker) (position_at start.positions worker) (entries_of (leg_parts d) worker)) (stand-position query start d positions stand worker inside)
      ((stand-worked query start d positions stand).moved worker inside)

  -- what was in force when the leg began still is
  pub in-force-reached : (asked : List Asked) → IsInForce query.flow start asked → IsInForce query.flow (state_reached query start positions) asked
  in-force-reached asked is = in-force-worked query start (state_reached query start positions) (leg_parts d) asked (stand-worked query start d positions stand) is

  -- a worker is held or paused as its position is
  pub restraint-at : (worker : ℕ) → worker < crew_of query.flow → (worker_state_at d.workers worker).restraint ≡ (positions worker).restraint
  restraint-at worker inside = (stand.work.at.at_positions.each worker inside).shows.restraint

  -- ---- units

  -- a worker's hand is that of its position
  pub hand-at : (worker : ℕ) → worker < crew_of query.flow → hand_of d worker ≡ (positions worker).restraint.hand
  unfolding hand_of
  hand-at worker inside = ap (λ (r : Restraint). r.hand) (restraint-at worker inside)

  -- where no count is in force a hand that held no unit when the leg began holds none
  pub empty-reached : (worker : ℕ) → worker < crew_of query.flow → is_some (arms_at start (op_of query.flow worker)).count ≡ false
      → (position_at start.positions worker).restraint.hand ≡ 0 → hand_of d worker ≡ 0
  empty-reached worker inside uncounted none =
      hand-at worker inside
      ∙ hand-stays (role_in query worker) (orders_in query start worker) (position_at start.positions worker) (positions worker) (entries_of (leg_parts d) worker) uncounted none
      (leads-at worker inside)

  -- where no hand holds a unit, and no count has counted more than it asks for
  pub settled-reached : (arms : List Asked) → IsInForce query.flow start arms → AreEmptyHanded d → AreWithinTargets (counts_asked arms) d → IsSettled query (state_reached query start positions)
  unfolding emitted_by
  settled-reached arms is empty within = record {
    hands = λ worker inside.
        ap (λ p. p.restraint.hand) (stand-position query start d positions stand worker inside)
        ∙ sym (hand-at worker inside) ∙ empty worker (subst (λ (f : List Operator). worker < crew_of f) (sym stand.flow) inside);
    counts = λ op counting counts.
        let now = state_reached query start positions in
        within-count (crew_at query.flow now op) (count_at arms op) counting
        (subst (IsCountOf (crew_at query.flow now op) (count_at arms op)) counts ((in-force-reached arms is).each op).count)
        (subst (IsWithinTarget (count_at arms op)) (sym (stand-emitted query start d positions stand op))
        (subst (λ count. IsWithinTarget count (rows_emitted d op)) (target-asked arms op) (within op)));
  }
