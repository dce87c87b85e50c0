-- A leg goes on by one step or one hold, perhaps after units were handed out, and none but the first that has not finished moves.
use Rattle.std.proofs.Common.{◌≡◌, ◌≢◌, ◌⊎◌, refl, sym, ap, subst, ◌∙◌, ℕ, ◌+◌, ◌-◌, ◌<◌, ◌≤◌, ◌||◌, List, [], ◌∷◌, ◌++◌, Bool, true, Option, None, Some, unwrap_or, inl, inr, arith}
use Rattle.std.proofs.lemmas.Bool.{and_parts}
use Rattle.amber_rows.specs.Topology.{crew_of, op_of}
use Rattle.amber_rows.specs.declared.flow.Operator.{Operator}
use Rattle.amber_link.specs.Links.{has_some}
use Rattle.amber_log.specs.declared.entry.Entry.TheVariants as entry
use Rattle.amber_meaning.specs.Legal.{IsLegal, Query, entries_of, leg_start, role_in}
use Rattle.amber_meaning.specs.Position.{Position, Restraint, pending_rows, rest_of}
use Rattle.amber_meaning.specs.State.{Counting, State, arms_at, counted_at, crew_at, emitted_by, position_at, steps_in}
use Rattle.amber_worker.specs.AtPosition.{placement_of}
use Rattle.amber_worker.specs.Counting.{with_back}
use Rattle.amber_worker.specs.Turning.{WritesStep}
use Rattle.amber_worker.specs.WorkerState.{WorkerState, is_starved}
use Rattle.amber_dataflow.specs.AtWork as work
use Rattle.amber_dataflow.specs.AtWork.{state_reached, worker_state_at}
use Rattle.amber_dataflow.specs.Dataflow.{DataflowState, IsFirst, MovesUnder, StandAt, StepsAt, hand_of, is_armed_at, is_held, is_short, journal_of, leg_parts, rows_emitted, step_count}
use Rattle.amber_dataflow.proofs.Reached.{listed-same}
use Rattle.amber_dataflow.proofs.Standing.{journal-entries, stand-after, stand-emitted, stand-one-finished, stand-position, stand-steps}
use Rattle.amber_boards.specs.Boards as units
use Rattle.amber_boards.specs.Boards.{ChangeUnits, CounterState, board_at, has_board, target_of_count}
use Rattle.amber_boards.specs.declared.target.Target.{Target}
use Rattle.amber_home.specs.Asked.{Asked, IsCountOf, IsTargetOf}
use Rattle.amber_home.specs.Going.{FirstSteps, GoOn, StepsNext}
use Rattle.amber_home.specs.HomeState.{WritesGivenBack, HandsOut, HomeState, IsFed, IsHeldNext, IsLeftAlone, NextMakesStep, StepsOn, count_in, first_unfinished, hand_at, has_rows, next_worker, alone_more, query_of, rest_state, state_of}
use Rattle.amber_home.specs.Kept.{IsWithinLeg, LiveState}
use Rattle.amber_home.specs.Leg.{count_at}
use Rattle.amber_home.specs.declared.phase.Counts.{Counts}
use Rattle.amber_home.specs.declared.phase.Phase.TheVariants as phase
use Rattle.amber_home.proofs.Fed.{fed-on, fed-steps, units-finished}
use Rattle.amber_home.proofs.Homes.{IsLeg}
use Rattle.amber_home.proofs.Legs.{in-force-counted, start, state-here, within-on}
use Rattle.amber_home.proofs.Reached.{first-listed, hand-at, in-force-reached, restraint-at}
use Rattle.amber_home.proofs.Ready.{boards-counted}

-- the first that has not finished is so in the state that they reach
module _ (query : Query) (start : State) (d : DataflowState) (old : ℕ → Position) (stand : StandAt query start d old) (worker : ℕ) (is : IsFirst d worker) where
  pub inside : worker < crew_of query.flow
  inside = subst (λ flow. worker < crew_of flow) stand.flow is.there

  pub first-reached : first_unfinished (state_reached query start old).positions ≡ worker
  first-reached =
      first-listed old (crew_of query.flow) worker inside
      (λ k below. stand-one-finished query start d old stand k (let less = inside in omega arith) ∙ is.first k below)
      (stand-one-finished query start d old stand worker inside ∙ is.unfinished)

-- what a worker has written
journal-same : (d after : DataflowState) (worker other : ℕ) → StepsAt d after worker → other ≢ worker → entries_of (leg_parts after) other ≡ entries_of (leg_parts d) other
journal-same d after worker other steps apart = journal-entries after other ∙ (steps.turns.others other apart).journal ∙ sym (journal-entries d other)

journal-more : (d after : DataflowState) (worker : ℕ) → WritesStep (journal_of d worker) (journal_of after worker) → WritesStep (entries_of (leg_parts d) worker) (entries_of (leg_parts after) worker)
journal-more d after worker writes = rw (journal-entries d worker, journal-entries after worker) writes

journal-held : (d after : DataflowState) (worker : ℕ) → journal_of after worker ≡ journal_of d worker ++ entry.Hold ∷ []
    → entries_of (leg_parts after) worker ≡ entries_of (leg_parts d) worker ++ entry.Hold ∷ []
journal-held d after worker writes = rw (journal-entries d worker, journal-entries after worker) writes

-- ---- within a leg

module _ (to_end : Bool) (counts : Counts) (e : HomeState) (d : DataflowState) (arms : List Asked) (leg : IsWithinLeg to_end e d arms) (legal : IsLegal (query_of e) e.log) where
  -- the home with what its workers have done
  abbrev pub at_work : HomeState
  at_work = record e { phase = phase.Open to_end counts; parts = leg_parts d }

  abbrev begin : State
  begin = start to_end e d arms leg legal

  -- the state in which it is is that which they reach
  pub reached-here : state_of at_work ≡ state_reached (query_of e) begin leg.positions
  unfolding state_of
  reached-here = state-here to_end e d arms leg legal

  pub steps-within : steps_in (state_of at_work) ≡ step_count d
  steps-within = ap steps_in reached-here ∙ stand-steps (query_of e) begin d leg.positions leg.at

  -- a position is that of its worker
  pub position-within : (worker : ℕ) → worker < crew_of e.flow → position_at (state_of at_work).positions worker ≡ leg.positions worker
  position-within worker within = ap (λ (s : State). position_at s.positions worker) reached-here ∙ stand-position (query_of e) begin d leg.positions leg.at worker within

  pub held-within : (worker : ℕ) → worker < crew_of e.flow → is_held d worker ≡ true → (position_at (state_of at_work).positions worker).restraint.held ≡ true
  unfolding is_held
  held-within worker within held =
      ap (λ (p : Position). p.restraint.held) (position-within worker within)
      ∙ ap (λ (r : Restraint). r.held) (sym (restraint-at (query_of e) begin d leg.positions leg.at worker within)) ∙ held

  pub hand-within : (worker : ℕ) → worker < crew_of e.flow → hand_at at_work worker ≡ hand_of d worker
  hand-within worker within =
      ap (λ (p : Position). p.restraint.hand) (position-within worker within) ∙ sym (hand-at (query_of e) begin d leg.positions leg.at worker within)

  -- the next is the first that has not finished
  pub next-within : (worker : ℕ) → IsFirst d worker → next_worker at_work ≡ worker
  next-within worker is =
      ap (λ (s : State). first_unfinished s.positions) reached-here ∙ first-reached (query_of e) begin d leg.positions leg.at worker is

-- ---- a step

-- of the first that has not finished, and of another
pub record StepsIn (old new : HomeState) : Type 0 where
  pub does : NextMakesStep old new ⊎ IsHeldNext old new
  pub others : (worker : ℕ) → worker ≢ next_worker old → IsLeftAlone old new worker

module _ (to_end : Bool) (counts : Counts) (e : HomeState) (d after : DataflowState) (arms : List Asked) (leg : IsWithinLeg to_end e d arms) (later : IsWithinLeg to_end e after arms)
    (legal : IsLegal (query_of e) e.log) (on : FirstSteps d after)
    (under : work.is_counted (query_of e) (leg_start to_end (rest_state e)) on.worker ≡ is_armed_at d on.worker) where
  abbrev old : HomeState
  old = at_work to_end counts e d arms leg legal

  abbrev new : HomeState
  new = at_work to_end counts e after arms later legal

  next : next_worker old ≡ on.worker
  next = next-within to_end counts e d arms leg legal on.worker on.is

  -- the others stand where they stood
  others-stand : (worker : ℕ) → worker ≢ next_worker old → position_at (state_of new).positions worker ≡ position_at (state_of old).positions worker
  unfolding MovesUnder state_of
  others-stand worker other =
      let query = query_of e in
      let begin = leg_start to_end (rest_state e) in
      let then = on.steps.turns.on query begin leg.positions leg.at under in
      ap (λ (s : State). position_at s.positions worker) (stand-after query begin after then.0 then.1)
      ∙ listed-same leg.positions then.0 (crew_of query.flow) worker (then.2 worker (λ same. other (same ∙ sym next)))
      ∙ ap (λ (s : State). position_at s.positions worker) (sym (reached-here to_end counts e d arms leg legal))

  pub steps-in : StepsIn old new
  steps-in =
      let made = steps-within to_end counts e d arms leg legal in
      let more = steps-within to_end counts e after arms later legal in
      record {
        does = elim on.steps.does [
          | inl made_one ↦ inl (record { one = more ∙ made_one.one ∙ ap (λ m. m + 1) (sym made); writes = rw next (journal-more d after on.worker made_one.writes) })
          | inr held ↦ inr (record {
            none = more ∙ held.none ∙ sym made;
            held = rw next (held-within to_end counts e after arms later legal on.worker (inside (query_of e) (leg_start to_end (rest_state e)) d leg.positions leg.at on.worker on.is) held.held);
            writes = rw next (journal-held d after on.worker held.writes);
          })
        ];
        others = λ worker other. record {
          stands = others-stand worker other;
          writes = journal-same d after on.worker worker on.steps (λ same. other (same ∙ sym next));
        };
      }

-- ---- units are handed out

-- the count that is kept as this one
counting-of : (crew : List Position) (kept : Option Target) (count : Option Counting) (target : Target) → IsCountOf crew kept count → kept ≡ Some target
    → (counting : Counting) × (count ≡ Some counting) × IsTargetOf crew target counting
counting-of crew None count target is same = absurd (cc same)
counting-of crew (Some kept) None target is same = absurd is
counting-of crew (Some kept) (Some counting) target is same = (counting, refl, subst (λ k. IsTargetOf crew k counting) (some-same same) is)
  where
    some-same : Some kept ≡ Some target → kept ≡ target
    some-same e = ap (λ found. unwrap_or found kept) e

-- a worker that needs a unit has a row
short-rows : (d : DataflowState) (worker : ℕ) → is_short d worker ≡ true → (has_some (worker_state_at d.workers worker).pending || has_some (worker_state_at d.workers worker).rest) ≡ true
unfolding is_short
short-rows d worker short = (and_parts (is_starved (worker_state_at d.workers worker)) (has_some (worker_state_at d.workers worker).pending || has_some (worker_state_at d.workers worker).rest) short).1

module _ (to_end : Bool) (counts : Counts) (e : HomeState) (d fed : DataflowState) (arms : List Asked) (boards : List (Option CounterState)) (leg : IsWithinLeg to_end e d arms)
    (later : IsWithinLeg to_end e fed arms) (legal : IsLegal (query_of e) e.log) (targets : (op : ℕ) → target_of_count (board_at boards op) ≡ count_at arms op)
    (worker : ℕ) (is : IsFirst d worker) (short : is_short d worker ≡ true) (handed : units.GrantsAllLeft boards d fed worker) where
  abbrev query : Query
  query = query_of e

  abbrev leg_begin : State
  leg_begin = leg_start to_end (rest_state e)

  abbrev before : HomeState
  before = at_work to_end counts e d arms leg legal

  abbrev after : HomeState
  after = at_work to_end counts e fed arms later legal

  abbrev op : ℕ
  op = op_of e.flow worker

  there-is : worker < crew_of e.flow
  there-is = inside query leg_begin d leg.positions leg.at worker is

  next-is : next_worker before ≡ worker
  next-is = next-within to_end counts e d arms leg legal worker is

  same-op : op_of d.flow worker ≡ op
  same-op = ap (λ (f : List Operator). op_of f worker) leg.at.flow

  -- the count, in the state that the workers reached
  found : (counting : Counting) × ((arms_at (state_reached query leg_begin leg.positions) op).count ≡ Some counting)
      × IsTargetOf (crew_at e.flow (state_reached query leg_begin leg.positions) op) handed.counter.target counting
  found =
      counting-of (crew_at e.flow (state_reached query leg_begin leg.positions) op) (count_at arms op) (arms_at (state_reached query leg_begin leg.positions) op).count handed.counter.target
      ((in-force-reached query leg_begin d leg.positions leg.at arms leg.in_force).each op).count
      (sym (targets op) ∙ ap (λ k. target_of_count (board_at boards k)) (sym same-op) ∙ ap target_of_count handed.counted)

  -- the rows that are left to it
  left : handed.counter.target.target + handed.counter.target.since - rows_emitted d op ≡ found.0.target - counted_at e.flow (state_of before) op found.0
  unfolding emitted_by
  left =
      let target = found.2.target in
      let counted = found.2.counted in
      let rows = stand-emitted query leg_begin d leg.positions leg.at op in
      let there : counted_at e.flow (state_of before) op found.0 ≡ counted_at e.flow (state_reached query leg_begin leg.positions) op found.0 =
      ap (λ (s : State). counted_at e.flow s op found.0) (reached-here to_end counts e d arms leg legal) in
      omega arith

  -- what the other workers of its operator have written
  gives : (other : ℕ) → other < crew_of e.flow → other ≢ worker → op_of e.flow other ≡ op → WritesGivenBack before after other
  gives other there apart same =
      let own = handed.own other (subst (λ (f : List Operator). other < crew_of f) (sym leg.at.flow) there, ap (λ (f : List Operator). op_of f other) leg.at.flow ∙ same ∙ sym same-op) apart in
      journal-entries fed other ∙ own
      ∙ ap (λ n. with_back n (journal_of d other)) (sym (hand-within to_end counts e d arms leg legal other there))
      ∙ ap (with_back (hand_at before other)) (sym (journal-entries d other))

  -- what it has written
  grants : entries_of after.parts worker ≡ entries_of before.parts worker ++ entry.Grant (found.0.target - counted_at e.flow (state_of before) op found.0) ∷ []
  grants =
      journal-entries fed worker ∙ handed.grant
      ∙ ap (λ n. journal_of d worker ++ entry.Grant n ∷ []) (ap (λ k. handed.counter.target.target + handed.counter.target.since - rows_emitted d k) same-op ∙ left)
      ∙ ap (λ xs. xs ++ entry.Grant (found.0.target - counted_at e.flow (state_of before) op found.0) ∷ []) (sym (journal-entries d worker))

  -- what workers of other operators have written
  alone : (other : ℕ) → op_of e.flow other ≢ op → entries_of after.parts other ≡ entries_of before.parts other
  unfolding journal_of
  alone other apart =
      journal-entries fed other
      ∙ ap (λ (w : WorkerState). w.journal) (handed.others other (λ same. apart (ap (λ (f : List Operator). op_of f other) (sym leg.at.flow) ∙ same ∙ same-op)))
      ∙ sym (journal-entries d other)

  -- it has a row
  wants : has_rows query (state_of before) worker ≡ true
  unfolding placement_of
  wants =
      let shows = (leg.at.work.at.at_positions.each worker there-is).shows in
      let role = role_in query worker in
      ap (λ (p : Position). has_some (pending_rows role p) || has_some (rest_of role p)) (position-within to_end counts e d arms leg legal worker there-is)
      ∙ ap (λ rows. has_some rows || has_some (rest_of role (leg.positions worker))) (sym shows.pending)
      ∙ ap (λ rest. has_some (worker_state_at d.workers worker).pending || has_some rest) (sym shows.rest)
      ∙ short-rows d worker short

  pub hands-out : HandsOut before after
  hands-out = record {
    only = refl;
    counting = found.0;
    counted = ap (λ k. count_in before (op_of e.flow k)) next-is ∙ ap (λ (s : State). (arms_at s op).count) (reached-here to_end counts e d arms leg legal) ∙ found.1;
    empty = ap (hand_at before) next-is ∙ hand-within to_end counts e d arms leg legal worker there-is ∙ handed.empty;
    wants = ap (has_rows query (state_of before)) next-is ∙ wants;
    grant = subst (λ k. entries_of after.parts k ≡ entries_of before.parts k ++ entry.Grant (found.0.target - counted_at e.flow (state_of before) (op_of e.flow k) found.0) ∷ []) (sym next-is) grants;
    own = λ other there apart same. gives other there (λ is. apart (is ∙ sym next-is)) (same ∙ ap (op_of e.flow) next-is);
    others = λ other apart. alone other (λ same. apart (same ∙ ap (op_of e.flow) (sym next-is)));
  }

-- ---- the home has gone on

module _ (e : HomeState) (live : LiveState) (to_end : Bool) (counts : Counts) (leg : IsLeg e live to_end counts) (after : DataflowState) (boards : List (Option CounterState))
    (targets : (op : ℕ) → target_of_count (board_at live.boards op) ≡ count_at live.arms op) (few : step_count live.dataflow < e.most)
    (on : GoOn live.arms live.dataflow after) (next : StepsNext live.boards live.dataflow after) where
  abbrev d : DataflowState
  d = live.dataflow

  abbrev leg_begun : State
  leg_begun = leg_start to_end (rest_state e)

  pub within-most : step_count after ≤ e.most
  within-most =
      let same = fed-steps live.arms live.boards d next.fed next.steps.worker next.feeds in
      elim next.steps.steps.does [
        | inl made ↦ let one = made.one in omega arith
        | inr held ↦ let none = held.none in omega arith
      ]

  fed-leg : IsWithinLeg to_end e next.fed live.arms
  fed-leg =
      let same = fed-steps live.arms live.boards d next.fed next.steps.worker next.feeds in
      within-on to_end e d next.fed live.arms leg.leg (fed-on live.arms live.boards d next.fed next.steps.worker next.feeds targets) (omega arith)

  under : work.is_counted (query_of e) leg_begun next.steps.worker ≡ is_armed_at next.fed next.steps.worker
  under =
      in-force-counted e.flow leg_begun live.arms leg.leg.in_force (op_of e.flow next.steps.worker)
      ∙ sym (boards-counted live.arms live.boards targets (op_of e.flow next.steps.worker))
      ∙ ap (λ (f : List Operator). has_board live.boards (op_of f next.steps.worker)) (sym leg.leg.at.flow)
      ∙ sym next.armed

  feeds-in : IsFed (at_work to_end counts e d live.arms leg.leg leg.legal) (at_work to_end counts e next.fed live.arms fed-leg leg.legal)
  feeds-in = elim next.feeds [
    | inl same ↦ inl (ap (λ (f : DataflowState). record e { phase = phase.Open to_end counts; parts = leg_parts f }) same)
    | inr handed ↦ inr (hands-out to_end counts e d next.fed live.arms live.boards leg.leg fed-leg leg.legal targets next.steps.worker (first-was next handed.1.units) handed.0 handed.1)
  ]
    where
      first-was : (next : StepsNext live.boards live.dataflow after) → ChangeUnits (has_board live.boards) live.dataflow next.fed → IsFirst live.dataflow next.steps.worker
      first-was next changed =
          let was = next.steps.is in
          record {
            there = subst (λ (f : List Operator). next.steps.worker < crew_of f) changed.flow was.there;
            first = λ k less. sym (units-finished (has_board live.boards) live.dataflow next.fed changed k) ∙ was.first k less;
            unfinished = sym (units-finished (has_board live.boards) live.dataflow next.fed changed next.steps.worker) ∙ was.unfinished;
          }

  pub steps-on : (later : IsWithinLeg to_end e after live.arms) → StepsOn (at_work to_end counts e d live.arms leg.leg leg.legal)
      (record (at_work to_end counts e after live.arms later leg.legal) { alone = alone_more e.alone })
  unfolding state_of
  steps-on later =
      let steps = steps-in to_end counts e next.fed after live.arms fed-leg later leg.legal next.steps under in
      record {
        only = refl;
        fed = at_work to_end counts e next.fed live.arms fed-leg leg.legal;
        feeds = feeds-in;
        does = elim steps.does [
          | inl made ↦ inl (record { one = made.one; writes = made.writes })
          | inr held ↦ inr (record { none = held.none; held = held.held; writes = held.writes })
        ];
        others = λ worker other. let left = steps.others worker other in record { stands = left.stands; writes = left.writes };
      }
