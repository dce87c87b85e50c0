-- A leg that was done again ends: its workers are settled, with empty hands.
use Rattle.std.proofs.Common.{◌≡◌, ◌≢◌, refl, sym, ap, subst, ◌∙◌, ℕ, zero, suc, ◌+◌, ◌<◌, ◌≤◌, ◌^◌, List, [], ◌∷◌, ◌++◌, length, map, nat_lt, Bool, true, false, Option, None, Some, inl, inr, arith}
use Rattle.std.specs.Prelude.{IfSome}
use Rattle.std.proofs.lemmas.Bool.{false≢true, ltb-false, ltb-true}
use Rattle.amber_rows.specs.Topology.{crew_of}
use Rattle.amber_rows.specs.declared.flow.Operator.{Operator}
use Rattle.amber_lines.specs.Lines.{Between, judge_close}
use Rattle.amber_log.specs.declared.leg.Close.{Close}
use Rattle.amber_log.specs.declared.leg.Close.TheVariants as close
use Rattle.amber_meaning.proofs.OneState.{legal_logs_have_one_state}
use Rattle.amber_meaning.proofs.Senders.{flows_send_forward}
use Rattle.amber_meaning.specs.Replay.{state_after}
use Rattle.amber_meaning.specs.Legal.{IsLegal, IsOpen, IsSettled, IsWorked, leg_start}
use Rattle.amber_meaning.specs.Position.{Position}
use Rattle.amber_meaning.specs.State.{Counting, State, arms_at, counted_by, crew_at, emitted_by}
use Rattle.amber_worker.specs.WorkerState.{WorkerState}
use Rattle.amber_dataflow.specs.AtWork.{AreJoinedAt, IsSameBesides, state_reached, steps_by, turned_by, worker_state_at}
use Rattle.amber_dataflow.specs.Dataflow.{AreBack, AreCrewOf, DataflowState, StandAt, hand_of, leg_parts, rows_emitted, seat_of, step_count}
use Rattle.amber_dataflow.specs.Parts.{parts_from}
use Rattle.amber_dataflow.specs.Redoing.{Stance, emptied, state_in}
use Rattle.amber_dataflow.proofs.AllSettled.{back-parts, back-steps}
use Rattle.amber_dataflow.proofs.InHands.{few-redone}
use Rattle.amber_dataflow.proofs.PartFacts.{are-parts}
use Rattle.amber_dataflow.proofs.RedoneParts.{redone-steps}
use Rattle.amber_dataflow.proofs.RedoneLegs.{emptied-at, emptied-parts, emptied-steps, joined-emptied}
use Rattle.amber_dataflow.proofs.Reached.{listed-at}
use Rattle.amber_dataflow.proofs.Standing.{stand-emitted}
use Rattle.amber_boards.specs.Boards.{AreEmptyHanded, AreUnarmed, AreWithinTargets, IsWithinTarget, target_at}
use Rattle.amber_boards.specs.declared.target.Target.{Target}
use Rattle.amber_home.specs.Asked.{Asked, IsCountOf, emitted_of}
use Rattle.amber_home.specs.HomeState.{ClosesIn, HomeState, item_of_leg, leg_state, query_of, rest_state, state_of, with_item}
use Rattle.amber_home.specs.Kept.{AreHeaded, AreRedoing, IsHome, LiveState}
use Rattle.amber_home.specs.Leg.{count_at, counts_asked}
use Rattle.amber_home.specs.Redoing.{IsJudged, NoneIsOver, is_over}
use Rattle.amber_home.specs.declared.phase.Counts.TheVariants.{Disarmed}
use Rattle.amber_home.specs.declared.phase.Phase.TheVariants as phase
use Rattle.amber_home.proofs.Driven.{back-turned, turned-same}
use Rattle.amber_home.proofs.Homes.{IsLeg}
use Rattle.amber_home.proofs.Closed.{legal-closed}
use Rattle.amber_home.proofs.JudgedClose.{judged-ill, judged-well}
use Rattle.amber_home.proofs.Reached.{in-force-reached, target-asked}
use Rattle.amber_home.proofs.Redone.{stance, state-redone}

-- ---- counts

-- a count that is kept as this one of the definitions, and has counted no more than it asks for
count-within : (crew : List Position) (kept : Option Target) (count : Option Counting) (rows : ℕ) → IsCountOf crew kept count → emitted_of crew ≡ rows
    → is_over kept rows ≡ false → IfSome kept (λ one. one.target ≤ 2 ^ 40) → IsWithinTarget kept rows
count-within crew None count rows is emitted not few = tt
count-within crew (Some kept) None rows is emitted not few = absurd is
count-within crew (Some kept) (Some counting) rows is emitted not few =
    let counted = is.counted in
    let most = ltb-false (kept.target + kept.since) rows not in
    (record { since = omega arith; few = few }, most)

-- one that has counted more does not stand so
count-over : (crew : List Position) (kept : Option Target) (count : Option Counting) (rows : ℕ) → IsCountOf crew kept count → emitted_of crew ≡ rows
    → is_over kept rows ≡ true → (counting : Counting) × (count ≡ Some counting) × (counting.target < counted_by counting.base crew)
count-over crew None count rows is emitted over = absurd (false≢true over)
count-over crew (Some kept) None rows is emitted over = absurd is
count-over crew (Some kept) (Some counting) rows is emitted over =
    let counted = is.counted in
    let target = is.target in
    let more = ltb-true (kept.target + kept.since) rows over in
    (counting, refl, omega arith)

module _ (e : HomeState) (live : LiveState) (to_end empty : Bool) (re : AreRedoing to_end empty e live) (legal : IsLegal (query_of e) e.log) (most : e.most ≤ 2 ^ 40) where
  abbrev at : Stance
  at = stance e live to_end empty re legal

  -- the leg goes on
  open-redone : IsOpen (query_of e) e.log to_end (parts_from 0 live.back)
  open-redone = record {
    legal = legal;
    more = re.away.more;
    text = are-parts 0 live.back (let few = few-redone at live.back re.stand in omega arith) (λ i below. (re.stand.each i (rw (← re.stand.all) below)).text);
    now = state_in at;
    worked = subst (λ (s : State). IsWorked (query_of e) (leg_start to_end s) (parts_from 0 live.back) (state_in at))
        (legal_logs_have_one_state (query_of e) e.log (flows_send_forward e.flow re.stand.flow) legal) re.worked;
    few = let few = re.few in let same = redone-steps at live.back re.stand in omega arith;
  }

  closes-settled : (b : Bool) (state : State) (closed : Close) → ClosesIn b (query_of e) state closed → IsSettled (query_of e) state
  closes-settled true state close.Cut closes = closes.0
  closes-settled true state close.Long closes = closes.0
  closes-settled false state close.Cut closes = closes.0
  closes-settled false state close.Long closes = closes.0

  -- where it may not be closed so, it is not
  pub refused : (closed : Close) → (ClosesIn to_end (query_of e) (leg_state e to_end (parts_from 0 live.back)) closed → ⊥)
      → judge_close (query_of e) to_end (leg_state e to_end (parts_from 0 live.back)) closed ≡ None
  unfolding open-redone
  refused closed not =
      ap (λ (s : State). judge_close (query_of e) to_end s closed) (state-redone e live to_end empty re legal)
      ∙ judged-ill (query_of e) e.log to_end (parts_from 0 live.back) closed (flows_send_forward e.flow re.stand.flow) open-redone
      (λ closes. not (subst (λ (s : State). ClosesIn to_end (query_of e) s closed) (sym (state-redone e live to_end empty re legal)) closes))

  pub unsettled-refused : (IsSettled (query_of e) (leg_state e to_end (parts_from 0 live.back)) → ⊥) → (closed : Close)
      → judge_close (query_of e) to_end (leg_state e to_end (parts_from 0 live.back)) closed ≡ None
  unsettled-refused not closed = refused closed (λ closes. not (closes-settled to_end (leg_state e to_end (parts_from 0 live.back)) closed closes))

  -- ---- where a hand holds a unit

  pub full-unsettled : empty ≡ false → IsSettled (query_of e) (leg_state e to_end (parts_from 0 live.back)) → ⊥
  full-unsettled is settled =
      let full = re.full_handed is in
      full.2 (ap (λ (p : Position). p.restraint.hand) (sym (listed-at re.positions (crew_of e.flow) full.0 full.1))
      ∙ (subst (IsSettled (query_of e)) (state-redone e live to_end empty re legal) settled).hands full.0 full.1)

  -- ---- where none does

  module _ (none : empty ≡ true) (flow : live.dataflow.flow ≡ e.flow) where
    abbrev workers : List WorkerState
    workers = map emptied live.back

    joined : AreJoinedAt (query_of e) (leg_start to_end (rest_state e)) workers re.positions
    joined = joined-emptied at live.back re.stand (re.empty_handed none)

    pub crew-emptied : AreCrewOf live.dataflow.flow workers
    crew-emptied = (query_of e, leg_start to_end (rest_state e), re.positions, sym flow, joined)

    pub few-emptied : steps_by workers ≤ 2 ^ 40
    few-emptied = let few = re.few in let same = emptied-steps live.back in omega arith

    module _ (after : DataflowState) (came : AreBack workers after) (same : after.flow ≡ live.dataflow.flow) where
      stands : StandAt (query_of e) (leg_start to_end (rest_state e)) after re.positions
      stands = came.stand (query_of e) (leg_start to_end (rest_state e)) re.positions (sym (same ∙ flow)) joined

      crew-after : AreCrewOf after.flow workers
      crew-after = (query_of e, leg_start to_end (rest_state e), re.positions, sym (same ∙ flow), joined)

      pub parts-ended : leg_parts after ≡ parts_from 0 live.back
      parts-ended = back-parts workers after crew-after came ∙ emptied-parts 0 live.back

      pub turned-ended : turned_by after.workers ≡ turned_by live.back
      turned-ended = back-turned workers after crew-after came ∙ bare live.back
        where
          bare : (crew : List WorkerState) → turned_by (map emptied crew) ≡ turned_by crew
          bare [] = refl
          bare (w ∷ crew) = ap (λ rest. w.turned ∷ rest) (bare crew)

      bare-at : (worker : ℕ) → worker < crew_of after.flow → IsSameBesides (emptied (worker_state_at live.back worker)) (worker_state_at after.workers worker)
      bare-at worker inside =
          subst (λ w. IsSameBesides w (worker_state_at after.workers worker))
          (emptied-at live.back worker (rw re.stand.all (subst (λ (f : List Operator). worker < crew_of f) (same ∙ flow) inside))) (came.same worker)

      unarmed : AreUnarmed after
      unfolding seat_of
      unarmed worker inside = ap (λ (w : WorkerState). w.seat) (bare-at worker inside)

      empty-after : AreEmptyHanded after
      unfolding hand_of
      empty-after worker inside = ap (λ (w : WorkerState). w.restraint.hand) (bare-at worker inside)

      -- what a count has counted
      pub over-unsettled : (op : ℕ) → is_over (count_at live.arms op) (rows_emitted after op) ≡ true → IsSettled (query_of e) (leg_state e to_end (parts_from 0 live.back)) → ⊥
      unfolding emitted_by
      over-unsettled op over settled =
          let query = query_of e in
          let begin = leg_start to_end (rest_state e) in
          let now = state_reached query begin re.positions in
          let more = count-over (crew_at query.flow now op) (count_at live.arms op) (arms_at now op).count (rows_emitted after op)
          ((in-force-reached query begin after re.positions stands live.arms re.away.in_force).each op).count (stand-emitted query begin after re.positions stands op) over in
          let few = (subst (IsSettled query) (state-redone e live to_end empty re legal) settled).counts op more.0 more.1 in
          let beyond = more.2 in
          absurd (omega arith)

      module _ (not : NoneIsOver live.arms after) where
        within : AreWithinTargets (counts_asked live.arms) after
        unfolding emitted_by
        within op =
            let query = query_of e in
            let begin = leg_start to_end (rest_state e) in
            let now = state_reached query begin re.positions in
            subst (λ count. IsWithinTarget count (rows_emitted after op)) (sym (target-asked live.arms op))
            (count-within (crew_at query.flow now op) (count_at live.arms op) (arms_at now op).count (rows_emitted after op)
            ((in-force-reached query begin after re.positions stands live.arms re.away.in_force).each op).count (stand-emitted query begin after re.positions stands op) (not op)
            (subst (λ count. IfSome count (λ one. one.target ≤ 2 ^ 40)) (target-asked live.arms op) (re.targets op)))

        module _ (rest : List WorkerState) (headed : AreHeaded e.flow e.files) where
          pub leg-ended : IsLeg e (record live { dataflow = after; back = rest }) to_end Disarmed
          leg-ended = record {
            few = most;
            headed = headed;
            legal = legal;
            leg = record {
              more = re.away.more;
              positions = re.positions;
              at = stands;
              in_force = re.away.in_force;
              few = (let few = re.few in let steps = back-steps workers after crew-after came in let bare = emptied-steps live.back in omega arith);
            };
            stand = (within, record { none = re.none; unarmed = unarmed; empty = empty-after });
          }

          -- where it may be closed so, it is
          pub closes-well : (closed : Close) → ClosesIn to_end (query_of e) (leg_state e to_end (parts_from 0 live.back)) closed
              → judge_close (query_of e) to_end (leg_state e to_end (parts_from 0 live.back)) closed
              ≡ Some (Between (state_after (query_of e) (e.log.items ++ item_of_leg to_end (parts_from 0 live.back) closed ∷ [])))
          unfolding open-redone leg-ended
          closes-well closed closes =
              let here = state-redone e live to_end empty re legal in
              let may = subst (λ (s : State). ClosesIn to_end (query_of e) s closed) here closes in
              let first = flows_send_forward e.flow re.stand.flow in
              let more = subst (λ parts. IsLegal (query_of e) (with_item e.log (item_of_leg to_end parts closed))) parts-ended (legal-closed to_end e after live.arms leg-ended.leg legal closed may).0 in
              ap (λ (s : State). judge_close (query_of e) to_end s closed) here
              ∙ judged-well (query_of e) e.log to_end (parts_from 0 live.back) closed first open-redone more
              ∙ ap (λ (s : State). Some (Between s)) (sym (legal_logs_have_one_state (query_of e) (with_item e.log (item_of_leg to_end (parts_from 0 live.back) closed)) first more))

          -- so the line that closes the leg is judged
          pub judged-redone : (closed : Close) → IsJudged (record e { phase = phase.Open to_end Disarmed; parts = parts_from 0 live.back }) closed
          unfolding state_of
          judged-redone closed = record { closes = closes-well closed; refuses = refused closed }
