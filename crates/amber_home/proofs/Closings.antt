-- A leg of a home may be closed, and the home after that.
use Rattle.std.proofs.Common.{◌≡◌, ◌≢◌, refl, sym, ap, subst, ◌∙◌, ℕ, zero, suc, ◌+◌, ◌<◌, ◌≤◌, List, [], length, Bool, true, false, Option, None, Some, unwrap_or, if◌then◌else◌, inl, inr, arith}
use Rattle.std.proofs.lemmas.Bool.{cases_lt, eq-eqb, false≢true, or_parts}
use Rattle.std.proofs.lemmas.Bool.Decides.{eqb_tells}
use Rattle.std.proofs.lemmas.List.{length-map}
use Rattle.amber_log.specs.declared.leg.Close.{Close}
use Rattle.amber_log.specs.declared.leg.Close.TheVariants as close
use Rattle.amber_log.specs.declared.log.Log.{Log}
use Rattle.amber_meaning.specs.declared.view.Stop.{Stop}
use Rattle.amber_meaning.specs.Legal.{IsSettled, stops_in}
use Rattle.amber_meaning.specs.State.{State, steps_in}
use Rattle.amber_meaning.specs.Stops.{op_numbers}
use Rattle.amber_boards.specs.Boards.{AreBelow, AreWithinTargets, IsBelow, IsWithinTarget, target_at}
use Rattle.amber_boards.specs.declared.target.Target.{Target}
use Rattle.amber_dataflow.specs.Dataflow.{DataflowState, handed_out, leg_parts, rows_emitted}
use Rattle.amber_dataflow.proofs.Numbered.{length-ops, nth-numbers}
use Rattle.amber_dataflow.proofs.Standing.{stand-there}
use Rattle.amber_home.specs.Asked.{Asked, is_reached, no_asked, stands_after}
use Rattle.amber_home.specs.HomeState.{ClosesIn, HomeState, MayClose, item_of_leg, leg_state, query_of, rest_state, state_of, stops_of_home, with_item}
use Rattle.amber_home.specs.Kept.{IsHome, LiveState}
use Rattle.amber_home.specs.Leg.{closed_arms, count_at, counts_asked, cut_arms, cut_at, is_stopped, pause_at, stops_by}
use Rattle.amber_home.specs.declared.phase.Counts.{Counts}
use Rattle.amber_home.specs.declared.phase.Counts.TheVariants.{Armed}
use Rattle.amber_home.specs.declared.phase.Phase.TheVariants as phase
use Rattle.amber_home.proofs.Closed.{legal-closed, rest-closed}
use Rattle.amber_home.proofs.Cut.{in-force-closed}
use Rattle.amber_home.proofs.Free.{goes-none}
use Rattle.amber_home.proofs.HeldRows.{rows-within}
use Rattle.amber_home.proofs.Homes.{IsLeg, disarmed}
use Rattle.amber_home.proofs.Legs.{few-here, settled-here, start, state-here, unarmed-start}
use Rattle.amber_home.proofs.Places.{nth-past}
use Rattle.amber_home.proofs.Reached.{target-asked}
use Rattle.amber_home.proofs.Stopped.{stops-are}

-- where no stop stands at an operator its count does not
none-counted : (arms : List Asked) (d : DataflowState) (op : ℕ) → is_stopped arms d op ≡ false → is_reached (count_at arms op) (rows_emitted d op) ≡ false
none-counted arms d op none = (or_parts (stands_after (pause_at arms op) (rows_emitted d op)) (is_reached (count_at arms op) (rows_emitted d op)) none).1

-- what is below its target where it is within, and has not reached it
below-left : (count : Option Target) (rows : ℕ) → is_reached count rows ≡ false → IsWithinTarget count rows → IsBelow count rows
below-left None rows none within = tt
below-left (Some count) rows none within =
    elim (eqb_tells rows (count.target + count.since)) [
      | inl same ↦ absurd (false≢true (sym none ∙ eq-eqb rows (count.target + count.since) same.1))
      | inr other ↦ (within.0, let most = within.1 in let apart = other.1 in less-by rows (count.target + count.since) most apart)
    ]
  where
    less-by : (m n : ℕ) → m ≤ n → m ≢ n → m < n
    less-by m n most apart = elim (cases_lt m n) [ inl less ↦ less | inr past ↦ absurd (apart (let past = past in omega arith)) ]

-- so it is of what a cut leaves
below-cut : (count : Option Target) (rows : ℕ) → IsWithinTarget count rows → IsBelow (if is_reached count rows then None else count) rows
below-cut count rows within = by (is_reached count rows) refl
  where
    by : (b : Bool) → is_reached count rows ≡ b → IsBelow (if b then None else count) rows
    by true is = tt
    by false is = below-left count rows is within

-- a cut leaves no more than this at an operator
cut-count : (arms : List Asked) (d : DataflowState) (op : ℕ) → length arms ≡ length d.flow
    → count_at (cut_arms arms d) op ≡ (if is_reached (count_at arms op) (rows_emitted d op) then None else count_at arms op)
cut-count arms d zero long = refl
cut-count arms d (suc i) long = elim (cases_lt i (length d.flow)) [
  | inl within ↦ ap (λ found. (unwrap_or found no_asked).count) (nth-numbers (cut_at arms d) d.flow (suc i) (omega arith) (omega arith))
  | inr past ↦
      ap (λ found. (unwrap_or found no_asked).count) (nth-past (cut_arms arms d) (suc i) (rw (length-map (op_numbers d.flow) (cut_at arms d), length-ops d.flow) (omega arith)))
      ∙ ap (λ count. if is_reached count (rows_emitted d (suc i)) then None else count)
      (sym (ap (λ found. (unwrap_or found no_asked).count) (nth-past arms (suc i) (omega (arith, long)))))
]

asked-below : (now : List Asked) (op rows : ℕ) → IsBelow (count_at now op) rows → IsBelow (target_at (counts_asked now) op) rows
asked-below now op rows below = subst (λ count. IsBelow count rows) (sym (target-asked now op)) below

-- once a leg is closed no count has been reached
closed-below : (e : HomeState) (live : LiveState) (to_end : Bool) (counts : Counts) → IsLeg e live to_end counts → AreWithinTargets (counts_asked live.arms) live.dataflow → (closed : Close)
    → ClosesIn to_end (query_of e) (leg_state e to_end (leg_parts live.dataflow)) closed → AreBelow (counts_asked (closed_arms to_end closed live.arms live.dataflow)) live.dataflow
closed-below e live true counts leg within closed closes op =
    asked-below live.arms op (rows_emitted live.dataflow op)
    (subst (λ count. IsBelow count (rows_emitted live.dataflow op)) (sym (unarmed-start (query_of e) (rest_state e) live.arms leg.leg.in_force op).1) tt)
closed-below e live false counts leg within close.Cut closes op =
    asked-below (cut_arms live.arms live.dataflow) op (rows_emitted live.dataflow op)
    (subst (λ count. IsBelow count (rows_emitted live.dataflow op)) (sym (cut-count live.arms live.dataflow op (leg.leg.in_force.all ∙ ap length (sym leg.leg.at.flow))))
    (below-cut (count_at live.arms op) (rows_emitted live.dataflow op)
    (subst (λ count. IsWithinTarget count (rows_emitted live.dataflow op)) (target-asked live.arms op) (within op))))
closed-below e live false counts leg within close.Long closes op =
    let d = live.dataflow in
    let begin = start false e d live.arms leg.leg leg.legal in
    let none = sym (stops-are (query_of e) begin d leg.leg.positions leg.leg.at live.arms leg.leg.in_force)
    ∙ ap (stops_in (query_of e)) (sym (state-here false e d live.arms leg.leg leg.legal)) ∙ closes.2 in
    let goes = goes-none live.arms d (leg.leg.in_force.all ∙ ap length (sym leg.leg.at.flow)) (stand-there (query_of e) begin d leg.leg.positions leg.leg.at)
    (rows-within false e d live.arms leg.leg leg.legal) none in
    asked-below live.arms op (rows_emitted d op)
    (below-left (count_at live.arms op) (rows_emitted d op) (none-counted live.arms d op (goes.none op))
    (subst (λ count. IsWithinTarget count (rows_emitted d op)) (target-asked live.arms op) (within op)))

-- a leg is closed
pub home-closed : (e : HomeState) (live : LiveState) (to_end : Bool) (counts : Counts) → IsLeg e live to_end counts → (counts ≡ Armed → ⊥)
    → (closed : Close) (log : Log) (later : List Asked) (kept : List Stop)
    → ClosesIn to_end (query_of e) (leg_state e to_end (leg_parts live.dataflow)) closed
    → log ≡ with_item e.log (item_of_leg to_end (leg_parts live.dataflow) closed)
    → later ≡ closed_arms to_end closed live.arms live.dataflow
    → kept ≡ stops_by live.arms live.dataflow
    → IsHome (record e { log = log; phase = phase.Resting; parts = [] }) (record live { dataflow = handed_out live.dataflow; arms = later; stops = kept })
home-closed e live to_end counts leg not closed log later kept closes log-is later-is kept-is =
    let d = live.dataflow in
    let begin = start to_end e d live.arms leg.leg leg.legal in
    let may = subst (λ (s : State). ClosesIn to_end (query_of e) s closed) (state-here to_end e d live.arms leg.leg leg.legal) closes in
    let stand = disarmed live counts not leg.stand in
    let below = subst (λ now. AreBelow (counts_asked now) d) (sym later-is) (closed-below e live to_end counts leg stand.0 closed closes) in
    subst (λ boards. IsHome (record e { log = log; phase = phase.Resting; parts = [] }) (record live { dataflow = handed_out d; arms = later; boards = boards; stops = kept })) (sym stand.1.none)
    (subst (λ (l : Log). IsHome (record e { log = l; phase = phase.Resting; parts = [] }) (record live { dataflow = handed_out d; arms = later; boards = []; stops = kept })) (sym log-is) (record {
      few = leg.few;
      headed = leg.headed;
      legal = (legal-closed to_end e d live.arms leg.leg leg.legal closed may).0;
      stands = rest-closed to_end e d live.arms leg.leg leg.legal closed may later kept live.back
          (rw later-is (in-force-closed (query_of e) begin d leg.leg.positions leg.leg.at live.arms leg.leg.in_force to_end closed))
          (kept-is ∙ sym (stops-are (query_of e) begin d leg.leg.positions leg.leg.at live.arms leg.leg.in_force))
          below (record { none = refl; unarmed = stand.1.unarmed; empty = stand.1.empty });
    }))

-- what calls tell is enough
pub closes-told : (e : HomeState) (live : LiveState) (to_end : Bool) (counts : Counts) → IsLeg e live to_end counts → (counts ≡ Armed → ⊥) → (closed : Close)
    → MayClose to_end (record e { phase = phase.Open to_end counts; parts = leg_parts live.dataflow }) closed
    → ClosesIn to_end (query_of e) (leg_state e to_end (leg_parts live.dataflow)) closed
unfolding state_of stops_of_home
closes-told e live to_end counts leg not closed told =
    let d = live.dataflow in
    let stand = disarmed live counts not leg.stand in
    by to_end closed (settled-here to_end e d live.arms leg.leg leg.legal stand.1.empty stand.0) (few-here to_end e d live.arms leg.leg leg.legal) told
  where
    by : (to_end : Bool) (closed : Close) → IsSettled (query_of e) (leg_state e to_end (leg_parts live.dataflow)) → steps_in (leg_state e to_end (leg_parts live.dataflow)) ≤ e.most
        → MayClose to_end (record e { phase = phase.Open to_end counts; parts = leg_parts live.dataflow }) closed → ClosesIn to_end (query_of e) (leg_state e to_end (leg_parts live.dataflow)) closed
    by true close.Cut settled few told = (settled, few, told)
    by true close.Long settled few told = (settled, told.0, told.1)
    by false close.Cut settled few told = (settled, few, told)
    by false close.Long settled few told = (settled, told.0, told.1)
