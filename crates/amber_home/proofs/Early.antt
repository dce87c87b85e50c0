-- A home in a leg where no stop stands: no pause of its operators has been reached, and somebody has not finished.
use Rattle.std.proofs.Common.{◌≡◌, sym, ap, ◌∙◌, ℕ, ◌<◌, List, [], Option, Some, true, false, arith}
use Rattle.std.proofs.lemmas.Bool.{leb-false, or_parts}
use Rattle.amber_meaning.specs.State.{have_finished}
use Rattle.amber_dataflow.specs.Dataflow.{DataflowState, rows_emitted}
use Rattle.amber_home.specs.Asked.{Asked, is_reached, stands_after}
use Rattle.amber_home.specs.HomeState.{HomeState, IsEarly, is_open, query_of, state_of, stops_of_home}
use Rattle.amber_home.specs.Kept.{IsHome, LiveState}
use Rattle.amber_home.specs.Leg.{count_at, is_stopped, pause_at}
use Rattle.amber_home.specs.declared.phase.Phase.{Phase}
use Rattle.amber_home.proofs.AsFar.{rows-are}
use Rattle.amber_home.proofs.Free.{goes-home}
use Rattle.amber_home.proofs.Homes.{open-there}
use Rattle.amber_home.proofs.Saying.{finished-state, in_phase, stands-somewhere}

-- where no stop stands at an operator its pause does not
none-paused : (arms : List Asked) (d : DataflowState) (op : ℕ) → is_stopped arms d op ≡ false → stands_after (pause_at arms op) (rows_emitted d op) ≡ false
none-paused arms d op none = (or_parts (stands_after (pause_at arms op) (rows_emitted d op)) (is_reached (count_at arms op) (rows_emitted d op)) none).0

-- so fewer rows were emitted than it asks for
not-yet : (pause : Option ℕ) (rows n : ℕ) → stands_after pause rows ≡ false → pause ≡ Some n → rows < n
not-yet pause rows n stands is = leb-false n rows (ap (λ found. stands_after found rows) (sym is) ∙ stands)

module _ (e : HomeState) (live : LiveState) (now : Phase) (home : IsHome (record e { phase = now }) live) (within : is_open now ≡ true) (flow : live.dataflow.flow ≡ e.flow)
    (none : stops_of_home (in_phase e live now) ≡ []) where
  pub early-home : IsEarly (in_phase e live now)
  early-home op n is =
      let there = open-there now within in
      let kept = ((stands-somewhere e live now home there).in_force.each op).pause ∙ is in
      let less = not-yet (pause_at live.arms op) (rows_emitted live.dataflow op) n (none-paused live.arms live.dataflow op ((goes-home e live now home within flow none).none op)) kept in
      let rows = rows-are e live now home there op in
      omega arith

  pub unfinished-home : have_finished (state_of (in_phase e live now)) ≡ false
  unfinished-home =
      sym (finished-state (query_of e) (state_of (in_phase e live now)) live.dataflow live.arms (stands-somewhere e live now home (open-there now within)))
      ∙ (goes-home e live now home within flow none).unfinished
