-- A leg in which nothing was done: the workers stand where it began.
use Rattle.std.proofs.Common.{◌≡◌, refl, sym, ap, subst, ◌∙◌, ℕ, zero, suc, ◌<◌, List, [], ◌∷◌, ◌++◌, length, map, Bool, true, false, arith}
use Rattle.std.proofs.lemmas.List.{length-map, map-append}
use Rattle.amber_rows.specs.Topology.{crew_of}
use Rattle.amber_rows.specs.Lists.{numbers_below}
use Rattle.amber_log.specs.declared.leg.Part.{Part}
use Rattle.amber_meaning.specs.Legal.{IsLegal, Query, assignment_in, entries_of, leg_start}
use Rattle.amber_meaning.specs.Position.{Position}
use Rattle.amber_meaning.specs.Rules.{Leads}
use Rattle.amber_meaning.specs.State.{State, begin_last_leg, begin_leg, let_go, position_at}
use Rattle.amber_meaning.proofs.OneState.{legal_logs_have_one_state}
use Rattle.amber_meaning.proofs.Rest.{legal_logs_rest}
use Rattle.amber_meaning.proofs.Senders.{flows_send_forward}
use Rattle.amber_dataflow.specs.AtWork.{state_reached}
use Rattle.amber_dataflow.specs.Dataflow.{DataflowState, leg_parts}
use Rattle.amber_dataflow.proofs.Standing.{listed-whole, stand-flow}
use Rattle.amber_home.specs.Asked.{Asked}
use Rattle.amber_home.specs.HomeState.{HomeState, leg_state, query_of, rest_state}
use Rattle.amber_home.specs.Kept.{IsWithinLeg}
use Rattle.amber_home.proofs.Legs.{start, state-here}
use Rattle.amber_home.proofs.Reached.{leads-at}

listed-equal : (f g : ℕ → Position) (n : ℕ) → ((k : ℕ) → k < n → f k ≡ g k) → map f (numbers_below n) ≡ map g (numbers_below n)
unfolding numbers_below
listed-equal f g zero same = refl
listed-equal f g (suc n) same =
    map-append f (numbers_below n) (n ∷ [])
    ∙ ap (λ xs. xs ++ f n ∷ []) (listed-equal f g n (λ k less. same k (omega arith)))
    ∙ ap (λ p. map g (numbers_below n) ++ p ∷ []) (same n (omega arith))
    ∙ sym (map-append g (numbers_below n) (n ∷ []))

-- as many workers begin a leg as rested
start-long : (to_end : Bool) (rest : State) → length (leg_start to_end rest).positions ≡ length rest.positions
unfolding begin_leg begin_last_leg
start-long true rest = length-map rest.positions let_go
start-long false rest = length-map rest.positions let_go

module _ (to_end : Bool) (e : HomeState) (d : DataflowState) (arms : List Asked) (leg : IsWithinLeg to_end e d arms) (legal : IsLegal (query_of e) e.log) (none : leg_parts d ≡ []) where
  abbrev query : Query
  query = query_of e

  abbrev begun : State
  begun = start to_end e d arms leg legal

  begun-long : length begun.positions ≡ crew_of query.flow
  begun-long =
      start-long to_end (rest_state e)
      ∙ ap (λ (s : State). length s.positions) (legal_logs_have_one_state query e.log (flows_send_forward query.flow (stand-flow query begun d leg.positions leg.at)) legal)
      ∙ (legal_logs_rest query e.log legal).crew

  stands-begun : (worker : ℕ) → worker < crew_of query.flow → leg.positions worker ≡ position_at begun.positions worker
  unfolding Leads entries_of
  stands-begun worker inside =
      sym (subst (λ (parts : List Part). Leads (assignment_in query begun worker) (position_at begun.positions worker) (entries_of parts worker) (leg.positions worker)) none
      (leads-at query begun d leg.positions leg.at worker inside))

  pub reached-begun : state_reached query begun leg.positions ≡ begun
  reached-begun =
      ap (λ ps. record begun { positions = ps }) (listed-equal leg.positions (position_at begun.positions) (crew_of query.flow) stands-begun)
      ∙ listed-whole query begun begun-long

  -- the state of the leg is the one in which it begins
  pub state-begun : leg_state e to_end [] ≡ leg_start to_end (rest_state e)
  state-begun = ap (leg_state e to_end) (sym none) ∙ state-here to_end e d arms leg legal ∙ reached-begun
