-- What is said of the workers is said of the state.
use Rattle.std.proofs.Common.{◌≡◌, sym, ap, subst, ◌∙◌, ℕ, List, true, false, Result, Ok, Err}
use Rattle.std.specs.Result.{IfOk, MatchResult}
use Rattle.std.proofs.lemmas.Bool.{false≢true}
use Rattle.amber_meaning.specs.declared.answer.Answer.{Answer}
use Rattle.amber_meaning.specs.declared.view.Inspected.{Inspected}
use Rattle.amber_meaning.specs.declared.view.Stop.{Stop}
use Rattle.amber_meaning.specs.Legal.{Query, stops_in}
use Rattle.amber_meaning.specs.Position.{Position}
use Rattle.amber_meaning.specs.State.{State, have_finished, position_at}
use Rattle.amber_meaning.specs.Views.{answer_in, inspected_of}
use Rattle.amber_dataflow.specs.AtWork.{state_reached}
use Rattle.amber_dataflow.specs.Dataflow.{DataflowState, IsAnswerOf, StandAt, have_all_finished}
use Rattle.amber_dataflow.proofs.Standing.{stand-finished}
use Rattle.amber_home.specs.Asked.{Asked, IsInForce}
use Rattle.amber_home.specs.HomeState.{HomeState, has_crew, is_open, query_of, rest_state, state_of, stops_of_home}
use Rattle.amber_home.specs.Leg.{ShowsAt, stops_by}
use Rattle.amber_home.specs.Kept.{IsHome, LiveState}
use Rattle.amber_home.specs.Parts.{open_parts}
use Rattle.amber_home.specs.declared.phase.Phase.{Phase}
use Rattle.amber_home.specs.declared.phase.Phase.TheVariants as phase
use Rattle.amber_home.proofs.Legs.{start, state-here}
use Rattle.amber_home.proofs.Opened.{listed-rest}
use Rattle.amber_home.proofs.Reached.{in-force-reached}
use Rattle.amber_home.proofs.Stopped.{stops-are}

-- the home in a phase, with the parts of its workers
abbrev pub in_phase : HomeState → LiveState → Phase → HomeState
in_phase e live now = record e { phase = now; parts = open_parts now live }

-- the workers stand somewhere, and reach the state in which the home is
pub record StandsSomewhere (query : Query) (state : State) (d : DataflowState) (arms : List Asked) : Type 0 where
  pub start : State
  pub positions : ℕ → Position
  pub at : StandAt query start d positions
  pub in_force : IsInForce query.flow state arms
  pub reached : state ≡ state_reached query start positions

pub stands-somewhere : (e : HomeState) (live : LiveState) (now : Phase) → IsHome (record e { phase = now }) live → has_crew now ≡ true
    → StandsSomewhere (query_of e) (state_of (in_phase e live now)) live.dataflow live.arms
unfolding state_of
stands-somewhere e live phase.Over home there = absurd (false≢true there)
stands-somewhere e live (phase.Lent to_end) home there = absurd (false≢true there)
stands-somewhere e live (phase.Unsettled to_end) home there = absurd (false≢true there)
stands-somewhere e live (phase.Redoing to_end empty) home there = absurd (false≢true there)
stands-somewhere e live phase.Spent home there = absurd (false≢true there)
stands-somewhere e live phase.Resting home there =
    let rest = home.stands in
    record {
      start = rest_state e;
      positions = position_at (rest_state e).positions;
      at = rest.at;
      in_force = rest.in_force;
      reached = sym (listed-rest (record e { phase = phase.Resting }) live rest home.legal);
    }
stands-somewhere e live (phase.Open to_end counts) home there =
    let here : HomeState = record e { phase = phase.Open to_end counts } in
    let leg = home.stands.0 in
    record {
      start = start to_end here live.dataflow live.arms leg home.legal;
      positions = leg.positions;
      at = leg.at;
      in_force =
          subst (λ (s : State). IsInForce e.flow s live.arms) (sym (state-here to_end here live.dataflow live.arms leg home.legal))
          (in-force-reached (query_of e) (start to_end here live.dataflow live.arms leg home.legal) live.dataflow leg.positions leg.at live.arms leg.in_force);
      reached = state-here to_end here live.dataflow live.arms leg home.legal;
    }

pub ok-map : {A E : Type 0} {P Q : A → Type 0} (result : Result A E) → ((x : A) → P x → Q x) → IfOk result P → IfOk result Q
ok-map (Ok x) change h = change x h
ok-map (Err error) change h = tt

pub ok-both : {A E : Type 0} {P Q R : A → Type 0} (result : Result A E) → ((x : A) → P x → Q x → R x) → IfOk result P → IfOk result Q → IfOk result R
ok-both (Ok x) change g h = change x g h
ok-both (Err error) change g h = tt

pub ok-copy : {A E : Type 0} {P Q : A → Type 0} (R : E → Type 0) (result : Result A E) → ((x : A) → P x → Q x) → MatchResult result P R → IfOk result Q
ok-copy R (Ok x) change h = change x h
ok-copy R (Err error) change h = tt

-- ---- who has finished

module _ (query : Query) (state : State) (d : DataflowState) (arms : List Asked) (h : StandsSomewhere query state d arms) where
  pub finished-state : have_all_finished d ≡ have_finished state
  finished-state = sym (ap have_finished h.reached ∙ stand-finished query h.start d h.positions h.at)

  -- ---- what an operator shows

  pub shows-operator : (op : ℕ) (shown : Inspected) → ShowsAt arms d op shown → shown ≡ inspected_of query state op
  unfolding ShowsAt
  shows-operator op shown is = is query h.start h.positions h.at (subst (λ s. IsInForce query.flow s arms) h.reached h.in_force) ∙ ap (λ s. inspected_of query s op) (sym h.reached)

  -- ---- the answer

  pub answers-state : (answer : Answer) → have_finished state ≡ true → IsAnswerOf d answer → answer ≡ answer_in query state
  unfolding IsAnswerOf
  answers-state answer done is = is query h.start h.positions h.at (finished-state ∙ done) ∙ ap (answer_in query) (sym h.reached)

-- ---- the stops

module _ (e : HomeState) (live : LiveState) where
  -- within a leg those that stand
  pub stops-open : (now : Phase) → IsHome (record e { phase = now }) live → is_open now ≡ true → (shown : List Stop)
      → shown ≡ stops_by live.arms live.dataflow → shown ≡ stops_of_home (in_phase e live now)
  unfolding stops_of_home
  stops-open phase.Resting home within shown is = absurd (false≢true within)
  stops-open phase.Over home within shown is = absurd (false≢true within)
  stops-open (phase.Lent to_end) home within shown is = absurd (false≢true within)
  stops-open (phase.Unsettled to_end) home within shown is = absurd (false≢true within)
  stops-open (phase.Redoing to_end empty) home within shown is = absurd (false≢true within)
  stops-open phase.Spent home within shown is = absurd (false≢true within)
  stops-open (phase.Open to_end counts) home within shown is =
      let here : HomeState = record e { phase = phase.Open to_end counts } in
      let d = live.dataflow in
      let leg = home.stands.0 in
      is
      ∙ sym (stops-are (query_of e) (start to_end here d live.arms leg home.legal) d leg.positions leg.at live.arms leg.in_force)
      ∙ ap (stops_in (query_of e)) (sym (state-here to_end here d live.arms leg home.legal))

  -- outside of one those that are kept
  pub stops-rest : (now : Phase) → IsHome (record e { phase = now }) live → has_crew now ≡ true → is_open now ≡ false → live.stops ≡ stops_of_home (in_phase e live now)
  unfolding stops_of_home
  stops-rest phase.Resting home there rests = home.stands.stops_are
  stops-rest phase.Over home there rests = absurd (false≢true there)
  stops-rest (phase.Lent to_end) home there rests = absurd (false≢true there)
  stops-rest (phase.Unsettled to_end) home there rests = absurd (false≢true there)
  stops-rest (phase.Redoing to_end empty) home there rests = absurd (false≢true there)
  stops-rest phase.Spent home there rests = absurd (false≢true there)
  stops-rest (phase.Open to_end counts) home there rests = absurd (false≢true (sym rests))
