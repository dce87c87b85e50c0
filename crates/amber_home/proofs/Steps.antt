-- What a home says of its steps, and of the last item of its log.
use Rattle.std.proofs.Common.{◌≡◌, sym, ap, ◌∙◌, suc, ◌-◌, ◌<◌, ◌≤◌, List, [], ◌∷◌, length, get_or, Bool, true, arith}
use Rattle.std.proofs.lemmas.Bool.{false≢true}
use Rattle.amber_log.specs.Grammar.{ends_over, is_last}
use Rattle.amber_log.specs.declared.log.Item.{Item}
use Rattle.amber_meaning.specs.State.{steps_in}
use Rattle.amber_dataflow.specs.Dataflow.{step_count}
use Rattle.amber_dataflow.proofs.Standing.{stand-steps}
use Rattle.amber_home.specs.HomeState.{HomeState, has_crew, query_of, state_of}
use Rattle.amber_home.specs.Kept.{IsHome, LiveState}
use Rattle.amber_home.specs.Parts.{open_parts}
use Rattle.amber_home.specs.declared.phase.Phase.{Phase}
use Rattle.amber_home.specs.declared.phase.Phase.TheVariants as phase
use Rattle.amber_home.proofs.Legs.{start, state-here}
use Rattle.amber_home.proofs.Opened.{rest-few, steps-rest}

-- ---- steps

module _ (e : HomeState) (live : LiveState) where
  pub steps-are : (now : Phase) → IsHome (record e { phase = now }) live → has_crew now ≡ true
      → step_count live.dataflow ≡ steps_in (state_of (record e { phase = now; parts = open_parts now live }))
  unfolding state_of
  steps-are phase.Over home there = absurd (false≢true there)
  steps-are (phase.Lent to_end) home there = absurd (false≢true there)
  steps-are (phase.Unsettled to_end) home there = absurd (false≢true there)
  steps-are (phase.Redoing to_end empty) home there = absurd (false≢true there)
  steps-are phase.Spent home there = absurd (false≢true there)
  steps-are phase.Resting home there = sym (steps-rest (record e { phase = phase.Resting }) live home.stands home.legal)
  steps-are (phase.Open to_end counts) home there =
      let here : HomeState = record e { phase = phase.Open to_end counts } in
      let leg = home.stands.0 in
      sym (ap steps_in (state-here to_end here live.dataflow live.arms leg home.legal)
      ∙ stand-steps (query_of e) (start to_end here live.dataflow live.arms leg home.legal) live.dataflow leg.positions leg.at)

  -- they are no more than may be
  pub steps-few : (now : Phase) → IsHome (record e { phase = now }) live → has_crew now ≡ true → step_count live.dataflow ≤ e.most
  steps-few phase.Over home there = absurd (false≢true there)
  steps-few (phase.Lent to_end) home there = absurd (false≢true there)
  steps-few (phase.Unsettled to_end) home there = absurd (false≢true there)
  steps-few (phase.Redoing to_end empty) home there = absurd (false≢true there)
  steps-few phase.Spent home there = absurd (false≢true there)
  steps-few phase.Resting home there = rest-few (record e { phase = phase.Resting }) live home.stands home.legal
  steps-few (phase.Open to_end counts) home there = home.stands.0.few

-- ---- the last item

pub over-last : (items : List Item) (over : Bool) (one : Item) → 0 < length items → one ≡ get_or items (length items - 1) one → ends_over over items ≡ is_last one
over-last [] over one some is = absurd (omega arith)
over-last (first ∷ []) over one some is = ap is_last (sym is)
over-last (first ∷ next ∷ more) over one some is =
    let more-than : length (first ∷ next ∷ more) - 1 ≡ suc (length (next ∷ more) - 1) = omega arith in
    over-last (next ∷ more) (is_last first) one (omega arith) (is ∙ ap (λ n. get_or (first ∷ next ∷ more) n one) more-than)
