-- Workers of a home's leg are handed units before a round.
use Rattle.std.proofs.Common.{◌≡◌, refl, sym, subst, ◌∙◌, List, Option, true, arith}
use Rattle.amber_dataflow.specs.Dataflow.{DataflowState}
use Rattle.amber_boards.specs.Boards.{CounterState}
use Rattle.amber_home.specs.Going.{AreAsFar, AreReady, GoOn}
use Rattle.amber_home.specs.HomeState.{FeedsLeg, HomeState, counts_in, is_open, runs_to_end}
use Rattle.amber_home.specs.Kept.{CountsStand, IsHome, LiveState}
use Rattle.amber_home.specs.Parts.{open_parts}
use Rattle.amber_home.specs.declared.phase.Counts.TheVariants.{Armed}
use Rattle.amber_home.specs.declared.phase.Phase.{Phase}
use Rattle.amber_home.proofs.AsFar.{far-home}
use Rattle.amber_home.proofs.Homes.{IsLeg, home-of, in-open, leg-of, leg-on}

module _ (e : HomeState) (live : LiveState) (now : Phase) (home : IsHome (record e { phase = now }) live) (within : is_open now ≡ true) (armed : counts_in now ≡ Armed)
    (flow : live.dataflow.flow ≡ e.flow) (after : DataflowState) (boards : List (Option CounterState)) (on : GoOn live.arms live.dataflow after)
    (far : AreAsFar live.arms live.dataflow after) (ready : AreReady live.arms boards after) where
  -- what it keeps then
  abbrev pub later : LiveState
  later = record live { dataflow = after; boards = boards }

  leg-fed : IsLeg e later (runs_to_end now) (counts_in now)
  leg-fed =
      let leg = leg-of e live now home within in
      leg-on e live (runs_to_end now) (counts_in now) (counts_in now) leg after boards on
      (let same = far.steps in let few = leg.leg.few in omega arith)
      (subst (λ counts. CountsStand counts live.arms boards after) (sym armed) ready)

  pub home-fed : IsHome (record e { flow = after.flow; phase = now; parts = open_parts now later }) later
  home-fed =
      subst (λ (h : HomeState). IsHome h later) (sym (in-open (record e { flow = after.flow }) later now within))
      (home-of e later (runs_to_end now) (counts_in now) after.flow (on.flow ∙ flow) leg-fed)

  pub feeds-home : FeedsLeg (record e { phase = now; parts = open_parts now live }) (record e { flow = after.flow; phase = now; parts = open_parts now later })
  feeds-home = record {
    only = (λ k. record e { flow = (on.flow ∙ flow) k; phase = now; parts = open_parts now later });
    far = far-home e (record e { flow = after.flow; parts = open_parts now later }) live later now now home home-fed within within refl far;
  }
