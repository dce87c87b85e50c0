-- The workers stand where the leg begins.
use Rattle.std.proofs.Common.{refl, ap, ◌∙◌, false, [], replicate}
use Rattle.amber_rows.specs.Topology.{crew_of}
use Rattle.amber_dataflow.specs.AtWork.{turned_by}
use Rattle.amber_dataflow.specs.Dataflow.{DataflowState}
use Rattle.amber_log.specs.Grammar.{ends_over}
use Rattle.amber_meaning.specs.Legal.{leg_start}
use Rattle.amber_home.specs.HomeState.{HomeState, has_crew, rest_state, state_of}
use Rattle.amber_home.specs.declared.phase.Counts.TheVariants.{Unarmed}
use Rattle.amber_home.specs.declared.phase.Phase.TheVariants as phase
use Rattle.amber_home.proofs.Driven.{home-driven, leg-turned}
use Rattle.amber_home.proofs.Homes.{begins-opened, home-opened, state-opened}
use Rattle.amber_home.proofs.Inside.{all-there, kept, seen}
use Rattle.amber_home.proofs.home.Home.open_leg.Goals as goal

pub invariant_of-self : goal.invariant_of-self
invariant_of-self c =
    let i = c.self.inside in
    let e = seen i in
    let live = kept i in
    home-driven (turned_by c.begin.new.self.workers)
    (home-opened e live c.args.to_end c.self.invariant (ap (λ (h : HomeState). h.phase) c.self.view_is ∙ c.requires.resting)
    (ap (λ (h : HomeState). ends_over false h.log.items) c.self.view_is ∙ c.requires.open) c.begin.new.self c.begin.ensures c.begin_leg.new.self c.begin_leg.ensures refl)

pub returns-clause-opens : goal.returns-clause-opens
returns-clause-opens c =
    let i = c.self.inside in
    let e = seen i in
    let live = kept i in
    let opened =
    state-opened e live c.args.to_end c.self.invariant (ap (λ (h : HomeState). h.phase) c.self.view_is ∙ c.requires.resting)
    (ap (λ (h : HomeState). ends_over false h.log.items) c.self.view_is ∙ c.requires.open) c.begin.new.self c.begin.ensures c.begin_leg.new.self c.begin_leg.ensures refl in
    let all = all-there i c.self.invariant c.args.self.now c.self.view_is (ap has_crew c.requires.resting) in
    let driven = ap (λ (d : DataflowState). turned_by d.workers) c.begin.ensures ∙ leg-turned c.args.to_end i.dataflow all in
    (λ k. record (opened k) { turned = driven k })
    ∙ ap (λ (h : HomeState). record h { phase = phase.Open c.args.to_end Unarmed; parts = []; alone = 0; turned = replicate (crew_of h.flow) 0 }) c.self.view_is

pub returns-clause-begins : goal.returns-clause-begins
unfolding state_of
returns-clause-begins c =
    let i = c.self.inside in
    begins-opened (seen i) (kept i) c.args.to_end c.self.invariant (ap (λ (h : HomeState). h.phase) c.self.view_is ∙ c.requires.resting)
    (ap (λ (h : HomeState). ends_over false h.log.items) c.self.view_is ∙ c.requires.open) c.begin.new.self c.begin.ensures c.begin_leg.new.self c.begin_leg.ensures refl
    ∙ ap (λ (h : HomeState). leg_start c.args.to_end (rest_state h)) c.self.view_is
