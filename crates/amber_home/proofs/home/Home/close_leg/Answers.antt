-- The leg stands in the log, and the workers rest.
use Rattle.std.proofs.Common.{◌≡◌, sym, ap, subst, ◌∙◌, [], ◌∷◌, ◌++◌}
use Rattle.amber_dataflow.specs.AtWork.{turned_by}
use Rattle.amber_dataflow.specs.Dataflow.{DataflowState, handed_out, leg_parts}
use Rattle.amber_home.specs.HomeState.{ClosesIn, HomeState, MayClose, counts_in, item_of_leg, query_of, runs_to_end, state_of, with_closed_leg}
use Rattle.amber_home.specs.Kept.{IsHome}
use Rattle.amber_home.specs.Leg.{closed_arms}
use Rattle.amber_home.specs.declared.phase.Counts.TheVariants.{Armed}
use Rattle.amber_home.specs.declared.phase.Phase.TheVariants as phase
use Rattle.amber_home.proofs.Driven.{handed-turned, home-driven, turned-open}
use Rattle.amber_home.proofs.Homes.{in-open, leg-of}
use Rattle.amber_home.proofs.Closings.{closes-told, home-closed}
use Rattle.amber_home.proofs.Inside.{kept, long-within, opens, seen, there-within}
use Rattle.amber_home.proofs.home.Home.close_leg.Goals as goal

pub stops_of-requires : goal.stops_of-requires
stops_of-requires c = there-within c.self.inside c.self.invariant c.args.self.now c.self.view_is c.requires.within

pub close_arms-requires-clause-workers : goal.close_arms-requires-clause-workers
close_arms-requires-clause-workers c = there-within c.self.inside c.self.invariant c.args.self.now c.self.view_is c.requires.within

pub close_arms-requires-clause-arms : goal.close_arms-requires-clause-arms
close_arms-requires-clause-arms c = long-within c.self.inside c.self.invariant c.args.self.now c.self.view_is c.requires.within

pub push_leg-requires : goal.push_leg-requires
push_leg-requires c = there-within c.self.inside c.self.invariant c.args.self.now c.self.view_is c.requires.within

pub invariant_of-self-2 : goal.invariant_of-self-2
invariant_of-self-2 c =
    let i = c.self.inside in
    let e = seen i in
    let live = kept i in
    let within = (opens i c.self.invariant c.args.self.now c.self.view_is c.requires.within) in
    let leg = leg-of e live i.phase c.self.invariant within in
    let not : counts_in i.phase ≡ Armed → ⊥ = λ armed. c.requires.disarmed (ap (λ (h : HomeState). counts_in h.phase) (sym c.self.view_is) ∙ armed) in
    let to_end = c.runs_to_end-to_end.ensures in
    let pushed = c.in_ok-push_leg.ensures in
    let told = subst (λ (h : HomeState). MayClose (runs_to_end i.phase) h c.args.close) (in-open e live i.phase within)
    (subst (λ (h : HomeState). MayClose (runs_to_end h.phase) h c.args.close) (sym c.self.view_is) c.requires.closes) in
    let closes = closes-told e live (runs_to_end i.phase) (counts_in i.phase) leg not c.args.close told in
    subst (λ (d : DataflowState). IsHome (record { flow = d.flow; files = i.files; most = i.most; log = record { batch = i.log.batch; items = c.push_leg.new.items }; phase = phase.Resting; parts = []; alone = i.alone; turned = turned_by d.workers })
    (record { dataflow = d; arms = c.close_arms.new.arms; boards = i.boards; stops = c.in_ok-self-inside.field-0; back = i.back.items })) (sym pushed.dataflow)
    (home-driven (turned_by (handed_out i.dataflow).workers)
    (home-closed e live (runs_to_end i.phase) (counts_in i.phase) leg not c.args.close
    (record { batch = i.log.batch; items = c.push_leg.new.items }) c.close_arms.new.arms c.in_ok-self-inside.field-0 closes
    (ap (λ items. record i.log { items = items }) (pushed.items ∙ ap (λ b. i.log.items ++ item_of_leg b (leg_parts i.dataflow) c.args.close ∷ []) to_end))
    (c.close_arms.ensures ∙ ap (λ b. closed_arms b c.args.close i.arms i.dataflow) to_end)
    c.in_ok-self-inside.ensures))

pub returns-clause-ok : goal.returns-clause-ok
returns-clause-ok c =
    let i = c.self.inside in
    let within = opens i c.self.invariant c.args.self.now c.self.view_is c.requires.within in
    let pushed = c.in_ok-push_leg.ensures in
    let parts = ap (λ (h : HomeState). h.parts) (sym (in-open (seen i) (kept i) i.phase within)) in
    let flow = ap (λ (d : DataflowState). d.flow) pushed.dataflow in
    let items = pushed.items ∙ (λ k. i.log.items ++ item_of_leg (c.runs_to_end-to_end.ensures k) (parts k) c.args.close ∷ []) in
    let driven = ap (λ (d : DataflowState). turned_by d.workers) pushed.dataflow ∙ handed-turned i.dataflow ∙ sym (turned-open (kept i) i.phase within) in
    (λ k. record (seen i) { flow = flow k; log = record i.log { items = items k }; phase = phase.Resting; parts = []; turned = driven k })
    ∙ ap (λ (h : HomeState). with_closed_leg h c.args.close) c.self.view_is

pub returns-clause-so : goal.returns-clause-so
unfolding state_of
returns-clause-so c =
    let i = c.self.inside in
    let e = seen i in
    let live = kept i in
    let within = (opens i c.self.invariant c.args.self.now c.self.view_is c.requires.within) in
    let leg = leg-of e live i.phase c.self.invariant within in
    let not : counts_in i.phase ≡ Armed → ⊥ = λ armed. c.requires.disarmed (ap (λ (h : HomeState). counts_in h.phase) (sym c.self.view_is) ∙ armed) in
    let told = subst (λ (h : HomeState). MayClose (runs_to_end i.phase) h c.args.close) (in-open e live i.phase within)
    (subst (λ (h : HomeState). MayClose (runs_to_end h.phase) h c.args.close) (sym c.self.view_is) c.requires.closes) in
    subst (λ (h : HomeState). ClosesIn (runs_to_end h.phase) (query_of h) (state_of h) c.args.close) c.self.view_is
    (subst (λ (h : HomeState). ClosesIn (runs_to_end i.phase) (query_of e) (state_of h) c.args.close) (sym (in-open e live i.phase within))
    (closes-told e live (runs_to_end i.phase) (counts_in i.phase) leg not c.args.close told))
