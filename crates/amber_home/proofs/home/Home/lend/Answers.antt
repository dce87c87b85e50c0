-- The home is without its workers, who are those of the leg.
use Rattle.std.proofs.Common.{refl, sym, ap, subst, ◌∙◌, List, []}
use Rattle.amber_meaning.specs.State.{steps_in}
use Rattle.amber_rows.specs.declared.flow.Operator.{Operator}
use Rattle.amber_boards.specs.Boards.{AreLedBy}
use Rattle.amber_dataflow.specs.AtWork.{steps_by, turned_by}
use Rattle.amber_dataflow.specs.Dataflow.{DataflowState}
use Rattle.amber_dataflow.specs.Parts.{parts_from}
use Rattle.amber_home.specs.HomeState.{HomeState, IsWorkedLeg, counts_in, runs_to_end, state_of}
use Rattle.amber_home.specs.Kept.{IsHome}
use Rattle.amber_home.specs.Lent.{IsLent}
use Rattle.amber_home.specs.declared.crew.Crew.{Crew}
use Rattle.amber_home.specs.declared.phase.Phase.TheVariants as phase
use Rattle.amber_home.proofs.Driven.{home-driven, turned-open}
use Rattle.amber_home.proofs.Homes.{in-open, leg-of}
use Rattle.amber_home.proofs.Inside.{kept, opens, seen}
use Rattle.amber_home.proofs.LentOut.{crew-lent, home-away, lent-steps, parts-lent, worked-leg}
use Rattle.amber_home.proofs.home.Home.lend.Goals as goal

pub invariant_of-self : goal.invariant_of-self
invariant_of-self c =
    let i = c.self.inside in
    let within = opens i c.self.invariant c.args.self.now c.self.view_is c.requires.within in
    let flow = ap (λ (d : DataflowState). d.flow) c.lend.ensures.none in
    let left = record (kept i) { dataflow = c.lend.new.self; boards = c.replace.new.dest } in
    subst (λ to_end. IsHome (record (seen i) { flow = c.lend.new.self.flow; phase = phase.Lent to_end; parts = []; turned = [] }) left) (sym c.runs_to_end.ensures)
    (home-driven []
    (subst (λ (f : List Operator). IsHome (record (seen i) { flow = f; phase = phase.Lent (runs_to_end i.phase); parts = [] }) left) (sym flow)
    (home-away (seen i) (kept i) i.phase c.self.invariant within left refl)))

-- the home as it is seen then
went : goal.returns-clause-home
went c =
    let flow = ap (λ (d : DataflowState). d.flow) c.lend.ensures.none in
    (λ k. record (seen c.self.inside) { flow = flow k; phase = phase.Lent (c.runs_to_end.ensures k); parts = []; turned = [] })
    ∙ ap (λ (h : HomeState). record h { phase = phase.Lent (runs_to_end h.phase); parts = []; turned = [] }) c.self.view_is

pub returns-clause-home : goal.returns-clause-home
returns-clause-home c = went c

pub returns-clause-lent : goal.returns-clause-lent
returns-clause-lent c =
    let i = c.self.inside in
    let within = opens i c.self.invariant c.args.self.now c.self.view_is c.requires.within in
    let armed = ap (λ (h : HomeState). counts_in h.phase) c.self.view_is ∙ c.requires.armed in
    let flow = ap (λ (d : DataflowState). d.flow) c.lend.ensures.none in
    let crew : Crew = record { workers = c.lend.result; boards = c.lend-boards.result.0; chiefs = c.lend-boards.result.1 } in
    subst (λ (h : HomeState). IsLent h crew) (λ k. record (seen i) { flow = sym flow k; phase = phase.Lent (sym c.runs_to_end.ensures k); parts = []; turned = [] })
    (crew-lent (record (seen i) { turned = [] }) (kept i) i.phase (home-driven [] c.self.invariant) within armed refl crew c.lend.ensures.workers (c.lend-boards.ensures.boards ∙ c.replace.ensures.value)
    (subst (λ boards. AreLedBy boards c.lend-boards.result.1.items) (sym c.lend-boards.ensures.boards) c.lend-boards.ensures.led))

pub returns-clause-parts : goal.returns-clause-parts
returns-clause-parts c =
    let i = c.self.inside in
    let within = opens i c.self.invariant c.args.self.now c.self.view_is c.requires.within in
    ap (λ (h : HomeState). h.parts) (sym c.self.view_is) ∙ parts-lent (seen i) (kept i) i.phase within ∙ ap (parts_from 0) (sym c.lend.ensures.workers)

pub returns-clause-turned : goal.returns-clause-turned
returns-clause-turned c =
    let i = c.self.inside in
    let within = opens i c.self.invariant c.args.self.now c.self.view_is c.requires.within in
    ap (λ (h : HomeState). h.turned) (sym c.self.view_is) ∙ turned-open (kept i) i.phase within ∙ ap turned_by (sym c.lend.ensures.workers)

pub returns-clause-steps : goal.returns-clause-steps
returns-clause-steps c =
    let i = c.self.inside in
    let within = opens i c.self.invariant c.args.self.now c.self.view_is c.requires.within in
    ap steps_by c.lend.ensures.workers ∙ lent-steps (seen i) (kept i) i.phase c.self.invariant within ∙ ap (λ (h : HomeState). steps_in (state_of h)) c.self.view_is

pub returns-clause-worked : goal.returns-clause-worked
returns-clause-worked c =
    let i = c.self.inside in
    let within = opens i c.self.invariant c.args.self.now c.self.view_is c.requires.within in
    subst IsWorkedLeg c.self.view_is
    (subst IsWorkedLeg (sym (in-open (seen i) (kept i) i.phase within))
    (worked-leg (seen i) (kept i) (runs_to_end i.phase) (counts_in i.phase) (leg-of (seen i) (kept i) i.phase c.self.invariant within)))
