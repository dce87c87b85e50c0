-- The workers are back, and the home stays one.
use Rattle.std.proofs.Common.{◌≡◌, true, sym, ap, subst, ◌∙◌}
use Rattle.amber_dataflow.specs.AtWork.{turned_by}
use Rattle.amber_dataflow.specs.Parts.{parts_from}
use Rattle.amber_home.specs.HomeState.{HomeState, is_lent, runs_to_end}
use Rattle.amber_home.specs.Kept.{IsHome}
use Rattle.amber_home.specs.Lent.{IsLent}
use Rattle.amber_home.specs.declared.phase.Phase.TheVariants as phase
use Rattle.amber_home.proofs.Driven.{home-driven}
use Rattle.amber_home.proofs.Inside.{kept, seen}
use Rattle.amber_home.proofs.LentOut.{home-back}
use Rattle.amber_home.proofs.home.Home.take_back.Goals as goal

pub invariant_of-self : goal.invariant_of-self
invariant_of-self c =
    let i = c.self.inside in
    let crew = c.args.crew in
    let away : is_lent i.phase ≡ true = ap (λ (h : HomeState). is_lent h.phase) c.self.view_is ∙ c.requires.away in
    subst (λ to_end. IsHome (record (seen i) { phase = phase.Unsettled to_end; parts = parts_from 0 crew.workers.items; turned = turned_by crew.workers.items })
    (record (kept i) { boards = c.take_back.result; back = crew.workers.items }))
    (sym c.runs_to_end.ensures)
    (subst (λ boards. IsHome (record (seen i) { phase = phase.Unsettled (runs_to_end i.phase); parts = parts_from 0 crew.workers.items; turned = turned_by crew.workers.items })
    (record (kept i) { boards = boards; back = crew.workers.items })) (sym c.take_back.ensures)
    (home-driven (turned_by crew.workers.items)
    (home-back (seen i) (kept i) i.phase c.self.invariant away crew (subst (λ (h : HomeState). IsLent h crew) (sym c.self.view_is) c.requires.crew))))

pub returns : goal.returns
returns c =
    let i = c.self.inside in
    let crew = c.args.crew in
    (λ k. record (seen i) { phase = phase.Unsettled (c.runs_to_end.ensures k); parts = parts_from 0 crew.workers.items; turned = turned_by crew.workers.items })
    ∙ ap (λ (h : HomeState). record h { phase = phase.Unsettled (runs_to_end h.phase); parts = parts_from 0 crew.workers.items; turned = turned_by crew.workers.items }) c.self.view_is
