-- The worker stands where the log says.
use Rattle.std.proofs.Common.{◌≡◌, ◌<◌, ap, subst, sym, ◌∙◌}
use Rattle.amber_rows.specs.Topology.{crew_of}
use Rattle.amber_worker.specs.WorkerState.{WorkerState}
use Rattle.amber_home.specs.HomeState.{HomeState, has_crew}
use Rattle.amber_home.specs.declared.phase.Phase.{Phase}
use Rattle.amber_home.specs.declared.phase.Phase.TheVariants as phase
use Rattle.amber_home.proofs.Inside.{all-there, kept, seen}
use Rattle.amber_home.proofs.Replaced.{StandsHere, taken-rest, taken-stands, taken-unarmed}
use Rattle.amber_home.proofs.home.Home.into_worker.Goals as goal

pub into_worker-requires-clause-workers : goal.into_worker-requires-clause-workers
into_worker-requires-clause-workers c =
    all-there c.self.inside c.self.invariant c.args.self c.self.view_is (ap has_crew c.requires.resting)

pub into_worker-requires-clause-there : goal.into_worker-requires-clause-there
into_worker-requires-clause-there c = subst (λ (h : HomeState). c.args.worker < crew_of h.flow) (sym c.self.view_is) c.requires.there

pub returns-clause-rest : goal.returns-clause-rest
returns-clause-rest c =
    let i = c.self.inside in
    let resting = ap (λ (h : HomeState). h.phase) c.self.view_is ∙ c.requires.resting in
    let inside = subst (λ (h : HomeState). c.args.worker < crew_of h.flow) (sym c.self.view_is) c.requires.there in
    ap (λ (w : WorkerState). w.journal) c.into_worker.ensures ∙ taken-rest (seen i) (kept i) c.self.invariant resting c.args.worker inside

pub returns-clause-unarmed : goal.returns-clause-unarmed
returns-clause-unarmed c =
    let i = c.self.inside in
    let resting = ap (λ (h : HomeState). h.phase) c.self.view_is ∙ c.requires.resting in
    let inside = subst (λ (h : HomeState). c.args.worker < crew_of h.flow) (sym c.self.view_is) c.requires.there in
    ap (λ (w : WorkerState). w.seat) c.into_worker.ensures ∙ taken-unarmed (seen i) (kept i) c.self.invariant resting c.args.worker inside

pub returns-clause-stands : goal.returns-clause-stands
returns-clause-stands c =
    let i = c.self.inside in
    let resting = ap (λ (h : HomeState). h.phase) c.self.view_is ∙ c.requires.resting in
    let inside = subst (λ (h : HomeState). c.args.worker < crew_of h.flow) (sym c.self.view_is) c.requires.there in
    subst (λ (h : HomeState). StandsHere h c.args.worker c.into_worker.result) c.self.view_is
    (subst (StandsHere (seen i) c.args.worker) (sym c.into_worker.ensures) (taken-stands (seen i) (kept i) c.self.invariant resting c.args.worker inside))
