-- The home stands for the same log.
use Rattle.std.proofs.Common.{◌≡◌, ℕ, ◌<◌, List, ap, subst, sym, ◌∙◌, set}
use Rattle.amber_rows.specs.Topology.{crew_of}
use Rattle.amber_rows.specs.declared.flow.Operator.{Operator}
use Rattle.amber_dataflow.specs.Dataflow.{DataflowState}
use Rattle.amber_home.specs.HomeState.{HomeState}
use Rattle.amber_home.specs.Kept.{IsHome}
use Rattle.amber_home.specs.Parts.{open_parts, open_turned}
use Rattle.amber_home.proofs.Inside.{kept, seen}
use Rattle.amber_home.proofs.Replaced.{StandsHere, home-replaced, shown-replaced}
use Rattle.amber_home.proofs.home.Home.replace.Goals as goal

pub invariant_of-self : goal.invariant_of-self
invariant_of-self c =
    let i = c.self.inside in
    let later = record (kept i) { dataflow = c.replace.new.self } in
    subst (λ (f : List Operator). IsHome (record (seen i) { flow = f; parts = open_parts i.phase later; turned = open_turned i.phase later }) later)
    (sym (ap (λ (d : DataflowState). d.flow) c.replace.ensures.only))
    (home-replaced (seen i) (kept i) c.self.invariant (ap (λ (h : HomeState). h.phase) c.self.view_is ∙ c.requires.resting) c.args.worker
    (subst (λ (h : HomeState). c.args.worker < crew_of h.flow) (sym c.self.view_is) c.requires.there) c.args.made c.requires.made_rest c.requires.made_unarmed
    (subst (λ (h : HomeState). StandsHere h c.args.worker c.args.made) (sym c.self.view_is) c.requires.stands)
    c.replace.new.self c.replace.ensures.only c.replace.ensures.stand (open_parts i.phase later) (open_turned i.phase later))

pub returns : goal.returns
returns c =
    let i = c.self.inside in
    let later = record (kept i) { dataflow = c.replace.new.self } in
    let shown = shown-replaced i.phase (ap (λ (h : HomeState). h.phase) c.self.view_is ∙ c.requires.resting) (kept i) later c.args.worker c.args.made c.replace.ensures.only in
    ap (λ (f : List Operator). record (seen i) { flow = f; parts = open_parts i.phase later; turned = open_turned i.phase later }) (ap (λ (d : DataflowState). d.flow) c.replace.ensures.only)
    ∙ ap (λ parts. record (seen i) { parts = parts; turned = open_turned i.phase later }) shown.0
    ∙ ap (λ turned. record (seen i) { turned = turned }) shown.1
    ∙ ap (λ (h : HomeState). record h { turned = set h.turned c.args.worker c.args.made.turned }) c.self.view_is
