-- The workers are brought out.
use Rattle.std.proofs.Common.{◌≡◌, sym, ap, subst, ◌∙◌, true}
use Rattle.amber_dataflow.specs.AtWork.{turned_by}
use Rattle.amber_dataflow.specs.Dataflow.{DataflowState}
use Rattle.amber_dataflow.specs.Parts.{parts_from}
use Rattle.amber_home.specs.HomeState.{HomeState, runs_to_end}
use Rattle.amber_home.specs.Kept.{IsHome}
use Rattle.amber_home.specs.Redoing.{may_redo}
use Rattle.amber_home.specs.declared.phase.Phase.TheVariants as phase
use Rattle.amber_home.proofs.Driven.{turned-open}
use Rattle.amber_home.proofs.Inside.{kept, seen}
use Rattle.amber_home.proofs.LentOut.{parts-lent}
use Rattle.amber_home.proofs.RedoneHomes.{begins-open, home-begins, home-redoing}
use Rattle.amber_home.proofs.home.Home.bring_out.Goals as goal

pub invariant_of-self : goal.invariant_of-self
invariant_of-self c =
    let i = c.self.inside in
    let may : may_redo i.phase ≡ true = ap (λ (h : HomeState). may_redo h.phase) c.self.view_is ∙ c.requires.within in
    let begun = begins-open i.phase may (λ redoing. c.in_default.not-Redoing redoing.0 redoing.1 redoing.2) in
    let back = c.lend_to.new.others.items in
    let live = record (kept i) { dataflow = c.lend_to.new.self; back = back } in
    subst (λ to_end. IsHome (record (seen i) { flow = c.lend_to.new.self.flow; phase = phase.Redoing to_end true; parts = parts_from 0 back; turned = turned_by back }) live)
    (sym c.runs_to_end.ensures)
    (home-redoing (seen i) live (runs_to_end i.phase) true c.lend_to.new.self.flow (turned_by back) (ap (λ (d : DataflowState). d.flow) c.lend_to.ensures.none)
    c.self.invariant.few c.self.invariant.headed c.self.invariant.legal
    (home-begins (seen i) (kept i) i.phase c.self.invariant begun.0 begun.1 c.lend_to.new.self back c.lend_to.ensures.workers))

pub returns : goal.returns
returns c =
    let i = c.self.inside in
    let may : may_redo i.phase ≡ true = ap (λ (h : HomeState). may_redo h.phase) c.self.view_is ∙ c.requires.within in
    let begun = begins-open i.phase may (λ redoing. c.in_default.not-Redoing redoing.0 redoing.1 redoing.2) in
    let flow = ap (λ (d : DataflowState). d.flow) c.lend_to.ensures.none in
    let parts = ap (parts_from 0) c.lend_to.ensures.workers ∙ sym (parts-lent (seen i) (kept i) i.phase begun.0) in
    let driven = ap turned_by c.lend_to.ensures.workers ∙ sym (turned-open (kept i) i.phase begun.0) in
    (λ k. record (seen i) { flow = flow k; phase = phase.Redoing (c.runs_to_end.ensures k) true; parts = parts k; turned = driven k })
    ∙ ap (λ (h : HomeState). record h { phase = phase.Redoing (runs_to_end h.phase) true }) c.self.view_is
