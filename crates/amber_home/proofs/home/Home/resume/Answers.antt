-- Whoever was paused goes on, and the home stays one.
use Rattle.std.proofs.Common.{refl, sym, ap, subst, ◌∙◌}
use Rattle.amber_dataflow.specs.AtWork.{turned_by}
use Rattle.amber_dataflow.specs.Dataflow.{DataflowState}
use Rattle.amber_home.specs.HomeState.{AreArmed, HomeState, NoneIsHeld, ResumesLeg}
use Rattle.amber_home.specs.Parts.{open_parts, open_turned}
use Rattle.amber_home.proofs.Driven.{home-driven, resumed-turned, turned-stays}
use Rattle.amber_home.proofs.Homes.{open-there}
use Rattle.amber_home.proofs.Inside.{kept, opens, seen}
use Rattle.amber_home.proofs.PauseOver.{armed-home, home-resumed, loose-home, resumes-home}
use Rattle.amber_home.proofs.home.Home.resume.Goals as goal

pub resume-requires-clause-loose : goal.resume-requires-clause-loose
resume-requires-clause-loose c =
    let i = c.self.inside in
    let within = opens i c.self.invariant c.args.self.now c.self.view_is c.requires.within in
    loose-home (seen i) (kept i) i.phase c.self.invariant (open-there i.phase within) refl (subst NoneIsHeld (sym c.self.view_is) c.requires.loose)

pub resume-requires-clause-armed : goal.resume-requires-clause-armed
resume-requires-clause-armed c =
    let i = c.self.inside in
    let within = opens i c.self.invariant c.args.self.now c.self.view_is c.requires.within in
    armed-home (seen i) (kept i) i.phase c.self.invariant within (subst AreArmed (sym c.self.view_is) c.requires.armed)

pub invariant_of-self-2 : goal.invariant_of-self-2
invariant_of-self-2 c =
    let i = c.self.inside in
    let within = opens i c.self.invariant c.args.self.now c.self.view_is c.requires.within in
    home-driven (open_turned i.phase (record (kept i) { dataflow = c.resume.new.self }))
    (home-resumed (seen i) (kept i) i.phase c.self.invariant within refl (subst AreArmed (sym c.self.view_is) c.requires.armed)
    c.resume.new.self c.in_ok-resume.ensures.ok c.in_ok-resume.ensures.stand)

pub returns-clause-ok : goal.returns-clause-ok
returns-clause-ok c =
    let i = c.self.inside in
    let within = opens i c.self.invariant c.args.self.now c.self.view_is c.requires.within in
    let later = record (kept i) { dataflow = c.resume.new.self } in
    let driven = turned-stays i.phase within (kept i) later (ap (λ (d : DataflowState). turned_by d.workers) c.in_ok-resume.ensures.ok ∙ resumed-turned i.dataflow) in
    subst (λ (h : HomeState). ResumesLeg h (record (seen i) { flow = c.resume.new.self.flow; parts = open_parts i.phase later; turned = open_turned i.phase later })) c.self.view_is
    (subst (λ turned. ResumesLeg (seen i) (record (seen i) { flow = c.resume.new.self.flow; parts = open_parts i.phase later; turned = turned })) (sym driven)
    (resumes-home (seen i) (kept i) i.phase c.self.invariant within refl (subst AreArmed (sym c.self.view_is) c.requires.armed)
    c.resume.new.self c.in_ok-resume.ensures.ok c.in_ok-resume.ensures.stand))
