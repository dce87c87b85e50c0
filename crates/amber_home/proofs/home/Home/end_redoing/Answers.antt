-- The workers are settled again, or the leg may not be closed.
use Rattle.std.proofs.Common.{◌≡◌, refl, sym, ap, subst, ◌∙◌, List, [], length, map, ◌≤◌, ◌^◌}
use Rattle.amber_log.specs.declared.leg.Close.{Close}
use Rattle.amber_worker.specs.WorkerState.{WorkerState}
use Rattle.amber_dataflow.specs.AtWork.{steps_by, turned_by}
use Rattle.amber_dataflow.specs.Dataflow.{AreBack, AreCrewOf, leg_parts}
use Rattle.amber_dataflow.specs.Parts.{parts_from}
use Rattle.amber_dataflow.specs.Redoing.{emptied}
use Rattle.amber_dataflow.proofs.Kept.{written-back}
use Rattle.amber_home.specs.HomeState.{HomeState, runs_to_end, spent_at}
use Rattle.amber_home.specs.Kept.{IsHome}
use Rattle.amber_home.specs.Redoing.{IsJudged}
use Rattle.amber_home.specs.declared.phase.Counts.TheVariants.{Disarmed}
use Rattle.amber_home.specs.declared.phase.Phase.TheVariants as phase
use Rattle.amber_home.proofs.Driven.{home-driven}
use Rattle.amber_home.proofs.Homes.{home-of}
use Rattle.amber_home.proofs.Inside.{kept, seen}
use Rattle.amber_home.proofs.RedoneCalls.{judge-before, parts-are, re, spent-seen, to_end-seen, turned-are}
use Rattle.amber_home.proofs.RedoneEnds.{crew-emptied, few-emptied, full-unsettled, judged-redone, leg-ended, over-unsettled, parts-ended, turned-ended, unsettled-refused}
use Rattle.amber_home.proofs.home.Home.end_redoing.Goals as goal

pub returns-then-not-empty-clause-ok : goal.returns-then-not-empty-clause-ok
returns-then-not-empty-clause-ok c =
    let i = c.self.inside in
    let old = c.args.self.now in
    let brought = c.self.view_is ∙ c.bring_out-empty.ensures in
    let to_end = runs_to_end old.phase in
    let redoing = re i c.self.invariant c.args.self.now c.bring_out-empty.result (c.self.view_is ∙ c.bring_out-empty.ensures) c.requires.within in
    (spent-seen i c.self.invariant c.args.self.now c.bring_out-empty.result (c.self.view_is ∙ c.bring_out-empty.ensures) c.requires.within, λ closed. judge-before i c.self.invariant c.args.self.now c.bring_out-empty.result (c.self.view_is ∙ c.bring_out-empty.ensures) c.requires.within closed ∙ unsettled-refused (seen i) (kept i) to_end c.bring_out-empty.result redoing c.self.invariant.legal c.self.invariant.few (full-unsettled (seen i) (kept i) to_end c.bring_out-empty.result redoing c.self.invariant.legal c.self.invariant.few c.if-not-empty.true) closed)

pub take_back-requires-clause-joined : goal.take_back-requires-clause-joined
take_back-requires-clause-joined c =
    let i = c.self.inside in
    let old = c.args.self.now in
    let brought = c.self.view_is ∙ c.bring_out-empty.ensures in
    let to_end = runs_to_end old.phase in
    let redoing = re i c.self.invariant c.args.self.now c.bring_out-empty.result (c.self.view_is ∙ c.bring_out-empty.ensures) c.requires.within in
    let new = c.empty_hands.new.crew in
    let slice : c.as_mut_slice.result.now ≡ i.back.items = c.as_mut_slice.ensures.value in
    let written = written-back i.back.items new i.back.len (c.empty_hands.auto.crew ∙ ap length slice) i.back.ok.0 in
    let items : c.replace-workers.result.items ≡ map emptied i.back.items = ap (λ v. v.items) c.replace-workers.ensures.value ∙ written ∙ c.in_ok-empty_hands.ensures ∙ ap (map emptied) slice in
    subst (λ (crew : List WorkerState). AreCrewOf i.dataflow.flow crew) (sym items) (crew-emptied (seen i) (kept i) to_end c.bring_out-empty.result redoing c.self.invariant.legal c.self.invariant.few c.if-not-empty.false refl)

pub take_back-requires-clause-few : goal.take_back-requires-clause-few
take_back-requires-clause-few c =
    let i = c.self.inside in
    let old = c.args.self.now in
    let brought = c.self.view_is ∙ c.bring_out-empty.ensures in
    let to_end = runs_to_end old.phase in
    let redoing = re i c.self.invariant c.args.self.now c.bring_out-empty.result (c.self.view_is ∙ c.bring_out-empty.ensures) c.requires.within in
    let new = c.empty_hands.new.crew in
    let slice : c.as_mut_slice.result.now ≡ i.back.items = c.as_mut_slice.ensures.value in
    let written = written-back i.back.items new i.back.len (c.empty_hands.auto.crew ∙ ap length slice) i.back.ok.0 in
    let items : c.replace-workers.result.items ≡ map emptied i.back.items = ap (λ v. v.items) c.replace-workers.ensures.value ∙ written ∙ c.in_ok-empty_hands.ensures ∙ ap (map emptied) slice in
    subst (λ (crew : List WorkerState). steps_by crew ≤ 2 ^ 40) (sym items) (few-emptied (seen i) (kept i) to_end c.bring_out-empty.result redoing c.self.invariant.legal c.self.invariant.few c.if-not-empty.false refl)

pub returns-then-not-are_within-clause-ok : goal.returns-then-not-are_within-clause-ok
returns-then-not-are_within-clause-ok c =
    let i = c.self.inside in
    let old = c.args.self.now in
    let brought = c.self.view_is ∙ c.bring_out-empty.ensures in
    let to_end = runs_to_end old.phase in
    let redoing = re i c.self.invariant c.args.self.now c.bring_out-empty.result (c.self.view_is ∙ c.bring_out-empty.ensures) c.requires.within in
    let new = c.empty_hands.new.crew in
    let slice : c.as_mut_slice.result.now ≡ i.back.items = c.as_mut_slice.ensures.value in
    let written = written-back i.back.items new i.back.len (c.empty_hands.auto.crew ∙ ap length slice) i.back.ok.0 in
    let items : c.replace-workers.result.items ≡ map emptied i.back.items = ap (λ v. v.items) c.replace-workers.ensures.value ∙ written ∙ c.in_ok-empty_hands.ensures ∙ ap (map emptied) slice in
    let after = c.take_back.new.self in
    let came = subst (λ (crew : List WorkerState). AreBack crew after) items c.in_ok-take_back.ensures.back in
    let rest = c.replace-workers.new.dest.items in
    let over = c.are_within.ensures.some c.if-not-are_within.true in (
      (λ k. record (spent_at (seen i)) { flow = c.take_back.ensures.flow k }) ∙ spent-seen i c.self.invariant c.args.self.now c.bring_out-empty.result (c.self.view_is ∙ c.bring_out-empty.ensures) c.requires.within,
      λ closed. judge-before i c.self.invariant c.args.self.now c.bring_out-empty.result (c.self.view_is ∙ c.bring_out-empty.ensures) c.requires.within closed
          ∙ unsettled-refused (seen i) (kept i) to_end c.bring_out-empty.result redoing c.self.invariant.legal c.self.invariant.few (over-unsettled (seen i) (kept i) to_end c.bring_out-empty.result redoing c.self.invariant.legal c.self.invariant.few c.if-not-empty.false refl after came c.take_back.ensures.flow over.0 over.1) closed,
    )

pub invariant_of-self-2 : goal.invariant_of-self-2
invariant_of-self-2 c =
    let i = c.self.inside in
    let old = c.args.self.now in
    let brought = c.self.view_is ∙ c.bring_out-empty.ensures in
    let to_end = runs_to_end old.phase in
    let redoing = re i c.self.invariant c.args.self.now c.bring_out-empty.result (c.self.view_is ∙ c.bring_out-empty.ensures) c.requires.within in
    let new = c.empty_hands.new.crew in
    let slice : c.as_mut_slice.result.now ≡ i.back.items = c.as_mut_slice.ensures.value in
    let written = written-back i.back.items new i.back.len (c.empty_hands.auto.crew ∙ ap length slice) i.back.ok.0 in
    let items : c.replace-workers.result.items ≡ map emptied i.back.items = ap (λ v. v.items) c.replace-workers.ensures.value ∙ written ∙ c.in_ok-empty_hands.ensures ∙ ap (map emptied) slice in
    let after = c.take_back.new.self in
    let came = subst (λ (crew : List WorkerState). AreBack crew after) items c.in_ok-take_back.ensures.back in
    let rest = c.replace-workers.new.dest.items in
    let none = c.are_within.ensures.none c.if-not-are_within.false in
    let later = record (kept i) { dataflow = after; back = rest } in
    subst (λ b. IsHome (record (seen i) { flow = after.flow; phase = phase.Open b Disarmed; parts = leg_parts after; turned = turned_by after.workers }) later)
    (sym (c.runs_to_end-to_end.ensures ∙ to_end-seen i c.self.invariant c.args.self.now c.bring_out-empty.result (c.self.view_is ∙ c.bring_out-empty.ensures) c.requires.within))
    (home-driven (turned_by after.workers)
    (home-of (seen i) later to_end Disarmed after.flow c.take_back.ensures.flow (leg-ended (seen i) (kept i) to_end c.bring_out-empty.result redoing c.self.invariant.legal c.self.invariant.few c.if-not-empty.false refl after came c.take_back.ensures.flow none rest c.self.invariant.headed)))

pub returns-clause-ok : goal.returns-clause-ok
returns-clause-ok c =
    let i = c.self.inside in
    let old = c.args.self.now in
    let brought = c.self.view_is ∙ c.bring_out-empty.ensures in
    let to_end = runs_to_end old.phase in
    let redoing = re i c.self.invariant c.args.self.now c.bring_out-empty.result (c.self.view_is ∙ c.bring_out-empty.ensures) c.requires.within in
    let new = c.empty_hands.new.crew in
    let slice : c.as_mut_slice.result.now ≡ i.back.items = c.as_mut_slice.ensures.value in
    let written = written-back i.back.items new i.back.len (c.empty_hands.auto.crew ∙ ap length slice) i.back.ok.0 in
    let items : c.replace-workers.result.items ≡ map emptied i.back.items = ap (λ v. v.items) c.replace-workers.ensures.value ∙ written ∙ c.in_ok-empty_hands.ensures ∙ ap (map emptied) slice in
    let after = c.take_back.new.self in
    let came = subst (λ (crew : List WorkerState). AreBack crew after) items c.in_ok-take_back.ensures.back in
    let rest = c.replace-workers.new.dest.items in
    let none = c.are_within.ensures.none c.if-not-are_within.false in
    let ends = c.runs_to_end-to_end.ensures ∙ to_end-seen i c.self.invariant c.args.self.now c.bring_out-empty.result (c.self.view_is ∙ c.bring_out-empty.ensures) c.requires.within in
    let parts = parts-ended (seen i) (kept i) to_end c.bring_out-empty.result redoing c.self.invariant.legal c.self.invariant.few c.if-not-empty.false refl after came c.take_back.ensures.flow ∙ sym (parts-are i c.self.invariant c.args.self.now c.bring_out-empty.result (c.self.view_is ∙ c.bring_out-empty.ensures) c.requires.within) in
    let driven = turned-ended (seen i) (kept i) to_end c.bring_out-empty.result redoing c.self.invariant.legal c.self.invariant.few c.if-not-empty.false refl after came c.take_back.ensures.flow ∙ sym (turned-are i c.self.invariant c.args.self.now c.bring_out-empty.result (c.self.view_is ∙ c.bring_out-empty.ensures) c.requires.within) in
    let whole =
    (λ k. record (seen i) { flow = c.take_back.ensures.flow k; phase = phase.Open (ends k) Disarmed; parts = parts k; turned = driven k })
    ∙ ap (λ (h : HomeState). record h { phase = phase.Open to_end Disarmed; parts = old.parts; turned = old.turned }) brought in
    let before =
    (λ k. record (seen i) { phase = phase.Open to_end Disarmed; parts = sym (parts-are i c.self.invariant c.args.self.now c.bring_out-empty.result (c.self.view_is ∙ c.bring_out-empty.ensures) c.requires.within) k })
    ∙ ap (λ (h : HomeState). record h { phase = phase.Open to_end Disarmed; parts = old.parts }) brought in (
      whole,
      λ closed. subst (λ (h : HomeState). IsJudged h closed) (before ∙ sym whole)
          (judged-redone (seen i) (kept i) to_end c.bring_out-empty.result redoing c.self.invariant.legal c.self.invariant.few c.if-not-empty.false refl after came c.take_back.ensures.flow none rest c.self.invariant.headed closed),
    )
