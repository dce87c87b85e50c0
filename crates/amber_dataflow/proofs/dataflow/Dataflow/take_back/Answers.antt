-- The workers are here again, or none is left.
use Rattle.std.proofs.Common.{◌≡◌, ap, subst, sym, ◌∙◌, List, length}
use Rattle.amber_worker.specs.WorkerState.{WorkerState}
use Rattle.amber_dataflow.specs.AtWork.{StayPut}
use Rattle.amber_dataflow.specs.Passing.{AreAllSettled, AreSameBesides}
use Rattle.amber_dataflow.specs.Dataflow.{AreBack, AreCrewOf, DataflowState, IsDataflow}
use Rattle.amber_dataflow.proofs.AllSettled.{came-back, kept-came}
use Rattle.amber_dataflow.proofs.Kept.{none-left, written-back}
use Rattle.amber_dataflow.proofs.dataflow.Dataflow.take_back.Goals as goal

pub invariant_of-self : goal.invariant_of-self
invariant_of-self c =
    let i = c.self.inside in
    none-left (record { flow = i.flow; workers = i.workers.items }) c.self.invariant c.clear.new.self.items c.clear.ensures.items

pub invariant_of-self-2 : goal.invariant_of-self-2
invariant_of-self-2 c =
    let i = c.self.inside in
    let crew = c.args.workers.items in
    let now = c.settle_all.new.crew in
    let done = c.in_ok-settle_all.ensures in
    let lent = c.as_mut_slice.ensures.value in
    let long : length now ≡ length crew = c.settle_all.auto.crew ∙ ap length lent in
    let are : AreCrewOf i.flow crew = subst (λ (d : DataflowState). AreCrewOf d.flow crew) (sym c.self.view_is) c.requires.joined in
    subst (λ workers. IsDataflow (record { flow = i.flow; workers = workers })) (sym (written-back crew now c.args.workers.len long c.args.workers.ok.0))
    (kept-came i.flow crew now are long (subst (λ old. StayPut old now) lent done.put) (subst (λ (old : List WorkerState). AreAllSettled (length old) now) lent done.settled)
    (subst (λ old. AreSameBesides old now) lent done.aside) c.self.invariant.flow c.requires.few)

pub returns-clause-back : goal.returns-clause-back
returns-clause-back c =
    let i = c.self.inside in
    let crew = c.args.workers.items in
    let now = c.settle_all.new.crew in
    let done = c.in_ok-settle_all.ensures in
    let lent = c.as_mut_slice.ensures.value in
    let long : length now ≡ length crew = c.settle_all.auto.crew ∙ ap length lent in
    let are : AreCrewOf i.flow crew = subst (λ (d : DataflowState). AreCrewOf d.flow crew) (sym c.self.view_is) c.requires.joined in
    subst (λ workers. AreBack crew (record { flow = i.flow; workers = workers })) (sym (written-back crew now c.args.workers.len long c.args.workers.ok.0))
    (came-back i.flow crew now are long (subst (λ old. StayPut old now) lent done.put) (subst (λ (old : List WorkerState). AreAllSettled (length old) now) lent done.settled)
    (subst (λ old. AreSameBesides old now) lent done.aside))
