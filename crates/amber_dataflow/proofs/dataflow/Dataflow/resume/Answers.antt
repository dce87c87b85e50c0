-- Who was paused goes on, or none is left.
use Rattle.std.proofs.Common.{◌≡◌, ℕ, ap, subst, sym, ◌∙◌, length, map, take, drop, ◌++◌, false}
use Rattle.std.proofs.lemmas.List.{length-map}
use Rattle.amber_dataflow.specs.AtWork.{KeepsPosition, worker_state_at}
use Rattle.amber_dataflow.specs.Dataflow.{AreInArmedLeg, DataflowState, IsDataflow, StandAgain, is_held, worker_resumed}
use Rattle.amber_dataflow.proofs.Kept.{loose-lent, none-left, written-back}
use Rattle.amber_dataflow.proofs.Resumed.{kept-resumed, stand-resumed}
use Rattle.amber_dataflow.proofs.dataflow.Dataflow.resume.Goals as goal

pub resume_all-requires : goal.resume_all-requires
resume_all-requires c =
    loose-lent (record { flow = c.self.inside.flow; workers = c.self.inside.workers.items }) c.as_mut_slice.result.now c.as_mut_slice.ensures.value
    (subst (λ (d : DataflowState). (worker : ℕ) → is_held d worker ≡ false) (sym c.self.view_is) c.requires.loose)

pub invariant_of-self : goal.invariant_of-self
invariant_of-self c =
    let i = c.self.inside in
    let crew = i.workers.items in
    let done = c.in-Ok.ensures in
    let handed : c.resume_all.new.crew ≡ map worker_resumed crew = done.resumed ∙ ap (map worker_resumed) c.as_mut_slice.ensures.value in
    let back = written-back crew c.resume_all.new.crew i.workers.len (ap length handed ∙ length-map crew worker_resumed) i.workers.ok.0 ∙ handed in
    let keeps : (worker : ℕ) → KeepsPosition (worker_state_at crew worker) (worker_state_at (map worker_resumed crew) worker) =
    λ worker. subst (λ old. KeepsPosition (worker_state_at old worker) (worker_state_at (map worker_resumed crew) worker)) c.as_mut_slice.ensures.value
    (subst (λ new. KeepsPosition (worker_state_at c.as_mut_slice.result.now worker) (worker_state_at new worker)) handed (done.keeps worker)) in
    subst (λ workers. IsDataflow (record { flow = i.flow; workers = workers })) (sym back) (kept-resumed (record { flow = i.flow; workers = crew }) c.self.invariant (subst AreInArmedLeg (sym c.self.view_is) c.requires.armed) keeps)

pub returns-in-Ok-clause-stand : goal.returns-in-Ok-clause-stand
returns-in-Ok-clause-stand c =
    let i = c.self.inside in
    let crew = i.workers.items in
    let done = c.in-Ok.ensures in
    let handed : c.resume_all.new.crew ≡ map worker_resumed crew = done.resumed ∙ ap (map worker_resumed) c.as_mut_slice.ensures.value in
    let back = written-back crew c.resume_all.new.crew i.workers.len (ap length handed ∙ length-map crew worker_resumed) i.workers.ok.0 ∙ handed in
    let keeps : (worker : ℕ) → KeepsPosition (worker_state_at crew worker) (worker_state_at (map worker_resumed crew) worker) =
    λ worker. subst (λ old. KeepsPosition (worker_state_at old worker) (worker_state_at (map worker_resumed crew) worker)) c.as_mut_slice.ensures.value
    (subst (λ new. KeepsPosition (worker_state_at c.as_mut_slice.result.now worker) (worker_state_at new worker)) handed (done.keeps worker)) in
    subst (λ (d : DataflowState). StandAgain d (record { flow = i.flow; workers = take i.workers.len (c.resume_all.new.crew ++ drop (length c.resume_all.new.crew) crew) })) c.self.view_is
    (subst (λ workers. StandAgain (record { flow = i.flow; workers = crew }) (record { flow = i.flow; workers = workers })) (sym back) (stand-resumed (record { flow = i.flow; workers = crew }) keeps))

pub invariant_of-self-in-Err : goal.invariant_of-self-in-Err
invariant_of-self-in-Err c =
    let i = c.self.inside in
    none-left (record { flow = i.flow; workers = i.workers.items }) c.self.invariant c.clear.new.self.items c.clear.ensures.items
