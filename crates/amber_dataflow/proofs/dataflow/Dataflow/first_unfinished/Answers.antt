-- The first that has not finished is there.
use Rattle.std.proofs.Common.{sym, ap, subst, ◌∙◌, length, arith}
use Rattle.std.specs.List.{list_all}
use Rattle.amber_worker.specs.WorkerState.{WorkerState}
use Rattle.amber_dataflow.specs.Dataflow.{AreAllThere, DataflowState, IsFirst, have_all_finished}
use Rattle.amber_dataflow.proofs.Kept.{few-workers, first-there}
use Rattle.amber_dataflow.proofs.dataflow.Dataflow.first_unfinished.Goals as goal

pub first_unfinished-requires : goal.first_unfinished-requires
unfolding have_all_finished
first_unfinished-requires c = record {
  unfinished =
      ap (λ crew. list_all (λ (w : WorkerState). w.finished) crew) c.as_slice.ensures.value
      ∙ ap (λ (e : DataflowState). list_all (λ (w : WorkerState). w.finished) e.workers) c.self.view_is ∙ c.requires.unfinished;
}

pub overflow_cast-result : goal.overflow_cast-result
overflow_cast-result c =
    let i = c.self.inside in
    let d : DataflowState = record { flow = i.flow; workers = i.workers.items } in
    let there : AreAllThere d = subst AreAllThere (sym c.self.view_is) c.requires.workers in
    let few = few-workers d there c.self.invariant in
    let less = c.first_unfinished.ensures.there in
    let same = ap length c.as_slice.ensures.value in
    omega arith

pub returns : goal.returns
returns c =
    let i = c.self.inside in
    let d : DataflowState = record { flow = i.flow; workers = i.workers.items } in
    let there : AreAllThere d = subst AreAllThere (sym c.self.view_is) c.requires.workers in
    let f = c.first_unfinished.ensures in
    subst (λ e. IsFirst e c.first_unfinished.result) c.self.view_is
    (first-there d c.self.invariant c.as_slice.result.now c.first_unfinished.result c.as_slice.ensures.value there f.there f.first f.unfinished)
