-- One worker more is not paused.
use Rattle.std.proofs.Common.{◌∙◌, ap, inl, inr, sym, subst, ◌≤◌, arith}
use Rattle.std.proofs.lemmas.Bool.{cases_lt}
use Rattle.amber_rows.specs.Topology.{crew_of}
use Rattle.amber_dataflow.specs.Dataflow.{is_paused}
use Rattle.amber_home.proofs.Free.{past-running}
use Rattle.amber_home.proofs.stopping.any_paused.Goals as goal

pub workers-preserved : goal.workers-preserved
workers-preserved c k below =
    elim (cases_lt k c.workers.worker) [
      | inl earlier ↦ c.workers.invariant k earlier
      | inr here ↦ ap (is_paused c.args.dataflow.now) (omega arith) ∙ sym c.is_paused.ensures ∙ c.if-is_paused.false
    ]

pub returns-clause-none : goal.returns-clause-none
returns-clause-none c none k =
    let d = c.args.dataflow.now in
    let past : crew_of d.flow ≤ c.workers.worker = subst (λ n. n ≤ c.workers.worker) (c.workers-worker-end.ensures ∙ ap crew_of c.flow.ensures) c.workers-test.false in
    elim (cases_lt k c.workers.worker) [
      | inl below ↦ c.workers.invariant k below
      | inr beyond ↦ past-running d c.requires.workers k (omega arith)
    ]
