-- What was done, and what is told of it.
use Rattle.amber_session.proofs.Complete.{concluded}
use Rattle.amber_session.proofs.run.run_outside.Goals as goal

pub returns-clause-runs : goal.returns-clause-runs
returns-clause-runs g c =
    let done = c.do_session-done.ensures in
    concluded _ c.do_session-done.result c.conclude.result _ _ _ (record { ran = done.ran; words_read = done.words; named = done.named; reads = done.reads; counted = done.counted })
    c.conclude.ensures.concludes
