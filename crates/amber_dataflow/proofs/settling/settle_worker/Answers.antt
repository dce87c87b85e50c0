-- What the worker has made goes on, and then what was made for it.
use Rattle.amber_dataflow.proofs.Going.{on_ok_all, on_ok_both}
use Rattle.amber_dataflow.proofs.Passed.{joined-put, settled-both}
use Rattle.amber_dataflow.proofs.settling.settle_worker.Goals as goal

pub settle_inputs-requires-clause-crew : goal.settle_inputs-requires-clause-crew
settle_inputs-requires-clause-crew c = joined-put c.args.crew.now c.settle_outputs.new.crew c.requires.crew c.in_ok-settle_outputs.ensures.put

pub returns : goal.returns
returns c =
    let o = c.in_ok-settle_outputs.ensures in
    let i = c.settle_inputs.ensures in
    on_ok_both c.settle_inputs.result (λ settled aside. settled aside)
    (on_ok_all c.settle_inputs.result
    (settled-both c.args.crew.now c.settle_outputs.new.crew c.settle_inputs.new.crew c.args.number c.requires.crew c.requires.there o.put o.settled o.others o.aside)
    i.put i.settled i.others)
    i.aside
