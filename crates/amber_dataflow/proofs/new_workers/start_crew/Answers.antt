-- The workers are at work where a run starts.
use Rattle.std.proofs.Common.{refl}
use Rattle.std.proofs.lemmas.Result.{IfOk-weaker}
use Rattle.amber_dataflow.proofs.Begun.{at-work, no-journals, no-seats}
use Rattle.amber_dataflow.proofs.new_workers.start_crew.Goals as goal

pub returns-clause-start : goal.returns-clause-start
returns-clause-start g c =
    IfOk-weaker c.make_crew.result _ _
    (λ crew made. at-work c.args.flow.now c.args.files.now _ crew.items refl c.get-operators.ensures.flow c.in_ok-shares.ensures c.in_ok-outs.ensures made)
    c.make_crew.ensures

pub returns-clause-journals : goal.returns-clause-journals
returns-clause-journals g c =
    IfOk-weaker c.make_crew.result _ _
    (λ crew made. no-journals c.args.flow.now c.args.files.now _ crew.items refl c.get-operators.ensures.flow c.in_ok-shares.ensures c.in_ok-outs.ensures made)
    c.make_crew.ensures

pub returns-clause-unarmed : goal.returns-clause-unarmed
returns-clause-unarmed g c =
    IfOk-weaker c.make_crew.result _ _
    (λ crew made. no-seats c.args.flow.now c.args.files.now _ crew.items refl c.get-operators.ensures.flow c.in_ok-shares.ensures c.in_ok-outs.ensures made)
    c.make_crew.ensures
