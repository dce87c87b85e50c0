-- The workers are at work where a run starts.
use Rattle.std.proofs.Common.{refl}
use Rattle.amber_dataflow.specs.Dataflow.{journal_of, seat_of}
use Rattle.amber_dataflow.proofs.Kept.{kept-new}
use Rattle.amber_dataflow.proofs.dataflow.Dataflow.new.Goals as goal

pub invariant_of-result : goal.invariant_of-result
invariant_of-result g c = kept-new c.args.flow c.args.files.now c.args.batch_size c.in_ok-workers.workers.items c.in_ok-workers.ensures.start

pub returns-clause-start : goal.returns-clause-start
returns-clause-start g c most = record { flow = refl; work = c.in_ok-workers.ensures.start most }

pub returns-clause-journals : goal.returns-clause-journals
unfolding journal_of
returns-clause-journals g c = c.in_ok-workers.ensures.journals

pub returns-clause-unarmed : goal.returns-clause-unarmed
unfolding seat_of
returns-clause-unarmed g c = c.in_ok-workers.ensures.unarmed
