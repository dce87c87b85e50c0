-- A worker that was paused goes on, and another stays as it is.
use Rattle.amber_worker.proofs.Turns.{keeps-same}
use Rattle.std.proofs.Common.{refl}
use Rattle.amber_worker.specs.WorkerState.{is_armed}
use Rattle.amber_dataflow.proofs.setting.resume_worker.Goals as goal

pub returns-else-is_paused-clause-keeps : goal.returns-else-is_paused-clause-keeps
returns-else-is_paused-clause-keeps c = keeps-same (is_armed c.args.worker.now) c.args.worker.now c.args.worker.now refl
