-- Each kind of turn.
use Rattle.std.proofs.Common.{◌≡◌, Result, Ok, Err}
use Rattle.std.specs.Result.{OnErr}
use Rattle.amber_worker.specs.AtPosition.{IsLookedAt}
use Rattle.amber_worker.specs.WorkerState.{WorkerState}
use Rattle.amber_worker.proofs.Turns.{looked-none}
use Rattle.amber_worker.proofs.worker.Worker.make_turn.Goals as goal

same-looked : {T E : Type 0} (r : Result T E) (old new : WorkerState) → OnErr r (new ≡ old) → OnErr r (IsLookedAt old new)
same-looked (Ok x) old new h = tt
same-looked (Err e) old new h = looked-none old new h

pub returns-then-stands_still-clause-err : goal.returns-then-stands_still-clause-err
returns-then-stands_still-clause-err c = same-looked c.stand.result c.args.self.now c.stand.new.self c.stand.ensures.err

pub returns-then-must_hold-clause-err : goal.returns-then-must_hold-clause-err
returns-then-must_hold-clause-err c = same-looked c.hold.result c.args.self.now c.hold.new.self c.hold.ensures.err

pub returns-then-has_pending-clause-err : goal.returns-then-has_pending-clause-err
returns-then-has_pending-clause-err c = same-looked c.emit_row.result c.args.self.now c.emit_row.new.self c.emit_row.ensures.err

pub returns-then-has_rest-clause-err : goal.returns-then-has_rest-clause-err
returns-then-has_rest-clause-err c = same-looked c.take_row.result c.args.self.now c.take_row.new.self c.take_row.ensures.err
