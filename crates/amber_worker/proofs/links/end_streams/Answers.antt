-- Room alone was made.
use Rattle.std.proofs.Common.{◌≡◌, ◌<◌, ◌^◌, false, map, subst}
use Rattle.amber_link.specs.Sides.{AreEnded, without_room}
use Rattle.amber_link.specs.declared.downstreams.Downstream.{Downstream}
use Rattle.amber_worker.proofs.Roomless.{still-all}
use Rattle.std.proofs.lemmas.Result.{IfOk-from_err}
use Rattle.amber_worker.proofs.Unchanged.{err_so}
use Rattle.amber_worker.proofs.links.end_streams.Goals as goal

pub end_all-requires-clause-few : goal.end_all-requires-clause-few
end_all-requires-clause-few c = still-all (λ (one : Downstream). one.link.kept.made < 2 ^ 40) c.args.outs.now c.reserve_ends.new.outs c.reserve_ends.ensures.same c.requires.few

pub end_all-requires-clause-open : goal.end_all-requires-clause-open
end_all-requires-clause-open c = still-all (λ (one : Downstream). one.link.kept.ended ≡ false) c.args.outs.now c.reserve_ends.new.outs c.reserve_ends.ensures.same c.requires.«open»

pub returns-in_err-reserve_ends-clause-err : goal.returns-in_err-reserve_ends-clause-err
returns-in_err-reserve_ends-clause-err c = err_so c.from_residual.result _ c.reserve_ends.ensures.same

pub returns-in_err-reserve_ends-clause-ends : goal.returns-in_err-reserve_ends-clause-ends
returns-in_err-reserve_ends-clause-ends c = IfOk-from_err _ _ c.from_residual.ensures.0

pub returns-in_err-reserve_ends-clause-ended : goal.returns-in_err-reserve_ends-clause-ended
returns-in_err-reserve_ends-clause-ended c = IfOk-from_err _ _ c.from_residual.ensures.0

pub returns-clause-ends : goal.returns-clause-ends
returns-clause-ends c = subst (λ l. AreEnded l (map without_room c.end_all.new.outs)) c.reserve_ends.ensures.same c.end_all.ensures.ends

pub returns-clause-ended : goal.returns-clause-ended
returns-clause-ended c = c.end_all.ensures.ended
