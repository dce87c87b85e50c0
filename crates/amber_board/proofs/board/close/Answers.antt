use Rattle.std.proofs.Common.{sum, ap, arith}
use Rattle.amber_board.proofs.Ends.{closes}
use Rattle.amber_board.proofs.board.close.Goals as goal

pub overflow_sub-result : goal.overflow_sub-result
overflow_sub-result c =
    let last = c.close_with.ensures.values.2.1 in
    let kept = closes _ _ _ _ _ last.0 last.1 c.take_all-counted.ensures.chief.1 in
    omega (arith, kept.0)

pub returns-clause-total : goal.returns-clause-total
returns-clause-total c =
    let last = c.close_with.ensures.values.2.1 in
    let kept = closes _ _ _ _ _ last.0 last.1 c.take_all-counted.ensures.chief.1 in
    omega (arith, kept.0)

pub returns-clause-hit : goal.returns-clause-hit
returns-clause-hit c hit =
    let last = c.close_with.ensures.values.2.1 in
    let kept = closes _ _ _ _ _ last.0 last.1 c.take_all-counted.ensures.chief.1 in
    let seen = ap sum c.take_all-counted.ensures.same.2 in
    let all = kept.1 (omega arith) (omega arith) in
    (omega arith, omega arith)
