-- Each row that is pushed makes one batch at most.
use Rattle.std.proofs.Common.{arith}
use Rattle.amber_worker_tests.proofs.both_ends.push_three.Goals as goal

pub push_at-requires-2-clause-few : goal.push_at-requires-2-clause-few
push_at-requires-2-clause-few c k d less = let h = c.push_at.ensures.few 0 c.make_room.ensures.few k d less in omega (arith, h)

pub push_at-requires-3-clause-few : goal.push_at-requires-3-clause-few
push_at-requires-3-clause-few c k d less =
    let h = c.push_at-2.ensures.few 1 (c.push_at.ensures.few 0 c.make_room.ensures.few) k d less in omega (arith, h)
