-- Two workers of a crew that is split between them are changed each in its part.
use Rattle.std.proofs.Common.{arith}
use Rattle.std.proofs.lemmas.Result.{on_ok_weaker}
use Rattle.amber_dataflow.proofs.Split.{gets, giver, passed-split}
use Rattle.amber_dataflow.proofs.settling.pass_between.Goals as goal

pub split_at_mut-senders-requires : goal.split_at_mut-senders-requires
split_at_mut-senders-requires c =
    let there = c.requires.there in
    omega arith

pub bounds-senders-from : goal.bounds-senders-from
bounds-senders-from c =
    let before = c.requires.before in
    let front = c.split_at_mut-senders.ensures.front_len in
    omega arith

pub bounds-receivers-0 : goal.bounds-receivers-0
bounds-receivers-0 c =
    let there = c.requires.there in
    let back = c.split_at_mut-senders.ensures.back_len in
    omega arith

pub settle_workers-requires-clause-sends : goal.settle_workers-requires-clause-sends
settle_workers-requires-clause-sends c =
    let can = c.requires in
    rw (giver c.args.crew.now c.split_at_mut-senders.result.0.now c.split_at_mut-senders.result.1.now c.args.from c.args.to c.index-senders-from.result c.index-receivers-0.result c.split_at_mut-senders.ensures.front c.split_at_mut-senders.ensures.back can.before can.there, gets c.args.crew.now c.split_at_mut-senders.result.0.now c.split_at_mut-senders.result.1.now c.args.from c.args.to c.index-senders-from.result c.index-receivers-0.result c.split_at_mut-senders.ensures.front c.split_at_mut-senders.ensures.back can.before can.there) can.sends

pub settle_workers-requires-clause-receives : goal.settle_workers-requires-clause-receives
settle_workers-requires-clause-receives c =
    let can = c.requires in
    rw (giver c.args.crew.now c.split_at_mut-senders.result.0.now c.split_at_mut-senders.result.1.now c.args.from c.args.to c.index-senders-from.result c.index-receivers-0.result c.split_at_mut-senders.ensures.front c.split_at_mut-senders.ensures.back can.before can.there, gets c.args.crew.now c.split_at_mut-senders.result.0.now c.split_at_mut-senders.result.1.now c.args.from c.args.to c.index-senders-from.result c.index-receivers-0.result c.split_at_mut-senders.ensures.front c.split_at_mut-senders.ensures.back can.before can.there) can.receives

pub settle_workers-requires-clause-joined : goal.settle_workers-requires-clause-joined
settle_workers-requires-clause-joined c =
    let can = c.requires in
    rw (giver c.args.crew.now c.split_at_mut-senders.result.0.now c.split_at_mut-senders.result.1.now c.args.from c.args.to c.index-senders-from.result c.index-receivers-0.result c.split_at_mut-senders.ensures.front c.split_at_mut-senders.ensures.back can.before can.there, gets c.args.crew.now c.split_at_mut-senders.result.0.now c.split_at_mut-senders.result.1.now c.args.from c.args.to c.index-senders-from.result c.index-receivers-0.result c.split_at_mut-senders.ensures.front c.split_at_mut-senders.ensures.back can.before can.there) can.joined

pub returns : goal.returns
returns c =
    let can = c.requires in
    let done = c.settle_workers.ensures in
    on_ok_weaker c.settle_workers.result
    (λ settled.
    passed-split c.args.crew.now c.split_at_mut-senders.result.0.now c.split_at_mut-senders.result.1.now c.args.from c.args.to c.index-senders-from.result c.index-receivers-0.result
    c.split_at_mut-senders.ensures.front c.split_at_mut-senders.ensures.back can.before can.there c.settle_workers.new.from c.settle_workers.new.to
    done.passes settled done.from_stays done.to_stays done.from_ends done.to_ends)
    done.settled
