-- From each operator to the next.
use Rattle.std.proofs.Common.{◌≡◌, ◌<◌, ◌≤◌, length, get_or, true, false, sym, rules}
use Rattle.amber_course.specs.Course.{is_scan_of}
use Rattle.amber_course.proofs.LogScans.{log-end, log-here, log-more}
use Rattle.amber_course.proofs.log_name.log_scan.Goals as goal

pub returns-then-is_scan_of : goal.returns-then-is_scan_of
returns-then-is_scan_of c =
    let flow = c.args.flow.now in
    let i = c.loop-i.i in
    let o = c.index-operators-i.result in
    let h : i < length flow = rw c.get-operators.ensures.operators at c.loop-i-test.true in
    let is : o ≡ get_or flow i o = rw c.get-operators.ensures.operators at c.index-operators-i.is in
    let same : is_scan_of c.args.log.now o.what ≡ true = search rules in
    sym (log-here c.args.log.now flow i o h is same c.loop-i.invariant)

pub loop-i-preserved : goal.loop-i-preserved
loop-i-preserved c =
    let flow = c.args.flow.now in
    let i = c.loop-i.i in
    let o = c.index-operators-i.result in
    let h : i < length flow = rw c.get-operators.ensures.operators at c.loop-i-test.true in
    let is : o ≡ get_or flow i o = rw c.get-operators.ensures.operators at c.index-operators-i.is in
    let other : is_scan_of c.args.log.now o.what ≡ false = search rules in
    log-more c.args.log.now flow i o h is other c.loop-i.invariant

pub returns : goal.returns
returns c =
    let h : length c.args.flow.now ≤ c.loop-i.i = rw c.get-operators.ensures.operators at c.loop-i-test.false in
    sym (log-end c.args.log.now c.args.flow.now c.loop-i.i h c.loop-i.invariant)
