-- A step of the walk, and its ends.
use Rattle.std.proofs.Common.{◌≡◌, ◌<◌, ◌≤◌, length, get_or, [], false, refl, Err, arith, rules, ◌∙◌}
use Rattle.amber_rows.specs.Kinds.{is_scan}
use Rattle.amber_course.specs.Course.{most_scanned, scans_of}
use Rattle.amber_course.proofs.Following.{told-all}
use Rattle.amber_course.proofs.Scanning.{IsWalked, inputs-end, inputs-none, inputs-scan, inputs-skip, not-scan, scan-end, scan-names, scan-next, scan-skip, scan-failure, walk-none, walked-all}
use Rattle.amber_course.proofs.scans.load_files.Goals as goal
use Rattle.amber_course.proofs.scans.load_files.Goals.{in-Scan+in_ok-bytes+in_ok-new+in_ok-push, in_default}

pub load_scan-requires : goal.load_scan-requires
load_scan-requires g c = omega (arith, c.loop-i.invariant.few)

pub loop-i-init : goal.loop-i-init
loop-i-init g c = record {
  course = rw c.new-files.ensures.items (told-all (g.W.Outside.world c.args.outside.now).files (IsWalked c.args.flow.now 0 most_scanned []) (walk-none c.args.flow.now));
  inputs = rw c.new-files.ensures.items (inputs-none c.args.flow.now);
  few = omega arith;
  same = refl;
  held = refl;
}

pub loop-i-preserved : goal.loop-i-preserved
loop-i-preserved g c =
    let flow = c.args.flow.now in
    let i = c.loop-i.i in
    let o = c.index-operators-i.result in
    let sofar = c.loop-i.invariant in
    let h : i < length flow = rw c.get-operators.ensures.operators at c.loop-i-test.true in
    let is : o ≡ get_or flow i o = rw c.get-operators.ensures.operators at c.index-operators-i.is in
    elim c.match-operator.branch [
      | in-Scan+in_ok-bytes+in_ok-new+in_ok-push w ↦
          let load = rw (w.get.ensures, sofar.same) at w.in_ok-bytes.ensures.course.1 in
          record {
            course = rw (w.files-is, w.in_ok-push.ensures.items, w.in_ok-new.ensures, w.left-is, w.len.ensures) (scan-next flow i c.loop-i.left o w.in-Scan.file w.in_ok-bytes.bytes c.loop-i.files.items
                (g.W.Outside.world c.args.outside.now).files h is w.in-Scan.is load sofar.course);
            inputs = rw (w.files-is, w.in_ok-push.ensures.items, w.in_ok-new.ensures) (inputs-scan flow i o w.in-Scan.file w.in_ok-bytes.bytes c.loop-i.files.items h is w.in-Scan.is w.in_ok-bytes.ensures.headed sofar.inputs);
            few = rw w.left-is (omega (arith, sofar.few));
            same = rw w.outside-is (w.in_ok-bytes.ensures.course.0 ∙ sofar.same);
            held = rw w.outside-is (w.load_scan.ensures.held ∙ sofar.held);
          }
      | in_default w ↦
          let other : is_scan o.what ≡ false = not-scan o.what w.in_default.not-Scan in
          record {
            course = rw (w.files-is, w.left-is) (scan-skip flow i c.loop-i.left o c.loop-i.files.items (g.W.Outside.world c.args.outside.now).files h is other sofar.course);
            inputs = rw w.files-is (inputs-skip flow i o c.loop-i.files.items h is other sofar.inputs);
            few = rw w.left-is sofar.few;
            same = rw w.outside-is sofar.same;
            held = rw w.outside-is sofar.held;
          }
    ]

pub returns-in_err-bytes-clause-course : goal.returns-in_err-bytes-clause-course
returns-in_err-bytes-clause-course g c =
    let flow = c.args.flow.now in
    let o = c.index-operators-i.result in
    let h : c.loop-i.i < length flow = rw c.get-operators.ensures.operators at c.loop-i-test.true in
    let is : o ≡ get_or flow c.loop-i.i o = rw c.get-operators.ensures.operators at c.index-operators-i.is in
    let e : c.from_residual.result ≡ Err c.in_err-bytes.field-0.0 = search rules in
    let load = rw (c.get.ensures, c.loop-i.invariant.same) at c.in_err-bytes.ensures.course in
    rw e (scan-failure flow c.loop-i.i c.loop-i.left o c.in-Scan.file c.loop-i.files.items (scans_of flow) c.in_err-bytes.field-0.0
    (g.W.Outside.world c.args.outside.now) (g.W.Outside.world c.load_scan.new.outside)
    h is c.in-Scan.is (walked-all flow c.loop-i.i c.loop-i.left c.loop-i.files.items (g.W.Outside.world c.args.outside.now).files c.loop-i.invariant.course) load)

pub returns-in_err-bytes-clause-only : goal.returns-in_err-bytes-clause-only
returns-in_err-bytes-clause-only g c = rw c.loop-i.invariant.same at c.load_scan.ensures.only

pub returns-in_err-bytes-clause-held : goal.returns-in_err-bytes-clause-held
returns-in_err-bytes-clause-held g c = c.load_scan.ensures.held ∙ c.loop-i.invariant.held

pub returns-in_err-bytes-clause-named : goal.returns-in_err-bytes-clause-named
returns-in_err-bytes-clause-named g c =
    let flow = c.args.flow.now in
    let o = c.index-operators-i.result in
    let h : c.loop-i.i < length flow = rw c.get-operators.ensures.operators at c.loop-i-test.true in
    let is : o ≡ get_or flow c.loop-i.i o = rw c.get-operators.ensures.operators at c.index-operators-i.is in
    let e : c.from_residual.result ≡ Err c.in_err-bytes.field-0.0 = search rules in
    rw e (scan-names c.in_err-bytes.field-0.0 flow c.loop-i.i c.loop-i.left o c.in-Scan.file c.loop-i.files.items (g.W.Outside.world c.args.outside.now).files
    h is c.in-Scan.is c.loop-i.invariant.course (rw c.get.ensures at c.in_err-bytes.ensures.named))

pub returns-clause-course : goal.returns-clause-course
returns-clause-course g c =
    let h : length c.args.flow.now ≤ c.loop-i.i = rw c.get-operators.ensures.operators at c.loop-i-test.false in (
      c.loop-i.invariant.same,
      rw c.new-2.ensures (scan-end c.args.flow.now c.loop-i.i c.loop-i.left c.loop-i.files.items (scans_of c.args.flow.now) (g.W.Outside.world c.args.outside.now).files h
          (walked-all c.args.flow.now c.loop-i.i c.loop-i.left c.loop-i.files.items (g.W.Outside.world c.args.outside.now).files c.loop-i.invariant.course)),
    )

pub returns-clause-inputs : goal.returns-clause-inputs
returns-clause-inputs g c =
    let h : length c.args.flow.now ≤ c.loop-i.i = rw c.get-operators.ensures.operators at c.loop-i-test.false in
    rw c.new-2.ensures (inputs-end c.args.flow.now c.loop-i.i c.loop-i.files.items c.get-operators.ensures.flow h c.loop-i.invariant.inputs)
