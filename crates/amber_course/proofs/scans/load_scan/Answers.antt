-- The load, and then the header.
use Rattle.std.proofs.Common.{◌≡◌, Err, rules}
use Rattle.amber_course.specs.Course.{require_header, load_of, scan_file}
use Rattle.amber_course.proofs.Following.{follows-judged, follows-on, follows-failure}
use Rattle.amber_course.proofs.scans.load_scan.Goals as goal

pub returns-in_err-bytes-clause-course : goal.returns-in_err-bytes-clause-course
unfolding scan_file
returns-in_err-bytes-clause-course g c =
    let e : c.from_residual.result ≡ Err c.in_err-bytes.field-0.0 = search rules in
    rw e (follows-failure c.in_err-bytes.field-0.0 (load_of c.args.most c.args.name.now) (λ files. require_header c.args.op c.args.columns.now)
    (g.W.Outside.world c.args.outside.now) (g.W.Outside.world c.load.new.outside) c.in_err-bytes.ensures.course)

pub returns-clause-course : goal.returns-clause-course
unfolding scan_file
returns-clause-course g c =
    let after = g.W.Outside.world c.load.new.outside in
    follows-on c.with_header.result c.in_ok-bytes.bytes (load_of c.args.most c.args.name.now) (λ files. require_header c.args.op c.args.columns.now)
    (g.W.Outside.world c.args.outside.now) after after c.in_ok-bytes.ensures.course
    (follows-judged c.with_header.result (require_header c.args.op c.args.columns.now c.in_ok-bytes.bytes) after c.with_header.ensures)
