-- No scan so far reads the log.
use Rattle.std.proofs.Common.{◌≡◌, ◌+◌, drop}
use Rattle.amber_course.specs.Course.{log_scan}
use Rattle.amber_course.proofs.log_name.log_scan.Given as goal

abbrev pub invariant-loop-i : goal.invariant-loop-i
invariant-loop-i l = log_scan 1 l.log l.flow ≡ log_scan (l.i + 1) l.log (drop l.i l.flow)
