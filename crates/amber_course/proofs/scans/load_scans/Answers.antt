-- The files, and then both as one.
use Rattle.std.proofs.Common.{◌≡◌, ℕ, List, Ok, Err, rules}
use Rattle.amber_course.specs.Course.{loaded_for, scans_of}
use Rattle.amber_course.specs.Loaded.{Loaded}
use Rattle.amber_course.proofs.Following.{follows-failure, follows-last}
use Rattle.amber_course.proofs.scans.load_scans.Goals as goal

pub returns-in_err-files-clause-course : goal.returns-in_err-files-clause-course
unfolding loaded_for
returns-in_err-files-clause-course g c =
    let e : c.from_residual.result ≡ Err c.in_err-files.field-0.0 = search rules in
    let loaded : List (List ℕ) → Loaded = λ files. record { flow = c.args.flow; files = files } in
    rw e (follows-failure c.in_err-files.field-0.0 (scans_of c.args.flow) (λ files scans. Ok (loaded scans))
    (g.W.Outside.world c.args.outside.now) (g.W.Outside.world c.load_files.new.outside) c.in_err-files.ensures.course)

pub returns-clause-course : goal.returns-clause-course
unfolding loaded_for
returns-clause-course g c =
    let loaded : List (List ℕ) → Loaded = λ files. record { flow = c.args.flow; files = files } in
    rw c.new.ensures (follows-last c.in_ok-files.files (scans_of c.args.flow) loaded (g.W.Outside.world c.args.outside.now) (g.W.Outside.world c.load_files.new.outside) c.in_ok-files.ensures.course)
