-- What the call did, and the error line after it.
use Rattle.std.proofs.Common.{map, string_bytes, Ok, Err, rules}
use Rattle.amber_io.specs.World.{World}
use Rattle.amber_course.specs.declared.status.Status.TheVariants as status
use Rattle.amber_run.proofs.Answers.{HasRun, answered-done, answered-refused, carried}
use Rattle.amber_run.proofs.call.amber.Goals as goal

pub returns-in-Ok : goal.returns-in-Ok
returns-in-Ok g c =
    let words = map string_bytes c.args.words.now in
    let before : World = record {
      files = g.F.Folder.files c.new-outside.result.folder.now;
      got = g.O.Sink.written c.new-outside.result.out.now;
      loads = g.F.Folder.load_faults c.new-outside.result.folder.now;
      writes = g.F.Folder.write_faults c.new-outside.result.folder.now;
      puts = g.O.Sink.faults c.new-outside.result.out.now;
    } in
    let done : World = record {
      files = g.F.Folder.files c.do_call.new.outside.folder.now;
      got = g.O.Sink.written c.do_call.new.outside.out.now;
      loads = g.F.Folder.load_faults c.do_call.new.outside.folder.now;
      writes = g.F.Folder.write_faults c.do_call.new.outside.folder.now;
      puts = g.O.Sink.faults c.do_call.new.outside.out.now;
    } in
    let has : HasRun (Ok c.in-Ok.rows) words before done = record { ran = c.in-Ok.ensures.ran; counted = c.in-Ok.ensures.counted; words = c.in-Ok.ensures.words; idle = c.in-Ok.ensures.idle } in
    carried words status.Ok _ done _ (rw (c.new-outside.ensures.folder, c.new-outside.ensures.out) at (answered-done c.in-Ok.rows words before done has)) (search rules)

pub returns : goal.returns
returns g c =
    let words = map string_bytes c.args.words.now in
    let s = c.in-Err.failure in
    let before : World = record {
      files = g.F.Folder.files c.new-outside.result.folder.now;
      got = g.O.Sink.written c.new-outside.result.out.now;
      loads = g.F.Folder.load_faults c.new-outside.result.folder.now;
      writes = g.F.Folder.write_faults c.new-outside.result.folder.now;
      puts = g.O.Sink.faults c.new-outside.result.out.now;
    } in
    let mid : World = record {
      files = g.F.Folder.files c.do_call.new.outside.folder.now;
      got = g.O.Sink.written c.do_call.new.outside.out.now;
      loads = g.F.Folder.load_faults c.do_call.new.outside.folder.now;
      writes = g.F.Folder.write_faults c.do_call.new.outside.folder.now;
      puts = g.O.Sink.faults c.do_call.new.outside.out.now;
    } in
    let done : World = record {
      files = g.F.Folder.files c.refuse.new.outside.folder.now;
      got = g.O.Sink.written c.refuse.new.outside.out.now;
      loads = g.F.Folder.load_faults c.refuse.new.outside.folder.now;
      writes = g.F.Folder.write_faults c.refuse.new.outside.folder.now;
      puts = g.O.Sink.faults c.refuse.new.outside.out.now;
    } in
    let has : HasRun {A = Unit {0}} (Err s) words before mid = record { ran = c.in-Err.ensures.ran; counted = c.in-Err.ensures.counted; words = c.in-Err.ensures.words; idle = c.in-Err.ensures.idle } in
    let refused = answered-refused s words c.refuse.result before mid done has c.in-Err.ensures.named c.refuse.ensures.refuses c.refuse.ensures.only c.refuse.ensures.told in
    carried words c.refuse.result _ done _ (rw (c.new-outside.ensures.folder, c.new-outside.ensures.out) at refused) (search rules)
