-- The last line is answered, and what came of the end is told.
use Rattle.std.proofs.Common.{◌∙◌, true, refl, ap, rules}
use Rattle.std.specs.Result.{result_err}
use Rattle.amber_io.specs.World.{World}
use Rattle.amber_session.specs.Sessions.{Call, FinishesOn, Talking}
use Rattle.amber_session.specs.Told.{told_as}
use Rattle.amber_session.proofs.Calls.{finished-or-not, finishes-told}
use Rattle.amber_session.proofs.session.Session.finish.Goals as goal

pub returns-clause-finishes : goal.returns-clause-finishes
returns-clause-finishes g c =
    let inside = c.self.inside in
    let d = c.finish.new.self in
    let before : World = record {
      files = g.F.Folder.files c.new-outside.result.folder.now;
      got = g.O.Sink.written c.new-outside.result.out.now;
      loads = g.F.Folder.load_faults c.new-outside.result.folder.now;
      writes = g.F.Folder.write_faults c.new-outside.result.folder.now;
      puts = g.O.Sink.faults c.new-outside.result.out.now;
    } in
    let start : World = record {
      files = g.F.Folder.files c.args.folder.now;
      got = g.O.Sink.written c.args.out.now;
      loads = g.F.Folder.load_faults c.args.folder.now;
      writes = g.F.Folder.write_faults c.args.folder.now;
      puts = g.O.Sink.faults c.args.out.now;
    } in
    let now : World = record {
      files = g.F.Folder.files c.finish.new.outside.folder.now;
      got = g.O.Sink.written c.finish.new.outside.out.now;
      loads = g.F.Folder.load_faults c.finish.new.outside.folder.now;
      writes = g.F.Folder.write_faults c.finish.new.outside.folder.now;
      puts = g.O.Sink.faults c.finish.new.outside.out.now;
    } in
    let old : Talking = record {
      run = inside.dialogue.debugger;
      name = inside.dialogue.log_name;
      fed = inside.dialogue.input.bytes.items;
      refused = inside.refused;
      finished = inside.finished;
    } in
    let new : Talking = record {
      run = d.debugger;
      name = d.log_name;
      fed = d.input.bytes.items;
      refused = c.err-self-inside.result;
      finished = true;
    } in
    let call : Call = record { old = c.args.self.now; new = new; before = start; after = now } in
    let done : FinishesOn (told_as c.finish.result) (record call { old = old; before = before }) =
    finished-or-not c.finish.result (record call { old = old; before = before }) (c.err-self-inside.ensures.value ∙ ap result_err c.told-result.ensures) c.finish.ensures.finishes c.finish.ensures.legal c.finish.ensures.counted in
    finishes-told call c.told-result.result c.finish.result old before _ c.self.view_is c.in_default.is (rw (c.new-outside.ensures.folder, c.new-outside.ensures.out) refl) (search rules)
    c.told-result.ensures done
