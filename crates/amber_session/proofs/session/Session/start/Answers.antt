-- A session is begun.
use Rattle.std.proofs.Common.{map, string_bytes, None, false, Ok, refl, rules}
use Rattle.amber_io.specs.World.{World}
use Rattle.amber_session.specs.Sessions.{Talking}
use Rattle.amber_session.proofs.Calls.{carried-start, new-call}
use Rattle.amber_session.proofs.session.Session.start.Goals as goal

pub returns-in-Ok : goal.returns-in-Ok
returns-in-Ok g c =
    let words = map string_bytes c.args.words.now in
    let d = c.in-Ok.dialogue in
    let t : Talking = record { run = d.debugger; name = d.log_name; fed = d.input.bytes.items; refused = None; finished = false } in
    let from : World = record {
      files = g.F.Folder.files c.new-outside.result.folder.now;
      got = None;
      loads = g.F.Folder.load_faults c.new-outside.result.folder.now;
      writes = g.F.Folder.write_faults c.new-outside.result.folder.now;
      puts = 0;
    } in
    let now : World = record {
      files = g.F.Folder.files c.start.new.outside.folder.now;
      got = None;
      loads = g.F.Folder.load_faults c.start.new.outside.folder.now;
      writes = g.F.Folder.write_faults c.start.new.outside.folder.now;
      puts = 0;
    } in
    record {
      starts = carried-start (Ok t) words from _ now _ (rw c.new-outside.ensures.folder refl) (search rules)
          (new-call words d t from now c.in-Ok.ensures.started c.in-Ok.ensures.going c.in-Ok.ensures.there c.in-Ok.ensures.counted refl refl refl refl refl);
    }
