-- What a session leaves, told of the folder and of the sink.
use Rattle.std.proofs.Common.{map, string_bytes, rules}
use Rattle.amber_session.specs.Running.{RunsSession, Surroundings}
use Rattle.amber_session.proofs.Complete.{carried-run, complete-run}
use Rattle.amber_session.proofs.run.run_session.Goals as goal

pub returns : goal.returns
returns g c =
    let words = map string_bytes c.args.words.now in
    let before : Surroundings = record {
      world = record {
        files = g.F.Folder.files c.args.folder.now;
        got = g.O.Sink.written c.args.out.now;
        loads = g.F.Folder.load_faults c.args.folder.now;
        writes = g.F.Folder.write_faults c.args.folder.now;
        puts = g.O.Sink.faults c.args.out.now;
      };
      supply = record { left = g.S.Source.left c.args.source.now; faults = g.S.Source.faults c.args.source.now };
    } in
    let done : Surroundings = record {
      world = record {
        files = g.F.Folder.files c.run_outside.new.outside.folder.now;
        got = g.O.Sink.written c.run_outside.new.outside.out.now;
        loads = g.F.Folder.load_faults c.run_outside.new.outside.folder.now;
        writes = g.F.Folder.write_faults c.run_outside.new.outside.folder.now;
        puts = g.O.Sink.faults c.run_outside.new.outside.out.now;
      };
      supply = record { left = g.S.Source.left c.run_outside.new.source; faults = g.S.Source.faults c.run_outside.new.source };
    } in
    let ran : RunsSession words c.run_outside.result before done = rw (c.new-outside.ensures.folder, c.new-outside.ensures.out) at c.run_outside.ensures.runs in
    let runs = carried-run words c.run_outside.result before done _ ran (search rules) in
    record { runs = runs; complete = complete-run words c.run_outside.result before _ runs }
