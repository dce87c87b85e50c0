-- A piece is fed to the dialogue, and what came of it is told.
use Rattle.std.proofs.Common.{◌≤◌, ◌++◌, ◌∙◌, length, refl, ap, arith, rules}
use Rattle.std.proofs.lemmas.Grind.{common_steps}
use Rattle.std.specs.Result.{result_err}
use Rattle.amber_io.specs.World.{World}
use Rattle.amber_session.specs.Dialogue.{most_input}
use Rattle.amber_session.specs.Sessions.{Call, FeedsOn, Talking}
use Rattle.amber_session.specs.Told.{told_as}
use Rattle.amber_session.proofs.Calls.{fed-or-stopped, feeds-told}
use Rattle.amber_session.proofs.session.Session.feed.Goals as goal

pub returns-clause-feeds : goal.returns-clause-feeds
returns-clause-feeds g c =
    let inside = c.self.inside in
    let d = c.feed.new.self in
    let before : World = record {
      files = g.F.Folder.files c.new-outside.result.folder.now;
      got = g.O.Sink.written c.new-outside.result.out.now;
      loads = g.F.Folder.load_faults c.new-outside.result.folder.now;
      writes = g.F.Folder.write_faults c.new-outside.result.folder.now;
      puts = g.O.Sink.faults c.new-outside.result.out.now;
    } in
    let start : World = record {
      files = g.F.Folder.files c.args.folder.now;
      got = g.O.Sink.written c.args.out.now;
      loads = g.F.Folder.load_faults c.args.folder.now;
      writes = g.F.Folder.write_faults c.args.folder.now;
      puts = g.O.Sink.faults c.args.out.now;
    } in
    let now : World = record {
      files = g.F.Folder.files c.feed.new.outside.folder.now;
      got = g.O.Sink.written c.feed.new.outside.out.now;
      loads = g.F.Folder.load_faults c.feed.new.outside.folder.now;
      writes = g.F.Folder.write_faults c.feed.new.outside.folder.now;
      puts = g.O.Sink.faults c.feed.new.outside.out.now;
    } in
    let old : Talking = record {
      run = inside.dialogue.debugger;
      name = inside.dialogue.log_name;
      fed = inside.dialogue.input.bytes.items;
      refused = inside.refused;
      finished = inside.finished;
    } in
    let new : Talking = record {
      run = d.debugger;
      name = d.log_name;
      fed = d.input.bytes.items;
      refused = c.err-self-inside.result;
      finished = inside.finished;
    } in
    let call : Call = record { old = c.args.self.now; new = new; before = start; after = now } in
    let few : length (inside.dialogue.input.bytes.items ++ c.args.piece.now) ≤ most_input = grind (arith, common_steps) in
    let fed : FeedsOn (told_as c.feed.result) (record call { old = old; before = before }) c.args.piece.now =
    fed-or-stopped c.feed.result (record call { old = old; before = before }) d c.args.piece.now c.feed.ensures.going refl refl c.feed.ensures.fed
    (c.err-self-inside.ensures.value ∙ ap result_err c.told-result.ensures) few c.feed.ensures.feeds c.feed.ensures.legal c.feed.ensures.counted in
    feeds-told call c.args.piece.now c.told-result.result c.feed.result old before _ c.self.view_is c.in_default.is (rw (c.new-outside.ensures.folder, c.new-outside.ensures.out) refl) (search rules)
    c.told-result.ensures fed
