-- The line is done, where it may come.
use Rattle.std.proofs.Common.{sym, ◌∙◌}
use Rattle.amber_worker.proofs.LinesRows.{rows-redone, rows-still}
use Rattle.amber_worker.proofs.worker.Worker.redo_go.Goals as goal

pub returns-then-stands_still-clause-ok : goal.returns-then-stands_still-clause-ok
returns-then-stands_still-clause-ok c = rows-still c.args.rows c.args.outs c.args.armed c.args.self.now (sym c.stands_still.ensures.still ∙ c.if-stands_still.true)

pub returns-clause-ok : goal.returns-clause-ok
returns-clause-ok c =
    rows-redone c.args.rows c.args.outs c.args.armed c.args.self.now (c.stands_still.ensures.free c.if-stands_still.false) c.requires.follows c.redo_line.new.self c.redo_line.result c.redo_line.ensures.ok
