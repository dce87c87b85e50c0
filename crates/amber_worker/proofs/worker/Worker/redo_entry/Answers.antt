-- Each entry by its own call.
use Rattle.std.proofs.Common.{false}
use Rattle.amber_log.specs.declared.entry.Entry.TheVariants as entry
use Rattle.amber_worker.proofs.LinesRows.{last-entry}
use Rattle.amber_worker.proofs.Told.{same-looked}
use Rattle.amber_worker.proofs.worker.Worker.redo_entry.Goals as goal

pub redo_grant-requires : goal.redo_grant-requires
redo_grant-requires c = let one = last-entry false c.args.self.now.journal (entry.Grant c.in-Grant.n) (rw c.in-Grant.is at c.requires.follows) in record { some = one.0 }

pub redo_back-requires : goal.redo_back-requires
redo_back-requires c = let one = last-entry false c.args.self.now.journal (entry.Back c.in-Back.n) (rw c.in-Back.is at c.requires.follows) in record { some = one.0 }

pub returns-in-Go-clause-err : goal.returns-in-Go-clause-err
returns-in-Go-clause-err c = same-looked c.redo_go.result c.args.self.now c.redo_go.new.self c.redo_go.ensures.err

pub returns-in-Grant-clause-err : goal.returns-in-Grant-clause-err
returns-in-Grant-clause-err c = same-looked c.redo_grant.result c.args.self.now c.redo_grant.new.self c.redo_grant.ensures.err

pub returns-in-Back-clause-err : goal.returns-in-Back-clause-err
returns-in-Back-clause-err c = same-looked c.redo_back.result c.args.self.now c.redo_back.new.self c.redo_back.ensures.err

pub returns-in-Pause-clause-err : goal.returns-in-Pause-clause-err
returns-in-Pause-clause-err c = same-looked c.redo_pause.result c.args.self.now c.redo_pause.new.self c.redo_pause.ensures.err

pub returns-in-Resume-clause-err : goal.returns-in-Resume-clause-err
returns-in-Resume-clause-err c = same-looked c.redo_resume.result c.args.self.now c.redo_resume.new.self c.redo_resume.ensures.err

pub returns-in-Hold-clause-err : goal.returns-in-Hold-clause-err
returns-in-Hold-clause-err c = same-looked c.redo_hold.result c.args.self.now c.redo_hold.new.self c.redo_hold.ensures.err

pub returns-in-Finish-clause-err : goal.returns-in-Finish-clause-err
returns-in-Finish-clause-err c = same-looked c.redo_finish.result c.args.self.now c.redo_finish.new.self c.redo_finish.ensures.err
