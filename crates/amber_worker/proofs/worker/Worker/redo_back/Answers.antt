-- The hand is given back, where it is the whole.
use Rattle.std.proofs.Common.{sym, ◌∙◌, subst}
use Rattle.amber_log.specs.declared.entry.Entry.TheVariants as entry
use Rattle.amber_worker.specs.Redoing.{HasRedone, log_line}
use Rattle.amber_worker.proofs.LinesNoted.{back-cannot, back-done}
use Rattle.amber_worker.proofs.worker.Worker.redo_back.Goals as goal

pub returns-then-hand_of-from-clause-ok : goal.returns-then-hand_of-from-clause-ok
returns-then-hand_of-from-clause-ok c = back-cannot c.args.self.now c.args.n c.args.armed (λ whole. c.if-hand_of-from.true (c.hand_of.ensures ∙ whole ∙ sym c.from.ensures))

pub returns-clause-ok : goal.returns-clause-ok
returns-clause-ok c =
    subst (HasRedone (log_line (entry.Back c.args.n) c.args.armed) c.args.self.now) (sym c.in_ok-note.ensures.ok)
    (back-done c.args.self.now c.args.n c.args.armed c.requires.some c.ranges.n.fits (sym c.hand_of.ensures ∙ c.if-hand_of-from.false ∙ c.from.ensures))
