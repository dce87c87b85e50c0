-- Units are claimed, where they may be.
use Rattle.std.proofs.Common.{sym, ◌∙◌, subst}
use Rattle.amber_log.specs.declared.entry.Entry.TheVariants as entry
use Rattle.amber_worker.specs.Redoing.{HasRedone, log_line}
use Rattle.amber_worker.proofs.LinesNoted.{grant-cannot, grant-done}
use Rattle.amber_worker.proofs.worker.Worker.redo_grant.Goals as goal

pub returns-then-not-claims_again-clause-ok : goal.returns-then-not-claims_again-clause-ok
returns-then-not-claims_again-clause-ok c = grant-cannot c.args.self.now c.args.n c.args.armed (sym c.claims_again.ensures ∙ c.if-not-claims_again.true)

pub returns-clause-ok : goal.returns-clause-ok
returns-clause-ok c =
    subst (HasRedone (log_line (entry.Grant c.args.n) c.args.armed) c.args.self.now) (sym c.in_ok-note.ensures.ok)
    (grant-done c.args.self.now c.args.n c.args.armed c.requires.some c.ranges.n.fits (sym c.claims_again.ensures ∙ c.if-not-claims_again.false))
