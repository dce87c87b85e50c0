-- The leg is closed, or may not be.
use Rattle.std.proofs.Common.{subst}
use Rattle.amber_home.specs.Redoing.{EndsRedoing, TellsClose}
use Rattle.amber_home.proofs.RedoneCloses.{closed-mid, refused-mid, spent-mid}
use Rattle.amber_home.proofs.home.Home.close_redone.Goals as goal

pub returns-in_ok-close_leg-in-Ok-true-clause-ok : goal.returns-in_ok-close_leg-in-Ok-true-clause-ok
returns-in_ok-close_leg-in-Ok-true-clause-ok c =
    let mid = c.end_redoing.new.self in
    let ends = subst (EndsRedoing c.args.self.now mid) c.if-not-branch.false c.in_ok-end_redoing.ensures.ok in
    let closed = c.in_ok-close_leg-in-Ok-true.ensures in
    closed-mid c.args.self.now mid c.requires.within ends.0 c.args.close (ends.1 c.args.close) c.close_leg.new.self closed.ok closed.so

pub returns-in-Ok-false-clause-ok : goal.returns-in-Ok-false-clause-ok
returns-in-Ok-false-clause-ok c =
    let mid = c.end_redoing.new.self in
    let ends = subst (EndsRedoing c.args.self.now mid) c.if-not-branch.false c.in_ok-end_redoing.ensures.ok in
    refused-mid c.args.self.now mid c.requires.within ends.0 c.args.close (ends.1 c.args.close) c.give_up.new.self c.give_up.ensures
    (subst (TellsClose mid c.args.close) c.in-Ok-false.field-0-test c.in-Ok-false.ensures)
