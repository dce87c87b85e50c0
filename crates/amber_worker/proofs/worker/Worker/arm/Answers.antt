-- A seat comes.
use Rattle.std.proofs.Common.{rules, true, sym, subst}
use Rattle.amber_worker.specs.AtPosition.{KeepsUnder}
use Rattle.amber_worker.proofs.Dealt.{Keeps-armed_at}
use Rattle.amber_worker.proofs.worker.Worker.arm.Goals as goal

pub returns-clause-only : goal.returns-clause-only
returns-clause-only c = search rules

pub returns-clause-keeps : goal.returns-clause-keeps
returns-clause-keeps c =
    subst (KeepsUnder true c.args.self.now) (sym (returns-clause-only c))
    (Keeps-armed_at c.args.seat c.args.self.now (search rules) c.requires.unfinished (search rules))
