-- The last item, if there is one.
use Rattle.std.proofs.Common.{◌≡◌, sym, ◌∙◌}
use Rattle.amber_run.proofs.GoingOn.{ends-long-last, ends-long-none}
use Rattle.amber_run.proofs.recover_job.ends_long.Goals as goal

pub returns-in-Some : goal.returns-in-Some
returns-in-Some c =
    c.is_long.ensures ∙ sym (ends-long-last c.args.log.now.items c.in-Some.item.now (rw c.get.ensures at c.in-Some.ensures.value))

pub returns-in-None : goal.returns-in-None
returns-in-None c = sym (ends-long-none c.args.log.now.items (rw c.get.ensures at c.in-None.ensures.value))
