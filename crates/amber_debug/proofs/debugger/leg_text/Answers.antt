-- The leg is the log's last item, whose text was written.
use Rattle.std.proofs.Common.{subst}
use Rattle.amber_log.specs.declared.leg.Close.TheVariants as close
use Rattle.amber_debug.specs.AtHome.{IsLastText}
use Rattle.amber_debug.proofs.Homes.{leg-text, runs-long}
use Rattle.amber_debug.proofs.debugger.leg_text.Goals as goal

pub returns-in_ok-last_text-in-Ok-clause-told : goal.returns-in_ok-last_text-in-Ok-clause-told
returns-in_ok-last_text-in-Ok-clause-told g c =
    let last = subst (λ log. IsLastText log c.in_ok-last_text-in-Ok.field-0) c.log.ensures.log c.in_ok-last_text-in-Ok.ensures in
    (c.in-Ok.ensures.ends, leg-text c.args.to_end c.args.home.now c.leg.new.home close.Cut c.in_ok-last_text-in-Ok.field-0 c.in-Ok.ensures.ends last)

pub returns-in_ok-last_text-in-Err-Long-clause-told : goal.returns-in_ok-last_text-in-Err-Long-clause-told
returns-in_ok-last_text-in-Err-Long-clause-told g c =
    let last = subst (λ log. IsLastText log c.in_ok-last_text-in-Err-Long.field-0) c.log-in-Err-Long.ensures.log c.in_ok-last_text-in-Err-Long.ensures in
    runs-long c.args.to_end c.args.home.now c.leg.new.home c.in_ok-last_text-in-Err-Long.field-0 (rw c.in-Err-Long.field-0-is at c.in-Err-Long.ensures.ends) last
