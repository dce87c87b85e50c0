-- The script, and that it is put.
use Rattle.std.proofs.Common.{◌≡◌, Err, refl, rules}
use Rattle.amber_commands.specs.declared.refusal.Refusal.TheVariants as refusal
use Rattle.amber_commands.proofs.Ending.{prints-sent, stops-led, stops-sent}
use Rattle.amber_commands.proofs.printing.print_script.Goals as goal

pub returns-in_err-text-clause-prepares : goal.returns-in_err-text-clause-prepares
returns-in_err-text-clause-prepares g c =
    let r = c.in_err-text.field-0.0 in
    let e : c.from_residual.result ≡ Err r = search rules in
    rw e (stops-led r c.args.workflow.now c.args.log.now (g.W.Outside.world c.args.outside.now) (g.W.Outside.world c.load_script.new.outside) c.in_err-text.ensures.course c.in_err-text.ensures.only)

pub returns-in_err-put_output-clause-prepares : goal.returns-in_err-put_output-clause-prepares
returns-in_err-put_output-clause-prepares g c =
    let s = c.in_err-put_output.field-0.0 in
    let e : c.from_residual-in_err-put_output.result ≡ Err (refusal.Call s) = search rules in
    rw e (stops-sent s c.in_ok-text.text c.args.workflow.now c.args.log.now (g.W.Outside.world c.args.outside.now) (g.W.Outside.world c.load_script.new.outside)
    (g.W.Outside.world c.put_output.new.outside) c.in_ok-text.ensures.course (rw c.get.ensures at c.in_err-put_output.ensures.sent) c.in_err-put_output.ensures.only)

pub returns-clause-prepares : goal.returns-clause-prepares
returns-clause-prepares g c = (
  refl,
  prints-sent c.in_ok-text.text c.args.workflow.now c.args.log.now (g.W.Outside.world c.args.outside.now) (g.W.Outside.world c.load_script.new.outside)
      (g.W.Outside.world c.put_output.new.outside) c.in_ok-text.ensures.course (rw c.get.ensures at c.in_ok-put_output.ensures.sent) c.put_output.ensures.only,
)
