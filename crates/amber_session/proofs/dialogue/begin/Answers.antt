-- A session that was begun goes on.
use Rattle.std.proofs.Common.{◌∙◌, ap, subst, sym}
use Rattle.amber_rows.specs.FlowRules.{IsFlow}
use Rattle.amber_session.proofs.Going.{going-begun}
use Rattle.amber_session.proofs.dialogue.begin.Goals as goal

pub returns-clause-going : goal.returns-clause-going
returns-clause-going g c =
    let begins = c.in_ok-debugger.ensures.begins in
    going-begun _ c.args.job.batch_size (c.requires.some_batch, c.requires.few_batch)
    (subst IsFlow (sym (ap (λ d. d.flow) begins ∙ c.into_parts-flow.ensures.flow)) c.into_parts-flow.ensures.inputs.flow)
    (ap (λ d. d.most) begins) (ap (λ d. d.log) begins) c.new.ensures.bytes c.new.ensures.read
