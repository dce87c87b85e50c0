-- From each refusal to the next.
use Rattle.amber_meaning.specs.Texts.{refusal_text}
use Rattle.amber_report.proofs.Lines.{told_all, told_more}
use Rattle.amber_report.proofs.answer_text.push_refusals.Goals as goal

pub loop-refusal-preserved : goal.loop-refusal-preserved
loop-refusal-preserved c =
    told_more (refusal_text c.args.flow.now) c.args.text.now.items c.loop-refusal.text.items c.push_refusal.new.text.items c.args.refused.now c.loop-refusal.refusal-index c.refusal-item.result
    c.refusal-item.result c.loop-refusal-test.true c.refusal-item.is c.loop-refusal.invariant c.in_ok-push_refusal.ensures

pub returns : goal.returns
returns c =
    told_all (refusal_text c.args.flow.now) c.args.text.now.items c.loop-refusal.text.items c.args.refused.now c.loop-refusal.refusal-index c.loop-refusal-test.false c.loop-refusal.invariant
