-- All have finished after the leg, and the answer is told.
use Rattle.std.proofs.Common.{Some}
use Rattle.amber_debug.proofs.Homes.{all-finished, runs-end}
use Rattle.amber_debug.proofs.debugger.run_to_end.Goals as goal

pub take_answer-requires-clause-finished : goal.take_answer-requires-clause-finished
take_answer-requires-clause-finished g c = all-finished c.args.home.now c.leg_text.new.home c.in_ok-item.ensures.told.0

pub returns-clause-runs : goal.returns-clause-runs
returns-clause-runs g c =
    runs-end c.args.home.now c.leg_text.new.home c.take_answer.new.self
    (record { item = c.in_ok-item.item; reply = c.in_ok-reply.reply; rows = Some c.in_ok-answer.answer.rows }) c.flow.result.now c.in_ok-answer.answer c.in_ok-item.ensures.told
    c.take_answer.ensures.over c.flow.ensures c.in_ok-answer.ensures.answer c.in_ok-reply.ensures
