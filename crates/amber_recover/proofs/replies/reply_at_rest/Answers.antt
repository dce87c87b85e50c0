-- What an operator shows, the row that is dropped, or that the command was done.
use Rattle.std.specs.Prelude.{option_copied}
use Rattle.std.proofs.Common.{None}
use Rattle.std.proofs.lemmas.Result.{IfOk-weaker}
use Rattle.amber_meaning.proofs.AtRest.{rest-there}
use Rattle.amber_recover.proofs.AtRest.{reply-done, reply-dropped, reply-shown}
use Rattle.amber_recover.proofs.replies.reply_at_rest.Goals as goal

pub inspect-requires-clause-some : goal.inspect-requires-clause-some
inspect-requires-clause-some c = (rest-there c.args.home.now.flow c.args.command.now c.args.effect.now c.requires.effect c.requires.fits).0

pub inspect-requires-clause-within : goal.inspect-requires-clause-within
inspect-requires-clause-within c = (rest-there c.args.home.now.flow c.args.command.now c.args.effect.now c.requires.effect c.requires.fits).1

pub returns-in_ok-seen-in-Shown : goal.returns-in_ok-seen-in-Shown
returns-in_ok-seen-in-Shown c =
    IfOk-weaker c.inspect_lines.result _ _
    (λ reply is. reply-shown c.args.home.now c.args.command.now c.args.effect.now c.in_ok-seen-in-Shown.seen c.flow-in-Shown.result.now reply c.requires.resting c.requires.effect c.in-Shown.is
    c.flow-in-Shown.ensures c.in_ok-seen-in-Shown.ensures is)
    c.inspect_lines.ensures

pub returns-in-Done : goal.returns-in-Done
returns-in-Done c =
    IfOk-weaker c.ok_line.result _ _
    (λ reply is. reply-done c.args.home.now c.args.command.now c.args.effect.now None c.flow.result.now reply c.requires.effect c.in-Done.is c.flow.ensures is)
    c.ok_line.ensures

pub returns-in-Dropped : goal.returns-in-Dropped
returns-in-Dropped c =
    IfOk-weaker c.ok_line-in-Dropped.result _ _
    (λ reply is. reply-dropped c.args.home.now c.args.command.now c.args.effect.now (option_copied c.row_to_drop.result) c.flow-in-Dropped.result.now reply c.requires.effect c.in-Dropped.is
    c.flow-in-Dropped.ensures c.row_to_drop.ensures is)
    c.ok_line-in-Dropped.ensures
