-- A command that is done fits, so its reply was told.
use Rattle.std.proofs.Common.{◌++◌, ap, sym, ◌∙◌}
use Rattle.std.proofs.lemmas.Result.{IfOk-weaker}
use Rattle.amber_log.specs.declared.log.Item.{Item}
use Rattle.amber_meaning.specs.Transcript.{reply_of}
use Rattle.amber_home.specs.HomeState.{query_of, rest_state}
use Rattle.amber_recover.proofs.ItemsDone.{command-fits}
use Rattle.amber_recover.proofs.replies.tell_item.Goals as goal

pub returns-in_ok-tell_command-in-Do-clause-told : goal.returns-in_ok-tell_command-in-Do-clause-told
returns-in_ok-tell_command-in-Do-clause-told c =
    let home = c.args.home.now in
    IfOk-weaker c.redo_command.result _ _
    (λ bad found none. c.in_ok-tell_command-in-Do.ensures (command-fits home c.args.line c.in-Do.command (sym found ∙ none))
    ∙ ap (λ (one : Item). c.args.text.now.items ++ reply_of (query_of home) (rest_state home) one) (sym c.in-Do.is))
    c.redo_command.ensures.found
