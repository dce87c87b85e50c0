-- The replies to commands that are done at once.
use Rattle.std.specs.Prelude.{ℕ, List, [], Option, Some, None}
use Rattle.amber_rows.specs.declared.value.Value.{Value}
use Rattle.amber_rows.specs.declared.flow.Operator.{Operator}
use Rattle.amber_log.specs.Commands.{action_of}
use Rattle.amber_log.specs.declared.command.Command.{Command}
use Rattle.amber_log.specs.declared.effect.Action.{Action}
use Rattle.amber_log.specs.declared.effect.Action.TheVariants as action
use Rattle.amber_log.specs.declared.effect.Effect.{Effect}
use Rattle.amber_log.specs.declared.effect.Reply.{Reply}
use Rattle.amber_log.specs.declared.effect.Reply.TheVariants as reply
use Rattle.amber_meaning.specs.Texts.{drop_text, ok_text}

-- the row that was dropped of one of an operator's workers, or that there was none; where no worker is named nothing
abbrev pub dropped_text : List Operator → ℕ → Option ℕ → Option (List Value) → List ℕ
dropped_text flow op None dropped = []
dropped_text flow op (Some worker) dropped = drop_text flow op worker dropped

-- that it was done, or what is said of the row that was dropped
abbrev pub text_by : Reply → List ℕ → List ℕ → List ℕ
text_by reply.Done done dropped = done
text_by reply.Dropped done dropped = dropped
text_by reply.Shown done dropped = done

-- the reply to a command with this effect
abbrev pub reply_text : List Operator → Command → Option (List Value) → Effect → List ℕ
reply_text flow command dropped effect = text_by effect.reply (ok_text flow command) (dropped_text flow effect.op effect.drops dropped)

abbrev pub action_text : List Operator → Command → Option (List Value) → Action → List ℕ
action_text flow command dropped (action.Leg to_end) = ok_text flow command
action_text flow command dropped (action.AtRest effect) = reply_text flow command dropped effect

-- the reply to a command: to a drop by the row that was dropped, to each other one that it was done
abbrev pub done_text : List Operator → Command → Option (List Value) → List ℕ
done_text flow command dropped = action_text flow command dropped (action_of command)
