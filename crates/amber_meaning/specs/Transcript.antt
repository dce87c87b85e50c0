-- What a run prints: the replies to the items of its log, one after the other.
use Rattle.std.specs.Prelude.{ℕ, List, [], ◌∷◌, ◌++◌, Option, Some, None, if◌then◌else◌}
use Rattle.amber_rows.specs.declared.value.Value.{Value}
use Rattle.amber_log.specs.Commands.{action_of}
use Rattle.amber_log.specs.declared.command.Command.{Command}
use Rattle.amber_log.specs.declared.effect.Action.{Action}
use Rattle.amber_log.specs.declared.effect.Action.TheVariants as action
use Rattle.amber_log.specs.declared.effect.Effect.{Effect}
use Rattle.amber_log.specs.declared.effect.Reply.{Reply}
use Rattle.amber_log.specs.declared.effect.Reply.TheVariants as reply
use Rattle.amber_log.specs.declared.leg.Close.{Close}
use Rattle.amber_log.specs.declared.leg.Close.TheVariants as close
use Rattle.amber_log.specs.declared.log.Item.{Item}
use Rattle.amber_log.specs.declared.log.Item.TheVariants as item
use Rattle.amber_meaning.specs.Legal.{Query, role_in, stops_in}
use Rattle.amber_meaning.specs.Position.{pending_rows}
use Rattle.amber_meaning.specs.Replay.{after_item, after_leg}
use Rattle.amber_meaning.specs.State.{State, begin_leg, begin_last_leg, position_at, start_of, worker_at}
use Rattle.amber_meaning.specs.Texts.{answer_text, drop_text, inspected_text, ok_text, stops_text}
use Rattle.amber_meaning.specs.Views.{answer_in, inspected_of}
use Rattle.amber_rows.specs.Lists.{first_of}

-- the row before which a worker is held
abbrev pub held_row : Query → State → ℕ → Option (List Value)
held_row query state worker =
    if (position_at state.positions worker).restraint.held then first_of (pending_rows (role_in query worker) (position_at state.positions worker)) else None

-- the row that is dropped of one of an operator's workers, or that there is none; where no worker is named nothing
abbrev pub dropped_reply : Query → State → ℕ → Option ℕ → List ℕ
dropped_reply query state op None = []
dropped_reply query state op (Some worker) = drop_text query.flow op worker (held_row query state (worker_at query.flow op worker))

-- a reply to a command with this effect, in the state before it
abbrev pub effect_reply : Query → State → Command → Effect → Reply → List ℕ
effect_reply query state command effect reply.Done = ok_text query.flow command
effect_reply query state command effect reply.Dropped = dropped_reply query state effect.op effect.drops
effect_reply query state command effect reply.Shown = inspected_text query.flow (inspected_of query state effect.op)

abbrev pub action_reply : Query → State → Command → Action → List ℕ
action_reply query state command (action.Leg to_end) = []
action_reply query state command (action.AtRest effect) = effect_reply query state command effect effect.reply

-- the reply to a command that is no leg, in the state before it
abbrev pub command_reply : Query → State → Command → List ℕ
command_reply query state command = action_reply query state command (action_of command)

-- the reply to a leg, in the state that it reached
abbrev pub run_reply : Query → State → Close → List ℕ
run_reply query reached close.Cut = stops_text query.flow (stops_in query reached)
run_reply query reached close.Long = []

abbrev pub end_reply : Query → State → Close → List ℕ
end_reply query reached close.Cut = answer_text query.flow (answer_in query reached)
end_reply query reached close.Long = []

-- the reply to an item, in the state before it
unfoldable pub reply_of : Query → State → Item → List ℕ
reply_of query state (item.Do command) = command_reply query state command
reply_of query state (item.Run leg) = run_reply query (after_leg query (begin_leg state) leg.parts) leg.close
reply_of query state (item.End leg) = end_reply query (after_leg query (begin_last_leg state) leg.parts) leg.close

-- the replies to items that begin in this state
unfoldable pub replies : Query → State → List Item → List ℕ
replies query state [] = []
replies query state (one ∷ more) = reply_of query state one ++ replies query (after_item query state one) more

-- what a run prints that has written these items
unfoldable pub transcript_of : Query → List Item → List ℕ
transcript_of query items = replies query (start_of query.flow) items
