-- The reply to a command that is done at rest, by its effect.
use Rattle.std.proofs.Common.{◌≡◌, refl, sym, ap, ◌∙◌, ℕ, List, Option, None, Some}
use Rattle.amber_rows.specs.declared.flow.Operator.{Operator}
use Rattle.amber_rows.specs.declared.value.Value.{Value}
use Rattle.amber_log.specs.Commands.{action_of}
use Rattle.amber_log.specs.declared.command.Command.{Command}
use Rattle.amber_log.specs.declared.effect.Action.TheVariants as action
use Rattle.amber_log.specs.declared.effect.Effect.{Effect}
use Rattle.amber_log.specs.declared.effect.Reply.{Reply}
use Rattle.amber_log.specs.declared.effect.Reply.TheVariants as reply
use Rattle.amber_log.specs.declared.log.Item.TheVariants as item
use Rattle.amber_meaning.specs.declared.view.Inspected.{Inspected}
use Rattle.amber_meaning.specs.Legal.{Query}
use Rattle.amber_meaning.specs.State.{State}
use Rattle.amber_meaning.specs.Texts.{drop_text, inspected_text, ok_text}
use Rattle.amber_meaning.specs.Transcript.{action_reply, dropped_reply, effect_reply, reply_of}
use Rattle.amber_meaning.specs.Views.{inspected_of}
use Rattle.amber_report.specs.Replies.{action_text, done_text, dropped_text, text_by}
use Rattle.amber_home.specs.HomeState.{HomeState, dropped_by, dropped_by_action, dropped_in, query_of, rest_state, state_of}
use Rattle.amber_home.specs.declared.phase.Phase.TheVariants as phase

state-rest : (home : HomeState) → home.phase ≡ phase.Resting → state_of home ≡ rest_state home
unfolding state_of
state-rest home e = rw e refl

-- the reply to a command with this effect, by what the effect says of it
replied-as : (query : Query) (state : State) (done : Command) (effect : Effect) (told : Reply) → action_of done ≡ action.AtRest effect → effect.reply ≡ told
    → effect_reply query state done effect told ≡ reply_of query state (item.Do done)
unfolding reply_of
replied-as query state done effect told is says = ap (effect_reply query state done effect) (sym says) ∙ ap (action_reply query state done) (sym is)

pub reply-shown : (home : HomeState) (done : Command) (effect : Effect) (seen : Inspected) (flow : List Operator) (text : List ℕ) → home.phase ≡ phase.Resting → action_of done ≡ action.AtRest effect
    → effect.reply ≡ reply.Shown → flow ≡ home.flow → seen ≡ inspected_of (query_of home) (state_of home) effect.op → text ≡ inspected_text flow seen
    → text ≡ reply_of (query_of home) (rest_state home) (item.Do done)
reply-shown home done effect seen flow text rests is says same shown e =
    e ∙ ap (λ f. inspected_text f seen) same ∙ ap (inspected_text home.flow) (shown ∙ ap (λ s. inspected_of (query_of home) s effect.op) (state-rest home rests))
    ∙ replied-as (query_of home) (rest_state home) done effect reply.Shown is says

done-ok : (flow : List Operator) (done : Command) (effect : Effect) (dropped : Option (List Value)) → action_of done ≡ action.AtRest effect → effect.reply ≡ reply.Done
    → done_text flow done dropped ≡ ok_text flow done
done-ok flow done effect dropped is says =
    ap (action_text flow done dropped) is ∙ ap (λ (told : Reply). text_by told (ok_text flow done) (dropped_text flow effect.op effect.drops dropped)) says

pub reply-done : (home : HomeState) (done : Command) (effect : Effect) (dropped : Option (List Value)) (flow : List Operator) (text : List ℕ) → action_of done ≡ action.AtRest effect
    → effect.reply ≡ reply.Done → flow ≡ home.flow → text ≡ done_text flow done dropped → text ≡ reply_of (query_of home) (rest_state home) (item.Do done)
reply-done home done effect dropped flow text is says same e =
    e ∙ ap (λ f. done_text f done dropped) same ∙ done-ok home.flow done effect dropped is says
    ∙ replied-as (query_of home) (rest_state home) done effect reply.Done is says

-- by the row that is dropped of one of an operator's workers
dropped-as : (query : Query) (state : State) (op : ℕ) (drops : Option ℕ) (dropped : Option (List Value)) → dropped ≡ dropped_in query state op drops
    → dropped_text query.flow op drops dropped ≡ dropped_reply query state op drops
dropped-as query state op None dropped is = refl
dropped-as query state op (Some worker) dropped is = ap (drop_text query.flow op worker) is

pub reply-dropped : (home : HomeState) (done : Command) (effect : Effect) (dropped : Option (List Value)) (flow : List Operator) (text : List ℕ) → action_of done ≡ action.AtRest effect
    → effect.reply ≡ reply.Dropped → flow ≡ home.flow → dropped ≡ dropped_by home done → text ≡ done_text flow done dropped → text ≡ reply_of (query_of home) (rest_state home) (item.Do done)
reply-dropped home done effect dropped flow text is says same row e =
    e ∙ ap (λ f. done_text f done dropped) same ∙ ap (action_text home.flow done dropped) is
    ∙ ap (λ (told : Reply). text_by told (ok_text home.flow done) (dropped_text home.flow effect.op effect.drops dropped)) says
    ∙ dropped-as (query_of home) (rest_state home) effect.op effect.drops dropped (row ∙ ap (dropped_by_action home) is)
    ∙ replied-as (query_of home) (rest_state home) done effect reply.Dropped is says
