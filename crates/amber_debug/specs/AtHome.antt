-- What commands do at home.
use Rattle.std.specs.Prelude.{◌≡◌, ℕ, ◌⊎◌, List, [], ◌∷◌, ◌++◌, Result, Ok, Err, Bool, true, false}
use Rattle.amber_log.specs.LogText.{item_text}
use Rattle.amber_log.specs.declared.command.Command.{Command}
use Rattle.amber_log.specs.declared.leg.Close.{Close}
use Rattle.amber_log.specs.declared.leg.Close.TheVariants as close
use Rattle.amber_log.specs.declared.leg.Part.{Part}
use Rattle.amber_log.specs.declared.log.Item.{Item}
use Rattle.amber_log.specs.declared.log.Item.TheVariants as item
use Rattle.amber_log.specs.declared.log.Log.{Log}
use Rattle.amber_meaning.specs.InTime.{IsInTime}
use Rattle.amber_meaning.specs.Transcript.{reply_of}
use Rattle.amber_home.specs.HomeState.{HomeState, item_of_leg, query_of, rest_state, with_item}
use Rattle.amber_leg.specs.Leg.{ClosesLeg, most_late}
use Rattle.amber_debug.specs.declared.done.DebugErr.{DebugErr}
use Rattle.amber_debug.specs.declared.done.DebugErr.TheVariants as debug_err
use Rattle.amber_debug.specs.declared.done.EndErr.{EndErr}
use Rattle.amber_debug.specs.declared.done.EndErr.TheVariants as end_err
use Rattle.amber_debug.specs.declared.done.Done.{Done}

-- the text is that of the last item, whatever that is
unfoldable pub IsLastText : Log → List ℕ → Type 0
IsLastText log text = (before : List Item) (last : Item) → log.items ≡ before ++ last ∷ [] → text ≡ item_text last

-- the log may have grown, and nothing else of what is run has changed
pub record HasLog (old new : HomeState) (grown : Log) : Type 0 where
  pub flow : new.flow ≡ old.flow
  pub files : new.files ≡ old.files
  pub most : new.most ≡ old.most
  pub log : new.log ≡ grown

-- the log has a leg more, up to a stop or to the end, closed so, which stops in time
pub record HasLeg (to_end : Bool) (old new : HomeState) (closed : Close) : Type 0 where
  pub parts : List Part
  pub kept : HasLog old new (with_item old.log (item_of_leg to_end parts closed))
  pub in_time : IsInTime (query_of old) most_late (rest_state old) (item_of_leg to_end parts closed)

-- the leg stands in the log, with its text and the reply to it; or it was too long, and stands there; or memory ran out before or
-- after that
abbrev pub RunsAs : Result Done EndErr → Bool → HomeState → HomeState → Type 0
RunsAs (Ok done) to_end old new =
    (leg : HasLeg to_end old new close.Cut) × (done.item ≡ item_text (item_of_leg to_end leg.parts close.Cut))
    × (done.reply ≡ reply_of (query_of old) (rest_state old) (item_of_leg to_end leg.parts close.Cut))
RunsAs (Err (end_err.Long text)) to_end old new = (leg : HasLeg to_end old new close.Long) × (text ≡ item_text (item_of_leg to_end leg.parts close.Long))
RunsAs (Err end_err.NoMemory) to_end old new = HasLog old new old.log ⊎ ((closed : Close) × HasLeg to_end old new closed)

-- the leg stands in the log, with its text; else what a command to run leaves that has no reply
abbrev pub TellsLeg : Result (List ℕ) EndErr → Bool → HomeState → HomeState → Type 0
TellsLeg (Ok text) to_end old new = (leg : ClosesLeg to_end old new close.Cut) × (text ≡ item_text (item_of_leg to_end leg.parts close.Cut))
TellsLeg (Err why) to_end old new = RunsAs (Err why) to_end old new

-- what a command to run answers
abbrev pub answer_to_run : Result Done EndErr → Result Done DebugErr
answer_to_run (Ok done) = Ok done
answer_to_run (Err (end_err.Long text)) = Err (debug_err.Long text)
answer_to_run (Err end_err.NoMemory) = Err debug_err.NoMemory

-- memory ran out at a command to run
abbrev pub is_cut_off : Result Done EndErr → Bool
is_cut_off (Ok done) = false
is_cut_off (Err (end_err.Long text)) = false
is_cut_off (Err end_err.NoMemory) = true

-- a command that is no leg has its item in the log, with its text and the reply to it; the turns of a worker that was put in the place of
-- one that was lost are its own
pub record DoesAtRest (old new : HomeState) (told : Done) (command : Command) : Type 0 where
  pub home : new ≡ record old { log = with_item old.log (item.Do command); turned = new.turned }
  pub text : told.item ≡ item_text (item.Do command)
  pub reply : told.reply ≡ reply_of (query_of old) (rest_state old) (item.Do command)
