-- What a debugger shows, and what a command does to it.
use Rattle.std.specs.Prelude.{◌≡◌, ℕ, ◌⊎◌, List, [], ◌∷◌, ◌++◌, Result, Ok, Err, Bool, true, false}
use Rattle.amber_rows.specs.declared.flow.Operator.{Operator}
use Rattle.amber_log.specs.Commands.{action_of}
use Rattle.amber_log.specs.Grammar.{ends_over, is_long}
pub use Rattle.amber_log.specs.Items.{command_of}
use Rattle.amber_log.specs.LogText.{item_text}
use Rattle.amber_log.specs.declared.command.Command.{Command}
use Rattle.amber_log.specs.declared.command.Command.TheVariants as command
use Rattle.amber_log.specs.declared.effect.Action.{Action}
use Rattle.amber_log.specs.declared.effect.Action.TheVariants as action
use Rattle.amber_log.specs.declared.log.Item.{Item}
use Rattle.amber_log.specs.declared.log.Item.TheVariants as item
use Rattle.amber_log.specs.declared.log.Log.{Log}
use Rattle.amber_meaning.specs.InTime.{IsInTime}
use Rattle.amber_meaning.specs.Legal.{IsLegal, Query, query_over}
use Rattle.amber_meaning.specs.Replay.{state_after}
use Rattle.amber_meaning.specs.Transcript.{reply_of}
use Rattle.amber_home.specs.HomeState.{HomeState, query_of}
use Rattle.amber_home.specs.declared.phase.Phase.TheVariants as phase
use Rattle.amber_leg.specs.Leg.{most_late}
use Rattle.amber_debug.specs.declared.done.DebugErr.{DebugErr}
use Rattle.amber_debug.specs.declared.done.DebugErr.TheVariants as debug_err
use Rattle.amber_debug.specs.declared.done.Done.{Done}

pub record Session : Type 0 where
  pub flow : List Operator
  -- the scans' files
  pub files : List (List ℕ)
  -- the most steps
  pub most : ℕ
  -- on how many threads it works
  pub threads : ℕ
  pub log : Log
  -- memory ran out at a command to run
  pub spent : Bool

-- what is run
abbrev pub query_in : Session → Query
query_in d = query_over d.flow d.files d.log.batch d.most

-- the home's log is legal, and where more may follow it is at rest
pub record IsKept (home : HomeState) (spent : Bool) : Type 0 where
  pub legal : IsLegal (query_of home) home.log
  pub rests : spent ≡ false → ends_over false home.log.items ≡ false → home.phase ≡ phase.Resting

-- a leg that was closed because the steps were as many as may be
abbrev pub is_long_item : Item → Bool
is_long_item (item.Do command) = false
is_long_item (item.Run leg) = is_long leg.close
is_long_item (item.End leg) = is_long leg.close

-- a leg, and nothing that is done at rest
abbrev pub is_leg_action : Action → Bool
is_leg_action (action.Leg to_end) = true
is_leg_action (action.AtRest effect) = false

-- a command to run
abbrev pub is_leg : Command → Bool
is_leg command = is_leg_action (action_of command)

-- an item that the session has next stops in time
abbrev pub IsNextInTime : Session → Item → Type 0
IsNextInTime d one = IsInTime (query_in d) most_late (state_after (query_in d) d.log.items) one

-- a log with an item more
abbrev pub one_more : Log → Item → Log
one_more log one = record log { items = log.items ++ one ∷ [] }

-- the session has one item more, that of this command, and a leg stops in time
pub record Grew (old new : Session) (done : Command) (one : Item) : Type 0 where
  pub flow : new.flow ≡ old.flow
  pub files : new.files ≡ old.files
  pub most : new.most ≡ old.most
  pub threads : new.threads ≡ old.threads
  pub log : new.log ≡ one_more old.log one
  pub command : command_of one ≡ done
  pub in_time : IsNextInTime old one
  pub unspent : new.spent ≡ false

-- memory ran out at a command to run: the log is as before, or has that command's leg as well, and no command follows
pub record IsCutOff (old new : Session) (done : Command) : Type 0 where
  pub flow : new.flow ≡ old.flow
  pub files : new.files ≡ old.files
  pub most : new.most ≡ old.most
  pub threads : new.threads ≡ old.threads
  pub log : (new.log ≡ old.log) ⊎ ((one : Item) × (new.log ≡ one_more old.log one) × (command_of one ≡ done) × IsNextInTime old one)
  pub spent : new.spent ≡ true

-- memory ran out: at a command to run the session is cut off, and else as before
abbrev pub WantsMemory : Bool → Session → Session → Command → Type 0
WantsMemory true old new done = IsCutOff old new done
WantsMemory false old new done = new ≡ old

-- what a command does: one item and its reply; or one item, a leg that had to be closed; or nothing, where the session was cut off
abbrev pub Does : Result Done DebugErr → Session → Session → Command → Type 0
Does (Ok told) old new done =
    (one : Item) × Grew old new done one × (is_long_item one ≡ false) × (told.item ≡ item_text one)
    × (told.reply ≡ reply_of (query_in old) (state_after (query_in old) old.log.items) one)
Does (Err (debug_err.Long text)) old new done = (one : Item) × Grew old new done one × (is_long_item one ≡ true) × (text ≡ item_text one)
Does (Err debug_err.Spent) old new done = (old.spent ≡ true) × (new ≡ old)
Does (Err debug_err.NoMemory) old new done = WantsMemory (is_leg done) old new done
