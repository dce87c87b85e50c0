-- What a command that failed leaves of a log and of its reply.
use Rattle.std.specs.Prelude.{◌≡◌, ◌≢◌, ℕ, ◌≤◌, ◌⊎◌, List, [], ◌∷◌, ◌++◌, length, map, Option, Bool, true, false, ⊤}
use Rattle.std.specs.Io.KnownBytes.{Appends}
use Rattle.amber_io.specs.Folder.{Named, with_file}
use Rattle.amber_log.specs.LogText.{item_text, log_text}
use Rattle.amber_log.specs.ReadAs.{IsReadAs}
use Rattle.amber_log.specs.declared.command.Command.{Command}
use Rattle.amber_log.specs.declared.log.Item.{Item}
use Rattle.amber_log.specs.declared.log.Item.TheVariants as item
use Rattle.amber_log.specs.declared.log.Log.{Log}
use Rattle.amber_meaning.specs.InTime.{AreInTime}
use Rattle.amber_meaning.specs.Legal.{IsLegal, IsUnaltered}
use Rattle.amber_meaning.specs.Replay.{state_after}
use Rattle.amber_meaning.specs.Transcript.{replies}
use Rattle.amber_leg.specs.Leg.{most_late}
use Rattle.amber_debug.specs.Session.{IsNextInTime, Session, command_of, is_long_item, one_more, query_in}
use Rattle.amber_course.specs.declared.failure.Failure.{Failure}
use Rattle.amber_course.specs.declared.failure.Failure.TheVariants as failure
use Rattle.amber_recorder.specs.Recording.{Doing}

-- no command sets a constant or drops a row
abbrev pub AlterNothing : List Command → Type 0
AlterNothing commands = IsUnaltered (map item.Do commands)

-- whether the last item is a leg that was closed because the steps were as many as may be; `long` where there is no item
abbrev pub ends_long : Bool → List Item → Bool
ends_long long [] = long
ends_long long (one ∷ more) = ends_long (is_long_item one) more

-- a text whose end is missing: a front part of it, and not the whole
abbrev pub IsTorn : List ℕ → List ℕ → Type 0
IsTorn part whole = (rest : List ℕ) × (part ++ rest ≡ whole) × (rest ≢ [])

-- an item by which a debugger's log may grow at a command: with it the log is legal, and it stops in time
pub record IsNextItem (d : Session) (done : Command) (one : Item) : Type 0 where
  pub command : command_of one ≡ done
  pub legal : IsLegal (query_in d) (one_more d.log one)
  pub in_time : IsNextInTime d one

-- a debugger's log is legal, its last leg was not too long, and its file holds its text
pub record IsWritten (told : Option Named) (d : Doing) : Type 0 where
  pub legal : IsLegal (query_in d.old) d.old.log
  pub short : ends_long false d.old.log.items ≡ false
  pub place : d.before.files ≡ with_file told d.name (log_text d.old.log)

-- the log before a command, with these items more
abbrev pub log_with : Doing → List Item → Log
log_with d last = record { batch = d.old.log.batch; items = d.old.log.items ++ last }

-- the file holds the log's text and after it the command's item, torn
pub record HasTorn (d : Doing) (bytes : List ℕ) : Type 0 where
  pub one : Item
  pub item : IsNextItem d.old d.command one
  pub torn : List ℕ
  pub front : IsTorn torn (item_text one)
  pub text : bytes ≡ log_text d.old.log ++ torn

-- where the steps were as many as may be, that leg is the log's last item; where the sink failed, it was no such leg's reply
abbrev pub ClosesAs : Failure → Bool → Type 0
ClosesAs failure.Long long = long ≡ true
ClosesAs failure.OutFault long = long ≡ false
ClosesAs other long = ⊤

-- a command failed: the log's file reads as a legal log, which has its item or not, and all other files are as before. The sink got
-- nothing, or a part of the reply if it failed
pub record IsHalted (f : Failure) (told : Option Named) (d : Doing) : Type 0 where
  -- the item, if the file has it whole, and the command, if it has not
  pub last : List Item
  pub left : List Command
  -- the file's bytes
  pub bytes : List ℕ
  -- what was put of the reply, and what was not
  pub part : List ℕ
  pub rest : List ℕ
  pub place : d.after.files ≡ with_file told d.name bytes
  pub few : length last ≤ 1
  pub read : IsReadAs bytes (log_with d last)
  -- nothing is torn, unless the log could not be written
  pub stands : (bytes ≡ log_text (log_with d last)) ⊎ ((f ≡ failure.LogFault) × (last ≡ []) × HasTorn d bytes)
  pub legal : IsLegal (query_in d.old) (log_with d last)
  pub in_time : AreInTime (query_in d.old) most_late (state_after (query_in d.old) d.old.log.items) last
  pub commands : map command_of last ++ left ≡ d.command ∷ []
  pub split : part ++ rest ≡ replies (query_in d.old) (state_after (query_in d.old) d.old.log.items) last
  pub whole : f ≢ failure.OutFault → part ≡ []
  pub sent : Appends d.before.got d.after.got part
  pub closed : ClosesAs f (ends_long false (d.old.log.items ++ last))
