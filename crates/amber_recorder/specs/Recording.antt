-- What making a log leaves, and what doing a command leaves of its item and its reply. Nothing here knows what a run is to do.
use Rattle.std.specs.Prelude.{◌≡◌, ℕ, ◌⊎◌, List, [], ◌++◌, Option, Result, Ok, Err, true, false}
use Rattle.std.specs.Io.KnownBytes.{Appends, Keeps}
use Rattle.amber_io.specs.Folder.{Named, Piece, Starts, with_file, with_more, without_file}
use Rattle.amber_io.specs.Sink.{Begins}
use Rattle.amber_io.specs.World.{World}
use Rattle.amber_log.specs.Grammar.{ends_over}
use Rattle.amber_log.specs.LogText.{item_text}
use Rattle.amber_log.specs.declared.command.Command.{Command}
use Rattle.amber_log.specs.declared.log.Item.{Item}
use Rattle.amber_log.specs.declared.log.Log.{Log}
use Rattle.amber_meaning.specs.Replay.{state_after}
use Rattle.amber_meaning.specs.Transcript.{reply_of}
use Rattle.amber_debug.specs.Session.{Grew, Session, is_long_item, query_in}
use Rattle.amber_debug.specs.declared.done.Done.{Done}
use Rattle.amber_course.specs.declared.failure.Failure.{Failure}
use Rattle.amber_course.specs.declared.failure.Failure.TheVariants as failure

-- more may follow: the log's last item is none that nothing follows
abbrev pub MayFollow : Log → Type 0
MayFollow log = ends_over false log.items ≡ false

-- ---- a log is made

-- a file that was not made: it is as before, absent or empty
abbrev pub IsUnmade : List ℕ → Option Named → Option Named → Type 0
IsUnmade name old new = (new ≡ old) ⊎ (new ≡ without_file old name) ⊎ (new ≡ with_file old name [])

-- a file that was made, and holds a front part of a piece
abbrev pub HasFront : Piece → Option Named → Option Named → Type 0
HasFront piece old new = (part : List ℕ) × (rest : List ℕ) × (part ++ rest ≡ piece.bytes) × (new ≡ with_file old piece.name part)

-- a file was made, and a piece was written into it
abbrev pub MakesFile : {A : Type 0} → Result A Failure → Piece → World → World → Type 0
MakesFile (Ok x) piece before after = after.files ≡ with_file before.files piece.name piece.bytes
MakesFile (Err failure.LogFault) piece before after = IsUnmade piece.name before.files after.files ⊎ HasFront piece before.files after.files
MakesFile (Err failure.NoMemory) piece before after = (after.files ≡ before.files) ⊎ (after.files ≡ with_file before.files piece.name [])
MakesFile (Err other) piece before after = ⊥

-- ---- a command is done

-- a command at the log of this name: what the debugger is before it and after it, and what there is outside
pub record Doing : Type 0 where
  pub name : List ℕ
  pub command : Command
  pub old : Session
  pub new : Session
  pub before : World
  pub after : World

-- the reply to an item that comes next
abbrev pub reply_to : Session → Item → List ℕ
reply_to d one = reply_of (query_in d) (state_after (query_in d) d.log.items) one

-- the debugger's log has an item more, for this command, and the file has its text
abbrev pub IsLogged : Doing → Item → Type 0
IsLogged d one = Grew d.old d.new d.command one × (d.after.files ≡ with_more d.before.files d.name (item_text one))

-- the debugger's log has an item more, but the file has only a front part of its text, perhaps all of it; nothing was put
abbrev pub IsHalfLogged : Doing → Item → Type 0
IsHalfLogged d one = Grew d.old d.new d.command one × Starts d.before.files d.after.files d.name (item_text one) × (d.after.got ≡ d.before.got)

-- nothing was written, and nothing was put
abbrev pub IsUndone : Doing → Type 0
IsUndone d = (d.after.files ≡ d.before.files) × (d.after.got ≡ d.before.got)

-- what came of a command, and the name of the log in which it is to stand
pub record Report : Type 0 where
  pub name : List ℕ
  pub done : Done

-- the item was appended, and then the reply was put; or where that failed
abbrev pub ReportsItem : {A : Type 0} → Result A Failure → Report → World → World → Type 0
ReportsItem (Ok x) r before after = (after.files ≡ with_more before.files r.name r.done.item) × Appends before.got after.got r.done.reply
ReportsItem (Err failure.LogFault) r before after = Starts before.files after.files r.name r.done.item × (after.got ≡ before.got)
ReportsItem (Err failure.OutFault) r before after = (after.files ≡ with_more before.files r.name r.done.item) × Begins before.got after.got r.done.reply
ReportsItem (Err failure.NoMemory) r before after =
    ((after.files ≡ before.files) × (after.got ≡ before.got)) ⊎ ((after.files ≡ with_more before.files r.name r.done.item) × Keeps before.got after.got)
ReportsItem (Err other) r before after = ⊥

-- a command was done: its item was written, and then its reply was put; or where it failed
abbrev pub Performs : {A : Type 0} → Result A Failure → Doing → Type 0
Performs (Ok x) d = (one : Item) × IsLogged d one × (is_long_item one ≡ false) × Appends d.before.got d.after.got (reply_to d.old one)
Performs (Err failure.LogFault) d = (one : Item) × IsHalfLogged d one
Performs (Err failure.OutFault) d = (one : Item) × IsLogged d one × (is_long_item one ≡ false) × Begins d.before.got d.after.got (reply_to d.old one)
Performs (Err failure.Long) d = (one : Item) × IsLogged d one × (is_long_item one ≡ true) × (d.after.got ≡ d.before.got)
Performs (Err failure.NoMemory) d = IsUndone d ⊎ ((one : Item) × IsLogged d one × (is_long_item one ≡ false) × Keeps d.before.got d.after.got)
Performs (Err other) d = ⊥
