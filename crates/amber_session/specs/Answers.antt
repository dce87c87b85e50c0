-- What answering lines leaves: by what the log grows, and what the sink gets.
use Rattle.std.specs.Prelude.{◌≡◌, ℕ, ◌+◌, ◌^◌, List, [], ◌∷◌, ◌++◌, length, map, Result, Ok, Err}
use Rattle.std.specs.List.{flat_map}
use Rattle.std.specs.Io.KnownBytes.{Appends, Keeps}
use Rattle.amber_io.specs.Folder.{with_more}
use Rattle.amber_io.specs.Sink.{Begins}
use Rattle.amber_io.specs.World.{World}
use Rattle.amber_log.specs.LogText.{item_text}
use Rattle.amber_log.specs.declared.command.Command.{Command}
use Rattle.amber_log.specs.declared.log.Item.{Item}
use Rattle.amber_meaning.specs.InTime.{AreInTime}
use Rattle.amber_meaning.specs.Legal.{IsLegal}
use Rattle.amber_meaning.specs.Replay.{state_after}
use Rattle.amber_meaning.specs.State.{start_of}
use Rattle.amber_leg.specs.Leg.{most_late}
use Rattle.amber_debug.specs.Session.{Session, command_of, query_in}
use Rattle.amber_course.specs.declared.failure.Failure.{Failure}
use Rattle.amber_course.specs.declared.failure.Failure.TheVariants as failure
use Rattle.amber_recorder.specs.Recording.{Doing, MayFollow, Performs}
use Rattle.amber_script.specs.Script.{said_by}
use Rattle.amber_script.specs.declared.error.ScriptWhy.{ScriptWhy}
use Rattle.amber_script.specs.declared.script_line.ScriptLine.{ScriptLine}
use Rattle.amber_script.specs.declared.script_line.ScriptLine.TheVariants as script_line
use Rattle.amber_session.specs.Talk.{accepted, refused_text, replies_to, talk_from}

-- how many steps a session may make
abbrev pub most_session_steps : ℕ
most_session_steps = 2 ^ 40

-- a debugger between two commands: its log is legal, its legs stop in time, and more may follow
pub record IsSound (d : Session) : Type 0 where
  pub legal : IsLegal (query_in d) d.log
  pub in_time : AreInTime (query_in d) most_late (start_of d.flow) d.log.items
  pub more : MayFollow d.log
  pub most : d.most ≡ most_session_steps

-- a part of a session: the log's name, the number of its first line, and what the debugger and the outside are before it and after it
pub record Stretch : Type 0 where
  pub name : List ℕ
  pub number : ℕ
  pub old : Session
  pub new : Session
  pub before : World
  pub after : World

-- the debugger's log has these items more
pub record HasMore (old new : Session) (items : List Item) : Type 0 where
  pub flow : new.flow ≡ old.flow
  pub files : new.files ≡ old.files
  pub most : new.most ≡ old.most
  pub log : new.log ≡ record old.log { items = old.log.items ++ items }

-- the replies to items that come next
abbrev pub next_replies : Session → List Item → List (List ℕ)
next_replies d items = replies_to (query_in d) (state_after (query_in d) d.log.items) items

-- lines were answered: the log has the items of their commands, the file grew by the items' texts, and the sink got what is said to the lines
pub record HasAnswered (s : Stretch) (lines : List (List ℕ)) : Type 0 where
  pub items : List Item
  pub more : HasMore s.old s.new items
  pub commands : map command_of items ≡ accepted s.old.flow lines
  pub file : s.after.files ≡ with_more s.before.files s.name (flat_map item_text items)
  pub put : Appends s.before.got s.after.got (talk_from s.old.flow s.number lines (next_replies s.old items))

-- ---- where it fails

-- the part of a session in which a command is done
abbrev pub doing : Stretch → Command → Doing
doing s command = record { name = s.name; command = command; old = s.old; new = s.new; before = s.before; after = s.after }

-- nothing was written, and nothing was put
abbrev pub IsUnsaid : Stretch → Type 0
IsUnsaid s = (s.after.files ≡ s.before.files) × (s.after.got ≡ s.before.got)

-- a line was not refused as it should be: the sink failed, which got a front part of what is said to it, or memory ran out
abbrev pub HalfRefuses : Failure → Stretch → ScriptWhy → Type 0
HalfRefuses failure.OutFault s why = (s.new ≡ s.old) × (s.after.files ≡ s.before.files) × Begins s.before.got s.after.got (refused_text s.number why)
HalfRefuses failure.NoMemory s why = (s.new ≡ s.old) × (s.after.files ≡ s.before.files) × Keeps s.before.got s.after.got
HalfRefuses other s why = ⊥

-- there was no memory to read a line with
abbrev pub IsUnread : Failure → Stretch → Type 0
IsUnread failure.NoMemory s = (s.new ≡ s.old) × IsUnsaid s
IsUnread other s = ⊥

-- a line that says this was not answered
abbrev pub StopsAtLine : Failure → Stretch → ScriptLine → Type 0
StopsAtLine f s script_line.Skipped = IsUnread f s
StopsAtLine f s (script_line.Bad why) = HalfRefuses f s why
StopsAtLine f s (script_line.Command command) = Performs {A = Unit {0}} (Err f) (doing s command)

-- a line was answered, or it was not
abbrev pub AnswersLine : Result (Unit {0}) Failure → Stretch → List ℕ → Type 0
AnswersLine (Ok x) s line = HasAnswered s (line ∷ [])
AnswersLine (Err f) s line = StopsAtLine f s (said_by s.old.flow line)

-- of these lines the first were answered, and then one was not
pub record StopsIn (f : Failure) (s : Stretch) (lines : List (List ℕ)) : Type 0 where
  pub front : List (List ℕ)
  pub line : List ℕ
  pub later : List (List ℕ)
  pub split : lines ≡ front ++ line ∷ later
  -- the debugger and the outside between the two
  pub mid : Session
  pub world : World
  pub answered : HasAnswered (record s { new = mid; after = world }) front
  pub sound : IsSound mid
  pub stopped : StopsAtLine f (record s { number = s.number + length front; old = mid; before = world }) (said_by mid.flow line)

-- lines were answered, or one of them was not
abbrev pub AnswersAll : Result (Unit {0}) Failure → Stretch → List (List ℕ) → Type 0
AnswersAll (Ok x) s lines = HasAnswered s lines
AnswersAll (Err f) s lines = StopsIn f s lines
