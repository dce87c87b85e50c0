-- What a session shows, and what its calls do.
use Rattle.std.specs.Prelude.{◌≡◌, ℕ, ◌+◌, ◌≤◌, ◌<◌, ◌⊎◌, List, [], ◌++◌, length, map, Option, None, Some, Result, Ok, Err, Bool, false}
use Rattle.std.specs.Str.Lines.{strip_carriage_return}
use Rattle.amber_io.specs.Folder.{IsThere, Told, with_file}
use Rattle.amber_io.specs.World.{World}
use Rattle.amber_log.specs.LogText.{log_text}
use Rattle.amber_meaning.specs.Legal.{IsLegal}
use Rattle.amber_debug.specs.Session.{Session, command_of, query_in}
use Rattle.amber_course.specs.Failure.{status_of}
use Rattle.amber_course.specs.Steps.{Names}
use Rattle.amber_course.specs.declared.session.SessionJob.{SessionJob}
use Rattle.amber_course.specs.declared.failure.Failure.{Failure}
use Rattle.amber_course.specs.declared.status.Status.{Status}
use Rattle.amber_course.specs.declared.status.Status.TheVariants as status
use Rattle.amber_recorder.specs.Writing.{FailedAs, NoneFailed}
use Rattle.amber_script.specs.Lines.{ended_lines, open_line}
use Rattle.amber_session.specs.Answers.{HasAnswered, IsSound, IsUnread, StopsIn, Stretch}
use Rattle.amber_session.specs.Beginning.{AskFor, IsNotStarted, IsSessionLoad, MissesSessionWords}
use Rattle.amber_session.specs.Dialogue.{most_input}
use Rattle.amber_session.specs.Feeding.{AnswersLast}
use Rattle.amber_session.specs.Talk.{accepted}
use Rattle.amber_session.specs.Told.{IsToldBy}
use Rattle.amber_session.specs.declared.start_err.StartErr.{StartErr}

-- what a session shows: the debugger, the log's name, the bytes that were fed, its first refusal, and whether it was finished
pub record Talking : Type 0 where
  pub run : Session
  pub name : List ℕ
  pub fed : List ℕ
  pub refused : Option Status
  pub finished : Bool

-- a call of a session: what it shows and what there is outside, before it and after it
pub record Call : Type 0 where
  pub old : Talking
  pub new : Talking
  pub before : World
  pub after : World

-- the part of a session that a call is
abbrev pub stretch_of : Call → Stretch
stretch_of c = record {
  name = c.old.name;
  number = length (ended_lines c.old.fed) + 1;
  old = c.old.run;
  new = c.new.run;
  before = c.before;
  after = c.after;
}

-- the log is legal, and its commands are those of the lines that were ended
pub record IsTalk (d : Talking) : Type 0 where
  pub few : length d.fed ≤ most_input
  pub sound : IsSound d.run
  pub commands : map command_of d.run.log.items ≡ accepted d.run.flow (ended_lines d.fed)

-- ---- beginning

-- a session was begun: its log is made, and nothing was fed
pub record IsNewSession (words : List (List ℕ)) (d : Talking) (before after : World) : Type 0 where
  pub job : SessionJob
  pub asked : AskFor words before.files job
  pub flow : d.run.flow ≡ job.inputs.flow
  pub files : d.run.files ≡ job.inputs.files
  pub log : d.run.log ≡ record { batch = job.batch_size; items = [] }
  pub name : d.name ≡ job.log
  pub fed : d.fed ≡ []
  pub refused : d.refused ≡ None
  pub unfinished : d.finished ≡ false
  pub talk : IsTalk d
  pub place : after.files ≡ with_file before.files d.name (log_text d.run.log)
  pub there : IsThere after.files d.name
  pub counted : NoneFailed before after

-- why a session was not begun, and what that leaves
pub record IsRefusedAtStart (words : List (List ℕ)) (cause : Failure) (before after : World) : Type 0 where
  pub left : IsNotStarted cause words before after
  pub worded : MissesSessionWords cause words
  pub named : Told before.files (λ files. Names cause (IsSessionLoad words files))
  pub counted : FailedAs cause (record before { loads = after.loads }) after

-- a session was begun; or it was not, for a cause that is told
abbrev pub StartsSession : Result Talking StartErr → List (List ℕ) → World → World → Type 0
StartsSession (Ok d) words before after = IsNewSession words d before after
StartsSession (Err told) words before after = (cause : Failure) × IsRefusedAtStart words cause before after × IsToldBy cause told

-- ---- feeding

-- all that was fed is read, and each line that it ended is answered
pub record IsPieceFed (c : Call) (piece : List ℕ) : Type 0 where
  pub fed : c.new.fed ≡ c.old.fed ++ piece
  pub talk : IsTalk c.new
  pub refused : c.new.refused ≡ None
  pub lines : List (List ℕ)
  pub ended : ended_lines c.new.fed ≡ ended_lines c.old.fed ++ lines
  pub answered : HasAnswered (stretch_of c) lines
  pub counted : NoneFailed c.before c.after

-- of the lines that the piece ends the first were answered, and then one was not; or there was no memory for the piece
pub record IsStopped (c : Call) (piece : List ℕ) (result : Status) : Type 0 where
  pub cause : Failure
  pub status : result ≡ status_of cause
  pub few : length (c.old.fed ++ piece) ≤ most_input
  pub lines : List (List ℕ)
  pub ended : ended_lines (c.old.fed ++ piece) ≡ ended_lines c.old.fed ++ lines
  pub stopped : StopsIn cause (stretch_of c) lines ⊎ IsUnread cause (stretch_of c)
  pub legal : IsLegal (query_in c.new.run) c.new.run.log
  pub counted : FailedAs cause c.before c.after

-- too much was fed, and nothing was done
abbrev pub IsTooLarge : Call → List ℕ → Status → Type 0
IsTooLarge c piece result = (result ≡ status.TooLarge) × (most_input < length (c.old.fed ++ piece)) × (c.new.run ≡ c.old.run) × (c.after ≡ c.before)

-- a call that was refused, which later calls repeat
abbrev pub IsRefusedCall : Call → List ℕ → Status → Type 0
IsRefusedCall c piece result = (c.new.refused ≡ Some result) × (IsTooLarge c piece result ⊎ IsStopped c piece result)

-- nothing was done, since an earlier call was refused
abbrev pub Repeats : Result (Unit {0}) Status → Status → Call → Type 0
Repeats result first c = (result ≡ Err first) × (c.new ≡ c.old) × (c.after ≡ c.before)

abbrev pub FeedsOn : Result (Unit {0}) Status → Call → List ℕ → Type 0
FeedsOn (Ok x) c piece = IsPieceFed c piece
FeedsOn (Err s) c piece = IsRefusedCall c piece s

-- what feeding a piece does; the first refusal of earlier calls is the answer to all later ones
abbrev pub FeedsPiece : Option Status → Result (Unit {0}) Status → Call → List ℕ → Type 0
FeedsPiece None result c piece = FeedsOn result c piece
FeedsPiece (Some first) result c piece = Repeats result first c

-- ---- finishing

-- the last line was answered, and the run went to its end; or one of the two failed. The log is legal either way
abbrev pub FinishesOn : Result (Unit {0}) Status → Call → Type 0
FinishesOn (Ok x) c = (c.new.refused ≡ None) × AnswersLast (Ok x) (stretch_of c) (strip_carriage_return (open_line c.old.fed))
    × IsLegal (query_in c.new.run) c.new.run.log × NoneFailed c.before c.after
FinishesOn (Err s) c = (c.new.refused ≡ Some s) × ((cause : Failure) × (s ≡ status_of cause)
    × AnswersLast (Err cause) (stretch_of c) (strip_carriage_return (open_line c.old.fed))
    × IsLegal (query_in c.new.run) c.new.run.log × FailedAs cause c.before c.after)

abbrev pub FinishesAs : Option Status → Result (Unit {0}) Status → Call → Type 0
FinishesAs None result c = FinishesOn result c
FinishesAs (Some first) result c = (result ≡ Err first) × (c.new.refused ≡ c.old.refused) × (c.new.run ≡ c.old.run) × (c.after ≡ c.before)
