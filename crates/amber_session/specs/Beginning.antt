-- What beginning a session leaves: its words are read, all that it needs is loaded, and its log is made.
use Rattle.std.specs.Prelude.{◌≡◌, ℕ, ◌⊎◌, List, [], Option, None, Some, Result, Ok, Err, IsSome}
use Rattle.amber_io.specs.Folder.{Named, Piece, Told}
use Rattle.amber_io.specs.World.{World}
use Rattle.amber_log.specs.LogText.{head_text}
use Rattle.amber_course.specs.SessionCourse.{IsSessionFile, session_course_of, session_words_of}
use Rattle.amber_course.specs.Steps.{Stopped}
use Rattle.amber_course.specs.declared.failure.Failure.{Failure}
use Rattle.amber_course.specs.declared.failure.Failure.TheVariants as failure
use Rattle.amber_course.specs.declared.session.SessionJob.{SessionJob}
use Rattle.amber_course.specs.declared.session.SessionWords.{SessionWords}
use Rattle.amber_recorder.specs.Recording.{MakesFile}
use Rattle.amber_session.specs.declared.dialogue.Dialogue.{Dialogue}

-- nothing was fed, and the log has no item
pub record IsBegun (job : SessionJob) (d : Dialogue) : Type 0 where
  pub flow : d.debugger.flow ≡ job.inputs.flow
  pub files : d.debugger.files ≡ job.inputs.files
  pub log : d.debugger.log ≡ record { batch = job.batch_size; items = [] }
  pub name : d.log_name ≡ job.log
  pub fed : d.input.bytes.items ≡ []

-- the head of a session's log
abbrev pub head_piece : SessionJob → Piece
head_piece job = record { name = job.log; bytes = head_text job.batch_size }

-- the log was made, with its head, or not
abbrev pub MakesLog : Result Dialogue Failure → SessionJob → World → World → Type 0
MakesLog (Ok d) job before after = IsBegun job d × MakesFile (Ok d) (head_piece job) before after × (after.got ≡ before.got)
MakesLog (Err f) job before after = MakesFile {A = Dialogue} (Err f) (head_piece job) before after × (after.got ≡ before.got)

-- no file has changed, and the sink got nothing
abbrev pub IsAsBefore : World → World → Type 0
IsAsBefore before after = (after.files ≡ before.files) × (after.got ≡ before.got)

-- the words ask for this session, and all that it needs is there and right
abbrev pub AskFor : List (List ℕ) → Option Named → SessionJob → Type 0
AskFor words told job = Told told (λ files. session_course_of words files ≡ Ok job)

-- why a session was not begun, and what that leaves
abbrev pub IsNotStarted : Failure → List (List ℕ) → World → World → Type 0
IsNotStarted failure.Usage words before after = (session_words_of words ≡ None) × (after.loads ≡ before.loads) × IsAsBefore before after
IsNotStarted failure.LogFault words before after = (job : SessionJob) × AskFor words before.files job × (after.loads ≡ before.loads) × MakesLog (Err failure.LogFault) job before after
IsNotStarted failure.NoMemory words before after =
    IsAsBefore before after ⊎ ((job : SessionJob) × AskFor words before.files job × (after.loads ≡ before.loads) × MakesLog (Err failure.NoMemory) job before after)
IsNotStarted other words before after = Stopped other (λ files. session_course_of words files ≡ Err other) before after × IsAsBefore before after

-- a session was begun, or it was not
abbrev pub IsStarted : Result Dialogue Failure → List (List ℕ) → World → World → Type 0
IsStarted (Ok d) words before after = (job : SessionJob) × AskFor words before.files job × (after.loads ≡ before.loads) × MakesLog (Ok d) job before after
IsStarted (Err f) words before after = IsNotStarted f words before after

-- the words are refused where they ask for nothing, and only there
abbrev pub MissesSessionWords : Failure → List (List ℕ) → Type 0
MissesSessionWords failure.Usage words = session_words_of words ≡ None
MissesSessionWords other words = IsSome (session_words_of words)

abbrev pub SessionWorded : {A : Type 0} → Result A Failure → List (List ℕ) → Type 0
SessionWorded (Ok x) words = IsSome (session_words_of words)
SessionWorded (Err f) words = MissesSessionWords f words

-- a file that the order of work loads
abbrev pub IsSessionLoad : List (List ℕ) → Named → List ℕ → Type 0
IsSessionLoad words files file = (read : SessionWords) × (session_words_of words ≡ Some read) × IsSessionFile read files file
