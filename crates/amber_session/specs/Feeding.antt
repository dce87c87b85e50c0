-- What feeding and finishing a session leave.
use Rattle.std.specs.Prelude.{ℕ, ◌⊎◌, List, [], ◌∷◌, Result, Ok, Err}
use Rattle.amber_io.specs.World.{World}
use Rattle.amber_log.specs.declared.command.Command.TheVariants as command
use Rattle.amber_debug.specs.Session.{Session}
use Rattle.amber_course.specs.declared.failure.Failure.{Failure}
use Rattle.amber_recorder.specs.Recording.{Performs}
use Rattle.amber_script.specs.Script.{said_by}
use Rattle.amber_session.specs.Answers.{HasAnswered, IsSound, IsUnread, StopsAtLine, Stretch, doing}
use Rattle.amber_session.specs.Dialogue.{ReadsLines, Span}

-- bytes were fed, and read; or there was no memory to keep them
abbrev pub FeedsBytes : Result (Unit {0}) Failure → Stretch → Span → Type 0
FeedsBytes (Ok x) s span = ReadsLines (Ok x) s span
FeedsBytes (Err f) s span = ReadsLines (Err f) s span ⊎ IsUnread f s

-- the last line was answered, and then this came of the command to run to the end
pub record ComesToEnd (result : Result (Unit {0}) Failure) (s : Stretch) (line : List ℕ) : Type 0 where
  -- the debugger and the outside between the two
  pub mid : Session
  pub world : World
  pub answered : HasAnswered (record s { new = mid; after = world }) (line ∷ [])
  pub sound : IsSound mid
  pub ended : Performs result (doing (record s { old = mid; before = world }) command.End)

-- the last line was answered, and then came the end; or one of the two failed
abbrev pub AnswersLast : Result (Unit {0}) Failure → Stretch → List ℕ → Type 0
AnswersLast (Ok x) s line = ComesToEnd (Ok x) s line
AnswersLast (Err f) s line = StopsAtLine f s (said_by s.old.flow line) ⊎ ComesToEnd (Err f) s line
