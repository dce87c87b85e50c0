-- How a session is begun.
use Rattle.std.proofs.Common.{◌≡◌, inl, inr, List, ℕ, Some, Result, Ok, Err, ap}
use Rattle.amber_io.specs.Folder.{Named, Told}
use Rattle.amber_io.specs.World.{LoadsOnly, World}
use Rattle.amber_course.specs.SessionCourse.{session_course_of, session_of, session_words_of}
use Rattle.amber_course.specs.Steps.{Stopped}
use Rattle.amber_course.specs.declared.failure.Failure.{Failure}
use Rattle.amber_course.specs.declared.failure.Failure.TheVariants as failure
use Rattle.amber_course.specs.declared.session.SessionJob.{SessionJob}
use Rattle.amber_course.specs.declared.session.SessionWords.{SessionWords}
use Rattle.amber_course.proofs.Following.{stopped-map, told-map}
use Rattle.amber_recorder.specs.Writing.{Counted}
use Rattle.amber_session.specs.Beginning.{AskFor, MakesLog, IsNotStarted, IsStarted, IsAsBefore}
use Rattle.amber_session.specs.declared.dialogue.Dialogue.{Dialogue}

session-read : (words : List (List ℕ)) (read : SessionWords) (files : Named) (said : Result SessionJob Failure) → session_words_of words ≡ Some read → session_of read files ≡ said
    → session_course_of words files ≡ said
unfolding session_course_of
session-read words read files said e is = rw e is

untouched : (before after : World) → LoadsOnly before after → IsAsBefore before after
untouched before after only = (ap (λ (w : World). w.files) only, ap (λ (w : World). w.got) only)

-- there was nothing to begin
pub not-started : (f : Failure) (words : List (List ℕ)) (read : SessionWords) (before after : World) → session_words_of words ≡ Some read
    → Stopped f (λ files. session_of read files ≡ Err f) before after → LoadsOnly before after → IsNotStarted f words before after
not-started failure.Usage words read before after e h only = absurd h
not-started failure.LogFault words read before after e h only = absurd h
not-started failure.NoMemory words read before after e h only = inl (untouched before after only)
not-started other words read before after e h only = (
  stopped-map other (λ files. session_of read files ≡ Err other) (λ files. session_course_of words files ≡ Err other) before after
      (λ files j. session-read words read files (Err other) e j) h,
  untouched before after only,
)

-- the log was made for what was prepared, or not
pub begins-started : (r : Result Dialogue Failure) (words : List (List ℕ)) (read : SessionWords) (job : SessionJob) (before after : World) → session_words_of words ≡ Some read
    → Told before.files (λ files. session_of read files ≡ Ok job) → MakesLog r job before after → Counted r before after → IsStarted r words before after
begins-started r words read job before after e told = by-result r
  where
    ask : AskFor words before.files job
    ask = told-map before.files (λ files. session_of read files ≡ Ok job) (λ files. session_course_of words files ≡ Ok job) (λ files j. session-read words read files (Ok job) e j) told

    by-result : (r : Result Dialogue Failure) → MakesLog r job before after → Counted r before after → IsStarted r words before after
    by-result (Ok d) h k = (job, ask, k.0, h)
    by-result (Err failure.LogFault) h k = (job, ask, k.0, h)
    by-result (Err failure.NoMemory) h k = inr (job, ask, k.0, h)
    by-result (Err other) h k = absurd h.0
