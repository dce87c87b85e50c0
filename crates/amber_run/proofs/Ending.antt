-- What a call has done before its error line.
use Rattle.std.proofs.Common.{◌≡◌, ℕ, inl, inr, List, Option, None, Some, Result, Ok, Err, refl, ap, subst, ◌∙◌}
use Rattle.std.specs.Prelude.{⊤}
use Rattle.std.specs.Result.{IfErr}
use Rattle.amber_io.specs.Folder.{Named, Told}
use Rattle.amber_io.specs.World.{LoadsOnly, World}
use Rattle.amber_course.specs.Ready.{IsAskedBy, WritesNothing}
use Rattle.amber_course.specs.Course.{IsLoaded, IsReached, course_of, job_of, require_limit, then_on}
use Rattle.amber_course.specs.Steps.{AreRead, Names, Stopped}
use Rattle.amber_course.specs.Words.{call_words_of}
use Rattle.amber_course.specs.declared.job.Job.{Job}
use Rattle.amber_course.specs.declared.words.Words.{Words}
use Rattle.amber_course.specs.declared.words.Words.TheVariants as form
use Rattle.amber_course.specs.declared.failure.Failure.{Failure}
use Rattle.amber_course.specs.declared.failure.Failure.TheVariants as failure
use Rattle.amber_course.proofs.Following.{names-map, stopped-map, then-err, then-ok, told-all, told-map}
use Rattle.amber_run.specs.Answering.{IsBrokenOff, IsUntouched, Works}
use Rattle.amber_run.specs.Outcome.{AsksNoRun, Breaks, MissesWords, Runs, Stops, Succeeds, Worded, WroteNothing}
use Rattle.amber_recorder.specs.Writing.{Counted, FailedAs}
use Rattle.amber_recorder.proofs.Halting.{keeps-same}

-- ---- the run

course-read : (words : List (List ℕ)) (read : Words) (files : Named) → call_words_of words ≡ Some read → course_of words files ≡ then_on (job_of read files) require_limit
unfolding course_of
course-read words read files e = rw e refl

pub course-none : (words : List (List ℕ)) (files : Named) → call_words_of words ≡ None → course_of words files ≡ Err failure.Usage
unfolding course_of
course-none words files e = rw e refl

-- a job was prepared, and this is said of it
pub course-job : (words : List (List ℕ)) (read : Words) (files : Named) (job : Job) (said : Result Job Failure) → call_words_of words ≡ Some read → job_of read files ≡ Ok job → require_limit job ≡ said
    → course_of words files ≡ said
course-job words read files job said e j l = course-read words read files e ∙ then-ok (job_of read files) job require_limit said j l

-- no job was prepared
course-failure : (words : List (List ℕ)) (read : Words) (files : Named) (s : Failure) → call_words_of words ≡ Some read → job_of read files ≡ Err s → course_of words files ≡ Err s
course-failure words read files s e j = course-read words read files e ∙ then-err (job_of read files) s require_limit j

untouched : (before after : World) → LoadsOnly before after → IsUntouched before after
untouched before after only = (ap (λ (w : World). w.files) only, keeps-same before.got after.got (ap (λ (w : World). w.got) only))

-- the words were refused
pub run-words : (s : Failure) (words : List (List ℕ)) (world : World) → AreRead (Err s) (call_words_of words) → Stops words s world world
run-words failure.Usage words world e = (refl, e, untouched world world refl)
run-words failure.NoMemory words world e = inl (untouched world world refl)
run-words other words world e = absurd e

-- there was no job
pub run-failure : (s : Failure) (words : List (List ℕ)) (read : Words) (before after : World) → call_words_of words ≡ Some read
    → Stopped s (λ files. job_of read files ≡ Err s) before after → LoadsOnly before after → Stops words s before after
run-failure failure.Usage words read before after e h only = absurd h
run-failure failure.LogFault words read before after e h only = absurd h
run-failure failure.OutFault words read before after e h only = absurd h
run-failure failure.Long words read before after e h only = (
  h.0,
  inl (
    told-map before.files (λ files. job_of read files ≡ Err failure.Long) (λ files. course_of words files ≡ Err failure.Long) (λ files j. course-failure words read files failure.Long e j) h.1,
    untouched before after only,
  ),
)
run-failure failure.NoMemory words read before after e h only = inl (untouched before after only)
run-failure other words read before after e h only = (
  stopped-map other (λ files. job_of read files ≡ Err other) (λ files. course_of words files ≡ Err other) before after (λ files j. course-failure words read files other e j) h,
  untouched before after only,
)

broken : (s : Failure) (words : List (List ℕ)) (read : Words) (job : Job) (before after : World) → call_words_of words ≡ Some read
    → Told before.files (λ files. job_of read files ≡ Ok job) → require_limit job ≡ Ok job → IsBrokenOff job s before after → Breaks words s before after
broken s words read job before after e h l breaks =
    told-map before.files (λ files. job_of read files ≡ Ok job) (λ files. (one : Job) × (course_of words files ≡ Ok one) × IsBrokenOff one s before after)
    (λ files j. (job, course-job words read files job (Ok job) e j l, breaks)) h

-- the job was done, or not
pub run-works : {A : Type 0} (r : Result A Failure) (words : List (List ℕ)) (read : Words) (job : Job) (before after : World) → call_words_of words ≡ Some read
    → Told before.files (λ files. job_of read files ≡ Ok job) → Works r job before after → Counted r before after → Runs r words before after
run-works (Ok x) words read job before after e h done k = (
  k.0,
  told-map before.files (λ files. job_of read files ≡ Ok job) (λ files. Succeeds words files before after)
      (λ files j. (job, course-job words read files job (Ok job) e j done.0, done.1)) h,
)
run-works (Err failure.LogFault) words read job before after e h done k = (k.0, broken failure.LogFault words read job before after e h done.0 done.1)
run-works (Err failure.OutFault) words read job before after e h done k = (k.0, broken failure.OutFault words read job before after e h done.0 done.1)
run-works (Err failure.Long) words read job before after e h (inl done) k = (
  k.0,
  inl (
    told-map before.files (λ files. job_of read files ≡ Ok job) (λ files. course_of words files ≡ Err failure.Long)
        (λ files j. course-job words read files job (Err failure.Long) e j done.0) h,
    done.1,
  ),
)
run-works (Err failure.Long) words read job before after e h (inr done) k = (k.0, inr (broken failure.Long words read job before after e h done.0 done.1))
run-works (Err failure.NoMemory) words read job before after e h (inl done) k = inl done
run-works (Err failure.NoMemory) words read job before after e h (inr done) k = inr (k.0, broken failure.NoMemory words read job before after e h done.0 done.1)
run-works (Err (failure.BadLog line why)) words read job before after e h done k = (
  (
    k.0,
    told-map before.files (λ files. job_of read files ≡ Ok job) (λ files. course_of words files ≡ Err (failure.BadLog line why))
        (λ files j. course-job words read files job (Err (failure.BadLog line why)) e j done.0) h,
  ),
  done.1,
)
run-works (Err other) words read job before after e h done k = absurd done

-- ---- counts

pub words-counts : (s : Failure) (words : List (List ℕ)) (world : World) → AreRead (Err s) (call_words_of words) → FailedAs s world world
words-counts failure.Usage words world h = (refl, refl, refl)
words-counts failure.NoMemory words world h = (refl, refl, refl)
words-counts other words world h = absurd h

stopped-counts : (s : Failure) (meant : Named → Type 0) (before after world : World) → Stopped s meant before after → FailedAs s world world
stopped-counts failure.LogFault meant before after world h = absurd h
stopped-counts failure.OutFault meant before after world h = absurd h
stopped-counts other meant before after world h = (refl, refl, refl)

pub failure-counts : (s : Failure) (meant : Named → Type 0) (before after : World) → Stopped s meant before after → LoadsOnly before after
    → FailedAs s (record before { loads = after.loads }) after
failure-counts s meant before after h only = subst (λ w. FailedAs s w after) only (stopped-counts s meant before after after h)

-- loads that failed before a job have nothing to do with it
pub works-counts : {A : Type 0} (r : Result A Failure) (before after : World) → Counted r before after → Counted r (record before { loads = after.loads }) after
works-counts (Ok x) before after h = (refl, h.1, h.2)
works-counts (Err failure.LogFault) before after h = (refl, h.1, h.2)
works-counts (Err failure.OutFault) before after h = (refl, h.1, h.2)
works-counts (Err other) before after h = (refl, h.1, h.2)

-- ---- files that are named

pub reached-failure : (s : Failure) (words : List (List ℕ)) (read : Words) (told : Option Named) → call_words_of words ≡ Some read
    → Told told (λ files. Names s (IsLoaded read files)) → Told told (λ files. Names s (IsReached words files))
reached-failure s words read told e h =
    told-map told (λ files. Names s (IsLoaded read files)) (λ files. Names s (IsReached words files))
    (λ files one. names-map s (IsLoaded read files) (IsReached words files) (λ file is. (read, e, is)) one) h

-- words that were refused name no file
pub reached-words : (s : Failure) (words : List (List ℕ)) (told : Option Named) → AreRead (Err s) (call_words_of words) → Told told (λ files. Names s (IsReached words files))
reached-words (failure.ReadFault file) words told h = absurd h
reached-words other words told h = told-all told (λ files. ⊤) (λ files. tt)

-- a job that is done names no file
pub reached-works : {A : Type 0} (r : Result A Failure) (words : List (List ℕ)) (told : Option Named) (job : Job) (before after : World)
    → Works r job before after → Told told (λ files. IfErr r (λ s. Names s (IsReached words files)))
reached-works (Ok x) words told job before after h = told-all told (λ files. ⊤) (λ files. tt)
reached-works (Err (failure.ReadFault file)) words told job before after h = absurd h
reached-works (Err other) words told job before after h = told-all told (λ files. ⊤) (λ files. tt)

-- words that were refused, and no job, have nothing to do with the log
pub words-idle : (s : Failure) (words : List (List ℕ)) (world : World) → AreRead (Err s) (call_words_of words) → WroteNothing {A = Unit {0}} (Err s) world world
words-idle failure.Usage words world h = (refl, refl, λ e. cc)
words-idle failure.NoMemory words world h = (refl, refl, λ e. cc)
words-idle other words world h = absurd h

pub failure-idle : (s : Failure) (meant : Named → Type 0) (before after : World) → Stopped s meant before after → LoadsOnly before after
    → WroteNothing {A = Unit {0}} (Err s) before after
failure-idle failure.LogFault meant before after h only = absurd h
failure-idle other meant before after h only = (ap (λ (w : World). w.files) only, ap (λ (w : World). w.writes) only, λ e. cc)

-- ---- the words

pub worded-words : (s : Failure) (words : List (List ℕ)) → AreRead (Err s) (call_words_of words) → MissesWords s words
worded-words failure.Usage words h = h
worded-words failure.NoMemory words h = h
worded-words other words h = absurd h

pub worded-failure : (s : Failure) (words : List (List ℕ)) (read : Words) (meant : Named → Type 0) (before after : World) → call_words_of words ≡ Some read
    → Stopped s meant before after → MissesWords s words
worded-failure failure.Usage words read meant before after e h = absurd h
worded-failure other words read meant before after e h = rw e refl

pub worded-works : {A : Type 0} (r : Result A Failure) (words : List (List ℕ)) (read : Words) (job : Job) (before after : World) → call_words_of words ≡ Some read
    → Works r job before after → Worded r words
worded-works (Ok x) words read job before after e h = rw e refl
worded-works (Err failure.Usage) words read job before after e h = absurd h
worded-works (Err other) words read job before after e h = rw e refl

-- words that ask for no run have a job that writes no file
pub plain-job : (meant : Option Words) (read : Words) (j : Job) → meant ≡ Some read → AsksNoRun meant → IsAskedBy read j → WritesNothing j
plain-job meant (form.Plain workflow) j e none is = is
plain-job meant (form.Run words) j e none is = absurd (rw e at none)
plain-job meant (form.Replay words) j e none is = is
plain-job meant (form.Recover words) j e none is = absurd (rw e at none)
