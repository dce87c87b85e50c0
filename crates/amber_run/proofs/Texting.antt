-- From a job to what is printed.
use Rattle.std.proofs.Common.{◌≡◌, ℕ, ◌<◌, ◌≤◌, List, nat_le, true, false, Result, Ok, Err, inl, inr, refl, ap, ◌∙◌, arith}
use Rattle.std.proofs.lemmas.Bool.Decides.{nat_tests}
use Rattle.amber_io.specs.World.{PutsOnly, World}
use Rattle.amber_meaning.specs.Plain.{row_total}
use Rattle.amber_meaning.specs.Texts.{answer_text}
use Rattle.amber_meaning.specs.declared.answer.Answer.{Answer}
use Rattle.amber_course.specs.Course.{most_rows, require_limit}
use Rattle.amber_course.specs.Loaded.{Loaded}
use Rattle.amber_course.specs.Steps.{Sent}
use Rattle.amber_course.specs.declared.job.ReplayJob.{ReplayJob}
use Rattle.amber_course.specs.declared.job.RunJob.{RunJob}
use Rattle.amber_course.specs.declared.job.Job.TheVariants as job
use Rattle.amber_course.specs.declared.failure.Failure.{Failure}
use Rattle.amber_course.specs.declared.failure.Failure.TheVariants as failure
use Rattle.amber_run.specs.Answering.{Fails, IsAnswer, IsReplayed, Works}
use Rattle.amber_run.specs.Outcome.{WroteNothing}
use Rattle.amber_run.specs.UnderWay.{Worked}
use Rattle.amber_run.specs.RunTask.{run_task_of}
use Rattle.amber_recorder.specs.Writing.{FailedAs}
use Rattle.amber_recorder.proofs.Halting.{keeps-same}

-- ---- how many rows there are

is-few : (rows most : ℕ) → rows ≤ most → nat_le rows most ≡ true
is-few rows most h = grind (arith, nat_tests)

is-long : (rows most : ℕ) → most < rows → nat_le rows most ≡ false
is-long rows most h = grind (arith, nat_tests)

few-limit : (inputs : Loaded) → row_total inputs.flow inputs.files ≤ most_rows → require_limit (job.Plain inputs) ≡ Ok (job.Plain inputs)
few-limit inputs h = rw (is-few (row_total inputs.flow inputs.files) most_rows h) refl

-- ---- no answer

pub unanswered : (s : Failure) (inputs : Loaded) (world : World) → IsAnswer (Err s) inputs.flow inputs.files → Fails s (job.Plain inputs) world world
unanswered failure.Long inputs world h =
    inl (rw (is-long (row_total inputs.flow inputs.files) most_rows h) refl, (refl, keeps-same world.got world.got refl))
unanswered failure.NoMemory inputs world h = inl (refl, keeps-same world.got world.got refl)
unanswered other inputs world h = absurd h

pub unanswered-counts : (s : Failure) (inputs : Loaded) (world : World) → IsAnswer (Err s) inputs.flow inputs.files → FailedAs s world world
unanswered-counts failure.Long inputs world h = (refl, refl, refl)
unanswered-counts failure.NoMemory inputs world h = (refl, refl, refl)
unanswered-counts other inputs world h = absurd h

pub unanswered-idle : (s : Failure) (inputs : Loaded) (world : World) → IsAnswer (Err s) inputs.flow inputs.files → WroteNothing {A = Unit {0}} (Err s) world world
unanswered-idle failure.LogFault inputs world h = absurd h
unanswered-idle other inputs world h = (refl, refl, λ e. cc)

-- ---- the text was put, or was not

pub works-sent : {A : Type 0} (x : A) (answer : Answer) (inputs : Loaded) (text : List ℕ) (before after : World) → IsAnswer (Ok answer) inputs.flow inputs.files
    → text ≡ answer_text inputs.flow answer → Sent {A = Unit {0}} (Ok tt) text before after → PutsOnly before after → Works (Ok x) (job.Plain inputs) before after
works-sent x answer inputs text before after is e h only = (
  few-limit inputs is.0,
  (ap (λ (w : World). w.files) only, rw (e ∙ ap (answer_text inputs.flow) is.1) at h.1),
)

pub works-unsent : (s : Failure) (answer : Answer) (inputs : Loaded) (text : List ℕ) (before after : World) → IsAnswer (Ok answer) inputs.flow inputs.files
    → text ≡ answer_text inputs.flow answer → Sent {A = Unit {0}} (Err s) text before after → PutsOnly before after → Fails s (job.Plain inputs) before after
works-unsent failure.OutFault answer inputs text before after is e h only = (
  few-limit inputs is.0,
  (ap (λ (w : World). w.files) only, rw (e ∙ ap (answer_text inputs.flow) is.1) at h.2),
)
works-unsent failure.NoMemory answer inputs text before after is e h only = inl (ap (λ (w : World). w.files) only, h.1)
works-unsent other answer inputs text before after is e h only = absurd h

pub unsent-counts : (s : Failure) (text : List ℕ) (before after : World) → Sent {A = Unit {0}} (Err s) text before after → PutsOnly before after → FailedAs s before after
unsent-counts failure.OutFault text before after h only = (ap (λ (w : World). w.loads) only, ap (λ (w : World). w.writes) only, (h.0, h.1))
unsent-counts failure.NoMemory text before after h only = (ap (λ (w : World). w.loads) only, ap (λ (w : World). w.writes) only, h.0)
unsent-counts other text before after h only = absurd h

pub unsent-idle : (s : Failure) (text : List ℕ) (before after : World) → Sent {A = Unit {0}} (Err s) text before after → PutsOnly before after → WroteNothing {A = Unit {0}} (Err s) before after
unsent-idle failure.LogFault text before after h only = absurd h
unsent-idle other text before after h only = (ap (λ (w : World). w.files) only, ap (λ (w : World). w.writes) only, λ e. cc)

-- ---- a replay

-- where no text is there
pub unreplayed : (s : Failure) (r : ReplayJob) (world : World) → IsReplayed (Err s) r → Fails s (job.Replay r) world world
unreplayed (failure.BadLog line why) r world h = (h, (refl, keeps-same world.got world.got refl))
unreplayed failure.NoMemory r world h = inl (refl, keeps-same world.got world.got refl)
unreplayed other r world h = absurd h

pub unreplayed-counts : (s : Failure) (r : ReplayJob) (world : World) → IsReplayed (Err s) r → FailedAs s world world
unreplayed-counts (failure.BadLog line why) r world h = (refl, refl, refl)
unreplayed-counts failure.NoMemory r world h = (refl, refl, refl)
unreplayed-counts other r world h = absurd h

pub unreplayed-idle : (s : Failure) (r : ReplayJob) (world : World) → IsReplayed (Err s) r → WroteNothing {A = Unit {0}} (Err s) world world
unreplayed-idle failure.LogFault r world h = absurd h
unreplayed-idle other r world h = (refl, refl, λ e. cc)

-- where it was put, or was not
pub replay-sent : {A : Type 0} (x : A) (r : ReplayJob) (text : List ℕ) (before after : World) → IsReplayed (Ok text) r → Sent {A = Unit {0}} (Ok tt) text before after
    → PutsOnly before after → Works (Ok x) (job.Replay r) before after
replay-sent x r text before after is h only = (is.0, (ap (λ (w : World). w.files) only, rw is.1 at h.1))

pub replay-unsent : (s : Failure) (r : ReplayJob) (text : List ℕ) (before after : World) → IsReplayed (Ok text) r → Sent {A = Unit {0}} (Err s) text before after
    → PutsOnly before after → Fails s (job.Replay r) before after
replay-unsent failure.OutFault r text before after is h only = (is.0, (ap (λ (w : World). w.files) only, rw is.1 at h.2))
replay-unsent failure.NoMemory r text before after is h only = inl (ap (λ (w : World). w.files) only, h.1)
replay-unsent other r text before after is h only = absurd h

-- ---- a run

pub works-run : {A : Type 0} (r : Result A Failure) (run : RunJob) (before after : World) → Worked r (run_task_of before run) after → Works r (job.Run run) before after
works-run (Ok x) run before after h = (refl, h)
works-run (Err failure.LogFault) run before after h = (refl, h)
works-run (Err failure.OutFault) run before after h = (refl, h)
works-run (Err failure.Long) run before after h = inr (refl, h)
works-run (Err failure.NoMemory) run before after h = inr (refl, h)
works-run (Err other) run before after h = absurd h
