-- Which status a call ends with.
use Rattle.std.proofs.Common.{◌≡◌, ◌≢◌, ℕ, ◌<◌, ◌≤◌, ◌⊎◌, inl, inr, List, ◌++◌, map, Option, None, Some, Result, Ok, Err, IsOk, IsSome, true, refl, ap, ◌∙◌, arith}
use Rattle.std.specs.Prelude.{not}
use Rattle.std.specs.List.{list_all}
use Rattle.std.proofs.lemmas.Bool.{and_from}
use Rattle.std.proofs.lemmas.List.{map-append}
use Rattle.std.proofs.lemmas.List.Folds.{list_all-append}
use Rattle.amber_io.specs.Counts.{Rose}
use Rattle.amber_io.specs.Folder.{Named, Told}
use Rattle.amber_io.specs.World.{World}
use Rattle.amber_log.specs.declared.command.Command.{Command}
use Rattle.amber_log.specs.declared.log.Item.TheVariants as item
use Rattle.amber_meaning.specs.Legal.{Query, alters, query_over}
use Rattle.amber_meaning.specs.Total.{step_total}
use Rattle.amber_run.specs.Answering.{IsBrokenOff}
use Rattle.amber_course.specs.Course.{course_of}
use Rattle.amber_run.specs.Outcome.{Answers, Breaks, IsJobStatus, IsRunStatus, IsSinkStatus, MeetsLimit, MissesWords, Stops, StopsLong, Succeeds}
use Rattle.amber_run.specs.UnderWay.{Leaves}
use Rattle.amber_course.specs.Steps.{Tells}
use Rattle.amber_course.specs.Failure.{status_of}
use Rattle.amber_recorder.specs.Left.{AlterNothing}
use Rattle.amber_run.specs.RunTask.{RunTask, end_alone, most_steps}
use Rattle.amber_course.specs.Words.{call_words_of}
use Rattle.amber_recorder.specs.Writing.{FailedAs}
use Rattle.amber_course.specs.declared.job.Job.{Job}
use Rattle.amber_course.specs.declared.job.Job.TheVariants as job
use Rattle.amber_course.specs.declared.status.Status.{Status}
use Rattle.amber_course.specs.declared.status.Status.TheVariants as status
use Rattle.amber_course.specs.declared.failure.Failure.{Failure}
use Rattle.amber_course.specs.declared.failure.Failure.TheVariants as failure
use Rattle.amber_run.proofs.Ending.{course-none}
use Rattle.amber_course.proofs.Following.{tells-map, told-all, told-map}

pub told-tells : (told : Option Named) (P : Named → Type 0) → Tells told P → Told told P
told-tells None P h = tt
told-tells (Some files) P h = h

-- ---- the course decides

open-none : (j : Job) (result : Status) → result ≡ status.NoMemory → IsJobStatus j result
open-none (job.Plain inputs) result e = rw e tt
open-none (job.Run run) result e = rw e tt
open-none (job.Replay r) result e = rw e tt
open-none (job.Recover r) result e = rw e tt

open-ok : (j : Job) → IsJobStatus j status.Ok
open-ok (job.Plain inputs) = tt
open-ok (job.Run run) = tt
open-ok (job.Replay r) = tt
open-ok (job.Recover r) = tt

run-status : (t : RunTask) (s : Failure) (now : World) (result : Status) → Leaves t s now → result ≡ status_of s → IsRunStatus result
run-status t failure.LogFault now result h e = rw e tt
run-status t failure.OutFault now result h e = rw e tt
run-status t failure.Long now result h e = rw e tt
run-status t failure.NoMemory now result h e = rw e tt
run-status t other now result h e = absurd h

-- the status of a job that was broken off
open-broken : (j : Job) (s : Failure) (before mid : World) (result : Status) → IsBrokenOff j s before mid
    → result ≡ status_of s → IsJobStatus j result
open-broken (job.Plain inputs) failure.OutFault before mid result h e = rw e tt
open-broken (job.Plain inputs) other before mid result h e = absurd h
open-broken (job.Run run) s before mid result h e = run-status _ s mid result h e
open-broken (job.Replay r) failure.OutFault before mid result h e = rw e tt
open-broken (job.Replay r) other before mid result h e = absurd h
open-broken (job.Recover r) s before mid result h e = run-status _ s mid result h e

answers-none : (r : Result Job Failure) (result : Status) (a b : ℕ) → result ≡ status.NoMemory → Answers r result a b
answers-none (Ok j) result a b e = inl (open-none j result e)
answers-none (Err s) result a b e = inr (inl e)

answers-rose : (r : Result Job Failure) (result : Status) (a b : ℕ) → Rose a b → result ≡ status.ReadFault → Answers r result a b
answers-rose (Ok job) result a b rose e = inr (e, rose)
answers-rose (Err s) result a b rose e = inr (inr (e, rose))

answers-failure : (r : Result Job Failure) (s : Failure) (result : Status) (a b : ℕ) → r ≡ Err s → result ≡ status_of s → Answers r result a b
answers-failure r s result a b e is = rw e (inl is)

answers-open : (r : Result Job Failure) (j : Job) (result : Status) (a b : ℕ) → r ≡ Ok j → IsJobStatus j result → Answers r result a b
answers-open r j result a b e is = rw e (inl is)

pub answers-ok : (words : List (List ℕ)) (before mid : World) → Told before.files (λ files. Succeeds words files before mid)
    → Told before.files (λ files. Answers (course_of words files) status.Ok before.loads mid.loads)
answers-ok words before mid =
    told-map before.files (λ files. Succeeds words files before mid) (λ files. Answers (course_of words files) status.Ok before.loads mid.loads)
    (λ files p. answers-open (course_of words files) p.0 status.Ok before.loads mid.loads p.1 (open-ok p.0))

answers-broken : (words : List (List ℕ)) (s : Failure) (before mid : World) (result : Status) → Breaks words s before mid
    → result ≡ status_of s → Told before.files (λ files. Answers (course_of words files) result before.loads mid.loads)
answers-broken words s before mid result h is =
    told-map before.files (λ files. (one : Job) × (course_of words files ≡ Ok one) × IsBrokenOff one s before mid) (λ files. Answers (course_of words files) result before.loads mid.loads)
    (λ files p. answers-open (course_of words files) p.0 result before.loads mid.loads p.1 (open-broken p.0 s before mid result p.2 is)) h

answers-course : (words : List (List ℕ)) (s : Failure) (told : Option Named) (a b : ℕ) (result : Status) → Told told (λ files. course_of words files ≡ Err s) → result ≡ status_of s
    → Told told (λ files. Answers (course_of words files) result a b)
answers-course words s told a b result h is =
    told-map told (λ files. course_of words files ≡ Err s) (λ files. Answers (course_of words files) result a b) (λ files p. answers-failure (course_of words files) s result a b p is) h

answers-long : (words : List (List ℕ)) (before mid : World) (result : Status) → StopsLong words before mid → result ≡ status.Long
    → Told before.files (λ files. Answers (course_of words files) result before.loads mid.loads)
answers-long words before mid result (inl few) is = answers-course words failure.Long before.files before.loads mid.loads result few.0 is
answers-long words before mid result (inr breaks) is = answers-broken words failure.Long before mid result breaks is

pub answers : (s : Failure) (words : List (List ℕ)) (before mid : World) (result : Status)
    → Stops words s before mid → (result ≡ status_of s) ⊎ (result ≡ status.NoMemory)
    → Told before.files (λ files. Answers (course_of words files) result before.loads mid.loads)
answers s words before mid result r (inr none) =
    told-all before.files (λ files. Answers (course_of words files) result before.loads mid.loads) (λ files. answers-none (course_of words files) result before.loads mid.loads none)
answers failure.Usage words before mid result r (inl is) =
    told-all before.files (λ files. Answers (course_of words files) result before.loads mid.loads)
    (λ files. answers-failure (course_of words files) failure.Usage result before.loads mid.loads (course-none words files r.1) is)
answers (failure.ReadFault name) words before mid result r (inl is) =
    elim r.0 [
      | inl lacks ↦ answers-course words (failure.ReadFault name) before.files before.loads mid.loads result
          (told-tells before.files (λ files. course_of words files ≡ Err (failure.ReadFault name)) lacks.1) is
      | inr rose ↦ told-all before.files (λ files. Answers (course_of words files) result before.loads mid.loads)
          (λ files. answers-rose (course_of words files) result before.loads mid.loads rose is)
    ]
answers failure.LogFault words before mid result r (inl is) = answers-broken words failure.LogFault before mid result r.1 is
answers failure.OutFault words before mid result r (inl is) = answers-broken words failure.OutFault before mid result r.1 is
answers failure.Long words before mid result r (inl is) = answers-long words before mid result r.1 is
answers failure.NoMemory words before mid result r (inl is) =
    told-all before.files (λ files. Answers (course_of words files) result before.loads mid.loads) (λ files. answers-none (course_of words files) result before.loads mid.loads is)
answers other words before mid result r (inl is) = answers-course words other before.files before.loads mid.loads result r.0.1 is

-- ---- where the course has a job

not-both : (r : Result Job Failure) (s : Failure) → IsOk r → r ≡ Err s → ⊥
not-both (Ok job) s ok e = cc
not-both (Err t) s ok e = cc

later-rose : (c d e : ℕ) → Rose c d → d ≤ e → Rose c e
later-rose c d e rose le = omega (arith, rose, le)

-- where a script alters nothing its query has too many steps
abbrev pub HasTooMany : List Command → Query → Type 0
HasTooMany commands query = AlterNothing commands → most_steps < step_total query

-- so it is with the script of a run or of a recovery
abbrev IsOver : Result Job Failure → Type 0
IsOver (Ok (job.Plain inputs)) = ⊥
IsOver (Ok (job.Run run)) = HasTooMany run.commands (query_over run.inputs.flow run.inputs.files run.batch_size most_steps)
IsOver (Ok (job.Replay r)) = ⊥
IsOver (Ok (job.Recover r)) = HasTooMany r.commands (query_over r.inputs.flow r.inputs.files r.old.batch most_steps)
IsOver (Err s) = ⊥

-- memory ran out, the log or the sink failed, or the steps were too many
abbrev pub IsLate : Result Job Failure → Status → World → World → ℕ → Type 0
IsLate r result before mid puts =
    (result ≡ status.NoMemory) ⊎ ((result ≡ status.LogFault) × Rose before.writes mid.writes) ⊎ ((result ≡ status.OutFault) × Rose before.puts puts)
    ⊎ ((result ≡ status.Long) × IsOver r)

-- where the course has a job, and no load failed
abbrev pub MayBeLate : List (List ℕ) → Status → World → World → ℕ → Type 0
MayBeLate words result before mid puts = Told before.files (λ files. IsOk (course_of words files) → ¬ (Rose before.loads mid.loads) → IsLate (course_of words files) result before mid puts)

-- the last command alters nothing either
with-end : (script : List Command) → AlterNothing script → AlterNothing (script ++ end_alone)
with-end script h =
    ap (λ items. list_all (λ one. not (alters one)) items) (map-append item.Do script end_alone)
    ∙ list_all-append (λ one. not (alters one)) (map item.Do script) (map item.Do end_alone) ∙ and_from (list_all (λ one. not (alters one)) (map item.Do script)) true h refl

over-of : (r : Result Job Failure) (j : Job) (before mid : World) → r ≡ Ok j → IsBrokenOff j failure.Long before mid → IsOver r
over-of r (job.Plain inputs) before mid e h = absurd h
over-of r (job.Run run) before mid e h = rw e (λ nothing. h.1 (with-end run.commands nothing))
over-of r (job.Replay one) before mid e h = absurd h
over-of r (job.Recover one) before mid e h = rw e (λ nothing. h.1 (with-end one.commands nothing))

late-long : (words : List (List ℕ)) (before mid : World) (puts : ℕ) (result : Status) → StopsLong words before mid → result ≡ status.Long → MayBeLate words result before mid puts
late-long words before mid puts result (inl few) is =
    told-map before.files (λ files. course_of words files ≡ Err failure.Long) (λ files. IsOk (course_of words files) → ¬ (Rose before.loads mid.loads) → IsLate (course_of words files) result before mid puts)
    (λ files p ok quiet. absurd (not-both (course_of words files) failure.Long ok p)) few.0
late-long words before mid puts result (inr breaks) is =
    told-map before.files (λ files. (one : Job) × (course_of words files ≡ Ok one) × IsBrokenOff one failure.Long before mid)
    (λ files. IsOk (course_of words files) → ¬ (Rose before.loads mid.loads) → IsLate (course_of words files) result before mid puts)
    (λ files p ok quiet. inr (inr (inr (is, over-of (course_of words files) p.0 before mid p.1 p.2)))) breaks

pub lates : (s : Failure) (words : List (List ℕ)) (before mid : World) (puts : ℕ) (result : Status)
    → Stops words s before mid → FailedAs s (record before { loads = mid.loads }) mid → mid.puts ≤ puts
    → (result ≡ status_of s) ⊎ (result ≡ status.NoMemory) → MayBeLate words result before mid puts
lates s words before mid puts result r m le (inr none) =
    told-all before.files (λ files. IsOk (course_of words files) → ¬ (Rose before.loads mid.loads) → IsLate (course_of words files) result before mid puts) (λ files ok quiet. inl none)
lates failure.Usage words before mid puts result r m le (inl is) =
    told-all before.files (λ files. IsOk (course_of words files) → ¬ (Rose before.loads mid.loads) → IsLate (course_of words files) result before mid puts)
    (λ files ok quiet. absurd (not-both (course_of words files) failure.Usage ok (course-none words files r.1)))
lates (failure.ReadFault name) words before mid puts result r m le (inl is) =
    elim r.0 [
      | inl lacks ↦ told-map before.files (λ files. course_of words files ≡ Err (failure.ReadFault name))
          (λ files. IsOk (course_of words files) → ¬ (Rose before.loads mid.loads) → IsLate (course_of words files) result before mid puts)
          (λ files p ok quiet. absurd (not-both (course_of words files) (failure.ReadFault name) ok p))
          (told-tells before.files (λ files. course_of words files ≡ Err (failure.ReadFault name)) lacks.1)
      | inr rose ↦ told-all before.files (λ files. IsOk (course_of words files) → ¬ (Rose before.loads mid.loads) → IsLate (course_of words files) result before mid puts) (λ files ok quiet. absurd (quiet rose))
    ]
lates failure.LogFault words before mid puts result r m le (inl is) =
    told-all before.files (λ files. IsOk (course_of words files) → ¬ (Rose before.loads mid.loads) → IsLate (course_of words files) result before mid puts) (λ files ok quiet. inr (inl (is, m.1.1)))
lates failure.OutFault words before mid puts result r m le (inl is) =
    told-all before.files (λ files. IsOk (course_of words files) → ¬ (Rose before.loads mid.loads) → IsLate (course_of words files) result before mid puts)
    (λ files ok quiet. inr (inr (inl (is, later-rose before.puts mid.puts puts m.2.1 le))))
lates failure.Long words before mid puts result r m le (inl is) = late-long words before mid puts result r.1 is
lates failure.NoMemory words before mid puts result r m le (inl is) =
    told-all before.files (λ files. IsOk (course_of words files) → ¬ (Rose before.loads mid.loads) → IsLate (course_of words files) result before mid puts) (λ files ok quiet. inl is)
lates other words before mid puts result r m le (inl is) =
    told-map before.files (λ files. course_of words files ≡ Err other) (λ files. IsOk (course_of words files) → ¬ (Rose before.loads mid.loads) → IsLate (course_of words files) result before mid puts)
    (λ files p ok quiet. absurd (not-both (course_of words files) other ok p)) r.0.1

within-ok : (r : Result Job Failure) → MeetsLimit r → IsOk r
within-ok (Ok j) h = refl
within-ok (Err s) h = absurd h

within-over : (r : Result Job Failure) → MeetsLimit r → IsOver r → ⊥
within-over (Ok (job.Plain inputs)) h over = over
within-over (Ok (job.Run run)) h over = omega (arith, h.1, over h.0)
within-over (Ok (job.Replay r)) h over = over
within-over (Ok (job.Recover r)) h over = omega (arith, h.1, over h.0)
within-over (Err s) h over = over

-- with no count risen, and steps within the limit, only memory can be wanting
late-none : (r : Result Job Failure) (result : Status) (before mid : World) (puts : ℕ) → IsLate r result before mid puts → MeetsLimit r → ¬ (Rose before.writes mid.writes) → ¬ (Rose before.puts puts)
    → (result ≡ status.Ok) ⊎ (result ≡ status.NoMemory)
late-none r result before mid puts (inl none) within kept quiet = inr none
late-none r result before mid puts (inr (inl log)) within kept quiet = absurd (kept log.1)
late-none r result before mid puts (inr (inr (inl out))) within kept quiet = absurd (quiet out.1)
late-none r result before mid puts (inr (inr (inr long))) within kept quiet = absurd (within-over r within long.1)

-- a status where only the sink has failed
late-sink : (r : Result Job Failure) (result : Status) (before mid : World) (puts : ℕ) → (IsOk r → IsLate r result before mid puts) → ¬ (Rose before.writes mid.writes) → IsSinkStatus r result
late-sink (Err s) result before mid puts late kept = tt
late-sink (Ok (job.Plain inputs)) result before mid puts late kept =
    elim (late refl) [
      | inl none ↦ inr none
      | inr rest ↦ elim rest [ inl log ↦ absurd (kept log.1) | inr more ↦ elim more [ inl out ↦ inl out.0 | inr long ↦ absurd long.1 ] ]
    ]
late-sink (Ok (job.Replay r)) result before mid puts late kept =
    elim (late refl) [
      | inl none ↦ inr none
      | inr rest ↦ elim rest [ inl log ↦ absurd (kept log.1) | inr more ↦ elim more [ inl out ↦ inl out.0 | inr long ↦ absurd long.1 ] ]
    ]
late-sink (Ok (job.Run run)) result before mid puts late kept =
    elim (late refl) [
      | inl none ↦ inr (inr none)
      | inr rest ↦ elim rest [ inl log ↦ absurd (kept log.1) | inr more ↦ elim more [ inl out ↦ inl out.0 | inr long ↦ inr (inl long.0) ] ]
    ]
late-sink (Ok (job.Recover r)) result before mid puts late kept =
    elim (late refl) [
      | inl none ↦ inr (inr none)
      | inr rest ↦ elim rest [ inl log ↦ absurd (kept log.1) | inr more ↦ elim more [ inl out ↦ inl out.0 | inr long ↦ inr (inl long.0) ] ]
    ]

pub complete : (words : List (List ℕ)) (before mid : World) (puts : ℕ) (result : Status) → MayBeLate words result before mid puts
    → Told before.files (λ files. MeetsLimit (course_of words files) → ¬ (Rose before.loads mid.loads) → ¬ (Rose before.writes mid.writes) → ¬ (Rose before.puts puts)
    → (result ≡ status.Ok) ⊎ (result ≡ status.NoMemory))
complete words before mid puts result =
    told-map before.files (λ files. IsOk (course_of words files) → ¬ (Rose before.loads mid.loads) → IsLate (course_of words files) result before mid puts)
    (λ files. MeetsLimit (course_of words files) → ¬ (Rose before.loads mid.loads) → ¬ (Rose before.writes mid.writes) → ¬ (Rose before.puts puts) → (result ≡ status.Ok) ⊎ (result ≡ status.NoMemory))
    (λ files late within read kept quiet. late-none (course_of words files) result before mid puts (late (within-ok (course_of words files) within) read) within kept quiet)

pub puts-grow : (words : List (List ℕ)) (before mid : World) (puts : ℕ) (result : Status) → MayBeLate words result before mid puts
    → Told before.files (λ files. ¬ (Rose before.loads mid.loads) → ¬ (Rose before.writes mid.writes) → before.puts < puts → IsSinkStatus (course_of words files) result)
puts-grow words before mid puts result =
    told-map before.files (λ files. IsOk (course_of words files) → ¬ (Rose before.loads mid.loads) → IsLate (course_of words files) result before mid puts)
    (λ files. ¬ (Rose before.loads mid.loads) → ¬ (Rose before.writes mid.writes) → before.puts < puts → IsSinkStatus (course_of words files) result)
    (λ files late read kept grew. late-sink (course_of words files) result before mid puts (λ ok. late ok read) kept)

-- ---- the status over any files

pub usage-is : (s : Failure) (words : List (List ℕ)) (before mid : World) (result : Status)
    → Stops words s before mid → (result ≡ status_of s) ⊎ (result ≡ status.NoMemory) → result ≡ status.Usage → call_words_of words ≡ None
usage-is s words before mid result r (inr none) e = cc
usage-is failure.Usage words before mid result r (inl is) e = r.1
usage-is other words before mid result r (inl is) e = cc

no-word : (words : List (List ℕ)) → IsSome (call_words_of words) → call_words_of words ≡ None → ⊥
no-word words h e = let none = rw e at h in cc

pub words-bad : (s : Failure) (words : List (List ℕ)) (result : Status) → MissesWords s words → (result ≡ status_of s) ⊎ (result ≡ status.NoMemory)
    → call_words_of words ≡ None → (result ≡ status.Usage) ⊎ (result ≡ status.NoMemory)
words-bad s words result h (inr none) e = inr none
words-bad failure.Usage words result h (inl is) e = inl is
words-bad failure.NoMemory words result h (inl is) e = inr is
words-bad other words result h (inl is) e = absurd (no-word words h e)

pub words-ok : (words : List (List ℕ)) (P : Type 0) → IsSome (call_words_of words) → call_words_of words ≡ None → P
words-ok words P h e = absurd (no-word words h e)

pub read-is : (s : Failure) (words : List (List ℕ)) (before mid : World) (result : Status)
    → Stops words s before mid → (result ≡ status_of s) ⊎ (result ≡ status.NoMemory) → result ≡ status.ReadFault
    → Rose before.loads mid.loads ⊎ Tells before.files (λ files. (name : List ℕ) × (course_of words files ≡ Err (failure.ReadFault name)))
read-is s words before mid result r (inr none) e = cc
read-is (failure.ReadFault name) words before mid result r (inl is) e =
    elim r.0 [
      | inl lacks ↦ inr (tells-map before.files (λ files. course_of words files ≡ Err (failure.ReadFault name)) (λ files. (name : List ℕ) × (course_of words files ≡ Err (failure.ReadFault name)))
          (λ files p. (name, p)) lacks.1)
      | inr rose ↦ inl rose
    ]
read-is other words before mid result r (inl is) e = cc

pub loads-grow : (s : Failure) (words : List (List ℕ)) (before mid : World) (result : Status)
    → Stops words s before mid → (result ≡ status_of s) ⊎ (result ≡ status.NoMemory) → before.loads < mid.loads → (result ≡ status.ReadFault) ⊎ (result ≡ status.NoMemory)
loads-grow s words before mid result r (inr none) h = inr none
loads-grow failure.Usage words before mid result r (inl is) h = absurd (omega (arith, r.0, h))
loads-grow failure.LogFault words before mid result r (inl is) h = absurd (omega (arith, r.0, h))
loads-grow failure.OutFault words before mid result r (inl is) h = absurd (omega (arith, r.0, h))
loads-grow failure.Long words before mid result r (inl is) h = absurd (omega (arith, r.0, h))
loads-grow (failure.ReadFault name) words before mid result r (inl is) h = inl is
loads-grow failure.NoMemory words before mid result r (inl is) h = inr is
loads-grow other words before mid result r (inl is) h = absurd (omega (arith, r.0.0, h))

pub out-rose : (s : Failure) (before mid : World) (puts : ℕ) (result : Status) → FailedAs s (record before { loads = mid.loads }) mid → mid.puts ≤ puts
    → (result ≡ status_of s) ⊎ (result ≡ status.NoMemory) → result ≡ status.OutFault → Rose before.puts puts
out-rose s before mid puts result n le (inr none) is-out = cc
out-rose failure.OutFault before mid puts result n le (inl is) is-out = later-rose before.puts mid.puts puts n.2.1 le
out-rose other before mid puts result n le (inl is) is-out = cc

pub log-rose : (s : Failure) (before mid : World) (result : Status) → FailedAs s (record before { loads = mid.loads }) mid → (result ≡ status_of s) ⊎ (result ≡ status.NoMemory)
    → result ≡ status.LogFault → Rose before.writes mid.writes
log-rose s before mid result n (inr none) is-log = cc
log-rose failure.LogFault before mid result n (inl is) is-log = n.1.1
log-rose other before mid result n (inl is) is-log = cc

pub writes-grow : (s : Failure) (before mid : World) (result : Status) → FailedAs s (record before { loads = mid.loads }) mid → (result ≡ status_of s) ⊎ (result ≡ status.NoMemory)
    → before.writes < mid.writes → (result ≡ status.LogFault) ⊎ (result ≡ status.NoMemory)
writes-grow s before mid result n (inr none) h = inr none
writes-grow failure.LogFault before mid result n (inl is) h = inl is
writes-grow failure.OutFault before mid result n (inl is) h = absurd (omega (arith, n.1, h))
writes-grow other before mid result n (inl is) h = absurd (omega (arith, n.1, h))

-- a status other than of a log that failed
pub log-unasked : (s : Failure) (result : Status) → s ≢ failure.LogFault → (result ≡ status_of s) ⊎ (result ≡ status.NoMemory) → result ≢ status.LogFault
log-unasked s result other (inr none) e = cc
log-unasked failure.LogFault result other (inl is) e = other refl
log-unasked others result other (inl is) e = cc
