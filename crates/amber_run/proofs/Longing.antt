-- Where the answer of a call is `Long`.
use Rattle.std.proofs.Common.{◌≡◌, ◌≢◌, ℕ, ◌<◌, ◌≤◌, ◌⊎◌, inl, inr, List, [], ◌++◌, Option, None, Some, Result, Ok, Err, Bool, true, false, nat_le, refl, sym, ap, subst, ◌∙◌, arith}
use Rattle.std.specs.Prelude.{⊤}
use Rattle.std.proofs.lemmas.Bool.Decides.{nat_tests}
use Rattle.amber_io.specs.Counts.{Rose}
use Rattle.amber_io.specs.Folder.{Named, Told}
use Rattle.amber_io.specs.World.{World}
use Rattle.amber_course.specs.Loaded.{Loaded}
use Rattle.amber_log.specs.LogText.{log_text}
use Rattle.amber_log.proofs.Torn.{reads-whole}
use Rattle.amber_meaning.specs.Plain.{row_total}
use Rattle.amber_run.specs.Answering.{IsBrokenOff, Fulfils}
use Rattle.amber_course.specs.Course.{course_of, illegal_line_in, legal_or, require_limit, most_rows}
use Rattle.amber_course.specs.declared.job.ReplayJob.{ReplayJob}
use Rattle.amber_run.specs.Outcome.{Answers, AsksFor, Breaks, HoldsLog, IsLongWhere, IsPrintStatus, RecoversLong, RunsLong, Stops, StopsLong, Succeeds, TellsLong}
use Rattle.amber_log.specs.declared.log.Item.{Item}
use Rattle.amber_run.specs.UnderWay.{FailsAtBegun, IsLeft}
use Rattle.amber_course.specs.Failure.{status_of}
use Rattle.amber_run.specs.RunTask.{RunTask, recover_task_of, run_task_of}
use Rattle.amber_recorder.specs.Left.{ClosesAs, ends_long}
use Rattle.amber_run.proofs.Finishing.{closes-long}
use Rattle.amber_io.specs.Folder.{with_file}
use Rattle.amber_recorder.specs.Writing.{FailedAs}
use Rattle.amber_course.specs.declared.job.Job.{Job}
use Rattle.amber_course.specs.declared.job.Job.TheVariants as job
use Rattle.amber_course.specs.declared.status.Status.{Status}
use Rattle.amber_course.specs.declared.status.Status.TheVariants as status
use Rattle.amber_course.specs.declared.failure.Failure.{Failure}
use Rattle.amber_course.specs.declared.failure.Failure.TheVariants as failure
use Rattle.amber_run.proofs.Ending.{course-job, course-none}
use Rattle.amber_run.proofs.Deciding.{told-tells}
use Rattle.amber_course.proofs.Following.{told-all, told-both, told-map}

-- ---- rows

print-short : (result : Status) → IsPrintStatus result → result ≢ status.Long
print-short status.Ok h e = cc
print-short status.OutFault h e = cc
print-short status.NoMemory h e = cc
print-short other h e = absurd h

few-rows : (rows most : ℕ) → nat_le rows most ≡ true → most < rows → ⊥
few-rows rows most e over = grind (arith, nat_tests)

many-rows : (rows most : ℕ) → nat_le rows most ≡ false → most < rows
many-rows rows most e = grind (arith, nat_tests)

-- a printed answer, by whether there are too many rows
long-print : (inputs : Loaded) (result : Status) (a b : ℕ) (few : Bool) → nat_le (row_total inputs.flow inputs.files) most_rows ≡ few
    → Answers (require_limit (job.Plain inputs)) result a b → ¬ (Rose a b) → IsLongWhere result (most_rows < row_total inputs.flow inputs.files)
long-print inputs result a b true is h quiet =
    elim (rw is at h) [
      | inl print ↦ inr ((λ e. absurd (print-short result print e)), (λ over. absurd (few-rows (row_total inputs.flow inputs.files) most_rows is over)))
      | inr read ↦ absurd (quiet read.1)
    ]
long-print inputs result a b false is h quiet =
    elim (rw is at h) [
      | inl long ↦ inr ((λ e. many-rows (row_total inputs.flow inputs.files) most_rows is), (λ over. long))
      | inr rest ↦ elim rest [ inl none ↦ inl none | inr read ↦ absurd (quiet read.1) ]
    ]

-- a transcript that is printed, by whether the log is legal
long-replay : (r : ReplayJob) (result : Status) (a b : ℕ) (bad : Option ℕ) → Answers (legal_or r bad) result a b → ¬ (Rose a b) → result ≢ status.Long
long-replay r result a b None (inl print) quiet e = absurd (print-short result print e)
long-replay r result a b None (inr read) quiet e = absurd (quiet read.1)
long-replay r result a b (Some line) (inl is) quiet e = cc
long-replay r result a b (Some line) (inr (inl none)) quiet e = cc
long-replay r result a b (Some line) (inr (inr read)) quiet e = absurd (quiet read.1)

-- ---- logs

-- what was left of a log reads as it
left-holds : (before : World) (t : RunTask) (s : Failure) (now : World) → t.before.files ≡ before.files → (h : IsLeft t s now)
    → HoldsLog before.files now.files t.name (record { batch = h.batch; items = h.done ++ h.last })
left-holds before t s now same h = (h.bytes, h.place ∙ ap (λ files. with_file files t.name h.bytes) same, h.read)

-- the status is another
other-status : (result : Status) → result ≡ status.OutFault → result ≡ status.Long → ⊥
other-status result is e = let two : status.OutFault ≡ status.Long = sym is ∙ e in cc

not-long : (long : Bool) → long ≡ false → long ≡ true → ⊥
not-long long e f = let two : false ≡ true = sym e ∙ f in cc

-- what a run says that began from no items
short-run : (s : Failure) (begun done last : List Item) → s ≡ failure.OutFault → begun ≡ [] → ClosesAs s (ends_long false (done ++ last)) ⊎ FailsAtBegun s begun done last
    → ends_long false (done ++ last) ≡ false
short-run failure.OutFault begun done last e none (inl short) = short
short-run failure.OutFault begun done last e none (inr fails) = absurd (fails.3 none)
short-run other begun done last e none h = cc

-- what is to be said of a job
abbrev pub LongAs : Job → Status → World → World → Type 0
LongAs (job.Plain inputs) result before after = ⊤
LongAs (job.Run run) result before after = RunsLong result before after run.log
LongAs (job.Replay r) result before after = ⊤
LongAs (job.Recover r) result before after = RecoversLong result before after r.log

-- with another count of failed puts, and more put
abbrev puts_in : World → Option (List ℕ) → ℕ → World
puts_in mid got puts = record mid { got = got; puts = puts }

long-none : (one : Job) (result : Status) (before after : World) → result ≡ status.NoMemory → LongAs one result before after
long-none (job.Plain inputs) result before after none = tt
long-none (job.Run run) result before after none = inl none
long-none (job.Replay r) result before after none = tt
long-none (job.Recover r) result before after none = inl none

-- a job that was too long
broke-long : (one : Job) (before mid : World) (got : Option (List ℕ)) (puts : ℕ) (result : Status) → IsBrokenOff one failure.Long before mid → result ≡ status.Long
    → LongAs one result before (puts_in mid got puts)
broke-long (job.Plain inputs) before mid got puts result h is = tt
broke-long (job.Run run) before mid got puts result h is =
    let long = closes-long failure.Long [] h.0.done h.0.last refl h.0.closed in
    inr (record { batch = h.0.batch; items = h.0.done ++ h.0.last }, left-holds before (run_task_of before run) failure.Long mid refl h.0, ((λ e. long), (λ e. is)))
broke-long (job.Replay r) before mid got puts result h is = tt
broke-long (job.Recover r) before mid got puts result h is =
    let long = closes-long failure.Long r.old.items h.0.done h.0.last refl h.0.closed in
    inr (record { batch = h.0.batch; items = h.0.done ++ h.0.last }, left-holds before (recover_task_of before r) failure.Long mid refl h.0, (λ e. long), (λ e. inl is))

-- a job whose sink failed
broke-short : (one : Job) (before mid : World) (got : Option (List ℕ)) (puts : ℕ) (result : Status) → IsBrokenOff one failure.OutFault before mid → result ≡ status.OutFault
    → Rose before.puts puts → LongAs one result before (puts_in mid got puts)
broke-short (job.Plain inputs) before mid got puts result h is rose = tt
broke-short (job.Run run) before mid got puts result h is rose =
    let short = short-run failure.OutFault [] h.done h.last refl refl h.closed in
    inr (
      record { batch = h.batch; items = h.done ++ h.last },
      left-holds before (run_task_of before run) failure.OutFault mid refl h,
      ((λ e. absurd (other-status result is e)), (λ long. absurd (not-long (ends_long false (h.done ++ h.last)) short long))),
    )
broke-short (job.Replay r) before mid got puts result h is rose = tt
broke-short (job.Recover r) before mid got puts result h is rose =
    inr (
      record { batch = h.batch; items = h.done ++ h.last },
      left-holds before (recover_task_of before r) failure.OutFault mid refl h,
      (λ e. absurd (other-status result is e)),
      (λ long. inr (is, rose)),
    )

-- a job that was done
did-short : (one : Job) (before mid : World) → Fulfils one before mid → LongAs one status.Ok before mid
did-short (job.Plain inputs) before mid h = tt
did-short (job.Run run) before mid h =
    inr (
      h.log,
      (log_text h.log, h.way.place, reads-whole h.log h.way.legal.text),
      ((λ e. cc), (λ long. absurd (not-long (ends_long false h.log.items) h.way.short long))),
    )
did-short (job.Replay r) before mid h = tt
did-short (job.Recover r) before mid h =
    inr (
      h.log,
      (log_text h.log, h.way.place, reads-whole h.log h.way.legal.text),
      (λ e. cc),
      (λ long. absurd (not-long (ends_long false h.log.items) h.way.short long)),
    )

-- ---- what the course says

one-job : (r : Result Job Failure) (j k : Job) → r ≡ Ok j → r ≡ Ok k → j ≡ k
one-job r j k e f = let both : ◌≡◌ {A = Result Job Failure} (Ok j) (Ok k) = sym e ∙ f in cc

no-job : (r : Result Job Failure) (s : Failure) (j : Job) → r ≡ Err s → r ≡ Ok j → ⊥
no-job r s j e f = let both : ◌≡◌ {A = Result Job Failure} (Err s) (Ok j) = sym e ∙ f in cc

-- what is to be said of the job that the course has, where neither a load nor a write failed
abbrev pub IsJobLong : Result Job Failure → Status → World → World → Type 0
IsJobLong course result before after = (one : Job) → course ≡ Ok one → ¬ (Rose before.loads after.loads) → ¬ (Rose before.writes after.writes) → LongAs one result before after

abbrev pub AreJobsLong : List (List ℕ) → Status → World → World → Type 0
AreJobsLong words result before after = Told before.files (λ files. IsJobLong (course_of words files) result before after)

job-none : (words : List (List ℕ)) (before after : World) (result : Status) → result ≡ status.NoMemory → AreJobsLong words result before after
job-none words before after result none =
    told-all before.files (λ files. IsJobLong (course_of words files) result before after) (λ files one e read kept. long-none one result before after none)

job-cause : (s : Failure) (words : List (List ℕ)) (before after : World) (result : Status) → Told before.files (λ files. course_of words files ≡ Err s) → AreJobsLong words result before after
job-cause s words before after result =
    told-map before.files (λ files. course_of words files ≡ Err s) (λ files. IsJobLong (course_of words files) result before after)
    (λ files p one e read kept. absurd (no-job (course_of words files) s one p e))

-- what was broken off
job-broken : (s : Failure) (words : List (List ℕ)) (before mid after : World) (result : Status) → Breaks words s before mid
    → ((one : Job) → IsBrokenOff one s before mid → LongAs one result before after) → AreJobsLong words result before after
job-broken s words before mid after result h says =
    told-map before.files (λ files. (one : Job) × (course_of words files ≡ Ok one) × IsBrokenOff one s before mid) (λ files. IsJobLong (course_of words files) result before after)
    (λ files p one e read kept. says one (subst (λ j. IsBrokenOff j s before mid) (one-job (course_of words files) p.0 one p.1 e) p.2)) h

job-long : (words : List (List ℕ)) (before mid : World) (got : Option (List ℕ)) (puts : ℕ) (result : Status) → StopsLong words before mid → result ≡ status.Long
    → AreJobsLong words result before (puts_in mid got puts)
job-long words before mid got puts result (inl few) is = job-cause failure.Long words before (puts_in mid got puts) result few.0
job-long words before mid got puts result (inr breaks) is =
    job-broken failure.Long words before mid (puts_in mid got puts) result breaks (λ one h. broke-long one before mid got puts result h is)

later-rose : (c d e : ℕ) → Rose c d → d ≤ e → Rose c e
later-rose c d e rose le = omega (arith, rose, le)

job-stopped : (s : Failure) (words : List (List ℕ)) (before mid : World) (got : Option (List ℕ)) (puts : ℕ) (result : Status)
    → Stops words s before mid → FailedAs s (record before { loads = mid.loads }) mid → mid.puts ≤ puts → (result ≡ status_of s) ⊎ (result ≡ status.NoMemory)
    → AreJobsLong words result before (puts_in mid got puts)
job-stopped s words before mid got puts result r m le (inr none) = job-none words before (puts_in mid got puts) result none
job-stopped failure.Usage words before mid got puts result r m le (inl is) =
    told-all before.files (λ files. IsJobLong (course_of words files) result before (puts_in mid got puts))
    (λ files one e read kept. absurd (no-job (course_of words files) failure.Usage one (course-none words files r.1) e))
job-stopped (failure.ReadFault name) words before mid got puts result r m le (inl is) =
    elim r.0 [
      | inl lacks ↦ job-cause (failure.ReadFault name) words before (puts_in mid got puts) result (told-tells before.files (λ files. course_of words files ≡ Err (failure.ReadFault name)) lacks.1)
      | inr rose ↦ told-all before.files (λ files. IsJobLong (course_of words files) result before (puts_in mid got puts)) (λ files one e read kept. absurd (read rose))
    ]
job-stopped failure.LogFault words before mid got puts result r m le (inl is) =
    told-all before.files (λ files. IsJobLong (course_of words files) result before (puts_in mid got puts)) (λ files one e read kept. absurd (kept m.1.1))
job-stopped failure.OutFault words before mid got puts result r m le (inl is) =
    job-broken failure.OutFault words before mid (puts_in mid got puts) result r.1
    (λ one h. broke-short one before mid got puts result h is (later-rose before.puts mid.puts puts m.2.1 le))
job-stopped failure.Long words before mid got puts result r m le (inl is) = job-long words before mid got puts result r.1 is
job-stopped failure.NoMemory words before mid got puts result r m le (inl is) = job-none words before (puts_in mid got puts) result is
job-stopped other words before mid got puts result r m le (inl is) = job-cause other words before (puts_in mid got puts) result r.0.1

job-done : (words : List (List ℕ)) (before mid : World) → Told before.files (λ files. Succeeds words files before mid) → AreJobsLong words status.Ok before mid
job-done words before mid =
    told-map before.files (λ files. Succeeds words files before mid) (λ files. IsJobLong (course_of words files) status.Ok before mid)
    (λ files p one e read kept. subst (λ j. LongAs j status.Ok before mid) (one-job (course_of words files) p.0 one p.1 e) (did-short p.0 before mid p.2))

-- ---- all forms

-- what the clause says
abbrev pub IsLongTold : List (List ℕ) → Status → World → World → Type 0
IsLongTold words result before after =
    Told before.files (λ files. (one : Job) → AsksFor words files one → ¬ (Rose before.loads after.loads) → ¬ (Rose before.writes after.writes) → TellsLong one result before after)

long-job : (words : List (List ℕ)) (before after : World) (result : Status) (files : Named) (one : Job) → Answers (course_of words files) result before.loads after.loads
    → IsJobLong (course_of words files) result before after → AsksFor words files one → ¬ (Rose before.loads after.loads) → ¬ (Rose before.writes after.writes) → TellsLong one result before after
long-job words before after result files (job.Plain inputs) h run asks read kept =
    long-print inputs result before.loads after.loads (nat_le (row_total inputs.flow inputs.files) most_rows) refl
    (subst (λ r. Answers r result before.loads after.loads) (course-job words asks.0 files (job.Plain inputs) (require_limit (job.Plain inputs)) asks.1 asks.2 refl) h) read
long-job words before after result files (job.Replay one) h run asks read kept =
    long-replay one result before.loads after.loads (illegal_line_in one)
    (subst (λ r. Answers r result before.loads after.loads) (course-job words asks.0 files (job.Replay one) (require_limit (job.Replay one)) asks.1 asks.2 refl) h) read
long-job words before after result files (job.Run one) h run asks read kept =
    run (job.Run one) (course-job words asks.0 files (job.Run one) (Ok (job.Run one)) asks.1 asks.2 refl) read kept
long-job words before after result files (job.Recover one) h run asks read kept =
    λ legal. run (job.Recover one) (course-job words asks.0 files (job.Recover one) (Ok (job.Recover one)) asks.1 asks.2 legal) read kept

long-of : (words : List (List ℕ)) (before after : World) (result : Status) → Told before.files (λ files. Answers (course_of words files) result before.loads after.loads)
    → AreJobsLong words result before after → IsLongTold words result before after
long-of words before after result =
    told-both before.files (λ files. Answers (course_of words files) result before.loads after.loads) (λ files. IsJobLong (course_of words files) result before after)
    (λ files. (one : Job) → AsksFor words files one → ¬ (Rose before.loads after.loads) → ¬ (Rose before.writes after.writes) → TellsLong one result before after)
    (λ files h run one asks read kept. long-job words before after result files one h run asks read kept)

pub long-stopped : (s : Failure) (words : List (List ℕ)) (before mid : World) (got : Option (List ℕ)) (puts : ℕ) (result : Status)
    → Stops words s before mid → FailedAs s (record before { loads = mid.loads }) mid → mid.puts ≤ puts → (result ≡ status_of s) ⊎ (result ≡ status.NoMemory)
    → Told before.files (λ files. Answers (course_of words files) result before.loads mid.loads) → IsLongTold words result before (record mid { got = got; puts = puts })
long-stopped s words before mid got puts result r m le tells h =
    long-of words before (puts_in mid got puts) result h (job-stopped s words before mid got puts result r m le tells)

pub long-done : (words : List (List ℕ)) (before mid : World) → Told before.files (λ files. Succeeds words files before mid)
    → Told before.files (λ files. Answers (course_of words files) status.Ok before.loads mid.loads) → IsLongTold words status.Ok before mid
long-done words before mid p h = long-of words before mid status.Ok h (job-done words before mid p)
