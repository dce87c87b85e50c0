-- What a call answers, by what has changed and by what there is before and after.
use Rattle.std.proofs.Common.{◌≡◌, ℕ, inl, inr, List, [], ◌∷◌, ◌++◌, Option, None, Some, Ok, Err, refl, sym, ap, subst, ◌∙◌}
use Rattle.std.specs.Io.KnownBytes.{Appends}
use Rattle.std.proofs.KnownBytes.{Appends-nil, Appends-trans, Keeps-refl}
use Rattle.std.proofs.lemmas.List.{append-nil}
use Rattle.amber_io.specs.Folder.{Named, Told}
use Rattle.amber_io.specs.World.{PutsOnly, World}
use Rattle.amber_course.specs.Course.{course_of}
use Rattle.amber_course.specs.Failure.{error_line_of}
use Rattle.amber_course.specs.Steps.{Stopped}
use Rattle.amber_course.specs.declared.job.Job.{Job}
use Rattle.amber_course.specs.declared.job.Job.TheVariants as job
use Rattle.amber_course.specs.declared.status.Status.{Status}
use Rattle.amber_course.specs.declared.failure.Failure.{Failure}
use Rattle.amber_course.specs.declared.failure.Failure.TheVariants as failure
use Rattle.amber_course.proofs.Following.{told-map}
use Rattle.amber_run.specs.AnsweredByChange.{AnsweredBy, AnswersAreOne, BreaksBy, BreaksOffBy, Change, EndedBy, FulfilsBy, IsCause, IsUntouchedBy, StopsAreOne, StopsBy, StopsLongBy, SucceedsBy, ThenPuts, change_between, shown_in, showing}
use Rattle.amber_run.specs.Answering.{IsBrokenOff, Fulfils, IsUntouched}
use Rattle.amber_run.specs.Outcome.{Answered, Breaks, Ended, Stops, StopsLong, Succeeds}
use Rattle.amber_run.specs.RunTask.{recover_task_of, run_task_of}
use Rattle.amber_run.proofs.RunsShown.{done-from, done-to, keeps-then, leaves-from, leaves-to, puts-only, then-map}

-- ---- a change

-- from one to another, of which the sink has got this in the end
abbrev change_to : World → World → Option (List ℕ) → Change
change_to before world got = record { before = shown_in before; now = showing world.files got; loads = before.loads; loads_now = world.loads }

change-puts : (before world after : World) → PutsOnly world after → change_to before world after.got ≡ change_between before after
change-puts before world after only = sym (ap (λ (w : World). change_to before w after.got) only)

-- a sink that failed gets no line
none-put : (s : Failure) (line rest : List ℕ) → line ++ rest ≡ error_line_of s → s ≡ failure.OutFault → line ≡ []
none-put s [] rest e is = refl
none-put s (x ∷ xs) rest e is = absurd (cc (e ∙ ap error_line_of is))

-- ---- nothing was done

untouched-to : (line : List ℕ) (before after : World) → IsUntouchedBy line (change_between before after) → ThenPuts (IsUntouched before) line after
untouched-to line before after h = (record after { got = before.got }, (h.0, Keeps-refl before.got), h.1, puts-only after before.got)

untouched-from : (line : List ℕ) (before world : World) (got : Option (List ℕ)) → IsUntouched before world → Appends world.got got line → IsUntouchedBy line (change_to before world got)
untouched-from line before world got h p = (h.0, keeps-then before.got world.got got line h.1 p)

-- ---- a job

fulfils-to : (done : Job) (before after : World) → FulfilsBy done (change_between before after) → Fulfils done before after
fulfils-to (job.Plain inputs) before after h = h
fulfils-to (job.Run run) before after h = done-to (run_task_of before run) after h
fulfils-to (job.Replay r) before after h = h
fulfils-to (job.Recover r) before after h = done-to (recover_task_of before r) after h

fulfils-from : (done : Job) (before after : World) → Fulfils done before after → FulfilsBy done (change_between before after)
fulfils-from (job.Plain inputs) before after h = h
fulfils-from (job.Run run) before after h = done-from (run_task_of before run) after h
fulfils-from (job.Replay r) before after h = h
fulfils-from (job.Recover r) before after h = done-from (recover_task_of before r) after h

breaks_off-to : (done : Job) (s : Failure) (line : List ℕ) (before after : World) → (s ≡ failure.OutFault → line ≡ []) → BreaksOffBy done s line (change_between before after)
    → ThenPuts (IsBrokenOff done s before) line after
breaks_off-to (job.Plain inputs) failure.OutFault line before after none h = (after, h, subst (λ l. Appends after.got after.got l) (sym (none refl)) (Appends-nil after.got), refl)
breaks_off-to (job.Plain inputs) other line before after none h = absurd h
breaks_off-to (job.Run run) s line before after none h = leaves-to (run_task_of before run) s line after h
breaks_off-to (job.Replay r) failure.OutFault line before after none h = (after, h, subst (λ l. Appends after.got after.got l) (sym (none refl)) (Appends-nil after.got), refl)
breaks_off-to (job.Replay r) other line before after none h = absurd h
breaks_off-to (job.Recover r) s line before after none h = leaves-to (recover_task_of before r) s line after h

breaks_off-from : (done : Job) (s : Failure) (line : List ℕ) (before world : World) (got : Option (List ℕ)) → (s ≡ failure.OutFault → line ≡ []) → IsBrokenOff done s before world
    → Appends world.got got line → BreaksOffBy done s line (change_to before world got)
breaks_off-from (job.Plain inputs) failure.OutFault line before world got none h p =
    let part = h.1.0 in
    let whole : part ++ line ≡ part = ap (λ l. part ++ l) (none refl) ∙ append-nil part in
    (h.0, (part, h.1.1, h.1.2, subst (λ text. Appends before.got got text) whole (Appends-trans before.got world.got got part line h.1.3 p)))
breaks_off-from (job.Plain inputs) other line before world got none h p = absurd h
breaks_off-from (job.Run run) s line before world got none h p = leaves-from (run_task_of before run) s line world got h p
breaks_off-from (job.Replay r) failure.OutFault line before world got none h p =
    let part = h.1.0 in
    let whole : part ++ line ≡ part = ap (λ l. part ++ l) (none refl) ∙ append-nil part in
    (h.0, (part, h.1.1, h.1.2, subst (λ text. Appends before.got got text) whole (Appends-trans before.got world.got got part line h.1.3 p)))
breaks_off-from (job.Replay r) other line before world got none h p = absurd h
breaks_off-from (job.Recover r) s line before world got none h p = leaves-from (recover_task_of before r) s line world got h p

-- ---- what a call leaves

succeeds-to : (words : List (List ℕ)) (files : Named) (before after : World) → SucceedsBy words files before after → Succeeds words files before after
succeeds-to words files before after h = (h.0, h.1, fulfils-to h.0 before after h.2)

succeeds-from : (words : List (List ℕ)) (files : Named) (before after : World) → Succeeds words files before after → SucceedsBy words files before after
succeeds-from words files before after h = (h.0, h.1, fulfils-from h.0 before after h.2)

-- over files that are known or not
broken-to : (told : Option Named) (words : List (List ℕ)) (s : Failure) (line : List ℕ) (before after : World) → (s ≡ failure.OutFault → line ≡ [])
    → Told told (λ files. (done : Job) × (course_of words files ≡ Ok done) × BreaksOffBy done s line (change_between before after))
    → ThenPuts (λ world. Told told (λ files. (done : Job) × (course_of words files ≡ Ok done) × IsBrokenOff done s before world)) line after
broken-to None words s line before after none h = (record after { got = None }, tt, tt, puts-only after None)
broken-to (Some files) words s line before after none h =
    then-map (IsBrokenOff h.0 s before) (λ world. (done : Job) × (course_of words files ≡ Ok done) × IsBrokenOff done s before world) line after (λ world only b. (h.0, h.1, b))
    (breaks_off-to h.0 s line before after none h.2)

breaks-to : (words : List (List ℕ)) (s : Failure) (line : List ℕ) (before after : World) → (s ≡ failure.OutFault → line ≡ []) → BreaksBy words s line (change_between before after)
    → ThenPuts (Breaks words s before) line after
breaks-to words s line before after none h = broken-to before.files words s line before after none h

breaks-from : (words : List (List ℕ)) (s : Failure) (line : List ℕ) (before world : World) (got : Option (List ℕ)) → (s ≡ failure.OutFault → line ≡ []) → Breaks words s before world
    → Appends world.got got line → BreaksBy words s line (change_to before world got)
breaks-from words s line before world got none h p =
    told-map before.files (λ files. (done : Job) × (course_of words files ≡ Ok done) × IsBrokenOff done s before world)
    (λ files. (done : Job) × (course_of words files ≡ Ok done) × BreaksOffBy done s line (change_to before world got))
    (λ files b. (b.0, b.1, breaks_off-from b.0 s line before world got none b.2 p)) h

long-to : (words : List (List ℕ)) (line : List ℕ) (before after : World) → StopsLongBy words line (change_between before after) → ThenPuts (StopsLong words before) line after
long-to words line before after (inl h) =
    then-map (IsUntouched before) (StopsLong words before) line after (λ world only u. inl (h.0, u)) (untouched-to line before after h.1)
long-to words line before after (inr h) =
    then-map (Breaks words failure.Long before) (StopsLong words before) line after (λ world only b. inr b) (breaks-to words failure.Long line before after (λ is. absurd (cc is)) h)

long-from : (words : List (List ℕ)) (line : List ℕ) (before world : World) (got : Option (List ℕ)) → StopsLong words before world → Appends world.got got line
    → StopsLongBy words line (change_to before world got)
long-from words line before world got (inl h) p = inl (h.0, untouched-from line before world got h.1 p)
long-from words line before world got (inr h) p = inr (breaks-from words failure.Long line before world got (λ is. absurd (cc is)) h p)

-- ---- a call that stopped

loads-same : (before world after : World) → PutsOnly world after → after.loads ≡ before.loads → world.loads ≡ before.loads
loads-same before world after only e = sym (ap (λ (w : World). w.loads) only) ∙ e

cause-to : (s : Failure) (words : List (List ℕ)) (before world : World) (got : Option (List ℕ)) → IsCause words s (change_to before world got)
    → Stopped s (λ files. course_of words files ≡ Err s) before world
cause-to failure.Usage words before world got h = absurd h
cause-to failure.LogFault words before world got h = absurd h
cause-to failure.OutFault words before world got h = absurd h
cause-to (failure.ReadFault name) words before world got h = h
cause-to failure.NoMemory words before world got h = h
cause-to other words before world got h = h

cause-from : (s : Failure) (words : List (List ℕ)) (before world : World) (got : Option (List ℕ)) → Stopped s (λ files. course_of words files ≡ Err s) before world
    → IsCause words s (change_to before world got)
cause-from failure.Usage words before world got h = absurd h
cause-from failure.LogFault words before world got h = absurd h
cause-from failure.OutFault words before world got h = absurd h
cause-from (failure.ReadFault name) words before world got h = h
cause-from failure.NoMemory words before world got h = h
cause-from other words before world got h = h

stops-to : (words : List (List ℕ)) (s : Failure) (line : List ℕ) (before after : World) → (s ≡ failure.OutFault → line ≡ []) → StopsBy words s line (change_between before after)
    → ThenPuts (Stops words s before) line after
stops-to words failure.Usage line before after none h =
    then-map (IsUntouched before) (Stops words failure.Usage before) line after (λ world only u. (loads-same before world after only h.0, h.1, u)) (untouched-to line before after h.2)
stops-to words failure.LogFault line before after none h =
    then-map (Breaks words failure.LogFault before) (Stops words failure.LogFault before) line after (λ world only b. (loads-same before world after only h.0, b))
    (breaks-to words failure.LogFault line before after none h.1)
stops-to words failure.OutFault line before after none h =
    then-map (Breaks words failure.OutFault before) (Stops words failure.OutFault before) line after (λ world only b. (loads-same before world after only h.0, b))
    (breaks-to words failure.OutFault line before after none h.1)
stops-to words failure.Long line before after none h =
    then-map (StopsLong words before) (Stops words failure.Long before) line after (λ world only l. (loads-same before world after only h.0, l)) (long-to words line before after h.1)
stops-to words failure.NoMemory line before after none (inl h) =
    then-map (IsUntouched before) (Stops words failure.NoMemory before) line after (λ world only u. inl u) (untouched-to line before after h)
stops-to words failure.NoMemory line before after none (inr h) =
    then-map (Breaks words failure.NoMemory before) (Stops words failure.NoMemory before) line after (λ world only b. inr (loads-same before world after only h.0, b))
    (breaks-to words failure.NoMemory line before after none h.1)
stops-to words other line before after none h =
    then-map (IsUntouched before) (Stops words other before) line after
    (λ world only u. (cause-to other words before world after.got (subst (λ c. IsCause words other c) (sym (change-puts before world after only)) h.0), u)) (untouched-to line before after h.1)

stops-from : (words : List (List ℕ)) (s : Failure) (line : List ℕ) (before world : World) (got : Option (List ℕ)) → (s ≡ failure.OutFault → line ≡ []) → Stops words s before world
    → Appends world.got got line → StopsBy words s line (change_to before world got)
stops-from words failure.Usage line before world got none h p = (h.0, h.1, untouched-from line before world got h.2 p)
stops-from words failure.LogFault line before world got none h p = (h.0, breaks-from words failure.LogFault line before world got none h.1 p)
stops-from words failure.OutFault line before world got none h p = (h.0, breaks-from words failure.OutFault line before world got none h.1 p)
stops-from words failure.Long line before world got none h p = (h.0, long-from words line before world got h.1 p)
stops-from words failure.NoMemory line before world got none (inl h) p = inl (untouched-from line before world got h p)
stops-from words failure.NoMemory line before world got none (inr h) p = inr (h.0, breaks-from words failure.NoMemory line before world got none h.1 p)
stops-from words other line before world got none h p = (cause-from other words before world got h.0, untouched-from line before world got h.1 p)

stopped-from : (words : List (List ℕ)) (s : Failure) (line : List ℕ) (before after : World) → (s ≡ failure.OutFault → line ≡ []) → ThenPuts (Stops words s before) line after
    → StopsBy words s line (change_between before after)
stopped-from words s line before after none h =
    subst (λ c. StopsBy words s line c) (change-puts before h.0 after h.3) (stops-from words s line before h.0 after.got none h.1 h.2)

pub stops_are_one : StopsAreOne
stops_are_one words cause line before after none = (stops-to words cause line before after none, stopped-from words cause line before after none)

-- ---- the whole of it

ended-to : (words : List (List ℕ)) (result : Status) (before after : World) → EndedBy words result before after → Ended words result before after
ended-to words result before after h =
    let puts = stops-to words h.cause h.line before after (none-put h.cause h.line h.rest h.split) h.left in
    record {
      cause = h.cause;
      answer = h.answer;
      named = h.named;
      world = puts.0;
      left = puts.1;
      line = h.line;
      rest = h.rest;
      split = h.split;
      whole = h.whole;
      wrote = h.wrote;
      put = puts.2;
      only = puts.3;
    }

ended-from : (words : List (List ℕ)) (result : Status) (before after : World) → Ended words result before after → EndedBy words result before after
ended-from words result before after h = record {
  cause = h.cause;
  answer = h.answer;
  line = h.line;
  rest = h.rest;
  split = h.split;
  whole = h.whole;
  wrote = h.wrote;
  left = stopped-from words h.cause h.line before after (none-put h.cause h.line h.rest h.split) (h.world, h.left, h.put, h.only);
  named = h.named;
}

answered-to : (words : List (List ℕ)) (result : Status) (before after : World) → AnsweredBy words result before after → Answered words result before after
answered-to words result before after h = record {
  ok = λ is. told-map before.files (λ files. SucceedsBy words files before after) (λ files. Succeeds words files before after)
      (λ files one. succeeds-to words files before after one) (h.ok is);
  ended = λ failed. ended-to words result before after (h.ended failed);
  course = h.course;
  complete = h.complete;
  puts_grew = h.puts_grew;
  long = h.long;
  usage = h.usage;
  bad_words = h.bad_words;
  read_fault = h.read_fault;
  loads_grew = h.loads_grew;
  log_fault = h.log_fault;
  writes_grew = h.writes_grew;
  out_fault = h.out_fault;
  quiet = h.quiet;
  same = h.same;
  writes = h.writes;
  unlogged = h.unlogged;
}

answered-from : (words : List (List ℕ)) (result : Status) (before after : World) → Answered words result before after → AnsweredBy words result before after
answered-from words result before after h = record {
  ok = λ is. told-map before.files (λ files. Succeeds words files before after) (λ files. SucceedsBy words files before after)
      (λ files one. succeeds-from words files before after one) (h.ok is);
  ended = λ failed. ended-from words result before after (h.ended failed);
  course = h.course;
  complete = h.complete;
  puts_grew = h.puts_grew;
  long = h.long;
  usage = h.usage;
  bad_words = h.bad_words;
  read_fault = h.read_fault;
  loads_grew = h.loads_grew;
  log_fault = h.log_fault;
  writes_grew = h.writes_grew;
  out_fault = h.out_fault;
  quiet = h.quiet;
  same = h.same;
  writes = h.writes;
  unlogged = h.unlogged;
}

pub answers_are_one : AnswersAreOne
answers_are_one words result before after = (answered-to words result before after, answered-from words result before after)
