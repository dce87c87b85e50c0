-- A session within all limits comes to its end.
use Rattle.std.proofs.Common.{◌≡◌, ℕ, ◌+◌, ◌<◌, ◌≤◌, ◌⊎◌, inl, inr, not, List, [], ◌∷◌, ◌++◌, length, map, Option, None, Some, Bool, true, false, Result, Ok, Err, refl, sym, ap, subst, ◌∙◌, append_assoc, append-nil, arith, length-append}
use Rattle.std.proofs.lemmas.Bool.{and_parts}
use Rattle.std.proofs.lemmas.List.{map-append}
use Rattle.std.proofs.lemmas.List.Folds.{list_all-append}
use Rattle.std.specs.Io.KnownBytes.{Consumes}
use Rattle.std.specs.List.{list_all}
use Rattle.amber_rows.specs.declared.flow.Operator.{Operator}
use Rattle.amber_io.specs.Counts.{Rose}
use Rattle.amber_io.specs.Folder.{Named, Told}
use Rattle.amber_io.specs.World.{World}
use Rattle.amber_log.specs.declared.command.Command.{Command}
use Rattle.amber_log.specs.declared.log.Item.TheVariants as item
use Rattle.amber_meaning.specs.Legal.{alters}
use Rattle.amber_meaning.specs.Total.{step_total}
use Rattle.amber_course.specs.Failure.{IsToldAs}
use Rattle.amber_course.specs.SessionCourse.{session_course_of, session_words_of}
use Rattle.amber_course.specs.declared.failure.Failure.{Failure}
use Rattle.amber_course.specs.declared.failure.Failure.TheVariants as failure
use Rattle.amber_course.specs.declared.input.InputFault.TheVariants as fault
use Rattle.amber_course.specs.declared.session.SessionJob.{SessionJob}
use Rattle.amber_course.specs.declared.status.Status.{Status}
use Rattle.amber_course.specs.declared.status.Status.TheVariants as status
use Rattle.amber_recorder.specs.Left.{AlterNothing}
use Rattle.amber_recorder.specs.Writing.{FailedAs}
use Rattle.amber_script.specs.Lines.{ended_lines, open_line}
use Rattle.amber_script.specs.Script.{script_lines}
use Rattle.amber_script.proofs.OpenLines.{lines_are_ended_or_open, lines_go_on}
use Rattle.std.specs.Str.Lines.{strip_carriage_return}
use Rattle.amber_session.specs.Answers.{most_session_steps}
use Rattle.amber_session.specs.Beginning.{IsNotStarted, IsSessionLoad}
use Rattle.amber_session.specs.Running.{Concludes, HaltCounted, HaltNames, HaltWorded, HasBeenCut, HaltLeaves, IsComplete, IsRefusedRun, IsWithinLimits, NothingFailed, ReadCounted, DoesSession, RunsSession, Supply, Surroundings, failure_of, plan_of}
use Rattle.amber_session.specs.Spoken.{query_for}
use Rattle.amber_session.specs.Talk.{accepted}
use Rattle.amber_session.specs.declared.halt.Halt.{Halt}
use Rattle.amber_session.specs.declared.halt.Halt.TheVariants as halt
use Rattle.amber_session.proofs.Talking.{accepted-append}

-- ---- lines that alter nothing

unaltered-front : (xs ys : List Command) → AlterNothing (xs ++ ys) → AlterNothing xs
unaltered-front xs ys h =
    (and_parts (list_all (λ one. not (alters one)) (map item.Do xs)) (list_all (λ one. not (alters one)) (map item.Do ys))
    (sym (list_all-append (λ one. not (alters one)) (map item.Do xs) (map item.Do ys)) ∙ ap (list_all (λ one. not (alters one))) (sym (map-append item.Do xs ys)) ∙ h)).0

first-lines : (flow : List Operator) (xs ys lines : List (List ℕ)) → xs ++ ys ≡ lines → AlterNothing (accepted flow lines) → AlterNothing (accepted flow xs)
first-lines flow xs ys lines is h =
    unaltered-front (accepted flow xs) (accepted flow ys) (subst AlterNothing (ap (accepted flow) (sym is) ∙ accepted-append flow xs ys) h)

-- the lines of a plan are the first of all
planned : (job : SessionJob) (taken rest : List ℕ) (over : Bool) → (over ≡ true → rest ≡ []) → AlterNothing (accepted job.inputs.flow (script_lines (taken ++ rest)))
    → AlterNothing (accepted job.inputs.flow (plan_of job taken over).lines)
planned job taken rest true ends h = subst (λ bytes. AlterNothing (accepted job.inputs.flow (script_lines bytes))) (ap (λ rest. taken ++ rest) (ends refl) ∙ append-nil taken) h
planned job taken rest false ends h =
    first-lines job.inputs.flow (ended_lines taken) (ended_lines (open_line taken ++ rest) ++ strip_carriage_return (open_line (taken ++ rest)) ∷ []) (script_lines (taken ++ rest))
    (sym (append_assoc (ended_lines taken) (ended_lines (open_line taken ++ rest)) (strip_carriage_return (open_line (taken ++ rest)) ∷ []))
    ∙ ap (λ lines. lines ++ strip_carriage_return (open_line (taken ++ rest)) ∷ []) (sym (lines_go_on taken rest).0) ∙ sym (lines_are_ended_or_open (taken ++ rest))) h

-- ---- what was taken of what was left

-- what is left of what was told
record Leaves (left : List ℕ) (after : Option (List ℕ)) (taken : List ℕ) : Type 0 where
  rest : List ℕ
  split : left ≡ taken ++ rest

consumed : (before after : Option (List ℕ)) (left taken : List ℕ) → before ≡ Some left → Consumes before after taken → Leaves left after taken
consumed before None left taken is h = absurd (rw is at h)
consumed before (Some rest) left taken is h = record { rest = rest; split = rw is at h }

-- all of it was taken, so nothing is left
none-left : (left taken rest : List ℕ) → left ≡ taken ++ rest → taken ≡ left → rest ≡ []
none-left left taken rest split same = by-rest rest (ap length split)
  where
    size : length taken ≡ length left
    size = ap length same

    by-rest : (rest : List ℕ) → length left ≡ length (taken ++ rest) → rest ≡ []
    by-rest [] e = refl
    by-rest (byte ∷ bytes) e = absurd (omega (arith, e, size, length-append taken (byte ∷ bytes)))

-- ---- counts that rose

rose-on : (a b c : ℕ) → Rose a b → b ≤ c → Rose a c
rose-on a b c rose le = omega (arith, rose, le)

-- ---- no cause is left

-- the session was asked for, so its words ask for one
asked-words : (words : List (List ℕ)) (files : Named) (job : SessionJob) → session_course_of words files ≡ Ok job → session_words_of words ≡ None → ⊥
unfolding session_course_of
asked-words words files job course none = let never : Err failure.Usage ≡ Ok job = rw none at course in cc

never-both : (words : List (List ℕ)) (files : Named) (job : SessionJob) (f : Failure) → session_course_of words files ≡ Ok job → session_course_of words files ≡ Err f → ⊥
never-both words files job f course err = let never : Ok job ≡ Err f = sym course ∙ err in cc

not-started : (f : Failure) (words : List (List ℕ)) (files : Named) (job : SessionJob) (before after : World) → before.files ≡ Some files → session_course_of words files ≡ Ok job
    → (Rose before.loads after.loads → ⊥) → (Rose before.writes after.writes → ⊥) → FailedAs f (record before { loads = after.loads }) after → IsNotStarted f words before after
    → f ≡ failure.NoMemory
not-started failure.Usage words files job before after told course loads writes failed h = absurd (asked-words words files job course h.0)
not-started failure.LogFault words files job before after told course loads writes failed h = absurd (writes failed.1.1)
not-started failure.NoMemory words files job before after told course loads writes failed h = refl
not-started (failure.ReadFault name) words files job before after told course loads writes failed (inl stopped, same) =
    absurd (never-both words files job (failure.ReadFault name) course (rw told at stopped.1))
not-started (failure.ReadFault name) words files job before after told course loads writes failed (inr rose, same) = absurd (loads rose)
not-started failure.OutFault words files job before after told course loads writes failed h = absurd h.0
not-started other words files job before after told course loads writes failed h = absurd (never-both words files job other course (rw told at h.0.1))

-- the job that was begun is the one that was asked for
same-job : (words : List (List ℕ)) (files : Named) (a b : SessionJob) → session_course_of words files ≡ Ok a → session_course_of words files ≡ Ok b → a ≡ b
same-job words files a b x y = let e = sym x ∙ y in cc

-- no leg is too long
not-long : (words : List (List ℕ)) (files : Named) (job : SessionJob) (input : List ℕ) (before after : Surroundings) → before.world.files ≡ Some files → session_course_of words files ≡ Ok job
    → before.supply.left ≡ Some input → IsWithinLimits job input → HasBeenCut (halt.Failure failure.Long) words before after → ⊥
not-long words files job input before after told course left within h =
    let same : h.job ≡ job = same-job words files h.job job (rw told at h.begun.asked) course in
    let of = consumed before.supply.left after.supply.left input h.input left h.taken in
    let nothing : AlterNothing (accepted h.job.inputs.flow (script_lines (h.input ++ of.rest))) =
    subst (λ bytes. AlterNothing (accepted h.job.inputs.flow (script_lines bytes))) of.split (subst (λ (job : SessionJob). AlterNothing (accepted job.inputs.flow (script_lines input))) (sym same) within.unaltered) in
    let lines = planned h.job h.input of.rest h.over (λ over. none-left input h.input of.rest of.split (rw left at (h.ends over))) nothing in
    let long : most_session_steps < step_total (query_for h.job) = h.cut.long refl (first-lines h.job.inputs.flow h.cut.lines h.cut.more (plan_of h.job h.input h.over).lines h.cut.all lines) in
    let total : step_total (query_for h.job) ≤ most_session_steps = subst (λ (job : SessionJob). step_total (query_for job) ≤ most_session_steps) (sym same) within.steps in
    omega (arith, long, total)

-- the input is not too large
not-large : (words : List (List ℕ)) (job : SessionJob) (input : List ℕ) (before after : Surroundings) → before.supply.left ≡ Some input → IsWithinLimits job input
    → HasBeenCut (halt.Input fault.Large) words before after → ⊥
not-large words job input before after left within h =
    let of = consumed before.supply.left after.supply.left input h.input left h.taken in
    let size : length input ≡ length h.input + length of.rest = ap length of.split ∙ length-append h.input of.rest in
    let much = h.sized in
    let few = within.few in
    omega (arith, size, much, few)

no-memory : (result : Status) → IsToldAs failure.NoMemory result → (result ≡ status.Ok) ⊎ (result ≡ status.NoMemory)
no-memory result (inl e) = inr e
no-memory result (inr e) = inr e

-- a session that was begun is cut short by nothing but want of memory
begun-ends : (h : Halt) (words : List (List ℕ)) (files : Named) (job : SessionJob) (input : List ℕ) (before between : Surroundings) → before.world.files ≡ Some files
    → session_course_of words files ≡ Ok job → before.supply.left ≡ Some input → IsWithinLimits job input → FailedAs (failure_of h) (record before.world { loads = between.world.loads }) between.world
    → (Rose before.world.writes between.world.writes → ⊥) → (Rose before.world.puts between.world.puts → ⊥) → HasBeenCut h words before between
    → (h ≡ halt.Failure failure.NoMemory) ⊎ (h ≡ halt.Input fault.Unread)
begun-ends (halt.Failure failure.LogFault) words files job input before between told course left within failed writes puts cut = absurd (writes failed.1.1)
begun-ends (halt.Failure failure.OutFault) words files job input before between told course left within failed writes puts cut = absurd (puts failed.2.1)
begun-ends (halt.Failure failure.Long) words files job input before between told course left within failed writes puts cut =
    absurd (not-long words files job input before between told course left within cut)
begun-ends (halt.Failure failure.NoMemory) words files job input before between told course left within failed writes puts cut = inl refl
begun-ends (halt.Failure other) words files job input before between told course left within failed writes puts cut = absurd cut.may
begun-ends (halt.Input fault.Unread) words files job input before between told course left within failed writes puts cut = inr refl
begun-ends (halt.Input fault.Large) words files job input before between told course left within failed writes puts cut =
    absurd (not-large words job input before between left within cut)

refused-complete : (words : List (List ℕ)) (result : Status) (before after : Surroundings) (files : Named) (job : SessionJob) (input : List ℕ) → before.world.files ≡ Some files
    → session_course_of words files ≡ Ok job → before.supply.left ≡ Some input → IsWithinLimits job input → NothingFailed before after → IsRefusedRun words result before after
    → (result ≡ status.Ok) ⊎ (result ≡ status.NoMemory)
refused-complete words result before after files job input told course left within nothing r = by-cause r.cause refl
  where
    between : Surroundings
    between = r.between

    loads : Rose before.world.loads between.world.loads → ⊥
    loads rose = nothing.loads (subst (λ n. Rose before.world.loads n) (sym (ap (λ (w : World). w.loads) r.only)) rose)

    writes : Rose before.world.writes between.world.writes → ⊥
    writes rose = nothing.writes (subst (λ n. Rose before.world.writes n) (sym (ap (λ (w : World). w.writes) r.only)) rose)

    puts : Rose before.world.puts between.world.puts → ⊥
    puts rose = nothing.puts (rose-on before.world.puts between.world.puts after.world.puts rose r.told.0)

    by-end : (h : Halt) → r.cause ≡ h → (h ≡ halt.Failure failure.NoMemory) ⊎ (h ≡ halt.Input fault.Unread) → (result ≡ status.Ok) ⊎ (result ≡ status.NoMemory)
    by-end h is (inl none) = no-memory result (subst (λ h. IsToldAs (failure_of h) result) (is ∙ none) r.answer)
    by-end h is (inr unread) =
        absurd (nothing.reads (subst (λ (s : Supply). Rose before.supply.faults s.faults) (sym r.supply) (rw (is ∙ unread) at r.reads).1))

    by-started : (f : Failure) → r.cause ≡ halt.Failure f → HaltLeaves (halt.Failure f) words before between → (result ≡ status.Ok) ⊎ (result ≡ status.NoMemory)
    by-started f is (inl (unbegun, unread)) =
        let none = not-started f words files job before.world between.world told course loads writes (rw is at r.counted) unbegun in
        no-memory result (subst (λ h. IsToldAs (failure_of h) result) (is ∙ ap halt.Failure none) r.answer)
    by-started f is (inr cut) =
        by-end (halt.Failure f) is (begun-ends (halt.Failure f) words files job input before between told course left within (rw is at r.counted) writes puts cut)

    by-cause : (h : Halt) → r.cause ≡ h → (result ≡ status.Ok) ⊎ (result ≡ status.NoMemory)
    by-cause (halt.Failure f) is = by-started f is (rw is at r.left)
    by-cause (halt.Input fault) is =
        by-end (halt.Input fault) is (begun-ends (halt.Input fault) words files job input before between told course left within (rw is at r.counted) writes puts (rw is at r.left))

pub complete-run : (words : List (List ℕ)) (result : Status) (before after : Surroundings) → RunsSession words result before after → IsComplete words result before after
complete-run words result before after runs = by-told before.world.files refl
  where
    by-result : (result : Status) → RunsSession words result before after → (files : Named) → before.world.files ≡ Some files → (job : SessionJob) (input : List ℕ)
        → session_course_of words files ≡ Ok job → before.supply.left ≡ Some input → IsWithinLimits job input → NothingFailed before after → (result ≡ status.Ok) ⊎ (result ≡ status.NoMemory)
    by-result status.Ok runs files told job input course left within nothing = inl refl
    by-result other runs files told job input course left within nothing = refused-complete words other before after files job input told course left within nothing runs

    by-told : (told : Option Named) → before.world.files ≡ told
        → Told told (λ files. (job : SessionJob) (input : List ℕ) → session_course_of words files ≡ Ok job → before.supply.left ≡ Some input → IsWithinLimits job input → NothingFailed before after
        → (result ≡ status.Ok) ⊎ (result ≡ status.NoMemory))
    by-told None is = tt
    by-told (Some files) is = λ job input course left within nothing. by-result result runs files is job input course left within nothing

-- ---- the answer

-- a cause that is told by a status other than Ok
not-ok : (f : Failure) → IsToldAs f status.Ok → ⊥
not-ok failure.OutFault h = let never : status.Ok ≡ status.OutFault = h in cc
not-ok failure.Usage (inl e) = cc
not-ok failure.Usage (inr e) = cc
not-ok (failure.BadFlow op why) (inl e) = cc
not-ok (failure.BadFlow op why) (inr e) = cc
not-ok (failure.BadScript line why) (inl e) = cc
not-ok (failure.BadScript line why) (inr e) = cc
not-ok (failure.ReadFault name) (inl e) = cc
not-ok (failure.ReadFault name) (inr e) = cc
not-ok (failure.BadLog line why) (inl e) = cc
not-ok (failure.BadLog line why) (inr e) = cc
not-ok failure.LogFault (inl e) = cc
not-ok failure.LogFault (inr e) = cc
not-ok failure.Long (inl e) = cc
not-ok failure.Long (inr e) = cc
not-ok (failure.TooLarge name) (inl e) = cc
not-ok (failure.TooLarge name) (inr e) = cc
not-ok failure.NoMemory (inl e) = cc
not-ok failure.NoMemory (inr e) = cc

refused-runs : (words : List (List ℕ)) (result : Status) (before after : Surroundings) → IsRefusedRun words result before after → RunsSession words result before after
refused-runs words status.Ok before after r = absurd (not-ok (failure_of r.cause) r.answer)
refused-runs words other before after r = r

-- what was done, and then what was told of it
pub record HasDone (words : List (List ℕ)) (done : Result (Unit {0}) Halt) (before after : Surroundings) : Type 0 where
  pub ran : DoesSession done words before after
  pub words_read : HaltWorded done words
  pub named : Told before.world.files (λ files. HaltNames done (IsSessionLoad words files))
  pub reads : ReadCounted done before.supply after.supply
  pub counted : HaltCounted done (record before.world { loads = after.world.loads }) after.world

pub concluded : (words : List (List ℕ)) (done : Result (Unit {0}) Halt) (result : Status) (before between : Surroundings) (world : World) → HasDone words done before between
    → Concludes done result between.world world → RunsSession words result before (record { world = world; supply = between.supply })
concluded words (Ok x) result before between world h (is, same) = rw (is, same) (record {
  ran = h.ran;
  failed = (h.ran.begun.loads, h.counted.1, h.counted.2);
  reads = h.reads;
})
concluded words (Err halt) result before between world h (told, answer, only) = refused-runs words result before (record { world = world; supply = between.supply }) (record {
  cause = halt;
  answer = answer;
  between = between;
  left = h.ran;
  told = told;
  only = only;
  supply = refl;
  words_read = h.words_read;
  named = h.named;
  reads = h.reads;
  counted = h.counted;
})

-- the same, where what is outside is told of as two
pub carried-run : (words : List (List ℕ)) (result : Status) (before after now : Surroundings) → RunsSession words result before after → after ≡ now → RunsSession words result before now
carried-run words result before after now runs same = subst (λ s. RunsSession words result before s) same runs
