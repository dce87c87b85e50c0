-- What a call answers, from what it did before its error line.
use Rattle.std.proofs.Common.{◌≡◌, ℕ, ◌<◌, ◌⊎◌, inl, List, Option, Result, Ok, Err, refl, sym, subst, arith}
use Rattle.amber_io.specs.Counts.{Rose}
use Rattle.amber_io.specs.Folder.{Told}
use Rattle.amber_io.specs.World.{PutsOnly, World}
use Rattle.amber_course.specs.Course.{IsReached, course_of}
use Rattle.amber_course.specs.Failure.{IsToldAs}
use Rattle.amber_course.specs.Steps.{Names}
use Rattle.amber_course.specs.Told.{Refuses}
use Rattle.amber_course.specs.Words.{call_words_of}
use Rattle.amber_course.specs.declared.status.Status.{Status}
use Rattle.amber_course.specs.declared.status.Status.TheVariants as status
use Rattle.amber_course.specs.declared.failure.Failure.{Failure}
use Rattle.amber_course.proofs.Following.{told-all}
use Rattle.amber_run.specs.Outcome.{Answered, AsksNoRun, IsSinkStatus, MeetsLimit, Runs, Worded, WroteNothing}
use Rattle.amber_recorder.specs.Writing.{Counted}
use Rattle.amber_run.proofs.Deciding.{answers, answers-ok, complete, lates, loads-grow, log-rose, log-unasked, out-rose, puts-grow, read-is, usage-is, words-bad, words-ok, writes-grow}
use Rattle.amber_run.proofs.Longing.{long-done, long-stopped}
use Rattle.amber_run.proofs.Refusing.{HasStopped, ended, not-ok, refused-as}

-- what the clauses of a call say before its error line
pub record HasRun {A : Type 0} (r : Result A Failure) (call : List (List ℕ)) (before mid : World) : Type 0 where
  pub ran : Runs r call before mid
  pub counted : Counted r (record before { loads = mid.loads }) mid
  pub words : Worded r call
  pub idle : AsksNoRun (call_words_of call) → WroteNothing r before mid

refused-at : (s : Failure) (words : List (List ℕ)) (result : Status) (before mid : World) (got : Option (List ℕ)) (puts : ℕ) → HasRun {A = Unit {0}} (Err s) words before mid
    → Told before.files (λ files. Names s (IsReached words files)) → Refuses result s mid (record mid { got = got; puts = puts }) → IsToldAs s result
    → Answered words result before (record mid { got = got; puts = puts })
refused-at s words result before mid got puts h named refuses tells =
    let after : World = record mid { got = got; puts = puts } in
    let stopped : HasStopped words s before mid = record { left = h.ran; failed = h.counted } in
    let refused = refused-as result s mid after refuses in
    let late = lates s words before mid puts result h.ran h.counted refuses.0 refused in
    record {
      ok = λ is. absurd (not-ok result s refused is);
      ended = λ failed. ended s words result before mid after stopped refuses refl refl tells named;
      course = answers s words before mid result h.ran refused;
      complete = complete words before mid puts result late;
      puts_grew = puts-grow words before mid puts result late;
      long = long-stopped s words before mid got puts result h.ran h.counted refuses.0 refused (answers s words before mid result h.ran refused);
      usage = λ is. usage-is s words before mid result h.ran refused is;
      bad_words = λ none. words-bad s words result h.words refused none;
      read_fault = λ is. read-is s words before mid result h.ran refused is;
      loads_grew = λ grew. loads-grow s words before mid result h.ran refused grew;
      log_fault = λ is. log-rose s before mid result h.counted refused is;
      writes_grew = λ grew. writes-grow s before mid result h.counted refused grew;
      out_fault = λ is. out-rose s before mid puts result h.counted refuses.0 refused is;
      quiet = λ is. absurd (not-ok result s refused is);
      same = λ none. (h.idle none).0;
      writes = λ none. (h.idle none).1;
      unlogged = λ none. log-unasked s result (h.idle none).2 refused;
    }

-- a call that was refused
pub answered-refused : (s : Failure) (words : List (List ℕ)) (result : Status) (before mid after : World) → HasRun {A = Unit {0}} (Err s) words before mid
    → Told before.files (λ files. Names s (IsReached words files)) → Refuses result s mid after → PutsOnly mid after → IsToldAs s result → Answered words result before after
answered-refused s words result before mid after h named refuses only tells =
    subst (λ w. Answered words result before w) (sym only)
    (refused-at s words result before mid after.got after.puts h named (subst (λ w. Refuses result s mid w) only refuses) tells)

-- a call that did all
pub answered-done : {A : Type 0} (x : A) (words : List (List ℕ)) (before after : World) → HasRun (Ok x) words before after → Answered words status.Ok before after
answered-done x words before after h =
    let loads = Rose before.loads after.loads in
    let writes = Rose before.writes after.writes in
    let puts = Rose before.puts after.puts in
    record {
      ok = λ is. h.ran.1;
      ended = λ failed. absurd (failed refl);
      course = answers-ok words before after h.ran.1;
      complete = told-all before.files (λ files. MeetsLimit (course_of words files) → ¬ loads → ¬ writes → ¬ puts → (status.Ok ≡ status.Ok) ⊎ (status.Ok ≡ status.NoMemory))
          (λ files within read kept quiet. inl refl);
      puts_grew = told-all before.files (λ files. ¬ loads → ¬ writes → before.puts < after.puts → IsSinkStatus (course_of words files) status.Ok)
          (λ files read kept grew. absurd (omega (arith, grew, h.counted.2)));
      bad_words = λ none. words-ok words ((status.Ok ≡ status.Usage) ⊎ (status.Ok ≡ status.NoMemory)) h.words none;
      loads_grew = λ grew. absurd (omega (arith, grew, h.ran.0));
      long = long-done words before after h.ran.1 (answers-ok words before after h.ran.1);
      usage = λ is. absurd cc;
      read_fault = λ is. absurd cc;
      log_fault = λ is. absurd cc;
      out_fault = λ is. absurd cc;
      writes_grew = λ grew. absurd (omega (arith, grew, h.counted.1));
      quiet = λ is. (h.ran.0, h.counted.1, h.counted.2);
      same = λ none. (h.idle none).0;
      writes = λ none. (h.idle none).1;
      unlogged = λ none is. cc;
    }

-- where the same stands afterwards
pub carried : (words : List (List ℕ)) (result : Status) (before now after : World) → Answered words result before now → after ≡ now → Answered words result before after
carried words result before now after h e = subst (λ w. Answered words result before w) (sym e) h
