-- The end of a call that was refused: the error line, and why the call ended.
use Rattle.std.proofs.Common.{◌≡◌, ◌≢◌, ℕ, ◌-◌, ◌^◌, ◌<◌, ◌⊎◌, inl, inr, List, [], ◌∷◌, ◌++◌, refl, arith}
use Rattle.std.proofs.lemmas.List.{append-nil}
use Rattle.amber_io.specs.Counts.{Rose}
use Rattle.amber_io.specs.Folder.{Told}
use Rattle.amber_io.specs.World.{PutsOnly, World}
use Rattle.amber_course.specs.Course.{IsReached}
use Rattle.amber_course.specs.Failure.{IsToldAs, error_line_of, status_of}
use Rattle.amber_course.specs.Steps.{Names}
use Rattle.amber_course.specs.Told.{Refuses}
use Rattle.amber_course.specs.declared.status.Status.{Status}
use Rattle.amber_course.specs.declared.status.Status.TheVariants as status
use Rattle.amber_course.specs.declared.failure.Failure.{Failure}
use Rattle.amber_course.specs.declared.failure.Failure.TheVariants as failure
use Rattle.amber_run.specs.Outcome.{Ended, Stops}
use Rattle.amber_recorder.specs.Writing.{FailedAs}

-- a call whose job or whose preparing failed: what it left before the line, and what has failed until then
pub record HasStopped (words : List (List ℕ)) (s : Failure) (before mid : World) : Type 0 where
  pub left : Stops words s before mid
  pub failed : FailedAs s (record before { loads = mid.loads }) mid

no-front : (part rest : List ℕ) → part ++ rest ≡ [] → part ≡ []
no-front [] rest e = refl
no-front (x ∷ xs) rest e = cc

-- the status of a call that was refused
pub refused-as : (result : Status) (s : Failure) (mid after : World) → Refuses result s mid after → (result ≡ status_of s) ⊎ (result ≡ status.NoMemory)
refused-as result s mid after f = elim f.2 [ inl whole ↦ inl whole.2 | inr rest ↦ elim rest [ inl none ↦ inr none.1 | inr rose ↦ inl rose.1 ] ]

pub not-ok : (result : Status) (s : Failure) → (result ≡ status_of s) ⊎ (result ≡ status.NoMemory) → result ≢ status.Ok
not-ok result s (inr none) e = cc
not-ok result failure.Usage (inl is) e = cc
not-ok result other (inl is) e = cc

unrisen : (c d e : ℕ) → d ≡ c → e ≡ c → c < 2 ^ 64 - 1 → Rose d e → ⊥
unrisen c d e p q small rose = omega (arith, p, q, small, rose)

-- where a put was refused, a count shows it
line-whole : (s : Failure) (line rest : List ℕ) (before mid after : World) → FailedAs s before mid → line ++ rest ≡ error_line_of s → Rose mid.puts after.puts → after.puts ≡ before.puts
    → before.puts < 2 ^ 64 - 1 → line ≡ error_line_of s
line-whole failure.OutFault line rest before mid after n split rose quiet small = no-front line rest split
line-whole failure.LogFault line rest before mid after n split rose quiet small = absurd (unrisen before.puts mid.puts after.puts n.2 quiet small rose)
line-whole other line rest before mid after n split rose quiet small = absurd (unrisen before.puts mid.puts after.puts n.2 quiet small rose)

-- the log could not be written, and a count shows it
wrote-rose : (s : Failure) (before mid : World) → FailedAs s before mid → s ≡ failure.LogFault → Rose before.writes mid.writes
wrote-rose failure.LogFault before mid n e = n.1.1
wrote-rose other before mid n e = cc

-- why a call ended whose line was put
pub ended : (s : Failure) (words : List (List ℕ)) (result : Status) (before mid after : World) → HasStopped words s before mid → Refuses result s mid after → after.writes ≡ mid.writes
    → PutsOnly mid after → IsToldAs s result → Told before.files (λ files. Names s (IsReached words files)) → Ended words result before after
ended s words result before mid after stopped (le, begun, inl (same, all, is)) kept only tells named = record {
  cause = s;
  answer = tells;
  named = named;
  world = mid;
  left = stopped.left;
  line = error_line_of s;
  rest = [];
  split = append-nil (error_line_of s);
  whole = λ some quiet small. refl;
  wrote = λ log. rw kept (wrote-rose s (record before { loads = mid.loads }) mid stopped.failed log);
  put = all;
  only = only;
}
ended s words result before mid after stopped (le, begun, inr (inl (same, none))) kept only tells named = record {
  cause = s;
  answer = tells;
  named = named;
  world = mid;
  left = stopped.left;
  line = begun.0;
  rest = begun.1;
  split = begun.2;
  whole = λ some quiet small. absurd (some none);
  wrote = λ log. rw kept (wrote-rose s (record before { loads = mid.loads }) mid stopped.failed log);
  put = begun.3;
  only = only;
}
ended s words result before mid after stopped (le, begun, inr (inr (rose, is))) kept only tells named = record {
  cause = s;
  answer = tells;
  named = named;
  world = mid;
  left = stopped.left;
  line = begun.0;
  rest = begun.1;
  split = begun.2;
  whole = λ some quiet small. line-whole s begun.0 begun.1 (record before { loads = mid.loads }) mid after stopped.failed begun.2 rose quiet small;
  wrote = λ log. rw kept (wrote-rose s (record before { loads = mid.loads }) mid stopped.failed log);
  put = begun.3;
  only = only;
}
