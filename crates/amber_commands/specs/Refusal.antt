-- The status and the error line of a call that prints no script.
use Rattle.std.specs.Prelude.{◌≡◌, ◌⊎◌, ℕ, List, ◌++◌, codes}
use Rattle.std.specs.Fmt.{decimal}
use Rattle.amber_course.specs.Failure.{IsToldAs, error_line_of, log_reason_word, status_of}
use Rattle.amber_course.specs.declared.status.Status.{Status}
use Rattle.amber_course.specs.declared.status.Status.TheVariants as status
use Rattle.amber_commands.specs.declared.refusal.Refusal.{Refusal}
use Rattle.amber_commands.specs.declared.refusal.Refusal.TheVariants as refusal

abbrev pub refusal_status : Refusal → Status
refusal_status (refusal.Call failure) = status_of failure
refusal_status (refusal.Log line why) = status.BadLog

abbrev pub refusal_line : Refusal → List ℕ
refusal_line (refusal.Call failure) = error_line_of failure
refusal_line (refusal.Log line why) = codes "error 7 log " ++ (decimal line ++ (codes " " ++ (log_reason_word why ++ codes "\n")))

-- the status that tells a refusal. Running out of memory may stand in for any, but not for a sink that failed
abbrev pub TellsRefusal : Refusal → Status → Type 0
TellsRefusal (refusal.Call failure) result = IsToldAs failure result
TellsRefusal (refusal.Log line why) result = (result ≡ status.BadLog) ⊎ (result ≡ status.NoMemory)
