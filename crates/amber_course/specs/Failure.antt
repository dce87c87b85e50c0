-- The status and the error line of a call that ended early.
use Rattle.std.specs.Prelude.{◌≡◌, ◌⊎◌, ℕ, List, [], ◌++◌, codes}
use Rattle.std.specs.Fmt.{decimal}
use Rattle.amber_flow.specs.Words.{flow_reason_word}
use Rattle.amber_script.specs.Reasons.{script_reason_word}
use Rattle.amber_course.specs.declared.status.Status.{Status}
use Rattle.amber_course.specs.declared.status.Status.TheVariants as status
use Rattle.amber_course.specs.declared.failure.LogWhy.{LogWhy}
use Rattle.amber_course.specs.declared.failure.LogWhy.TheVariants as why
use Rattle.amber_course.specs.declared.failure.Reason.{Reason}
use Rattle.amber_course.specs.declared.failure.Reason.TheVariants as reason
use Rattle.amber_course.specs.declared.failure.Failure.{Failure}
use Rattle.amber_course.specs.declared.failure.Failure.TheVariants as failure

abbrev pub status_of : Failure → Status
status_of failure.Usage = status.Usage
status_of (failure.BadFlow op why) = status.BadFlow
status_of (failure.BadScript line why) = status.BadScript
status_of (failure.ReadFault name) = status.ReadFault
status_of failure.LogFault = status.LogFault
status_of failure.OutFault = status.OutFault
status_of (failure.BadLog line why) = status.BadLog
status_of failure.Long = status.Long
status_of (failure.TooLarge name) = status.TooLarge
status_of failure.NoMemory = status.NoMemory

-- the status that tells a failure. Running out of memory may stand in for any, but not for a sink that failed
abbrev pub IsToldAs : Failure → Status → Type 0
IsToldAs failure.OutFault result = result ≡ status.OutFault
IsToldAs other result = (result ≡ status_of other) ⊎ (result ≡ status.NoMemory)

-- ---- error lines

abbrev pub reason_word : Reason → List ℕ
reason_word (reason.Flow why) = flow_reason_word why
reason_word reason.Header = codes "Header"
reason_word reason.LogName = codes "LogName"

abbrev pub log_reason_word : LogWhy → List ℕ
log_reason_word why.Text = codes "Text"
log_reason_word why.Illegal = codes "Illegal"
log_reason_word why.Command = codes "Command"

-- the line that is printed after a refusal; a sink that failed gets none
abbrev pub error_line_of : Failure → List ℕ
error_line_of failure.Usage = codes "error 1 usage\n"
error_line_of (failure.BadFlow op why) = codes "error 2 flow " ++ (decimal op ++ (codes " " ++ (reason_word why ++ codes "\n")))
error_line_of (failure.BadScript line why) = codes "error 3 script " ++ (decimal line ++ (codes " " ++ (script_reason_word why ++ codes "\n")))
error_line_of (failure.ReadFault name) = codes "error 4 read " ++ (name ++ codes "\n")
error_line_of failure.LogFault = codes "error 5 log write\n"
error_line_of failure.OutFault = []
error_line_of (failure.BadLog line why) = codes "error 7 log " ++ (decimal line ++ (codes " " ++ (log_reason_word why ++ codes "\n")))
error_line_of failure.Long = codes "error 8 long\n"
error_line_of (failure.TooLarge name) = codes "error 9 large " ++ (name ++ codes "\n")
error_line_of failure.NoMemory = codes "error 10 memory\n"
