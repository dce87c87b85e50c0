-- The course of a call: its first refusal in the order of work, or the job to do. It is judged over the words and the files alone.
use Rattle.std.specs.Prelude.{◌≡◌, ℕ, ◌+◌, ◌-◌, ◌^◌, ◌⊎◌, nat_le, List, [], ◌∷◌, ◌++◌, length, bytes_eq, Bool, false, Option, Some, None, Result, Ok, Err, IsOk, if◌then◌else◌}
use Rattle.std.specs.FinMap as finmap
use Rattle.amber_io.specs.Folder.{Named}
use Rattle.amber_rows.specs.Record.{has_header}
use Rattle.amber_rows.specs.declared.column.Column.{Column}
use Rattle.amber_rows.specs.declared.flow.What.{What}
use Rattle.amber_rows.specs.declared.flow.What.TheVariants as what
use Rattle.amber_rows.specs.declared.flow.Operator.{Operator}
use Rattle.amber_flow.specs.Workflow.{workflow_of}
use Rattle.amber_flow.specs.declared.error.Fault.{Fault}
use Rattle.amber_log.specs.ReadAs.{read_of}
use Rattle.amber_log.specs.Items.{command_of, is_same_command}
use Rattle.amber_log.specs.LogText.{item_lines}
use Rattle.amber_log.specs.declared.command.Command.{Command}
use Rattle.amber_log.specs.declared.command.Command.TheVariants as command
use Rattle.amber_log.specs.declared.log.Item.{Item}
use Rattle.amber_log.specs.declared.log.Log.{Log}
use Rattle.amber_lines.specs.Lines.{illegal_line}
use Rattle.amber_meaning.specs.Legal.{query_over}
use Rattle.amber_meaning.specs.Plain.{row_total}
use Rattle.amber_script.specs.Script.{BadLine, script_of}
use Rattle.amber_course.specs.Loaded.{Loaded}
use Rattle.amber_course.specs.Words.{call_words_of}
use Rattle.amber_course.specs.declared.job.Job.{Job}
use Rattle.amber_course.specs.declared.job.Job.TheVariants as job
use Rattle.amber_course.specs.declared.job.RecoverJob.{RecoverJob}
use Rattle.amber_course.specs.declared.job.ReplayJob.{ReplayJob}
use Rattle.amber_course.specs.declared.job.RunJob.{RunJob}
use Rattle.amber_course.specs.declared.words.RecoverWords.{RecoverWords}
use Rattle.amber_course.specs.declared.words.ReplayWords.{ReplayWords}
use Rattle.amber_course.specs.declared.words.RunWords.{RunWords}
use Rattle.amber_course.specs.declared.words.Words.{Words}
use Rattle.amber_course.specs.declared.words.Words.TheVariants as form
use Rattle.amber_course.specs.declared.failure.LogWhy.TheVariants as why
use Rattle.amber_course.specs.declared.failure.Reason.TheVariants as reason
use Rattle.amber_course.specs.declared.failure.Failure.{Failure}
use Rattle.amber_course.specs.declared.failure.Failure.TheVariants as failure

-- one step after another; a refusal is the last
abbrev pub then_on : {A B : Type 0} → Result A Failure → (A → Result B Failure) → Result B Failure
then_on (Ok x) next = next x
then_on (Err s) next = Err s

-- ---- limits

-- how many bytes a workflow or a script may have
abbrev pub most_text : ℕ
most_text = 2 ^ 20

-- how many bytes the files of all scans may have together
abbrev pub most_scanned : ℕ
most_scanned = 2 ^ 25

-- how many rows all operators of a query may give together
abbrev pub most_rows : ℕ
most_rows = 2 ^ 40

-- how many bytes a log may have that is read
abbrev pub most_log : ℕ
most_log = 2 ^ 27

-- how many steps a run may make
abbrev pub most_run_steps : ℕ
most_run_steps = 2 ^ 40

-- ---- files

-- a file has to be there, and may have so many bytes
abbrev pub require_size : ℕ → List ℕ → Option (List ℕ) → Result (List ℕ) Failure
require_size most name None = Err (failure.ReadFault name)
require_size most name (Some bytes) = if nat_le (length bytes) most then Ok bytes else Err (failure.TooLarge name)

-- a file of this name
unfoldable pub load_of : ℕ → List ℕ → Named → Result (List ℕ) Failure
load_of most name files = require_size most name (finmap.get files name)

-- the workflow that was read, or the first reason against it
abbrev pub flow_read : Result (List Operator) Fault → Result (List Operator) Failure
flow_read (Ok flow) = Ok flow
flow_read (Err fault) = Err (failure.BadFlow fault.op (reason.Flow fault.why))

-- the workflow in the file of this name
unfoldable pub workflow_in : List ℕ → Named → Result (List Operator) Failure
workflow_in name files = then_on (load_of most_text name files) (λ bytes. flow_read (workflow_of bytes))

-- the commands that were read, or the first bad line of the script with its first reason
abbrev pub script_read : Result (List Command) BadLine → Result (List Command) Failure
script_read (Ok commands) = Ok commands
script_read (Err bad) = Err (failure.BadScript bad.line bad.why)

-- the commands of the script in the file of this name, for a workflow
unfoldable pub script_in : List ℕ → List Operator → Named → Result (List Command) Failure
script_in name flow files = then_on (load_of most_text name files) (λ bytes. script_read (script_of bytes flow))

-- ---- the log

-- whether a scan reads this file
abbrev pub is_scan_of : List ℕ → What → Bool
is_scan_of log (what.Scan file) = bytes_eq file log
is_scan_of log other = false

-- the first scan, of the operators from this number on, that reads the log
unfoldable pub log_scan : ℕ → List ℕ → List Operator → Option ℕ
log_scan op log [] = None
log_scan op log (operator ∷ more) = if is_scan_of log operator.what then Some op else log_scan (op + 1) log more

-- the log has to be none of the scans' files
abbrev pub apart_from : List Operator → Option ℕ → Result (List Operator) Failure
apart_from flow None = Ok flow
apart_from flow (Some op) = Err (failure.BadFlow op reason.LogName)

-- the workflow of a run, whose scans do not read the log
unfoldable pub run_flow : List ℕ → List ℕ → Named → Result (List Operator) Failure
run_flow workflow log files = then_on (workflow_in workflow files) (λ flow. apart_from flow (log_scan 1 log flow))

-- the log that was read, or the first line that cannot stand there
abbrev pub log_or_line : Result Log ℕ → Result Log Failure
log_or_line (Ok log) = Ok log
log_or_line (Err line) = Err (failure.BadLog line why.Text)

-- the log that the whole items of the file of this name are
unfoldable pub log_in : List ℕ → Named → Result Log Failure
log_in name files = then_on (load_of most_log name files) (λ bytes. log_or_line (read_of bytes))

-- ---- scans

-- a scan's file has to begin with the names of its columns
abbrev pub require_header : ℕ → List Column → List ℕ → Result (List ℕ) Failure
require_header op columns bytes = if has_header columns bytes then Ok bytes else Err (failure.BadFlow op reason.Header)

-- the file of a scan, where all scans from it on may have so many bytes together
unfoldable pub scan_file : ℕ → ℕ → List ℕ → List Column → Named → Result (List ℕ) Failure
scan_file op left name columns files = then_on (load_of left name files) (require_header op columns)

-- a file before those of later scans
abbrev pub file_before : List ℕ → Result (List (List ℕ)) Failure → Result (List (List ℕ)) Failure
file_before bytes (Ok others) = Ok (bytes ∷ others)
file_before bytes (Err s) = Err s

-- the file of an operator, where it is a scan, before those of later scans, which may have the bytes that it leaves
abbrev pub scan_before : ℕ → ℕ → What → List Column → Named → (ℕ → Result (List (List ℕ)) Failure) → Result (List (List ℕ)) Failure
scan_before op left (what.Scan name) columns files later = then_on (scan_file op left name columns files) (λ bytes. file_before bytes (later (left - length bytes)))
scan_before op left other columns files later = later left

-- the files of the scans among the operators from this number on
unfoldable pub scans_from : ℕ → ℕ → List Operator → Named → Result (List (List ℕ)) Failure
scans_from op left [] files = Ok []
scans_from op left (operator ∷ more) files = scan_before op left operator.what operator.schema files (λ rest. scans_from (op + 1) rest more files)

-- the files of a workflow's scans
unfoldable pub scans_of : List Operator → Named → Result (List (List ℕ)) Failure
scans_of flow files = scans_from 1 most_scanned flow files

-- a workflow with the files of its scans
unfoldable pub loaded_for : List Operator → Named → Result Loaded Failure
loaded_for flow files = then_on (scans_of flow files) (λ scans. Ok (record { flow = flow; files = scans }))

-- ---- the order of work

abbrev pub words_read : {A : Type 0} → Option A → Result A Failure
words_read None = Err failure.Usage
words_read (Some words) = Ok words

-- what a run is to do
abbrev pub run_of : RunWords → List Command → Loaded → RunJob
run_of words commands inputs =
    record { inputs = inputs; commands = commands; log = words.log; threads = words.threads; batch_size = words.batch_size }

-- with what a recovery is to go on
abbrev pub recover_of : RecoverWords → List Command → Loaded → Log → RecoverJob
recover_of words commands inputs old =
    record { inputs = inputs; commands = commands; old = old; log = words.log; threads = words.threads }

-- the job that words ask for: the workflow is loaded and read; for a run its scans' files are compared with the log, and the script is
-- loaded and read; each scan's file is loaded and its header compared
unfoldable pub job_of : Words → Named → Result Job Failure
job_of (form.Plain workflow) files =
    then_on (workflow_in workflow files) (λ flow. then_on (loaded_for flow files) (λ inputs. Ok (job.Plain inputs)))
job_of (form.Run words) files =
    then_on (run_flow words.workflow words.log files)
    (λ flow. then_on (script_in words.script flow files) (λ commands. then_on (loaded_for flow files) (λ inputs. Ok (job.Run (run_of words commands inputs)))))
job_of (form.Replay words) files =
    then_on (run_flow words.workflow words.log files)
    (λ flow. then_on (loaded_for flow files) (λ inputs. then_on (log_in words.log files) (λ log. Ok (job.Replay (record { inputs = inputs; log = log })))))
job_of (form.Recover words) files =
    then_on (run_flow words.workflow words.log files)
    (λ flow. then_on (script_in words.script flow files) (λ commands. then_on (loaded_for flow files) (λ inputs. then_on (log_in words.old_log files) (λ old. Ok (job.Recover (recover_of words commands inputs old))))))

-- the illegal line of a log, which a run over these files is to have written
abbrev pub illegal_line_in : ReplayJob → Option ℕ
illegal_line_in r = illegal_line (query_over r.inputs.flow r.inputs.files r.log.batch most_run_steps) r.log

abbrev pub legal_or : ReplayJob → Option ℕ → Result Job Failure
legal_or r None = Ok (job.Replay r)
legal_or r (Some line) = Err (failure.BadLog line why.Illegal)

-- what is done after the commands of a script
abbrev pub end_alone : List Command
end_alone = command.End ∷ []

-- whether an item was made for the first of these commands
abbrev pub is_for_first : List Command → Item → Bool
is_for_first [] one = false
is_for_first (next ∷ commands) one = is_same_command next (command_of one)

-- the line of the first of these items that was not made for the next of the commands, where their first line has this number
unfoldable pub strange_from : ℕ → List Command → List Item → Option ℕ
strange_from line commands [] = None
strange_from line [] (one ∷ items) = Some line
strange_from line (next ∷ commands) (one ∷ items) =
    if is_same_command next (command_of one) then strange_from (line + length (item_lines one)) commands items else Some line

-- the same of the items of an old log, whose commands are to be the first of those of the script and the one to run to the end
abbrev pub strange_line_in : RecoverJob → Option ℕ
strange_line_in r = strange_from 2 (r.commands ++ end_alone) r.old.items

-- the old log of a recovery, as one that is replayed
abbrev pub replayed_by : RecoverJob → ReplayJob
replayed_by r = record { inputs = r.inputs; log = r.old }

-- a recovery goes on unless the old log has an illegal line, or else one for another command
abbrev pub goes_on_or : RecoverJob → Option ℕ → Option ℕ → Result Job Failure
goes_on_or r None None = Ok (job.Recover r)
goes_on_or r None (Some line) = Err (failure.BadLog line why.Command)
goes_on_or r (Some line) strange = Err (failure.BadLog line why.Illegal)

-- the operators of a query that is printed at once give no more rows than they may, a log that is replayed is legal, and one from which a
-- run is recovered is legal and its commands are the script's
abbrev pub require_limit : Job → Result Job Failure
require_limit (job.Plain inputs) = if nat_le (row_total inputs.flow inputs.files) most_rows then Ok (job.Plain inputs) else Err failure.Long
require_limit (job.Run run) = Ok (job.Run run)
require_limit (job.Replay r) = legal_or r (illegal_line_in r)
require_limit (job.Recover r) = goes_on_or r (illegal_line_in (replayed_by r)) (strange_line_in r)

-- the words are read; the files are loaded and read; for `plain` the rows of all operators are counted, and for `replay` and
-- `recover` the log is judged that was read
unfoldable pub course_of : List (List ℕ) → Named → Result Job Failure
course_of words files = then_on (words_read (call_words_of words)) (λ read. then_on (job_of read files) require_limit)

-- ---- the files that the order of work loads

-- the file of a scan among these operators, where the files of the scans before it are there and right
pub record IsScanFile (flow : List Operator) (files : Named) (file : List ℕ) : Type 0 where
  pub front : List Operator
  pub operator : Operator
  pub later : List Operator
  pub split : flow ≡ front ++ operator ∷ later
  pub names : operator.what ≡ what.Scan file
  pub right : IsOk (scans_of front files)

-- the file of a scan of the workflow, where it is one
abbrev pub IsScanned : List ℕ → Named → List ℕ → Type 0
IsScanned workflow files file = (flow : List Operator) × (workflow_in workflow files ≡ Ok flow) × IsScanFile flow files file

-- the script of a run, where its workflow is right, and the file of a scan of it, where the script is right too
abbrev pub IsRunFile : RunWords → Named → List ℕ → Type 0
IsRunFile words files file = (flow : List Operator) × (run_flow words.workflow words.log files ≡ Ok flow)
    × ((file ≡ words.script) ⊎ (IsOk (script_in words.script flow files) × IsScanFile flow files file))

-- the file of a scan of the workflow, where it is right, and the log, where all scans' files are right too
abbrev pub IsReplayFile : ReplayWords → Named → List ℕ → Type 0
IsReplayFile words files file = (flow : List Operator) × (run_flow words.workflow words.log files ≡ Ok flow)
    × (IsScanFile flow files file ⊎ (IsOk (loaded_for flow files) × (file ≡ words.log)))

-- the same and the script of a recovery, where its workflow is right, and the old log, where the script and all scans' files are right
abbrev pub IsRecoverFile : RecoverWords → Named → List ℕ → Type 0
IsRecoverFile words files file = (flow : List Operator) × (run_flow words.workflow words.log files ≡ Ok flow)
    × ((file ≡ words.script) ⊎ (IsOk (script_in words.script flow files) × (IsScanFile flow files file ⊎ (IsOk (loaded_for flow files) × (file ≡ words.old_log)))))

abbrev pub IsLoaded : Words → Named → List ℕ → Type 0
IsLoaded (form.Plain workflow) files file = (file ≡ workflow) ⊎ IsScanned workflow files file
IsLoaded (form.Run words) files file = (file ≡ words.workflow) ⊎ IsRunFile words files file
IsLoaded (form.Replay words) files file = (file ≡ words.workflow) ⊎ IsReplayFile words files file
IsLoaded (form.Recover words) files file = (file ≡ words.workflow) ⊎ IsRecoverFile words files file

-- a file that the order of work reaches: what comes before it is there and right
abbrev pub IsReached : List (List ℕ) → Named → List ℕ → Type 0
IsReached words files file = (read : Words) × (call_words_of words ≡ Some read) × IsLoaded read files file
