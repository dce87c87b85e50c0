-- What is to be printed for the words of a call, or its first refusal in the order of work. It is judged over the words and the files
-- alone.
use Rattle.std.specs.Prelude.{ℕ, ◌^◌, List, [], ◌∷◌, Option, Some, None, Result, Ok, Err}
use Rattle.amber_io.specs.Folder.{Named}
use Rattle.amber_rows.specs.declared.flow.Operator.{Operator}
use Rattle.amber_log.specs.ReadAs.{read_of}
use Rattle.amber_log.specs.declared.log.Item.{Item}
use Rattle.amber_log.specs.declared.log.Log.{Log}
use Rattle.amber_course.specs.Course.{load_of, most_log, words_read, workflow_in}
use Rattle.amber_course.specs.declared.failure.Failure.{Failure}
use Rattle.amber_commands.specs.Commands.{commands_text, unfit_line}
use Rattle.amber_course.specs.declared.failure.LogWhy.TheVariants as why
use Rattle.amber_commands.specs.declared.refusal.Refusal.{Refusal}
use Rattle.amber_commands.specs.declared.refusal.Refusal.TheVariants as refusal

-- one step after another; a refusal is the last
abbrev pub go_on : {A B : Type 0} → Result A Refusal → (A → Result B Refusal) → Result B Refusal
go_on (Ok x) next = next x
go_on (Err refused) next = Err refused

-- a step that may end as any call may
abbrev pub called : {A : Type 0} → Result A Failure → Result A Refusal
called (Ok x) = Ok x
called (Err failure) = Err (refusal.Call failure)

-- ---- the log

-- the log that was read, or the first line that cannot stand there
abbrev pub log_or_refusal : Result Log ℕ → Result Log Refusal
log_or_refusal (Ok log) = Ok log
log_or_refusal (Err line) = Err (refusal.Log line why.Text)

-- the script of these items, unless a line has a command that no script for the workflow may have
abbrev pub script_unless : List Operator → List Item → Option ℕ → Result (List ℕ) Refusal
script_unless flow items None = Ok (commands_text flow items)
script_unless flow items (Some line) = Err (refusal.Log line why.Illegal)

-- the script of items that stand behind the head of a log
abbrev pub script_of_items : List Operator → List Item → Result (List ℕ) Refusal
script_of_items flow items = script_unless flow items (unfit_line 2 flow items)

-- the script of the whole items of a log's file
abbrev pub script_of_log : List Operator → List ℕ → Result (List ℕ) Refusal
script_of_log flow bytes = go_on (log_or_refusal (read_of bytes)) (λ log. script_of_items flow log.items)

-- ---- the order of work

-- the names of a workflow and of a log
pub record ScriptTask : Type 0 where
  pub workflow : List ℕ
  pub log : List ℕ

-- two words ask for a script
abbrev pub asked : List (List ℕ) → Option ScriptTask
asked (workflow ∷ log ∷ []) = Some (record { workflow = workflow; log = log })
asked others = None

-- the workflow is loaded and read, then the log is
unfoldable pub script_for : List ℕ → List ℕ → Named → Result (List ℕ) Refusal
script_for workflow log files =
    go_on (called (workflow_in workflow files)) (λ flow. go_on (called (load_of most_log log files)) (script_of_log flow))

-- the words are read, and the files are loaded and read
unfoldable pub script_course : List (List ℕ) → Named → Result (List ℕ) Refusal
script_course words files = go_on (called (words_read (asked words))) (λ names. script_for names.workflow names.log files)
