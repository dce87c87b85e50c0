-- What a recovery comes to over what is left of a log.
use Rattle.std.specs.Prelude.{◌≡◌, ℕ, ◌≤◌, List, ◌++◌, length, map, Some, Ok}
use Rattle.std.specs.FinMap as finmap
use Rattle.amber_io.specs.Folder.{Named}
use Rattle.amber_rows.specs.FlowRules.{IsFlow}
use Rattle.amber_log.specs.Items.{command_of}
use Rattle.amber_log.specs.Laws.{IsFrontOf}
use Rattle.amber_log.specs.LogText.{log_text}
use Rattle.amber_log.specs.declared.command.Command.{Command}
use Rattle.amber_log.specs.declared.log.Log.{Log}
use Rattle.amber_meaning.specs.Legal.{IsLegal, query_over}
use Rattle.amber_course.specs.Course.{course_of, end_alone, loaded_for, most_log, most_run_steps, recover_of, run_flow, script_in}
use Rattle.amber_course.specs.Loaded.{Loaded}
use Rattle.amber_course.specs.Words.{call_words_of}
use Rattle.amber_course.specs.declared.job.Job.TheVariants as job
use Rattle.amber_course.specs.declared.words.RecoverWords.{RecoverWords}
use Rattle.amber_course.specs.declared.words.Words.TheVariants as form

-- the workflow of a recovery is there with its script and the files of its scans, none of which is the log that it writes
pub record IsRecoverable (r : RecoverWords) (files : Named) (inputs : Loaded) (commands : List Command) : Type 0 where
  pub flow : IsFlow inputs.flow
  pub read : run_flow r.workflow r.log files ≡ Ok inputs.flow
  pub script : script_in r.script inputs.flow files ≡ Ok commands
  pub loaded : loaded_for inputs.flow files ≡ Ok inputs

-- where the old log holds any beginning, of at most 2^27 bytes, of the text of a legal log, whose commands are the first of those of the
-- script and the one to run to the end, a recovery has the job of going on from the first items of that log, or from none: it is not refused
abbrev pub FrontsAreRecovered : Type 0
FrontsAreRecovered = (words : List (List ℕ)) (r : RecoverWords) (files : Named) (inputs : Loaded) (commands left : List Command) (log : Log) (bytes rest : List ℕ)
    → call_words_of words ≡ Some (form.Recover r) → IsRecoverable r files inputs commands
    → IsLegal (query_over inputs.flow inputs.files log.batch most_run_steps) log → map command_of log.items ++ left ≡ commands ++ end_alone
    → bytes ++ rest ≡ log_text log → finmap.get files r.old_log ≡ Some bytes → length bytes ≤ most_log
    → (read : Log) × IsFrontOf log read × (course_of words files ≡ Ok (job.Recover (recover_of r commands inputs read)))
