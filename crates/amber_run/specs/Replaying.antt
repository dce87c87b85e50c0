-- What a replay comes to over the log of a run.
use Rattle.std.specs.Prelude.{◌≡◌, ℕ, ◌≤◌, List, [], ◌∷◌, ◌++◌, length, codes, bytes_eq, Some, Ok, false}
use Rattle.std.specs.FinMap as finmap
use Rattle.amber_io.specs.Folder.{Named}
use Rattle.amber_rows.specs.FlowRules.{IsFlow}
use Rattle.amber_log.specs.LogText.{log_text}
use Rattle.amber_log.specs.declared.log.Item.{Item}
use Rattle.amber_log.specs.declared.log.Log.{Log}
use Rattle.amber_meaning.specs.Legal.{IsLegal, query_over}
use Rattle.amber_course.specs.Course.{course_of, loaded_for, most_log, most_run_steps, run_flow}
use Rattle.amber_course.specs.Loaded.{Loaded}
use Rattle.amber_course.specs.declared.job.Job.TheVariants as job

-- the words of a replay
abbrev pub replay_call : List ℕ → List ℕ → List (List ℕ)
replay_call workflow name = codes "replay" ∷ workflow ∷ name ∷ []

abbrev pub log_of : ℕ → List Item → Log
log_of batch items = record { batch = batch; items = items }

-- a workflow is there with the files of its scans, none of which has this name, nor has the workflow
pub record StandsBeside (workflow name : List ℕ) (files : Named) (inputs : Loaded) : Type 0 where
  pub flow : IsFlow inputs.flow
  pub apart : bytes_eq name workflow ≡ false
  pub read : run_flow workflow name files ≡ Ok inputs.flow
  pub loaded : loaded_for inputs.flow files ≡ Ok inputs

-- where the first items of a legal log, however many, stand in a file of at most 2^27 bytes, a replay has the job of telling them: it
-- is not refused, and where it ends well it prints their transcript
abbrev pub FrontsAreReplayed : Type 0
FrontsAreReplayed = (workflow name : List ℕ) (files : Named) (inputs : Loaded) (batch : ℕ) (items more : List Item)
    → StandsBeside workflow name files inputs
    → IsLegal (query_over inputs.flow inputs.files batch most_run_steps) (log_of batch (items ++ more))
    → finmap.get files name ≡ Some (log_text (log_of batch items)) → length (log_text (log_of batch items)) ≤ most_log
    → course_of (replay_call workflow name) files ≡ Ok (job.Replay (record { inputs = inputs; log = log_of batch items }))
