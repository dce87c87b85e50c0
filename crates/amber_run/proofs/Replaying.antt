-- A front of a legal log is read, and has no illegal line.
use Rattle.std.proofs.Common.{◌≡◌, ℕ, ◌≤◌, List, [], ◌∷◌, ◌++◌, length, bytes_eq, nat_le, true, false, Option, None, Some, Ok, refl, ap, arith}
use Rattle.std.proofs.lemmas.Bool.Decides.{nat_tests}
use Rattle.std.specs.FinMap as finmap
use Rattle.amber_io.specs.Folder.{Named}
use Rattle.amber_log.specs.LogText.{log_text}
use Rattle.amber_log.specs.ReadAs.{read_of}
use Rattle.amber_log.specs.declared.log.Item.{Item}
use Rattle.amber_log.specs.declared.log.Log.{Log}
use Rattle.amber_log.proofs.Exact.{reads_what_stands}
use Rattle.amber_log.proofs.Torn.{reads-whole}
use Rattle.amber_meaning.specs.Legal.{IsLegal, Query, query_over}
use Rattle.amber_meaning.proofs.Fronts.{fronts_are_legal}
use Rattle.amber_meaning.proofs.Senders.{flows_send_forward}
use Rattle.amber_course.specs.Course.{course_of, illegal_line_in, job_of, load_of, loaded_for, log_in, most_log, most_run_steps, require_limit, run_flow}
use Rattle.amber_course.specs.Loaded.{Loaded}
use Rattle.amber_course.specs.Words.{call_words_of}
use Rattle.amber_course.specs.declared.job.Job.TheVariants as job
use Rattle.amber_course.specs.declared.job.ReplayJob.{ReplayJob}
use Rattle.amber_course.specs.declared.words.Words.TheVariants as form
use Rattle.amber_recover.proofs.Legal.{none-illegal}
use Rattle.amber_run.specs.Replaying.{FrontsAreReplayed, StandsBeside, log_of, replay_call}
use Rattle.amber_run.proofs.Ending.{course-job}

is-small : (m most : ℕ) → m ≤ most → nat_le m most ≡ true
is-small m most h = grind (arith, nat_tests)

-- the file is loaded, and read as the log
pub log-read : (name : List ℕ) (files : Named) (log : Log) (bytes : List ℕ) → finmap.get files name ≡ Some bytes → length bytes ≤ most_log → read_of bytes ≡ Ok log → log_in name files ≡ Ok log
unfolding log_in load_of
log-read name files log bytes got few read = rw (got, is-small (length bytes) most_log few, read) refl

-- the words ask for a replay
words-ask : (workflow name : List ℕ) → bytes_eq name workflow ≡ false → call_words_of (replay_call workflow name) ≡ Some (form.Replay (record { workflow = workflow; log = name }))
unfolding call_words_of
words-ask workflow name apart = rw apart refl

job-read : (workflow name : List ℕ) (files : Named) (inputs : Loaded) (log : Log) → run_flow workflow name files ≡ Ok inputs.flow → loaded_for inputs.flow files ≡ Ok inputs → log_in name files ≡ Ok log
    → job_of (form.Replay (record { workflow = workflow; log = name })) files ≡ Ok (job.Replay (record { inputs = inputs; log = log }))
unfolding job_of
job-read workflow name files inputs log read loaded got = rw (read, loaded, got) refl

pub fronts_are_replayed : FrontsAreReplayed
fronts_are_replayed workflow name files inputs batch items more beside legal got few =
    let query = query_over inputs.flow inputs.files batch most_run_steps in
    let log = log_of batch items in
    let front : IsLegal query log = fronts_are_legal query batch items more legal in
    let read : read_of (log_text log) ≡ Ok log = (reads_what_stands (log_text log) log).1 (reads-whole log front.text) in
    let one : ReplayJob = record { inputs = inputs; log = log } in
    let none : illegal_line_in one ≡ None = none-illegal query log (flows_send_forward inputs.flow beside.flow) front in
    course-job (replay_call workflow name) (form.Replay (record { workflow = workflow; log = name })) files (job.Replay one) (Ok (job.Replay one)) (words-ask workflow name beside.apart)
    (job-read workflow name files inputs log beside.read beside.loaded (log-read name files log (log_text log) got few read)) (limit-none one none)
  where
    limit-none : (one : ReplayJob) → illegal_line_in one ≡ None → require_limit (job.Replay one) ≡ Ok (job.Replay one)
    limit-none one none = rw none refl
