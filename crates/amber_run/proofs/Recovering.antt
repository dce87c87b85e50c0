-- What is left of a legal log is gone on from.
use Rattle.std.proofs.Common.{◌≡◌, ℕ, ◌≤◌, List, [], ◌∷◌, ◌++◌, length, map, take, drop, false, Option, None, Some, Ok, ◌⊎◌, inl, inr, refl, sym, ap, subst, ◌∙◌, arith, append_assoc}
use Rattle.std.specs.FinMap as finmap
use Rattle.std.proofs.lemmas.List.{map-append}
use Rattle.std.proofs.lemmas.List.{take-append-drop}
use Rattle.amber_io.specs.Folder.{Named}
use Rattle.amber_rows.specs.FlowRules.{IsFlow}
use Rattle.amber_log.specs.Grammar.{AreItems}
use Rattle.amber_log.specs.Items.{command_of}
use Rattle.amber_log.specs.Laws.{IsFrontOf, first_items}
use Rattle.amber_log.specs.ReadAs.{read_of}
use Rattle.amber_log.specs.ReadLines.{empty_log}
use Rattle.amber_log.specs.declared.command.Command.{Command}
use Rattle.amber_log.specs.declared.log.Log.{Log}
use Rattle.amber_log.proofs.Torn.{fronts_are_read}
use Rattle.amber_meaning.specs.Legal.{IsLegal, Reaches, query_over}
use Rattle.amber_meaning.specs.State.{start_of}
use Rattle.amber_meaning.proofs.Fronts.{fronts_are_legal}
use Rattle.amber_meaning.proofs.Senders.{flows_send_forward}
use Rattle.amber_course.specs.Course.{end_alone, illegal_line_in, job_of, loaded_for, log_in, most_run_steps, recover_of, replayed_by, require_limit, run_flow, script_in, strange_line_in}
use Rattle.amber_course.specs.Loaded.{Loaded}
use Rattle.amber_course.specs.declared.job.Job.TheVariants as job
use Rattle.amber_course.specs.declared.job.RecoverJob.{RecoverJob}
use Rattle.amber_course.specs.declared.words.RecoverWords.{RecoverWords}
use Rattle.amber_course.specs.declared.words.Words.TheVariants as form
use Rattle.amber_course.proofs.Commanded.{commands-none}
use Rattle.amber_recover.proofs.Legal.{none-illegal}
use Rattle.amber_run.specs.Recovering.{FrontsAreRecovered, IsRecoverable}
use Rattle.amber_run.proofs.Ending.{course-job}
use Rattle.amber_run.proofs.Replaying.{log-read}

-- a run of no item is legal
none-legal : (inputs : Loaded) → IsLegal (query_over inputs.flow inputs.files 400 most_run_steps) empty_log
unfolding AreItems Reaches
none-legal inputs = record { text = record { batch = (omega arith, omega arith); items = tt }; batch = refl; after = start_of inputs.flow; reached = refl }

-- what is read is legal, and its commands are the script's first
record IsGoodFront (inputs : Loaded) (commands : List Command) (read : Log) : Type 0 where
  legal : IsLegal (query_over inputs.flow inputs.files read.batch most_run_steps) read
  left : List Command
  first : map command_of read.items ++ left ≡ commands ++ end_alone

good-front : (inputs : Loaded) (commands left : List Command) (log read : Log) → IsLegal (query_over inputs.flow inputs.files log.batch most_run_steps) log
    → map command_of log.items ++ left ≡ commands ++ end_alone → IsFrontOf log read → IsGoodFront inputs commands read
good-front inputs commands left log read legal first (inl none) =
    subst (IsGoodFront inputs commands) (sym none) (record { legal = none-legal inputs; left = commands ++ end_alone; first = refl })
good-front inputs commands left log read legal first (inr (count, is)) =
    let query = query_over inputs.flow inputs.files log.batch most_run_steps in
    let both : take count log.items ++ drop count log.items ≡ log.items = take-append-drop count log.items in
    subst (IsGoodFront inputs commands) (sym is) (record {
      legal = fronts_are_legal query log.batch (take count log.items) (drop count log.items)
          (subst (λ items. IsLegal query (record { batch = log.batch; items = items })) (sym both) legal);
      left = map command_of (drop count log.items) ++ left;
      first = sym (append_assoc (map command_of (take count log.items)) (map command_of (drop count log.items)) left)
          ∙ ap (λ c. c ++ left) (sym (map-append command_of (take count log.items) (drop count log.items)) ∙ ap (λ items. map command_of items) both) ∙ first;
    })

recover-read : (r : RecoverWords) (files : Named) (inputs : Loaded) (commands : List Command) (read : Log) → IsRecoverable r files inputs commands → log_in r.old_log files ≡ Ok read
    → job_of (form.Recover r) files ≡ Ok (job.Recover (recover_of r commands inputs read))
unfolding job_of
recover-read r files inputs commands read ready got = rw (ready.read, ready.script, ready.loaded, got) refl

not-refused : (one : RecoverJob) → illegal_line_in (replayed_by one) ≡ None → strange_line_in one ≡ None → require_limit (job.Recover one) ≡ Ok (job.Recover one)
not-refused one legal first = rw (legal, first) refl

pub fronts_are_recovered : FrontsAreRecovered
fronts_are_recovered words r files inputs commands left log bytes rest ask ready legal first whole got few =
    let front = fronts_are_read log bytes rest legal.text whole in
    let good = good-front inputs commands left log front.read legal first front.front in
    let one : RecoverJob = recover_of r commands inputs front.read in
    let query = query_over inputs.flow inputs.files front.read.batch most_run_steps in
    let none : illegal_line_in (replayed_by one) ≡ None = none-illegal query front.read (flows_send_forward inputs.flow ready.flow) good.legal in
    let same : strange_line_in one ≡ None = commands-none 2 (commands ++ end_alone) front.read.items good.left good.first in (
      front.read,
      front.front,
      course-job words (form.Recover r) files (job.Recover one) (Ok (job.Recover one)) ask
          (recover-read r files inputs commands front.read ready (log-read r.old_log files front.read bytes got few front.found)) (not-refused one none same),
    )
