-- What the words of a call ask for.
use Rattle.std.specs.Prelude.{ℕ, ◌<◌, ◌≤◌, ◌||◌, List, [], ◌∷◌, codes, bytes_eq, Option, Some, None, if◌then◌else◌, ⊤}
use Rattle.amber_script.specs.Numbers.{number_up_to}
use Rattle.amber_course.specs.declared.words.Sizes.{Sizes}
use Rattle.amber_course.specs.declared.words.Words.{Words}
use Rattle.amber_course.specs.declared.words.Words.TheVariants as form

-- how many threads a run may have, and how many rows a batch
abbrev pub most_threads : ℕ
most_threads = 64

abbrev pub most_batch : ℕ
most_batch = 65536

-- how many threads a run has, and how many rows a batch, where both numbers are right
abbrev pub sizes_of : Option ℕ → Option ℕ → Option Sizes
sizes_of None batch_size = None
sizes_of (Some threads) None = None
sizes_of (Some threads) (Some batch_size) = Some (record { threads = threads; batch_size = batch_size })

-- the words of a run, whose log is none of its other files
abbrev pub run_words : List ℕ → List ℕ → List ℕ → Option ℕ → Option ℕ → Option Words
run_words workflow script log None batch_size = None
run_words workflow script log (Some threads) None = None
run_words workflow script log (Some threads) (Some batch_size) =
    if bytes_eq log workflow || bytes_eq log script then None
    else Some (form.Run (record { workflow = workflow; script = script; log = log; threads = threads; batch_size = batch_size }))

-- the words of a replay, whose log is not its workflow
abbrev pub replay_words : List ℕ → List ℕ → Option Words
replay_words workflow log = if bytes_eq log workflow then None else Some (form.Replay (record { workflow = workflow; log = log }))

-- the words of a recovery, whose log is none of its other files
abbrev pub recover_words : List ℕ → List ℕ → List ℕ → List ℕ → Option ℕ → Option Words
recover_words workflow script old_log log None = None
recover_words workflow script old_log log (Some threads) =
    if bytes_eq log workflow || (bytes_eq log script || bytes_eq log old_log) then None
    else Some (form.Recover (record { workflow = workflow; script = script; old_log = old_log; log = log; threads = threads }))

-- the words are `plain` and the name of a workflow, `replay` and the names of a workflow and a log, `run` and the names of a workflow, a
-- script and a log and two numbers, or `recover` and the names of a workflow, a script, an old log and a log and a number
unfoldable pub call_words_of : List (List ℕ) → Option Words
call_words_of (word ∷ workflow ∷ []) = if bytes_eq word (codes "plain") then Some (form.Plain workflow) else None
call_words_of (word ∷ workflow ∷ log ∷ []) = if bytes_eq word (codes "replay") then replay_words workflow log else None
call_words_of (word ∷ workflow ∷ script ∷ third ∷ fourth ∷ last ∷ []) =
    if bytes_eq word (codes "run") then run_words workflow script third (number_up_to most_threads fourth) (number_up_to most_batch last)
    else if bytes_eq word (codes "recover") then recover_words workflow script third fourth (number_up_to most_threads last) else None
call_words_of others = None

-- the number of threads is in its range
abbrev pub AreThreads : ℕ → Type 0
AreThreads threads = (0 < threads) × (threads ≤ most_threads)

-- the numbers of a run are in their ranges
pub record AreSizes (threads batch_size : ℕ) : Type 0 where
  pub some_threads : 0 < threads
  pub few_threads : threads ≤ most_threads
  pub some_batch : 0 < batch_size
  pub few_batch : batch_size ≤ most_batch

abbrev pub AreSound : Words → Type 0
AreSound (form.Plain workflow) = ⊤
AreSound (form.Run words) = AreSizes words.threads words.batch_size
AreSound (form.Replay words) = ⊤
AreSound (form.Recover words) = AreThreads words.threads
