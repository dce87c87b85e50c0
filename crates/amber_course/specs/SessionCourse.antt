-- The course of a session up to its first line: its first refusal in the order of work, or what it is to do. It is judged over the
-- words and the files alone.
use Rattle.std.specs.Prelude.{◌≡◌, ◌⊎◌, ℕ, List, [], ◌∷◌, bytes_eq, codes, Option, Some, None, Result, Ok, if◌then◌else◌}
use Rattle.amber_io.specs.Folder.{Named}
use Rattle.amber_rows.specs.declared.flow.Operator.{Operator}
use Rattle.amber_script.specs.Numbers.{number_up_to}
use Rattle.amber_course.specs.Course.{IsScanFile, loaded_for, run_flow, then_on, words_read}
use Rattle.amber_course.specs.Loaded.{Loaded}
use Rattle.amber_course.specs.Words.{most_batch, most_threads}
use Rattle.amber_course.specs.declared.failure.Failure.{Failure}
use Rattle.amber_course.specs.declared.failure.Failure.TheVariants as failure
use Rattle.amber_course.specs.declared.input.InputFault.{InputFault}
use Rattle.amber_course.specs.declared.input.InputFault.TheVariants as fault
use Rattle.amber_course.specs.declared.session.SessionJob.{SessionJob}
use Rattle.amber_course.specs.declared.session.SessionWords.{SessionWords}

-- ---- words

-- the words of a session, whose log is not its workflow
abbrev pub session_words : List ℕ → List ℕ → Option ℕ → Option ℕ → Option SessionWords
session_words workflow log None batch_size = None
session_words workflow log (Some threads) None = None
session_words workflow log (Some threads) (Some batch_size) =
    if bytes_eq log workflow then None else Some (record { workflow = workflow; log = log; threads = threads; batch_size = batch_size })

-- the words are the names of a workflow and a log, and two numbers
unfoldable pub session_words_of : List (List ℕ) → Option SessionWords
session_words_of (workflow ∷ log ∷ threads ∷ batch_size ∷ []) = session_words workflow log (number_up_to most_threads threads) (number_up_to most_batch batch_size)
session_words_of others = None

-- ---- the order of work

-- what a session is to do
abbrev pub session_with : SessionWords → Loaded → SessionJob
session_with words inputs = record { inputs = inputs; log = words.log; threads = words.threads; batch_size = words.batch_size }

-- the session that words ask for: the workflow is loaded and read, and its scans' files are compared with the log; each scan's file is
-- loaded and its header compared
unfoldable pub session_of : SessionWords → Named → Result SessionJob Failure
session_of words files = then_on (run_flow words.workflow words.log files) (λ flow. then_on (loaded_for flow files) (λ inputs. Ok (session_with words inputs)))

-- the words are read, and the files are loaded and read
unfoldable pub session_course_of : List (List ℕ) → Named → Result SessionJob Failure
session_course_of words files = then_on (words_read (session_words_of words)) (λ read. session_of read files)

-- ---- the files that the order of work loads

-- the workflow of a session, and the file of a scan of it, where the workflow is right
abbrev pub IsSessionFile : SessionWords → Named → List ℕ → Type 0
IsSessionFile words files file = (file ≡ words.workflow)
    ⊎ ((flow : List Operator) × (run_flow words.workflow words.log files ≡ Ok flow) × IsScanFile flow files file)

-- ---- input

-- a fault of the input, told as that of a file of this name
abbrev pub failure_of_input : InputFault → Failure
failure_of_input fault.Unread = failure.ReadFault (codes "input")
failure_of_input fault.Large = failure.TooLarge (codes "input")
