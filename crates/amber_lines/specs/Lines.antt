-- A log judged line by line, each line from those up to it.
use Rattle.std.specs.Prelude.{◌≡◌, ℕ, ◌+◌, ◌==◌, nat_le, nat_lt, ◌&&◌, List, [], ◌∷◌, ◌++◌, Option, Some, None, option_and_then, Bool, true, false}
use Rattle.std.specs.List.{flat_map}
use Rattle.amber_meaning.specs.Replay.{batch_for}
use Rattle.amber_rows.specs.Topology.{crew_of}
use Rattle.amber_rows.specs.declared.batch.Batch.{Batch}
use Rattle.amber_log.specs.Fits.{fits_of}
use Rattle.amber_log.specs.Grammar.{IsLog}
use Rattle.amber_log.specs.LogText.{log_lines, part_lines}
use Rattle.amber_log.specs.declared.entry.Entry.{Entry}
use Rattle.amber_log.specs.declared.leg.Close.{Close}
use Rattle.amber_log.specs.declared.leg.Part.{Part}
use Rattle.amber_log.specs.declared.line.Line.{Line}
use Rattle.amber_log.specs.declared.line.Line.TheVariants as line
use Rattle.amber_log.specs.declared.log.Log.{Log}
use Rattle.amber_meaning.specs.Legal.{Query, after_close, assignment_in, batches_for, leg_start}
use Rattle.amber_rows.specs.Lists.{IsPrefix, changed_at}
use Rattle.amber_judge.specs.LegalTests.{is_offered, may_close_end, may_close_run}
use Rattle.amber_meaning.specs.Position.{Position}
use Rattle.amber_meaning.specs.Rules.{position_after}
use Rattle.amber_judge.specs.RuleTests.{may_move}
use Rattle.amber_meaning.specs.State.{State, after_command, position_at, start_of, steps_in}
use Rattle.amber_lines.specs.Moving.{orders_in}

-- how far a log was judged: no line yet, after an item, or inside a leg, to the end or not, in the part of a worker
pub data Progress : Type 0 where
  Fresh : Progress
  Between : State → Progress
  Within : Bool → State → ℕ → Progress

-- ---- an entry

-- the batches that each sender has for a worker
abbrev pub offers_in : Query → State → ℕ → ℕ → List Batch
offers_in query now worker sender = batches_for query now.positions sender worker

-- whether a worker may make an entry: its rule allows it, and the batch that it takes is there
unfoldable pub may_enter : Query → State → ℕ → Entry → Bool
may_enter query now worker made =
    may_move (assignment_in query now worker) (position_at now.positions worker) made && is_offered (offers_in query now worker) made

-- where the worker stands after it
unfoldable pub position_behind : Query → State → ℕ → Entry → Position
position_behind query now worker made = position_after (orders_in query now worker) (batch_for (offers_in query now worker) made) made (position_at now.positions worker)

abbrev pub with_position : ℕ → Position → State → State
with_position worker p state = record state { positions = changed_at (λ old. p) (worker + 1) state.positions }

-- the state after it
abbrev pub state_behind : Query → State → ℕ → Entry → State
state_behind query now worker made = with_position worker (position_behind query now worker made) now

-- ---- a line

abbrev pub when : Bool → Progress → Option Progress
when true progress = Some progress
when false progress = None

-- an entry, which is made within the steps
abbrev pub judge_entry : Query → Bool → State → ℕ → Entry → Option Progress
judge_entry query to_end now worker made =
    when (may_enter query now worker made && nat_le (steps_in (state_behind query now worker made)) query.most)
    (Within to_end (state_behind query now worker made) worker)

-- the end of a leg
abbrev pub judge_close : Query → Bool → State → Close → Option Progress
judge_close query false now closed = when (may_close_run query now closed) (Between (after_close query now closed))
judge_close query true now closed = when (may_close_end query now closed) (Between now)

-- a line after an item: a command that fits the workflow, or the start of a leg
abbrev pub judge_between : Query → State → Line → Option Progress
judge_between query state (line.Do command) = when (fits_of query.flow command) (Between (after_command query.flow command state))
judge_between query state line.Run = Some (Within false (leg_start false state) 0)
judge_between query state line.End = Some (Within true (leg_start true state) 0)
judge_between query state (line.Head batch) = None
judge_between query state (line.Worker worker) = None
judge_between query state (line.Entry made) = None
judge_between query state (line.Close closed) = None

-- a line inside a leg: a worker's number, one of its entries, or the end
abbrev pub judge_within : Query → Bool → State → ℕ → Line → Option Progress
judge_within query to_end now worker (line.Worker next) = when (nat_lt next (crew_of query.flow)) (Within to_end now next)
judge_within query to_end now worker (line.Entry made) = judge_entry query to_end now worker made
judge_within query to_end now worker (line.Close closed) = judge_close query to_end now closed
judge_within query to_end now worker (line.Head batch) = None
judge_within query to_end now worker (line.Do command) = None
judge_within query to_end now worker line.Run = None
judge_within query to_end now worker line.End = None

-- the first line: the query's batch size
abbrev pub judge_head : Query → Line → Option Progress
judge_head query (line.Head batch) = when (batch == query.batch_size) (Between (start_of query.flow))
judge_head query (line.Do command) = None
judge_head query line.Run = None
judge_head query line.End = None
judge_head query (line.Worker worker) = None
judge_head query (line.Entry made) = None
judge_head query (line.Close closed) = None

-- a line, where it may follow those that were judged
abbrev pub judge : Query → Progress → Line → Option Progress
judge query Fresh one = judge_head query one
judge query (Between state) one = judge_between query state one
judge query (Within to_end now worker) one = judge_within query to_end now worker one

-- lines, one after the other
unfoldable pub judge_all : Query → Progress → List Line → Option Progress
judge_all query progress [] = Some progress
judge_all query progress (one ∷ more) = option_and_then (λ next. judge_all query next more) (judge query progress one)

-- ---- legal beginnings

-- lines that begin those of some log that has a text, and of which each may stand there
pub record IsBeginning (query : Query) (lines : List Line) : Type 0 where
  pub log : Log
  pub text : IsLog log
  pub front : IsPrefix lines (log_lines log)
  pub progress : Progress
  pub good : judge_all query Fresh lines ≡ Some progress

-- the line that opens a leg
abbrev pub leg_line : Bool → Line
leg_line false = line.Run
leg_line true = line.End

-- the lines of a log and of a leg after it that goes on
abbrev pub open_lines : Log → Bool → List Part → List Line
open_lines log to_end parts = log_lines log ++ leg_line to_end ∷ flat_map part_lines parts

-- ---- the illegal line

abbrev pub bad_or : ℕ → Option Progress → (Progress → Option ℕ) → Option ℕ
bad_or number None rest = Some number
bad_or number (Some next) rest = rest next

-- the number of the first of these lines that may not stand there, where the first has this number
unfoldable pub bad_line_from : Query → Progress → ℕ → List Line → Option ℕ
bad_line_from query progress number [] = None
bad_line_from query progress number (one ∷ more) = bad_or number (judge query progress one) (λ next. bad_line_from query next (number + 1) more)

-- the illegal line of a log that has a text
unfoldable pub illegal_line : Query → Log → Option ℕ
illegal_line query log = bad_line_from query Fresh 1 (log_lines log)
