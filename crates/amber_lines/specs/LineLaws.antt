-- Laws of logs that are judged line by line.
use Rattle.std.specs.Prelude.{◌≡◌, ℕ, ◌+◌, ◌<◌, ◌≤◌, ◌↔◌, List, [], ◌∷◌, ◌++◌, length, take, Some, None, Bool, true, false}
use Rattle.amber_rows.specs.Topology.{crew_of}
use Rattle.amber_log.specs.Grammar.{AreParts, IsLog, ends_over}
use Rattle.amber_log.specs.LogText.{log_lines}
use Rattle.amber_log.specs.ReadLines.{part_of}
use Rattle.amber_log.specs.declared.entry.Entry.{Entry}
use Rattle.amber_log.specs.declared.entry.Entry.TheVariants as entry
use Rattle.amber_log.specs.declared.leg.Part.{Part}
use Rattle.amber_log.specs.declared.line.Line.{Line}
use Rattle.amber_log.specs.declared.line.Line.TheVariants as line
use Rattle.amber_log.specs.declared.log.Log.{Log}
use Rattle.amber_meaning.specs.Laws.{SendersFirst}
use Rattle.amber_meaning.specs.Legal.{IsLegal, IsOpen, Query, assignment_in}
use Rattle.amber_meaning.specs.Position.{Position}
use Rattle.amber_meaning.specs.Rules.{Moves}
use Rattle.amber_meaning.specs.State.{State, position_at, steps_in}
use Rattle.amber_lines.specs.Moving.{TakesOffered}
use Rattle.amber_lines.specs.Lines.{IsBeginning, illegal_line, may_enter, offers_in, open_lines, state_behind}

-- the test of an entry is true exactly where it leads somewhere and the batch that it takes is there
abbrev pub EntriesAreTested : Type 0
EntriesAreTested = (query : Query) (now : State) (worker : ℕ) (made : Entry)
    → (may_enter query now worker made ≡ true)
    ↔ ((q : Position) × Moves (assignment_in query now worker) (position_at now.positions worker) made q
    × TakesOffered (offers_in query now worker) (position_at now.positions worker) made q)

-- each front of a legal beginning is one
abbrev pub BeginningsHaveFronts : Type 0
BeginningsHaveFronts = (query : Query) (lines more : List Line) → IsBeginning query (lines ++ more) → IsBeginning query lines

-- each front of the lines of a legal log is a legal beginning
abbrev pub LegalLogsBegin : Type 0
LegalLogsBegin = (query : Query) (log : Log) (lines more : List Line)
    → SendersFirst query.flow → IsLegal query log → lines ++ more ≡ log_lines log → IsBeginning query lines

-- a log that ends with a whole item is legal exactly where it is a legal beginning
abbrev pub WholeLogsAreJudged : Type 0
WholeLogsAreJudged = (query : Query) (log : Log) → SendersFirst query.flow → IsLog log → IsLegal query log ↔ IsBeginning query (log_lines log)

-- and a leg that goes on is open exactly where its lines are
abbrev pub OpenLegsAreJudged : Type 0
OpenLegsAreJudged = (query : Query) (log : Log) (to_end : Bool) (parts : List Part)
    → SendersFirst query.flow → IsLog log → ends_over false log.items ≡ false → AreParts 0 parts
    → IsOpen query log to_end parts ↔ IsBeginning query (open_lines log to_end parts)

-- the part that a worker begins
abbrev pub first_part : ℕ → Part
first_part worker = record { worker = worker; entries = entry.Pause ∷ [] }

-- where a part of a worker may stand next, its first line may exactly where the worker is one of the workflow
abbrev pub PartsAreBegun : Type 0
PartsAreBegun = (query : Query) (log : Log) (to_end : Bool) (parts : List Part) (worker : ℕ)
    → SendersFirst query.flow → IsLog log → ends_over false log.items ≡ false → AreParts 0 (parts ++ first_part worker ∷ [])
    → (IsOpen query log to_end parts × (worker < crew_of query.flow)) ↔ IsBeginning query (open_lines log to_end parts ++ line.Worker worker ∷ [])

-- the lines before this one, numbered from 1, are a legal beginning, and with it they are none
pub record IsFirstIllegal (query : Query) (lines : List Line) (number : ℕ) : Type 0 where
  pub place : ℕ
  pub nth : number ≡ place + 1
  pub inside : place < length lines
  pub good : IsBeginning query (take place lines)
  pub bad : IsBeginning query (take (place + 1) lines) → ⊥

-- the line that is computed is the first up to which a log is no legal beginning; there is none exactly where the log is legal
abbrev pub IllegalLinesAreFirst : Type 0
IllegalLinesAreFirst = (query : Query) (log : Log) → SendersFirst query.flow → IsLog log
    → ((illegal_line query log ≡ None) ↔ IsLegal query log)
    × ((number : ℕ) → (illegal_line query log ≡ Some number) ↔ IsFirstIllegal query (log_lines log) number)

-- ---- an entry more

-- a leg that goes on still does where a worker begins its part with an entry that it may make, within the steps
abbrev pub FirstEntriesEnter : Type 0
FirstEntriesEnter = (query : Query) (log : Log) (to_end : Bool) (parts : List Part) (worker : ℕ) (made : Entry)
    → (leg : IsOpen query log to_end parts) → worker < crew_of query.flow → AreParts 0 (parts ++ part_of worker (made ∷ []) ∷ [])
    → may_enter query leg.now worker made ≡ true → steps_in (state_behind query leg.now worker made) ≤ query.most
    → (grown : IsOpen query log to_end (parts ++ part_of worker (made ∷ []) ∷ [])) × (grown.now ≡ state_behind query leg.now worker made)

-- and where the worker of the last part makes one more
abbrev pub NextEntriesEnter : Type 0
NextEntriesEnter = (query : Query) (log : Log) (to_end : Bool) (before : List Part) (worker : ℕ) (done : List Entry) (made : Entry)
    → (leg : IsOpen query log to_end (before ++ part_of worker done ∷ [])) → AreParts 0 (before ++ part_of worker (done ++ made ∷ []) ∷ [])
    → may_enter query leg.now worker made ≡ true → steps_in (state_behind query leg.now worker made) ≤ query.most
    → (grown : IsOpen query log to_end (before ++ part_of worker (done ++ made ∷ []) ∷ [])) × (grown.now ≡ state_behind query leg.now worker made)
