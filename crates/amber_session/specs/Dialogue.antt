-- What a session keeps between its calls: the bytes that were fed, the debugger, and the log's name.
use Rattle.std.specs.Prelude.{◌≡◌, ℕ, ◌^◌, ◌≤◌, List, ◌++◌, length, take, drop, map, Result}
use Rattle.amber_rows.specs.FlowRules.{IsFlow}
use Rattle.amber_debug.specs.Session.{command_of}
use Rattle.amber_course.specs.declared.failure.Failure.{Failure}
use Rattle.amber_script.specs.Lines.{ended_lines, open_line}
use Rattle.amber_session.specs.Answers.{AnswersAll, IsSound, Stretch}
use Rattle.amber_session.specs.Talk.{accepted}
use Rattle.amber_session.specs.declared.dialogue.Dialogue.{Dialogue}
use Rattle.amber_session.specs.declared.input.Input.{Input}

-- how many bytes may be fed
abbrev pub most_input : ℕ
most_input = 2 ^ 20

-- ---- the bytes

-- the bytes were read as far as this place: it is known where the open line begins, and how many lines were ended
pub record IsReadTo (input : Input) (place : ℕ) : Type 0 where
  pub within : place ≤ length input.bytes.items
  pub begun : input.begun ≤ place
  pub few : input.lines ≤ place
  pub line : drop input.begun (take place input.bytes.items) ≡ open_line (take place input.bytes.items)
  pub count : input.lines ≡ length (ended_lines (take place input.bytes.items))

-- a part of a text, from one place to another
pub record Span : Type 0 where
  pub text : List ℕ
  pub from : ℕ
  pub to : ℕ

-- the lines that are ended there
abbrev pub AreEndedIn : Span → List (List ℕ) → Type 0
AreEndedIn span lines = ended_lines (take span.to span.text) ≡ ended_lines (take span.from span.text) ++ lines

-- a part of the bytes was read: the lines that are ended there were answered, or one of them was not
abbrev pub ReadsLines : Result (Unit {0}) Failure → Stretch → Span → Type 0
ReadsLines result s span = (lines : List (List ℕ)) × AreEndedIn span lines × AnswersAll result s lines

-- ---- a session that goes on

-- all bytes that were fed are read, and the log's commands are those of the lines that they end
pub record IsGoing (d : Dialogue) : Type 0 where
  pub few : length d.input.bytes.items ≤ most_input
  pub read : IsReadTo d.input (length d.input.bytes.items)
  pub flow : IsFlow d.debugger.flow
  pub sound : IsSound d.debugger
  pub commands : map command_of d.debugger.log.items ≡ accepted d.debugger.flow (ended_lines d.input.bytes.items)
