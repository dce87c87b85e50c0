-- Reading a log's text line by line.
use Rattle.std.specs.Prelude.{ℕ, ◌+◌, ◌&&◌, ◌||◌, nat_lt, List, [], ◌∷◌, ◌++◌, length, Option, Some, None, option_and_then, Result, Ok, Err, Bool, true, false, if◌then◌else◌}
use Rattle.amber_log.specs.Grammar.{is_go, is_long}
use Rattle.amber_log.specs.ReadWords.{parse}
use Rattle.amber_log.specs.declared.entry.Entry.{Entry}
use Rattle.amber_log.specs.declared.leg.Close.{Close}
use Rattle.amber_log.specs.declared.leg.Part.{Part}
use Rattle.amber_log.specs.declared.leg.Leg.{Leg}
use Rattle.amber_log.specs.declared.log.Item.{Item}
use Rattle.amber_log.specs.declared.log.Item.TheVariants as item
use Rattle.amber_log.specs.declared.log.Log.{Log}
use Rattle.amber_log.specs.declared.line.Line.{Line}
use Rattle.amber_log.specs.declared.line.Line.TheVariants as line
use Rattle.amber_log.specs.declared.reading.Place.{Place}
use Rattle.amber_log.specs.declared.reading.Place.TheVariants as place
use Rattle.amber_log.specs.declared.reading.Reading.{Reading}

-- the reader at another place
abbrev pub at_place : Reading → Place → Reading
at_place reading place = record { batch = reading.batch; items = reading.items; place = place }

-- the item of a leg, to the end of the workflow or not
abbrev pub leg_item : Bool → Leg → Item
leg_item false leg = item.Run leg
leg_item true leg = item.End leg

abbrev pub behind_item : Bool → Place
behind_item false = place.Outside
behind_item true = place.Over

-- the reader after a leg of these parts
abbrev pub with_leg : Reading → Bool → List Part → Close → Reading
with_leg reading end parts close =
    record { batch = reading.batch; items = reading.items ++ leg_item end (record { parts = parts; close = close }) ∷ []; place = behind_item (end || is_long close) }

-- a line after an item: a command, or the start of a leg
abbrev pub step_outside : Reading → Line → Option Reading
step_outside reading (line.Head batch) = None
step_outside reading (line.Do command) = Some (record { batch = reading.batch; items = reading.items ++ item.Do command ∷ []; place = place.Outside })
step_outside reading line.Run = Some (at_place reading (place.Opened false))
step_outside reading line.End = Some (at_place reading (place.Opened true))
step_outside reading (line.Worker worker) = None
step_outside reading (line.Entry entry) = None
step_outside reading (line.Close close) = None

-- a line after the start of a leg: a worker's part begins, or the leg ends
abbrev pub step_opened : Reading → Bool → Line → Option Reading
step_opened reading end (line.Head batch) = None
step_opened reading end (line.Do command) = None
step_opened reading end line.Run = None
step_opened reading end line.End = None
step_opened reading end (line.Worker worker) = Some (at_place reading (place.Inside end [] worker [] false))
step_opened reading end (line.Entry entry) = None
step_opened reading end (line.Close close) = Some (with_leg reading end [] close)

abbrev pub part_of : ℕ → List Entry → Part
part_of worker entries = record { worker = worker; entries = entries }

-- a line inside a worker's part: one more entry, the part of a worker with a greater number, or the end of the leg
abbrev pub step_inside : Reading → Bool → List Part → ℕ → List Entry → Bool → Line → Option Reading
step_inside reading end parts worker entries gone (line.Head batch) = None
step_inside reading end parts worker entries gone (line.Do command) = None
step_inside reading end parts worker entries gone line.Run = None
step_inside reading end parts worker entries gone line.End = None
step_inside reading end parts worker entries gone (line.Worker next) =
    if nat_lt 0 (length entries) && nat_lt worker next
    then Some (at_place reading (place.Inside end (parts ++ part_of worker entries ∷ []) next [] false))
    else None
step_inside reading end parts worker entries gone (line.Entry entry) =
    if gone && is_go entry then None else Some (at_place reading (place.Inside end parts worker (entries ++ entry ∷ []) (is_go entry)))
step_inside reading end parts worker entries gone (line.Close close) =
    if nat_lt 0 (length entries) then Some (with_leg reading end (parts ++ part_of worker entries ∷ []) close) else None

abbrev pub step_at : Reading → Place → Line → Option Reading
step_at reading place.Outside one = step_outside reading one
step_at reading place.Over one = None
step_at reading (place.Opened end) one = step_opened reading end one
step_at reading (place.Inside end parts worker entries gone) one = step_inside reading end parts worker entries gone one

-- what is read with one more line, where that line may stand there
unfoldable pub step : Reading → Line → Option Reading
step reading one = step_at reading reading.place one

-- after a head
abbrev pub start : Line → Option Reading
start (line.Head batch) = Some (record { batch = batch; items = []; place = place.Outside })
start (line.Do command) = None
start line.Run = None
start line.End = None
start (line.Worker worker) = None
start (line.Entry entry) = None
start (line.Close close) = None

abbrev pub log_read : Reading → Log
log_read reading = record { batch = reading.batch; items = reading.items }

abbrev pub finish_at : ℕ → Reading → Place → Result Log ℕ
finish_at number reading place.Outside = Ok (log_read reading)
finish_at number reading place.Over = Ok (log_read reading)
finish_at number reading (place.Opened end) = Err number
finish_at number reading (place.Inside end parts worker entries gone) = Err number

-- the log where no line is left, unless a leg is open
unfoldable pub finish : ℕ → Reading → Result Log ℕ
finish number reading = finish_at number reading reading.place

abbrev pub next_or : ℕ → Option Reading → (Reading → Result Log ℕ) → Result Log ℕ
next_or number None rest = Err number
next_or number (Some reading) rest = rest reading

-- what the lines from this number on make of what was read, or the number of the first that cannot stand there
unfoldable pub read_on : ℕ → Reading → List (List ℕ) → Result Log ℕ
read_on number reading [] = finish number reading
read_on number reading (bytes ∷ lines) = next_or number (option_and_then (step reading) (parse bytes)) (λ next. read_on (number + 1) next lines)

-- the log of no line at all
abbrev pub empty_log : Log
empty_log = record { batch = 400; items = [] }

-- the log of these lines, or the number of the first that cannot stand there, from 1
unfoldable pub read_lines : List (List ℕ) → Result Log ℕ
read_lines [] = Ok empty_log
read_lines (bytes ∷ lines) = next_or 1 (option_and_then start (parse bytes)) (λ reading. read_on 2 reading lines)
