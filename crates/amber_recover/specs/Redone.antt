-- What is done again at home: parts of the leg that is open, and whole items; and the first of their lines that is bad.
use Rattle.std.specs.Prelude.{◌≡◌, ℕ, List, [], ◌++◌, Option, Some, true, false}
use Rattle.std.specs.List.{flat_map}
use Rattle.amber_lines.specs.Lines.{Between, Progress, Within, bad_line_from, judge_all}
use Rattle.amber_log.specs.Grammar.{is_last}
use Rattle.amber_log.specs.LogText.{item_lines, part_lines}
use Rattle.amber_log.specs.declared.leg.Part.{Part}
use Rattle.amber_log.specs.declared.log.Item.{Item}
use Rattle.amber_log.specs.declared.leg.Close.{Close}
use Rattle.amber_log.specs.declared.leg.Close.TheVariants as close
use Rattle.amber_meaning.specs.Texts.{stops_text}
use Rattle.amber_home.specs.HomeState.{HomeState, query_of, rest_state, runs_to_end, state_of, stops_of_home, with_item}
use Rattle.amber_home.specs.Redoing.{may_redo}
use Rattle.amber_home.specs.declared.phase.Phase.TheVariants as phase

-- how far a log is judged whose leg is open at home, in the part of a worker
abbrev pub within : HomeState → ℕ → Progress
within home worker = Within (runs_to_end home.phase) (state_of home) worker

-- ---- parts

-- of the lines of these parts the first that cannot stand there, where their first has this number
abbrev pub bad_in_parts : HomeState → ℕ → List Part → Option ℕ
bad_in_parts home line parts = bad_line_from (query_of home) (within home 0) line (flat_map part_lines parts)

-- the parts were done again: each of their lines could stand there, and the leg goes on behind them
pub record HasDoneParts (parts : List Part) (old new : HomeState) : Type 0 where
  pub only : new ≡ record old { phase = new.phase; parts = old.parts ++ parts }
  pub may : may_redo new.phase ≡ true
  pub end : runs_to_end new.phase ≡ runs_to_end old.phase
  pub last : ℕ
  pub good : judge_all (query_of old) (within old 0) (flat_map part_lines parts) ≡ Some (within new last)

-- ---- an item

-- of the lines of an item the first that cannot stand there, where its first has this number
abbrev pub bad_in_item : HomeState → ℕ → Item → Option ℕ
bad_in_item home line one = bad_line_from (query_of home) (Between (rest_state home)) line (item_lines one)

-- the item was done again: it stands in the log, each of its lines could stand there, and unless it is the last the home rests
pub record HasRedoneItem (one : Item) (old new : HomeState) : Type 0 where
  pub only : new
      ≡ record old { log = with_item old.log one; phase = new.phase; parts = []; alone = new.alone; turned = new.turned }
  pub rests : is_last one ≡ false → new.phase ≡ phase.Resting
  pub good : judge_all (query_of old) (Between (rest_state old)) (item_lines one) ≡ Some (Between (rest_state new))

-- the text of the stops that are kept after a leg that was closed so; nothing where it was too long
abbrev pub kept_stops_text : HomeState → Close → List ℕ
kept_stops_text home close.Cut = stops_text home.flow (stops_of_home home)
kept_stops_text home close.Long = []
