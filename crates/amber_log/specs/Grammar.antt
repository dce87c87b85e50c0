-- Which logs have a text.
use Rattle.std.specs.Prelude.{◌≡◌, ℕ, ◌+◌, ◌^◌, ◌<◌, ◌≤◌, ◌&&◌, List, [], ◌∷◌, length, Bool, true, false}
use Rattle.std.specs.Str.{is_utf8}
use Rattle.amber_rows.specs.Number.{fits_i64}
use Rattle.amber_rows.specs.declared.value.Value.{Value}
use Rattle.amber_rows.specs.declared.value.Value.TheVariants as value
use Rattle.amber_log.specs.declared.command.Command.{Command}
use Rattle.amber_log.specs.declared.entry.Entry.{Entry}
use Rattle.amber_log.specs.declared.entry.Entry.TheVariants as entry
use Rattle.amber_log.specs.declared.leg.Close.{Close}
use Rattle.amber_log.specs.declared.leg.Close.TheVariants as close
use Rattle.amber_log.specs.declared.leg.Part.{Part}
use Rattle.amber_log.specs.declared.leg.Leg.{Leg}
use Rattle.amber_log.specs.declared.log.Item.{Item}
use Rattle.amber_log.specs.declared.log.Item.TheVariants as item
use Rattle.amber_log.specs.declared.log.Log.{Log}
use Rattle.amber_log.specs.declared.line.Line.{Line}
use Rattle.amber_log.specs.declared.line.Line.TheVariants as line
use Rattle.amber_log.specs.Commands.{Action, action_of}
use Rattle.amber_log.specs.declared.effect.Action.TheVariants as action
use Rattle.amber_log.specs.Effect.{Argument, Condition, Constant, Nothing, Rows, Worker}

-- ---- lines

-- a number of 64 bits with a sign, or the UTF-8 bytes of a text
abbrev pub IsConstant : Value → Type 0
IsConstant (value.Int n) = fits_i64 n ≡ true
IsConstant (value.Text text) = is_utf8 text ≡ true

-- what a command says beside its operator, where its numbers fit their types
abbrev pub IsArgument : Argument → Type 0
IsArgument Nothing = Unit {0}
IsArgument (Rows n) = n < 2 ^ 64
IsArgument (Worker worker) = worker < 2 ^ 32
IsArgument (Constant constant) = IsConstant constant
IsArgument (Condition test) = (test.column < 2 ^ 32) × IsConstant test.constant

-- what is done at rest is no leg
abbrev pub IsNoLeg : Action → Type 0
IsNoLeg (action.Leg to_end) = ⊥
IsNoLeg (action.AtRest effect) = Unit {0}

-- a command that a log keeps as a line. Those that run are kept as legs
abbrev pub IsKeptAsLine : Command → Type 0
IsKeptAsLine command = IsNoLeg (action_of command)

-- something done at rest, whose numbers fit their types
abbrev pub HasWords : Action → Type 0
HasWords (action.Leg to_end) = ⊥
HasWords (action.AtRest effect) = (effect.op < 2 ^ 32) × IsArgument effect.argument

-- a command other than those that run, whose numbers fit their types
abbrev pub IsCommand : Command → Type 0
IsCommand command = HasWords (action_of command)

-- an entry whose numbers fit their types. One that goes on moves a row, and units come one at least
abbrev pub IsEntry : Entry → Type 0
IsEntry (entry.Take sender batch) = (sender < 2 ^ 32) × (batch < 2 ^ 64)
IsEntry (entry.Go rows outs) = (rows < 2 ^ 64) × (outs < 2 ^ 64) × (0 < rows + outs)
IsEntry (entry.Grant n) = (0 < n) × (n < 2 ^ 64)
IsEntry (entry.Back n) = (0 < n) × (n < 2 ^ 64)
IsEntry entry.Pause = Unit {0}
IsEntry entry.Resume = Unit {0}
IsEntry entry.Hold = Unit {0}
IsEntry entry.Finish = Unit {0}

-- 1 to 65,536 rows
abbrev pub IsBatch : ℕ → Type 0
IsBatch batch = (0 < batch) × (batch ≤ 65536)

abbrev pub IsLine : Line → Type 0
IsLine (line.Head batch) = IsBatch batch
IsLine (line.Do command) = IsCommand command
IsLine line.Run = Unit {0}
IsLine line.End = Unit {0}
IsLine (line.Worker worker) = worker < 2 ^ 32
IsLine (line.Entry entry) = IsEntry entry
IsLine (line.Close close) = Unit {0}

-- ---- logs

-- whether an entry takes or emits rows
abbrev pub is_go : Entry → Bool
is_go (entry.Take sender batch) = false
is_go (entry.Go rows outs) = true
is_go (entry.Grant n) = false
is_go (entry.Back n) = false
is_go entry.Pause = false
is_go entry.Resume = false
is_go entry.Hold = false
is_go entry.Finish = false

-- entries of which no two that take or emit rows follow each other; `gone` says whether one stands just before them
unfoldable pub AreEntries : Bool → List Entry → Type 0
AreEntries gone [] = Unit {0}
AreEntries gone (entry ∷ entries) = IsEntry entry × ((gone && is_go entry) ≡ false) × AreEntries (is_go entry) entries

-- whether the last of these entries takes or emits rows, `gone` where there is none
abbrev pub ends_go : Bool → List Entry → Bool
ends_go gone [] = gone
ends_go gone (entry ∷ entries) = ends_go (is_go entry) entries

-- a part has at least one entry
pub record IsPart (part : Part) : Type 0 where
  pub worker : part.worker < 2 ^ 32
  pub some : 0 < length part.entries
  pub entries : AreEntries false part.entries

-- parts of workers from this number on, whose numbers rise
unfoldable pub AreParts : ℕ → List Part → Type 0
AreParts least [] = Unit {0}
AreParts least (part ∷ parts) = (least ≤ part.worker) × IsPart part × AreParts (part.worker + 1) parts

abbrev pub IsLeg : Leg → Type 0
IsLeg leg = AreParts 0 leg.parts

-- an item that has a text
abbrev pub IsItem : Item → Type 0
IsItem (item.Do command) = IsCommand command
IsItem (item.Run leg) = IsLeg leg
IsItem (item.End leg) = IsLeg leg

abbrev pub is_long : Close → Bool
is_long close.Cut = false
is_long close.Long = true

-- whether no item may follow: after a leg to the end, and after one that was too long
abbrev pub is_last : Item → Bool
is_last (item.Do command) = false
is_last (item.Run leg) = is_long leg.close
is_last (item.End leg) = true

-- items of which only the last may be one that nothing follows; `over` says whether such a one stands before them
unfoldable pub AreItems : Bool → List Item → Type 0
AreItems over [] = Unit {0}
AreItems over (item ∷ items) = (over ≡ false) × IsItem item × AreItems (is_last item) items

-- whether the last of these items is one that nothing follows, `over` where there is none
abbrev pub ends_over : Bool → List Item → Bool
ends_over over [] = over
ends_over over (item ∷ items) = ends_over (is_last item) items

-- a log that has a text
pub record IsLog (log : Log) : Type 0 where
  pub batch : IsBatch log.batch
  pub items : AreItems false log.items
