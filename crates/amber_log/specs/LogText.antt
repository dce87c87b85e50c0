-- The text of a log.
use Rattle.std.specs.Prelude.{ℕ, List, [], ◌∷◌, ◌++◌, map}
use Rattle.std.specs.List.{flat_map}
use Rattle.amber_log.specs.Words.{spell}
use Rattle.amber_log.specs.declared.leg.Part.{Part}
use Rattle.amber_log.specs.declared.leg.Leg.{Leg}
use Rattle.amber_log.specs.declared.log.Item.{Item}
use Rattle.amber_log.specs.declared.log.Item.TheVariants as item
use Rattle.amber_log.specs.declared.log.Log.{Log}
use Rattle.amber_log.specs.declared.line.Line.{Line}
use Rattle.amber_log.specs.declared.line.Line.TheVariants as line

-- lines of bytes, each with a line feed after it
abbrev pub unlines : List (List ℕ) → List ℕ
unlines lines = flat_map (λ bytes. bytes ++ 10 ∷ []) lines

-- a line with its line feed
abbrev pub line_text : Line → List ℕ
line_text one = spell one ++ 10 ∷ []

-- the line of the worker's number, then its entries
abbrev pub part_lines : Part → List Line
part_lines part = line.Worker part.worker ∷ map (λ entry. line.Entry entry) part.entries

-- the workers' parts, then how the leg ended
abbrev pub leg_lines : Leg → List Line
leg_lines leg = flat_map part_lines leg.parts ++ line.Close leg.close ∷ []

abbrev pub item_lines : Item → List Line
item_lines (item.Do command) = line.Do command ∷ []
item_lines (item.Run leg) = line.Run ∷ leg_lines leg
item_lines (item.End leg) = line.End ∷ leg_lines leg

-- the head, then the items
abbrev pub log_lines : Log → List Line
log_lines log = line.Head log.batch ∷ flat_map item_lines log.items

-- the text of an item
unfoldable pub item_text : Item → List ℕ
item_text item = flat_map line_text (item_lines item)

-- the head's text, for a batch size
unfoldable pub head_text : ℕ → List ℕ
head_text batch = line_text (line.Head batch)

-- the text of a log: the head's, then each item's
unfoldable pub log_text : Log → List ℕ
log_text log = head_text log.batch ++ flat_map item_text log.items
