-- How the rows that a group took in together are taken out again.
use Rattle.std.specs.Prelude.{◌≡◌}
use Rattle.amber_group.specs.Group.{Group}
use Rattle.amber_group.specs.Steps.{GroupsWithin}
use Rattle.amber_group.specs.Undoing.{CanUndoAll, restored_all}
use Rattle.amber_group.specs.declared.lines.TakenLine.{TakenLine}
use Rattle.amber_group.specs.declared.lines.TakenLine.TheVariants.{Each, Whole}

-- the state before the rows came: each is taken out, the last one first, or the groups are those that were kept
abbrev pub restored_line : TakenLine → Group → Group
restored_line (Each all) state = restored_all all.items state
restored_line (Whole fed groups) state = record state { fed = fed; groups = groups }

-- the rows can be taken out: what is left is as small as the rows before them allow
abbrev pub CanUndoLine : TakenLine → Group → Type 0
CanUndoLine (Each all) state = CanUndoAll all.items state
CanUndoLine (Whole fed groups) state = GroupsWithin fed groups

-- taking the rows out leads from the new state back to the old one
pub record TakesLineBack (taken : TakenLine) (old new : Group) : Type 0 where
  pub can : CanUndoLine taken new
  pub back : restored_line taken new ≡ old
