-- How the row that was taken in last is taken out again.
use Rattle.std.specs.Prelude.{◌≡◌, ◌-◌, ◌<◌, List, [], ◌∷◌, Option, Some, None, IsSome, length, take}
use Rattle.std.specs.Map.{lookup}
use Rattle.amber_rows.specs.Operators.{same_row}
use Rattle.amber_rows.specs.declared.value.Value.{Value}
use Rattle.amber_keys.specs.Tables.{replaced}
use Rattle.amber_group.specs.Group.{Group}
use Rattle.amber_group.specs.Steps.{GroupsWithin}
use Rattle.amber_group.specs.declared.running.Running.{Running}

-- the key of the row beside what was kept for it before; nothing where the key began a group
abbrev pub Before : Type 0
Before = Option (List Value × List Running)

-- the groups before the row came: its key has what it had, or the last group goes
abbrev pub restored_groups : Before → List (List Value × List Running) → List (List Value × List Running)
restored_groups (Some was) groups = replaced was.0 was.1 groups
restored_groups None groups = take (length groups - 1) groups

-- there is the group that changed, or one that may go
abbrev pub CanRestore : Before → List (List Value × List Running) → Type 0
CanRestore (Some was) groups = IsSome (lookup (same_row was.0) groups)
CanRestore None groups = 0 < length groups

-- the same leads from the new groups back to the old ones
pub record TakesGroupsBack (before : Before) (old new : List (List Value × List Running)) : Type 0 where
  pub can : CanRestore before new
  pub back : restored_groups before new ≡ old

-- the state before the row came
abbrev pub restored : Before → Group → Group
restored before state = record state { fed = state.fed - 1; groups = restored_groups before state.groups }

-- a row can be taken out: what is left is as small as the rows before it allow
pub record CanUndo (before : Before) (state : Group) : Type 0 where
  pub some : 0 < state.fed
  pub fits : CanRestore before state.groups
  pub within : GroupsWithin (state.fed - 1) (restored_groups before state.groups)

-- taking the row out leads from the new state back to the old one
pub record TakesBack (before : Before) (old new : Group) : Type 0 where
  pub can : CanUndo before new
  pub back : restored before new ≡ old

-- ---- several rows

-- the state before some rows came: the row that came last is taken out first
unfoldable pub restored_all : List Before → Group → Group
restored_all [] state = state
restored_all (before ∷ later) state = restored before (restored_all later state)

-- these rows can be taken out, the last one first
unfoldable pub CanUndoAll : List Before → Group → Type 0
CanUndoAll [] state = Unit {0}
CanUndoAll (before ∷ later) state = CanUndoAll later state × CanUndo before (restored_all later state)

-- taking the rows out leads from the new state back to the old one
pub record TakeAllBack (befores : List Before) (old new : Group) : Type 0 where
  pub can : CanUndoAll befores new
  pub back : restored_all befores new ≡ old
