-- How build rows that were moved out of a list into a join go back.
use Rattle.std.specs.Prelude.{◌≡◌, ◌-◌, List, [], ◌∷◌, ◌++◌, length, take, drop}
use Rattle.amber_rows.specs.declared.value.Value.{Value}
use Rattle.amber_join.specs.Join.{CameLast, Join}
use Rattle.amber_join.specs.declared.several.Moved.{Moved}
use Rattle.amber_join.specs.declared.several.Moved.TheVariants as moved

-- a join, and the list out of which its build rows come
pub record BuildSide : Type 0 where
  pub state : Join
  pub rows : List (List Value)

-- before the row was moved: it stands at the front of the list, and the join has the rows before it
abbrev pub moved_back : Moved → BuildSide → BuildSide
moved_back (moved.Kept key) side = record {
  state = record side.state { rows = take (length side.state.rows - 1) side.state.rows };
  rows = drop (length side.state.rows - 1) side.state.rows ++ side.rows;
}
moved_back (moved.Aside row) side = record { state = side.state; rows = row ∷ side.rows }

-- the row can be moved back: it is aside, or the join has it last
abbrev pub CanMoveBack : Moved → BuildSide → Type 0
CanMoveBack (moved.Kept key) side = CameLast key side.state
CanMoveBack (moved.Aside row) side = Unit {0}

-- before several rows were moved: the row that was moved last goes back first
unfoldable pub all_moved_back : List Moved → BuildSide → BuildSide
all_moved_back [] side = side
all_moved_back (one ∷ later) side = moved_back one (all_moved_back later side)

unfoldable pub CanMoveAllBack : List Moved → BuildSide → Type 0
CanMoveAllBack [] side = Unit {0}
CanMoveAllBack (one ∷ later) side = CanMoveAllBack later side × CanMoveBack one (all_moved_back later side)

-- moving the row back leads from the new state and list to the old ones
pub record MovesBack (one : Moved) (old new : BuildSide) : Type 0 where
  pub can : CanMoveBack one new
  pub back : moved_back one new ≡ old

-- the same of several rows
pub record MoveAllBack (all : List Moved) (old new : BuildSide) : Type 0 where
  pub can : CanMoveAllBack all new
  pub back : all_moved_back all new ≡ old
