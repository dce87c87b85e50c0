-- How far a leg goes past the pauses that are armed where it begins.
use Rattle.std.specs.Prelude.{◌≡◌, ◌≢◌, ℕ, ◌+◌, ◌*◌, ◌≤◌, max, List, [], ◌∷◌, length, Some, ⊤}
use Rattle.amber_rows.specs.Topology.{workers_of}
use Rattle.amber_log.specs.declared.leg.Part.{Part}
use Rattle.amber_log.specs.declared.log.Item.{Item}
use Rattle.amber_log.specs.declared.log.Item.TheVariants as item
use Rattle.amber_meaning.specs.Legal.{Query, stops_in}
use Rattle.amber_meaning.specs.Replay.{after_item, after_leg}
use Rattle.amber_meaning.specs.State.{State, arms_at, begin_leg, emitted_by}

-- a leg that began in this state stops in time: where a stop stood already nobody has done anything; and where a pause is armed, its
-- operator has emitted at the close as many rows as the pause asks for at most, or as before, and `late` more a worker
pub record StopsInTime (query : Query) (late : ℕ) (start : State) (parts : List Part) : Type 0 where
  pub at_once : stops_in query start ≢ [] → parts ≡ []
  pub pauses : (op n : ℕ) → (arms_at start op).pause ≡ Some n
      → emitted_by query.flow (after_leg query start parts) op ≤ max n (emitted_by query.flow start op) + late * length (workers_of query.flow op)

-- an item stops in time, if it is a leg up to a stop
abbrev pub IsInTime : Query → ℕ → State → Item → Type 0
IsInTime query late state (item.Do command) = ⊤
IsInTime query late state (item.Run leg) = StopsInTime query late (begin_leg state) leg.parts
IsInTime query late state (item.End leg) = ⊤

-- each item does, one after the other
unfoldable pub AreInTime : Query → ℕ → State → List Item → Type 0
AreInTime query late state [] = ⊤
AreInTime query late state (one ∷ more) = IsInTime query late state one × AreInTime query late (after_item query state one) more
