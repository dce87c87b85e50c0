-- Items that stop in time, one after the other.
use Rattle.std.proofs.Common.{ℕ, List, [], ◌∷◌, ◌++◌}
use Rattle.amber_log.specs.declared.log.Item.{Item}
use Rattle.amber_meaning.specs.InTime.{AreInTime, IsInTime}
use Rattle.amber_meaning.specs.Legal.{Query}
use Rattle.amber_meaning.specs.Replay.{after_item, after_items}
use Rattle.amber_meaning.specs.State.{State}

-- an item more
pub AreInTime-push : (query : Query) (late : ℕ) (state : State) (items : List Item) (one : Item) → AreInTime query late state items
    → IsInTime query late (after_items query state items) one → AreInTime query late state (items ++ one ∷ [])
unfolding AreInTime after_items
AreInTime-push query late state [] one h is = (is, tt)
AreInTime-push query late state (first ∷ items) one h is = (h.0, AreInTime-push query late (after_item query state first) items one h.1 is)
