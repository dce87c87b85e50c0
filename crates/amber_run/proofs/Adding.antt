-- Items that are added to those from which a run goes on, and stop in time.
use Rattle.std.proofs.Common.{◌≡◌, ℕ, List, [], ◌∷◌, ◌++◌, refl, sym, ap, subst, ◌∙◌}
use Rattle.amber_log.specs.declared.log.Item.{Item}
use Rattle.amber_meaning.specs.InTime.{AreInTime, IsInTime}
use Rattle.amber_meaning.specs.Legal.{Query}
use Rattle.amber_meaning.specs.Replay.{after_item, after_items, state_after}
use Rattle.amber_meaning.specs.State.{State, start_of}

after-both : (query : Query) (state : State) (items more : List Item) → after_items query state (items ++ more) ≡ after_items query (after_items query state items) more
unfolding after_items
after-both query state [] more = refl
after-both query state (one ∷ items) more = after-both query (after_item query state one) items more

in-time-both : (query : Query) (late : ℕ) (state : State) (items more : List Item) → AreInTime query late state items → AreInTime query late (after_items query state items) more
    → AreInTime query late state (items ++ more)
unfolding AreInTime after_items
in-time-both query late state [] more h k = k
in-time-both query late state (one ∷ items) more h k = (h.0, in-time-both query late (after_item query state one) items more h.1 k)

-- behind the items so far come others
pub added-in-time : (query : Query) (late : ℕ) (begun added done more : List Item) → done ≡ begun ++ added → AreInTime query late (state_after query begun) added
    → AreInTime query late (state_after query done) more → AreInTime query late (state_after query begun) (added ++ more)
unfolding state_after
added-in-time query late begun added done more is h k =
    in-time-both query late (state_after query begun) added more h
    (subst (λ state. AreInTime query late state more) (ap (λ items. after_items query (start_of query.flow) items) is ∙ after-both query (start_of query.flow) begun added) k)

pub item-in-time : (query : Query) (late : ℕ) (begun added done : List Item) (one : Item) → done ≡ begun ++ added → AreInTime query late (state_after query begun) added
    → IsInTime query late (state_after query done) one → AreInTime query late (state_after query begun) (added ++ one ∷ [])
unfolding AreInTime
item-in-time query late begun added done one is h k = added-in-time query late begun added done (one ∷ []) is h (k, tt)
