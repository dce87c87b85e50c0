-- Each of the items that have a text has one.
use Rattle.std.proofs.Common.{◌≡◌, ℕ, zero, suc, ◌<◌, List, [], ◌∷◌, length, get_or, Bool, sym, subst, arith}
use Rattle.amber_log.specs.Grammar.{AreItems, IsItem, is_last}
use Rattle.amber_log.specs.declared.log.Item.{Item}

pub item-at : (over : Bool) (items : List Item) (i : ℕ) (one : Item) → i < length items → one ≡ get_or items i one → AreItems over items → IsItem one
unfolding AreItems
item-at over [] i one less is h = absurd (omega (arith, less))
item-at over (x ∷ items) zero one less is h = subst IsItem (sym is) h.1
item-at over (x ∷ items) (suc i) one less is h = item-at (is_last x) items i one (omega (arith, less)) is h.2
