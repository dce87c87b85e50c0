-- A log that was read has a text, and so has each of its items.
use Rattle.std.proofs.Common.{ℕ, zero, suc, ◌<◌, inl, inr, Bool, List, [], ◌∷◌, length, get_or, sym, subst, arith}
use Rattle.amber_log.specs.Grammar.{AreItems, IsItem, IsLog, is_last}
use Rattle.amber_log.specs.ReadAs.{IsReadAs}
use Rattle.amber_log.specs.ReadLines.{empty_log}
use Rattle.amber_log.specs.declared.log.Item.{Item}
use Rattle.amber_log.specs.declared.log.Log.{Log}

pub item_at : (over : Bool) (items : List Item) (k : ℕ) (d : Item) → AreItems over items → k < length items → IsItem (get_or items k d)
unfolding AreItems
item_at over [] k d h inside = absurd (omega (arith, inside))
item_at over (item ∷ items) zero d h inside = h.1
item_at over (item ∷ items) (suc k) d h inside = item_at (is_last item) items k d h.2 (omega (arith, inside))

empty_is_log : IsLog empty_log
unfolding AreItems
empty_is_log = record { batch = (omega arith, omega arith); items = tt }

pub log_has_text : (bytes : List ℕ) (log : Log) → IsReadAs bytes log → IsLog log
log_has_text bytes log (inl h) = h.0
log_has_text bytes log (inr h) = subst (λ (l : Log). IsLog l) (sym h.1) empty_is_log
