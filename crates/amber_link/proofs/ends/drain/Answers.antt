-- The ring has no batch left.
use Rattle.std.proofs.Common.{◌≡◌, ◌∙◌, ◌++◌, List, [], ◌∷◌, ap, sym, arith, length, refl}
use Rattle.std.proofs.lemmas.List.{append-nil}
use Rattle.rtrb.specs.Ring.{known_items, received}
use Rattle.amber_link.proofs.ends.drain.Goals as goal

none_left : {A : Type 0} (xs : List A) → length xs ≡ 0 → xs ≡ []
none_left [] e = refl
none_left (x ∷ xs) e = absurd (omega (arith, e))

pub returns-clause-inbox : goal.returns-clause-inbox
returns-clause-inbox c =
    let none : known_items c.loop-into.into.ring ≡ [] = none_left _ (omega (arith, c.cached_slots.ensures, c.loop-into-test.false)) in
    sym (append-nil c.loop-into.into.inbox.items) ∙ ap (λ l. c.loop-into.into.inbox.items ++ l) (sym none) ∙ c.loop-into.invariant.same

pub returns-clause-came : goal.returns-clause-came
returns-clause-came c =
    let none : known_items c.loop-into.into.ring ≡ [] = none_left _ (omega (arith, c.cached_slots.ensures, c.loop-into-test.false)) in
    sym (append-nil (received c.loop-into.into.ring)) ∙ ap (λ l. received c.loop-into.into.ring ++ l) (sym none) ∙ c.loop-into.invariant.came
