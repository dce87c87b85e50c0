-- What a map over an array gives.
use Rattle.std.proofs.Common.{◌≡◌, ℕ, ◌<◌, List, length, get_or, map, sym, subst, ◌∙◌}
use Rattle.std.specs.Array.{IsMapOf}
use Rattle.std.specs.Fn.{Called}
use Rattle.std.proofs.lemmas.List.{ext_get_or, length-map}
use Rattle.std.proofs.Math.ListN.{get_or-map}
use denote.Param.Members.{Mut}

-- where each call gives what h gives, the map gives h of each
pub mapped : {F A B : Type 0} (g : Mut F (A × Unit {0}) B) (f : F) (h : A → B) (xs : List A) (ys : List B) (n : ℕ) (d : A) → length xs ≡ n
    → ((x : A) (y : B) (p q : F) → Called g p (x, tt) y q → y ≡ h x) → IsMapOf g f xs ys n → ys ≡ map h xs
mapped g f h xs ys n d long each made =
    ext_get_or (h d) ys (map h xs) (made.long ∙ sym long ∙ sym (length-map xs h))
    (λ i less. each (get_or xs i d) (get_or ys i (h d)) (made.at i d (h d) (subst (λ k. i < k) made.long less)).0 (made.at i d (h d) (subst (λ k. i < k) made.long less)).1
    (made.at i d (h d) (subst (λ k. i < k) made.long less)).2 ∙ sym (get_or-map h xs i d))
