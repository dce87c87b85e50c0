-- Sums over a list of which one item, found by its place, changes.
use Rattle.std.proofs.Common.{◌≡◌, ◌≢◌, ℕ, zero, suc, ◌+◌, ◌<◌, ◌≤◌, List, [], ◌∷◌, length, get_or, set, sum_by, refl, sym, ap, subst, arith}
use mathlib.Core.Option.{some, some-injective, some-ne-none}
use lib.ListN.{get_elem?}
use Rattle.std.proofs.lemmas.List.Sums.{sum_by-set, get_or-le-sum_by}
use Rattle.amber_board.proofs.Sums.{sum_by-cons}

module _ {X : Type 0} where
  pub at_within : (xs : List X) (k : ℕ) (x : X) → get_elem? xs k ≡ some x → k < length xs
  at_within [] k x e = absurd (some-ne-none x (sym e))
  at_within (y ∷ xs) zero x e = omega arith
  at_within (y ∷ xs) (suc k) x e = let rest = at_within xs k x e in omega arith

  pub at_read : (xs : List X) (k : ℕ) (x d : X) → get_elem? xs k ≡ some x → get_or xs k d ≡ x
  at_read [] k x d e = absurd (some-ne-none x (sym e))
  at_read (y ∷ xs) zero x d e = some-injective y x e
  at_read (y ∷ xs) (suc k) x d e = at_read xs k x d e

  pub sum_at_set : (f : X → ℕ) (xs : List X) (k : ℕ) (x y : X) → get_elem? xs k ≡ some x → sum_by f (set xs k y) + f x ≡ sum_by f xs + f y
  sum_at_set f xs k x y e =
      subst (λ (z : X). sum_by f (set xs k y) + f z ≡ sum_by f xs + f y) (at_read xs k x x e) (sum_by-set f xs k y x (at_within xs k x e))

  pub sum_at : (f : X → ℕ) (xs : List X) (k : ℕ) (x : X) → get_elem? xs k ≡ some x → f x ≤ sum_by f xs
  sum_at f xs k x e =
      subst (λ (z : X). f z ≤ sum_by f xs) (at_read xs k x x e) (get_or-le-sum_by f xs k x (at_within xs k x e))

  pub sum_zero : (f : X → ℕ) (xs : List X) → ((k : ℕ) (x : X) → get_elem? xs k ≡ some x → f x ≡ 0) → sum_by f xs ≡ 0
  sum_zero f [] h = refl
  sum_zero f (x ∷ xs) h =
      let here = h zero x refl in
      let rest = sum_zero f xs (λ k y e. h (suc k) y e) in
      let all = sum_by-cons f x xs in
      omega arith

  -- a sum of which one item has all
  pub sum_only : (f : X → ℕ) (xs : List X) (k : ℕ) (x : X) → get_elem? xs k ≡ some x → ((j : ℕ) (y : X) → get_elem? xs j ≡ some y → j ≢ k → f y ≡ 0) → sum_by f xs ≡ f x
  sum_only f [] k x e h = absurd (some-ne-none x (sym e))
  sum_only f (y ∷ xs) zero x e h =
      let rest = sum_zero f xs (λ j z p. h (suc j) z p (λ q. omega arith)) in
      let all = sum_by-cons f y xs in
      let same = ap f (some-injective y x e) in
      omega arith
  sum_only f (y ∷ xs) (suc k) x e h =
      let here = h zero y refl (λ q. omega arith) in
      let rest = sum_only f xs k x e (λ j z p n. h (suc j) z p (λ q. n (omega arith))) in
      let all = sum_by-cons f y xs in
      omega arith
