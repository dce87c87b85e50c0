-- One value many times.
use Rattle.std.proofs.Common.{◌≡◌, ℕ, zero, suc, All, replicate, refl, arith}

pub all_same : {X : Type 0} (n : ℕ) (x : X) → All (λ y. y ≡ x) (replicate n x)
all_same zero x k d less = let never : ⊥ = omega (arith, less) in absurd never
all_same (suc n) x zero d less = refl
all_same (suc n) x (suc k) d less = all_same n x k d (omega (arith, less))
