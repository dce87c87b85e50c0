-- Numbers that add up to a number in a range.
use Rattle.std.specs.Prelude.{◌≤◌, ◌<◌, ◌⊎◌, ℕ, List, sum}

-- their sum is in the range
abbrev pub HasSumWithin : ℕ → ℕ → List ℕ → Type 0
HasSumWithin least most numbers = (least ≤ sum numbers) × (sum numbers ≤ most)

-- their sum is below or above the range
abbrev pub HasSumBeyond : ℕ → ℕ → List ℕ → Type 0
HasSumBeyond least most numbers = (sum numbers < least) ⊎ (most < sum numbers)
