-- The few, or the many.
use Rattle.std.proofs.Common.{◌≡◌, ℕ, zero, suc, ◌<◌, ◌≤◌, Bool, true, false, cond, List, [], ◌∷◌, ◌++◌, length, map, take, drop, nat_le, refl, ap, ◌∙◌, sym, arith}
use Rattle.std.proofs.lemmas.Bool.{leb-false, lt-leb}
use Rattle.amber_rows.specs.declared.agg.Agg.{Agg}
use Rattle.amber_group.specs.declared.running.Running.{Running}
use Rattle.amber_group.specs.Running.{running_of}
use Rattle.amber_group.specs.Totals.{blank_at, totals_in}

few_by : (count : ℕ) (few many : List Running) (t : Bool) → nat_le count 4 ≡ t → count ≤ 4 → cond t (take count few) many ≡ take count few
few_by count few many true e le = refl
few_by count few many false e le = let more : 4 < count = leb-false count 4 e in absurd (omega (arith, more, le))

pub in-few : (count : ℕ) (few many : List Running) → count ≤ 4 → totals_in count few many ≡ take count few
in-few count few many le = few_by count few many (nat_le count 4) refl le

pub in-many : (count : ℕ) (few many : List Running) → 4 < count → totals_in count few many ≡ many
in-many count few many more = ap (λ t. cond t (take count few) many) (lt-leb count 4 more)

front : (f : Running → Running) (count : ℕ) (few : List Running) → take count (map f (take count few) ++ drop count few) ≡ map f (take count few)
front f zero few = refl
front f (suc count) [] = refl
front f (suc count) (running ∷ few) = ap (λ rest. f running ∷ rest) (front f count few)

-- where each of the few changes, and the places beyond them do not
pub few-after : (f : Running → Running) (count : ℕ) (few many new : List Running) → count ≤ 4 → new ≡ map f (take count few) → totals_in count (new ++ drop count few) many ≡ new
few-after f count few many new le is = in-few count (new ++ drop count few) many le ∙ ap (λ runnings. take count (runnings ++ drop count few)) is ∙ front f count few ∙ sym is

-- of no row, where there are few aggregates
pub few-blank : (aggs : List Agg) → length aggs ≤ 4 → take (length aggs) (blank_at aggs 0 ∷ blank_at aggs 1 ∷ blank_at aggs 2 ∷ blank_at aggs 3 ∷ []) ≡ map (running_of []) aggs
few-blank [] le = refl
few-blank (a ∷ []) le = refl
few-blank (a ∷ b ∷ []) le = refl
few-blank (a ∷ b ∷ c ∷ []) le = refl
few-blank (a ∷ b ∷ c ∷ d ∷ []) le = refl
few-blank (a ∷ b ∷ c ∷ d ∷ e ∷ aggs) le = absurd (omega (arith, le))
