-- A driver's workers make turns, one after the other.
use Rattle.std.proofs.Common.{◌≡◌, refl, sym, ap, subst, ◌∙◌, ℕ, ◌+◌, ◌*◌, ◌<◌, ◌≤◌, List, length, set, Option, None, Bor, length-set, inl, inr, arith}
use Rattle.std.proofs.Math.ListN.{get_or-eq_default}
use Rattle.std.proofs.Math.Nat.{mul-le-mul_right}
use Rattle.std.proofs.lemmas.Bool.{cases_lt}
use Rattle.std.proofs.lemmas.Bool.Decides.{eqb_tells}
use Rattle.std.proofs.lemmas.List.{get_or-set_other, get_or-set_same}
use Rattle.amber_worker.specs.WorkerState.{WorkerState}
use Rattle.amber_board.specs.declared.types.Board.{Board}
use Rattle.amber_leg.specs.Driving.{HasDrivenAll, MayDrive, board_for, worker_placed}
use Rattle.amber_leg.specs.Slices.{HasTurnedSo}
use Rattle.amber_leg.specs.declared.driver.Driver.{Driver}
use Rattle.amber_leg.proofs.Turned.{may-still, turned-more, turned-same, turned-then}

-- those at the first places have made turns, the others are as they were
pub record HasDrivenBelow (count turns : ℕ) (boards : List (Option (Bor Board))) (old new : Driver) : Type 0 where
  pub all : length new.workers.items ≡ length old.workers.items
  pub each : (place : ℕ) → place < count → HasTurnedSo turns (board_for boards place) (worker_placed old place) (worker_placed new place)
  pub rest : (place : ℕ) → count ≤ place → worker_placed new place ≡ worker_placed old place

pub below-none : (turns : ℕ) (boards : List (Option (Bor Board))) (d : Driver) → HasDrivenBelow 0 turns boards d d
below-none turns boards d = record { all = refl; each = λ place less. absurd (omega arith); rest = λ place past. refl }

-- one more
pub below-more : (turns : ℕ) (boards : List (Option (Bor Board))) (old now next : Driver) (count : ℕ) (after : Option WorkerState) → HasDrivenBelow count turns boards old now → count < length now.workers.items
    → next.workers.items ≡ set now.workers.items count after → HasTurnedSo turns (board_for boards count) (worker_placed now count) after
    → HasDrivenBelow (count + 1) turns boards old next
below-more turns boards old now next count after below inside is turned = record {
  all = ap length is ∙ length-set now.workers.items count after ∙ below.all;
  each = λ place less. elim (eqb_tells place count) [
    | inl same ↦
        subst (λ k. HasTurnedSo turns (board_for boards k) (worker_placed old k) (worker_placed next k)) (sym same.1)
        (subst (λ x. HasTurnedSo turns (board_for boards count) (worker_placed old count) x) (sym here)
        (subst (λ x. HasTurnedSo turns (board_for boards count) x after) (below.rest count (omega arith)) turned))
    | inr other ↦
        subst (λ x. HasTurnedSo turns (board_for boards place) (worker_placed old place) x) (sym (still place other.1))
        (below.each place (earlier place less other.1))
  ];
  rest = λ place past. still place (apart place past) ∙ below.rest place (omega arith);
}
  where
    here : worker_placed next count ≡ after
    here = ap (λ xs. Rattle.std.specs.Prelude.slice_index_or xs count None) is ∙ get_or-set_same now.workers.items count after None inside

    still : (place : ℕ) → (place ≡ count → ⊥) → worker_placed next place ≡ worker_placed now place
    still place apart = ap (λ xs. Rattle.std.specs.Prelude.slice_index_or xs place None) is ∙ get_or-set_other now.workers.items count place after None apart

    earlier : (place : ℕ) → place < count + 1 → (place ≡ count → ⊥) → place < count
    earlier place less apart = elim (cases_lt place count) [ inl before ↦ before | inr past ↦ absurd (apart (omega arith)) ]

    apart : (place : ℕ) → count + 1 ≤ place → place ≡ count → ⊥
    apart place past same = omega arith

-- all of them
pub below-all : (turns : ℕ) (boards : List (Option (Bor Board))) (old new : Driver) → HasDrivenBelow (length old.workers.items) turns boards old new → HasDrivenAll turns boards old new
below-all turns boards old new below = record {
  all = below.all;
  each = λ place. elim (cases_lt place (length old.workers.items)) [
    | inl inside ↦ below.each place inside
    | inr past ↦
        subst (λ x. HasTurnedSo turns (board_for boards place) x (worker_placed new place)) (sym (get_or-eq_default old.workers.items None (omega arith)))
        (subst (λ x. HasTurnedSo turns (board_for boards place) None x) (sym (get_or-eq_default new.workers.items None (let all = below.all in omega arith))) tt)
  ];
}

-- ---- passes

module _ (boards : List (Option (Bor Board))) where
  pub driven-none : (all : ℕ) (d : Driver) → MayDrive all boards d → HasDrivenAll 0 boards d d
  driven-none all d may = record { all = refl; each = λ place. turned-same all (board_for boards place) (worker_placed d place) (may.each place) }

  pub driven-then : (m n : ℕ) (a b c : Driver) → HasDrivenAll m boards a b → HasDrivenAll n boards b c → HasDrivenAll (m + n) boards a c
  driven-then m n a b c one two = record {
    all = two.all ∙ one.all;
    each = λ place. turned-then m n (board_for boards place) (worker_placed a place) (worker_placed b place) (worker_placed c place) (one.each place) (two.each place);
  }

  pub driven-more : (m n : ℕ) (a b : Driver) → m ≤ n → (1 ≤ n → 1 ≤ m) → HasDrivenAll m boards a b → HasDrivenAll n boards a b
  driven-more m n a b within some driven = record {
    all = driven.all;
    each = λ place. turned-more m n (board_for boards place) (worker_placed a place) (worker_placed b place) within some (driven.each place);
  }

  -- as many turns as are left
  pub drives-on : (all made next : ℕ) (a b : Driver) → made + next ≤ all → MayDrive all boards a → HasDrivenAll made boards a b → MayDrive next boards b
  drives-on all made next a b within may driven = record {
    all = driven.all ∙ may.all;
    each = λ place. may-still all made next (board_for boards place) (worker_placed a place) (worker_placed b place) within (may.each place) (driven.each place);
  }

-- and then who was told something did it
pub driven-heeded : (boards : List (Option (Bor Board))) (n : ℕ) (a b c : Driver) → HasDrivenAll n boards a b → HasDrivenAll 0 boards b c → HasDrivenAll n boards a c
driven-heeded boards n a b c one two = driven-more boards (n + 0) n a c (omega arith) (λ some. omega (arith, some)) (driven-then boards n 0 a b c one two)

-- one pass more
pub pass-more : (made passes slice : ℕ) → made < passes → made * slice + slice ≤ passes * slice
pass-more made passes slice less = let all = mul-le-mul_right {m = made + 1} {n = passes} slice (omega arith) in omega (arith, all)

-- where a turn might be made one might be made in a pass
pub pass-some : (made passes slice : ℕ) → 1 ≤ passes * slice → 1 ≤ made * slice + slice
pass-some made passes slice some = elim (cases_lt 0 slice) [
  | inl more ↦ (let more = more in omega arith)
  | inr none ↦ (let is : slice ≡ 0 = (let none = none in omega arith) in let zero : passes * slice ≡ 0 = ap (λ n. passes * n) is ∙ (let none : passes * 0 ≡ 0 = omega arith in none) in absurd (omega (arith, some, zero)))
]

-- so many passes and one more are no more turns than those of all passes
pub passed : (boards : List (Option (Bor Board))) (made passes slice : ℕ) (old mid new : Driver) → made < passes → HasDrivenAll (made * slice) boards old mid → HasDrivenAll slice boards mid new
    → HasDrivenAll (passes * slice) boards old new
passed boards made passes slice old mid new less before one =
    driven-more boards (made * slice + slice) (passes * slice) old new (pass-more made passes slice less) (pass-some made passes slice)
    (driven-then boards (made * slice) slice old mid new before one)
