-- The steps by which the chief makes the workers' seats.
use Rattle.std.proofs.Common.{◌≡◌, ℕ, suc, ◌+◌, List, ◌∷◌, refl, sym, ap, ◌∙◌, arith}
use Rattle.amber_board.specs.declared.view.Step.{Step}
use Rattle.amber_board.specs.declared.view.Step.TheVariants.{Split}
use Rattle.amber_board.specs.declared.view.View.{View}
use Rattle.amber_board.specs.Moves.{after_split}
use Rattle.amber_board.specs.Opening.{splits_after}

pub splits_none : (steps : List Step) → splits_after steps 0 ≡ steps
unfolding splits_after
splits_none steps = refl

splits_next : (steps : List Step) (n : ℕ) → splits_after steps (suc n) ≡ Split n ∷ splits_after steps n
unfolding splits_after
splits_next steps n = refl

pub splits_more : (steps : List Step) (n : ℕ) → splits_after steps (n + 1) ≡ Split n ∷ splits_after steps n
splits_more steps n = let one : n + 1 ≡ suc n = omega arith in rw one (splits_next steps n)

-- the chief made the seat of the next worker
pub splits_step : (steps : List Step) (n : ℕ) (v v' : View) (left : ℕ) → v' ≡ after_split v left → v.made ≡ n → v.done ≡ splits_after steps n
    → v'.done ≡ splits_after steps (n + 1)
splits_step steps n v v' left step made done =
    ap (λ (u : View). u.done) step ∙ ap (λ (k : ℕ). Split k ∷ v.done) made ∙ ap (λ (rest : List Step). Split n ∷ rest) done ∙ sym (splits_more steps n)
