-- The steps of a round, worker by worker.
use Rattle.std.proofs.Common.{◌≡◌, ℕ, suc, ◌+◌, ◌-◌, ◌<◌, ◌==◌, if◌then◌else◌, List, ◌∷◌, drop, length, slice_index, slice_index_or, refl, arith}
use Rattle.std.specs.Prelude.{sum}
use Rattle.std.proofs.lemmas.List.Sums.{sum_by-drop_more}
use Rattle.amber_board.specs.declared.view.Step.{Step}
use Rattle.amber_board.specs.declared.view.Step.TheVariants.{Grant, Sweep, Watch}
use Rattle.amber_principal.specs.Rounds.{grants_after, sweeps_after, watches_after}
use Rattle.amber_principal.specs.Shares.{is_in_need}
use Rattle.amber_principal.specs.declared.dividing.Need.{Need}
use Rattle.amber_principal.specs.declared.dividing.Need.TheVariants as need

watches_next : (steps : List Step) (n : ℕ) → watches_after steps (suc n) ≡ Watch n ∷ watches_after steps n
unfolding watches_after
watches_next steps n = refl

pub watches_none : (steps : List Step) → watches_after steps 0 ≡ steps
unfolding watches_after
watches_none steps = refl

pub watches_more : (steps : List Step) (n : ℕ) → watches_after steps (n + 1) ≡ Watch n ∷ watches_after steps n
watches_more steps n = let one : n + 1 ≡ suc n = omega arith in rw one (watches_next steps n)

sweeps_next : (needs : List Need) (steps : List Step) (n : ℕ)
    → sweeps_after needs steps (suc n) ≡ (if is_in_need (slice_index_or needs n need.Absent) then sweeps_after needs steps n else Sweep n ∷ sweeps_after needs steps n)
unfolding sweeps_after
sweeps_next needs steps n = refl

pub sweeps_none : (needs : List Need) (steps : List Step) → sweeps_after needs steps 0 ≡ steps
unfolding sweeps_after
sweeps_none needs steps = refl

pub sweeps_more : (needs : List Need) (steps : List Step) (n : ℕ)
    → sweeps_after needs steps (n + 1) ≡ (if is_in_need (slice_index_or needs n need.Absent) then sweeps_after needs steps n else Sweep n ∷ sweeps_after needs steps n)
sweeps_more needs steps n = let one : n + 1 ≡ suc n = omega arith in rw one (sweeps_next needs steps n)

grants_next : (shares : List ℕ) (steps : List Step) (n : ℕ)
    → grants_after shares steps (suc n) ≡ (if slice_index shares n == 0 then grants_after shares steps n else Grant n (slice_index shares n) ∷ grants_after shares steps n)
unfolding grants_after
grants_next shares steps n = refl

pub grants_none : (shares : List ℕ) (steps : List Step) → grants_after shares steps 0 ≡ steps
unfolding grants_after
grants_none shares steps = refl

pub grants_more : (shares : List ℕ) (steps : List Step) (n : ℕ)
    → grants_after shares steps (n + 1) ≡ (if slice_index shares n == 0 then grants_after shares steps n else Grant n (slice_index shares n) ∷ grants_after shares steps n)
grants_more shares steps n = let one : n + 1 ≡ suc n = omega arith in rw one (grants_next shares steps n)

-- the shares that are left, once one is granted
pub left_less : (shares : List ℕ) (w hand : ℕ) → w < length shares → sum (drop w shares) ≡ hand → sum (drop (w + 1) shares) ≡ hand - slice_index shares w
left_less shares w hand less all =
    let here : sum (drop w shares) ≡ slice_index shares w + sum (drop (w + 1) shares) = sum_by-drop_more (λ x. x) shares w 0 less in
    omega (arith, here, all)
