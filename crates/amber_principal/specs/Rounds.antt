-- What a round of the principal does by the chief's seat, and what it answers.
use Rattle.std.specs.Prelude.{◌≡◌, ℕ, zero, suc, ◌==◌, List, ◌∷◌, map, not, replicate, slice_index, slice_index_or, Bool, false, if◌then◌else◌}
use Rattle.std.specs.List.{list_any}
use Rattle.amber_board.specs.declared.view.Step.{Step}
use Rattle.amber_board.specs.declared.view.Step.TheVariants.{Draw, Grant, Sweep, Watch}
use Rattle.amber_board.specs.declared.view.View.{View}
use Rattle.amber_principal.specs.Shares.{is_able, is_in_need, shares_of}
use Rattle.amber_principal.specs.declared.dividing.Need.{Need}
use Rattle.amber_principal.specs.declared.dividing.Need.TheVariants as need
use Rattle.amber_principal.specs.declared.rounds.Order.{Order}
use Rattle.amber_principal.specs.declared.rounds.Seen.{Seen}
use Rattle.amber_principal.specs.declared.rounds.Seen.TheVariants as seen

-- Steps stand with the last one first, as the chief's view has them.

-- after these steps each worker below n was watched, in order
unfoldable pub watches_after : List Step → ℕ → List Step
watches_after steps zero = steps
watches_after steps (suc n) = Watch n ∷ watches_after steps n

-- after these steps the allotment of each worker below n that is not starved was swept, in order
unfoldable pub sweeps_after : List Need → List Step → ℕ → List Step
sweeps_after needs steps zero = steps
sweeps_after needs steps (suc n) =
    if is_in_need (slice_index_or needs n need.Absent) then sweeps_after needs steps n else Sweep n ∷ sweeps_after needs steps n

-- after these steps each worker below n was granted its share, in order, where that is not 0
unfoldable pub grants_after : List ℕ → List Step → ℕ → List Step
grants_after shares steps zero = steps
grants_after shares steps (suc n) =
    if slice_index shares n == 0 then grants_after shares steps n else Grant n (slice_index shares n) ∷ grants_after shares steps n

-- whether units are divided: the target is not reached, and somebody is starved
abbrev pub divides : Seen → List Need → Bool
divides seen.Hit needs = false
divides seen.Open needs = list_any is_in_need needs

-- the steps of a round that found this many units unassigned or unclaimed
abbrev pub round_steps : ℕ → List Need → Seen → ℕ → List Step → List Step
round_steps workers needs found rest steps =
    if divides found needs
    then grants_after (shares_of rest needs) (sweeps_after needs (Draw ∷ watches_after steps workers) workers) workers
    else watches_after steps workers

-- for each place whether it is so, and nowhere where nothing was divided
abbrev pub flags_of : Bool → List Bool → List Bool
flags_of divided flags = if divided then flags else replicate 16 false

-- a round: the chief's view before and after it, and its answer
pub record IsRound (needs : List Need) (before after : View) (order : Order) : Type 0 where
  -- the units that were found unassigned or unclaimed
  pub rest : ℕ
  pub steps : after.done ≡ round_steps before.made needs order.seen rest before.done
  pub claim : order.claim ≡ flags_of (divides order.seen needs) (map (λ share. not (share == 0)) (shares_of rest needs))
  pub give : order.give ≡ flags_of (divides order.seen needs) (map is_able needs)
