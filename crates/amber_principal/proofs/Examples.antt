-- Divisions on literals: evenly, what is left over first to starved workers and then to able ones, none to the others.
use Rattle.std.proofs.Common.{◌≡◌, [], ◌∷◌, refl}
use Rattle.amber_principal.specs.Shares.{shares_from, shares_of}
use Rattle.amber_principal.specs.declared.dividing.Need.TheVariants as need

two_starved : shares_of 5 (need.Starved ∷ need.Starved ∷ need.Absent ∷ []) ≡ 3 ∷ 2 ∷ 0 ∷ []
unfolding shares_from
two_starved = refl

one_starved_behind_an_able_one : shares_of 1 (need.Able ∷ need.Starved ∷ need.Absent ∷ []) ≡ 0 ∷ 1 ∷ 0 ∷ []
unfolding shares_from
one_starved_behind_an_able_one = refl

left_over_to_starved_then_able : shares_of 11 (need.Able ∷ need.Starved ∷ need.Finished ∷ need.Able ∷ need.Starved ∷ []) ≡ 3 ∷ 3 ∷ 0 ∷ 2 ∷ 3 ∷ []
unfolding shares_from
left_over_to_starved_then_able = refl

nobody_shares : shares_of 7 (need.Finished ∷ need.Absent ∷ []) ≡ 0 ∷ 0 ∷ []
unfolding shares_from
nobody_shares = refl
