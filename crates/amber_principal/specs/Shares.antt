-- How units are divided among the workers of an operator.
use Rattle.std.specs.Prelude.{ℕ, ◌+◌, ◌/◌, ◌%◌, ◌==◌, List, [], ◌∷◌, take, count_by, Bool, true, false, if◌then◌else◌, nat_lt}
use Rattle.amber_principal.specs.declared.dividing.Need.{Need}
use Rattle.amber_principal.specs.declared.dividing.Need.TheVariants as need

abbrev pub is_in_need : Need → Bool
is_in_need need.Absent = false
is_in_need need.Finished = false
is_in_need need.Starved = true
is_in_need need.Able = false

abbrev pub is_able : Need → Bool
is_able need.Absent = false
is_able need.Finished = false
is_able need.Starved = false
is_able need.Able = true

-- how many get a share: those that are starved, and those that are able
abbrev pub sharer_count : List Need → ℕ
sharer_count needs = count_by is_in_need needs + count_by is_able needs

-- 1 where it is so
abbrev pub unit_if : Bool → ℕ
unit_if true = 1
unit_if false = 0

-- an even share, and one unit more where fewer come before than units are left over; none where nobody shares
abbrev pub even_share : ℕ → ℕ → ℕ → ℕ
even_share rest sharers before = if sharers == 0 then 0 else rest / sharers + unit_if (nat_lt before (rest % sharers))

-- the share of the worker at a place: before a starved one come the starved ones at earlier places, before an able one all that
-- are starved and the able ones at earlier places
abbrev pub share_at : ℕ → List Need → ℕ → Need → ℕ
share_at rest needs place need.Absent = 0
share_at rest needs place need.Finished = 0
share_at rest needs place need.Starved = even_share rest (sharer_count needs) (count_by is_in_need (take place needs))
share_at rest needs place need.Able = even_share rest (sharer_count needs) (count_by is_in_need needs + count_by is_able (take place needs))

-- the shares of the workers at the places from this one on
unfoldable pub shares_from : ℕ → List Need → ℕ → List Need → List ℕ
shares_from rest needs place [] = []
shares_from rest needs place (one ∷ more) = share_at rest needs place one ∷ shares_from rest needs (place + 1) more

-- the share of each worker
abbrev pub shares_of : ℕ → List Need → List ℕ
shares_of rest needs = shares_from rest needs 0 needs
