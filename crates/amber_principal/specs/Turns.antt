-- An even division, worker by worker.
use Rattle.std.specs.Prelude.{ℕ, ◌+◌, nat_lt}
use Rattle.amber_principal.specs.Shares.{is_able, is_in_need, unit_if}
use Rattle.amber_principal.specs.declared.dividing.Need.{Need}
use Rattle.amber_principal.specs.declared.dividing.Need.TheVariants as need
use Rattle.amber_principal.specs.declared.dividing.Turns.{Turns}

-- the share of the next worker
abbrev pub next_share : Turns → Need → ℕ
next_share turns need.Absent = 0
next_share turns need.Finished = 0
next_share turns need.Starved = turns.each + unit_if (nat_lt turns.starved turns.left)
next_share turns need.Able = turns.each + unit_if (nat_lt turns.able turns.left)

-- the turns once the next worker has its share
abbrev pub after_share : Turns → Need → Turns
after_share turns one = record turns { starved = turns.starved + unit_if (is_in_need one); able = turns.able + unit_if (is_able one) }
