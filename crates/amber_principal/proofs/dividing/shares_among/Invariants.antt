-- The shares before this place stand, and this many starved and able ones came.
use Rattle.std.proofs.Common.{◌≡◌, ◌+◌, count_by, take}
use Rattle.amber_principal.specs.Shares.{is_able, is_in_need, shares_of}
use Rattle.amber_principal.proofs.Shares.{Agrees}
use Rattle.amber_principal.proofs.dividing.shares_among.Given as goal

abbrev pub invariant-loop-place : goal.invariant-loop-place
invariant-loop-place l = Agrees (shares_of l.rest l.needs) l.shares l.place × (l.turns.each ≡ l.initial.turns.each) × (l.turns.left ≡ l.initial.turns.left)
    × (l.turns.starved ≡ count_by is_in_need (take l.place l.needs))
    × (l.turns.able ≡ count_by is_in_need l.needs + count_by is_able (take l.place l.needs))
