-- Tests for the rules: each is true exactly where its rule holds.
use Rattle.std.specs.Prelude.{ℕ, ◌+◌, ◌-◌, ◌==◌, nat_le, nat_lt, ◌&&◌, ◌||◌, not, length, take, drop, Bool}
use Rattle.std.specs.List.{list_any}
use Rattle.amber_rows.specs.Lists.{is_empty}
use Rattle.amber_log.specs.declared.entry.Entry.{Entry}
use Rattle.amber_log.specs.declared.entry.Entry.TheVariants as entry
use Rattle.amber_meaning.specs.Task.{Role}
use Rattle.amber_meaning.specs.Position.{Position, all_arrivals, have_ended, pending_rows, rest_of, taken_from}
use Rattle.amber_meaning.specs.Rules.{Assignment, Orders, first_is_watched, may_take_from, pass_by, produced_with, product_with}

-- neither paused nor held nor finished
abbrev pub is_free : Position → Bool
is_free p = not p.restraint.paused && (not p.restraint.held && not p.finished)

unfoldable pub may_take : Role → Position → ℕ → ℕ → Bool
may_take role p from number =
    is_free p && (list_any (λ sender. sender == from) role.senders && ((number == length (taken_from p.taken from))
    && (is_empty (rest_of role p) && (is_empty (pending_rows role p) && may_take_from role p.taken from))))

unfoldable pub may_go : Assignment → Position → ℕ → ℕ → Bool
may_go it p rows outs =
    is_free p && (nat_le (length p.constants + rows) (length (all_arrivals it.role p.taken))
    && (nat_le (length p.outcomes + outs) (produced_with it.role it.orders p rows)
    && ((not (nat_lt 0 rows) || nat_le (produced_with it.role it.orders p (rows - 1)) (length p.outcomes + outs))
    && ((not it.orders.counted || nat_le outs p.restraint.hand)
    && ((not it.orders.counted || (not (nat_lt 0 rows) || nat_lt (produced_with it.role it.orders p (rows - 1)) (length p.outcomes + p.restraint.hand)))
    && pass_by it.orders.when p.restraint.waved (take outs (drop (length p.outcomes) (product_with it.role it.orders p rows))))))))

unfoldable pub may_grant : Orders → Position → Bool
may_grant orders p = orders.counted && not p.finished

unfoldable pub may_give_back : Orders → Position → ℕ → Bool
may_give_back orders p n = orders.counted && (n == p.restraint.hand)

unfoldable pub may_pause : Position → Bool
may_pause p = not p.restraint.paused && not p.finished

unfoldable pub may_resume : Position → Bool
may_resume p = p.restraint.paused && (not p.restraint.held && not p.finished)

unfoldable pub may_hold : Assignment → Position → Bool
may_hold it p =
    is_free p && (first_is_watched it.orders.when (pending_rows it.role p) && (not p.restraint.waved && (not it.orders.counted || nat_lt 0 p.restraint.hand)))

unfoldable pub may_finish : Role → Position → Bool
may_finish role p = is_free p && (is_empty (rest_of role p) && (is_empty (pending_rows role p) && have_ended role.senders p.taken))

-- whether an entry may follow at a position
abbrev pub may_move : Assignment → Position → Entry → Bool
may_move it p (entry.Take from number) = may_take it.role p from number
may_move it p (entry.Go rows outs) = may_go it p rows outs
may_move it p (entry.Grant n) = may_grant it.orders p
may_move it p (entry.Back n) = may_give_back it.orders p n
may_move it p entry.Pause = may_pause p
may_move it p entry.Resume = may_resume p
may_move it p entry.Hold = may_hold it p
may_move it p entry.Finish = may_finish it.role p
