-- The columns of an operator of a workflow are few.
use Rattle.std.proofs.Common.{◌≡◌, ◌-◌, ◌≤◌, ◌==◌, ℕ, zero, suc, Bool, true, false, List, [], ◌∷◌, ◌++◌, length, None, Some, cond, subst}
use Rattle.std.specs.Prelude.{slice_get}
use Rattle.amber_rows.specs.Lists.{nth}
use Rattle.amber_rows.specs.FlowRules.{AreNext, IsFlow}
use Rattle.amber_rows.specs.declared.flow.Operator.{Operator}

-- the one at a place, of operators that may follow each other
at_place : (before ops : List Operator) (place : ℕ) (operator : Operator) → AreNext before ops → slice_get ops place ≡ Some operator → length operator.schema ≤ 64
unfolding AreNext
at_place before [] place operator next is = absurd (cc)
at_place before (first ∷ ops) zero operator next is =
    let same : first ≡ operator = cc in
    subst (λ (o : Operator). length o.schema ≤ 64) same next.0.columns.few
at_place before (first ∷ ops) (suc place) operator next is = at_place (before ++ first ∷ []) ops place operator next.1 is

-- the same, where number 0 names none
by_number : (zeroth : Bool) (flow : List Operator) (place : ℕ) (operator : Operator) → IsFlow flow → cond zeroth None (slice_get flow place) ≡ Some operator
    → length operator.schema ≤ 64
by_number true flow place operator h is = absurd (cc)
by_number false flow place operator h is = at_place [] flow place operator h.operators is

-- an operator has at most 64 columns
pub is_narrow : (flow : List Operator) (op : ℕ) (operator : Operator) → IsFlow flow → nth flow op ≡ Some operator → length operator.schema ≤ 64
is_narrow flow op operator h is = by_number (op == 0) flow (op - 1) operator h is
