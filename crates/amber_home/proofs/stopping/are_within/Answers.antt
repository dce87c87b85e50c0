-- One operator more was looked at.
use Rattle.std.proofs.Common.{◌≡◌, ℕ, zero, suc, ◌+◌, ◌<◌, ◌≤◌, List, length, sym, ap, subst, ◌∙◌, refl, false, true, unwrap_or, inl, inr, arith}
use Rattle.std.proofs.lemmas.Bool.{cases_lt}
use Rattle.amber_dataflow.specs.Dataflow.{DataflowState, rows_emitted}
use Rattle.amber_home.specs.Asked.{Asked, no_asked}
use Rattle.amber_home.specs.Leg.{count_at}
use Rattle.amber_home.specs.Redoing.{is_over}
use Rattle.amber_home.proofs.Places.{nth-past}
use Rattle.amber_home.proofs.stopping.are_within.Goals as goal

over-same : (arms : List Asked) (d : DataflowState) (one other : ℕ) → one ≡ other → is_over (count_at arms one) (rows_emitted d one) ≡ is_over (count_at arms other) (rows_emitted d other)
over-same arms d one other same = ap (λ op. is_over (count_at arms op) (rows_emitted d op)) same

-- elsewhere there is no count
none-past : (arms : List Asked) (d : DataflowState) (op : ℕ) → length arms < op → is_over (count_at arms op) (rows_emitted d op) ≡ false
none-past arms d op past = ap (λ found. is_over (unwrap_or found no_asked).count (rows_emitted d op)) (nth-past arms op past)

pub operators-preserved : goal.operators-preserved
operators-preserved c op some within =
    elim (cases_lt op (c.operators.before + 1)) [
      | inl earlier ↦ c.operators.invariant op some (omega arith)
      | inr here ↦ over-same c.args.arms.now c.args.dataflow.now op (c.operators.before + 1) (omega arith) ∙ sym c.is_over.ensures ∙ c.if-is_over.false
    ]

pub returns-clause-none : goal.returns-clause-none
returns-clause-none c is zero = refl
returns-clause-none c is (suc k) =
    let operators = c.get.ensures.operators ∙ c.flow.ensures in
    let same : length c.get.result.now ≡ length c.args.dataflow.now.flow = ap length operators in
    let end = c.operators-test.false in
    let long = c.requires.arms in
    elim (cases_lt (length c.args.arms.now) (suc k)) [
      | inl past ↦ none-past c.args.arms.now c.args.dataflow.now (suc k) past
      | inr inside ↦ c.operators.invariant (suc k) (omega arith) (omega arith)
    ]
