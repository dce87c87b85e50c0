-- One operator after the other is disarmed.
use Rattle.std.proofs.Common.{◌≡◌, ◌≢◌, refl, sym, ap, subst, ◌∙◌, ℕ, zero, suc, ◌+◌, ◌-◌, ◌<◌, ◌≤◌, length, List, [], ◌∷◌, Option, None, true, false, is_some, get_or, inl, inr, arith}
use Rattle.std.specs.Prelude.{option_map}
use Rattle.std.proofs.lemmas.Bool.{cases_lt}
use Rattle.std.proofs.lemmas.Bool.Decides.{eqb_tells}
use Rattle.std.proofs.lemmas.List.{get_or_past}
use Rattle.amber_rows.specs.Topology.{crew_of, op_of}
use Rattle.amber_meaning.proofs.Crews.{op-within}
use Rattle.amber_meaning.proofs.Lists.{numbered_or}
use Rattle.amber_worker.specs.Changes.{disarmed_at}
use Rattle.amber_worker.specs.WorkerState.{WorkerState}
use Rattle.amber_dataflow.specs.AtWork.{worker_state_at}
use Rattle.amber_dataflow.specs.Dataflow.{AreAllThere, DataflowState, hand_of, journal_of, rows_emitted}
use Rattle.amber_boards.specs.Boards.{AreCounted, AreUnarmedAt, AreWithinTargets, ChangeUnits, ChangesAt, CounterState, DisarmsAll, DisarmsOperator, IsCountedAt, IsWithinTarget, StandInForce, StandsCounted, WritesBack, board_at, has_board, target_at, targets_of}
use Rattle.amber_boards.proofs.OneMoreArmed.{at-place}
use Rattle.amber_boards.proofs.OthersKept.{counted-kept, other-counted, rows-same, stands-counted, there-still, units-none, units-then}

-- ---- what the boards ask for

-- so it is by places
target-at-place : (boards : List (Option CounterState)) (place : ℕ) → get_or (targets_of boards) place None ≡ option_map (λ (counter : CounterState). counter.target) (get_or boards place None)
target-at-place [] place = refl
target-at-place (board ∷ boards) zero = refl
target-at-place (board ∷ boards) (suc place) = target-at-place boards place

-- what is asked for at an operator is what its board asks for
pub target-of : (boards : List (Option CounterState)) (op : ℕ) → 0 < op → target_at (targets_of boards) op ≡ option_map (λ (counter : CounterState). counter.target) (board_at boards op)
target-of boards op some =
    at-place (targets_of boards) op some ∙ target-at-place boards (op - 1) ∙ ap (option_map (λ (counter : CounterState). counter.target)) (sym (at-place boards op some))

-- ---- the operators so far

-- the first operators are disarmed, and the workers of the others are as they were
pub record AreDisarmedTo (boards : List (Option CounterState)) (place : ℕ) (old new : DataflowState) : Type 0 where
  pub units : ChangeUnits (has_board boards) old new
  pub unarmed : (op : ℕ) → 0 < op → op ≤ place → AreUnarmedAt op new
  pub done : (worker : ℕ) → worker < crew_of old.flow → op_of old.flow worker ≤ place → has_board boards (op_of old.flow worker) ≡ true
      → worker_state_at new.workers worker ≡ disarmed_at (worker_state_at old.workers worker)
  pub others : (worker : ℕ) → has_board boards (op_of old.flow worker) ≡ false → worker_state_at new.workers worker ≡ worker_state_at old.workers worker
  pub later : (worker : ℕ) → place < op_of old.flow worker → worker_state_at new.workers worker ≡ worker_state_at old.workers worker
  pub within : (op : ℕ) → 0 < op → op ≤ place → IsWithinTarget (option_map (λ counter. counter.target) (board_at boards op)) (rows_emitted old op)

-- none are disarmed
pub disarmed-none : (boards : List (Option CounterState)) (d : DataflowState) → AreDisarmedTo boards 0 d d
disarmed-none boards d = record {
  units = units-none (has_board boards) d;
  unarmed = λ op some within. absurd (omega arith);
  done = λ worker there early. absurd (let some = (op-within d.flow worker there).0 in omega arith);
  others = λ worker without. refl;
  later = λ worker later. refl;
  within = λ op some within. absurd (omega arith);
}

module _ (boards : List (Option CounterState)) (place : ℕ) (old mid : DataflowState) (disarmed : AreDisarmedTo boards place old mid) where
  abbrev op : ℕ
  op = place + 1

  -- all workers are there
  pub disarmed-there : AreAllThere old → AreAllThere mid
  disarmed-there there = there-still old mid disarmed.units.flow disarmed.units.long there

  -- the next operator's count is counted as it was
  pub next-counted : (board : Option CounterState) → board ≡ get_or boards place None → AreCounted boards old → op ≤ length old.flow → IsCountedAt board op mid
  next-counted board is counted within =
      subst (λ b. IsCountedAt b op mid) (numbered_or boards place None ∙ sym is)
      (counted-kept old mid op disarmed.units.flow (λ worker own. disarmed.later worker (omega arith)) (board_at boards op) (counted.each op (omega arith) within))

  -- it is in force, if there is one
  pub next-in-force : (board : Option CounterState) → board ≡ get_or boards place None → StandInForce (has_board boards) old → is_some board ≡ true → StandsCounted op mid
  next-in-force board is stand some =
      stands-counted (has_board boards) op old mid disarmed.units stand (ap is_some (numbered_or boards place None ∙ sym is) ∙ some)

  -- it is disarmed too
  pub disarmed-more : (new : DataflowState) (board : Option CounterState) → board ≡ get_or boards place None → ChangesAt op mid new → (is_some board ≡ true → DisarmsOperator op mid new)
      → (is_some board ≡ false → new ≡ mid) → AreUnarmedAt op new → IsWithinTarget (option_map (λ counter. counter.target) board) (rows_emitted new op) → AreDisarmedTo boards op old new
  disarmed-more new board is changes here none unarmed within =
      let own : board ≡ board_at boards op = is ∙ sym (numbered_or boards place None) in
      let at : (worker : ℕ) → op_of old.flow worker ≡ op → op_of mid.flow worker ≡ op = λ worker e. ap (λ f. op_of f worker) disarmed.units.flow ∙ e in
      let aside : (worker : ℕ) → op_of old.flow worker ≢ op → op_of mid.flow worker ≢ op = λ worker ne e. ne (ap (λ f. op_of f worker) (sym disarmed.units.flow) ∙ e) in
      record {
        units = units-then (has_board boards) op old mid new disarmed.units changes (λ without. none (ap is_some own ∙ without));
        unarmed = λ one some inside.
            elim (eqb_tells one op) [
              | inl same ↦ subst (λ n. AreUnarmedAt n new) (sym same.1) unarmed
              | inr other ↦ let apart = other.1 in other-counted mid new op one None changes apart (disarmed.unarmed one some (omega arith))
            ];
        done = λ worker there early has.
            elim (eqb_tells (op_of old.flow worker) op) [
              | inl same ↦
                  let found = subst (λ n. has_board boards n ≡ true) same.1 has in
                  (here (ap is_some own ∙ found)).here worker (subst (λ f. worker < crew_of f) (sym disarmed.units.flow) there, at worker same.1)
                  ∙ ap disarmed_at (let late = same.1 in disarmed.later worker (omega arith))
              | inr other ↦
                  let apart = other.1 in
                  changes.others worker (aside worker apart) ∙ disarmed.done worker there (omega arith) has
            ];
        others = λ worker without.
            elim (eqb_tells (op_of old.flow worker) op) [
              | inl same ↦
                  let found = subst (λ n. has_board boards n ≡ false) same.1 without in
                  ap (λ (d : DataflowState). worker_state_at d.workers worker) (none (ap is_some own ∙ found)) ∙ disarmed.others worker without
              | inr other ↦ changes.others worker (aside worker other.1) ∙ disarmed.others worker without
            ];
        later = λ worker late.
            let apart : op_of old.flow worker ≢ op = λ e. absurd (omega arith) in
            changes.others worker (aside worker apart) ∙ disarmed.later worker (omega arith);
        within = λ one some inside.
            elim (eqb_tells one op) [
              | inl same ↦
                  subst (λ n. IsWithinTarget (option_map (λ (counter : CounterState). counter.target) (board_at boards n)) (rows_emitted old n)) (sym same.1)
                  (subst (λ b. IsWithinTarget (option_map (λ (counter : CounterState). counter.target) b) (rows_emitted old op)) own
                  (subst (IsWithinTarget (option_map (λ (counter : CounterState). counter.target) board))
                  (rows-same mid new changes.flow changes.same op ∙ rows-same old mid disarmed.units.flow disarmed.units.same op) within))
              | inr other ↦ let apart = other.1 in disarmed.within one some (omega arith)
            ];
      }

  -- who was disarmed has an empty hand
  hand-none : (worker : ℕ) → worker_state_at mid.workers worker ≡ disarmed_at (worker_state_at old.workers worker) → hand_of mid worker ≡ 0
  unfolding hand_of
  hand-none worker is = ap (λ (w : WorkerState). w.restraint.hand) is

  -- and has written what was given back
  writes-back : (worker : ℕ) → worker_state_at mid.workers worker ≡ disarmed_at (worker_state_at old.workers worker) → WritesBack old mid worker
  unfolding hand_of journal_of
  writes-back worker is = ap (λ (w : WorkerState). w.journal) is

  -- no count has counted more than it asks for
  all-within : length boards ≤ place → AreWithinTargets (targets_of boards) mid
  all-within all zero = tt
  all-within all (suc n) =
      let some : 0 < suc n = omega arith in
      let rows = rows-same old mid disarmed.units.flow disarmed.units.same (suc n) in
      subst (λ t. IsWithinTarget t (rows_emitted mid (suc n))) (sym (target-of boards (suc n) some))
      (elim (cases_lt place (suc n)) [
        | inl beyond ↦
            let end : length boards ≤ suc n - 1 = omega arith in
            subst (λ b. IsWithinTarget (option_map (λ (counter : CounterState). counter.target) b) (rows_emitted mid (suc n))) (sym (at-place boards (suc n) some ∙ get_or_past boards (suc n - 1) None end)) tt
        | inr inside ↦
            subst (IsWithinTarget (option_map (λ (counter : CounterState). counter.target) (board_at boards (suc n)))) (sym rows) (disarmed.within (suc n) some inside)
      ])

  -- behind the boards nobody has a seat
  far-unarmed : (op : ℕ) → place < op → length boards ≤ place → op ≤ length old.flow → AreCounted boards old → AreUnarmedAt op mid
  far-unarmed op far end within counted =
      let beyond : length boards ≤ op - 1 = omega arith in
      let some : 0 < op = omega arith in
      let none : board_at boards op ≡ None = at-place boards op some ∙ get_or_past boards (op - 1) None beyond in
      subst (λ b. IsCountedAt b op mid) none
      (counted-kept old mid op disarmed.units.flow (λ worker own. disarmed.later worker (omega arith)) (board_at boards op) (counted.each op some within))

  -- an operator with a board is one of those
  has-within : (op : ℕ) → length boards ≤ place → has_board boards op ≡ true → op ≤ place
  has-within zero end has = omega arith
  has-within (suc n) end has =
      elim (cases_lt place (suc n)) [
        | inl far ↦
            let beyond : length boards ≤ suc n - 1 = omega arith in
            let some : 0 < suc n = omega arith in
            let clash : false ≡ true = sym (ap is_some (at-place boards (suc n) some ∙ get_or_past boards (suc n - 1) None beyond)) ∙ has in
            absurd (cc clash)
        | inr inside ↦ inside
      ]

  -- all are
  pub all-disarmed : AreCounted boards old → length boards ≤ place → DisarmsAll boards old mid
  all-disarmed counted end = record {
    units = disarmed.units;
    unarmed = λ worker there.
        let at = op-within mid.flow worker there in
        let last = at.1 in
        let same = ap length disarmed.units.flow in
        elim (cases_lt place (op_of mid.flow worker)) [
          | inl far ↦ far-unarmed (op_of mid.flow worker) far end (omega arith) counted worker (there, refl)
          | inr inside ↦ disarmed.unarmed (op_of mid.flow worker) at.0 inside worker (there, refl)
        ];
    empty = λ worker there has. hand-none worker (disarmed.done worker there (has-within (op_of old.flow worker) end has) has);
    writes = λ worker there has. writes-back worker (disarmed.done worker there (has-within (op_of old.flow worker) end has) has);
    others = λ worker there without. disarmed.others worker without;
    within = all-within end;
  }
