-- One operator after the other is armed.
use Rattle.std.proofs.Common.{◌≡◌, refl, sym, ap, subst, ◌∙◌, ℕ, zero, suc, ◌+◌, ◌-◌, ◌<◌, ◌≤◌, length, take, List, [], ◌∷◌, ◌++◌, Option, None, Some, true, false, is_some, get_or, inl, inr, arith}
use Rattle.std.specs.Prelude.{option_map, unwrap_or}
use Rattle.std.proofs.Math.ListN.{get_or-append}
use Rattle.std.proofs.Math.Seq.{get_or-append_seam}
use Rattle.std.proofs.lemmas.Bool.Decides.{eqb_tells}
use Rattle.std.proofs.lemmas.Grind.{take_at_read}
use Rattle.std.proofs.lemmas.List.{length_push, map_push, take_all}
use Rattle.amber_rows.specs.Lists.{nth}
use Rattle.amber_rows.specs.Topology.{op_of}
use Rattle.amber_meaning.proofs.Lists.{numbered_or}
use Rattle.amber_worker.specs.WorkerState.{WorkerState}
use Rattle.amber_dataflow.specs.AtWork.{worker_state_at}
use Rattle.amber_dataflow.specs.Dataflow.{AreAllThere, DataflowState, journal_of, rows_emitted, seat_of}
use Rattle.amber_boards.specs.declared.target.Target.{Target}
use Rattle.amber_boards.specs.Boards.{AreBelow, AreCounted, AreUnarmed, AreUnarmedAt, ArmsAll, ChangeUnits, ChangesAt, CounterState, IsBelow, IsCountedAt, KeepsTargets, StandInForce, StandsCounted, board_at, has_target, target_at, targets_of}
use Rattle.amber_boards.proofs.OthersKept.{other-counted, rows-same, stands-counted, there-still, units-none, units-then, worker-before}

-- ---- lists by numbers from 1

module _ {A : Type 0} where
  -- the element with a number stands at the place before it
  pub at-place : (xs : List (Option A)) (op : ℕ) → 0 < op → unwrap_or (nth xs op) None ≡ get_or xs (op - 1) None
  at-place xs op some =
      let is : op ≡ op - 1 + 1 = omega arith in
      ap (λ n. unwrap_or (nth xs n) None) is ∙ numbered_or xs (op - 1) None

  -- it is the same in a list with one more at the end
  at-before : (xs : List (Option A)) (x : Option A) (op : ℕ) → 0 < op → op ≤ length xs → unwrap_or (nth (xs ++ x ∷ []) op) None ≡ unwrap_or (nth xs op) None
  at-before xs x op some within =
      let less : op - 1 < length xs = omega arith in
      at-place (xs ++ x ∷ []) op some ∙ get_or-append xs (x ∷ []) None (op - 1) less ∙ sym (at-place xs op some)

  -- and the last is that one
  at-last : (xs : List (Option A)) (x : Option A) → unwrap_or (nth (xs ++ x ∷ []) (length xs + 1)) None ≡ x
  at-last xs x = numbered_or (xs ++ x ∷ []) (length xs) None ∙ get_or-append_seam xs x [] None

-- ---- what boards ask for

-- the target of a board that is there stands in its place
pub target-here : (boards : List (Option CounterState)) (place : ℕ) (counter : CounterState) → get_or boards place None ≡ Some counter
    → get_or (targets_of boards) place None ≡ Some counter.target
target-here [] place counter is = absurd (cc is)
target-here (board ∷ boards) zero counter is = ap (option_map (λ (c : CounterState). c.target)) is
target-here (board ∷ boards) (suc place) counter is = target-here boards place counter is

-- what all ask for is kept
pub targets-kept : (targets : List (Option Target)) (boards : List (Option CounterState)) → targets_of boards ≡ targets → KeepsTargets targets boards
targets-kept targets boards is place counter here = ap (λ ts. get_or ts place None) (sym is) ∙ target-here boards place counter here

-- ---- the operators so far

-- these boards are those of the first operators, whose workers are armed, and the workers of the others are as they were
pub record AreArmedTo (counts : List (Option Target)) (boards : List (Option CounterState)) (old new : DataflowState) : Type 0 where
  pub units : ChangeUnits (has_target counts) old new
  pub writes : (worker : ℕ) → journal_of new worker ≡ journal_of old worker
  pub counted : (op : ℕ) → 0 < op → op ≤ length boards → IsCountedAt (board_at boards op) op new
  pub later : (worker : ℕ) → length boards < op_of old.flow worker → worker_state_at new.workers worker ≡ worker_state_at old.workers worker
  pub targets : targets_of boards ≡ take (length boards) counts

-- none are armed
pub armed-none : (counts : List (Option Target)) (d : DataflowState) → AreArmedTo counts [] d d
armed-none counts d = record {
  units = units-none (has_target counts) d;
  writes = λ worker. refl;
  counted = λ op some within. absurd (omega arith);
  later = λ worker later. refl;
  targets = refl;
}

module _ (counts : List (Option Target)) (boards : List (Option CounterState)) (old mid : DataflowState) (armed : AreArmedTo counts boards old mid) where
  abbrev op : ℕ
  op = length boards + 1

  -- all workers are there
  pub armed-there : AreAllThere old → AreAllThere mid
  armed-there there = there-still old mid armed.units.flow armed.units.long there

  -- of the next operator nobody has a seat
  pub next-unarmed : AreUnarmed old → AreUnarmedAt op mid
  unfolding seat_of
  next-unarmed unarmed worker is =
      let before = worker-before old mid op worker armed.units.flow is in
      let own = before.1 in
      ap (λ (w : WorkerState). w.seat) (armed.later worker (omega arith)) ∙ unarmed worker before.0

  -- its count has not reached its target
  pub next-below : (count : Option Target) → count ≡ get_or counts (length boards) None → AreBelow counts old → IsBelow count (rows_emitted mid op)
  next-below count is below =
      subst (λ c. IsBelow c (rows_emitted mid op)) (numbered_or counts (length boards) None ∙ sym is)
      (subst (IsBelow (target_at counts op)) (sym (rows-same old mid armed.units.flow armed.units.same op)) (below op))

  -- it is in force, if there is one
  pub next-stands : (count : Option Target) → count ≡ get_or counts (length boards) None → StandInForce (has_target counts) old → is_some count ≡ true → StandsCounted op mid
  next-stands count is stand some =
      stands-counted (has_target counts) op old mid armed.units stand (ap is_some (numbered_or counts (length boards) None ∙ sym is) ∙ some)

  -- it is armed too
  pub armed-more : (new : DataflowState) (count : Option Target) (made : Option CounterState) → count ≡ get_or counts (length boards) None → length boards < length counts → ChangesAt op mid new
      → (is_some count ≡ false → new ≡ mid) → IsCountedAt made op new → option_map (λ counter. counter.target) made ≡ count
      → ((worker : ℕ) → journal_of new worker ≡ journal_of mid worker) → AreArmedTo counts (boards ++ made ∷ []) old new
  armed-more new count made is less changes none here target writes =
      let long = length_push boards made in
      let first = take_at_read counts (length boards) None less in
      record {
        units = units-then (has_target counts) op old mid new armed.units changes (λ without. none (ap is_some (is ∙ sym (numbered_or counts (length boards) None)) ∙ without));
        writes = λ worker. writes worker ∙ armed.writes worker;
        counted = λ one some within.
            elim (eqb_tells one op) [
              | inl same ↦
                  subst (λ n. IsCountedAt (board_at (boards ++ made ∷ []) n) n new) (sym same.1) (subst (λ b. IsCountedAt b op new) (sym (at-last boards made)) here)
              | inr other ↦
                  let apart = other.1 in
                  let inside : one ≤ length boards = omega arith in
                  subst (λ b. IsCountedAt b one new) (sym (at-before boards made one some inside))
                  (other-counted mid new op one (board_at boards one) changes apart (armed.counted one some inside))
            ];
        later = λ worker later.
            let far : length boards < op_of old.flow worker = omega arith in
            changes.others worker (λ same. let own = ap (λ f. op_of f worker) (sym armed.units.flow) ∙ same in absurd (omega arith)) ∙ armed.later worker far;
        targets = map_push (option_map (λ (counter : CounterState). counter.target)) boards made
            ∙ ap (λ ts. ts ++ option_map (λ (counter : CounterState). counter.target) made ∷ []) armed.targets
            ∙ ap (λ t. take (length boards) counts ++ t ∷ []) (target ∙ is)
            ∙ sym first.1
            ∙ ap (λ n. take n counts) (sym long);
      }

  -- all are
  pub all-armed : ArmsAll counts old mid
  all-armed = record { units = armed.units; writes = armed.writes }

  -- which ask for what was asked for
  pub all-targets : length counts ≤ length boards → targets_of boards ≡ counts
  all-targets all = armed.targets ∙ take_all (length boards) counts all

  -- their counts are counted on these boards
  pub all-counted : length boards ≡ length old.flow → AreCounted boards mid
  all-counted all = record {
    all = (let same = ap length armed.units.flow in omega arith);
    each = λ one some within. let same = ap length armed.units.flow in armed.counted one some (omega arith);
  }
