-- The test of an entry, and what the state after it is.
use Rattle.std.proofs.Common.{◌≡◌, ℕ, zero, suc, ◌+◌, ◌<◌, List, [], ◌∷◌, length, get_or, Option, Some, None, is_some, true, refl, sym, ap, ◌∙◌, arith}
use Rattle.std.proofs.lemmas.Bool.{and_from, and_parts, eq-eqb, false≢true, ne_eqb}
use Rattle.amber_meaning.specs.Replay.{batch_for}
use Rattle.amber_rows.specs.Lists.{nth, changed_from}
use Rattle.amber_rows.specs.declared.batch.Batch.{Batch}
use Rattle.amber_log.specs.declared.entry.Entry.{Entry}
use Rattle.amber_log.specs.declared.entry.Entry.TheVariants as entry
use Rattle.amber_meaning.specs.Legal.{Query, assignment_in, role_in}
use Rattle.amber_judge.specs.LegalTests.{is_offered}
use Rattle.amber_meaning.specs.Position.{Position, origin}
use Rattle.amber_meaning.specs.Rules.{Moves, Orders, position_after, with_offered, with_batch}
use Rattle.amber_judge.specs.RuleTests.{may_move}
use Rattle.amber_meaning.specs.State.{State, position_at}
use Rattle.amber_judge.proofs.LegalFrom.{moves-from}
use Rattle.amber_judge.proofs.LegalTests.{rule-of}
use Rattle.amber_meaning.proofs.OneState.{position-get_or}
use Rattle.amber_judge.proofs.RuleTests.{may_move-so}
use Rattle.amber_lines.specs.LineLaws.{EntriesAreTested}
use Rattle.amber_lines.specs.Lines.{may_enter, offers_in, position_behind, with_position}
use Rattle.amber_lines.specs.Moving.{TakesOffered, orders_in}

-- ---- the test

-- a batch that is offered is taken
pub takes-from : (offer : ℕ → List Batch) (orders : Orders) (p : Position) (made : Entry) → is_offered offer made ≡ true → TakesOffered offer p made (position_after orders (batch_for offer made) made p)
takes-from offer orders p (entry.Take from number) e = by (nth (offer from) (number + 1)) refl e
  where
    by : (found : Option Batch) → nth (offer from) (number + 1) ≡ found → is_some found ≡ true
        → (batch : Batch) × (nth (offer from) (number + 1) ≡ Some batch) × (with_offered from found p ≡ with_batch from batch p)
    by None is f = absurd (false≢true f)
    by (Some batch) is f = (batch, is, refl)
takes-from offer orders p (entry.Go rows outs) e = tt
takes-from offer orders p (entry.Grant n) e = tt
takes-from offer orders p (entry.Back n) e = tt
takes-from offer orders p entry.Pause e = tt
takes-from offer orders p entry.Resume e = tt
takes-from offer orders p entry.Hold e = tt
takes-from offer orders p entry.Finish e = tt

offered-from : (offer : ℕ → List Batch) (p q : Position) (made : Entry) → TakesOffered offer p made q → is_offered offer made ≡ true
offered-from offer p q (entry.Take from number) h = ap (λ found. is_some found) h.1
offered-from offer p q (entry.Go rows outs) h = refl
offered-from offer p q (entry.Grant n) h = refl
offered-from offer p q (entry.Back n) h = refl
offered-from offer p q entry.Pause h = refl
offered-from offer p q entry.Resume h = refl
offered-from offer p q entry.Hold h = refl
offered-from offer p q entry.Finish h = refl

-- what a worker that may enter does
pub enters : (query : Query) (now : State) (worker : ℕ) (made : Entry) → may_enter query now worker made ≡ true
    → Moves (assignment_in query now worker) (position_at now.positions worker) made (position_behind query now worker made)
    × TakesOffered (offers_in query now worker) (position_at now.positions worker) made (position_behind query now worker made)
unfolding may_enter position_behind
enters query now worker made e =
    let parts = and_parts (may_move (assignment_in query now worker) (position_at now.positions worker) made) _ e in (
      moves-from (role_in query worker) (orders_in query now worker) (offers_in query now worker) (position_at now.positions worker) made parts.0 parts.1,
      takes-from (offers_in query now worker) (orders_in query now worker) (position_at now.positions worker) made parts.1,
    )

pub may-enter : (query : Query) (now : State) (worker : ℕ) (made : Entry) (q : Position)
    → Moves (assignment_in query now worker) (position_at now.positions worker) made q
    → is_offered (offers_in query now worker) made ≡ true → may_enter query now worker made ≡ true
unfolding may_enter
may-enter query now worker made q moves offered =
    and_from _ _ ((may_move-so (role_in query worker) (orders_in query now worker) (position_at now.positions worker) made).1
    (rule-of (role_in query worker) (orders_in query now worker) (position_at now.positions worker) q made moves)) offered

pub entries_are_tested : EntriesAreTested
entries_are_tested query now worker made = (
  λ e. let all = enters query now worker made e in (position_behind query now worker made, all.0, all.1),
  λ h. may-enter query now worker made h.0 h.1 (offered-from (offers_in query now worker) (position_at now.positions worker) h.0 made h.2),
)

-- ---- the state after it

changed-length : (p : Position) (number place : ℕ) (positions : List Position) → length (changed_from (λ old. p) number place positions) ≡ length positions
changed-length p number place [] = refl
changed-length p number place (x ∷ positions) = ap suc (changed-length p number (suc place) positions)

changed-here : (p : Position) (number place worker : ℕ) (positions : List Position) → number ≡ place + worker → worker < length positions
    → get_or (changed_from (λ old. p) number place positions) worker origin ≡ p
changed-here p number place worker [] e less = absurd (omega arith)
changed-here p number place zero (x ∷ positions) e less = rw (eq-eqb place number (omega arith)) refl
changed-here p number place (suc worker) (x ∷ positions) e less = changed-here p number (suc place) worker positions (omega arith) (omega arith)

changed-else : (p : Position) (number place other : ℕ) (positions : List Position) → (number ≡ place + other → ⊥)
    → get_or (changed_from (λ old. p) number place positions) other origin ≡ get_or positions other origin
changed-else p number place other [] h = refl
changed-else p number place zero (x ∷ positions) h = rw (ne_eqb place number (λ e. h (omega arith))) refl
changed-else p number place (suc other) (x ∷ positions) h = changed-else p number (suc place) other positions (λ e. h (omega arith))

-- the worker stands after its entry, the others where they stood
pub placed-here : (worker : ℕ) (p : Position) (state : State) → worker < length state.positions → position_at (with_position worker p state).positions worker ≡ p
placed-here worker p state less =
    position-get_or (with_position worker p state).positions worker ∙ changed-here p (worker + 1) 1 worker state.positions (omega arith) less

pub placed-else : (worker other : ℕ) (p : Position) (state : State) → (other ≡ worker → ⊥) → position_at (with_position worker p state).positions other ≡ position_at state.positions other
placed-else worker other p state apart =
    position-get_or (with_position worker p state).positions other ∙ changed-else p (worker + 1) 1 other state.positions (λ e. apart (omega arith))
    ∙ sym (position-get_or state.positions other)

pub placed-length : (worker : ℕ) (p : Position) (state : State) → length (with_position worker p state).positions ≡ length state.positions
placed-length worker p state = changed-length p (worker + 1) 1 state.positions
