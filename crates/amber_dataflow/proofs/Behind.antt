-- The state behind an entry, as workers reach it, and its steps.
use Rattle.std.proofs.Common.{◌≡◌, ◌≢◌, refl, sym, ap, subst, ◌∙◌, ℕ, zero, suc, ◌+◌, ◌<◌, List, [], ◌∷◌, ◌++◌, length, get_or, map, replicate, Bool, true, false, if◌then◌else◌, sum_by, arith, length-append, add-one}
use Rattle.std.proofs.lemmas.Bool.{eq-eqb, ne_eqb}
use Rattle.std.proofs.lemmas.List.{length-replicate, map-append}
use Rattle.std.proofs.lemmas.List.Sums.{sum_by-append, sum_by-cons}
use Rattle.amber_rows.specs.Lists.{changed_from, numbers_below}
use Rattle.amber_rows.specs.Topology.{crew_of}
use Rattle.amber_lines.specs.Lines.{may_enter, position_behind, state_behind, with_position}
use Rattle.amber_lines.proofs.Entered.{enters, placed-else, placed-here, placed-length}
use Rattle.amber_log.specs.declared.entry.Entry.{Entry}
use Rattle.amber_log.specs.declared.entry.Entry.TheVariants as entry
use Rattle.amber_meaning.specs.Legal.{Query, assignment_in, role_in}
use Rattle.amber_meaning.specs.Position.{Position, emitted_count, is_emitted, one_if, origin, steps_of}
use Rattle.amber_meaning.specs.Rules.{Moves, Orders, assigned, with_rows}
use Rattle.amber_meaning.specs.State.{State, position_at, steps_in}
use Rattle.amber_meaning.specs.Task.{Role}
use Rattle.amber_meaning.proofs.OneState.{position-get_or}
use Rattle.amber_worker.specs.Redoing as redoing
use Rattle.amber_dataflow.specs.AtWork.{state_reached}
use Rattle.amber_dataflow.proofs.Crews.{at-each, placed, same-place}
use Rattle.amber_dataflow.proofs.Reached.{length-listed, listed-at}
use Rattle.amber_dataflow.proofs.Standing.{listed-whole}

-- ---- positions

mapped-alike : (f g : ℕ → Position) (n : ℕ) → ((k : ℕ) → k < n → f k ≡ g k) → map f (numbers_below n) ≡ map g (numbers_below n)
unfolding numbers_below
mapped-alike f g zero same = refl
mapped-alike f g (suc n) same =
    map-append f (numbers_below n) (n ∷ [])
    ∙ (λ i. mapped-alike f g n (λ k less. same k (omega arith)) i ++ same n (omega arith) i ∷ [])
    ∙ sym (map-append g (numbers_below n) (n ∷ []))

module _ (query : Query) (start : State) (positions : ℕ → Position) (worker : ℕ) (inside : worker < crew_of query.flow) (q : Position) where
  abbrev now : State
  now = state_reached query start positions

  abbrev behind : State
  behind = with_position worker q now

  long-now : length now.positions ≡ crew_of query.flow
  long-now = length-listed positions (crew_of query.flow)

  -- the worker stands elsewhere, and the others where they stood
  pub state-placed : state_reached query start (placed positions worker q) ≡ behind
  state-placed =
      ap (λ ps. record start { positions = ps })
      (mapped-alike (placed positions worker q) (position_at behind.positions) (crew_of query.flow)
      (at-each (λ k. k < crew_of query.flow → placed positions worker q k ≡ position_at behind.positions k) worker
      (λ less. rw (same-place worker) (sym (placed-here worker q now (rw long-now inside))))
      (λ k apart less. rw (ne_eqb k worker apart) (sym (placed-else worker k q now apart ∙ listed-at positions (crew_of query.flow) k less)))))
      ∙ listed-whole query behind (placed-length worker q now ∙ long-now)

-- ---- steps

emitted-more : (outcomes : List Bool) (outs : ℕ) → emitted_count (outcomes ++ replicate outs true) ≡ emitted_count outcomes + outs
emitted-more outcomes outs = sum_by-append (λ outcome. if is_emitted outcome then 1 else 0) outcomes (replicate outs true) ∙ ap (λ n. emitted_count outcomes + n) (all outs)
  where
    all : (n : ℕ) → emitted_count (replicate n true) ≡ n
    all zero = refl
    all (suc n) =
        let first : emitted_count (true ∷ replicate n true) ≡ 1 + emitted_count (replicate n true) = sum_by-cons (λ outcome. if is_emitted outcome then 1 else 0) true (replicate n true) in
        let rest : emitted_count (replicate n true) ≡ n = all n in
        omega (arith, first, rest)

rows-steps : (orders : Orders) (p : Position) (rows outs : ℕ) → steps_of (with_rows orders rows outs p) ≡ steps_of p + (rows + outs)
rows-steps orders p rows outs =
    let taken = length-append p.constants (replicate rows orders.constants) in
    let more = length-replicate rows orders.constants in
    let gone = emitted-more p.outcomes outs in
    omega arith

-- an entry that may come makes its steps
pub moved-steps : (role : Role) (orders : Orders) (p q : Position) (one : Entry) → Moves (assigned role orders) p one q → steps_of q ≡ steps_of p + redoing.entry_steps one
moved-steps role orders p q (entry.Take from number) h =
    let longer = length-append p.taken (record { from = from; batch = h.0 } ∷ []) in
    rw h.2 (omega arith)
moved-steps role orders p q (entry.Go rows outs) h = rw h.2 (rows-steps orders p rows outs)
moved-steps role orders p q (entry.Grant n) h = rw h.2 (omega arith)
moved-steps role orders p q (entry.Back n) h = rw h.2 (omega arith)
moved-steps role orders p q entry.Pause h = rw h.2 (omega arith)
moved-steps role orders p q entry.Resume h = rw h.2 (omega arith)
moved-steps role orders p q entry.Hold h = rw h.2 (omega arith)
moved-steps role orders p q entry.Finish h =
    let none : one_if p.finished ≡ 0 = ap one_if h.1.free.unfinished in
    rw h.2 (omega arith)

changed-past : (p : Position) (number place : ℕ) (positions : List Position) → number < place → changed_from (λ old. p) number place positions ≡ positions
changed-past p number place [] less = refl
changed-past p number place (x ∷ positions) less = rw (ne_eqb place number (λ e. omega arith), changed-past p number (suc place) positions (omega arith)) refl

sum-changed : (p : Position) (number place worker : ℕ) (positions : List Position) → number ≡ place + worker → worker < length positions
    → sum_by steps_of (changed_from (λ old. p) number place positions) + steps_of (get_or positions worker origin) ≡ sum_by steps_of positions + steps_of p
sum-changed p number place worker [] e less = absurd (omega arith)
sum-changed p number place zero (x ∷ positions) e less =
    rw (eq-eqb place number (omega arith), changed-past p number (suc place) positions (omega arith), sum_by-cons steps_of p positions, sum_by-cons steps_of x positions) (omega arith)
sum-changed p number place (suc worker) (x ∷ positions) e less =
    let rest = sum-changed p number (suc place) worker positions (omega arith) (omega arith) in
    rw (ne_eqb place number (λ f. omega arith), sum_by-cons steps_of x (changed_from (λ old. p) number (suc place) positions), sum_by-cons steps_of x positions) (omega arith)

-- behind it there are as many more
pub steps-behind : (query : Query) (now : State) (worker : ℕ) (made : Entry) → worker < length now.positions → may_enter query now worker made ≡ true
    → steps_in (state_behind query now worker made) ≡ steps_in now + redoing.entry_steps made
unfolding steps_in
steps-behind query now worker made inside may =
    let moves = (enters query now worker made may).0 in
    let p = position_at now.positions worker in
    let q = position_behind query now worker made in
    let more = moved-steps (role_in query worker) (assignment_in query now worker).orders p q made moves in
    let sum = sum-changed q (worker + 1) 1 worker now.positions (omega arith) inside in
    let here : steps_of p ≡ steps_of (get_or now.positions worker origin) = ap steps_of (position-get_or now.positions worker) in
    omega arith
