-- Turns of one worker, and then its links settled again: all are at work.
use Rattle.std.proofs.Common.{◌≡◌, ◌≢◌, ◌⊎◌, refl, sym, ap, subst, ◌∙◌, ℕ, suc, ◌+◌, ◌<◌, List, [], ◌∷◌, length, get_or, set, nat_eq, Bool, Option, true, if◌then◌else◌, inl, inr, arith, length-set}
use Rattle.std.specs.List.{list_any}
use Rattle.std.proofs.lemmas.Bool.{ne_eqb}
use Rattle.amber_meaning.specs.Legal.{Query}
use Rattle.amber_meaning.specs.Position.{Position}
use Rattle.amber_meaning.specs.State.{State}
use Rattle.amber_board.specs.declared.types.Board.{Board}
use Rattle.amber_worker.specs.Counting.{IsBoardOf, IsSameSeat, mine_in}
use Rattle.amber_worker.specs.Links.{HaveSentNothing}
use Rattle.amber_worker.specs.Turning.{MakesTurns, WritesStep, other_entries}
use Rattle.amber_worker.specs.Steps.{held_at}
use Rattle.amber_worker.specs.Turning.{MakesStep}
use Rattle.amber_worker.specs.WorkerState.{WorkerState, is_armed, steps_made}
use Rattle.amber_worker.proofs.StepFacts.{step-steps, step-writes}
use Rattle.amber_dataflow.specs.AtWork.{AreAtWork, AreJoinedAt, GoesOn, IsCrewUnder, IsJoinedCrew, IsHeldAt, MakesStepAt, MakesTurnsAt, MovesOnly, SendsTo, StayPut, WritesHolds, is_counted, steps_by, worker_state_at}
use Rattle.amber_dataflow.specs.Passing.{AreSameBesides, Come, IsSettledAt, Settled}
use Rattle.amber_dataflow.proofs.Crews.{at-each, here-now, joined-turned, placed, there-still}
use Rattle.amber_dataflow.proofs.Linked.{come-turned}
use Rattle.amber_dataflow.proofs.Numbers.{length-put}
use Rattle.amber_dataflow.proofs.Sending.{sending, sending-out}
use Rattle.amber_dataflow.proofs.Split.{read-at}
use Rattle.amber_dataflow.proofs.Steps.{steps-cons, sum-more}

-- the steps of workers that are the same but for their links
pub steps-besides : (old new : List WorkerState) → length new ≡ length old → AreSameBesides old new → steps_by new ≡ steps_by old
steps-besides [] [] long same = refl
steps-besides [] (w ∷ new) long same = absurd (omega arith)
steps-besides (w ∷ old) [] long same = absurd (omega arith)
steps-besides (w ∷ old) (v ∷ new) long same =
    rw (steps-cons w old, steps-cons v new, ap steps_made (same 0), steps-besides old new (omega (arith, long)) (λ k. same (suc k))) refl

-- turns of a worker in which nothing was sent, and nothing written but steps and holds
pub record TurnsUnsent (most : ℕ) (old new : WorkerState) : Type 0 where
  pub makes : MakesTurns most old new
  pub unsent : HaveSentNothing old.outs new.outs
  pub writes : WritesHolds old.journal new.journal
  pub uncounted : new.turned ≡ old.turned

-- those of a worker, as it was read
pub at-place : (crew : List WorkerState) (number most : ℕ) (now d : WorkerState) → number < length crew → TurnsUnsent most (get_or crew number d) now
    → TurnsUnsent most (worker_state_at crew number) now
at-place crew number most now d inside turns = subst (λ w. TurnsUnsent most w now) (read-at crew number d inside) turns

-- the board of one that is read
pub own-read : (crew : List WorkerState) (number : ℕ) (board : Option Board) (d : WorkerState) → number < length crew
    → IsBoardOf board (worker_state_at crew number).seat → IsBoardOf board (get_or crew number d).seat
own-read crew number board d inside own = subst (λ (w : WorkerState). IsBoardOf board w.seat) (sym (read-at crew number d inside)) own

module _ (crew : List WorkerState) (number : ℕ) (now : WorkerState) (inside : number < length crew) (most : ℕ) (turns : TurnsUnsent most (worker_state_at crew number) now) where
  abbrev makes : MakesTurns most (worker_state_at crew number) now
  makes = turns.makes

  abbrev turned : List WorkerState
  turned = set crew number now

  abbrev armed : Bool
  armed = is_armed (worker_state_at crew number)

  -- wherever they stood, they stand again
  on : (query : Query) (start : State) (positions : ℕ → Position) → AreJoinedAt query start crew positions → is_counted query start number ≡ armed
      → (q : Position) × AreJoinedAt query start turned (placed positions number q)
  on query start positions at under = joined-turned query start crew positions number now at inside armed under makes.keeps makes.ends

  -- they are joined again
  pub joined-then : IsCrewUnder armed number crew → IsJoinedCrew turned
  joined-then work = let next = on work.0 work.1 work.2 work.3.at work.4 in (work.0, work.1, placed work.2 number next.0, next.1)

  -- what was sent has come
  pub come-then : IsCrewUnder armed number crew → (to : ℕ) → list_any (λ one. nat_eq one.to to) (worker_state_at turned number).outs ≡ true → Come turned number to
  come-then work to known =
      let next = on work.0 work.1 work.2 work.3.at work.4 in
      let one = sending-out work.0 work.1 turned (placed work.2 number next.0) next.1 number to (rw length-set inside) known in
      let apart : to ≢ number = λ same. let before = one.before in absurd (omega arith) in
      rw (here-now crew number now inside, there-still crew number now inside to apart)
      (come-turned (worker_state_at crew number) (worker_state_at crew to) now makes.ends turns.unsent (work.3.settled number to one.does))

  -- ---- the links are settled again

  module _ (after : List WorkerState) (settled : IsSettledAt turned after number) where
    -- the worker is as its turns left it, but for its links
    here-after : worker_state_at after number ≡ record now { ins = (worker_state_at after number).ins; outs = (worker_state_at after number).outs }
    here-after = settled.aside number
        ∙ ap (λ (w : WorkerState). record w { ins = (worker_state_at after number).ins; outs = (worker_state_at after number).outs }) (here-now crew number now inside)

    module _ (query : Query) (start : State) (positions : ℕ → Position) (work : AreAtWork query start crew positions) (under : is_counted query start number ≡ armed) where
      abbrev later : ℕ → Position
      later = placed positions number (on query start positions work.at under).0

      abbrev turned-at : AreJoinedAt query start turned later
      turned-at = (on query start positions work.at under).1

      -- the other positions are as they were
      elsewhere : (other : ℕ) → other ≢ number → later other ≡ positions other
      elsewhere other apart = ap (λ b. if b then (on query start positions work.at under).0 else positions other) (ne_eqb other number apart)

      -- all stand where they stood after the turns
      after-at : AreJoinedAt query start after later
      unfolding StayPut
      after-at = settled.put query start later turned-at

      -- the links that are not among this worker's inputs
      settled-out : (from to : ℕ) → to ≢ number → SendsTo query.flow from to → Settled after from to
      settled-out from to not-to does =
          let one = sending query start turned later turned-at from to does in
          at-each (λ from. SendsTo query.flow from to → from < to → Settled after from to) number
          (λ does before. settled.outs to (sending query start turned later turned-at number to does).sends)
          (λ from not-from does before. settled.others from to before one.there
          (rw (there-still crew number now inside from not-from, there-still crew number now inside to not-to) (work.settled from to does)))
          from does one.before

      -- and are at work there
      work-then : AreAtWork query start after later
      work-then = record {
        at = after-at;
        settled = λ from to does. at-each (λ to. SendsTo query.flow from to → Settled after from to) number
            (λ does. settled.ins from (sending query start turned later turned-at from number does).receives)
            (λ to not-to does. settled-out from to not-to does) to does;
      }

    -- one has moved on
    goes-on : GoesOn crew after number
    unfolding GoesOn
    goes-on query start positions work under =
        (later query start positions work under, work-then query start positions work under, elsewhere query start positions work under)

    -- none but this one has done anything
    only-then : MovesOnly crew after number
    only-then other not-this =
        settled.aside other ∙ ap (λ (w : WorkerState). record w { ins = (worker_state_at after other).ins; outs = (worker_state_at after other).outs })
        (there-still crew number now inside other not-this)

    -- its seat is as its turns left it
    pub seat-then : (worker_state_at after number).seat ≡ now.seat
    seat-then = ap (λ (w : WorkerState). w.seat) here-after

    -- the worker has made its turns
    pub turns-then : MakesTurnsAt most crew after number
    turns-then = record {
      on = goes-on;
      only = only-then;
      rows =
          let taken = makes.taken in
          let rows = makes.rows in
          let same = ap (λ (w : WorkerState). w.emitted) here-after in
          omega arith;
      more =
          let grown = makes.emitted in
          let same = ap (λ (w : WorkerState). w.emitted) here-after in
          omega arith;
      writes = (turns.writes.0, ap (λ (w : WorkerState). other_entries w.journal) here-after ∙ turns.writes.1);
      seat = subst (IsSameSeat (worker_state_at crew number).seat) (sym seat-then) makes.seat;
      mine = λ is.
          let counted = makes.mine is in
          let seat = ap mine_in seat-then in
          let rows = ap (λ (w : WorkerState). w.emitted) here-after in
          omega arith;
      reserved = ap (λ (w : WorkerState). w.reserved) here-after ∙ makes.reserved;
      undriven = ap (λ (w : WorkerState). w.turned) here-after ∙ turns.uncounted;
    }

    -- what it has done stands in its journal
    pub journal-then : (worker_state_at after number).journal ≡ now.journal
    journal-then = ap (λ (w : WorkerState). w.journal) here-after

    -- the steps of all rise by its own
    pub steps-then : IsCrewUnder armed number crew → (made : ℕ) → steps_made now ≡ steps_made (worker_state_at crew number) + made → steps_by after ≡ steps_by crew + made
    steps-then work made more =
        steps-besides turned after (length-put turned after (joined-then work) settled.put) settled.aside
        ∙ sum-more crew number made now inside more

    -- a step of it, or that its next row holds it
    pub does-then : IsCrewUnder armed number crew → MakesStep (worker_state_at crew number) now ⊎ (now ≡ held_at (worker_state_at crew number))
        → MakesStepAt crew after number ⊎ IsHeldAt crew after number
    does-then work (inl step) = inl (record {
      one = steps-then work 1 (step-steps (worker_state_at crew number) now step);
      writes = subst (WritesStep (worker_state_at crew number).journal) (sym journal-then) (step-writes (worker_state_at crew number) now step);
    })
    does-then work (inr held) = inr (record {
      none = let same = steps-then work 0 (ap steps_made held ∙ omega arith) in omega arith;
      held = ap (λ (w : WorkerState). w.restraint.held) here-after ∙ ap (λ (w : WorkerState). w.restraint.held) held;
      writes = journal-then ∙ ap (λ (w : WorkerState). w.journal) held;
    })
