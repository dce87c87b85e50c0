-- What a worker keeps of itself through a turn: its constant, its seat, the room of its journal, and how often it was driven.
use Rattle.std.proofs.Common.{◌≡◌, ℕ, ◌+◌, ◌||◌, ◌++◌, List, [], ◌∷◌, Option, Some, None, Bool, true, false, if◌then◌else◌, refl, sym, ap, ◌∙◌, subst, inl, inr, arith}
use Rattle.std.specs.Option.{is_some}
use Rattle.std.proofs.lemmas.Bool.{false≢true}
use Rattle.amber_board.specs.declared.types.WorkSeat.{WorkSeat}
use Rattle.amber_board.specs.declared.view.View.{View}
use Rattle.amber_log.specs.declared.entry.Entry.TheVariants as entry
use Rattle.amber_mail.specs.declared.mail.Control.{Control}
use Rattle.amber_mail.specs.declared.mail.Control.TheVariants as control
use Rattle.amber_rows.specs.declared.value.Value.{Value}
use Rattle.amber_worker.specs.Acting.{Acts, DealsAt, dealing_under, paused_at}
use Rattle.amber_worker.specs.AtPosition.{IsLookedAt}
use Rattle.amber_worker.specs.Counting.{Claims, CountsOne, GivesBack, IsSameSeat, mine_in}
use Rattle.amber_operators.specs.States.{Becomes, turned_to, constants_in}
use Rattle.amber_worker.specs.Steps.{held_at}
use Rattle.amber_worker.specs.Turning.{HasTurned, MakesStep, TurnsUnder}
use Rattle.amber_worker.specs.WorkerState.{WorkerState, is_armed, steps_made}
use Rattle.amber_worker.specs.declared.counting.Dealing.{Dealing}
use Rattle.amber_worker.specs.declared.counting.Dealing.TheVariants as dealing
use Rattle.amber_operators.specs.declared.operator_state.OperatorState.{OperatorState}
use Rattle.amber_operators.specs.declared.operator_state.OperatorState.TheVariants as operator_state
use Rattle.amber_worker.specs.declared.turn.Turn.{Turn}
use Rattle.amber_worker.specs.declared.turn.Turn.TheVariants as turn
use Rattle.amber_worker.proofs.Dealt.{is-dealt}

-- ---- seats

pub seat-same : (seat : Option WorkSeat) → IsSameSeat seat seat
seat-same None = refl
seat-same (Some seat) = (seat, refl, refl)

pub seat-armed : (seat now : Option WorkSeat) → IsSameSeat seat now → is_some now ≡ is_some seat
seat-armed None now same = ap (λ (s : Option WorkSeat). is_some s) same
seat-armed (Some seat) now same = ap (λ (s : Option WorkSeat). is_some s) same.1

pub seat-then : (a b c : Option WorkSeat) → IsSameSeat a b → IsSameSeat b c → IsSameSeat a c
seat-then None b c one two = by b one two
  where
    by : (b : Option WorkSeat) → b ≡ None → IsSameSeat b c → c ≡ None
    by None e two = two
    by (Some x) e two = absurd (false≢true (sym (ap (λ (s : Option WorkSeat). is_some s) e)))
seat-then (Some seat) b c one two =
    let second : IsSameSeat (Some one.0) c = subst (λ s. IsSameSeat s c) one.1 two in
    (second.0, second.1, second.2 ∙ one.2)

counts-seat : (seat now : Option WorkSeat) → CountsOne seat now → IsSameSeat seat now
counts-seat None now counts = counts
counts-seat (Some seat) now counts = (counts.0, counts.1, ap (λ (v : View). v.role) counts.2)

claims-seat : (n : ℕ) (seat now : Option WorkSeat) → Claims n seat now → IsSameSeat seat now
claims-seat n None now claims = claims.0
claims-seat n (Some seat) now claims = (claims.0, claims.1, ap (λ (v : View). v.role) claims.2)

gives-seat : (seat now : Option WorkSeat) → GivesBack seat now → IsSameSeat seat now
gives-seat None now gives = gives
gives-seat (Some seat) now gives = (gives.0, gives.1, ap (λ (v : View). v.role) gives.2)

mine-counted : (seat now : Option WorkSeat) → is_some seat ≡ true → CountsOne seat now → mine_in now ≡ mine_in seat + 1
mine-counted None now armed counts = absurd (false≢true armed)
mine-counted (Some seat) now armed counts = ap mine_in counts.1 ∙ ap (λ (v : View). v.mine) counts.2

-- ---- constants

pub becomes-constants : (d now : OperatorState) (builds : Bool) (found : Option (List Value)) → Becomes d builds found now → constants_in now ≡ constants_in d
becomes-constants operator_state.Scan now builds found is = ap constants_in is
becomes-constants (operator_state.Filter cond) now builds found is = ap constants_in is
becomes-constants (operator_state.Project from) now builds found is = ap constants_in is
becomes-constants (operator_state.Join state) now builds found is = ap constants_in is
becomes-constants (operator_state.Group state) now builds found is = ap constants_in is.1
becomes-constants operator_state.Sink now builds found is = ap constants_in is

pub turned-constants : (builds : Bool) (d : OperatorState) → constants_in (turned_to builds d) ≡ constants_in d
turned-constants builds operator_state.Scan = refl
turned-constants builds (operator_state.Filter cond) = refl
turned-constants builds (operator_state.Project from) = refl
turned-constants builds (operator_state.Join state) = refl
turned-constants builds (operator_state.Group state) = refl
turned-constants builds operator_state.Sink = refl

-- ---- what stays

pub record StaysSelf (old new : WorkerState) : Type 0 where
  pub constants : constants_in new.operator_state ≡ constants_in old.operator_state
  pub seat : IsSameSeat old.seat new.seat
  pub mine : is_armed old ≡ true → mine_in new.seat + old.emitted ≡ mine_in old.seat + new.emitted
  pub reserved : new.reserved ≡ old.reserved
  pub turned : new.turned ≡ old.turned

pub self-same : (w : WorkerState) → StaysSelf w w
self-same w = record { constants = refl; seat = seat-same w.seat; mine = λ so. refl; reserved = refl; turned = refl }

pub self-then : (a b c : WorkerState) → StaysSelf a b → StaysSelf b c → StaysSelf a c
self-then a b c one two = record {
  constants = two.constants ∙ one.constants;
  seat = seat-then a.seat b.seat c.seat one.seat two.seat;
  mine = λ so. let first = one.mine so in let second = two.mine (seat-armed a.seat b.seat one.seat ∙ so) in omega (arith, first, second);
  reserved = two.reserved ∙ one.reserved;
  turned = two.turned ∙ one.turned;
}

pub self-looked : (old new : WorkerState) → IsLookedAt old new → StaysSelf old new
self-looked old new looked =
    subst (StaysSelf old) (sym looked.only) (record { constants = refl; seat = seat-same old.seat; mine = λ so. refl; reserved = refl; turned = refl })

step-self : (old new : WorkerState) → MakesStep old new → StaysSelf old new
step-self old new (inl emits) = subst (StaysSelf old) (sym emits.after) (record {
  constants = refl;
  seat = counts-seat old.seat emits.seat emits.counts;
  mine = λ so. let more = mine-counted old.seat emits.seat so emits.counts in omega (arith, more);
  reserved = refl;
  turned = refl;
})
step-self old new (inr (inl takes)) = subst (StaysSelf old) (sym takes.after) (record {
  constants = becomes-constants old.operator_state takes.now old.building _ takes.becomes;
  seat = seat-same old.seat;
  mine = λ so. refl;
  reserved = refl;
  turned = refl;
})
step-self old new (inr (inr (inl takes))) = subst (StaysSelf old) (sym takes.after) (record {
  constants = turned-constants takes.one.builds old.operator_state;
  seat = seat-same old.seat;
  mine = λ so. refl;
  reserved = refl;
  turned = refl;
})
step-self old new (inr (inr (inr ends))) =
    self-then old ends.between new (self-looked old ends.between ends.looked)
    (subst (StaysSelf ends.between) (sym ends.finishes.after) (record { constants = refl; seat = seat-same ends.between.seat; mine = λ so. refl; reserved = refl; turned = refl }))

pub turned-self : (done : Turn) (old new : WorkerState) → HasTurned done old new → StaysSelf old new
turned-self turn.Moved old new step = step-self old new step
turned-self turn.Idle old new idle = self-looked old new idle.looked
turned-self turn.Held old new is = subst (StaysSelf old) (sym is) (by old.restraint.held)
  where
    by : (b : Bool) → StaysSelf old (if b then old else held_at old)
    by true = self-same old
    by false = record { constants = refl; seat = seat-same old.seat; mine = λ so. refl; reserved = refl; turned = refl }
turned-self turn.Starved old new same = subst (StaysSelf old) (sym same) (self-same old)
turned-self turn.Paused old new same = subst (StaysSelf old) (sym same) (self-same old)
turned-self turn.Ended old new same = subst (StaysSelf old) (sym same) (self-same old)

-- ---- what it is told

pub record ActsSelf (old new : WorkerState) : Type 0 where
  pub self : StaysSelf old new
  pub ins : new.ins ≡ old.ins
  pub taken : new.taken ≡ old.taken
  pub emitted : new.emitted ≡ old.emitted
  pub batches : new.batches ≡ old.batches
  pub steps : steps_made new ≡ steps_made old

acts-same : (w : WorkerState) → ActsSelf w w
acts-same w = record { self = self-same w; ins = refl; taken = refl; emitted = refl; batches = refl; steps = refl }

dealt-seat : (how : Dealing) (old new : WorkerState) → DealsAt how old new → IsSameSeat old.seat new.seat
dealt-seat dealing.Nothing old new same = subst (λ (w : WorkerState). IsSameSeat old.seat w.seat) (sym same) (seat-same old.seat)
dealt-seat dealing.Claims old new claims = subst (λ (w : WorkerState). IsSameSeat old.seat w.seat) (sym claims.after) (claims-seat claims.units old.seat claims.seat claims.claims)
dealt-seat dealing.Returns old new gives = subst (λ (w : WorkerState). IsSameSeat old.seat w.seat) (sym gives.after) (gives-seat old.seat gives.seat gives.gives)

dealt-self : (how : Dealing) (old new : WorkerState) → DealsAt how old new → ActsSelf old new
dealt-self how old new deals =
    let is = is-dealt how old new deals in
    let emitted : new.emitted ≡ old.emitted = ap (λ (w : WorkerState). w.emitted) is.only in
    record {
      self = record {
        constants = ap (λ (w : WorkerState). constants_in w.operator_state) is.only;
        seat = dealt-seat how old new deals;
        mine = λ so. omega (arith, is.mine, emitted);
        reserved = ap (λ (w : WorkerState). w.reserved) is.only;
        turned = ap (λ (w : WorkerState). w.turned) is.only;
      };
      ins = ap (λ (w : WorkerState). w.ins) is.only;
      taken = ap (λ (w : WorkerState). w.taken) is.only;
      emitted = emitted;
      batches = ap (λ (w : WorkerState). w.batches) is.only;
      steps = ap steps_made is.only;
    }

paused-self : (w : WorkerState) → ActsSelf w (paused_at w)
paused-self w = by w.finished w.restraint.paused
  where
    by : (a b : Bool) → ActsSelf w (if a || b then w else record w { restraint = record w.restraint { paused = true }; journal = w.journal ++ entry.Pause ∷ [] })
    by true b = acts-same w
    by false true = acts-same w
    by false false = record {
      self = record { constants = refl; seat = seat-same w.seat; mine = λ so. refl; reserved = refl; turned = refl };
      ins = refl;
      taken = refl;
      emitted = refl;
      batches = refl;
      steps = refl;
    }

pub acts-self : (told : Option Control) (old new : WorkerState) → Acts told old new → ActsSelf old new
acts-self None old new same = subst (ActsSelf old) (sym same) (acts-same old)
acts-self (Some control.Pause) old new same = subst (ActsSelf old) (sym same) (paused-self old)
acts-self (Some control.Claim) old new acts = dealt-self (dealing_under (Some control.Claim) old) old new acts
acts-self (Some control.Return) old new acts = dealt-self (dealing_under (Some control.Return) old) old new acts

-- a turn is not counted, whatever it was told
pub turns-uncounted : (told : Option Control) (old new : WorkerState) (done : Turn) → TurnsUnder told old new done → new.turned ≡ old.turned
turns-uncounted told old new done turns =
    (turned-self done turns.between new turns.makes.turned).turned ∙ (acts-self told old turns.between turns.acts).self.turned

-- one that is told to pause has finished or is paused then
pub pauses-stand : (w : WorkerState) → ((paused_at w).finished || (paused_at w).restraint.paused) ≡ true
pauses-stand w = by w.finished w.restraint.paused refl refl
  where
    either_true : (b : Bool) → (b || true) ≡ true
    either_true true = refl
    either_true false = refl

    by : (a b : Bool) → w.finished ≡ a → w.restraint.paused ≡ b
        → ((if a || b then w else record w { restraint = record w.restraint { paused = true }; journal = w.journal ++ entry.Pause ∷ [] }).finished
        || (if a || b then w else record w { restraint = record w.restraint { paused = true }; journal = w.journal ++ entry.Pause ∷ [] }).restraint.paused) ≡ true
    by true b e f = rw e refl
    by false true e f = rw f (either_true w.finished)
    by false false e f = either_true w.finished
