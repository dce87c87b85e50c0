-- One of the workers that are away has made turns, and they are still those of the leg.
use Rattle.std.proofs.Common.{◌≡◌, sym, ap, subst, ◌∙◌, ℕ, ◌+◌, ◌<◌, ◌≤◌, List, length, length-set, set, arith}
use Rattle.amber_rows.specs.Topology.{crew_of, op_of}
use Rattle.amber_worker.specs.Counting.{IsBoardOf}
use Rattle.amber_worker.specs.Turning.{MakesTurns}
use Rattle.amber_worker.specs.WorkerState.{WorkerState}
use Rattle.amber_worker.proofs.ManyTurns.{makes-more, makes-same}
use Rattle.amber_dataflow.specs.AtWork.{steps_by, worker_state_at}
use Rattle.amber_dataflow.proofs.Crews.{at-each, here-now, there-still}
use Rattle.amber_dataflow.proofs.Steps.{sum-set}
use Rattle.amber_home.specs.HomeState.{HomeState}
use Rattle.amber_home.specs.Lent.{IsLent, MakeTurns, board_of}
use Rattle.amber_home.specs.declared.crew.Crew.{Crew}
use Rattle.amber_home.proofs.GoneOn.{lent-on, op-is, own-lent}

-- it has made no more steps than turns
pub few-set : (workers : List WorkerState) (number : ℕ) (now : WorkerState) → number < length workers → MakesTurns 40 (worker_state_at workers number) now
    → steps_by (set workers number now) ≤ steps_by workers + 40
few-set workers number now inside made = let sum = sum-set workers number now inside in let steps = made.steps in omega arith

module _ (e : HomeState) (old new : Crew) (lent : IsLent e old) (number : ℕ) (now : WorkerState) (inside : number < length old.workers.items)
    (items : new.workers.items ≡ set old.workers.items number now) (boards : new.boards ≡ old.boards) (chiefs : new.chiefs ≡ old.chiefs)
    (made : MakesTurns 40 (worker_state_at old.workers.items number) now) (own : IsBoardOf (board_of old.boards (op_of e.flow number)) now.seat) where
  all : length new.workers.items ≡ length old.workers.items
  all = ap length items ∙ length-set old.workers.items number now

  each : (worker : ℕ) → MakesTurns 40 (worker_state_at old.workers.items worker) (worker_state_at (set old.workers.items number now) worker)
  each = at-each (λ worker. MakesTurns 40 (worker_state_at old.workers.items worker) (worker_state_at (set old.workers.items number now) worker)) number
      (rw (here-now old.workers.items number now inside) made)
      (λ worker apart. rw (there-still old.workers.items number now inside worker apart) (makes-more 0 40 _ _ (omega arith) (makes-same (worker_state_at old.workers.items worker))))

  seats : (worker : ℕ) → worker < crew_of e.flow → IsBoardOf (board_of old.boards (op_of e.flow worker)) (worker_state_at (set old.workers.items number now) worker).seat
  seats = at-each (λ worker. worker < crew_of e.flow → IsBoardOf (board_of old.boards (op_of e.flow worker)) (worker_state_at (set old.workers.items number now) worker).seat) number
      (λ there. rw (here-now old.workers.items number now inside) own)
      (λ worker apart there. rw (there-still old.workers.items number now inside worker apart) (own-lent e old lent worker there))

  turns : MakeTurns 40 old new
  turns = record {
    all = all;
    boards = boards;
    each = λ worker there. subst (λ (ws : List WorkerState). MakesTurns 40 (worker_state_at old.workers.items worker) (worker_state_at ws worker)) (sym items) (each worker);
    own = λ worker there.
        let known : worker < crew_of e.flow = rw (← lent.workers.at.at_positions.all) there in
        subst (λ (ws : List WorkerState). IsBoardOf (board_of old.boards (worker_state_at old.workers.items worker).op) (worker_state_at ws worker).seat) (sym items)
        (subst (λ op. IsBoardOf (board_of old.boards op) (worker_state_at (set old.workers.items number now) worker).seat) (sym (op-is e old lent worker known)) (seats worker known));
    led = rw chiefs lent.led;
  }

  pub still-lent : steps_by old.workers.items + 40 ≤ e.most → IsLent e new
  still-lent few = lent-on e old new 40 lent turns (let less = subst (λ (ws : List WorkerState). steps_by ws ≤ steps_by old.workers.items + 40) (sym items) (few-set old.workers.items number now inside made) in omega arith)
