-- Units that change hands leave all else of the workers as it was.
use Rattle.std.proofs.Common.{◌≡◌, refl, sym, ap, subst, ◌∙◌, ℕ, suc, ◌+◌, ◌<◌, ◌≤◌, List, [], ◌∷◌, length, Bool, false, Option, None, Some, Result, Ok, Err, inl, inr, arith}
use Rattle.std.specs.List.{list_all}
use Rattle.std.specs.Result.{OnOk}
use Rattle.std.proofs.lemmas.Bool.{eq-eqb, false≢true}
use Rattle.std.proofs.lemmas.Bool.Decides.{eqb_tells}
use Rattle.amber_rows.specs.Topology.{crew_of, op_of, workers_of}
use Rattle.amber_rows.specs.declared.flow.Operator.{Operator}
use Rattle.amber_worker.specs.WorkerState.{WorkerState, steps_made}
use Rattle.amber_dataflow.specs.AtWork.{emitted_at, steps_by, worker_state_at}
use Rattle.amber_dataflow.specs.Dataflow.{AreFree, DataflowState, IsFirst, has_finished, have_all_finished, is_held, is_paused, rows_emitted, step_count}
use Rattle.amber_dataflow.proofs.Emitted.{emitted-same}
use Rattle.amber_dataflow.proofs.Steps.{steps-cons}
use Rattle.amber_boards.specs.Boards.{ChangeUnits, CounterState, HasLeft, board_at, has_board, target_of_count}
use Rattle.amber_boards.specs.declared.target.Target.{Target}
use Rattle.amber_home.specs.Asked.{Asked, is_reached}
use Rattle.amber_home.specs.Going.{GoOn, IsFedAt, StepsNext}
use Rattle.amber_home.specs.Leg.{count_at}
use Rattle.amber_home.proofs.Going.{on-refl, units-on}
use Rattle.amber_home.proofs.Ready.{boards-counted}

-- ---- where units changed hands

-- the steps of workers of whom each has made as many
steps-each : (old new : List WorkerState) → length new ≡ length old → ((worker : ℕ) → steps_made (worker_state_at new worker) ≡ steps_made (worker_state_at old worker)) → steps_by new ≡ steps_by old
steps-each [] [] long same = refl
steps-each [] (w ∷ new) long same = absurd (omega arith)
steps-each (w ∷ old) [] long same = absurd (omega arith)
steps-each (w ∷ old) (v ∷ new) long same =
    rw (steps-cons w old, steps-cons v new, same 0, steps-each old new (omega (arith, long)) (λ k. same (suc k))) refl

-- of workers of whom each has finished as before all have
all-each : (old new : List WorkerState) → length new ≡ length old → ((worker : ℕ) → (worker_state_at new worker).finished ≡ (worker_state_at old worker).finished)
    → list_all (λ (w : WorkerState). w.finished) new ≡ list_all (λ (w : WorkerState). w.finished) old
all-each [] [] long same = refl
all-each [] (w ∷ new) long same = absurd (omega arith)
all-each (w ∷ old) [] long same = absurd (omega arith)
all-each (w ∷ old) (v ∷ new) long same = rw (same 0, all-each old new (omega (arith, long)) (λ k. same (suc k))) refl

module _ (counted : ℕ → Bool) (old new : DataflowState) (units : ChangeUnits counted old new) where
  pub units-rows : (op : ℕ) → rows_emitted new op ≡ rows_emitted old op
  unfolding rows_emitted
  units-rows op =
      emitted-same old.workers new.workers (workers_of new.flow op) (λ worker known. ap (λ (w : WorkerState). w.emitted) (units.same worker))
      ∙ ap (λ (f : List Operator). emitted_at old.workers (workers_of f op)) units.flow

  pub units-steps : step_count new ≡ step_count old
  unfolding step_count
  units-steps = steps-each old.workers new.workers units.long (λ worker. ap steps_made (units.same worker))

  pub units-finished : (worker : ℕ) → has_finished new worker ≡ has_finished old worker
  unfolding has_finished
  units-finished worker = ap (λ (w : WorkerState). w.finished) (units.same worker)

  pub units-all : have_all_finished new ≡ have_all_finished old
  unfolding have_all_finished
  units-all = all-each old.workers new.workers units.long (λ worker. ap (λ (w : WorkerState). w.finished) (units.same worker))

  pub units-held : (worker : ℕ) → is_held new worker ≡ is_held old worker
  unfolding is_held
  units-held worker = ap (λ (w : WorkerState). w.restraint.held) (units.same worker)

  pub units-paused : (worker : ℕ) → is_paused new worker ≡ is_paused old worker
  unfolding is_paused
  units-paused worker = ap (λ (w : WorkerState). w.restraint.paused) (units.same worker)

  units-first : (worker : ℕ) → IsFirst old worker → IsFirst new worker
  units-first worker first = record {
    there = subst (λ (f : List Operator). worker < crew_of f) (sym units.flow) first.there;
    first = λ k less. units-finished k ∙ first.first k less;
    unfinished = units-finished worker ∙ first.unfinished;
  }

  units-free : AreFree old → AreFree new
  units-free free = record { loose = λ worker. units-held worker ∙ free.loose worker; running = λ worker. units-paused worker ∙ free.running worker }

-- ---- where a worker was fed

module _ (arms : List Asked) (boards : List (Option CounterState)) (old new : DataflowState) (worker : ℕ) (fed : IsFedAt boards old new worker) where
  pub fed-first : IsFirst old worker → IsFirst new worker
  fed-first first = elim fed [ inl same ↦ subst (λ d. IsFirst d worker) (sym same) first | inr handed ↦ units-first (has_board boards) old new handed.1.units worker first ]

  pub fed-free : AreFree old → AreFree new
  fed-free free = elim fed [ inl same ↦ subst AreFree (sym same) free | inr handed ↦ units-free (has_board boards) old new handed.1.units free ]

  pub fed-steps : step_count new ≡ step_count old
  fed-steps = elim fed [ inl same ↦ ap step_count same | inr handed ↦ units-steps (has_board boards) old new handed.1.units ]

  pub fed-rows : (op : ℕ) → rows_emitted new op ≡ rows_emitted old op
  fed-rows op = elim fed [ inl same ↦ ap (λ d. rows_emitted d op) same | inr handed ↦ units-rows (has_board boards) old new handed.1.units op ]

  pub fed-on : ((op : ℕ) → target_of_count (board_at boards op) ≡ count_at arms op) → GoOn arms old new
  fed-on targets = elim fed [
    | inl same ↦ subst (GoOn arms old) (sym same) (on-refl arms old)
    | inr handed ↦ units-on arms (has_board boards) old new (boards-counted arms boards targets) handed.1.units
  ]

-- a step makes an operator emit one row more at most
pub next-rows : (arms : List Asked) (boards : List (Option CounterState)) (old new : DataflowState) → StepsNext boards old new → (op : ℕ) → rows_emitted new op ≤ rows_emitted old op + 1
next-rows arms boards old new next op =
    let fed = next.fed in
    let turns = next.steps.steps.turns in
    let worker = next.steps.worker in
    let same = fed-rows arms boards old fed worker next.feeds op in
    elim (eqb_tells op (op_of fed.flow worker)) [
      | inl is ↦
          let rows = turns.rows in
          let now = ap (rows_emitted new) is.1 in
          let before = ap (rows_emitted fed) is.1 in
          omega arith
      | inr other ↦ let still = turns.emitted op other.1 in omega arith
    ]

-- ---- a worker that needs a unit

-- a row is left to the target of a count that does not stand
pub has-left : (found : Option CounterState) (count : Option Target) (rows : ℕ) → target_of_count found ≡ count → is_reached count rows ≡ false → HasLeft found rows
has-left None count rows same none = tt
has-left (Some counter) count rows same none = λ is.
    false≢true (sym (ap (λ (c : Option Target). is_reached c rows) same ∙ none) ∙ eq-eqb rows (counter.target.target + counter.target.since) is)

-- two facts of a call that went well, together
pub ok-and : {A E : Type 0} {P Q R : Type 0} (r : Result A E) → (P → Q → R) → OnOk r P → OnOk r Q → OnOk r R
ok-and (Ok x) change p q = change p q
ok-and (Err e) change p q = tt
