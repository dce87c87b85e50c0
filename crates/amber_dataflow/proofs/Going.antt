-- Where a call is done, and who has finished.
use Rattle.std.proofs.Common.{◌≡◌, sym, ap, ◌∙◌, ℕ, ◌+◌, ◌<◌, List, length, get_or, true, inl, inr, Result, Ok, Err, OnOk, arith}
use Rattle.std.proofs.lemmas.Bool.Decides.{eqb_tells}
use Rattle.amber_worker.specs.WorkerState.{WorkerState}
use Rattle.amber_dataflow.specs.AtWork.{HaveFinished, worker_state_at}
use Rattle.amber_dataflow.proofs.Split.{read-at}

-- ---- where a call is done, so is what follows from what it promises then

pub on_ok_both : {T E P Q R : Type 0} (result : Result T E) → (P → Q → R) → OnOk result P → OnOk result Q → OnOk result R
on_ok_both (Ok done) both p q = both p q
on_ok_both (Err error) both p q = tt

pub on_ok_all : {T E P Q R S : Type 0} (result : Result T E) → (P → Q → R → S) → OnOk result P → OnOk result Q → OnOk result R → OnOk result S
on_ok_all (Ok done) all p q r = all p q r
on_ok_all (Err error) all p q r = tt

-- ---- who has finished

pub finished-more : (crew : List WorkerState) (worker : ℕ) (d : WorkerState) → worker < length crew → (get_or crew worker d).finished ≡ true
    → HaveFinished worker crew → HaveFinished (worker + 1) crew
finished-more crew worker d inside done first k below =
    elim (eqb_tells k worker) [
      | inl same ↦ ap (λ n. (worker_state_at crew n).finished) same.1 ∙ ap (λ (w : WorkerState). w.finished) (sym (read-at crew worker d inside)) ∙ done
      | inr other ↦ first k (let ne = other.1 in omega arith)
    ]
