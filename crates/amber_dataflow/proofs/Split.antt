-- Two workers that stand in two parts of a list.
use Rattle.std.proofs.Common.{◌≡◌, sym, ap, ◌∙◌, ℕ, ◌-◌, ◌<◌, List, ◌++◌, length, get_or, set, take, drop, add-zero, arith, length-set}
use Rattle.std.proofs.lemmas.List.{get_or-drop, get_or-take, get_or_default, length-take-le, set-append_left, set-append_right, take-append-drop}
use Rattle.amber_worker.specs.AtPosition.{HasSameEnds}
use Rattle.amber_worker.specs.Pairs.{AreSettledAt, PassesOn, StaysAt}
use Rattle.amber_worker.specs.WorkerState.{WorkerState}
use Rattle.amber_dataflow.specs.AtWork.{no_worker_state, worker_state_at}
use Rattle.amber_dataflow.specs.Passing.{PassedOn}

-- a worker that is there, whatever stands for one that is not
pub read-at : (crew : List WorkerState) (worker : ℕ) (d : WorkerState) → worker < length crew → get_or crew worker d ≡ worker_state_at crew worker
read-at crew worker d h = get_or_default crew worker d no_worker_state h

set-split : (xs : List WorkerState) (i n : ℕ) (a b : WorkerState) → i < n → n < length xs → set (take n xs) i a ++ set (drop n xs) 0 b ≡ set (set xs i a) n b
set-split xs i n a b h k =
    let front : length (take n xs) ≡ n = length-take-le n xs (omega (arith, k)) in
    let none : n - n ≡ 0 = omega arith in
    sym (ap (λ zs. set (set zs i a) n b) (sym (take-append-drop n xs))
    ∙ ap (λ zs. set zs n b) (set-append_left (take n xs) (drop n xs) i a (rw front h))
    ∙ set-append_right (set (take n xs) i a) (drop n xs) n n b (length-set (take n xs) i a ∙ front) (omega arith)
    ∙ ap (λ z. set (take n xs) i a ++ set (drop n xs) z b) none)

module _ (crew front back : List WorkerState) (from to : ℕ) (d e : WorkerState) (front-is : front ≡ take to crew) (back-is : back ≡ drop to crew)
    (before : from < to) (there : to < length crew) where
  pub giver : get_or front from d ≡ worker_state_at crew from
  giver = ap (λ xs. get_or xs from d) front-is ∙ get_or-take to crew from d before ∙ read-at crew from d (omega arith)

  pub gets : get_or back 0 e ≡ worker_state_at crew to
  gets = ap (λ xs. get_or xs 0 e) back-is ∙ get_or-drop to crew 0 e ∙ ap (λ n. get_or crew n e) (add-zero to) ∙ read-at crew to e there

  pub passed-split : (a b : WorkerState) → PassesOn (get_or front from d) (get_or back 0 e) a b → AreSettledAt a b → StaysAt (get_or front from d) a → StaysAt (get_or back 0 e) b
      → HasSameEnds (get_or front from d) a → HasSameEnds (get_or back 0 e) b → PassedOn crew from to (set front from a ++ set back 0 b)
  passed-split a b passes settled from-stays to-stays from-ends to-ends = record {
    before = before;
    there = there;
    from_now = a;
    to_now = b;
    is = ap (λ xs. set xs from a ++ set back 0 b) front-is ∙ ap (λ xs. set (take to crew) from a ++ set xs 0 b) back-is ∙ set-split crew from to a b before there;
    passes = rw (← giver, ← gets) passes;
    settled = settled;
    from_stays = rw (← giver) from-stays;
    to_stays = rw (← gets) to-stays;
    from_ends = rw (← giver) from-ends;
    to_ends = rw (← gets) to-ends;
  }
