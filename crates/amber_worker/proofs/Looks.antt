-- What a look for batches leaves.
use Rattle.std.proofs.Common.{◌≡◌, ℕ, suc, ◌≤◌, eqb, ◌&&◌, ◌||◌, not, false, arith, All, List, [], ◌∷◌, length, refl, ap, ◌∙◌, subst}
use Rattle.std.proofs.lemmas.List.Elements.{All-cons}
use Rattle.amber_link.specs.Links.{has_some}
use Rattle.amber_link.specs.Sides.{AreLooked, IsLooked, Pairwise, have_all_ended, have_builders_ended}
use Rattle.amber_link.specs.declared.upstreams.Upstream.{Upstream}
use Rattle.amber_link.proofs.Sides.{looked-then, pairwise-then}
use Rattle.amber_worker.specs.AtPosition.{IsLookedAt}
use Rattle.amber_operators.specs.Kept.{Closes}
use Rattle.amber_worker.specs.Steps.{TakesBatch, batch_taken}
use Rattle.amber_worker.specs.WorkerState.{WorkerState}

-- as many batches were taken
pub looked-few : (n : ℕ) (old new : List Upstream) → AreLooked old new → All (λ one. one.taken ≤ n) old → All (λ one. one.taken ≤ n) new
unfolding Pairwise
looked-few n [] [] h few = few
looked-few n [] (y ∷ ys) h few = absurd h
looked-few n (x ∷ xs) [] h few = absurd h
looked-few n (x ∷ xs) (y ∷ ys) h few =
    let same = ap (λ (one : Upstream). one.taken) h.0.only in
    let first = few 0 x (omega arith) in
    All-cons (λ (one : Upstream). one.taken ≤ n) y ys (omega arith) (looked-few n xs ys h.1 (λ k d less. few (suc k) d (omega arith)))

-- and as many of the build side have ended
pub looked-built : (old new : List Upstream) → AreLooked old new → have_builders_ended new ≡ have_builders_ended old
unfolding Pairwise
looked-built [] [] h = refl
looked-built [] (y ∷ ys) h = absurd h
looked-built (x ∷ xs) [] h = absurd h
looked-built (x ∷ xs) (y ∷ ys) h = ap (λ (one : Upstream). (not one.builds || one.ended) && have_builders_ended ys) h.0.only ∙ ap (λ b. (not x.builds || x.ended) && b) (looked-built xs ys h.1)

-- a batch is taken after a look
pub takes-looked : (old between new : WorkerState) → IsLookedAt old between → TakesBatch between new → TakesBatch old new
takes-looked old between new looked takes = record {
  drained = subst (λ (w : WorkerState). has_some w.pending ≡ false) looked.only takes.drained;
  used = subst (λ (w : WorkerState). has_some w.rest ≡ false) looked.only takes.used;
  one = takes.one;
  batch = takes.batch;
  found = takes.found;
  looked = pairwise-then IsLooked looked-then old.ins between.ins takes.found looked.looked takes.looked;
  ready = takes.ready;
  ins = takes.ins;
  taken = takes.taken;
  from_small = takes.from_small;
  number_small = takes.number_small;
  last = takes.last;
  closes = subst (λ (w : WorkerState). Closes w.operator_state (eqb (length takes.batch.rows) 0 && have_all_ended takes.ins) takes.last) looked.only takes.closes;
  after = takes.after ∙ ap (λ (w : WorkerState). batch_taken takes.one takes.batch takes.ins takes.last w) looked.only;
}
