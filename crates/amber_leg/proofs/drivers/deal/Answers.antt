-- One worker more is dealt.
use Rattle.std.proofs.Common.{◌≡◌, ◌+◌, ◌-◌, ◌<◌, sym, ap, subst, ◌∙◌, length, length-set, set, take, slice_index, slice_index_or, ℕ, List, Option, Some, vec_len, arith}
use Rattle.std.proofs.lemmas.List.Elements.{All-get_or}
use Rattle.amber_worker.specs.WorkerState.{WorkerState}
use Rattle.amber_dataflow.specs.AtWork.{worker_state_at}
use Rattle.amber_leg.proofs.Dealt.{AreDealtFrom, dealt-more, last-left, left-less}
use Rattle.amber_leg.proofs.drivers.deal.Goals as goal

-- the place of the worker that is dealt
next-of : (crew left : List WorkerState) (number n m : ℕ) (w : WorkerState) → left ≡ take m crew → m ≡ n + 1 → n < length crew → number ≡ n
    → ((d : WorkerState) → 0 < m → Some w ≡ Some (slice_index_or left (m - 1) d)) → (items : List (Option WorkerState)) → set items number (Some w) ≡ set items n (Some (worker_state_at crew n))
next-of crew left number n m w is one inside same found items =
    ap (λ k. set items k (Some w)) same ∙ ap (λ v. set items n (Some v)) (last-left crew left n m w w is one inside (found w (omega (arith, one))))

pub workers-preserved : goal.workers-preserved
workers-preserved c =
    let popped = c.in-Some.ensures in
    let before = c.workers.invariant in
    let n = vec_len c.pop.new.self in
    let one : vec_len c.workers.workers ≡ n + 1 = sym popped.cases in
    let small : n < length c.args.workers.now.items = (let few = before.few in omega (arith, one)) in
    let owner = slice_index c.args.owners.now c.len-number.result in
    let owner-is : owner ≡ slice_index c.args.owners.now n = ap (λ k. slice_index c.args.owners.now k) c.len-number.ensures in
    let all = c.requires.all in
    let there : owner < length c.workers.drivers = rw before.long (All-get_or (λ k. k < length c.args.drivers.now) c.args.owners.now c.len-number.result 0 (omega (arith, c.len-number.ensures, small, all)) c.requires.within) in
    record {
      few = (let few = before.few in omega (arith, one));
      left = left-less c.args.workers.now.items c.workers.workers.items c.pop.new.self.items n (vec_len c.workers.workers) before.left one popped.rest;
      long = length-set c.workers.drivers _ _ ∙ before.long;
      room = (let room = before.room in omega (arith, popped.capacity));
      dealt = dealt-more n c.args.owners.now c.args.workers.now.items c.workers.drivers owner c.index-drivers-owner.result _
          (subst (λ k. AreDealtFrom k c.args.owners.now c.args.workers.now.items c.workers.drivers) one before.dealt) small
          owner-is there (next-of c.args.workers.now.items c.workers.workers.items c.len-number.result n (vec_len c.workers.workers) c.in-Some.worker before.left one small c.len-number.ensures popped.value (slice_index_or c.workers.drivers owner c.index-drivers-owner.result).workers.items);
    }

pub workers-preserved-in-Some : goal.workers-preserved-in-Some
workers-preserved-in-Some c =
    let popped = c.in-Some.ensures in
    let before = c.workers.invariant in
    let n = vec_len c.pop.new.self in
    let one : vec_len c.workers.workers ≡ n + 1 = sym popped.cases in
    let small : n < length c.args.workers.now.items = (let few = before.few in omega (arith, one)) in
    let owner = slice_index c.args.owners.now c.len-number.result in
    let owner-is : owner ≡ slice_index c.args.owners.now n = ap (λ k. slice_index c.args.owners.now k) c.len-number.ensures in
    let all = c.requires.all in
    let there : owner < length c.workers.drivers = rw before.long (All-get_or (λ k. k < length c.args.drivers.now) c.args.owners.now c.len-number.result 0 (omega (arith, c.len-number.ensures, small, all)) c.requires.within) in
    record {
      few = (let few = before.few in omega (arith, one));
      left = left-less c.args.workers.now.items c.workers.workers.items c.pop.new.self.items n (vec_len c.workers.workers) before.left one popped.rest;
      long = length-set c.workers.drivers _ _ ∙ before.long;
      room = (let room = before.room in omega (arith, popped.capacity));
      dealt = dealt-more n c.args.owners.now c.args.workers.now.items c.workers.drivers owner c.index-drivers-owner.result _
          (subst (λ k. AreDealtFrom k c.args.owners.now c.args.workers.now.items c.workers.drivers) one before.dealt) small
          owner-is there (next-of c.args.workers.now.items c.workers.workers.items c.len-number.result n (vec_len c.workers.workers) c.in-Some.worker before.left one small c.len-number.ensures popped.value (slice_index_or c.workers.drivers owner c.index-drivers-owner.result).workers.items);
    }
