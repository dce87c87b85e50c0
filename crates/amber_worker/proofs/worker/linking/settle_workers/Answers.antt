-- The link of two workers is settled.
use Rattle.std.proofs.Common.{◌≡◌, Result, Ok, Err, Bool, true, refl, subst}
use Rattle.std.specs.Result.{OnOk, is_ok}
use Rattle.amber_worker.specs.WorkerState.{WorkerState}
use Rattle.amber_worker.proofs.PairFacts.{Passed, from-ends, from-stays, offers, offers-all, passes-on, settled-at, to-ends, to-stays}
use Rattle.amber_worker.proofs.worker.linking.settle_workers.Goals as goal

where_ok : {T E : Type 0} (r : Result T E) (P : Type 0) → (is_ok r ≡ true → P) → OnOk r P
where_ok (Ok x) P h = h refl
where_ok (Err x) P h = tt

passed : (c : goal.After-pass_batches) → Passed (is_ok c.pass_batches.result) c.args.from.now c.args.to.now c.pass_batches.new.from c.pass_batches.new.to
passed c = record { passes = c.pass_batches.ensures.passes; from_only = c.pass_batches.ensures.from; to_only = c.pass_batches.ensures.to }

at-end : (b : Bool) (from to from_now to_now : WorkerState) → b ≡ true → Passed b from to from_now to_now → Passed true from to from_now to_now
at-end b from to from_now to_now e h = subst (λ a. Passed a from to from_now to_now) e h

pub returns-clause-passes : goal.returns-clause-passes
returns-clause-passes c = passes-on _ _ _ _ _ (passed c)

pub returns-clause-settled : goal.returns-clause-settled
returns-clause-settled c = where_ok c.pass_batches.result _ (λ e. settled-at _ _ _ _ (at-end _ _ _ _ _ e (passed c)))

pub returns-clause-from_stays : goal.returns-clause-from_stays
returns-clause-from_stays c = from-stays _ _ _ _ _ (passed c)

pub returns-clause-to_stays : goal.returns-clause-to_stays
returns-clause-to_stays c = to-stays _ _ _ _ _ (passed c)

pub returns-clause-from_ends : goal.returns-clause-from_ends
returns-clause-from_ends c = from-ends _ _ _ _ _ (passed c)

pub returns-clause-to_ends : goal.returns-clause-to_ends
returns-clause-to_ends c = to-ends _ _ _ _ _ (passed c)

pub returns-clause-offers : goal.returns-clause-offers
returns-clause-offers c = offers _ _ _ _ _ (passed c)

pub returns-clause-all : goal.returns-clause-all
returns-clause-all c = where_ok c.pass_batches.result _ (λ e. offers-all _ _ (settled-at _ _ _ _ (at-end _ _ _ _ _ e (passed c))))
