-- Rows more at the end of a journal.
use Rattle.std.proofs.Common.{◌≡◌, ℕ, zero, suc, ◌+◌, List, [], ◌∷◌, ◌++◌, length, slice_index_or, slice_set, refl, sym, ap, arith}
use Rattle.amber_log.specs.declared.entry.Entry.{Entry}
use Rattle.amber_log.specs.declared.entry.Entry.TheVariants as entry
use Rattle.amber_worker.specs.Steps.{gone_on, with_go}

pub with_go-none : (rows outs : ℕ) → with_go [] rows outs ≡ entry.Go rows outs ∷ []
unfolding with_go
with_go-none rows outs = refl

-- the last entry changes in its place, and perhaps one comes after it
pub with_go-at : (journal tail : List Entry) (d x : Entry) (n rows outs : ℕ) → n + 1 ≡ length journal
    → gone_on (slice_index_or journal n d) rows outs ≡ x ∷ tail → slice_set journal n x ++ tail ≡ with_go journal rows outs
unfolding with_go
with_go-at [] tail d x n rows outs there e = absurd (omega (arith, there))
with_go-at (one ∷ []) tail d x zero rows outs there e = sym e
with_go-at (one ∷ []) tail d x (suc n) rows outs there e = absurd (omega (arith, there))
with_go-at (one ∷ next ∷ more) tail d x zero rows outs there e = absurd (omega (arith, there))
with_go-at (one ∷ next ∷ more) tail d x (suc n) rows outs there e = ap (λ l. one ∷ l) (with_go-at (next ∷ more) tail d x n rows outs (omega (arith, there)) e)
