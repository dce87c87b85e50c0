-- The inbox has a batch.
use Rattle.std.proofs.Common.{◌≡◌, ◌<◌, ◌++◌, List, [], ◌∷◌, ◌∙◌, length, true, refl, sym, arith}
use Rattle.std.proofs.lemmas.Bool.{eqb-false}
use Rattle.amber_link.specs.Links.{has_some}
use Rattle.amber_link.proofs.ends.In.look.Goals as goal

some_before : {A : Type 0} (xs ys : List A) → 0 < length xs → true ≡ has_some (xs ++ ys)
some_before [] ys h = absurd (omega arith)
some_before (x ∷ xs) ys h = refl

pub returns-then-not-is_empty-clause-found : goal.returns-then-not-is_empty-clause-found
returns-then-not-is_empty-clause-found c = some_before c.args.self.now.inbox.items _ (omega (arith, eqb-false _ _ (sym c.is_empty.ensures ∙ c.if-not-is_empty.true), c.args.self.now.inbox.ok.0))
