-- It is fed where it suits.
use Rattle.std.proofs.Common.{refl, sym, ◌∙◌}
use Rattle.std.proofs.lemmas.Bool.{false≢true}
use Rattle.amber_rows.specs.Suits.{suits_of}
use Rattle.amber_keys.proofs.Answers.{if_ok}
use Rattle.amber_group.proofs.SeveralRows.{each-one}
use Rattle.amber_group.proofs.state.GroupState.feed_suiting.Goals as goal

pub returns-then-not-suits-clause-each : goal.returns-then-not-suits-clause-each
returns-then-not-suits-clause-each c =
    each-one (suits_of c.args.columns.now) c.args.row.now c.args.self.now c.args.self.now (λ aside. refl)
    (λ suiting. absurd (false≢true (sym c.if-not-suits.true ∙ c.suits.ensures ∙ suiting)))

pub returns-clause-each : goal.returns-clause-each
returns-clause-each c =
    if_ok c.feed.result _ _ c.feed.ensures.ok
    (λ _ fed.
    each-one (suits_of c.args.columns.now) c.args.row.now c.args.self.now c.feed.new.self
    (λ aside. absurd (false≢true (sym aside ∙ sym c.suits.ensures ∙ c.if-not-suits.false))) (λ suiting. fed))
