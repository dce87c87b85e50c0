-- One more can be taken out again, where it suits.
use Rattle.std.proofs.Common.{refl, sym, ◌∙◌}
use Rattle.std.proofs.lemmas.Bool.{false≢true}
use Rattle.amber_rows.specs.Suits.{suits_of}
use Rattle.amber_group.proofs.SeveralRows.{back-more, each-one}
use Rattle.amber_group.proofs.state.GroupState.take_suiting.Goals as goal

pub returns-then-not-suits-clause-each : goal.returns-then-not-suits-clause-each
returns-then-not-suits-clause-each c =
    each-one (suits_of c.args.columns.now) c.args.row.now c.args.self.now c.args.self.now (λ aside. refl)
    (λ suiting. absurd (false≢true (sym c.if-not-suits.true ∙ c.suits.ensures ∙ suiting)))

pub returns-clause-each : goal.returns-clause-each
returns-clause-each c =
    each-one (suits_of c.args.columns.now) c.args.row.now c.args.self.now c.take.new.self
    (λ aside. absurd (false≢true (sym aside ∙ sym c.suits.ensures ∙ c.if-not-suits.false))) (λ suiting. c.in_ok-taken.ensures.ok)

pub returns-clause-back : goal.returns-clause-back
returns-clause-back c = λ start all.
    back-more c.args.all.now.items c.push_reserved.new.self.items c.in_ok-taken.taken start c.args.self.now c.take.new.self c.in_ok-taken.ensures.back c.push_reserved.ensures.items all
