-- The ends of a new link stand after the others.
use Rattle.std.proofs.Common.{All, refl, subst, sym}
use Rattle.std.proofs.lemmas.List.Elements.{All-push}
use Rattle.amber_worker.specs.Made.{IsFreshIn, IsFreshOut}
use Rattle.amber_worker_tests.proofs.ends.add_link.Goals as goal

pub returns-clause-outs : goal.returns-clause-outs
returns-clause-outs c =
    let fresh : IsFreshOut c.args.batch c.in_ok-out.out = (c.in_ok-out.ensures.none_sent, rw c.in_ok-out.ensures.out refl) in
    subst (All (IsFreshOut c.args.batch)) (sym c.in_ok-push.ensures.items) (All-push (IsFreshOut c.args.batch) _ c.in_ok-out.out c.requires.outs fresh)

pub returns-clause-ins : goal.returns-clause-ins
returns-clause-ins c =
    let fresh : IsFreshIn c.in_ok-out.into = (c.in_ok-out.ensures.none_came, c.in_ok-out.ensures.none_known) in
    subst (All IsFreshIn) (sym c.in_ok-push-2.ensures.items) (All-push IsFreshIn _ c.in_ok-out.into c.requires.ins fresh)
