-- The row is pushed at the place.
use Rattle.std.proofs.Common.{◌≡◌, ◌∙◌, ap, get_or, subst}
use Rattle.amber_link.specs.Outgoing.{Adds}
use Rattle.amber_link.specs.declared.downstreams.Downstream.{Downstream}
use Rattle.amber_link.proofs.Sides.{get_or-any, hands-on}
use Rattle.amber_link.proofs.downstreams.push_at.Goals as goal

pub returns-clause-hands_on : goal.returns-clause-hands_on
returns-clause-hands_on c =
    let outs = c.args.outs.now in
    let one = c.index-outs-place.result in
    let now : Downstream = record { to = (get_or outs c.args.place one).to; link = c.push_reserved.new.self } in
    let there : get_or outs c.args.place one ≡ get_or outs c.args.place now = get_or-any outs c.args.place one now c.requires.there in
    hands-on outs c.args.place now c.args.row c.requires.there (ap (λ (r : Downstream). r.to) there)
    (c.push_reserved.ensures.ring ∙ ap (λ (r : Downstream). r.link.ring) there)
    (subst (λ (r : Downstream). Adds r.link.kept c.args.row c.push_reserved.new.self.kept) there c.push_reserved.ensures.adds)
