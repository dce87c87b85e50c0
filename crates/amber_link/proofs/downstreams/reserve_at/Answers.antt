-- Room alone is made.
use Rattle.std.proofs.Common.{◌∙◌, ap, get_or}
use Rattle.amber_link.specs.declared.downstreams.Downstream.{Downstream}
use Rattle.amber_link.proofs.Sides.{get_or-any, reserved-at}
use Rattle.amber_link.proofs.downstreams.reserve_at.Goals as goal

pub returns-clause-same : goal.returns-clause-same
returns-clause-same c =
    let outs = c.args.outs.now in
    let place = c.args.place in
    let one = c.index-outs-place.result in
    let there = λ (d : Downstream). get_or-any outs place one d c.requires.there in
    reserved-at outs place (record { to = (get_or outs place one).to; link = c.reserve.new.self })
    (λ d. ap (λ (r : Downstream). r.to) (there d))
    (λ d. c.reserve.ensures.ring ∙ ap (λ (r : Downstream). r.link.ring) (there d))
    (λ d. c.reserve.ensures.only ∙ ap (λ (r : Downstream). record r.link.kept { room = c.reserve.new.self.kept.room }) (there d))
