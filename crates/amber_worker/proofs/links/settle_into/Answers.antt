-- The link of the two places is settled.
use Rattle.std.proofs.Common.{◌∙◌, ap}
use Rattle.amber_link.specs.Sides.{without_room}
use Rattle.amber_link.specs.declared.downstreams.Downstream.{Downstream}
use Rattle.amber_link.proofs.Sides.{map-at, map-length}
use Rattle.amber_worker.proofs.links.settle_into.Goals as goal

pub settle_at-requires-clause-linked : goal.settle_at-requires-clause-linked
settle_at-requires-clause-linked c one other =
    c.requires.joined c.in-Some.j c.place_of-k.result one other c.in-Some.ensures.there c.place_of-k.ensures.there (c.in-Some.ensures.own one) (c.place_of-k.ensures.own other)

pub returns-clause-passes : goal.returns-clause-passes
returns-clause-passes c = record {
  j = c.in-Some.j;
  k = c.place_of-k.result;
  j_within = rw map-length c.in-Some.ensures.there;
  k_within = c.place_of-k.ensures.there;
  to_is = λ one. ap (λ (r : Downstream). r.to) (map-at without_room c.args.outs.now c.in-Some.j one one c.in-Some.ensures.there) ∙ c.in-Some.ensures.own one;
  from_is = λ one. c.place_of-k.ensures.own one;
  settles = c.settle_at.ensures.settles;
}
