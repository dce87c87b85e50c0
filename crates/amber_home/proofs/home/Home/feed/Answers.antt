-- Workers are handed units, and the home stays one.
use Rattle.std.proofs.Common.{refl, sym, ap, subst, ◌∙◌}
use Rattle.amber_home.specs.HomeState.{FeedsLeg, HomeState, counts_in, runs_to_end}
use Rattle.amber_home.specs.Parts.{open_parts, open_turned}
use Rattle.amber_home.proofs.Armings.{stands-leg}
use Rattle.amber_home.proofs.Driven.{home-driven, turned-goes}
use Rattle.amber_home.proofs.FedLeg.{feeds-home, home-fed}
use Rattle.amber_home.proofs.Homes.{leg-armed}
use Rattle.amber_home.proofs.Inside.{kept, opens, seen, there-within}
use Rattle.amber_home.proofs.home.Home.feed.Goals as goal

pub feed_each-requires-clause-workers : goal.feed_each-requires-clause-workers
feed_each-requires-clause-workers c = there-within c.self.inside c.self.invariant c.args.self.now c.self.view_is c.requires.within

pub feed_each-requires-clause-counted : goal.feed_each-requires-clause-counted
feed_each-requires-clause-counted c =
    let i = c.self.inside in
    (leg-armed (seen i) (kept i) i.phase c.self.invariant (opens i c.self.invariant c.args.self.now c.self.view_is c.requires.within)
    (ap (λ (h : HomeState). counts_in h.phase) c.self.view_is ∙ c.requires.armed)).stand

pub feed_each-requires-clause-stand : goal.feed_each-requires-clause-stand
feed_each-requires-clause-stand c =
    let i = c.self.inside in
    let leg = leg-armed (seen i) (kept i) i.phase c.self.invariant (opens i c.self.invariant c.args.self.now c.self.view_is c.requires.within)
    (ap (λ (h : HomeState). counts_in h.phase) c.self.view_is ∙ c.requires.armed) in
    stands-leg (seen i) i.dataflow i.arms (runs_to_end i.phase) leg.leg

pub invariant_of-self-2 : goal.invariant_of-self-2
invariant_of-self-2 c =
    let i = c.self.inside in
    let fed = c.in_ok-feed_each.ensures in
    let later = record (kept i) { dataflow = c.feed_each.new.dataflow; boards = c.feed_each.new.boards } in
    home-driven (open_turned i.phase later)
    (home-fed (seen i) (kept i) i.phase c.self.invariant (opens i c.self.invariant c.args.self.now c.self.view_is c.requires.within)
    (ap (λ (h : HomeState). counts_in h.phase) c.self.view_is ∙ c.requires.armed) refl c.feed_each.new.dataflow c.feed_each.new.boards fed.on fed.far fed.counted)

pub returns-clause-ok : goal.returns-clause-ok
returns-clause-ok c =
    let i = c.self.inside in
    let fed = c.in_ok-feed_each.ensures in
    let later = record (kept i) { dataflow = c.feed_each.new.dataflow; boards = c.feed_each.new.boards } in
    let within = opens i c.self.invariant c.args.self.now c.self.view_is c.requires.within in
    let driven = turned-goes i.phase within (kept i) later fed.on (there-within i c.self.invariant c.args.self.now c.self.view_is c.requires.within) in
    subst (λ (h : HomeState). FeedsLeg h (record (seen i) { flow = c.feed_each.new.dataflow.flow; parts = open_parts i.phase later; turned = open_turned i.phase later })) c.self.view_is
    (subst (λ turned. FeedsLeg (seen i) (record (seen i) { flow = c.feed_each.new.dataflow.flow; parts = open_parts i.phase later; turned = turned })) (sym driven)
    (feeds-home (seen i) (kept i) i.phase c.self.invariant within
    (ap (λ (h : HomeState). counts_in h.phase) c.self.view_is ∙ c.requires.armed) refl c.feed_each.new.dataflow c.feed_each.new.boards fed.on fed.far fed.counted))
