-- The bound is that of the rows so far.
use Rattle.std.proofs.Common.{◌≡◌, ◌+◌, ap, arith, subst}
use Rattle.amber_group.specs.Group.{FeedsRow, Group}
use Rattle.amber_group.proofs.GroupTables.{feeds}
use Rattle.amber_group.proofs.state.GroupState.feed.Goals as goal

pub take_in-requires : goal.take_in-requires
take_in-requires c =
    let same : c.self.inside.fed ≡ c.args.self.now.fed = ap (λ (state : Group). state.fed) c.self.view_is in
    (c.self.inside.fed, omega (arith, c.requires), c.self.invariant)

pub invariant_of-self-2 : goal.invariant_of-self-2
invariant_of-self-2 c = c.in_ok-take_in.ensures.ok.within c.self.inside.fed c.self.invariant

pub returns : goal.returns
returns c =
    let state = c.self.inside in
    record {
      ok = subst (λ (old : Group). FeedsRow c.args.row.now old (record { keys = state.keys; aggs = state.aggs; fed = state.fed + 1; groups = c.take_in.new.self })) c.self.view_is
          (feeds state.keys state.aggs state.fed state.groups c.take_in.new.self c.in_ok-key.key c.args.row.now c.in_ok-take_in.ensures.ok c.in_ok-key.ensures);
      same_on_err = tt;
    }
