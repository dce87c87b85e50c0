-- The bound is that of the rows so far, and the rows are those of the groups.
use Rattle.std.proofs.Common.{◌≡◌, ◌+◌, ◌∙◌, ap, arith, subst}
use Rattle.amber_group.specs.Finished.{finished_rows}
use Rattle.amber_group.specs.Group.{FeedsRow, Group}
use Rattle.amber_group.proofs.Finishing.{rows-groups}
use Rattle.amber_group.proofs.GroupTables.{feeds}
use Rattle.amber_group.proofs.state.GroupState.feed_last.Goals as goal

pub take_last-requires : goal.take_last-requires
take_last-requires c =
    let same : c.self.inside.fed ≡ c.args.self.now.fed = ap (λ (state : Group). state.fed) c.self.view_is in
    (c.self.inside.fed, omega (arith, c.requires), c.self.invariant)

pub invariant_of-self-2 : goal.invariant_of-self-2
invariant_of-self-2 c = c.in_ok-take_last.ensures.ok.within c.self.inside.fed c.self.invariant

pub returns-clause-ok : goal.returns-clause-ok
returns-clause-ok c =
    let state = c.self.inside in
    subst (λ (old : Group). FeedsRow c.args.row.now old (record { keys = state.keys; aggs = state.aggs; fed = state.fed + 1; groups = c.take_last.new.self })) c.self.view_is
    (feeds state.keys state.aggs state.fed state.groups c.take_last.new.self c.in_ok-key.key c.args.row.now c.in_ok-take_last.ensures.ok c.in_ok-key.ensures)

pub returns-clause-groups : goal.returns-clause-groups
returns-clause-groups c = (
  finished_rows c.take_last.new.self,
  c.in_ok-take_last.ensures.rows,
  λ rows stands. ap finished_rows stands.1 ∙ rows-groups c.self.inside.keys c.self.inside.aggs rows,
)
