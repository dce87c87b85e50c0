-- Nothing but room was made.
use Rattle.std.proofs.Common.{◌≤◌, ◌∙◌, arith}
use Rattle.amber_link.specs.declared.downstreams.Downstream.{Downstream}
use Rattle.amber_worker.proofs.Roomless.{still-all}
use Rattle.amber_worker_tests.proofs.both_ends.make_room.Goals as goal

pub returns-in_err-reserve_rows-clause-few : goal.returns-in_err-reserve_rows-clause-few
returns-in_err-reserve_rows-clause-few c =
    still-all (λ (one : Downstream). one.link.kept.made ≤ 0) c.args.outs.now c.reserve_rows.new.outs c.reserve_rows.ensures.same (λ k d less. let h = c.requires.none k d less in omega (arith, h))

pub returns-clause-few : goal.returns-clause-few
returns-clause-few c =
    still-all (λ (one : Downstream). one.link.kept.made ≤ 0) c.args.outs.now c.reserve_each.new.outs (c.reserve_each.ensures.same ∙ c.reserve_rows.ensures.same)
    (λ k d less. let h = c.requires.none k d less in omega (arith, h))
