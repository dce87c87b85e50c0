-- The operator shows what its workers show and what is in force there.
use Rattle.amber_home.proofs.Viewed.{inspected}
use Rattle.amber_home.proofs.inspection.inspect.Goals as goal

pub returns : goal.returns
returns c =
    inspected c.args.arms.now c.args.dataflow.now c.args.op c.in_ok-constant_at.field-0 c.pause_at.result c.count_at.result c.in_ok-condition_at.field-0 c.in_ok-views.field-0
    c.in_ok-constant_at.ensures c.pause_at.ensures c.count_at.ensures c.in_ok-condition_at.ensures c.in_ok-views.ensures
