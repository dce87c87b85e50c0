-- The log of a home is never refused.
use Rattle.std.proofs.Common.{rules}
use Rattle.amber_recover.specs.Recovering.{Recorded}
use Rattle.amber_recover.proofs.Legal.{home-legal}
use Rattle.amber_recover.proofs.rebuilding.rebuild_worker.Goals as goal

pub unreachable-requires-in-Err-Illegal : goal.unreachable-requires-in-Err-Illegal
unreachable-requires-in-Err-Illegal g c =
    let r : Recorded = record { flow = c.in_ok-flow.flow; files = c.in_ok-files.files; most = c.most.result; log = c.log-log.result.now } in
    home-legal c.args.home.now r c.in-Err-Illegal.field-0-0 (search rules) (search rules) c.most.ensures.most c.log-log.ensures.log (search rules) c.log-log.ensures.legal (search rules)
