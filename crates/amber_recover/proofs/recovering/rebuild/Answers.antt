-- What the walk along the items says of the log.
use Rattle.std.proofs.Common.{◌≡◌, Err, ap, rules}
use Rattle.amber_home.specs.HomeState.{query_of}
use Rattle.amber_recover.specs.Recovering.{Recorded}
use Rattle.amber_recover.proofs.WholeLogs.{recovers-all, recovers-not}
use Rattle.amber_recover.proofs.recovering.rebuild.Goals as goal

pub returns-in_err-redo_items-clause-recovers : goal.returns-in_err-redo_items-clause-recovers
returns-in_err-redo_items-clause-recovers g c =
    let r : Recorded = record { flow = c.args.flow; files = c.args.files; most = c.args.most; log = c.args.log.now } in
    let error = c.in_err-redo_items.field-0.0 in
    let e : c.from_residual-in_err-redo_items.result ≡ Err error = search rules in
    rw e (recovers-not r c.in_ok-home.home c.get.result.now error (ap query_of c.in_ok-home.ensures.begins) c.get.ensures c.in_ok-home.ensures.header
    c.in_err-redo_items.ensures.judges)

pub returns-clause-recovers : goal.returns-clause-recovers
returns-clause-recovers g c =
    let r : Recorded = record { flow = c.args.flow; files = c.args.files; most = c.args.most; log = c.args.log.now } in
    recovers-all r c.in_ok-home.home c.get.result.now (ap query_of c.in_ok-home.ensures.begins) c.get.ensures c.in_ok-home.ensures.header c.in_ok-redo_items.ensures.judges
