-- The first record is that of the worker's first turn.
use Rattle.std.proofs.Common.{◌∙◌, ◌++◌, ap, sym}
use Rattle.std.specs.Arc.{arc_value}
use Rattle.amber_scan.proofs.Every.{rest_of, share-rest}
use Rattle.amber_scan.proofs.share.Share.new.Goals as goal

pub returns-clause-left : goal.returns-clause-left
returns-clause-left c =
    let rest = rest_of c.args.columns (arc_value c.args.records) c.args.workers c.args.worker in
    ap (λ ahead. ahead ++ rest) c.new.ensures.items ∙ sym (share-rest c.args.workers c.args.worker c.args.columns (arc_value c.args.records) c.requires.one)
