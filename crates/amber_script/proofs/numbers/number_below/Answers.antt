-- What std does not read is too large.
use Rattle.std.proofs.Common.{◌<◌, ◌^◌, arith}
use Rattle.amber_script.proofs.WorkerWords.{number_unread}
use Rattle.amber_script.proofs.numbers.number_below.Goals as goal

pub returns-in-Err : goal.returns-in-Err
returns-in-Err c =
    let small : c.args.limit < 2 ^ 32 = omega (arith, c.ranges.limit.fits) in
    number_unread c.args.word.now c.args.limit small c.requires c.in-Err.ensures.value.0
