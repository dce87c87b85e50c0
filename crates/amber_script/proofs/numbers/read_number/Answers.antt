-- What std reads is the number, or there is none.
use Rattle.std.proofs.Common.{◌<◌, ◌^◌, ◌∙◌, arith, rules}
use Rattle.amber_script.proofs.NumberWords.{number-read, number-unread}
use Rattle.amber_script.proofs.numbers.read_number.Goals as goal

pub returns-in-Ok-clause-number : goal.returns-in-Ok-clause-number
returns-in-Ok-clause-number c =
    let small : c.args.most < 2 ^ 64 = omega (arith, c.ranges.most.fits) in
    let fits : c.in-Ok.number < 2 ^ 64 = search rules in
    c.number_where.ensures.number ∙ number-read c.args.most c.in-Ok.number c.args.word.now small fits c.in-Ok.ensures.value.0

pub returns-in-Err-clause-number : goal.returns-in-Err-clause-number
returns-in-Err-clause-number c =
    let small : c.args.most < 2 ^ 64 = omega (arith, c.ranges.most.fits) in
    number-unread c.args.most c.args.word.now small c.in-Err.ensures.value.0
