-- A number of 64 bits is no larger than one row adds.
use Rattle.std.proofs.Common.{arith}
use Rattle.std.proofs.lemmas.Int.{ints}
use Rattle.amber_group.proofs.running.add_to.Goals as goal

pub returns-clause-within : goal.returns-clause-within
returns-clause-within c = λ rows h. (omega (arith, ints), omega (arith, ints))
