-- A refused record sends no row.
use Rattle.std.proofs.Common.{arith}
use Rattle.amber_plain.proofs.Passing.{count_through-none}
use Rattle.amber_plain.proofs.Records.{Fills-none}
use Rattle.amber_plain.proofs.scan.add_record.Goals as goal

pub returns-in_ok-refuse-in-Err-clause-moved : goal.returns-in_ok-refuse-in-Err-clause-moved
returns-in_ok-refuse-in-Err-clause-moved c = rw c.in-Err.is (Fills-none c.args.chain.now)

pub returns-in_ok-refuse-in-Err-clause-left : goal.returns-in_ok-refuse-in-Err-clause-left
returns-in_ok-refuse-in-Err-clause-left c = rw c.in-Err.is (omega (arith, count_through-none c.args.chain.now.stages.items))
