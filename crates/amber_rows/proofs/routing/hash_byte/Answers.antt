-- One step.
use Rattle.std.proofs.Common.{ap, ◌*◌, ◌%◌, ◌^◌}
use Rattle.std.specs.Prelude.{bit_xor}
use Rattle.amber_rows.proofs.routing.hash_byte.Goals as goal

pub returns : goal.returns
returns c = ap (λ n. (bit_xor c.args.hash n * 1099511628211) % 2 ^ 64) c.from.ensures
