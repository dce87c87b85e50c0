-- The bytes that a read gives are the first of those that were left.
use Rattle.std.proofs.Common.{◌≡◌, ◌<◌, length, take, drop, arith, ap, ◌∙◌, rules}
use Rattle.amber_io.proofs.Taken.{taken}
use Rattle.amber_io.proofs.mem_source.MemSourceSource.read.Goals as goal

pub returns-in-Ok-clause-takes : goal.returns-in-Ok-clause-takes
returns-in-Ok-clause-takes c =
    let some : 0 < c.from.result = omega arith in
    let is : c.in-Ok.bytes.items ≡ take c.from.result (drop c.args.self.now.place c.args.self.now.bytes.items) =
    c.in-Ok.ensures.items ∙ c.first_bytes-next.ensures ∙ ap (take c.from.result) c.left.ensures in
    let got = taken c.from.result c.args.self.now.place c.args.self.now.bytes.items c.in-Ok.bytes.items some is in
    let size : c.len.result ≡ length c.in-Ok.bytes.items = search rules in
    (rw size got.0, got.1)
