-- A failed put wrote the first bytes of its piece, which are a front part of it.
use Rattle.std.proofs.Common.{drop, rules}
use Rattle.amber_io.proofs.Pieces.{front_part}
use Rattle.amber_io.proofs.mem_sink.MemSinkSink.put.Goals as goal

pub returns-clause-leaves : goal.returns-clause-leaves
returns-clause-leaves c = (
  c.first_bytes-part.result.now,
  drop _ c.args.bytes.now,
  front_part _ c.args.bytes.now c.first_bytes-part.result.now c.first_bytes-part.ensures,
  search rules,
)
