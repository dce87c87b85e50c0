-- A failed append has put the first bytes of its piece at the file's end.
use Rattle.std.proofs.Common.{drop, rules}
use Rattle.amber_io.proofs.Pieces.{front_part}
use Rattle.amber_io.proofs.Told.{more_told}
use Rattle.amber_io.proofs.mem_folder.MemFolderFolder.append.Goals as goal

pub returns-clause-extends : goal.returns-clause-extends
returns-clause-extends c = (
  c.first_bytes-part.result.now,
  drop _ c.args.bytes.now,
  front_part _ c.args.bytes.now c.first_bytes-part.result.now c.first_bytes-part.ensures,
  more_told _ _ c.args.name.now c.first_bytes-part.result.now (search rules),
)
