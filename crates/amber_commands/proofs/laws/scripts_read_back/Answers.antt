-- The law, as proofs have it.
use Rattle.amber_commands.proofs.ReadBack.{scripts_read_back}
use Rattle.amber_commands.proofs.laws.scripts_read_back.Goals as goal

pub returns : goal.returns
returns c = scripts_read_back
