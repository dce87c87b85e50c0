-- Of no byte nothing is left to read.
use Rattle.std.proofs.Common.{refl}
use Rattle.amber_session.proofs.Bytewise.{read-none}
use Rattle.amber_session.proofs.input.Input.new.Goals as goal

pub returns-clause-read : goal.returns-clause-read
returns-clause-read c = read-none _ refl refl
