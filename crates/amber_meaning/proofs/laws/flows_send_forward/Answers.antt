use Rattle.amber_meaning.proofs.Senders.{flows_send_forward}
use Rattle.amber_meaning.proofs.laws.flows_send_forward.Goals as goal

pub returns : goal.returns
returns c = flows_send_forward
