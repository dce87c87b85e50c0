use Rattle.amber_meaning.proofs.Fronts.{transcripts_grow}
use Rattle.amber_meaning.proofs.laws.transcripts_grow.Goals as goal

pub returns : goal.returns
returns c = transcripts_grow
