use Rattle.amber_flow.proofs.AggFacts.{strip-behind}
use Rattle.amber_flow.proofs.aggregates.strip.Goals as goal

pub returns : goal.returns
returns c = strip-behind c.args.word.now c.args.text.now c.strip_prefix.result c.strip_prefix.ensures.cases
