-- What the readers of each kind but the sink give.
use Rattle.std.specs.Prelude.{◌≡◌, false, IfOk, List, Result}
use Rattle.amber_rows.specs.Kinds.{is_sink, IsKind}
use Rattle.amber_rows.specs.declared.flow.Operator.{Operator}
use Rattle.amber_flow.specs.PartAnswers.{AnswersPart}
use Rattle.amber_flow.specs.declared.error.FlowWhy.{FlowWhy}
use Rattle.amber_flow.specs.declared.error.ReadErr.{ReadErr}
use Rattle.amber_flow.specs.declared.parts.Parts.{Parts}

-- the parts that were meant, or the reason why there are none: they fit the operators before, and are no sink's
pub record IsMeant (before : List Operator) (meant : Result Parts FlowWhy) (read : Result Parts ReadErr) : Type 0 where
  pub parts : AnswersPart read meant
  pub kind : IfOk read (λ parts. IsKind before parts.what parts.schema)
  pub sink : IfOk read (λ parts. is_sink parts.what ≡ false)
