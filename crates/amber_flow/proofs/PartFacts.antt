-- The parts that were meant, or why none were read.
use Rattle.std.proofs.Common.{◌≡◌, ℕ, List, false, Result, Ok, Err, IfOk, IsErrAnd, refl}
use Rattle.amber_rows.specs.Columns.{HasInput, IsEarlier}
use Rattle.amber_rows.specs.Kinds.{is_sink, IsKind}
use Rattle.amber_rows.specs.declared.column.Column.{Column}
use Rattle.amber_rows.specs.declared.flow.Operator.{Operator}
use Rattle.amber_flow.specs.Parts.{IsMeant}
use Rattle.amber_flow.specs.PartAnswers.{AnswersPart, RefusesPart}
use Rattle.amber_flow.specs.declared.error.FlowWhy.{FlowWhy}
use Rattle.amber_flow.specs.declared.error.ReadErr.{ReadErr}
use Rattle.amber_flow.specs.declared.error.ReadErr.TheVariants.{Bad, NoMemory}
use Rattle.amber_flow.specs.declared.parts.Parts.{Parts}
use Rattle.amber_flow.proofs.ReadFacts.{handed_on, no_memory, refused}

-- nothing is read
none-read : (before : List Operator) (meant : Result Parts FlowWhy) (r : Result Parts ReadErr) (Q : ReadErr → Type 0) → IsErrAnd r Q → AnswersPart r meant → IsMeant before meant r
none-read before meant (Ok parts) Q failed is = absurd failed
none-read before meant (Err e) Q failed is = record { parts = is; kind = tt; sink = tt }

-- no parts were meant
pub none-meant : {before : List Operator} {why : FlowWhy} → IsMeant before (Err why) (Err (Bad why))
none-meant = record { parts = refl; kind = tt; sink = tt }

pub parts-refused : {before : List Operator} (r : Result Parts ReadErr) (why : FlowWhy) → IsErrAnd r (λ e. e ≡ Bad why) → IsMeant before (Err why) r
parts-refused {before = before} r why failed = none-read before (Err why) r (λ e. e ≡ Bad why) failed (refused r why failed)

pub parts-no_memory : {before : List Operator} {meant : Result Parts FlowWhy} (r : Result Parts ReadErr) → IsErrAnd r (λ e. e ≡ NoMemory) → IsMeant before meant r
parts-no_memory {before = before} {meant = meant} r failed = none-read before meant r (λ e. e ≡ NoMemory) failed (no_memory r meant failed)

pub parts-handed_on : {A : Type 0} {before : List Operator} (r : Result Parts ReadErr) (e : ReadErr) (step : Result A FlowWhy) (meant : Result Parts FlowWhy) → IsErrAnd r (λ y. y ≡ e) → RefusesPart e step
    → ((why : FlowWhy) → Err why ≡ step → Err why ≡ meant) → IsMeant before meant r
parts-handed_on {before = before} r e step meant failed is more = none-read before meant r (λ y. y ≡ e) failed (handed_on r e step meant failed is more)

-- the parts of an operator that reads these columns of an earlier one
pub meant-over : (before : List Operator) (input : ℕ) (columns : List Column) (meant : Result Parts FlowWhy) (read : Result Parts ReadErr) → AnswersPart read meant
    → IfOk read (λ parts. (before : List Operator) → IsEarlier before input → HasInput before input columns → IsKind before parts.what parts.schema) → IfOk read (λ parts. is_sink parts.what ≡ false)
    → IsEarlier before input → HasInput before input columns → IsMeant before meant read
meant-over before input columns meant (Ok parts) is kind sink earlier has = record { parts = is; kind = kind before earlier has; sink = sink }
meant-over before input columns meant (Err failed) is kind sink earlier has = record { parts = is; kind = tt; sink = tt }
