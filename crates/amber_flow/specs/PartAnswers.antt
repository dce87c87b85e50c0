-- What the readers of parts answer.
use Rattle.std.specs.Prelude.{◌≡◌, Result, Ok, Err, ⊤}
use Rattle.amber_flow.specs.declared.error.FlowWhy.{FlowWhy}
use Rattle.amber_flow.specs.declared.error.ReadErr.{ReadErr}
use Rattle.amber_flow.specs.declared.error.ReadErr.TheVariants.{Bad, NoMemory}

-- the reason why nothing was meant; or nothing, where memory ran out
abbrev pub RefusesPart : {A : Type 0} → ReadErr → Result A FlowWhy → Type 0
RefusesPart (Bad why) meant = Err why ≡ meant
RefusesPart NoMemory meant = ⊤

-- what was meant, where `view` is what contracts see of it; or why it was not read
abbrev pub AnswersPartSeen : {A B : Type 0} → (A → B) → Result A ReadErr → Result B FlowWhy → Type 0
AnswersPartSeen view (Ok read) meant = Ok (view read) ≡ meant
AnswersPartSeen view (Err failure) meant = RefusesPart failure meant

-- what was meant, or why it was not read
abbrev pub AnswersPart : {A : Type 0} → Result A ReadErr → Result A FlowWhy → Type 0
AnswersPart (Ok read) meant = Ok read ≡ meant
AnswersPart (Err failure) meant = RefusesPart failure meant
