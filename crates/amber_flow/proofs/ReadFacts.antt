-- What is answered where a step of a reader fails.
use Rattle.std.proofs.Common.{◌≡◌, Option, Some, None, ok_or, option_and_then, Result, Ok, Err, IsErrAnd, refl, sym, ap, subst}
use Rattle.amber_flow.specs.PartAnswers.{AnswersPart, RefusesPart}
use Rattle.amber_flow.specs.declared.error.FlowWhy.{FlowWhy}
use Rattle.amber_flow.specs.declared.error.ReadErr.{ReadErr}
use Rattle.amber_flow.specs.declared.error.ReadErr.TheVariants.{Bad, NoMemory}

pub ok_or-some : {A E : Type 0} (o : Option A) (x : A) (e : E) → Ok x ≡ ok_or o e → o ≡ Some x
ok_or-some None x e is = absurd (cc)
ok_or-some (Some y) x e is = cc

pub ok_or-none_at : {A E : Type 0} (o : Option A) (e why : E) → Err why ≡ ok_or o e → (o ≡ None) × (why ≡ e)
ok_or-none_at None e why is = (refl, cc)
ok_or-none_at (Some x) e why is = absurd (cc)

-- where there is nothing, nothing comes of it
pub ok_or-then : {A B E : Type 0} (f : A → Option B) (o : Option A) (e why : E) → Err why ≡ ok_or o e → Err why ≡ ok_or (option_and_then f o) e
ok_or-then f None e why is =
    let same : why ≡ e = cc in
    ap Err same
ok_or-then f (Some x) e why is = absurd (cc)

-- the reason where there is nothing
pub ok_or-none : {A B E : Type 0} (o : Option A) (other : Option B) (e why : E) → o ≡ None → Err why ≡ ok_or o e → None ≡ other → Err why ≡ ok_or other e
ok_or-none o other e why none is nothing =
    let here = rw none at is in
    let same : why ≡ e = cc in
    rw (← nothing) (ap Err same)

pub no_memory : {A : Type 0} (r : Result A ReadErr) (meant : Result A FlowWhy) → IsErrAnd r (λ e. e ≡ NoMemory) → AnswersPart r meant
no_memory (Ok x) meant failed = absurd failed
no_memory {A = A} (Err e) meant failed = subst (λ (e : ReadErr). RefusesPart {A = A} e meant) (sym failed) tt

pub refused : {A : Type 0} (r : Result A ReadErr) (why : FlowWhy) → IsErrAnd r (λ e. e ≡ Bad why) → AnswersPart r (Err why)
refused (Ok x) why failed = absurd failed
refused {A = A} (Err e) why failed = subst (λ (e : ReadErr). RefusesPart {A = A} e (Err why)) (sym failed) refl

RefusesPart-more : {A B : Type 0} (e : ReadErr) (step : Result A FlowWhy) (meant : Result B FlowWhy) → RefusesPart e step → ((why : FlowWhy) → Err why ≡ step → Err why ≡ meant) → RefusesPart e meant
RefusesPart-more (Bad why) step meant is more = more why is
RefusesPart-more NoMemory step meant is more = tt

-- a step's failure is handed on
pub handed_on : {A B : Type 0} (r : Result B ReadErr) (e : ReadErr) (step : Result A FlowWhy) (meant : Result B FlowWhy) → IsErrAnd r (λ y. y ≡ e) → RefusesPart e step → ((why : FlowWhy) → Err why ≡ step → Err why ≡ meant) → AnswersPart r meant
handed_on (Ok x) e step meant failed is more = absurd failed
handed_on {B = B} (Err y) e step meant failed is more = subst (λ (e : ReadErr). RefusesPart {A = B} e meant) (sym failed) (RefusesPart-more e step meant is more)
