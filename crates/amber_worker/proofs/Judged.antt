-- How a line of a log is judged, by its numbers and by the rows that may hold a worker.
use Rattle.std.proofs.Common.{◌≡◌, ℕ, zero, suc, ◌+◌, List, [], ◌++◌, length, take, Option, Bool, true, false, refl, sym, ap, ◌∙◌, subst}
use Rattle.std.specs.Prelude.{MatchBool, ◌&&◌}
use Rattle.std.proofs.lemmas.Bool.{false≢true}
use Rattle.std.proofs.lemmas.List.{append-nil}
use Rattle.amber_rows.specs.declared.value.Value.{Value}
use Rattle.amber_rows.specs.declared.cond.Cond.{Cond}
use Rattle.amber_meaning.specs.Rules.{pass_by}
use Rattle.amber_operators.specs.ManyRows.{lets_by}
use Rattle.amber_worker.specs.RedoneRows.{Fits, MayGoOn, Offer}
use Rattle.amber_operators.specs.declared.letting_by.Gate.{Gate}
use Rattle.amber_worker.specs.declared.redone_rows.RowsLine.{RowsLine}

take-none : (n : ℕ) → take {A = List Value} n [] ≡ []
take-none zero = refl
take-none (suc n) = refl

-- no row holds the worker where there is none
pub lets-nothing : (when : Option Cond) (gate : Gate) → lets_by when gate [] ≡ true
lets-nothing when gate = ap (pass_by when gate.waved) (take-none gate.left)

both-true : (b : Bool) → (b && true) ≡ b
both-true true = refl
both-true false = refl

-- the pending rows were looked at, and then those that come of what is taken
pub looked-all : (when : Option Cond) (start mid last : Gate) (pending made : List (List Value)) (first second : Bool) → first ≡ true
    → ((later : List (List Value)) → (first && lets_by when mid later) ≡ lets_by when start (pending ++ later))
    → ((later : List (List Value)) → (second && lets_by when last later) ≡ lets_by when mid (made ++ later)) → second ≡ lets_by when start (pending ++ made)
looked-all when start mid last pending made first second passed one two =
    sym (both-true second)
    ∙ ap (λ b. second && b) (sym (lets-nothing when last))
    ∙ two []
    ∙ ap (lets_by when mid) (append-nil made)
    ∙ ap (λ b. b && lets_by when mid made) (sym passed)
    ∙ one made

pub same-fits : (line : RowsLine) (left left2 gone gone2 all all2 : ℕ) → left ≡ left2 → gone ≡ gone2 → all ≡ all2 → Fits line left gone all → Fits line left2 gone2 all2
same-fits line left left2 gone gone2 all all2 l g a fits =
    let P : ℕ → Type 0 = λ n. Fits line n gone all in
    let Q : ℕ → Type 0 = λ n. Fits line left2 n all in
    let R : ℕ → Type 0 = λ n. Fits line left2 gone2 n in
    subst R a (subst Q g (subst P l fits))

-- the numbers fit, and so it is seen whether a row holds the worker
pub judged : (line : RowsLine) (offer : Offer) (lets : Bool) → Fits line offer.left (length offer.pending + offer.before) (length offer.pending + length offer.made)
    → lets ≡ pass_by offer.when offer.waved (take line.outs (offer.pending ++ offer.made)) → MatchBool lets (MayGoOn line offer) (MayGoOn line offer → ⊥)
judged line offer true fits so = record { fits = fits; no_stop = sym so }
judged line offer false fits so = λ may. absurd (false≢true (so ∙ may.no_stop))
