-- What is decoded is the text if it is UTF-8 and would be written so.
use Rattle.std.proofs.Common.{◌≡◌, ℕ, List, Some, sym, ◌∙◌, ap}
use Rattle.std.proofs.lemmas.Bool.{false≢true}
use Rattle.std.proofs.lemmas.Bool.Decides.{Decides-eqb}
use Rattle.std.proofs.lemmas.Slice.Eq.{slice_eq-Decides}
use Rattle.amber_journal.proofs.Hexadecimal.{text-broken, text-exact}
use Rattle.amber_journal.proofs.constants.text.Goals as goal

pub returns-in_default : goal.returns-in_default
returns-in_default c =
    text-broken c.args.digits.now c.in-Ok.bytes.items c.in-Ok.ensures.ok (λ whole. absurd (false≢true (c.in_default.ensures.succeeds whole)))

pub returns-then-eq : goal.returns-then-eq
returns-then-eq c =
    let same = (slice_eq-Decides Decides-eqb c.as_bytes-2.result.now c.args.digits.now c.eq.result c.eq.ensures).0 c.if-eq.true in
    let read = ap (λ v. v.items) c.in-Ok-from_utf8.ensures.ok in
    let is : c.in_ok-new.field-0 ≡ c.as_bytes.result.now = c.in_ok-new.ensures ∙ c.as_str-then-eq.ensures.value ∙ sym c.as_str.ensures.value ∙ sym c.as_bytes.ensures.value in
    ap (λ (t : List ℕ). Some t) is
    ∙ text-exact c.args.digits.now c.in-Ok.bytes.items c.as_bytes.result.now c.as_bytes-2.result.now c.in-Ok.ensures.ok
    (c.as_bytes.ensures.value ∙ c.as_str.ensures.value ∙ read) c.as_bytes.ensures.utf8 (c.as_bytes-2.ensures.value ∙ c.in_ok-spelled.ensures) same
