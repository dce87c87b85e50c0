-- Digits are a text exactly where they are its bytes in lower case hexadecimal.
use Rattle.std.proofs.Common.{◌≡◌, ℕ, ◌&&◌, Bool, true, false, List, Some, None, Ok, refl, sym, ap, ◌∙◌}
use Rattle.std.specs.Prelude.{bytes_eq, if◌then◌else◌}
use Rattle.std.specs.Str.{IsUtf8, is_utf8}
use Rattle.std.proofs.lemmas.Slice.Eq.{bytes_eq-Decides}
use Rattle.std.proofs.lemmas.Str.{IsUtf8-from_is_utf8, is_utf8-from_IsUtf8}
use Rattle.hex.specs.Hex.{decode_of, encode_lower}
use Rattle.amber_log.specs.Operands.{hex_text, text_when_exact}

none_from : {A : Type 0} (one other : Bool) (x : A) → (one ≡ true → ⊥) → None ≡ (if one && other then Some x else None)
none_from true other x never = absurd (never refl)
none_from false other x never = refl

some_from : {A : Type 0} (one other : Bool) (x : A) → one ≡ true → other ≡ true → Some x ≡ (if one && other then Some x else None)
some_from one other x e f = rw (e, f) refl

pub text-broken : (digits text : List ℕ) → decode_of digits ≡ Ok text → (IsUtf8 text → ⊥) → None ≡ hex_text digits
unfolding hex_text
text-broken digits text e broken =
    none_from (is_utf8 text) (bytes_eq digits (encode_lower text)) text (λ t. broken (IsUtf8-from_is_utf8 text t))
    ∙ sym (ap (text_when_exact digits) e)

pub text-exact : (digits text read spelled : List ℕ) → decode_of digits ≡ Ok text → read ≡ text → IsUtf8 read → spelled ≡ encode_lower read → spelled ≡ digits
    → Some read ≡ hex_text digits
unfolding hex_text
text-exact digits text read spelled e same whole by given =
    some_from (is_utf8 read) (bytes_eq digits (encode_lower read)) read (is_utf8-from_IsUtf8 read whole) ((bytes_eq-Decides digits (encode_lower read)).1 (sym given ∙ by))
    ∙ sym (ap (text_when_exact digits) (e ∙ ap (λ (t : List ℕ). Ok t) (sym same)))
