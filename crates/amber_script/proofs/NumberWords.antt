-- A word that is a number.
use Rattle.std.proofs.Common.{◌≡◌, ℕ, ◌^◌, ◌<◌, ◌≤◌, true, false, List, None, Result, Ok, Err, refl, sym, ap, ◌∙◌, arith, inl, inr, bytes_eq, nat_le}
use Rattle.std.specs.Prelude.{◌&&◌}
use Rattle.std.specs.Fmt.{decimal}
use Rattle.std.specs.Str.Parse.{ParsesUnsigned, digits_value}
use Rattle.std.proofs.lemmas.Bool.{and_parts, cases_Bool, false_from_ne_true}
use Rattle.std.proofs.lemmas.Bool.Decides.{nat_tests}
use Rattle.std.proofs.lemmas.Fmt.{decimal_is_IsNumeral, parse-decimal}
use Rattle.std.proofs.lemmas.Slice.Eq.{bytes_eq-Decides}
use Rattle.amber_script.specs.Numbers.{number_up_to, number_where}

is-le : (m n : ℕ) → nat_le m n ≡ true → m ≤ n
is-le m n e = grind (arith, nat_tests)

-- a word is no such number
no-number : (most : ℕ) (word : List ℕ) → most < 2 ^ 64 → ((n : ℕ) → n < 2 ^ 64 → word ≡ decimal n → ⊥) → number_up_to most word ≡ None
unfolding number_up_to
no-number most word small none =
    let v = digits_value 10 word in
    let no : (bytes_eq (decimal v) word && nat_le 1 v && nat_le v most) ≡ false =
    false_from_ne_true (bytes_eq (decimal v) word && nat_le 1 v && nat_le v most) (λ t.
    let parts = and_parts (bytes_eq (decimal v) word && nat_le 1 v) (nat_le v most) t in
    let front = and_parts (bytes_eq (decimal v) word) (nat_le 1 v) parts.0 in
    let few : v ≤ most = is-le v most parts.1 in
    none v (omega arith) (sym ((bytes_eq-Decides (decimal v) word).0 front.0))) in
    rw no refl

canonical : (most number : ℕ) (word : List ℕ) → number < 2 ^ 64 → decimal number ≡ word → number_where most word number ≡ number_up_to most word
unfolding number_up_to
canonical most number word fits e =
    let value : digits_value 10 word ≡ number = ap (digits_value 10) (sym e) ∙ (decimal_is_IsNumeral number (omega arith)).1 in
    rw value refl

-- what std reads, with one error for all
abbrev Parsed : Type 0
Parsed = Result ℕ (Unit {0})

-- a word that std reads as a number
pub number-read : (most number : ℕ) (word : List ℕ) → most < 2 ^ 64 → number < 2 ^ 64 → ParsesUnsigned {E = Unit {0}} 64 10 word (Ok number)
    → number_where most word number ≡ number_up_to most word
number-read most number word small fits h =
    elim (cases_Bool (bytes_eq (decimal number) word)) [
      | inl same ↦ canonical most number word fits ((bytes_eq-Decides (decimal number) word).0 same)
      | inr other ↦ rw other (sym (no-number most word small (λ n fit is.
          let read : ◌≡◌ {A = Parsed} (Ok number) (Ok n) = parse-decimal 64 n word (Ok number) fit (omega arith) is h in
          let equal : number ≡ n = cc in
          let yes : bytes_eq (decimal number) word ≡ true = (bytes_eq-Decides (decimal number) word).1 (ap decimal equal ∙ sym is) in
          cc)))
    ]

-- a word that std reads as none
pub number-unread : (most : ℕ) (word : List ℕ) → most < 2 ^ 64 → ParsesUnsigned {E = Unit {0}} 64 10 word (Err tt) → None ≡ number_up_to most word
number-unread most word small h =
    sym (no-number most word small (λ n fit is.
    let read : ◌≡◌ {A = Parsed} (Err tt) (Ok n) = parse-decimal 64 n word (Err tt) fit (omega arith) is h in
    cc))
