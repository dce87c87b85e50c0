-- Words that read as numbers, constants and conditions are the words of these.
use Rattle.std.proofs.Common.{◌≡◌, ◌==◌, ℕ, zero, suc, ◌+◌, ◌^◌, ◌<◌, ◌&&◌, Bool, true, ℤ, pos, List, [], ◌∷◌, Option, Some, None, Result, Ok, Err, refl, arith, option_map}
use Rattle.std.specs.Prelude.{IfSome, bytes_eq, codes, decimal, nat_lt, option_and_then, if◌then◌else◌}
use Rattle.std.specs.Fmt.{signed_decimal}
use Rattle.std.specs.Str.{all_ascii_digits, is_utf8}
use Rattle.std.specs.Str.Parse.{digits_value}
use Rattle.std.proofs.lemmas.Bool.{and_parts, cond_both, eqb-true, lt-ltb, ltb-true}
use Rattle.std.proofs.lemmas.Slice.Eq.{bytes_eq-Decides}
use Rattle.hex.specs.Hex.{decode_of, encode_lower}
use Rattle.hex.specs.declared.error.FromHexError.{FromHexError}
use Rattle.amber_rows.specs.Number.{fits_i64}
use Rattle.amber_rows.specs.declared.cond.Cmp.{Cmp}
use Rattle.amber_rows.specs.declared.cond.Cond.{Cond}
use Rattle.amber_rows.specs.declared.value.Value.{Value}
use Rattle.amber_rows.specs.declared.value.Value.TheVariants as value
use Rattle.amber_log.specs.Effect.{Argument, Condition, Constant, Nothing, Rows, Worker}
use Rattle.amber_log.specs.Grammar.{IsArgument, IsConstant}
use Rattle.amber_log.specs.Operands.{above_zero, comparison_of, condition_in, condition_of, value_in, constant_of, hex_text, minus, nothing_in, number, one_word, row_count_in, signed_number, text_when_exact, worker_in}
use Rattle.amber_log.specs.Words.{argument_words, constant_word, sign_of}

-- ---- what a step finds

pub mapped : {A B : Type 0} (o : Option A) (P : A → Type 0) (f : A → B) (Q : B → Type 0) → IfSome o P → ((x : A) → P x → Q (f x)) → IfSome (option_map f o) Q
mapped None P f Q h each = tt
mapped (Some x) P f Q h each = each x h

pub chained : {A B : Type 0} (o : Option A) (P : A → Type 0) (f : A → Option B) (Q : B → Type 0) → IfSome o P → ((x : A) → P x → IfSome (f x) Q) → IfSome (option_and_then f o) Q
chained None P f Q h each = tt
chained (Some x) P f Q h each = each x h

-- what was found has a property that follows
pub loosened : {A : Type 0} (o : Option A) (P Q : A → Type 0) → IfSome o P → ((x : A) → P x → Q x) → IfSome o Q
loosened None P Q h each = tt
loosened (Some x) P Q h each = each x h

-- a test whether a word is this text
pub word : {A : Type 0} (Q : A → Type 0) (bytes text : List ℕ) (x y : Option A) → (bytes ≡ text → IfSome x Q) → IfSome y Q
    → IfSome (if bytes_eq bytes text then x else y) Q
word Q bytes text x y found rest = cond_both (bytes_eq bytes text) x y (λ o. IfSome o Q) (λ e. found ((bytes_eq-Decides bytes text).0 e)) (λ e. rest)

-- ---- numbers and constants

abbrev pub IsNumber : ℕ → List ℕ → ℕ → Type 0
IsNumber limit digits n = (digits ≡ decimal n) × (n < limit)

pub number-found : (limit : ℕ) (digits : List ℕ) → IfSome (number limit digits) (IsNumber limit digits)
unfolding number
number-found limit digits =
    let n = digits_value 10 digits in
    let all : Bool = all_ascii_digits digits in
    cond_both (all && (nat_lt n limit && bytes_eq digits (decimal n))) (Some n) None (λ o. IfSome o (IsNumber limit digits))
    (λ e. let parts = and_parts all (nat_lt n limit && bytes_eq digits (decimal n)) e in
    let later = and_parts (nat_lt n limit) (bytes_eq digits (decimal n)) parts.1 in
    ((bytes_eq-Decides digits (decimal n)).0 later.1, ltb-true n limit later.0))
    (λ e. tt)

pub above_zero-found : (P : ℕ → Type 0) (n : ℕ) → P n → IfSome (above_zero n) (λ m. P m × (0 < m))
above_zero-found P zero h = tt
above_zero-found P (suc n) h = (h, omega arith)

-- a number of at least 1
pub positive-found : (limit : ℕ) (digits : List ℕ) → IfSome (option_and_then above_zero (number limit digits)) (λ n. IsNumber limit digits n × (0 < n))
positive-found limit digits =
    chained (number limit digits) (IsNumber limit digits) above_zero (λ n. IsNumber limit digits n × (0 < n)) (number-found limit digits)
    (λ n h. above_zero-found (IsNumber limit digits) n h)

abbrev pub IsSigned : List ℕ → ℤ → Type 0
IsSigned bytes n = (bytes ≡ signed_decimal n) × (fits_i64 n ≡ true)

pub minus-found : (byte n : ℕ) (bytes : List ℕ) → byte ≡ 45 → IsNumber (2 ^ 63 + 1) bytes n → IfSome (minus n) (IsSigned (byte ∷ bytes))
minus-found byte zero bytes e h = tt
minus-found byte (suc n) bytes e h = (cc (e, h.0), lt-ltb n (2 ^ 63) (omega (arith, h.1)))

pub signed_number-found : (bytes : List ℕ) → IfSome (signed_number bytes) (IsSigned bytes)
unfolding signed_number
signed_number-found [] = tt
signed_number-found (byte ∷ bytes) =
    cond_both (byte == 45) (option_and_then minus (number (2 ^ 63 + 1) bytes)) (option_map pos (number (2 ^ 63) (byte ∷ bytes))) (λ o. IfSome o (IsSigned (byte ∷ bytes)))
    (λ e. chained (number (2 ^ 63 + 1) bytes) (IsNumber (2 ^ 63 + 1) bytes) minus (IsSigned (byte ∷ bytes)) (number-found (2 ^ 63 + 1) bytes) (λ n h. minus-found byte n bytes (eqb-true byte 45 e) h))
    (λ e. mapped (number (2 ^ 63) (byte ∷ bytes)) (IsNumber (2 ^ 63) (byte ∷ bytes)) pos (IsSigned (byte ∷ bytes)) (number-found (2 ^ 63) (byte ∷ bytes)) (λ n h. (h.0, lt-ltb n (2 ^ 63) h.1)))

abbrev pub IsHex : List ℕ → List ℕ → Type 0
IsHex digits text = (digits ≡ encode_lower text) × (is_utf8 text ≡ true)

pub text_when_exact-found : (digits : List ℕ) (decoded : Result (List ℕ) FromHexError) → decode_of digits ≡ decoded → IfSome (text_when_exact digits decoded) (IsHex digits)
text_when_exact-found digits (Err error) e = tt
text_when_exact-found digits (Ok text) e =
    cond_both (is_utf8 text && bytes_eq digits (encode_lower text)) (Some text) None (λ o. IfSome o (IsHex digits))
    (λ t. let parts = and_parts (is_utf8 text) (bytes_eq digits (encode_lower text)) t in
    ((bytes_eq-Decides digits (encode_lower text)).0 parts.1, parts.0))
    (λ t. tt)

pub hex_text-found : (digits : List ℕ) → IfSome (hex_text digits) (IsHex digits)
unfolding hex_text
hex_text-found digits = text_when_exact-found digits (decode_of digits) refl

abbrev pub IsConstantWord : List ℕ → Value → Type 0
IsConstantWord bytes constant = (bytes ≡ constant_word constant) × IsConstant constant

pub constant_of-found : (bytes : List ℕ) → IfSome (constant_of bytes) (IsConstantWord bytes)
unfolding constant_of
constant_of-found [] = tt
constant_of-found (byte ∷ bytes) =
    cond_both (byte == 105) (option_map (λ n. value.Int n) (signed_number bytes)) _ (λ o. IfSome o (IsConstantWord (byte ∷ bytes)))
    (λ e. mapped (signed_number bytes) (IsSigned bytes) (λ n. value.Int n) (IsConstantWord (byte ∷ bytes)) (signed_number-found bytes) (λ n h. (cc (eqb-true byte 105 e, h.0), h.1)))
    (λ e. cond_both (byte == 116) (option_map (λ text. value.Text text) (hex_text bytes)) None (λ o. IfSome o (IsConstantWord (byte ∷ bytes)))
    (λ t. mapped (hex_text bytes) (IsHex bytes) (λ text. value.Text text) (IsConstantWord (byte ∷ bytes)) (hex_text-found bytes) (λ text h. (cc (eqb-true byte 116 t, h.0), h.1)))
    (λ t. tt))

pub comparison_of-found : (bytes : List ℕ) → IfSome (comparison_of bytes) (λ sign. bytes ≡ sign_of sign)
unfolding comparison_of
comparison_of-found bytes =
    word Q bytes (codes "=") _ _ (λ e. e)
    (word Q bytes (codes "!=") _ _ (λ e. e)
    (word Q bytes (codes "<") _ _ (λ e. e)
    (word Q bytes (codes "<=") _ _ (λ e. e)
    (word Q bytes (codes ">") _ _ (λ e. e)
    (word Q bytes (codes ">=") _ _ (λ e. e) tt)))))
  where
    Q : Cmp → Type 0
    Q sign = bytes ≡ sign_of sign

-- ---- conditions, and what a command says

abbrev pub IsCondition : List ℕ → List ℕ → List ℕ → Cond → Type 0
IsCondition column sign constant test =
    (column ≡ decimal test.column) × (sign ≡ sign_of test.op) × (constant ≡ constant_word test.constant) × ((test.column < 2 ^ 32) × IsConstant test.constant)

pub condition_of-found : (column sign constant : List ℕ) → IfSome (condition_of column sign constant) (IsCondition column sign constant)
condition_of-found column sign constant =
    chained (number (2 ^ 32) column) (IsNumber (2 ^ 32) column) _ (IsCondition column sign constant) (number-found (2 ^ 32) column)
    (λ n h. chained (comparison_of sign) (λ op. sign ≡ sign_of op) _ (IsCondition column sign constant) (comparison_of-found sign)
    (λ op e. mapped (constant_of constant) (IsConstantWord constant) _ (IsCondition column sign constant) (constant_of-found constant)
    (λ v h'. (h.0, e, h'.0, (h.1, h'.1)))))

-- these are the words of what a command says beside its operator, as it is made of what was read
abbrev pub IsSaid : {A : Type 0} → (A → Argument) → List (List ℕ) → A → Type 0
IsSaid said words x = (words ≡ argument_words (said x)) × IsArgument (said x)

pub nothing_in-found : (words : List (List ℕ)) → IfSome (nothing_in words) (IsSaid (λ none. Nothing) words)
nothing_in-found [] = (refl, tt)
nothing_in-found (a ∷ more) = tt

pub one_word-found : (words : List (List ℕ)) → IfSome (one_word words) (λ a. words ≡ a ∷ [])
one_word-found [] = tt
one_word-found (a ∷ []) = refl
one_word-found (a ∷ b ∷ more) = tt

pub rows_in-found : (words : List (List ℕ)) → IfSome (row_count_in words) (IsSaid (λ n. Rows n) words)
rows_in-found words =
    chained (one_word words) (λ a. words ≡ a ∷ []) (number (2 ^ 64)) (IsSaid (λ n. Rows n) words) (one_word-found words)
    (λ a e. loosened (number (2 ^ 64) a) _ (IsSaid (λ n. Rows n) words) (number-found (2 ^ 64) a) (λ n h. (cc (e, h.0), h.1)))

pub worker_in-found : (words : List (List ℕ)) → IfSome (worker_in words) (IsSaid (λ worker. Worker worker) words)
worker_in-found words =
    chained (one_word words) (λ a. words ≡ a ∷ []) (number (2 ^ 32)) (IsSaid (λ worker. Worker worker) words) (one_word-found words)
    (λ a e. loosened (number (2 ^ 32) a) _ (IsSaid (λ worker. Worker worker) words) (number-found (2 ^ 32) a) (λ worker h. (cc (e, h.0), h.1)))

pub constant_in-found : (words : List (List ℕ)) → IfSome (value_in words) (IsSaid (λ constant. Constant constant) words)
constant_in-found words =
    chained (one_word words) (λ a. words ≡ a ∷ []) constant_of (IsSaid (λ constant. Constant constant) words) (one_word-found words)
    (λ a e. loosened (constant_of a) _ (IsSaid (λ constant. Constant constant) words) (constant_of-found a) (λ constant h. (cc (e, h.0), h.1)))

pub condition_in-found : (words : List (List ℕ)) → IfSome (condition_in words) (IsSaid (λ test. Condition test) words)
condition_in-found [] = tt
condition_in-found (a ∷ []) = tt
condition_in-found (a ∷ b ∷ []) = tt
condition_in-found (a ∷ b ∷ c ∷ []) =
    loosened (condition_of a b c) _ (IsSaid (λ test. Condition test) (a ∷ b ∷ c ∷ [])) (condition_of-found a b c)
    (λ test h. (cc (h.0, h.1, h.2), h.3))
condition_in-found (a ∷ b ∷ c ∷ d ∷ more) = tt
