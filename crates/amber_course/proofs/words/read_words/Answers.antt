-- The words are two that begin with `plain`, or six that begin with `run` or `recover`; others are none.
use Rattle.std.proofs.Common.{◌≡◌, ℕ, ◌<◌, ◌≤◌, List, [], ◌∷◌, length, map, get_or, None, false, refl, sym, ◌∙◌, arith, rules}
use Rattle.std.specs.Prelude.{bytes_eq, codes, string_bytes}
use Rattle.std.proofs.lemmas.Grind.{common_steps}
use Rattle.std.proofs.lemmas.List.{length-map}
use Rattle.amber_course.specs.Words.{call_words_of}
use Rattle.amber_course.proofs.words.read_words.Goals as goal
use Rattle.amber_course.proofs.words.read_words.Goals.{in_default-via-then-words-lt2, in_default-via-in-len2+else-eq, in_default-via-in-len3+else-eq-2, in_default-via-else-words-lt2+else-words-lt3+else-words-lt4+then-words-lt6, in_default-via-in-len6-2+else-eq-4, in_default-via-else-words-lt2+else-words-lt3+else-words-lt4+else-words-lt6+else-words-lt7}

two_of : {A : Type 0} (xs : List A) (a b : A) → 2 ≤ length xs → length xs < 3 → a ≡ get_or xs 0 a → b ≡ get_or xs 1 b → xs ≡ a ∷ b ∷ []
two_of [] a b some few first second = absurd (omega (arith, some))
two_of (x ∷ []) a b some few first second = absurd (omega (arith, some))
two_of (x ∷ y ∷ []) a b some few first second = cc
two_of (x ∷ y ∷ z ∷ xs) a b some few first second = absurd (omega (arith, few))

six_of : {A : Type 0} (xs : List A) (a b c d e f : A) → 6 ≤ length xs → length xs < 7 → a ≡ get_or xs 0 a → b ≡ get_or xs 1 b → c ≡ get_or xs 2 c → d ≡ get_or xs 3 d → e ≡ get_or xs 4 e → f ≡ get_or xs 5 f
    → xs ≡ a ∷ b ∷ c ∷ d ∷ e ∷ f ∷ []
six_of [] a b c d e f some few p q r s t u = absurd (omega (arith, some))
six_of (x ∷ []) a b c d e f some few p q r s t u = absurd (omega (arith, some))
six_of (x ∷ y ∷ []) a b c d e f some few p q r s t u = absurd (omega (arith, some))
six_of (x ∷ y ∷ z ∷ []) a b c d e f some few p q r s t u = absurd (omega (arith, some))
six_of (x ∷ y ∷ z ∷ v ∷ []) a b c d e f some few p q r s t u = absurd (omega (arith, some))
six_of (x ∷ y ∷ z ∷ v ∷ w ∷ []) a b c d e f some few p q r s t u = absurd (omega (arith, some))
six_of (x ∷ y ∷ z ∷ v ∷ w ∷ k ∷ []) a b c d e f some few p q r s t u = cc
six_of (x ∷ y ∷ z ∷ v ∷ w ∷ k ∷ l ∷ xs) a b c d e f some few p q r s t u = absurd (omega (arith, few))

pub returns-in-len2 : goal.returns-in-len2
unfolding call_words_of
returns-in-len2 c =
    let is = two_of c.args.words.now c.form-item.result c.workflow-item.result c.in-len2.len_at_least c.in-len2.len_below c.form-item.is c.workflow-item.is in
    record {
      read = rw (is, ← c.as_str.ensures.value, ← c.if-eq.ensures, ← c.as_str-in-len2.ensures.value) c.read_plain.ensures.read;
      sound = c.read_plain.ensures.sound;
    }

pub returns-in-len6 : goal.returns-in-len6
unfolding call_words_of
returns-in-len6 c =
    let is = six_of c.args.words.now c.form-item-then-words-lt7.result c.workflow-item-then-words-lt7.result c.script-item.result c.log-item-then-words-lt7.result c.threads-item.result c.batch_size-item.result c.in-len6.len_at_least c.in-len6.len_below
    c.form-item-then-words-lt7.is c.workflow-item-then-words-lt7.is c.script-item.is c.log-item-then-words-lt7.is c.threads-item.is c.batch_size-item.is in
    record {
      read = rw (is, ← c.as_str-then-words-lt7.ensures.value, ← c.if-eq-3.ensures, ← c.as_str-in-len6.ensures.value, ← c.as_str-in-len6-2.ensures.value, ← c.as_str-in-len6-3.ensures.value, ← c.as_str-in-len6-4.ensures.value, ← c.as_str-in-len6-5.ensures.value) c.read_run.ensures.read;
      sound = c.read_run.ensures.sound;
    }

first_is : {A : Type 0} (xs : List A) (a b : A) → 0 < length xs → a ≡ get_or xs 0 a → b ≡ get_or xs 0 b → a ≡ b
first_is [] a b some p q = absurd (omega (arith, some))
first_is (x ∷ xs) a b some p q = p ∙ sym q

other_six : (word workflow script third fourth last : List ℕ) → bytes_eq word (codes "run") ≡ false → bytes_eq word (codes "recover") ≡ false
    → call_words_of (word ∷ workflow ∷ script ∷ third ∷ fourth ∷ last ∷ []) ≡ None
unfolding call_words_of
other_six word workflow script third fourth last run recover = rw (run, recover) refl

many_words : (words : List (List ℕ)) → 7 ≤ length words → call_words_of words ≡ None
unfolding call_words_of
many_words [] many = absurd (omega (arith, many))
many_words (a ∷ []) many = absurd (omega (arith, many))
many_words (a ∷ b ∷ []) many = absurd (omega (arith, many))
many_words (a ∷ b ∷ c ∷ []) many = absurd (omega (arith, many))
many_words (a ∷ b ∷ c ∷ d ∷ []) many = absurd (omega (arith, many))
many_words (a ∷ b ∷ c ∷ d ∷ e ∷ []) many = absurd (omega (arith, many))
many_words (a ∷ b ∷ c ∷ d ∷ e ∷ f ∷ []) many = absurd (omega (arith, many))
many_words (a ∷ b ∷ c ∷ d ∷ e ∷ f ∷ g ∷ more) many = refl

pub returns-in_default-clause-read : goal.returns-in_default-clause-read
unfolding call_words_of
returns-in_default-clause-read c = elim c.in_default.branch [
  | in_default-via-then-words-lt2 w ↦ grind (arith, common_steps)
  | in_default-via-in-len2+else-eq w ↦ grind (arith, common_steps)
  | in_default-via-in-len3+else-eq-2 w ↦ grind (arith, common_steps)
  | in_default-via-else-words-lt2+else-words-lt3+else-words-lt4+then-words-lt6 w ↦ grind (arith, common_steps)
  | in_default-via-in-len6-2+else-eq-4 w ↦
      let some : 0 < length c.args.words.now = omega (arith, w.in-len6.len_at_least) in
      let same = first_is c.args.words.now w.form-item-then-words-lt7.result w.form-item-then-words-lt7-2.result some w.form-item-then-words-lt7.is w.form-item-then-words-lt7-2.is in
      let is = six_of c.args.words.now w.form-item-then-words-lt7-2.result w.workflow-item-then-words-lt7-2.result w.script-item-then-words-lt7.result w.old_log-item.result w.log-item-then-words-lt7-2.result
      w.threads-item-then-words-lt7.result w.in-len6.len_at_least w.in-len6.len_below w.form-item-then-words-lt7-2.is w.workflow-item-then-words-lt7-2.is w.script-item-then-words-lt7.is w.old_log-item.is
      w.log-item-then-words-lt7-2.is w.threads-item-then-words-lt7.is in
      let run : bytes_eq (string_bytes w.form-item-then-words-lt7-2.result) (codes "run") ≡ false = rw (← same, ← w.as_str-then-words-lt7.ensures.value) (sym w.if-eq-3.ensures) in
      let recover : bytes_eq (string_bytes w.form-item-then-words-lt7-2.result) (codes "recover") ≡ false = rw (← w.as_str-then-words-lt7-2.ensures.value) (sym w.if-eq-4.ensures) in
      rw is (other_six (string_bytes w.form-item-then-words-lt7-2.result) (string_bytes w.workflow-item-then-words-lt7-2.result) (string_bytes w.script-item-then-words-lt7.result)
      (string_bytes w.old_log-item.result) (string_bytes w.log-item-then-words-lt7-2.result) (string_bytes w.threads-item-then-words-lt7.result) run recover)
  | in_default-via-else-words-lt2+else-words-lt3+else-words-lt4+else-words-lt6+else-words-lt7 w ↦
      let many : 7 ≤ length c.args.words.now = search rules in
      many_words (map string_bytes c.args.words.now) (rw (length-map c.args.words.now string_bytes) many)
]
