-- Words as a reply has them: each is read as one word of a line, and none has the end of a line in it.
use Rattle.std.proofs.Common.{◌≡◌, ◌==◌, ℕ, ◌≤◌, true, false, Bool, List, [], ◌∷◌, ◌++◌, Option, None, Some, option_map, refl, sym, ap, ◌∙◌, inl, inr, append_assoc, arith, nat_le}
use Rattle.std.specs.Prelude.{not, ◌&&◌}
use Rattle.std.specs.List.{flat_map, list_all, onto_first}
use Rattle.std.specs.Str.{is_utf8}
use Rattle.std.proofs.lemmas.Bool.{and_from, and_parts, cases_Bool, not-true}
use Rattle.std.proofs.lemmas.Bool.Decides.{nat_tests}
use Rattle.std.proofs.lemmas.List.{append-nil}
use Rattle.amber_meaning.specs.Texts.{escaped_byte, is_bare, is_bare_byte, word_of, words_line}
use Rattle.amber_script.specs.Lexing.{onto_word}
use Rattle.amber_script.specs.Words.{is_blank, words_from}
use Rattle.amber_script.specs.declared.place.Place.TheVariants.{Between, Bare, Quoted}
use Rattle.amber_script.proofs.Joining.{onto_end}
use Rattle.amber_script.proofs.WordLaws.{onto_none, onto_one, text_escaped}

-- before a blank, and at the end of a line, this is one word, and it says this text
pub record Spells (word text : List ℕ) : Type 0 where
  pub before : (rest : List ℕ) → words_from Between (word ++ 32 ∷ rest) ≡ option_map (λ words. text ∷ words) (words_from Between rest)
  pub last : words_from Between word ≡ Some (text ∷ [])

onto_all : (word : List ℕ) (more : Option (List (List ℕ))) → option_map (onto_word word) (option_map (λ words. [] ∷ words) more) ≡ option_map (λ words. word ∷ words) more
onto_all word None = refl
onto_all word (Some words) = ap Some (onto_end word words)

-- ---- bare words

bare-least : (b : ℕ) → is_bare_byte b ≡ true → 33 ≤ b
bare-least b h = let front = and_parts (nat_le 33 b && nat_le b 126) (not (b == 34)) h in let low = and_parts (nat_le 33 b) (nat_le b 126) front.0 in grind (arith, nat_tests)

not-byte : (b c : ℕ) → 33 ≤ b → c ≤ 32 → (b == c) ≡ false
not-byte b c h low = grind (arith, nat_tests)

not-blank : (b : ℕ) → is_bare_byte b ≡ true → is_blank b ≡ false
not-blank b h = let low = bare-least b h in rw (not-byte b 32 low (omega arith), not-byte b 9 low (omega arith)) refl

not-quote : (b : ℕ) → is_bare_byte b ≡ true → (b == 34) ≡ false
not-quote b h = not-true (b == 34) (and_parts (nat_le 33 b && nat_le b 126) (not (b == 34)) h).1

bare-on : (word rest : List ℕ) → list_all is_bare_byte word ≡ true → words_from Bare (word ++ rest) ≡ option_map (onto_word word) (words_from Bare rest)
unfolding words_from
bare-on [] rest h = onto_none (words_from Bare rest)
bare-on (b ∷ bs) rest h =
    let parts = and_parts (is_bare_byte b) (list_all is_bare_byte bs) h in
    rw (not-blank b parts.0, not-quote b parts.0) (ap (option_map (onto_first b)) (bare-on bs rest parts.1) ∙ onto_one b bs (words_from Bare rest))

bare-end : (word : List ℕ) → list_all is_bare_byte word ≡ true → words_from Bare word ≡ Some (word ∷ [])
unfolding words_from
bare-end word h = ap (words_from Bare) (sym (append-nil word)) ∙ bare-on word [] h ∙ ap Some (onto_end word [])

pub spells-bare : (word : List ℕ) → is_bare word ≡ true → Spells word word
unfolding words_from
spells-bare [] h = absurd cc
spells-bare (b ∷ bs) h =
    let all = (and_parts (not (b == 35)) (list_all is_bare_byte (b ∷ bs)) h).1 in
    let parts = and_parts (is_bare_byte b) (list_all is_bare_byte bs) all in
    let blank = not-blank b parts.0 in
    let quote = not-quote b parts.0 in
    record {
      before = λ rest. rw (blank, quote) (ap (option_map (onto_first b)) (bare-on bs (32 ∷ rest) parts.1)
          ∙ onto_one b bs (words_from Bare (32 ∷ rest)) ∙ onto_all (b ∷ bs) (words_from Between rest));
      last = rw (blank, quote) (ap (option_map (onto_first b)) (bare-end bs parts.1));
    }

-- ---- words in quotes

spells-quoted : (text : List ℕ) → Spells (34 ∷ (flat_map escaped_byte text ++ 34 ∷ [])) text
unfolding words_from
spells-quoted text = record {
  before = λ rest. ap (words_from Quoted) (append_assoc (flat_map escaped_byte text) (34 ∷ []) (32 ∷ rest)) ∙ text_escaped text (32 ∷ rest) ∙ onto_all text (words_from Between rest);
  last = text_escaped text [] ∙ ap Some (onto_end text []);
}

pub spells-word : (text : List ℕ) → Spells (word_of text) text
unfolding word_of
spells-word text = elim (cases_Bool (is_bare text)) [
  | inl bare ↦ rw bare (spells-bare text bare)
  | inr other ↦ rw other (spells-quoted text)
]

-- ---- no end of a line

abbrev pub is_inline : ℕ → Bool
is_inline b = not (b == 10) && not (b == 13)

inline-byte : (b : ℕ) → is_bare_byte b ≡ true → is_inline b ≡ true
inline-byte b h = let low = bare-least b h in rw (not-byte b 10 low (omega arith), not-byte b 13 low (omega arith)) refl

pub inline-bare : (word : List ℕ) → list_all is_bare_byte word ≡ true → list_all is_inline word ≡ true
inline-bare [] h = refl
inline-bare (b ∷ bs) h =
    let parts = and_parts (is_bare_byte b) (list_all is_bare_byte bs) h in
    and_from (is_inline b) (list_all is_inline bs) (inline-byte b parts.0) (inline-bare bs parts.1)

pub inline-append : (front back : List ℕ) → list_all is_inline front ≡ true → list_all is_inline back ≡ true → list_all is_inline (front ++ back) ≡ true
inline-append [] back h k = k
inline-append (b ∷ bs) back h k =
    let parts = and_parts (is_inline b) (list_all is_inline bs) h in
    and_from (is_inline b) (list_all is_inline (bs ++ back)) parts.0 (inline-append bs back parts.1 k)

inline-escaped : (byte : ℕ) → list_all is_inline (escaped_byte byte) ≡ true
inline-escaped byte =
    elim (cases_Bool (byte == 34)) [
      | inl same ↦ rw same refl
      | inr quote ↦ elim (cases_Bool (byte == 92)) [
        | inl same ↦ rw (quote, same) refl
        | inr backslash ↦ elim (cases_Bool (byte == 10)) [
          | inl same ↦ rw (quote, backslash, same) refl
          | inr feed ↦ elim (cases_Bool (byte == 13)) [
            | inl same ↦ rw (quote, backslash, feed, same) refl
            | inr return ↦ rw (quote, backslash, feed, return) (rw (feed, return) refl)
          ]
        ]
      ]
    ]

inline-text : (text : List ℕ) → list_all is_inline (flat_map escaped_byte text) ≡ true
inline-text [] = refl
inline-text (byte ∷ text) = inline-append (escaped_byte byte) (flat_map escaped_byte text) (inline-escaped byte) (inline-text text)

bare-all : (text : List ℕ) → is_bare text ≡ true → list_all is_bare_byte text ≡ true
bare-all [] h = refl
bare-all (b ∷ bs) h = (and_parts (not (b == 35)) (list_all is_bare_byte (b ∷ bs)) h).1

pub inline-word : (text : List ℕ) → list_all is_inline (word_of text) ≡ true
unfolding word_of
inline-word text = elim (cases_Bool (is_bare text)) [
  | inl bare ↦ rw bare (inline-bare text (bare-all text bare))
  | inr other ↦ rw other (inline-append (flat_map escaped_byte text) (34 ∷ []) (inline-text text) refl)
]

-- ---- lines of words

-- a word of a line, and the text that it says
pub record IsWordOf (word text : List ℕ) : Type 0 where
  pub spells : Spells word text
  pub inline : list_all is_inline word ≡ true
  pub utf8 : is_utf8 text ≡ true

pub word-of : (text : List ℕ) → is_utf8 text ≡ true → IsWordOf (word_of text) text
word-of text h = record { spells = spells-word text; inline = inline-word text; utf8 = h }

pub bare-of : (word : List ℕ) → is_bare word ≡ true → is_utf8 word ≡ true → IsWordOf word word
bare-of word bare h = record { spells = spells-bare word bare; inline = inline-bare word (bare-all word bare); utf8 = h }

-- each of these words says the text at its place
unfoldable pub AreWordsOf : List (List ℕ) → List (List ℕ) → Type 0
AreWordsOf [] [] = Unit {0}
AreWordsOf [] (text ∷ texts) = ⊥
AreWordsOf (word ∷ words) [] = ⊥
AreWordsOf (word ∷ words) (text ∷ texts) = IsWordOf word text × AreWordsOf words texts

-- words with a blank between each two
abbrev pub blanked : List (List ℕ) → List ℕ
blanked [] = []
blanked (word ∷ []) = word
blanked (word ∷ next ∷ more) = word ++ 32 ∷ blanked (next ∷ more)

pub blanked-line : (word : List ℕ) (more : List (List ℕ)) → words_line (word ∷ more) ≡ blanked (word ∷ more) ++ 10 ∷ []
unfolding words_line
blanked-line word [] = refl
blanked-line word (next ∷ more) =
    ap (λ line. word ++ 32 ∷ line) (blanked-line next more) ∙ sym (append_assoc word (32 ∷ blanked (next ∷ more)) (10 ∷ []))

-- they are the words of the line
pub blanked-read : (words texts : List (List ℕ)) → AreWordsOf words texts → words_from Between (blanked words) ≡ Some texts
unfolding AreWordsOf words_from
blanked-read [] [] h = refl
blanked-read [] (text ∷ texts) h = absurd h
blanked-read (word ∷ words) [] h = absurd h
blanked-read (word ∷ []) (text ∷ []) h = h.0.spells.last
blanked-read (word ∷ []) (text ∷ next ∷ texts) h = absurd h.1
blanked-read (word ∷ next ∷ words) (text ∷ texts) h =
    h.0.spells.before (blanked (next ∷ words)) ∙ ap (option_map (λ read. text ∷ read)) (blanked-read (next ∷ words) texts h.1)

pub blanked-inline : (words texts : List (List ℕ)) → AreWordsOf words texts → list_all is_inline (blanked words) ≡ true
unfolding AreWordsOf
blanked-inline [] texts h = refl
blanked-inline (word ∷ words) [] h = absurd h
blanked-inline (word ∷ []) (text ∷ texts) h = h.0.inline
blanked-inline (word ∷ next ∷ words) (text ∷ texts) h =
    inline-append word (32 ∷ blanked (next ∷ words)) h.0.inline (blanked-inline (next ∷ words) texts h.1)

pub are-texts : (words texts : List (List ℕ)) → AreWordsOf words texts → list_all is_utf8 texts ≡ true
unfolding AreWordsOf
are-texts [] [] h = refl
are-texts [] (text ∷ texts) h = absurd h
are-texts (word ∷ words) [] h = absurd h
are-texts (word ∷ words) (text ∷ texts) h = and_from (is_utf8 text) (list_all is_utf8 texts) h.0.utf8 (are-texts words texts h.1)
