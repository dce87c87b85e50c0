-- Words that are texts.
use Rattle.std.proofs.Common.{◌≡◌, ◌+◌, ◌<◌, ℕ, zero, suc, Bool, true, false, List, [], ◌∷◌, length, get_or, take, None, refl, sym, ap, subst, ◌∙◌, arith}
use Rattle.std.specs.Prelude.{◌&&◌}
use Rattle.std.specs.List.{list_all}
use Rattle.std.specs.Str.{IsUtf8, is_utf8}
use Rattle.std.proofs.lemmas.Bool.{and_from, false_from_ne_true}
use Rattle.std.proofs.lemmas.List.Folds.{list_all_more}
use Rattle.std.proofs.lemmas.Str.{IsUtf8-from_is_utf8, is_utf8-from_IsUtf8}
use Rattle.amber_script.specs.Commands.{texts_of}

and_no : (b : Bool) → (b && false) ≡ false
and_no true = refl
and_no false = refl

stops : (words : List (List ℕ)) (place : ℕ) (d : List ℕ) → place < length words → is_utf8 (get_or words place d) ≡ false → list_all is_utf8 words ≡ false
stops [] place d inside h = absurd (omega (arith, inside))
stops (word ∷ words) zero d inside h = rw h refl
stops (word ∷ words) (suc place) d inside h =
    ap (λ (t : Bool). is_utf8 word && t) (stops words place d (omega (arith, inside)) h) ∙ and_no (is_utf8 word)

-- a word that is no text
pub texts_none : (words : List (List ℕ)) (place : ℕ) (word bytes : List ℕ) → place < length words → word ≡ get_or words place word → bytes ≡ word → (IsUtf8 bytes → ⊥)
    → None ≡ texts_of words
texts_none words place word bytes inside is same none =
    let no : is_utf8 word ≡ false = false_from_ne_true (is_utf8 word) (λ t. none (subst IsUtf8 (sym same) (IsUtf8-from_is_utf8 word t))) in
    let all : list_all is_utf8 words ≡ false = stops words place word inside (ap is_utf8 (sym is) ∙ no) in
    rw all refl

-- one text more
pub texts_more : (words : List (List ℕ)) (place : ℕ) (word bytes : List ℕ) → place < length words → word ≡ get_or words place word → bytes ≡ word → IsUtf8 bytes
    → list_all is_utf8 (take place words) ≡ true → list_all is_utf8 (take (place + 1) words) ≡ true
texts_more words place word bytes inside is same text before =
    let yes : is_utf8 (get_or words place word) ≡ true = ap is_utf8 (sym is) ∙ is_utf8-from_IsUtf8 word (subst IsUtf8 same text) in
    list_all_more is_utf8 words place word inside ∙ and_from (list_all is_utf8 (take place words)) (is_utf8 (get_or words place word)) before yes
