-- What the words of a line are.
use Rattle.std.proofs.Common.{◌≡◌, ◌==◌, ℕ, true, false, List, [], ◌∷◌, ◌++◌, Option, None, Some, option_map, refl, sym, ap, ◌∙◌, inl, inr, append_assoc, eqb-true}
use Rattle.std.specs.Prelude.{not}
use Rattle.std.specs.List.{filter, flat_map, list_all, onto_first, slice_split}
use Rattle.std.proofs.lemmas.Bool.{and_parts, cases_Bool, not-true}
use Rattle.amber_script.proofs.Joining.{onto_end}
use Rattle.amber_script.specs.Laws.{QuotesReadBack, WordsStandBetweenBlanks, escape_of, has_bytes, quotation_of}
use Rattle.amber_script.specs.Lexing.{onto_word}
use Rattle.amber_script.specs.Words.{is_blank, words_from, script_words_of}
use Rattle.amber_script.specs.declared.place.Place.TheVariants.{Between, Bare, Quoted, Closed}

-- ---- quotes

one_escaped : (byte : ℕ) (rest : List ℕ) → words_from Quoted (escape_of byte ++ rest) ≡ option_map (onto_first byte) (words_from Quoted rest)
unfolding words_from
one_escaped byte rest =
    elim (cases_Bool (byte == 34)) [
      | inl same ↦ (let e : byte ≡ 34 = eqb-true byte 34 same in rw e refl)
      | inr quote ↦ elim (cases_Bool (byte == 92)) [
        | inl same ↦ (let e : byte ≡ 92 = eqb-true byte 92 same in rw e refl)
        | inr backslash ↦ elim (cases_Bool (byte == 10)) [
          | inl same ↦ (let e : byte ≡ 10 = eqb-true byte 10 same in rw e refl)
          | inr feed ↦ elim (cases_Bool (byte == 13)) [
            | inl same ↦ (let e : byte ≡ 13 = eqb-true byte 13 same in rw e refl)
            | inr return ↦ rw (quote, backslash, feed, return) (rw (quote, backslash) refl)
          ]
        ]
      ]
    ]

pub onto_none : (more : Option (List (List ℕ))) → more ≡ option_map (onto_word []) more
onto_none None = refl
onto_none (Some words) = refl

pub onto_one : (byte : ℕ) (bytes : List ℕ) (more : Option (List (List ℕ))) → option_map (onto_first byte) (option_map (onto_word bytes) more) ≡ option_map (onto_word (byte ∷ bytes)) more
onto_one byte bytes None = refl
onto_one byte bytes (Some words) = refl

pub text_escaped : (text rest : List ℕ) → words_from Quoted (flat_map escape_of text ++ 34 ∷ rest) ≡ option_map (onto_word text) (words_from Closed rest)
unfolding words_from
text_escaped [] rest = onto_none (words_from Closed rest)
text_escaped (byte ∷ text) rest =
    ap (words_from Quoted) (append_assoc (escape_of byte) (flat_map escape_of text) (34 ∷ rest))
    ∙ one_escaped byte (flat_map escape_of text ++ 34 ∷ rest)
    ∙ ap (option_map (onto_first byte)) (text_escaped text rest)
    ∙ onto_one byte text (words_from Closed rest)

closed : (texts : List (List ℕ)) → script_words_of (flat_map quotation_of texts) ≡ Some texts → words_from Closed (flat_map quotation_of texts) ≡ Some ([] ∷ texts)
unfolding words_from
closed [] h = refl
closed (text ∷ texts) h = ap (option_map (λ words. [] ∷ words)) h

pub quotes_read_back : QuotesReadBack
unfolding words_from
quotes_read_back [] = refl
quotes_read_back (text ∷ texts) =
    ap (words_from Quoted) (append_assoc (flat_map escape_of text) (34 ∷ []) (flat_map quotation_of texts))
    ∙ text_escaped text (flat_map quotation_of texts)
    ∙ ap (option_map (onto_word text)) (closed texts (quotes_read_back texts))
    ∙ ap Some (onto_end text texts)

-- ---- blanks

-- the first piece, though it be empty, and then the words
front : List (List ℕ) → List (List ℕ)
front [] = []
front (piece ∷ pieces) = piece ∷ filter has_bytes pieces

front_filter : (byte : ℕ) (pieces : List (List ℕ)) → filter has_bytes (onto_first byte pieces) ≡ onto_first byte (front pieces)
unfolding front
front_filter byte [] = refl
front_filter byte (piece ∷ pieces) = refl

front_more : (byte : ℕ) (pieces : List (List ℕ)) → front (onto_first byte pieces) ≡ onto_first byte (front pieces)
unfolding front
front_more byte [] = refl
front_more byte (piece ∷ pieces) = refl

abbrev Pieces : List ℕ → Type 0
Pieces line = (words_from Between line ≡ Some (filter has_bytes (slice_split is_blank line))) × (words_from Bare line ≡ Some (front (slice_split is_blank line)))

pieces : (line : List ℕ) → list_all (λ byte. not (byte == 34)) line ≡ true → Pieces line
unfolding words_from front
pieces [] h = (refl, refl)
pieces (byte ∷ line) h =
    let parts = and_parts (not (byte == 34)) (list_all (λ b. not (b == 34)) line) h in
    let quote : (byte == 34) ≡ false = not-true (byte == 34) parts.0 in
    let more = pieces line parts.1 in
    elim (cases_Bool (is_blank byte)) [
      | inl blank ↦ (
        rw blank more.0,
        rw blank (ap (option_map (λ words. [] ∷ words)) more.0),
      )
      | inr other ↦ (
        rw (other, quote) (ap (option_map (onto_first byte)) more.1 ∙ ap Some (sym (front_filter byte (slice_split is_blank line)))),
        rw (other, quote) (ap (option_map (onto_first byte)) more.1 ∙ ap Some (sym (front_more byte (slice_split is_blank line)))),
      )
    ]

pub words_stand_between_blanks : WordsStandBetweenBlanks
words_stand_between_blanks line h = (pieces line h).0
