-- Where no double quote stands in a text, its records are its lines, cut at commas: `csv`, byte by byte.
use Rattle.std.proofs.Common.{◌≡◌, ◌⊎◌, ◌<◌, ◌≤◌, ◌+◌, ◌∙◌, ◌==◌, ◌++◌, ℕ, zero, suc, Bool, true, false, List, [], ◌∷◌, length, map, Option, Some, inl, inr, refl, sym, ap, arith, append_assoc, filter, get_or}
use Rattle.std.specs.List.{All, onto_first, slice_split}
use Rattle.std.proofs.lemmas.Bool.{cases_Bool, eqb-true, false_from_ne_true}
use Rattle.std.proofs.lemmas.List.{append-nil, get_or_default}
use Rattle.std.proofs.lemmas.List.Elements.{All-head, All-tail}
use Rattle.csv.specs.Machine.{Read, next_record, step}
use Rattle.csv.specs.Reading.{default_config, is_bom, records, records_from, strip_bom}
use Rattle.csv.specs.declared.parser.State.{State}
use Rattle.csv.specs.declared.parser.State.TheVariants as st
use Rattle.csv.specs.declared.parser.Action.TheVariants as act
use Rattle.amber_rows.specs.Record.{file_records}
use Rattle.amber_cut.specs.Lines.{HasQuote, past, cut, ends_field, ends_line, is_filled, lines, until}

-- no double quote among these bytes
abbrev IsPlain : List ℕ → Type 0
IsPlain bytes = All (λ b. (b == 34) ≡ false) bytes

-- ---- one byte

-- inside a record
abbrev IsInside : State → Type 0
IsInside s = (s ≡ st.StartField) ⊎ (s ≡ st.InField)

-- between records
abbrev IsBetween : State → Type 0
IsBetween s = (s ≡ st.StartRecord) ⊎ (s ≡ st.AfterCr)

-- what a byte is not that ends no line
end-parts : (c : ℕ) → ends_line c ≡ false → ((c == 13) ≡ false) × ((c == 10) ≡ false)
end-parts c e = elim (cases_Bool (c == 13)) [
  | inl q ↦ absurd (cc (rw q at e))
  | inr q ↦ elim (cases_Bool (c == 10)) [
    | inl r ↦ absurd (cc (rw (q, r) at e))
    | inr r ↦ (q, r)
  ]
]

-- what a byte is that ends a line
end-is : (c : ℕ) → ends_line c ≡ true → (c ≡ 13) ⊎ (c ≡ 10)
end-is c e = elim (cases_Bool (c == 13)) [
  | inl q ↦ inl (eqb-true c 13 q)
  | inr q ↦ inr (eqb-true c 10 (rw q at e))
]

-- in a record, a byte that ends the line, one that ends the field, and another
step-end : (s : State) (c : ℕ) → IsInside s → ends_line c ≡ true → (s2 : State) × IsBetween s2 × (step default_config s c ≡ (s2, act.EndRecord))
step-end s c i e = elim (end-is c e) [
  | inl q ↦ (st.AfterCr, inr refl, elim i [ inl j ↦ rw (j, q) refl | inr j ↦ rw (j, q) refl ])
  | inr q ↦ (st.StartRecord, inl refl, elim i [ inl j ↦ rw (j, q) refl | inr j ↦ rw (j, q) refl ])
]

step-comma : (s : State) (c : ℕ) → IsInside s → ends_field c ≡ true → step default_config s c ≡ (st.StartField, act.EndField)
step-comma s c (inl i) e = rw (i, eqb-true c 44 e) refl
step-comma s c (inr i) e = rw (i, eqb-true c 44 e) refl

step-other : (s : State) (c : ℕ) → IsInside s → (c == 34) ≡ false → ends_line c ≡ false → ends_field c ≡ false → step default_config s c ≡ (st.InField, act.Copy)
step-other s c (inl i) q e k = let o = end-parts c e in let r = o.0 in let f = o.1 in rw (i, k, q, r, f) refl
step-other s c (inr i) q e k = let o = end-parts c e in let r = o.0 in let f = o.1 in rw (i, k, r, f) refl

-- a record begins as a field does, but at the end of a line
step-start : (s : State) (c : ℕ) → IsBetween s → ends_line c ≡ false → step default_config s c ≡ step default_config st.StartField c
step-start s c (inl i) e = let o = end-parts c e in let r = o.0 in let f = o.1 in rw (i, r, f) refl
step-start s c (inr i) e = let o = end-parts c e in let r = o.0 in let f = o.1 in rw (i, r, f) refl

-- between records, what ends an empty line is passed over
step-skip : (s : State) (c : ℕ) → IsBetween s → ends_line c ≡ true → step default_config s c ≡ (st.StartRecord, act.Skip)
step-skip s c i e = elim (end-is c e) [
  | inl q ↦ elim i [ inl j ↦ rw (j, q) refl | inr j ↦ rw (j, q) refl ]
  | inr q ↦ elim i [ inl j ↦ rw (j, q) refl | inr j ↦ rw (j, q) refl ]
]

-- ---- one record

-- fields after those before, the first of them after the bytes of the field at hand
abbrev join : List (List ℕ) → List ℕ → List (List ℕ) → List (List ℕ)
join fields field [] = fields ++ field ∷ []
join fields field (part ∷ parts) = fields ++ (field ++ part) ∷ parts

join-onto : (fields : List (List ℕ)) (field : List ℕ) (c : ℕ) (parts : List (List ℕ)) → join fields (field ++ c ∷ []) parts ≡ join fields field (onto_first c parts)
join-onto fields field c [] = refl
join-onto fields field c (part ∷ parts) = ap (λ x. fields ++ x ∷ parts) (append_assoc field (c ∷ []) part)

-- a split gives at least one part
pub parts-some : (p : ℕ → Bool) (xs : List ℕ) → (part : List ℕ) × (parts : List (List ℕ)) × (slice_split p xs ≡ part ∷ parts)
parts-some p [] = ([], [], refl)
parts-some p (x ∷ xs) =
    let more = parts-some p xs in
    elim (cases_Bool (p x)) [
      | inl t ↦ ([], slice_split p xs, rw t refl)
      | inr f ↦ (x ∷ more.0, more.1, rw (f, more.2) refl)
    ]

join-none : (xs : List ℕ) → join [] [] (slice_split ends_field xs) ≡ slice_split ends_field xs
join-none xs = let some = parts-some ends_field xs in rw some.2 refl

join-comma : (fields : List (List ℕ)) (field : List ℕ) (xs : List ℕ) → join (fields ++ field ∷ []) [] (slice_split ends_field xs) ≡ join fields field ([] ∷ slice_split ends_field xs)
join-comma fields field xs = let some = parts-some ends_field xs in rw (some.2, append-nil field) (append_assoc fields (field ∷ []) (some.0 ∷ some.1))

-- a record goes on to the end of its line
inside : (s : State) (fields : List (List ℕ)) (field xs : List ℕ) → IsInside s → IsPlain xs
    → (s2 : State) × IsBetween s2 × (next_record default_config s fields field xs ≡ Some (join fields field (cut (until ends_line xs)), s2, past ends_line xs))
unfolding next_record cut until past
inside s fields field [] (inl i) plain = (st.StartRecord, inl refl, rw (i, append-nil field) refl)
inside s fields field [] (inr i) plain = (st.StartRecord, inl refl, rw (i, append-nil field) refl)
inside s fields field (c ∷ rest) i plain =
    let p = All-head (λ b. (b == 34) ≡ false) c rest plain in
    let ps = All-tail (λ b. (b == 34) ≡ false) c rest plain in
    elim (cases_Bool (ends_line c)) [
      | inl f ↦ let e = step-end s c i f in (e.0, e.1, rw (e.2, f, append-nil field) refl)
      | inr f ↦ elim (cases_Bool (ends_field c)) [
        | inl k ↦
            let e = step-comma s c i k in
            let later = inside st.StartField (fields ++ field ∷ []) [] rest (inl refl) ps in
            (later.0, later.1, rw (e, f, k, later.2, join-comma fields field (until ends_line rest)) refl)
        | inr k ↦
            let e = step-other s c i p f k in
            let later = inside st.InField fields (field ++ c ∷ []) rest (inr refl) ps in
            (later.0, later.1, rw (e, f, k, later.2, join-onto fields field c (cut (until ends_line rest))) refl)
      ]
    ]

begins-as-field : (s : State) (c : ℕ) (rest : List ℕ) → IsBetween s → ends_line c ≡ false
    → next_record default_config s [] [] (c ∷ rest) ≡ next_record default_config st.StartField [] [] (c ∷ rest)
unfolding next_record
begins-as-field s c rest b f = rw (step-start s c b f) refl

-- a record, the state after it and the bytes
abbrev found : List (List ℕ) → State → List ℕ → Option Read
found fields s rest = Some (fields, s, rest)

found-first : (s : State) (c : ℕ) (rest : List ℕ) → ends_line c ≡ false
    → found (join [] [] (cut (until ends_line (c ∷ rest)))) s (past ends_line (c ∷ rest)) ≡ found (cut (c ∷ until ends_line rest)) s (past ends_line rest)
unfolding cut until past
found-first s c rest f = rw (f, join-none (c ∷ until ends_line rest)) refl

-- the first record of a text that begins with no end of a line is its first line
first-record : (s : State) (c : ℕ) (rest : List ℕ) → IsBetween s → ends_line c ≡ false → IsPlain (c ∷ rest)
    → (s2 : State) × IsBetween s2 × (next_record default_config s [] [] (c ∷ rest) ≡ Some (cut (c ∷ until ends_line rest), s2, past ends_line rest))
first-record s c rest b f plain =
    let whole = inside st.StartField [] [] (c ∷ rest) (inl refl) plain in
    (whole.0, whole.1, begins-as-field s c rest b f ∙ whole.2 ∙ found-first whole.0 c rest f)

-- ---- lines

-- what stands after the first that passes is no longer than the whole, and has no quote where the whole has none
after-short : (p : ℕ → Bool) (xs : List ℕ) → length (past p xs) ≤ length xs
unfolding past
after-short p [] = omega arith
after-short p (x ∷ xs) = elim (cases_Bool (p x)) [
  | inl t ↦ rw t (omega arith)
  | inr f ↦ rw f (omega (arith, after-short p xs))
]

after-plain : (p : ℕ → Bool) (xs : List ℕ) → IsPlain xs → IsPlain (past p xs)
unfolding past
after-plain p [] h = h
after-plain p (x ∷ xs) h =
    let t = All-tail (λ b. (b == 34) ≡ false) x xs h in
    elim (cases_Bool (p x)) [
      | inl e ↦ rw e t
      | inr e ↦ rw e (after-plain p xs t)
    ]

-- the first part of a split, and the others but for empty ones
split-first : (xs : List ℕ) → (more : List (List ℕ)) × (slice_split ends_line xs ≡ until ends_line xs ∷ more) × (filter is_filled more ≡ lines (past ends_line xs))
unfolding until past lines
split-first [] = ([], refl, refl)
split-first (x ∷ xs) =
    let later = split-first xs in
    elim (cases_Bool (ends_line x)) [
      | inl t ↦ (slice_split ends_line xs, rw t refl, rw t refl)
      | inr f ↦ (later.0, rw (f, later.1) refl, rw f later.2)
    ]

pub lines-none : lines [] ≡ []
unfolding lines
lines-none = refl

-- an empty line is passed over
pub lines-end : (x : ℕ) (xs : List ℕ) → ends_line x ≡ true → lines (x ∷ xs) ≡ lines xs
unfolding lines
lines-end x xs t = rw t refl

-- a line with bytes, and those after it
pub lines-more : (x : ℕ) (xs : List ℕ) → ends_line x ≡ false → lines (x ∷ xs) ≡ (x ∷ until ends_line xs) ∷ lines (past ends_line xs)
unfolding lines
lines-more x xs f =
    let first = split-first xs in
    rw (f, first.1) (ap (λ ls. (x ∷ until ends_line xs) ∷ ls) first.2)

-- ---- all records

-- in this many turns the records of a text are found to be its lines
abbrev Recs : ℕ → List ℕ → Type 0
Recs turns xs = (s : State) → IsBetween s → records_from default_config turns s xs ≡ map cut (lines xs)

skip-end : (turns : ℕ) (s : State) (x : ℕ) (xs : List ℕ) → IsBetween s → ends_line x ≡ true → records_from default_config (suc turns) s (x ∷ xs) ≡ records_from default_config (suc turns) st.StartRecord xs
unfolding records_from next_record
skip-end turns s x xs b t = rw (step-skip s x b t) refl

take-line : (turns : ℕ) (s : State) (x : ℕ) (xs : List ℕ) → IsBetween s → ends_line x ≡ false → IsPlain (x ∷ xs)
    → (s2 : State) × IsBetween s2 × (records_from default_config (suc turns) s (x ∷ xs) ≡ cut (x ∷ until ends_line xs) ∷ records_from default_config turns s2 (past ends_line xs))
unfolding records_from
take-line turns s x xs b f plain = let first = first-record s x xs b f plain in (first.0, first.1, rw first.2 refl)

no-line : (turns : ℕ) (s : State) → IsBetween s → records_from default_config (suc turns) s [] ≡ []
unfolding records_from next_record
no-line turns s (inl b) = rw b refl
no-line turns s (inr b) = rw b refl

-- an empty line takes no turn, and a record one
one-turn : (turns : ℕ) → ((ys : List ℕ) → length ys < turns → IsPlain ys → Recs turns ys) → (xs : List ℕ) → length xs < suc turns → IsPlain xs → Recs (suc turns) xs
one-turn turns later [] h plain = λ s b. no-line turns s b ∙ ap (map cut) (sym lines-none)
one-turn turns later (x ∷ xs) h plain = λ s b.
    let rest = All-tail (λ b. (b == 34) ≡ false) x xs plain in
    elim (cases_Bool (ends_line x)) [
      | inl t ↦ skip-end turns s x xs b t ∙ one-turn turns later xs (omega (arith, h)) rest st.StartRecord (inl refl) ∙ ap (map cut) (sym (lines-end x xs t))
      | inr f ↦
          let ys = past ends_line xs in
          let first = take-line turns s x xs b f plain in
          first.2
          ∙ ap (λ rs. cut (x ∷ until ends_line xs) ∷ rs) (later ys (omega (arith, h, after-short ends_line xs)) (after-plain ends_line xs rest) first.0 first.1)
          ∙ ap (map cut) (sym (lines-more x xs f))
    ]

all-turns : (turns : ℕ) (xs : List ℕ) → length xs < turns → IsPlain xs → Recs turns xs
all-turns zero xs h plain = absurd (omega (arith, h))
all-turns (suc turns) xs h plain = one-turn turns (all-turns turns) xs h plain

-- where no quote stands, the records of a text are its lines, cut at commas
records-lines : (xs : List ℕ) → IsPlain xs → records default_config xs ≡ map cut (lines xs)
records-lines xs plain = all-turns (length xs + 1) xs (omega arith) plain st.StartRecord (inl refl)

-- ---- a file

plain-bytes : (bytes : List ℕ) → ¬ HasQuote bytes → IsPlain bytes
plain-bytes bytes none k d l = false_from_ne_true _ (λ t. none (k, l, get_or_default bytes k 34 d l ∙ eqb-true (get_or bytes k d) 34 t))

-- a byte order mark has no quote
plain-rest : (bytes : List ℕ) → IsPlain bytes → IsPlain (strip_bom bytes)
unfolding strip_bom
plain-rest [] plain = plain
plain-rest (a ∷ []) plain = plain
plain-rest (a ∷ b ∷ []) plain = plain
plain-rest (a ∷ b ∷ c ∷ rest) plain =
    let no_quote = λ (x : ℕ). (x == 34) ≡ false in
    elim (cases_Bool (is_bom a b c)) [
      | inl t ↦ rw t (All-tail no_quote c rest (All-tail no_quote b (c ∷ rest) (All-tail no_quote a (b ∷ c ∷ rest) plain)))
      | inr f ↦ rw f plain
    ]

-- the records of a file without a double quote are its lines, cut at commas
pub file-lines : (bytes : List ℕ) → ¬ HasQuote bytes → file_records bytes ≡ map cut (lines (strip_bom bytes))
unfolding file_records
file-lines bytes none = records-lines (strip_bom bytes) (plain-rest bytes (plain-bytes bytes none))
