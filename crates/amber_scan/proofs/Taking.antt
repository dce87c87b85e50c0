-- What is left of a share: the records that were read ahead, and each so many after them.
use Rattle.std.proofs.Common.{◌≡◌, ◌∙◌, ◌<◌, ◌≤◌, ◌+◌, ◌-◌, ◌++◌, ℕ, false, inl, inr, nat_lt, List, [], ◌∷◌, ap, append_assoc, arith, get_or, length, min, refl, sym}
use Rattle.std.proofs.lemmas.Bool.{cases_Bool, ltb-false, ltb-true}
use Rattle.std.proofs.lemmas.List.{get_or_append_left, get_or_push}
use Rattle.amber_rows.specs.Lists.{is_empty}
use Rattle.amber_rows.specs.Record.{row_of}
use Rattle.amber_rows.specs.declared.column.Column.{Column}
use Rattle.amber_scan.specs.Shares.{scanned_record}
use Rattle.amber_scan.specs.declared.share.Scanned.{Scanned}
use Rattle.amber_scan.proofs.Every.{Records, rest-far, rest-next, rest_of}

module _ {A : Type 0} where
  pub no-elements : (xs : List A) → length xs ≡ 0 → xs ≡ []
  no-elements [] e = refl
  no-elements (x ∷ xs) e = absurd (omega (arith, e))

  pub some-first : (xs ys : List A) → 0 < length xs → is_empty (xs ++ ys) ≡ false
  some-first [] ys h = absurd (omega (arith, h))
  some-first (x ∷ xs) ys h = refl

module _ (columns : List Column) (records : Records) (step before : ℕ) where
  -- the next record that was not read ahead, and those from the place that is `step` places further
  rest-read : (further most : ℕ) (one : Scanned) → 0 < step → before < length records - 1 → one ≡ scanned_record (before + 1) (row_of columns (get_or records (before + 1) []))
      → length records - 1 ≤ most → further ≡ min (before + step) most → rest_of columns records step before ≡ one ∷ rest_of columns records step further
  rest-read further most one some there is few far =
      rest-next columns records step before one some there is ∙ ap (λ rest. one ∷ rest) (rest-far columns records step (before + step) further most few far)

  -- it is taken
  pub took-next : (further most : ℕ) (one : Scanned) (left ahead ahead_now : List Scanned) → left ≡ ahead ++ rest_of columns records step before → ahead ≡ [] → ahead_now ≡ []
      → 0 < step → before < length records - 1 → one ≡ scanned_record (before + 1) (row_of columns (get_or records (before + 1) []))
      → length records - 1 ≤ most → further ≡ min (before + step) most → left ≡ one ∷ (ahead_now ++ rest_of columns records step further)
  took-next further most one left ahead ahead_now view none none_now some there is few far =
      view ∙ rw (none, none_now) (rest-read further most one some there is few far)

  -- it is read ahead
  pub read-next : (further most : ℕ) (one : Scanned) (left ahead : List Scanned) → left ≡ ahead ++ rest_of columns records step before
      → 0 < step → before < length records - 1 → one ≡ scanned_record (before + 1) (row_of columns (get_or records (before + 1) []))
      → length records - 1 ≤ most → further ≡ min (before + step) most → (ahead ++ one ∷ []) ++ rest_of columns records step further ≡ left
  read-next further most one left ahead view some there is few far =
      append_assoc ahead (one ∷ []) (rest_of columns records step further)
      ∙ ap (λ rest. ahead ++ rest) (sym (rest-read further most one some there is few far)) ∙ sym view

pub pushed-onto : (now reserved ahead : List Scanned) (one : Scanned) → now ≡ reserved ++ one ∷ [] → reserved ≡ ahead → now ≡ ahead ++ one ∷ []
pushed-onto now reserved ahead one pushed same = rw same at pushed

-- what holds of each element of a list by its number holds with one more
pub each-push : {A : Type 0} (P : ℕ → A → Type 0) (xs : List A) (x : A) (n : ℕ) → length xs ≡ n → ((k : ℕ) (d : A) → k < n → P k (get_or xs k d)) → P n x
    → (k : ℕ) (d : A) → k < n + 1 → P k (get_or (xs ++ x ∷ []) k d)
each-push P xs x n long each last k d h = elim (cases_Bool (nat_lt k n)) [
  | inl t ↦ let less = ltb-true k n t in rw (get_or_append_left xs (x ∷ []) d k (omega (arith, less, long))) (each k d less)
  | inr t ↦
      let same : k ≡ n = omega (arith, h, ltb-false k n t) in
      rw (get_or_push xs x d k (long ∙ sym same), same) last
]
