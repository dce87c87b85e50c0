-- Lists of which one element was changed, or the first ones were, or all.
use Rattle.std.proofs.Common.{◌≡◌, refl, sym, ap, ◌∙◌, ℕ, zero, suc, ◌+◌, ◌-◌, ◌<◌, ◌≤◌, eqb, List, [], ◌∷◌, ◌++◌, length, map, take, drop, get_or, set, if◌then◌else◌, Bool, true, false, arith, append-nil, append_assoc, add-zero}
use Rattle.std.proofs.lemmas.Bool.{eq-eqb, ne_eqb}
use Rattle.std.proofs.lemmas.Grind.{take_at_read}
use Rattle.std.proofs.lemmas.List.{drop_all, drop_more, get_or-append_right, get_or-drop, length-map, length-take-le, map-append, take_all}
use Rattle.std.proofs.Math.Seq.{set-append_seam}
use Rattle.amber_rows.specs.Lists.{changed_at, changed_from}

module _ {A : Type 0} (change : A → A) where
  -- numbers below the first one change nothing
  below : (number place : ℕ) (xs : List A) → number < place → changed_from change number place xs ≡ xs
  below number place [] less = refl
  below number place (x ∷ xs) less = by (eqb place number) (ne_eqb place number (omega (arith, less))) (below number (suc place) xs (omega (arith, less)))
    where
      by : (b : Bool) → b ≡ false → changed_from change number (suc place) xs ≡ xs → (if b then change x else x) ∷ changed_from change number (suc place) xs ≡ x ∷ xs
      by false e rest = ap (λ ys. x ∷ ys) rest
      by true e rest = absurd (cc e)

  -- the element behind so many others, where the first has this number
  write-from : (number place i : ℕ) (xs : List A) (d : A) → number ≡ place + i → i < length xs
      → set xs i (change (get_or xs i d)) ≡ changed_from change number place xs
  write-from number place i [] d is less = absurd (omega arith)
  write-from number place zero (x ∷ xs) d is less =
      rw (eq-eqb place number (omega (arith, is)), below number (suc place) xs (omega (arith, is))) refl
  write-from number place (suc i) (x ∷ xs) d is less =
      rw (ne_eqb place number (omega (arith, is)), write-from number (suc place) i xs d (omega (arith, is)) (omega arith)) refl

  -- a write at the place of an element with a number, of a list numbered from 1
  pub write-at : (op : ℕ) (xs : List A) (d old now : A) → 0 < op → op ≤ length xs → old ≡ get_or xs (op - 1) d → now ≡ change old
      → set xs (op - 1) now ≡ changed_at change op xs
  write-at op xs d old now some there is changed =
      ap (λ x. set xs (op - 1) x) (changed ∙ ap change is) ∙ write-from op 1 (op - 1) xs d (omega (arith, some)) (omega arith)

  -- ---- the first ones were changed

  pub read-left : (xs now : List A) (i : ℕ) (d : A) → i < length xs → now ≡ map change (take i xs) ++ drop i xs → get_or now i d ≡ get_or xs i d
  read-left xs now i d h is =
      let long : length (map change (take i xs)) ≡ i = length-map (take i xs) change ∙ length-take-le i xs (omega (arith, h)) in
      let none : i - i ≡ 0 = omega arith in
      ap (λ ys. get_or ys i d) is ∙ get_or-append_right (map change (take i xs)) (drop i xs) i i d long (omega arith)
      ∙ ap (λ n. get_or (drop i xs) n d) none ∙ get_or-drop i xs 0 d ∙ ap (λ n. get_or xs n d) (add-zero i)

  pub write-left : (xs now : List A) (i : ℕ) (d x : A) → i < length xs → now ≡ map change (take i xs) ++ drop i xs
      → x ≡ change (get_or now i d) → set now i x ≡ map change (take (i + 1) xs) ++ drop (i + 1) xs
  write-left xs now i d x h is x-is =
      let one = get_or xs i d in
      let long : length (map change (take i xs)) ≡ i = length-map (take i xs) change ∙ length-take-le i xs (omega (arith, h)) in
      let split : drop i xs ≡ one ∷ drop (i + 1) xs = drop_more xs i d h in
      let it : x ≡ change one = x-is ∙ ap change (read-left xs now i d h is) in
      ap (λ ys. set ys i x) (is ∙ ap (λ ys. map change (take i xs) ++ ys) split)
      ∙ ap (λ n. set (map change (take i xs) ++ one ∷ drop (i + 1) xs) n x) (sym long)
      ∙ set-append_seam (map change (take i xs)) one (drop (i + 1) xs) x
      ∙ ap (λ y. map change (take i xs) ++ y ∷ drop (i + 1) xs) it
      ∙ sym (append_assoc (map change (take i xs)) (change one ∷ []) (drop (i + 1) xs))
      ∙ ap (λ ys. ys ++ drop (i + 1) xs) (sym (map-append change (take i xs) (one ∷ [])) ∙ ap (map change) (sym (take_at_read xs i d h).1))

-- all were changed
pub map-whole : {A : Type 0} (f : A → A) (xs now : List A) (n : ℕ) → length xs ≤ n → now ≡ map f (take n xs) ++ drop n xs → now ≡ map f xs
map-whole f xs now n all is =
    is ∙ ap (λ rest. map f (take n xs) ++ rest) (drop_all n xs all) ∙ append-nil (map f (take n xs)) ∙ ap (map f) (take_all n xs all)
