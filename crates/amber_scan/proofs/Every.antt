-- Each so many of the records of a file.
use Rattle.std.proofs.Common.{◌≡◌, ◌≢◌, ℕ, zero, suc, ◌+◌, ◌-◌, ◌%◌, ◌/◌, ◌*◌, ◌<◌, leb, nat_lt, ◌≤◌, ◌==◌, true, false, List, [], ◌∷◌, drop, length, get_or, map, min, Result, inl, inr, refl, sym, ap, ◌∙◌, arith, eq-eqb, length-drop, add-one}
use Rattle.std.proofs.lemmas.Bool.{cases_Bool, leb-false, leb-true, ltb-false, ltb-true, ne_eqb}
use Rattle.std.proofs.lemmas.List.{drop-drop, drop_all, drop_more, get_or-map, length-map}
use Rattle.std.proofs.Math.Nat.{add-div_right, add-mod_right, add-mul-mod_self_left, div-eq_of_lt, mod-add-div, mod-eq_of_lt, mod-lt}
use Rattle.amber_rows.specs.Lists.{is_empty, later_of}
use Rattle.amber_rows.specs.Record.{file_records, row_of, typed_records}
use Rattle.amber_rows.specs.Shares.{share_of, turn_of, with_numbers}
use Rattle.amber_rows.specs.declared.value.Value.{Value}
use Rattle.amber_rows.specs.declared.column.Column.{Column}
use Rattle.amber_rows.specs.declared.record.RowFault.{RowFault}
use Rattle.amber_scan.specs.Shares.{every, scanned_number, scanned_of, scanned_record, scanned_records}
use Rattle.amber_scan.specs.declared.share.Scanned.{Scanned}

abbrev Typed : Type 0
Typed = List (Result (List Value) RowFault)

abbrev pub Records : Type 0
Records = List (List (List ℕ))

-- ---- each so many

every-drop : (step skip : ℕ) (xs : List Scanned) → every step skip xs ≡ every step 0 (drop skip xs)
unfolding every
every-drop step zero xs = refl
every-drop step (suc skip) [] = refl
every-drop step (suc skip) (x ∷ xs) = every-drop step skip xs

every-cons : (step : ℕ) (x : Scanned) (xs : List Scanned) → every step 0 (x ∷ xs) ≡ x ∷ every step (step - 1) xs
unfolding every
every-cons step x xs = refl

every-none : (step : ℕ) → every {A = Scanned} step 0 [] ≡ []
unfolding every
every-none step = refl

-- the next one, and those from `step` places on
every-next : (step n : ℕ) (all : List Scanned) (x : Scanned) → 0 < step → n < length all → get_or all n x ≡ x
    → every step 0 (drop n all) ≡ x ∷ every step 0 (drop (n + step) all)
every-next step n all x some h is =
    let later : (n + 1) + (step - 1) ≡ n + step = omega (arith, some) in
    ap (every step 0) (drop_more all n x h ∙ ap (λ y. y ∷ drop (n + 1) all) is)
    ∙ every-cons step x (drop (n + 1) all)
    ∙ ap (λ ys. x ∷ ys) (every-drop step (step - 1) (drop (n + 1) all) ∙ ap (every step 0) (drop-drop (step - 1) (n + 1) all ∙ ap (λ k. drop k all) later))

every-past : (step n : ℕ) (all : List Scanned) → length all ≤ n → every step 0 (drop n all) ≡ []
every-past step n all h = ap (every step 0) (drop_all n all h) ∙ every-none step

-- how many they are
length-every : {A : Type 0} (step skip : ℕ) (xs : List A) → skip < step → length (every step skip xs) ≡ (length xs + (step - 1) - skip) / step
unfolding every
length-every step skip [] h =
    let low : 0 + (step - 1) - skip < step = omega (arith, h) in
    sym (div-eq_of_lt low)
length-every step zero (x ∷ xs) h =
    let same : suc (length xs) + (step - 1) - 0 ≡ length xs + step = omega (arith, h) in
    let less : length xs + (step - 1) - (step - 1) ≡ length xs = omega arith in
    let later : length (every step (step - 1) xs) ≡ length xs / step = length-every step (step - 1) xs (omega (arith, h)) ∙ ap (λ n. n / step) less in
    let one : length xs / step + 1 ≡ (suc (length xs) + (step - 1) - 0) / step = sym (add-div_right (length xs) h) ∙ ap (λ n. n / step) (sym same) in
    omega (arith, later, one)
length-every step (suc skip) (x ∷ xs) h =
    let same : length xs + (step - 1) - skip ≡ suc (length xs) + (step - 1) - suc skip = omega arith in
    length-every step skip xs (omega (arith, h)) ∙ ap (λ n. n / step) same

-- ---- the records of a file

length-with : (k : ℕ) (xs : Typed) → length (with_numbers scanned_record k xs) ≡ length xs
unfolding with_numbers
length-with k [] = refl
length-with k (x ∷ xs) = rw (length-with (k + 1) xs) refl

with-here : (k : ℕ) (xs : Typed) (n : ℕ) (d : Scanned) (e : Result (List Value) RowFault) → n < length xs
    → get_or (with_numbers scanned_record k xs) n d ≡ scanned_record (k + n) (get_or xs n e)
unfolding with_numbers
with-here k [] n d e h = absurd (omega (arith, h))
with-here k (x ∷ xs) zero d e h = let same : k + 0 ≡ k = omega arith in rw same refl
with-here k (x ∷ xs) (suc n) d e h = let same : (k + 1) + n ≡ k + suc n = omega arith in with-here (k + 1) xs n d e (omega (arith, h)) ∙ ap (λ m. scanned_record m (get_or xs n e)) same

length-later : (records : Records) → length (later_of records) ≡ length records - 1
length-later [] = refl
length-later (x ∷ records) = omega arith

later-here : (records : Records) (n : ℕ) (d : List (List ℕ)) → n < length records - 1 → get_or (later_of records) n d ≡ get_or records (n + 1) d
later-here [] n d h = absurd (omega (arith, h))
later-here (x ∷ records) n d h = rw add-one refl

length-scanned : (columns : List Column) (records : Records) → length (scanned_of columns records) ≡ length records - 1
length-scanned columns records =
    length-with 1 (map (row_of columns) (later_of records)) ∙ length-map (later_of records) (row_of columns) ∙ length-later records

scanned-here : (columns : List Column) (records : Records) (n : ℕ) (d : Scanned) → n < length records - 1
    → get_or (scanned_of columns records) n d ≡ scanned_record (n + 1) (row_of columns (get_or records (n + 1) []))
scanned-here columns records n d h =
    let later = later_of records in
    let within : n < length later = omega (arith, h, length-later records) in
    let there : n < length (map (row_of columns) later) = omega (arith, within, length-map later (row_of columns)) in
    let place : 1 + n ≡ n + 1 = omega arith in
    with-here 1 (map (row_of columns) later) n d (row_of columns []) there
    ∙ ap (λ what. scanned_record (1 + n) what) (get_or-map (row_of columns) later n [] (row_of columns []) within ∙ ap (row_of columns) (later-here records n [] h))
    ∙ ap (λ m. scanned_record m (row_of columns (get_or records (n + 1) []))) place

-- ---- what is left of them

-- the records from a place on, and each so many after
abbrev pub rest_of : List Column → Records → ℕ → ℕ → List Scanned
rest_of columns records step n = every step 0 (drop n (scanned_of columns records))

pub rest-next : (columns : List Column) (records : Records) (step n : ℕ) (one : Scanned) → 0 < step → n < length records - 1
    → one ≡ scanned_record (n + 1) (row_of columns (get_or records (n + 1) []))
    → rest_of columns records step n ≡ one ∷ rest_of columns records step (n + step)
rest-next columns records step n one some h is =
    every-next step n (scanned_of columns records) one some (omega (arith, h, length-scanned columns records)) (scanned-here columns records n one h ∙ sym is)

pub rest-past : (columns : List Column) (records : Records) (step n : ℕ) → length records - 1 ≤ n → rest_of columns records step n ≡ []
rest-past columns records step n h = every-past step n (scanned_of columns records) (omega (arith, h, length-scanned columns records))

-- past the last record it does not matter how far
pub rest-far : (columns : List Column) (records : Records) (step n m most : ℕ) → length records - 1 ≤ most → m ≡ min n most → rest_of columns records step n ≡ rest_of columns records step m
rest-far columns records step n m most h is = elim (cases_Bool (nat_lt n most)) [
  | inl t ↦ let less = ltb-true n most t in let same : n ≡ m = omega (arith, is, less) in ap (rest_of columns records step) same
  | inr t ↦
      let more = ltb-false n most t in
      rest-past columns records step n (omega (arith, h, more)) ∙ sym (rest-past columns records step m (omega (arith, h, more, is)))
]

pub length-rest : (columns : List Column) (records : Records) (step n : ℕ) → 0 < step → n < length records - 1
    → length (rest_of columns records step n) ≡ (length records - 1 - n - 1) / step + 1
length-rest columns records step n some h =
    let all = scanned_of columns records in
    let long : length (drop n all) ≡ length records - 1 - n = omega (arith, length-drop n all, length-scanned columns records) in
    let same : length (drop n all) + (step - 1) - 0 ≡ (length records - 1 - n - 1) + step = omega (arith, some, h, long) in
    length-every step 0 (drop n all) some ∙ ap (λ k. k / step) same ∙ add-div_right (length records - 1 - n - 1) some

pub rest-empty : (columns : List Column) (records : Records) (step n : ℕ) → 0 < step → leb (length records - 1) n ≡ is_empty (rest_of columns records step n)
rest-empty columns records step n some = elim (cases_Bool (leb (length records - 1) n)) [
  | inl t ↦ rw (t, rest-past columns records step n (leb-true (length records - 1) n t)) refl
  | inr t ↦
      let less : n < length records - 1 = leb-false (length records - 1) n t in
      rw (t, rest-next columns records step n (scanned_record (n + 1) (row_of columns (get_or records (n + 1) []))) some less refl) refl
]

-- ---- a worker's share is each so many

-- two turns less than a round apart are not one
other-turn : (m s workers : ℕ) → 0 < s → s < workers → m % workers ≢ (m + s) % workers
other-turn m s workers some h e =
    let r = m % workers in
    let q = m / workers in
    let low : r < workers = mod-lt m (omega (arith, some, h)) in
    let split : m + s ≡ (r + s) + workers * q = omega (arith, mod-add-div m workers) in
    let shift : (m + s) % workers ≡ (r + s) % workers = ap (λ k. k % workers) split ∙ add-mul-mod_self_left (r + s) workers q in
    elim (cases_Bool (nat_lt (r + s) workers)) [
      | inl t ↦
          let less : r + s < workers = ltb-true (r + s) workers t in
          absurd (omega (arith, some, e ∙ shift ∙ mod-eq_of_lt less))
      | inr t ↦
          let more : workers ≤ r + s = ltb-false (r + s) workers t in
          let rest : r + s - workers < workers = omega (arith, low, h, more) in
          let back : (r + s - workers) + workers ≡ r + s = omega (arith, more) in
          let less : (r + s) % workers ≡ r + s - workers = ap (λ k. k % workers) (sym back) ∙ add-mod_right (r + s - workers) workers ∙ mod-eq_of_lt rest in
          absurd (omega (arith, h, more, e ∙ shift ∙ less))
    ]

share-from : (workers worker m skip : ℕ) (xs : Typed) → worker < workers → skip < workers → (m + skip) % workers ≡ worker
    → share_of scanned_number workers worker (with_numbers scanned_record (m + 1) xs) ≡ every workers skip (with_numbers scanned_record (m + 1) xs)
unfolding share_of with_numbers every
share-from workers worker m skip [] w s at = refl
share-from workers worker m zero (x ∷ xs) w s at =
    let same : m + 1 - 1 ≡ m + 0 = omega arith in
    let turn : (turn_of workers (m + 1) == worker) ≡ true = eq-eqb (turn_of workers (m + 1)) worker (ap (λ k. k % workers) same ∙ at) in
    let round : m + 1 + (workers - 1) ≡ (m + 0) + workers = omega (arith, w) in
    let later : (m + 1 + (workers - 1)) % workers ≡ worker = ap (λ k. k % workers) round ∙ add-mod_right (m + 0) workers ∙ at in
    rw turn (ap (λ ys. scanned_record (m + 1) x ∷ ys) (share-from workers worker (m + 1) (workers - 1) xs w (omega (arith, w)) later))
share-from workers worker m (suc skip) (x ∷ xs) w s at =
    let same : m + 1 - 1 ≡ m = omega arith in
    let other : turn_of workers (m + 1) ≢ worker = λ e. other-turn m (suc skip) workers (omega arith) s (sym (ap (λ k. k % workers) same) ∙ e ∙ sym at) in
    let turn : (turn_of workers (m + 1) == worker) ≡ false = ne_eqb (turn_of workers (m + 1)) worker other in
    let next : m + 1 + skip ≡ m + suc skip = omega arith in
    rw turn (share-from workers worker (m + 1) skip xs w (omega (arith, s)) (ap (λ k. k % workers) next ∙ at))

pub share-rest : (workers worker : ℕ) (columns : List Column) (records : Records) → worker < workers
    → share_of scanned_number workers worker (scanned_of columns records) ≡ rest_of columns records workers worker
share-rest workers worker columns records w =
    let none : 0 + worker ≡ worker = omega arith in
    share-from workers worker 0 worker (map (row_of columns) (later_of records)) w w (ap (λ k. k % workers) none ∙ mod-eq_of_lt w)
    ∙ every-drop workers worker (scanned_of columns records)

-- the records of a file
pub records-scanned : (columns : List Column) (records : Records) (file : List ℕ) → records ≡ file_records file → scanned_of columns records ≡ scanned_records columns file
unfolding typed_records
records-scanned columns records file e = ap (λ rs. with_numbers scanned_record 1 (map (row_of columns) (later_of rs))) e
