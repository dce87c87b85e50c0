-- What the definitions say of the operators of a flow one by one.
use Rattle.std.proofs.Common.{◌≡◌, ℕ, zero, suc, ◌+◌, ◌-◌, ◌<◌, ◌≤◌, Bool, true, false, cond, eqb, List, [], ◌∷◌, ◌++◌, length, get_or, take, drop, count_by, slice_get, unwrap_or, Option, Some, None, IsSomeAnd, Result, refl, sym, ap, ◌∙◌, arith, add-one, add-zero, append_assoc}
use Rattle.std.proofs.Math.Seq.{get_or-append_seam}
use Rattle.std.proofs.lemmas.Bool.{ne_eqb, eqb-false}
use Rattle.std.proofs.lemmas.List.{append-nil, drop_more, drop_all, length-take, get_or_append_left, length_push, take-append-drop, take_more}
use Rattle.std.proofs.lemmas.List.Sums.{sum_by-cons}
use Rattle.std.proofs.lemmas.Option.{unwrap_or-slice_get, slice_get-get_or}
use Rattle.amber_rows.specs.Lists.{nth, first_list, first_of, later_of, list_at}
use Rattle.amber_rows.specs.FlowRules.{IsFlow, IsNext}
use Rattle.amber_rows.specs.Record.{has_header}
use Rattle.amber_rows.proofs.FlowFacts.{AreNext-at}
use Rattle.amber_rows.specs.declared.value.Value.{Value}
use Rattle.amber_rows.specs.declared.record.RowFault.{RowFault}
use Rattle.amber_rows.specs.declared.flow.Operator.{Operator}
use Rattle.amber_meaning.specs.Plain.{files_after, outputs, records_of, refusals, wrong_header}
use Rattle.amber_meaning.specs.Kinds.{refused_by, rows_of}
use Rattle.amber_rows.specs.Kinds.{is_scan}
use Rattle.amber_meaning.specs.ScanFiles.{files_left, is_headed, records_at}
use Rattle.amber_meaning.specs.declared.answer.Refusal.{Refusal}

abbrev pub Files : Type 0
Files = List (List ℕ)

abbrev pub Lists : Type 0
Lists = List (List (List Value))

abbrev pub Records : Type 0
Records = List (List (Result (List Value) RowFault))

-- ---- the files

files_left-append : (files : Files) (xs ys : List Operator) → files_left files (xs ++ ys) ≡ files_left (files_left files xs) ys
unfolding files_left
files_left-append files [] ys = refl
files_left-append files (x ∷ xs) ys = files_left-append (files_after x.what files) xs ys

pub files_left-more : (files : Files) (flow : List Operator) (i : ℕ) (o : Operator) → i < length flow → o ≡ get_or flow i o
    → files_left files (take (i + 1) flow) ≡ files_after o.what (files_left files (take i flow))
unfolding files_left
files_left-more files flow i o h e =
    let next : take (i + 1) flow ≡ take i flow ++ o ∷ [] = take_more flow i o h ∙ ap (λ x. take i flow ++ x ∷ []) (sym e) in
    rw next (files_left-append files (take i flow) (o ∷ []))

drop_nil : {A : Type 0} (n : ℕ) (none : List A) → none ≡ [] → drop n none ≡ none
drop_nil zero none e = refl
drop_nil (suc n) none e = rw e refl

drop_by : (b : Bool) (files : Files) (n : ℕ) → drop n (cond b (later_of files) files) ≡ drop (n + cond b 1 0) files
drop_by true [] n = drop_nil n [] refl ∙ sym (drop_nil (n + 1) [] refl)
drop_by true (file ∷ files) n = rw add-one refl
drop_by false files n = rw add-zero refl

pub files_left-drop : (files : Files) (xs : List Operator) → files_left files xs ≡ drop (count_by (λ o. is_scan o.what) xs) files
unfolding files_left
files_left-drop files [] = refl
files_left-drop files (x ∷ xs) =
    let n = count_by (λ (o : Operator). is_scan o.what) xs in
    let more : count_by (λ (o : Operator). is_scan o.what) (x ∷ xs) ≡ n + cond (is_scan x.what) 1 0 = omega (arith, sum_by-cons (λ (o : Operator). cond (is_scan o.what) 1 0) x xs) in
    files_left-drop (files_after x.what files) xs ∙ drop_by (is_scan x.what) files n ∙ ap (λ k. drop k files) (sym more)

pub file-at : (files : Files) (n : ℕ) (d : List ℕ) → n < length files → first_of (drop n files) ≡ Some (get_or files n d)
file-at [] n d h = absurd (omega arith)
file-at (x ∷ files) zero d h = refl
file-at (x ∷ files) (suc n) d h = file-at files n d (omega arith)

pub file-past : (files : Files) (n : ℕ) → length files ≤ n → first_of (drop n files) ≡ None
file-past [] zero h = refl
file-past [] (suc n) h = refl
file-past (x ∷ files) zero h = absurd (omega arith)
file-past (x ∷ files) (suc n) h = file-past files n (omega arith)

-- the first file, or none
pub first_list-is : (files : Files) → first_list files ≡ unwrap_or (first_of files) []
first_list-is [] = refl
first_list-is (x ∷ files) = refl

-- the records of an operator are those of the file that is next after the operators before it
pub records-here : (files : Files) (flow : List Operator) (i : ℕ) (o : Operator) → i < length flow → o ≡ get_or flow i o
    → get_or (records_of files flow) i [] ≡ records_at o.what o.schema (first_list (files_left files (take i flow)))
unfolding records_of files_left
records-here files [] i o h e = absurd (omega arith)
records-here files (x ∷ flow) zero o h e = rw e refl
records-here files (x ∷ flow) (suc i) o h e = records-here (files_after x.what files) flow i o (omega arith) e

-- ---- headers, from an operator to the next

drop_here : (flow : List Operator) (i : ℕ) (o : Operator) → i < length flow → o ≡ get_or flow i o → drop i flow ≡ o ∷ drop (i + 1) flow
drop_here flow i o h e = drop_more flow i o h ∙ ap (λ x. x ∷ drop (i + 1) flow) (sym e)

header_go : (b t : Bool) (files : Files) (more : Files → Option ℕ) (stop : Option ℕ) → cond b t true ≡ true
    → cond b (cond t (more (later_of files)) stop) (more files) ≡ more (cond b (later_of files) files)
header_go true true files more stop e = refl
header_go true false files more stop e = absurd (cc)
header_go false t files more stop e = refl

header_stop : (b t : Bool) (x y stop : Option ℕ) → cond b t true ≡ false → cond b (cond t x stop) y ≡ stop
header_stop true true x y stop e = absurd (cc)
header_stop true false x y stop e = refl
header_stop false t x y stop e = absurd (cc)

pub wrong_header-more : (files : Files) (flow : List Operator) (i : ℕ) (o : Operator) (whole : Option ℕ) → i < length flow → o ≡ get_or flow i o
    → whole ≡ wrong_header (i + 1) (files_left files (take i flow)) (drop i flow) → is_headed o.what o.schema (first_list (files_left files (take i flow))) ≡ true
    → whole ≡ wrong_header (i + 1 + 1) (files_left files (take (i + 1) flow)) (drop (i + 1) flow)
unfolding wrong_header
wrong_header-more files flow i o whole h e so t =
    let left = files_left files (take i flow) in
    let here : wrong_header (i + 1) left (drop i flow) ≡ wrong_header (i + 1) left (o ∷ drop (i + 1) flow) = ap (λ ops. wrong_header (i + 1) left ops) (drop_here flow i o h e) in
    rw (files_left-more files flow i o h e) (
    so ∙ here
    ∙ header_go (is_scan o.what) (has_header o.schema (first_list left)) left (λ others. wrong_header (i + 1 + 1) others (drop (i + 1) flow)) (Some (i + 1)) t
    )

pub wrong_header-here : (files : Files) (flow : List Operator) (i : ℕ) (o : Operator) (whole : Option ℕ) → i < length flow → o ≡ get_or flow i o
    → whole ≡ wrong_header (i + 1) (files_left files (take i flow)) (drop i flow) → is_headed o.what o.schema (first_list (files_left files (take i flow))) ≡ false
    → whole ≡ Some (i + 1)
unfolding wrong_header
wrong_header-here files flow i o whole h e so t =
    let left = files_left files (take i flow) in
    let here : wrong_header (i + 1) left (drop i flow) ≡ wrong_header (i + 1) left (o ∷ drop (i + 1) flow) = ap (λ ops. wrong_header (i + 1) left ops) (drop_here flow i o h e) in
    so ∙ here
    ∙ header_stop (is_scan o.what) (has_header o.schema (first_list left)) (wrong_header (i + 1 + 1) (later_of left) (drop (i + 1) flow))
    (wrong_header (i + 1 + 1) left (drop (i + 1) flow)) (Some (i + 1)) t

pub wrong_header-end : (files : Files) (flow : List Operator) (i : ℕ) (whole : Option ℕ) → length flow ≤ i
    → whole ≡ wrong_header (i + 1) (files_left files (take i flow)) (drop i flow) → whole ≡ None
unfolding wrong_header
wrong_header-end files flow i whole h so = so ∙ rw (drop_all i flow h) refl

-- ---- refusals, from an operator to the next

first-at : (records : Records) (i : ℕ) → first_list (drop i records) ≡ get_or records i []
first-at [] zero = refl
first-at [] (suc i) = refl
first-at (x ∷ records) zero = refl
first-at (x ∷ records) (suc i) = first-at records i

later_suc : (records : Records) (i : ℕ) → later_of (drop i records) ≡ drop (suc i) records
later_suc [] zero = refl
later_suc [] (suc i) = refl
later_suc (x ∷ records) zero = refl
later_suc (x ∷ records) (suc i) = later_suc records i

later-at : (records : Records) (i : ℕ) → later_of (drop i records) ≡ drop (i + 1) records
later-at records i = rw add-one (later_suc records i)

pub refusals-more : (records : Records) (all : Lists) (flow : List Operator) (i : ℕ) (o : Operator) (whole old new : List Refusal) → i < length flow → o ≡ get_or flow i o
    → whole ≡ old ++ refusals (i + 1) (drop i records) all (drop i flow)
    → new ≡ old ++ refused_by (i + 1) o.what (get_or records i []) all
    → whole ≡ new ++ refusals (i + 1 + 1) (drop (i + 1) records) all (drop (i + 1) flow)
unfolding refusals
refusals-more records all flow i o whole old new h e so is =
    let first = sym (first-at records i) in
    rw (is, append_assoc, ← later-at records i, first) (so ∙ rw (drop_here flow i o h e) refl)

pub refusals-end : (records : Records) (all : Lists) (flow : List Operator) (i : ℕ) (whole found : List Refusal) → length flow ≤ i
    → whole ≡ found ++ refusals (i + 1) (drop i records) all (drop i flow) → found ≡ whole
unfolding refusals
refusals-end records all flow i whole found h so =
    let end : whole ≡ found ++ [] = so ∙ rw (drop_all i flow h) refl in sym (end ∙ append-nil found)

-- ---- rows

outputs-keeps : (records : Records) (done : Lists) (xs : List Operator) (k : ℕ) → k < length done → get_or (outputs records done xs) k [] ≡ get_or done k []
unfolding outputs
outputs-keeps records done [] k h = refl
outputs-keeps records done (x ∷ xs) k h =
    let r = rows_of x.what (first_list records) done in
    let lt : k < length (done ++ r ∷ []) = omega (arith, length_push done r) in
    outputs-keeps (later_of records) (done ++ r ∷ []) xs k lt ∙ get_or_append_left done (r ∷ []) [] k h

drop_later : (records : Records) (n : ℕ) → drop n (later_of records) ≡ drop (suc n) records
drop_later [] n = drop_nil n [] refl
drop_later (x ∷ records) n = refl

outputs-append : (records : Records) (done : Lists) (xs ys : List Operator) → outputs records done (xs ++ ys) ≡ outputs (drop (length xs) records) (outputs records done xs) ys
unfolding outputs
outputs-append records done [] ys = refl
outputs-append records done (x ∷ xs) ys =
    let now = done ++ rows_of x.what (first_list records) done ∷ [] in
    outputs-append (later_of records) now xs ys ∙ ap (λ rest. outputs rest (outputs (later_of records) now xs) ys) (drop_later records (length xs))

pub length-outputs : (records : Records) (done : Lists) (xs : List Operator) → length (outputs records done xs) ≡ length done + length xs
unfolding outputs
length-outputs records done [] = omega arith
length-outputs records done (x ∷ xs) =
    let r = rows_of x.what (first_list records) done in
    omega (arith, length-outputs (later_of records) (done ++ r ∷ []) xs, length_push done r)

-- the rows of the first operators stand in those of all
outputs-front : (records : Records) (xs ys : List Operator) (k : ℕ) → k < length xs → get_or (outputs records [] (xs ++ ys)) k [] ≡ get_or (outputs records [] xs) k []
outputs-front records xs ys k h =
    let lt : k < length (outputs records [] xs) = omega (arith, length-outputs records [] xs) in
    rw (outputs-append records [] xs ys) (outputs-keeps (drop (length xs) records) (outputs records [] xs) ys k lt)

outputs-mid : (records : Records) (xs : List Operator) (o : Operator) (ys : List Operator) → get_or (outputs records [] (xs ++ o ∷ ys)) (length xs) []
    ≡ rows_of o.what (get_or records (length xs) []) (outputs records [] xs)
unfolding outputs
outputs-mid records xs o ys =
    let front = outputs records [] xs in
    let rest = drop (length xs) records in
    let r = rows_of o.what (first_list rest) front in
    let long : length front ≡ length xs = omega (arith, length-outputs records [] xs) in
    let lt : length xs < length (front ++ r ∷ []) = omega (arith, length_push front r) in
    let step : outputs records [] (xs ++ o ∷ ys) ≡ outputs (later_of rest) (front ++ r ∷ []) ys = outputs-append records [] xs (o ∷ ys) in
    ap (λ rows. get_or rows (length xs) []) step ∙ outputs-keeps (later_of rest) (front ++ r ∷ []) ys (length xs) lt
    ∙ ap (λ k. get_or (front ++ r ∷ []) k []) (sym long) ∙ get_or-append_seam front r [] [] ∙ ap (λ one. rows_of o.what one front) (first-at records (length xs))

pub list_at-is : {A : Type 0} (lists : List (List A)) (op : ℕ) → 0 < op → list_at lists op ≡ get_or lists (op - 1) []
list_at-is lists op h = let e : eqb op 0 ≡ false = ne_eqb op 0 (omega arith) in rw e (unwrap_or-slice_get lists (op - 1) [])

take_all_long : (i : ℕ) (flow : List Operator) → i < length flow → length (take i flow) ≡ i
take_all_long i flow h = omega (arith, length-take i flow)

split_here : (flow : List Operator) (i : ℕ) (o : Operator) → i < length flow → o ≡ get_or flow i o → take i flow ++ o ∷ drop (i + 1) flow ≡ flow
split_here flow i o h e = ap (λ x. take i flow ++ x) (sym (drop_here flow i o h e)) ∙ take-append-drop i flow

rows_mid : (records : Records) (flow xs : List Operator) (o : Operator) (ys : List Operator) (i : ℕ) → xs ++ o ∷ ys ≡ flow → length xs ≡ i
    → get_or (outputs records [] flow) i [] ≡ rows_of o.what (get_or records i []) (outputs records [] xs)
rows_mid records flow xs o ys i e n =
    ap (λ all. get_or (outputs records [] all) i []) (sym e) ∙ ap (λ k. get_or (outputs records [] (xs ++ o ∷ ys)) k []) (sym n) ∙ outputs-mid records xs o ys
    ∙ ap (λ k. rows_of o.what (get_or records k []) (outputs records [] xs)) n

-- the rows of an operator are made of those of the operators before it
pub rows-here : (records : Records) (flow : List Operator) (i : ℕ) (o : Operator) → i < length flow → o ≡ get_or flow i o
    → get_or (outputs records [] flow) i [] ≡ rows_of o.what (get_or records i []) (outputs records [] (take i flow))
rows-here records flow i o h e =
    rows_mid records flow (take i flow) o (drop (i + 1) flow) i (split_here flow i o h e) (take_all_long i flow h)

-- the rows of an input are the same before an operator as in the end
pub rows-before : (records : Records) (flow : List Operator) (i input : ℕ) → i < length flow → 0 < input → input ≤ i
    → list_at (outputs records [] (take i flow)) input ≡ list_at (outputs records [] flow) input
rows-before records flow i input h some within =
    let long : length (take i flow) ≡ i = take_all_long i flow h in
    let lt : input - 1 < length (take i flow) = omega arith in
    let front : get_or (outputs records [] flow) (input - 1) [] ≡ get_or (outputs records [] (take i flow)) (input - 1) [] =
    ap (λ all. get_or (outputs records [] all) (input - 1) []) (sym (take-append-drop i flow)) ∙ outputs-front records (take i flow) (drop i flow) (input - 1) lt in
    list_at-is (outputs records [] (take i flow)) input some ∙ sym front ∙ sym (list_at-is (outputs records [] flow) input some)

-- ---- operators by their numbers

within_get : {A : Type 0} (xs : List A) (k : ℕ) (P : A → Type 0) → IsSomeAnd (slice_get xs k) P → k < length xs
within_get [] k P h = absurd h
within_get (x ∷ xs) zero P h = omega arith
within_get (x ∷ xs) (suc k) P h = omega (arith, within_get xs k P h)

within_by : {A : Type 0} (xs : List A) (n : ℕ) (P : A → Type 0) (b : Bool) → eqb n 0 ≡ b → IsSomeAnd (cond b None (slice_get xs (n - 1))) P → (0 < n) × (n ≤ length xs)
within_by xs n P true e h = absurd h
within_by xs n P false e h = (omega (arith, eqb-false n 0 e), omega (arith, within_get xs (n - 1) P h))

pub nth-within : {A : Type 0} (xs : List A) (n : ℕ) (P : A → Type 0) → IsSomeAnd (nth xs n) P → (0 < n) × (n ≤ length xs)
nth-within xs n P h = within_by xs n P (eqb n 0) refl h

pub nth-here : {A : Type 0} (xs : List A) (i : ℕ) (x : A) → i < length xs → x ≡ get_or xs i x → nth xs (i + 1) ≡ Some x
nth-here xs i x h e =
    let no : eqb (i + 1) 0 ≡ false = ne_eqb (i + 1) 0 (omega arith) in
    let less : i + 1 - 1 ≡ i = omega arith in
    rw (no, less) (slice_get-get_or xs i x h ∙ ap Some (sym e))

-- an operator may stand after those before it
pub next-here : (flow : List Operator) → IsFlow flow → (i : ℕ) (o : Operator) → i < length flow → o ≡ get_or flow i o → IsNext (take i flow) o
next-here flow ok i o h e =
    let next = AreNext-at [] flow i o h ok.operators in
    let same : get_or flow i o ≡ o = sym e in
    rw same at next
