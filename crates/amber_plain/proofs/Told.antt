-- What was refused while operators are evaluated: each operator's refusals were told, or its records are yet to be read.
use Rattle.std.proofs.Common.{◌≡◌, ◌≢◌, ◌⊎◌, ℕ, suc, ◌+◌, ◌-◌, ◌<◌, ◌≤◌, List, [], ◌∷◌, ◌++◌, length, get_or, set, inl, inr, refl, sym, ap, ◌∙◌, arith}
use Rattle.std.specs.List.{flat_map}
use Rattle.std.proofs.lemmas.Bool.{cases_eq}
use Rattle.std.proofs.lemmas.List.{get_or-set_other, get_or-set_same, get_or_append_left, get_or_push, length-set, length_push}
use Rattle.amber_rows.specs.Lists.{first_list, later_of, list_at}
use Rattle.amber_rows.specs.Operators.{group_result, refused_keys}
use Rattle.amber_rows.specs.Order.{sort_rows}
use Rattle.amber_rows.specs.declared.value.Value.{Value}
use Rattle.amber_rows.specs.declared.flow.What.{What}
use Rattle.amber_rows.specs.declared.flow.What.TheVariants as what
use Rattle.amber_rows.specs.declared.flow.Operator.{Operator}
use Rattle.amber_meaning.specs.Kinds.{refused_by}
use Rattle.amber_meaning.specs.Plain.{refusals}
use Rattle.amber_meaning.specs.Refused.{refused_groups, refused_records}
use Rattle.amber_meaning.specs.declared.answer.Refusal.{Refusal}
use Rattle.amber_meaning.proofs.Operators.{Lists, list_at-is}
use Rattle.amber_plain.specs.Unread.{HasInputs, HasOne, Records, Waiting, nothing_unread, unread_at, unread_rows, without}
use Rattle.amber_plain.specs.Steps.{others_of, unread_of, read_for, refused_now, told_by}
use Rattle.amber_plain.specs.declared.stage.Source.{Source}
use Rattle.amber_plain.specs.declared.stage.Source.TheVariants as source
use Rattle.amber_plain.proofs.Waits.{list_at-lists, lists_of, unread_at-is, probe-there, taken-other, taken-same}

abbrev pub Refused : Type 0
Refused = ℕ → List Refusal

-- the records of the scan with this number are yet to be read
pub record Waits (waiting : List Waiting) (op : ℕ) : Type 0 where
  pub place : ℕ
  pub there : HasOne waiting place
  pub is : (unread_at waiting place).source ≡ source.Scan op

-- what the first operators refuse was told, or waits; what waits are the records of scans
pub record IsTold (records : Records) (all : Refused) (waiting : List Waiting) (told : List (List Refusal)) : Type 0 where
  pub count : length told ≡ length waiting
  pub told_so_far : (op : ℕ) → 0 < op → op ≤ length waiting → (list_at told op ≡ all op) ⊎ Waits waiting op
  pub scans : (place op : ℕ) → HasOne waiting place → (unread_at waiting place).source ≡ source.Scan op → (0 < op) × (op ≤ length waiting) × (all op ≡ refused_records op 1 (list_at records op))

-- ---- lists by number

list_at-other : (told : List (List Refusal)) (one : List Refusal) (input op : ℕ) → 0 < op → 0 < input → op ≢ input → list_at (set told (input - 1) one) op ≡ list_at told op
list_at-other told one input op a b ne =
    list_at-is (set told (input - 1) one) op a ∙ get_or-set_other told (input - 1) (op - 1) one [] (λ e. ne (omega arith)) ∙ sym (list_at-is told op a)

list_at-same : (told : List (List Refusal)) (one : List Refusal) (op : ℕ) → 0 < op → op ≤ length told → list_at (set told (op - 1) one) op ≡ one
list_at-same told one op a b = list_at-is (set told (op - 1) one) op a ∙ get_or-set_same told (op - 1) one [] (omega (arith, a, b))

list_at-left : (told : List (List Refusal)) (one : List Refusal) (op : ℕ) → 0 < op → op ≤ length told → list_at (told ++ one ∷ []) op ≡ list_at told op
list_at-left told one op a b =
    list_at-is (told ++ one ∷ []) op a ∙ get_or_append_left told (one ∷ []) [] (op - 1) (omega (arith, a, b)) ∙ sym (list_at-is told op a)

list_at-last : (told : List (List Refusal)) (one : List Refusal) (op : ℕ) → op ≡ length told + 1 → list_at (told ++ one ∷ []) op ≡ one
list_at-last told one op e = list_at-is (told ++ one ∷ []) op (omega arith) ∙ get_or_push told one [] (op - 1) (omega arith)

pub unread-left : (waiting : List Waiting) (one : Waiting) (op : ℕ) → 0 < op → op ≤ length waiting → unread_at (waiting ++ one ∷ []) op ≡ unread_at waiting op
unread-left waiting one op a b =
    unread_at-is (waiting ++ one ∷ []) op a ∙ get_or_append_left waiting (one ∷ []) nothing_unread (op - 1) (omega (arith, a, b)) ∙ sym (unread_at-is waiting op a)

pub unread-last : (waiting : List Waiting) (one : Waiting) (op : ℕ) → op ≡ length waiting + 1 → unread_at (waiting ++ one ∷ []) op ≡ one
unread-last waiting one op e = unread_at-is (waiting ++ one ∷ []) op (omega arith) ∙ get_or_push waiting one nothing_unread (op - 1) (omega arith)

-- ---- one that waits is read

told-length : (records : Records) (told : List (List Refusal)) (from : Source) → length (told_by records told from) ≡ length told
told-length records told (source.Rows rows) = refl
told-length records told (source.Scan op) = length-set told (op - 1) (refused_records op 1 (list_at records op))

-- what was told stays, and what was read is told
told-stays : (records : Records) (all : Refused) (told : List (List Refusal)) (from : Source) (op : ℕ) → 0 < op → op ≤ length told
    → ((one : ℕ) → from ≡ source.Scan one → (0 < one) × (all one ≡ refused_records one 1 (list_at records one))) → list_at told op ≡ all op → list_at (told_by records told from) op ≡ all op
told-stays records all told (source.Rows rows) op a b scan e = e
told-stays records all told (source.Scan one) op a b scan e = elim (cases_eq op one) [
  | inl same ↦
      let at : list_at (set told (op - 1) (refused_records op 1 (list_at records op))) op ≡ refused_records op 1 (list_at records op) = list_at-same told (refused_records op 1 (list_at records op)) op a b in
      ap (λ k. list_at (set told (k - 1) (refused_records k 1 (list_at records k))) op) (sym same) ∙ at ∙ sym (scan op (ap source.Scan (sym same))).1
  | inr other ↦ list_at-other told (refused_records one 1 (list_at records one)) one op a (scan one refl).0 other ∙ e
]

told-read : (records : Records) (all : Refused) (told : List (List Refusal)) (from : Source) (op : ℕ) → from ≡ source.Scan op → 0 < op → op ≤ length told
    → all op ≡ refused_records op 1 (list_at records op) → list_at (told_by records told from) op ≡ all op
told-read records all told from op e a b scan = rw e (list_at-same told (refused_records op 1 (list_at records op)) op a b ∙ sym scan)

none-waits : {op : ℕ} → source.Rows [] ≡ source.Scan op → ⊥
none-waits e = cc e

-- what waits at another place
other-waits : (waiting : List Waiting) (input place op : ℕ) → HasOne waiting input → HasOne (without waiting input) place → (unread_at (without waiting input) place).source ≡ source.Scan op
    → HasOne waiting place × ((unread_at waiting place).source ≡ source.Scan op)
other-waits waiting input place op has there e = elim (cases_eq place input) [
  | inl own ↦ absurd (none-waits (sym (ap (λ unread. unread.source) (ap (λ k. unread_at (without waiting input) k) own ∙ taken-same waiting input has)) ∙ e))
  | inr other ↦ (
    (there.0, omega (arith, there.1, length-set waiting (input - 1) nothing_unread)),
    sym (ap (λ unread. unread.source) (taken-other waiting input place there.0 has.0 other)) ∙ e,
  )
]

still-waits : (waiting : List Waiting) (input op : ℕ) → HasOne waiting input → (w : Waits waiting op) → w.place ≢ input → Waits (without waiting input) op
still-waits waiting input op has w other = record {
  place = w.place;
  there = (w.there.0, omega (arith, w.there.1, length-set waiting (input - 1) nothing_unread));
  is = ap (λ unread. unread.source) (taken-other waiting input w.place w.there.0 has.0 other) ∙ w.is;
}

pub IsTold-read : (records : Records) (all : Refused) (waiting : List Waiting) (told : List (List Refusal)) (input : ℕ) → HasOne waiting input → IsTold records all waiting told
    → IsTold records all (without waiting input) (told_by records told (unread_at waiting input).source)
IsTold-read records all waiting told input has t =
    let same : length (without waiting input) ≡ length waiting = length-set waiting (input - 1) nothing_unread in
    let from = (unread_at waiting input).source in record {
      count = told-length records told from ∙ t.count ∙ sym same;
      told_so_far = λ op a b. now op a (omega (arith, b, same)) (t.told_so_far op a (omega (arith, b, same)));
      scans = λ place op there e.
          let before = other-waits waiting input place op has there e in
          let s = t.scans place op before.0 before.1 in (s.0, omega (arith, s.1, same), s.2);
    }
  where
    now : (op : ℕ) → 0 < op → op ≤ length waiting → (list_at told op ≡ all op) ⊎ Waits waiting op
        → (list_at (told_by records told (unread_at waiting input).source) op ≡ all op) ⊎ Waits (without waiting input) op
    now op a b (inl e) = inl (told-stays records all told (unread_at waiting input).source op a (omega (arith, b, t.count)) (λ one is. let s = t.scans input one has is in (s.0, s.2)) e)
    now op a b (inr w) = elim (cases_eq w.place input) [
      | inl own ↦
          let is : (unread_at waiting input).source ≡ source.Scan op = sym (ap (λ k. (unread_at waiting k).source) own) ∙ w.is in
          inl (told-read records all told (unread_at waiting input).source op is a (omega (arith, b, t.count)) (t.scans input op has is).2)
      | inr other ↦ inr (still-waits waiting input op has w other)
    ]

-- ---- one more

waits-left : (waiting : List Waiting) (unread : Waiting) (op : ℕ) → Waits waiting op → Waits (waiting ++ unread ∷ []) op
waits-left waiting unread op w = record {
  place = w.place;
  there = (w.there.0, omega (arith, w.there.1, length_push waiting unread));
  is = ap (λ one. one.source) (unread-left waiting unread w.place w.there.0 w.there.1) ∙ w.is;
}

waits-last : (waiting : List Waiting) (unread : Waiting) (op : ℕ) → unread.source ≡ source.Scan op → Waits (waiting ++ unread ∷ []) op
waits-last waiting unread op e = record {
  place = length waiting + 1;
  there = (omega arith, omega (arith, length_push waiting unread));
  is = ap (λ one. one.source) (unread-last waiting unread (length waiting + 1) refl) ∙ e;
}

abbrev IsScan : Records → Refused → ℕ → ℕ → Type 0
IsScan records all most op = (0 < op) × (op ≤ most) × (all op ≡ refused_records op 1 (list_at records op))

IsTold-more : (records : Records) (all : Refused) (waiting : List Waiting) (told : List (List Refusal)) (unread : Waiting) (one : List Refusal) → length told ≡ length waiting
    → ((op : ℕ) → 0 < op → op ≤ length waiting → (list_at told op ≡ all op) ⊎ Waits (waiting ++ unread ∷ []) op)
    → (one ≡ all (length waiting + 1)) ⊎ (unread.source ≡ source.Scan (length waiting + 1))
    → ((op : ℕ) → unread.source ≡ source.Scan op → IsScan records all (length waiting + 1) op)
    → ((place op : ℕ) → HasOne waiting place → (unread_at waiting place).source ≡ source.Scan op → IsScan records all (length waiting) op)
    → IsTold records all (waiting ++ unread ∷ []) (told ++ one ∷ [])
IsTold-more records all waiting told unread one same before last scan scans =
    let more = length_push waiting unread in record {
      count = omega (arith, length_push told one, more, same);
      told_so_far = λ op a b. elim (cases_eq op (length waiting + 1)) [
        | inl own ↦ own-told op own last
        | inr other ↦ front-told op a (omega (arith, b, more, other)) (before op a (omega (arith, b, more, other)))
      ];
      scans = λ place op there e. elim (cases_eq place (length waiting + 1)) [
        | inl own ↦
            let is : unread.source ≡ source.Scan op = sym (ap (λ p. p.source) (unread-last waiting unread place own)) ∙ e in
            let s = scan op is in (s.0, omega (arith, s.1, more), s.2)
        | inr other ↦
            let within : place ≤ length waiting = omega (arith, there.1, more, other) in
            let is : (unread_at waiting place).source ≡ source.Scan op = sym (ap (λ p. p.source) (unread-left waiting unread place there.0 within)) ∙ e in
            let s = scans place op (there.0, within) is in (s.0, omega (arith, s.1, more), s.2)
      ];
    }
  where
    own-told : (op : ℕ) → op ≡ length waiting + 1 → (one ≡ all (length waiting + 1)) ⊎ (unread.source ≡ source.Scan (length waiting + 1))
        → (list_at (told ++ one ∷ []) op ≡ all op) ⊎ Waits (waiting ++ unread ∷ []) op
    own-told op own (inl e) = inl (list_at-last told one op (omega (arith, own, same)) ∙ e ∙ ap all (sym own))
    own-told op own (inr e) = inr (waits-last waiting unread op (e ∙ ap source.Scan (sym own)))

    front-told : (op : ℕ) → 0 < op → op ≤ length waiting → (list_at told op ≡ all op) ⊎ Waits (waiting ++ unread ∷ []) op
        → (list_at (told ++ one ∷ []) op ≡ all op) ⊎ Waits (waiting ++ unread ∷ []) op
    front-told op a b (inl e) = inl (list_at-left told one op a (omega (arith, b, same)) ∙ e)
    front-told op a b (inr w) = inr w

left-told : (all : Refused) (waiting : List Waiting) (told : List (List Refusal)) (unread : Waiting) (op : ℕ) → (list_at told op ≡ all op) ⊎ Waits waiting op
    → (list_at told op ≡ all op) ⊎ Waits (waiting ++ unread ∷ []) op
left-told all waiting told unread op (inl e) = inl e
left-told all waiting told unread op (inr w) = inr (waits-left waiting unread op w)

-- rows that stand in a list
IsTold-rows : (records : Records) (all : Refused) (waiting : List Waiting) (told : List (List Refusal)) (rows : List (List Value)) (one : List Refusal) → IsTold records all waiting told
    → one ≡ all (length waiting + 1) → IsTold records all (waiting ++ record { source = source.Rows rows; stages = [] } ∷ []) (told ++ one ∷ [])
IsTold-rows records all waiting told rows one t e =
    let unread : Waiting = record { source = source.Rows rows; stages = [] } in
    IsTold-more records all waiting told unread one t.count (λ op a b. left-told all waiting told unread op (t.told_so_far op a b)) (inl e) (λ op is. absurd (no is)) t.scans
  where
    no : {op : ℕ} → source.Rows rows ≡ source.Scan op → ⊥
    no is = cc is

-- the records of a scan
IsTold-scan : (records : Records) (all : Refused) (waiting : List Waiting) (told : List (List Refusal)) (op : ℕ) (one : List Refusal) → IsTold records all waiting told
    → op ≡ length waiting + 1 → all op ≡ refused_records op 1 (list_at records op) → IsTold records all (waiting ++ record { source = source.Scan op; stages = [] } ∷ []) (told ++ one ∷ [])
IsTold-scan records all waiting told op one t own e =
    let unread : Waiting = record { source = source.Scan op; stages = [] } in
    IsTold-more records all waiting told unread one t.count (λ k a b. left-told all waiting told unread k (t.told_so_far k a b)) (inr (ap source.Scan own))
    (λ k is. let same : op ≡ k = cc is in (omega (arith, same, own), omega (arith, same, own), ap all (sym same) ∙ e ∙ ap (λ n. refused_records n 1 (list_at records n)) same)) t.scans

-- what waited goes on to wait elsewhere
IsTold-moved : (records : Records) (all : Refused) (waiting : List Waiting) (told : List (List Refusal)) (input : ℕ) (unread : Waiting) (one : List Refusal) → IsTold records all waiting told
    → HasOne waiting input → unread.source ≡ (unread_at waiting input).source → one ≡ all (length waiting + 1)
    → IsTold records all (without waiting input ++ unread ∷ []) (told ++ one ∷ [])
IsTold-moved records all waiting told input unread one t has from e =
    let same : length (without waiting input) ≡ length waiting = length-set waiting (input - 1) nothing_unread in
    IsTold-more records all (without waiting input) told unread one (t.count ∙ sym same) (λ op a b. moved op (t.told_so_far op a (omega (arith, b, same)))) (inl (e ∙ ap (λ n. all (n + 1)) (sym same)))
    (λ op is. let s = t.scans input op has (sym from ∙ is) in (s.0, omega (arith, s.1, same), s.2))
    (λ place op there is. let before = other-waits waiting input place op has there is in let s = t.scans place op before.0 before.1 in (s.0, omega (arith, s.1, same), s.2))
  where
    moved : (op : ℕ) → (list_at told op ≡ all op) ⊎ Waits waiting op → (list_at told op ≡ all op) ⊎ Waits (without waiting input ++ unread ∷ []) op
    moved op (inl e) = inl e
    moved op (inr w) = elim (cases_eq w.place input) [
      | inl own ↦ inr (waits-last (without waiting input) unread op (from ∙ sym (ap (λ k. (unread_at waiting k).source) own) ∙ w.is))
      | inr other ↦ inr (waits-left (without waiting input) unread op (still-waits waiting input op has w other))
    ]

-- ---- the next operator

pub IsTold-next : (records : Records) (all : Refused) (waiting : List Waiting) (told : List (List Refusal)) (op : ℕ) (kind : What) → IsTold records all waiting told → HasInputs waiting kind
    → op ≡ length waiting + 1 → all op ≡ refused_by op kind (list_at records op) (lists_of records waiting)
    → IsTold records all (others_of kind waiting ++ unread_of records op kind waiting ∷ []) (told_by records told (read_for kind waiting).source ++ refused_now records op kind waiting ∷ [])
IsTold-next records all waiting told op (what.Scan file) t h own e = IsTold-scan records all waiting told op [] t own e
IsTold-next records all waiting told op (what.Filter input test) t h own e =
    IsTold-moved records all waiting told input (unread_of records op (what.Filter input test) waiting) [] t h.1 refl (sym e ∙ ap all own)
IsTold-next records all waiting told op (what.Project input from) t h own e =
    IsTold-moved records all waiting told input (unread_of records op (what.Project input from) waiting) [] t h.1 refl (sym e ∙ ap all own)
IsTold-next records all waiting told op (what.Join build probe build_keys probe_keys) t h own e =
    let read = IsTold-read records all waiting told build h.0 t in
    let same : length (without waiting build) ≡ length waiting = length-set waiting (build - 1) nothing_unread in
    let other : unread_at (without waiting build) probe ≡ unread_at waiting probe = taken-other waiting build probe h.1.0 h.0.0 (λ is. h.2 (sym is)) in
    IsTold-moved records all (without waiting build) (told_by records told (unread_at waiting build).source) probe (unread_of records op (what.Join build probe build_keys probe_keys) waiting) [] read
    (probe-there waiting build probe h.1) (sym (ap (λ unread. unread.source) other)) (sym e ∙ ap all own ∙ ap (λ n. all (n + 1)) (sym same))
IsTold-next records all waiting told op (what.Group input keys aggs) t h own e =
    let read = IsTold-read records all waiting told input h.1 t in
    let same : length (without waiting input) ≡ length waiting = length-set waiting (input - 1) nothing_unread in
    let told_now : refused_groups op (refused_keys keys aggs (unread_rows records (unread_at waiting input))) ≡ all op =
    ap (λ rows. refused_groups op (refused_keys keys aggs rows)) (sym (list_at-lists records waiting input)) ∙ sym e in
    IsTold-rows records all (without waiting input) (told_by records told (unread_at waiting input).source) (group_result keys aggs (unread_rows records (unread_at waiting input)))
    (refused_groups op (refused_keys keys aggs (unread_rows records (unread_at waiting input)))) read (told_now ∙ ap all own ∙ ap (λ n. all (n + 1)) (sym same))
IsTold-next records all waiting told op (what.Sink input) t h own e =
    let read = IsTold-read records all waiting told input h.1 t in
    let same : length (without waiting input) ≡ length waiting = length-set waiting (input - 1) nothing_unread in
    IsTold-rows records all (without waiting input) (told_by records told (unread_at waiting input).source) (sort_rows (unread_rows records (unread_at waiting input))) [] read
    (sym e ∙ ap all own ∙ ap (λ n. all (n + 1)) (sym same))

-- ---- all of it

-- where nothing waits, the lists of what was told, one after the other, are what all operators refuse
pub all-told : (records : Records) (all : Refused) (waiting : List Waiting) (told : List (List Refusal)) → IsTold records all waiting told
    → ((place : ℕ) → HasOne waiting place → unread_at waiting place ≡ nothing_unread) → (k : ℕ) → k < length told → get_or told k [] ≡ all (k + 1)
all-told records all waiting told t gone k lt = settled (t.told_so_far (k + 1) (omega arith) (omega (arith, lt, t.count)))
  where
    settled : (list_at told (k + 1) ≡ all (k + 1)) ⊎ Waits waiting (k + 1) → get_or told k [] ≡ all (k + 1)
    settled (inl e) = let same : k + 1 - 1 ≡ k = omega arith in ap (λ n. get_or told n []) (sym same) ∙ sym (list_at-is told (k + 1) (omega arith)) ∙ e
    settled (inr w) = absurd (none-waits (sym (ap (λ unread. unread.source) (gone w.place w.there)) ∙ w.is))

first-get : (records : Records) → get_or records 0 [] ≡ first_list records
first-get [] = refl
first-get (x ∷ records) = refl

later-get : (records : Records) (k : ℕ) → get_or (later_of records) k [] ≡ get_or records (suc k) []
later-get [] k = refl
later-get (x ∷ records) k = refl

pub told-refusals : (records : Records) (done : Lists) (flow : List Operator) (told : List (List Refusal)) (op : ℕ) → length told ≡ length flow
    → ((k : ℕ) (o : Operator) → k < length flow → o ≡ get_or flow k o → get_or told k [] ≡ refused_by (op + k) o.what (get_or records k []) done)
    → flat_map (λ one. one) told ≡ refusals op records done flow
unfolding refusals
told-refusals records done [] [] op e h = refl
told-refusals records done [] (one ∷ told) op e h = absurd (omega arith)
told-refusals records done (o ∷ flow) [] op e h = absurd (omega arith)
told-refusals records done (o ∷ flow) (one ∷ told) op e h =
    let zero_is : op + 0 ≡ op = omega arith in
    let first : one ≡ refused_by op o.what (first_list records) done =
    h 0 o (omega arith) refl ∙ ap (λ k. refused_by k o.what (get_or records 0 []) done) zero_is ∙ ap (λ typed. refused_by op o.what typed done) (first-get records) in
    let rest : flat_map (λ one. one) told ≡ refusals (op + 1) (later_of records) done flow = told-refusals (later_of records) done flow told (op + 1) (omega arith) (λ k p lt is.
    let next : op + suc k ≡ op + 1 + k = omega arith in
    h (suc k) p (omega (arith, lt)) is ∙ ap (λ n. refused_by n p.what (get_or records (suc k) []) done) next ∙ ap (λ typed. refused_by (op + 1 + k) p.what typed done) (sym (later-get records k))) in
    ap (λ xs. xs ++ flat_map (λ one. one) told) first ∙ ap (λ xs. refused_by op o.what (first_list records) done ++ xs) rest
