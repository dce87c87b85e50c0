-- The records of the scans are dealt, operator by operator.
use Rattle.std.proofs.Common.{◌≡◌, refl, sym, ap, subst, ◌∙◌, ℕ, zero, suc, ◌+◌, ◌-◌, ◌<◌, ◌≤◌, ◌^◌, List, [], ◌∷◌, ◌++◌, length, map, take, drop, get_or, replicate, All, Bool, true, false, if◌then◌else◌, inl, inr, Option, Some, None, is_some, Result, sum_by, arith}
use Rattle.std.specs.Option.{IfSome}
use Rattle.std.specs.Prelude.{unwrap_or}
use Rattle.std.proofs.lemmas.Bool.{cases_lt, false≢true}
use Rattle.std.proofs.lemmas.List.{get_or-append-add, get_or-map, get_or-replicate, get_or_append_left, length-append, length-map, length-replicate, take_more}
use Rattle.std.proofs.lemmas.List.Sums.{sum_by-append}
use Rattle.amber_rows.specs.Topology.{crew_of, first_worker_of, kind_at, op_of, what_at, worker_count, workers_in}
use Rattle.amber_rows.specs.FlowRules.{IsFlow}
use Rattle.amber_rows.specs.Kinds.{is_scan}
use Rattle.amber_rows.specs.Columns.{columns_at, schema_of}
use Rattle.amber_rows.specs.Lists.{first_list, first_of, list_at}
use Rattle.amber_rows.specs.Record.{file_records, has_header, typed_records}
use Rattle.amber_rows.specs.Shares.{share_of, with_numbers}
use Rattle.amber_rows.specs.declared.column.Column.{Column}
use Rattle.amber_rows.specs.declared.flow.Operator.{Operator}
use Rattle.amber_rows.specs.declared.flow.What.{What}
use Rattle.amber_rows.specs.declared.record.RowFault.{RowFault}
use Rattle.amber_rows.specs.declared.value.Value.{Value}
use Rattle.amber_rows.proofs.FlowFacts.{AreNext-at}
use Rattle.amber_rows.proofs.Headers.{header-none}
use Rattle.amber_meaning.specs.Plain.{records_of, wrong_header}
use Rattle.amber_meaning.specs.Plan.{numbered_record, record_number, role_of}
use Rattle.amber_meaning.specs.ScanFiles.{files_left, is_headed, records_at}
use Rattle.amber_meaning.proofs.ExampleCases.{texts_on_literals}
use Rattle.amber_meaning.proofs.Crews.{within-workers, worker-op}
use Rattle.amber_meaning.proofs.Lists.{numbered_or}
use Rattle.amber_meaning.proofs.Operators.{nth-here, records-here, wrong_header-here, wrong_header-more}
use Rattle.amber_scan.specs.Shares.{ShareState, scanned_number, scanned_records}
use Rattle.amber_worker.specs.AtPosition.{HasShare}
use Rattle.amber_operators.specs.Handed.{arrival_of}
use Rattle.amber_worker.proofs.Shares.{share-dealt}
use Rattle.amber_dataflow.specs.Start.{AreSharesDealt, IsDealtShare, share_of_worker}

abbrev pub Records : Type 0
Records = List (List (Result (List Value) RowFault))

-- a worker was given what it should be
abbrev pub IsDealt : List Operator → Records → ℕ → Option ShareState → Type 0
IsDealt flow records worker share = (is_some share ≡ is_scan (what_at flow (op_of flow worker))) × HasShare share (role_of flow records worker)
    × IfSome share (λ one. one.columns ≡ columns_at flow (op_of flow worker))

-- ---- the shares of one operator

-- the operator's workers come after the others, each with its share
module _ (o : Operator) (file : List ℕ) (old : List (Option ShareState)) where
  abbrev pub Dealt : List (Option ShareState) → Type 0
  Dealt shares = (length shares ≡ length old + o.workers) × ((k : ℕ) → k < length old → share_of_worker shares k ≡ share_of_worker old k)
      × ((place : ℕ) → place < o.workers → IsDealtShare o file place (share_of_worker shares (length old + place)))

  -- so it is where as many shares were appended to the others
  appended : (more shares : List (Option ShareState)) → shares ≡ old ++ more → length more ≡ o.workers
      → ((place : ℕ) → place < o.workers → IsDealtShare o file place (get_or more place None)) → Dealt shares
  appended more shares is long each = (
    ap length is ∙ length-append old more ∙ ap (λ n. length old + n) long,
    λ k less. ap (λ xs. share_of_worker xs k) is ∙ get_or_append_left old more None k less,
    λ place less. subst (IsDealtShare o file place) (sym (ap (λ xs. share_of_worker xs (length old + place)) is ∙ get_or-append-add old more place None)) (each place less),
  )

  pub dealt-scan : (dealt : List ShareState) (shares : List (Option ShareState)) → shares ≡ old ++ map Some dealt → length dealt ≡ o.workers
      → ((place : ℕ) (d : ShareState) → place < o.workers → (get_or dealt place d).left ≡ share_of scanned_number o.workers place (scanned_records o.schema file))
      → All (λ (share : ShareState). share.columns ≡ o.schema) dealt → is_scan o.what ≡ true → Dealt shares
  dealt-scan dealt shares is each are typed scan =
      let nobody : ShareState = record { left = []; ready = 0; columns = [] } in
      appended (map Some dealt) shares is (length-map dealt Some ∙ each)
      (λ place less. subst (IsDealtShare o file place) (sym (get_or-map Some dealt place nobody None (omega arith)))
      (scan, are place nobody less, typed place nobody (omega arith)))

  pub dealt-other : (shares : List (Option ShareState)) → shares ≡ old ++ replicate o.workers None → is_scan o.what ≡ false → Dealt shares
  dealt-other shares is scan =
      appended (replicate o.workers None) shares is (length-replicate o.workers None)
      (λ place less. subst (IsDealtShare o file place) (sym (get_or-replicate o.workers place None None less)) scan)

-- ---- how many workers

pub crew-start : crew_of [] ≡ 0
unfolding crew_of
crew-start = refl

crew-append : (flow : List Operator) (o : Operator) → crew_of (flow ++ o ∷ []) ≡ crew_of flow + o.workers
unfolding crew_of
crew-append flow o =
    let same : 0 + o.workers ≡ o.workers = omega arith in
    sum_by-append (λ (x : Operator). x.workers) flow (o ∷ []) ∙ ap (λ n. sum_by (λ (x : Operator). x.workers) flow + n) same

-- ---- headers

-- a scan without a file has another header
pub headless : (kind : What) (columns : List Column) → is_headed kind columns [] ≡ true → is_scan kind ≡ true → ⊥
unfolding texts_on_literals file_records
headless kind columns headed scan = let wrong = header-none columns [] refl in let right : has_header columns [] ≡ true = rw scan at headed in false≢true (sym wrong ∙ right)

-- the next file, if there is one
pub next-file : (files : List (List ℕ)) (found : Option (List ℕ)) → found ≡ first_of files → unwrap_or found [] ≡ first_list files
next-file [] found is = ap (λ o. unwrap_or o []) is
next-file (file ∷ files) found is = ap (λ o. unwrap_or o []) is

pub header-start : (flow : List Operator) (files : List (List ℕ)) → wrong_header 1 files flow ≡ wrong_header (0 + 1) (files_left files (take 0 flow)) (drop 0 flow)
unfolding files_left
header-start flow files = refl

module _ (flow : List Operator) (files : List (List ℕ)) (i : ℕ) (o : Operator) (inside : i < length flow) (is : o ≡ get_or flow i o) (file : List ℕ)
    (file_is : file ≡ first_list (files_left files (take i flow))) where
  pub header-more : wrong_header 1 files flow ≡ wrong_header (i + 1) (files_left files (take i flow)) (drop i flow) → is_headed o.what o.schema file ≡ true
      → wrong_header 1 files flow ≡ wrong_header (i + 1 + 1) (files_left files (take (i + 1) flow)) (drop (i + 1) flow)
  header-more left headed =
      wrong_header-more files flow i o (wrong_header 1 files flow) inside is left (subst (λ f. is_headed o.what o.schema f ≡ true) file_is headed)

  -- where no header is wrong, this one is right
  pub header-right : wrong_header 1 files flow ≡ wrong_header (i + 1) (files_left files (take i flow)) (drop i flow) → wrong_header 1 files flow ≡ None → is_headed o.what o.schema file ≡ true
  header-right left none = by-header (is_headed o.what o.schema file) refl
    where
      by-header : (b : Bool) → is_headed o.what o.schema file ≡ b → b ≡ true
      by-header true e = refl
      by-header false e =
          let wrong = wrong_header-here files flow i o (wrong_header 1 files flow) inside is left (subst (λ f. is_headed o.what o.schema f ≡ false) file_is e) in
          cc

  -- ---- the workers of one operator

  module _ (place : ℕ) (less : place < o.workers) where
    worker : ℕ
    worker = crew_of (take i flow) + place

    first-is : first_worker_of flow (i + 1) ≡ crew_of (take i flow)
    unfolding first_worker_of
    first-is = let back : i + 1 - 1 ≡ i = omega arith in ap (λ n. crew_of (take n flow)) back

    count-is : worker_count flow (i + 1) ≡ o.workers
    count-is = ap workers_in (nth-here flow i o inside is)

    op-is : op_of flow worker ≡ i + 1
    unfolding worker
    op-is = worker-op flow (i + 1) worker (within-workers flow (i + 1) worker (omega (arith, first-is)) (omega (arith, first-is, count-is, less)))

    what-is : what_at flow (op_of flow worker) ≡ o.what
    what-is = ap (what_at flow) op-is ∙ ap kind_at (nth-here flow i o inside is)

    place-is : worker - first_worker_of flow (i + 1) ≡ place
    unfolding worker
    place-is = omega (arith, first-is)

    share-is : (records : Records) → (role_of flow records worker).share ≡ share_of record_number o.workers place (with_numbers numbered_record 1 (list_at records (i + 1)))
    unfolding role_of
    share-is records =
        ap (λ op. share_of record_number (worker_count flow op) (worker - first_worker_of flow op) (with_numbers numbered_record 1 (list_at records op))) op-is
        ∙ ap (λ n. share_of record_number n (worker - first_worker_of flow (i + 1)) (with_numbers numbered_record 1 (list_at records (i + 1)))) count-is
        ∙ ap (λ n. share_of record_number o.workers n (with_numbers numbered_record 1 (list_at records (i + 1)))) place-is

    records-are : is_scan o.what ≡ true → list_at (records_of files flow) (i + 1) ≡ typed_records o.schema file
    records-are scan =
        numbered_or (records_of files flow) i [] ∙ records-here files flow i o inside is ∙ ap (records_at o.what o.schema) (sym file_is)
        ∙ ap (λ b. if b then typed_records o.schema file else []) scan

    columns-are : columns_at flow (op_of flow worker) ≡ o.schema
    columns-are = ap (columns_at flow) op-is ∙ ap schema_of (nth-here flow i o inside is)

    dealt-here : (share : Option ShareState) → IsDealtShare o file place share → IsDealt flow (records_of files flow) worker share
    dealt-here None scan = (sym (ap is_scan what-is ∙ scan), tt, tt)
    dealt-here (Some share) (scan, left, typed) = (
      sym (ap is_scan what-is ∙ scan),
      ap (map arrival_of) left ∙ share-dealt (typed_records o.schema file) o.workers place
          ∙ ap (λ r. share_of record_number o.workers place (with_numbers numbered_record 1 r)) (sym (records-are scan)) ∙ sym (share-is (records_of files flow)),
      typed ∙ sym columns-are,
    )

  crew-next : crew_of (take (i + 1) flow) ≡ crew_of (take i flow) + o.workers
  crew-next =
      ap crew_of (take_more flow i o inside) ∙ crew-append (take i flow) (get_or flow i o)
      ∙ ap (λ (x : Operator). crew_of (take i flow) + x.workers) (sym is)

  -- its workers come after the others
  pub dealt-more : (old new : List (Option ShareState)) → length old ≡ crew_of (take i flow) → length new ≡ length old + o.workers
      → ((k : ℕ) → k < length old → share_of_worker new k ≡ share_of_worker old k) → ((place : ℕ) → place < o.workers → IsDealtShare o file place (share_of_worker new (length old + place)))
      → ((k : ℕ) → k < crew_of (take i flow) → IsDealt flow (records_of files flow) k (share_of_worker old k))
      → (length new ≡ crew_of (take (i + 1) flow)) × ((k : ℕ) → k < crew_of (take (i + 1) flow) → IsDealt flow (records_of files flow) k (share_of_worker new k))
  unfolding worker
  dealt-more old new long longer same dealt before = (
    omega (arith, long, longer, crew-next),
    λ k below. elim (cases_lt k (length old)) [
      | inl less ↦ subst (IsDealt flow (records_of files flow) k) (sym (same k less)) (before k (omega arith))
      | inr more ↦ (let next = crew-next in
          let less : k - length old < o.workers = omega arith in
          let place : crew_of (take i flow) + (k - length old) ≡ k = omega arith in
          let place_too : length old + (k - length old) ≡ k = omega arith in
          subst (λ n. IsDealt flow (records_of files flow) n (share_of_worker new k)) place
          (dealt-here (k - length old) less (share_of_worker new k) (subst (λ m. IsDealtShare o file (k - length old) (share_of_worker new m)) place_too (dealt (k - length old) less))))
    ],
  )

take-whole : (xs : List Operator) (n : ℕ) → length xs ≤ n → take n xs ≡ xs
take-whole [] zero h = refl
take-whole [] (suc n) h = refl
take-whole (x ∷ xs) zero h = absurd (omega arith)
take-whole (x ∷ xs) (suc n) h = ap (λ rest. x ∷ rest) (take-whole xs n (omega arith))

pub all-dealt : (flow : List Operator) (records : Records) (n : ℕ) (shares : List (Option ShareState)) → length flow ≤ n → length shares ≡ crew_of (take n flow)
    → ((k : ℕ) → k < crew_of (take n flow) → IsDealt flow records k (share_of_worker shares k)) → AreSharesDealt flow records shares
all-dealt flow records n shares all long dealt =
    let whole : crew_of (take n flow) ≡ crew_of flow = ap crew_of (take-whole flow n all) in
    record {
      all = long ∙ whole;
      scans = λ worker below. (dealt worker (subst (λ m. worker < m) (sym whole) below)).0;
      dealt = λ worker below. (dealt worker (subst (λ m. worker < m) (sym whole) below)).1;
      typed = λ worker below. (dealt worker (subst (λ m. worker < m) (sym whole) below)).2;
    }

pub operator-facts : (flow : List Operator) (i : ℕ) (o : Operator) → IsFlow flow → i < length flow → o ≡ get_or flow i o → (0 < o.workers) × (o.workers ≤ 16) × (length o.schema < 2 ^ 32)
operator-facts flow i o ok inside is =
    let next = AreNext-at [] flow i o inside ok.operators in
    let few : length (get_or flow i o).schema ≤ 64 = next.columns.few in (
      subst (λ (x : Operator). 0 < x.workers) (sym is) next.some_workers,
      subst (λ (x : Operator). x.workers ≤ 16) (sym is) next.few_workers,
      subst (λ (x : Operator). length x.schema < 2 ^ 32) (sym is) (omega arith),
    )
