-- A walk over the operators that loads the files of the scans.
use Rattle.std.proofs.Common.{◌≡◌, ℕ, ◌+◌, ◌-◌, ◌<◌, ◌≤◌, List, [], ◌∷◌, ◌++◌, length, get_or, drop, take, Bool, true, false, cond, Option, None, Some, Result, Ok, Err, IsOk, refl, sym, ap, ◌∙◌, append_assoc, zero-add, arith}
use Rattle.std.proofs.lemmas.List.{append-nil, drop_all, drop_more, length_push, take-append-drop, take_more}
use Rattle.std.proofs.lemmas.List.Sums.{sum_by-cons}
use Rattle.std.specs.Result.{IfOk}
use Rattle.amber_io.specs.Folder.{Named, Told}
use Rattle.amber_io.specs.World.{World}
use Rattle.amber_rows.specs.FlowRules.{IsFlow}
use Rattle.amber_rows.specs.Record.{has_header}
use Rattle.amber_rows.specs.declared.column.Column.{Column}
use Rattle.amber_rows.specs.declared.flow.What.{What}
use Rattle.amber_rows.specs.declared.flow.What.TheVariants as what
use Rattle.amber_rows.specs.declared.flow.Operator.{Operator}
use Rattle.amber_meaning.specs.Plain.{scan_count, wrong_header}
use Rattle.amber_rows.specs.Kinds.{is_scan}
use Rattle.amber_course.specs.Loaded.{AreInputs}
use Rattle.amber_course.specs.Course.{IsScanFile, file_before, require_header, most_scanned, scan_before, scan_file, scans_from, scans_of, then_on}
use Rattle.amber_course.specs.Steps.{Follows, Judges, Names}
use Rattle.amber_course.specs.declared.failure.Reason.TheVariants as reason
use Rattle.amber_course.specs.declared.failure.Failure.{Failure}
use Rattle.amber_course.specs.declared.failure.Failure.TheVariants as failure
use Rattle.amber_course.proofs.Following.{names-map, stopped-both, told-both, told-map}

-- files that were loaded, before those of later scans
abbrev pub after_files : List (List ℕ) → Result (List (List ℕ)) Failure → Result (List (List ℕ)) Failure
after_files done (Ok later) = Ok (done ++ later)
after_files done (Err s) = Err s

pub after-none : (r : Result (List (List ℕ)) Failure) → r ≡ after_files [] r
after-none (Ok later) = refl
after-none (Err s) = refl

after-one : (done : List (List ℕ)) (bytes : List ℕ) (r : Result (List (List ℕ)) Failure) → after_files done (file_before bytes r) ≡ after_files (done ++ bytes ∷ []) r
after-one done bytes (Ok later) = ap (λ files. Ok files) (sym (append_assoc done (bytes ∷ []) later))
after-one done bytes (Err s) = refl

-- the files that are left to load, after those that were
abbrev pub scans_at : List Operator → ℕ → ℕ → Named → Result (List (List ℕ)) Failure
scans_at ops i left files = scans_from (i + 1) left (drop i ops) files

drop-here : (ops : List Operator) (i : ℕ) (o : Operator) → i < length ops → o ≡ get_or ops i o → drop i ops ≡ o ∷ drop (i + 1) ops
drop-here ops i o h is = drop_more ops i o h ∙ ap (λ x. x ∷ drop (i + 1) ops) (sym is)

-- the next operator, and those after it
step-at : (ops : List Operator) (i left : ℕ) (o : Operator) (files : Named) → i < length ops → o ≡ get_or ops i o
    → scans_at ops i left files ≡ scan_before (i + 1) left o.what o.schema files (λ rest. scans_at ops (i + 1) rest files)
unfolding scans_from
step-at ops i left o files h is = rw (drop-here ops i o h is) refl

scan-is : (op left : ℕ) (w : What) (name : List ℕ) (columns : List Column) (files : Named) (later : ℕ → Result (List (List ℕ)) Failure) → w ≡ what.Scan name
    → scan_before op left w columns files later ≡ then_on (scan_file op left name columns files) (λ bytes. file_before bytes (later (left - length bytes)))
scan-is op left w name columns files later e = rw e refl

-- what the first operators give, whatever comes after them: their scans' files, and then those of later scans
abbrev pub IsWalked : List Operator → ℕ → ℕ → List (List ℕ) → Named → Type 0
IsWalked ops i left done files = (later : List Operator) → scans_of (take i ops ++ later) files ≡ after_files done (scans_from (i + 1) left later files)

pub walk-none : (ops : List Operator) (files : Named) → IsWalked ops 0 most_scanned [] files
unfolding scans_of
walk-none ops files later = after-none (scans_from 1 most_scanned later files)

take-here : (ops later : List Operator) (i : ℕ) (o : Operator) → i < length ops → o ≡ get_or ops i o → take (i + 1) ops ++ later ≡ take i ops ++ o ∷ later
take-here ops later i o h is =
    ap (λ front. front ++ later) (take_more ops i o h ∙ ap (λ x. take i ops ++ x ∷ []) (sym is)) ∙ append_assoc (take i ops) (o ∷ []) later

-- the next operator, before any others
step-before : (i left : ℕ) (o : Operator) (later : List Operator) (files : Named)
    → scans_from (i + 1) left (o ∷ later) files ≡ scan_before (i + 1) left o.what o.schema files (λ rest. scans_from (i + 1 + 1) rest later files)
unfolding scans_from
step-before i left o later files = refl

-- a scan whose file was loaded
walk-scan : (ops : List Operator) (i left : ℕ) (o : Operator) (name bytes : List ℕ) (done : List (List ℕ)) (files : Named)
    → i < length ops → o ≡ get_or ops i o → o.what ≡ what.Scan name → scan_file (i + 1) left name o.schema files ≡ Ok bytes
    → IsWalked ops i left done files → IsWalked ops (i + 1) (left - length bytes) (done ++ bytes ∷ []) files
walk-scan ops i left o name bytes done files h is w load sofar later =
    ap (λ walked. scans_of walked files) (take-here ops later i o h is) ∙ sofar (o ∷ later)
    ∙ rw (step-before i left o later files, scan-is (i + 1) left o.what name o.schema files (λ rest. scans_from (i + 1 + 1) rest later files) w, load)
    (after-one done bytes (scans_from (i + 1 + 1) (left - length bytes) later files))

pub scan-next : (ops : List Operator) (i left : ℕ) (o : Operator) (name bytes : List ℕ) (done : List (List ℕ)) (told : Option Named)
    → i < length ops → o ≡ get_or ops i o → o.what ≡ what.Scan name → Told told (λ files. scan_file (i + 1) left name o.schema files ≡ Ok bytes)
    → Told told (IsWalked ops i left done) → Told told (IsWalked ops (i + 1) (left - length bytes) (done ++ bytes ∷ []))
scan-next ops i left o name bytes done told h is w =
    told-both told (λ files. scan_file (i + 1) left name o.schema files ≡ Ok bytes) (IsWalked ops i left done) (IsWalked ops (i + 1) (left - length bytes) (done ++ bytes ∷ []))
    (λ files load sofar. walk-scan ops i left o name bytes done files h is w load sofar)

-- what the whole workflow gives
pub walked-all : (ops : List Operator) (i left : ℕ) (done : List (List ℕ)) (told : Option Named) → Told told (IsWalked ops i left done)
    → Told told (λ files. scans_of ops files ≡ after_files done (scans_at ops i left files))
walked-all ops i left done told =
    told-map told (IsWalked ops i left done) (λ files. scans_of ops files ≡ after_files done (scans_at ops i left files))
    (λ files walked. ap (λ all. scans_of all files) (sym (take-append-drop i ops)) ∙ walked (drop i ops))

-- the scans before this operator are right
front-right : (ops : List Operator) (i left : ℕ) (done : List (List ℕ)) (files : Named) → IsWalked ops i left done files → IsOk (scans_of (take i ops) files)
unfolding scans_from
front-right ops i left done files walked =
    let whole : scans_of (take i ops) files ≡ Ok (done ++ []) = ap (λ all. scans_of all files) (sym (append-nil (take i ops))) ∙ walked [] in
    rw whole refl

-- the file of a scan that was not loaded
pub scan-names : (s : Failure) (ops : List Operator) (i left : ℕ) (o : Operator) (file : List ℕ) (done : List (List ℕ)) (told : Option Named)
    → i < length ops → o ≡ get_or ops i o → o.what ≡ what.Scan file → Told told (IsWalked ops i left done) → Names s (λ name. name ≡ file)
    → Told told (λ files. Names s (IsScanFile ops files))
scan-names s ops i left o file done told h is w walked named =
    told-map told (IsWalked ops i left done) (λ files. Names s (IsScanFile ops files))
    (λ files one. names-map s (λ name. name ≡ file) (IsScanFile ops files) (λ name same. record {
      front = take i ops;
      operator = o;
      later = drop (i + 1) ops;
      split = sym (take-append-drop i ops) ∙ ap (λ rest. take i ops ++ rest) (drop-here ops i o h is);
      names = rw same w;
      right = front-right ops i left done files one;
    }) named) walked

scan-stops : (ops : List Operator) (i left : ℕ) (o : Operator) (name : List ℕ) (done : List (List ℕ)) (whole : Result (List (List ℕ)) Failure) (s : Failure) (files : Named)
    → i < length ops → o ≡ get_or ops i o → o.what ≡ what.Scan name → scan_file (i + 1) left name o.schema files ≡ Err s
    → whole ≡ after_files done (scans_at ops i left files) → whole ≡ Err s
scan-stops ops i left o name done whole s files h is w load sofar =
    sofar ∙ rw (step-at ops i left o files h is, scan-is (i + 1) left o.what name o.schema files (λ rest. scans_at ops (i + 1) rest files) w, load) refl

-- a scan whose file was not loaded
pub scan-failure : (ops : List Operator) (i left : ℕ) (o : Operator) (name : List ℕ) (done : List (List ℕ)) (whole : Named → Result (List (List ℕ)) Failure) (s : Failure) (before after : World)
    → i < length ops → o ≡ get_or ops i o → o.what ≡ what.Scan name → Told before.files (λ files. whole files ≡ after_files done (scans_at ops i left files))
    → Follows {A = List ℕ} (Err s) (scan_file (i + 1) left name o.schema) before after → Follows {A = List (List ℕ)} (Err s) whole before after
scan-failure ops i left o name done whole s before after h is w =
    stopped-both s (λ files. whole files ≡ after_files done (scans_at ops i left files)) (λ files. scan_file (i + 1) left name o.schema files ≡ Err s) (λ files. whole files ≡ Err s) before after
    (λ files sofar load. scan-stops ops i left o name done (whole files) s files h is w load sofar)

scan-skips : (op left : ℕ) (w : What) (columns : List Column) (files : Named) (later : ℕ → Result (List (List ℕ)) Failure) → is_scan w ≡ false
    → scan_before op left w columns files later ≡ later left
scan-skips op left (what.Scan name) columns files later h = cc
scan-skips op left other columns files later h = refl

-- an operator that is no scan
walk-skip : (ops : List Operator) (i left : ℕ) (o : Operator) (done : List (List ℕ)) (files : Named) → i < length ops → o ≡ get_or ops i o → is_scan o.what ≡ false
    → IsWalked ops i left done files → IsWalked ops (i + 1) left done files
walk-skip ops i left o done files h is w sofar later =
    ap (λ walked. scans_of walked files) (take-here ops later i o h is) ∙ sofar (o ∷ later)
    ∙ rw (step-before i left o later files, scan-skips (i + 1) left o.what o.schema files (λ rest. scans_from (i + 1 + 1) rest later files) w) refl

pub scan-skip : (ops : List Operator) (i left : ℕ) (o : Operator) (done : List (List ℕ)) (told : Option Named)
    → i < length ops → o ≡ get_or ops i o → is_scan o.what ≡ false → Told told (IsWalked ops i left done) → Told told (IsWalked ops (i + 1) left done)
scan-skip ops i left o done told h is w =
    told-map told (IsWalked ops i left done) (IsWalked ops (i + 1) left done) (λ files sofar. walk-skip ops i left o done files h is w sofar)

-- past the last operator
pub scan-end : (ops : List Operator) (i left : ℕ) (done : List (List ℕ)) (whole : Named → Result (List (List ℕ)) Failure) (told : Option Named) → length ops ≤ i
    → Told told (λ files. whole files ≡ after_files done (scans_at ops i left files)) → Told told (λ files. whole files ≡ Ok done)
unfolding scans_from
scan-end ops i left done whole None h sofar = tt
scan-end ops i left done whole (Some files) h sofar = (rw (drop_all i ops h) at sofar) ∙ ap (λ files. Ok files) (append-nil done)

-- ---- what the files are to the workflow

-- the files that were loaded are those of the scans so far, and begin with the names of their columns
pub record AreInputsSoFar (ops : List Operator) (i : ℕ) (done : List (List ℕ)) : Type 0 where
  pub count : length done + scan_count (drop i ops) ≡ scan_count ops
  pub headed : (later : List (List ℕ)) → wrong_header (i + 1) later (drop i ops) ≡ None → wrong_header 1 (done ++ later) ops ≡ None

count-cons : (o : Operator) (more : List Operator) → scan_count (o ∷ more) ≡ cond (is_scan o.what) 1 0 + scan_count more
unfolding scan_count
count-cons o more = sum_by-cons (λ (operator : Operator). cond (is_scan operator.what) 1 0) o more

-- how many scans are left
count-at : (ops : List Operator) (i : ℕ) (o : Operator) → i < length ops → o ≡ get_or ops i o → scan_count (drop i ops) ≡ cond (is_scan o.what) 1 0 + scan_count (drop (i + 1) ops)
count-at ops i o h is = rw (drop-here ops i o h is) (count-cons o (drop (i + 1) ops))

header-scan : (op : ℕ) (bytes : List ℕ) (later : List (List ℕ)) (o : Operator) (more : List Operator) → is_scan o.what ≡ true → has_header o.schema bytes ≡ true
    → wrong_header (op + 1) later more ≡ None → wrong_header op (bytes ∷ later) (o ∷ more) ≡ None
unfolding wrong_header
header-scan op bytes later o more w right h = rw (w, right) h

header-skip : (op : ℕ) (later : List (List ℕ)) (o : Operator) (more : List Operator) → is_scan o.what ≡ false
    → wrong_header (op + 1) later more ≡ None → wrong_header op later (o ∷ more) ≡ None
unfolding wrong_header
header-skip op later o more w h = rw w h

is-scan : (w : What) (name : List ℕ) → w ≡ what.Scan name → is_scan w ≡ true
is-scan w name e = rw e refl

pub not-scan : (w : What) → ((name : List ℕ) → w ≡ what.Scan name → ⊥) → is_scan w ≡ false
not-scan (what.Scan name) h = absurd (h name refl)
not-scan other h = refl

pub inputs-none : (ops : List Operator) → AreInputsSoFar ops 0 []
inputs-none ops = record { count = omega arith; headed = λ later h. h }

pub inputs-scan : (ops : List Operator) (i : ℕ) (o : Operator) (name bytes : List ℕ) (done : List (List ℕ)) → i < length ops → o ≡ get_or ops i o
    → o.what ≡ what.Scan name → has_header o.schema bytes ≡ true → AreInputsSoFar ops i done → AreInputsSoFar ops (i + 1) (done ++ bytes ∷ [])
inputs-scan ops i o name bytes done h is w right sofar =
    let scan = is-scan o.what name w in
    let count : scan_count (drop i ops) ≡ 1 + scan_count (drop (i + 1) ops) = count-at ops i o h is ∙ rw scan refl in
    record {
      count = omega (arith, length_push done bytes, count, sofar.count);
      headed = λ later right_later. rw (append_assoc done (bytes ∷ []) later)
          (sofar.headed (bytes ∷ later) (rw (drop-here ops i o h is) (header-scan (i + 1) bytes later o (drop (i + 1) ops) scan right right_later)));
    }

pub inputs-skip : (ops : List Operator) (i : ℕ) (o : Operator) (done : List (List ℕ)) → i < length ops → o ≡ get_or ops i o → is_scan o.what ≡ false
    → AreInputsSoFar ops i done → AreInputsSoFar ops (i + 1) done
inputs-skip ops i o done h is w sofar =
    let count : scan_count (drop i ops) ≡ scan_count (drop (i + 1) ops) = count-at ops i o h is ∙ rw w (zero-add (scan_count (drop (i + 1) ops))) in
    record {
      count = omega (arith, count, sofar.count);
      headed = λ later right_later. sofar.headed later (rw (drop-here ops i o h is) (header-skip (i + 1) later o (drop (i + 1) ops) w right_later));
    }

pub inputs-end : (ops : List Operator) (i : ℕ) (done : List (List ℕ)) → IsFlow ops → length ops ≤ i → AreInputsSoFar ops i done → AreInputs (record { flow = ops; files = done })
unfolding scan_count wrong_header
inputs-end ops i done flow h sofar =
    let none = drop_all i ops h in
    let count : scan_count (drop i ops) ≡ 0 = rw none refl in
    let headed : wrong_header (i + 1) [] (drop i ops) ≡ None = rw none refl in
    record { flow = flow; count = omega (arith, count, sofar.count); headed = rw append-nil at (sofar.headed [] headed) }

-- ---- headers

require_header-cases : {A : Type 0} (right : Bool) (x y : A) (s : Failure) → cond right (Ok x) (Err s) ≡ Ok y → (right ≡ true) × (y ≡ x)
require_header-cases true x y s e = (refl, cc)
require_header-cases false x y s e = cc

pub require_header-few : (r : Result (List ℕ) Failure) (op most : ℕ) (columns : List Column) (bytes : List ℕ) → Judges r (require_header op columns bytes) → length bytes ≤ most
    → IfOk r (λ file. length file ≤ most)
require_header-few (Ok file) op most columns bytes h few = rw (require_header-cases (has_header columns bytes) bytes file (failure.BadFlow op reason.Header) h).1 few
require_header-few (Err s) op most columns bytes h few = tt

pub require_header-right : (r : Result (List ℕ) Failure) (op : ℕ) (columns : List Column) (bytes : List ℕ) → Judges r (require_header op columns bytes)
    → IfOk r (λ file. has_header columns file ≡ true)
require_header-right (Ok file) op columns bytes h =
    let one = require_header-cases (has_header columns bytes) bytes file (failure.BadFlow op reason.Header) h in
    rw one.1 one.0
require_header-right (Err s) op columns bytes h = tt
