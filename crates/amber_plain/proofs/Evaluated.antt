-- The operators of a workflow, evaluated one after the other: what is unread for each until it is read.
use Rattle.std.proofs.Common.{◌≡◌, ℕ, ◌+◌, ◌-◌, ◌<◌, ◌≤◌, List, [], ◌∷◌, ◌++◌, length, get_or, take, drop, count_by, sum_by, Option, Some, None, inl, inr, refl, sym, ap, ◌∙◌, arith, eqb}
use Rattle.std.specs.List.{flat_map}
use Rattle.std.proofs.lemmas.Bool.{cases_eq, cases_lt}
use Rattle.std.proofs.lemmas.List.{append-nil, length-map, length-set, length-take, length_push, take-append-drop, take_all, take_more}
use Rattle.std.proofs.lemmas.List.Sums.{sum_by-append}
use Rattle.amber_rows.specs.FlowRules.{IsFlow, reader_count}
use Rattle.amber_rows.specs.Columns.{columns_at}
use Rattle.amber_rows.specs.Kinds.{inputs_of}
use Rattle.amber_rows.proofs.FlowFacts.{reader_count-append}
use Rattle.amber_rows.specs.Lists.{list_at, nth}
use Rattle.amber_rows.specs.declared.flow.Operator.{Operator}
use Rattle.amber_meaning.specs.Plain.{answer_from, answer_of, outputs, records_of, refusals}
use Rattle.amber_meaning.specs.Kinds.{refused_by, rows_of}
use Rattle.amber_meaning.specs.declared.answer.Answer.{Answer}
use Rattle.amber_plain.specs.declared.limit.LimitErr.{LimitErr}
use Rattle.amber_plain.specs.declared.limit.LimitErr.TheVariants as limit_err
use Rattle.amber_meaning.specs.declared.answer.Refusal.{Refusal}
use Rattle.amber_meaning.proofs.Operators.{Lists, length-outputs, list_at-is, next-here, nth-here, rows-before, rows-here}
use Rattle.amber_plain.specs.Holding.{FallsShort}
use Rattle.amber_plain.specs.Unread.{HasInputs, HasOne, Records, Waiting, nothing_unread, unread_at, unread_count, unread_rows, without}
use Rattle.amber_plain.specs.Steps.{others_of, unread_of, read_for, refused_now, told_by}
use Rattle.amber_plain.proofs.Inputs.{AreWhole, HasInputs-same, earlier, inputs-there, read_count, refused-same, rows-same}
use Rattle.amber_plain.proofs.Told.{IsTold, IsTold-next, IsTold-read, Refused, all-told, unread-last, unread-left, told-refusals}
use Rattle.amber_plain.proofs.Waits.{list_at-lists, lists_of, next-owed, next-unread, others-length, others-none, others-other, others-read, owed, owed-none, unread_at-is, read-owed, taken-none, taken-owed, taken-same}

-- what the operator with a number refuses, where these are the rows of all operators
abbrev pub refused_of : ℕ → Records → Lists → Option Operator → List Refusal
refused_of op records all None = []
refused_of op records all (Some o) = refused_by op o.what (list_at records op) all

abbrev pub refused_at : List Operator → Records → Refused
refused_at flow records op = refused_of op records (outputs records [] flow) (nth flow op)

-- ---- the first operators were evaluated

-- what is unread for each gives its rows unless it was read, and so are what was refused and the rows that were counted
pub record Evaluated (flow : List Operator) (records : Records) (i : ℕ) (waiting : List Waiting) (told : List (List Refusal)) (left most : ℕ) : Type 0 where
  pub count : length waiting ≡ i
  pub whole : (op : ℕ) → 0 < op → op ≤ i → reader_count (take i flow) op ≡ 0 → list_at (lists_of records waiting) op ≡ list_at (outputs records [] flow) op
  pub unread : (op : ℕ) → i ≤ op → 0 < op → reader_count (take i flow) op ≡ 0
  pub gone : (op : ℕ) → 0 < op → op ≤ i → 0 < reader_count (take i flow) op → unread_at waiting op ≡ nothing_unread
  pub told_so_far : IsTold records (refused_at flow records) waiting told
  pub counted : most + owed records waiting ≡ left + sum_by length (take i (outputs records [] flow))

reads-here : (flow : List Operator) (i : ℕ) (o : Operator) (op : ℕ) → i < length flow → o ≡ get_or flow i o → reader_count (take (i + 1) flow) op ≡ reader_count (take i flow) op + read_count o.what op
unfolding reader_count
reads-here flow i o op h e =
    let next : take (i + 1) flow ≡ take i flow ++ o ∷ [] = take_more flow i o h ∙ ap (λ x. take i flow ++ x ∷ []) (sym e) in
    ap (λ ops. reader_count ops op) next ∙ reader_count-append (take i flow) (o ∷ []) op
    ∙ ap (λ inputs. reader_count (take i flow) op + count_by (λ input. eqb input op) inputs) (append-nil (inputs_of o.what))

reads-within : (flow : List Operator) (i op : ℕ) → reader_count (take i flow) op ≤ reader_count flow op
reads-within flow i op =
    let e : reader_count flow op ≡ reader_count (take i flow) op + reader_count (drop i flow) op =
    ap (λ ops. reader_count ops op) (sym (take-append-drop i flow)) ∙ reader_count-append (take i flow) (drop i flow) op in
    omega arith

-- the inputs of the next operator are whole
next-whole : (flow : List Operator) → IsFlow flow → (records : Records) (i : ℕ) (o : Operator) (waiting : List Waiting) (told : List (List Refusal)) (left most : ℕ) → i < length flow → o ≡ get_or flow i o
    → Evaluated flow records i waiting told left most → AreWhole o.what (lists_of records waiting) (outputs records [] flow)
next-whole flow ok records i o waiting told left most h e v op reads =
    let front = earlier (take i flow) o.what o.schema (next-here flow ok i o h e).kind op reads in
    let long : length (take i flow) ≡ i = omega (arith, length-take i flow) in
    let all : reader_count flow op ≡ 1 = ok.read_once op front.0 (omega (arith, front.1)) in
    let sum = reads-here flow i o op h e in
    let within = reads-within flow (i + 1) op in
    record {
      some = front.0;
      within = omega (arith, front.1, v.count, length-map waiting (unread_rows records));
      once = omega arith;
      same = v.whole op front.0 (omega (arith, front.1)) (omega arith);
    }

pub has-inputs : (flow : List Operator) → IsFlow flow → (records : Records) (i : ℕ) (o : Operator) (waiting : List Waiting) (told : List (List Refusal)) (left most : ℕ) → i < length flow → o ≡ get_or flow i o
    → Evaluated flow records i waiting told left most → HasInputs waiting o.what
has-inputs flow ok records i o waiting told left most h e v =
    HasInputs-same (lists_of records waiting) waiting o.what (length-map waiting (unread_rows records))
    (inputs-there o.what (lists_of records waiting) (outputs records [] flow) (next-whole flow ok records i o waiting told left most h e v))

record-at : (records : Records) (i : ℕ) → list_at records (i + 1) ≡ get_or records i []
record-at records i = let same : i + 1 - 1 ≡ i = omega arith in list_at-is records (i + 1) (omega arith) ∙ ap (λ k. get_or records k []) same

-- the rows of the next operator
next-rows : (flow : List Operator) → IsFlow flow → (records : Records) (i : ℕ) (o : Operator) (waiting : List Waiting) (told : List (List Refusal)) (left most : ℕ) → i < length flow → o ≡ get_or flow i o
    → Evaluated flow records i waiting told left most → unread_rows records (unread_of records (i + 1) o.what waiting) ≡ get_or (outputs records [] flow) i []
next-rows flow ok records i o waiting told left most h e v =
    let w = next-whole flow ok records i o waiting told left most h e v in
    let all = outputs records [] flow in
    let one = get_or records i [] in
    let lists = lists_of records waiting in
    next-unread records (i + 1) o.what waiting ∙ ap (λ typed. rows_of o.what typed lists) (record-at records i)
    ∙ rows-same o.what one lists all (λ op reads. (w op reads).same)
    ∙ sym (
    rows-here records flow i o h e
    ∙ rows-same o.what one (outputs records [] (take i flow)) all (λ op reads. rows-before records flow i op h (w op reads).some (omega (arith, (w op reads).within, v.count, length-map waiting (unread_rows records))))
    )

-- what it refuses
next-refused_at : (flow : List Operator) → IsFlow flow → (records : Records) (i : ℕ) (o : Operator) (waiting : List Waiting) (told : List (List Refusal)) (left most : ℕ) → i < length flow → o ≡ get_or flow i o
    → Evaluated flow records i waiting told left most → refused_at flow records (i + 1) ≡ refused_by (i + 1) o.what (list_at records (i + 1)) (lists_of records waiting)
next-refused_at flow ok records i o waiting told left most h e v =
    let w = next-whole flow ok records i o waiting told left most h e v in
    let all = outputs records [] flow in
    ap (λ found. refused_of (i + 1) records all found) (nth-here flow i o h e)
    ∙ sym (refused-same (i + 1) o.what (list_at records (i + 1)) (lists_of records waiting) all (λ op reads. (w op reads).same))

total-more : (all : Lists) (i : ℕ) → i < length all → sum_by length (take (i + 1) all) ≡ sum_by length (take i all) + length (get_or all i [])
total-more all i h =
    let one : 0 + length (get_or all i []) ≡ length (get_or all i []) = omega arith in
    ap (λ lists. sum_by length lists) (take_more all i [] h) ∙ sum_by-append length (take i all) (get_or all i [] ∷ []) ∙ ap (λ n. sum_by length (take i all) + n) one

pub Evaluated-none : (flow : List Operator) (records : Records) (waiting : List Waiting) (told : List (List Refusal)) (most : ℕ) → waiting ≡ [] → told ≡ [] → Evaluated flow records 0 waiting told most most
unfolding reader_count
Evaluated-none flow records waiting told most a b = record {
  count = ap length a;
  whole = λ op some few. absurd (omega arith);
  unread = λ op from some. refl;
  gone = λ op some few. absurd (omega arith);
  told_so_far = record {
    count = ap length b ∙ sym (ap length a);
    told_so_far = λ op some few. absurd (omega (arith, few, ap length a));
    scans = λ place op there. absurd (omega (arith, there.0, there.1, ap length a));
  };
  counted = rw a refl;
}

-- one operator more
pub Evaluated-more : (flow : List Operator) → IsFlow flow → (records : Records) (i : ℕ) (o : Operator) (waiting new : List Waiting) (told newly : List (List Refusal)) (left rest most : ℕ)
    → i < length flow → o ≡ get_or flow i o → Evaluated flow records i waiting told left most
    → new ≡ others_of o.what waiting ++ unread_of records (i + 1) o.what waiting ∷ []
    → newly ≡ told_by records told (read_for o.what waiting).source ++ refused_now records (i + 1) o.what waiting ∷ []
    → left ≡ rest + unread_count records (read_for o.what waiting) → Evaluated flow records (i + 1) new newly rest most
Evaluated-more flow ok records i o waiting new told newly left rest most h e v n l k =
    let all = outputs records [] flow in
    let unread = unread_of records (i + 1) o.what waiting in
    let others = others_of o.what waiting in
    let has = has-inputs flow ok records i o waiting told left most h e v in
    let here = next-rows flow ok records i o waiting told left most h e v in
    let long : length others ≡ i = others-length o.what waiting ∙ v.count in
    let within : i < length all = omega (arith, length-outputs records [] flow) in
    let told_now = IsTold-next records (refused_at flow records) waiting told (i + 1) o.what v.told_so_far has (omega (arith, v.count)) (next-refused_at flow ok records i o waiting told left most h e v) in
    let made : length (unread_rows records unread) ≡ length (get_or all i []) = ap length here in
    let sum = next-owed records (i + 1) o.what waiting has in
    let counted : most + owed records (others ++ unread ∷ []) ≡ rest + sum_by length (take (i + 1) all) = omega (arith, v.counted, k, sum, made, total-more all i within) in
    record {
      count = ap length n ∙ length_push others unread ∙ ap (λ m. m + 1) long;
      whole = λ op some few none. ap (λ ws. list_at (lists_of records ws) op) n ∙ same op some few none;
      unread = λ op from some. reads-here flow i o op h e ∙ ap (λ m. m + read_count o.what op) (v.unread op (omega arith) some) ∙ none_later op from;
      gone = λ op some few read. ap (λ ws. unread_at ws op) n ∙ gone op some few read;
      told_so_far = rw (n, l) told_now;
      counted = ap (λ ws. most + owed records ws) n ∙ counted;
    }
  where
    none_later : (op : ℕ) → i + 1 ≤ op → 0 + read_count o.what op ≡ 0
    none_later op from =
        elim (cases_lt 0 (read_count o.what op)) [
          | inl reads ↦
              let front = earlier (take i flow) o.what o.schema (next-here flow ok i o h e).kind op reads in absurd (omega (arith, front.1, length-take i flow))
          | inr none ↦ omega arith
        ]

    same : (op : ℕ) → 0 < op → op ≤ i + 1 → reader_count (take (i + 1) flow) op ≡ 0
        → list_at (lists_of records (others_of o.what waiting ++ unread_of records (i + 1) o.what waiting ∷ [])) op ≡ list_at (outputs records [] flow) op
    same op some few none =
        let all = outputs records [] flow in
        let others = others_of o.what waiting in
        let unread = unread_of records (i + 1) o.what waiting in
        let has = has-inputs flow ok records i o waiting told left most h e v in
        let long : length others ≡ i = others-length o.what waiting ∙ v.count in
        let sum = reads-here flow i o op h e in
        list_at-lists records (others ++ unread ∷ []) op
        ∙ elim (cases_eq op (i + 1)) [
          | inl last ↦
              let place : i ≡ op - 1 = omega arith in
              ap (unread_rows records) (unread-last others unread op (omega (arith, last, long))) ∙ next-rows flow ok records i o waiting told left most h e v
              ∙ ap (λ m. get_or all m []) place ∙ sym (list_at-is all op some)
          | inr other ↦
              ap (unread_rows records) (unread-left others unread op some (omega (arith, few, other, long)) ∙ others-other o.what waiting op some has (omega (arith, sum, none)))
              ∙ sym (list_at-lists records waiting op) ∙ v.whole op some (omega (arith, few, other)) (omega (arith, sum, none))
        ]

    gone : (op : ℕ) → 0 < op → op ≤ i + 1 → 0 < reader_count (take (i + 1) flow) op → unread_at (others_of o.what waiting ++ unread_of records (i + 1) o.what waiting ∷ []) op ≡ nothing_unread
    gone op some few read =
        let others = others_of o.what waiting in
        let unread = unread_of records (i + 1) o.what waiting in
        let has = has-inputs flow ok records i o waiting told left most h e v in
        let long : length others ≡ i = others-length o.what waiting ∙ v.count in
        let sum = reads-here flow i o op h e in
        elim (cases_eq op (i + 1)) [
          | inl last ↦ absurd (omega (arith, sum, read, last, v.unread op (omega (arith, last)) some, none_later op (omega (arith, last))))
          | inr other ↦
              unread-left others unread op some (omega (arith, few, other, long))
              ∙ elim (cases_lt 0 (read_count o.what op)) [
                | inl reads ↦ others-read o.what waiting op has reads
                | inr none ↦ others-none o.what waiting op some has (v.gone op some (omega (arith, few, other)) (omega (arith, sum, read, none)))
              ]
        ]

-- ---- more rows than may be

total-within : (all : Lists) (i : ℕ) → sum_by length (take i all) ≤ sum_by length all
total-within all i =
    let sum : sum_by length all ≡ sum_by length (take i all) + sum_by length (drop i all) =
    ap (λ ls. sum_by length ls) (sym (take-append-drop i all)) ∙ sum_by-append length (take i all) (drop i all) in
    omega (arith, sum)

-- the next operator has to read more than may come
pub too-many : (flow : List Operator) → IsFlow flow → (records : Records) (i : ℕ) (o : Operator) (waiting : List Waiting) (told : List (List Refusal)) (left most : ℕ) → i < length flow → o ≡ get_or flow i o
    → Evaluated flow records i waiting told left most → left < unread_count records (read_for o.what waiting) → most < sum_by length (outputs records [] flow)
too-many flow ok records i o waiting told left most h e v more =
    omega (arith, v.counted, more, total-within (outputs records [] flow) i, read-owed records o.what waiting (has-inputs flow ok records i o waiting told left most h e v))

-- ---- all operators were evaluated

all-here : (flow : List Operator) → IsFlow flow → (i : ℕ) → length flow ≤ i → i ≤ length flow → i ≡ length flow
all-here flow ok i a b = omega (arith, a, b)

-- there is something unread for the last one
pub last-there : (flow : List Operator) → IsFlow flow → (records : Records) (i : ℕ) (waiting : List Waiting) (told : List (List Refusal)) (left most : ℕ) → i ≡ length flow
    → Evaluated flow records i waiting told left most → HasOne waiting (length flow)
last-there flow ok records i waiting told left most e v = (omega (arith, ok.some), omega (arith, e, v.count))

pub last-rows : (flow : List Operator) → IsFlow flow → (records : Records) (i : ℕ) (waiting : List Waiting) (told : List (List Refusal)) (left most : ℕ) → i ≡ length flow
    → Evaluated flow records i waiting told left most → unread_rows records (unread_at waiting (length flow)) ≡ list_at (outputs records [] flow) (length flow)
last-rows flow ok records i waiting told left most e v =
    let some : 0 < length flow = omega (arith, ok.some) in
    sym (list_at-lists records waiting (length flow)) ∙ v.whole (length flow) some (omega (arith, e)) (v.unread (length flow) (omega (arith, e)) some)

-- nothing is left after the last one
last-gone : (flow : List Operator) → IsFlow flow → (records : Records) (i : ℕ) (waiting : List Waiting) (told : List (List Refusal)) (left most : ℕ) → i ≡ length flow
    → Evaluated flow records i waiting told left most → (op : ℕ) → HasOne (without waiting (length flow)) op → unread_at (without waiting (length flow)) op ≡ nothing_unread
last-gone flow ok records i waiting told left most e v op there =
    let has = last-there flow ok records i waiting told left most e v in
    let long : length (without waiting (length flow)) ≡ length waiting = length-set waiting (length flow - 1) nothing_unread in
    elim (cases_eq op (length flow)) [
      | inl last ↦ ap (λ k. unread_at (without waiting (length flow)) k) last ∙ taken-same waiting (length flow) has
      | inr other ↦
          let once : reader_count flow op ≡ 1 = ok.read_once op there.0 (omega (arith, there.1, other, long, v.count, e)) in
          let all : take i flow ≡ flow = take_all i flow (omega (arith, e)) in
          let read : 0 < reader_count (take i flow) op = rw all (omega (arith, once)) in
          taken-none waiting (length flow) op there.0 has (v.gone op there.0 (omega (arith, there.1, long, v.count)) read)
    ]

pub last-owed : (flow : List Operator) → IsFlow flow → (records : Records) (i : ℕ) (waiting : List Waiting) (told : List (List Refusal)) (left most : ℕ) → i ≡ length flow
    → Evaluated flow records i waiting told left most → most + unread_count records (unread_at waiting (length flow)) ≡ left + sum_by length (outputs records [] flow)
last-owed flow ok records i waiting told left most e v =
    let has = last-there flow ok records i waiting told left most e v in
    let gone = last-gone flow ok records i waiting told left most e v in
    let others = without waiting (length flow) in
    let none : owed records others ≡ 0 = owed-none records others (λ k lt.
    let same : k + 1 - 1 ≡ k = omega arith in
    ap (λ m. get_or others m nothing_unread) (sym same) ∙ sym (unread_at-is others (k + 1) (omega arith)) ∙ gone (k + 1) (omega arith, omega (arith, lt))) in
    let all : take i (outputs records [] flow) ≡ outputs records [] flow = take_all i (outputs records [] flow) (omega (arith, e, length-outputs records [] flow)) in
    let sum : sum_by length (take i (outputs records [] flow)) ≡ sum_by length (outputs records [] flow) = ap (λ ls. sum_by length ls) all in
    omega (arith, v.counted, taken-owed records waiting (length flow) has, none, sum)

pub last-told : (flow : List Operator) → IsFlow flow → (records : Records) (i : ℕ) (waiting : List Waiting) (told : List (List Refusal)) (left most : ℕ) → i ≡ length flow
    → Evaluated flow records i waiting told left most
    → flat_map (λ one. one) (told_by records told (unread_at waiting (length flow)).source) ≡ refusals 1 records (outputs records [] flow) flow
last-told flow ok records i waiting told left most e v =
    let has = last-there flow ok records i waiting told left most e v in
    let t = IsTold-read records (refused_at flow records) waiting told (length flow) has v.told_so_far in
    let long : length (without waiting (length flow)) ≡ length waiting = length-set waiting (length flow - 1) nothing_unread in
    let same : length (told_by records told (unread_at waiting (length flow)).source) ≡ length flow = omega (arith, t.count, long, v.count, e) in
    told-refusals records (outputs records [] flow) flow (told_by records told (unread_at waiting (length flow)).source) 1 same (λ k o lt is.
    let next : k + 1 ≡ 1 + k = omega arith in
    all-told records (refused_at flow records) (without waiting (length flow)) (told_by records told (unread_at waiting (length flow)).source) t (last-gone flow ok records i waiting told left most e v) k (omega (arith, lt, same))
    ∙ ap (λ found. refused_of (k + 1) records (outputs records [] flow) found) (nth-here flow k o lt is)
    ∙ ap (λ typed. refused_by (k + 1) o.what typed (outputs records [] flow)) (record-at records k)
    ∙ ap (λ n. refused_by n o.what (get_or records k []) (outputs records [] flow)) next)

pub answer-is : (flow : List Operator) (files : List (List ℕ)) (answer : Answer) → answer.refused ≡ refusals 1 (records_of files flow) (outputs (records_of files flow) [] flow) flow
    → answer.columns ≡ columns_at flow (length flow) → answer.rows ≡ list_at (outputs (records_of files flow) [] flow) (length flow) → answer ≡ answer_of flow files
unfolding answer_of answer_from
answer-is flow files answer a b c = let same : ◌≡◌ {A = Answer} (record { refused = answer.refused; columns = answer.columns; rows = answer.rows }) (answer_of flow files) = rw (a, b, c) refl in same

-- where rows fell short since too many came, there are more than may be
pub short-long : (why : LimitErr) (left count most total : ℕ) → FallsShort why left count → (left < count → most < total) → why ≡ limit_err.Long → most < total
short-long limit_err.Long left count most total h more is = more h
short-long limit_err.NoMemory left count most total h more is = cc
