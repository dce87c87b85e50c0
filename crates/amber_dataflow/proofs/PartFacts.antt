-- The parts of a leg are those of its workers, by rising numbers.
use Rattle.std.proofs.Common.{◌≡◌, refl, sym, ap, ◌∙◌, ℕ, zero, suc, ◌+◌, ◌<◌, ◌≤◌, ◌^◌, List, [], ◌∷◌, ◌++◌, length, get_or, nat_eq, Bool, true, false, if◌then◌else◌, ◌⊎◌, inl, inr, append-nil, add-zero, arith}
use Rattle.std.proofs.Common.{map, take, drop, append_assoc}
use Rattle.std.proofs.lemmas.List.{drop_all, drop_more}
use Rattle.std.specs.List.{list_any}
use Rattle.std.proofs.lemmas.Bool.{eq-eqb, eqb-true, false≢true, ne_eqb, or_cases}
use Rattle.amber_log.specs.Grammar.{AreEntries, AreParts}
use Rattle.amber_log.specs.declared.entry.Entry.{Entry}
use Rattle.amber_log.specs.declared.leg.Part.{Part}
use Rattle.amber_meaning.specs.Legal.{entries_of}
use Rattle.amber_link.specs.Links.{has_some}
use Rattle.amber_worker.specs.WorkerState.{WorkerState}
use Rattle.amber_dataflow.specs.Parts.{part_if_any, parts_from, without_journal}
use Rattle.amber_dataflow.proofs.Changed.{read-left}
use Rattle.amber_dataflow.specs.AtWork.{worker_state_at}

-- ---- who has a part

pub part-above : (number : ℕ) (crew : List WorkerState) (worker : ℕ) → list_any (λ part. nat_eq part.worker worker) (parts_from number crew) ≡ true
    → (number ≤ worker) × (worker < number + length crew)
unfolding parts_from
part-above number [] worker known = absurd (false≢true known)
part-above number (w ∷ more) worker known = by (has_some w.journal) known (part-above (number + 1) more worker)
  where
    later : (number + 1 ≤ worker) × (worker < number + 1 + length more) → (number ≤ worker) × (worker < number + suc (length more))
    later h = let a = h.0 in let b = h.1 in (omega arith, omega arith)

    first : (nat_eq number worker ≡ true) ⊎ (list_any (λ (part : Part). nat_eq part.worker worker) (parts_from (number + 1) more) ≡ true)
        → (list_any (λ (part : Part). nat_eq part.worker worker) (parts_from (number + 1) more) ≡ true → (number + 1 ≤ worker) × (worker < number + 1 + length more))
        → (number ≤ worker) × (worker < number + suc (length more))
    first (inl here) rest = let same = eqb-true number worker here in (omega arith, omega arith)
    first (inr there) rest = later (rest there)

    by : (b : Bool) → list_any (λ (part : Part). nat_eq part.worker worker) ((if b then record { worker = number; entries = w.journal } ∷ [] else []) ++ parts_from (number + 1) more) ≡ true
        → (list_any (λ (part : Part). nat_eq part.worker worker) (parts_from (number + 1) more) ≡ true → (number + 1 ≤ worker) × (worker < number + 1 + length more))
        → (number ≤ worker) × (worker < number + suc (length more))
    by true known rest = first (or_cases (nat_eq number worker) _ known) rest
    by false known rest = later (rest known)

-- ---- what a worker's part is

entries-first : (number worker : ℕ) (entries : List Entry) (parts : List Part) (b : Bool) → nat_eq number worker ≡ b
    → entries_of (record { worker = number; entries = entries } ∷ parts) worker ≡ (if b then entries ++ entries_of parts worker else entries_of parts worker)
unfolding entries_of
entries-first number worker entries parts true is = rw is refl
entries-first number worker entries parts false is = rw is refl

entries-below : (number : ℕ) (crew : List WorkerState) (worker : ℕ) → worker < number → entries_of (parts_from number crew) worker ≡ []
unfolding parts_from entries_of
entries-below number [] worker h = refl
entries-below number (w ∷ more) worker h = by (has_some w.journal) (entries-below (number + 1) more worker (omega arith))
  where
    by : (b : Bool) → entries_of (parts_from (number + 1) more) worker ≡ []
        → entries_of ((if b then record { worker = number; entries = w.journal } ∷ [] else []) ++ parts_from (number + 1) more) worker ≡ []
    by true rest = entries-first number worker w.journal (parts_from (number + 1) more) false (ne_eqb number worker (omega arith)) ∙ rest
    by false rest = rest

no-journal : (w : WorkerState) → has_some w.journal ≡ false → w.journal ≡ []
no-journal w h = by w.journal h
  where
    by : (entries : List Entry) → has_some entries ≡ false → entries ≡ []
    by [] e = refl
    by (one ∷ more) e = absurd (false≢true (sym e))

entries-none : (worker : ℕ) → entries_of [] worker ≡ []
unfolding entries_of
entries-none worker = refl

-- the entries of a worker are those of its journal
pub entries-at : (number : ℕ) (crew : List WorkerState) (i : ℕ) → entries_of (parts_from number crew) (number + i) ≡ (worker_state_at crew i).journal
unfolding parts_from
entries-at number [] i = entries-none (number + i)
entries-at number (w ∷ more) zero = by (has_some w.journal) refl (entries-below (number + 1) more number (omega arith))
  where
    by : (b : Bool) → has_some w.journal ≡ b → entries_of (parts_from (number + 1) more) number ≡ []
        → entries_of ((if b then record { worker = number; entries = w.journal } ∷ [] else []) ++ parts_from (number + 1) more) (number + zero) ≡ w.journal
    by true e rest = rw add-zero (entries-first number number w.journal (parts_from (number + 1) more) true (eq-eqb number number refl) ∙ ap (λ none. w.journal ++ none) rest ∙ append-nil w.journal)
    by false e rest = rw add-zero (rest ∙ sym (no-journal w e))
entries-at number (w ∷ more) (suc i) =
    let sum : number + suc i ≡ number + 1 + i = omega arith in
    rw sum (by (has_some w.journal) (entries-at (number + 1) more i))
  where
    by : (b : Bool) → entries_of (parts_from (number + 1) more) (number + 1 + i) ≡ (worker_state_at more i).journal
        → entries_of ((if b then record { worker = number; entries = w.journal } ∷ [] else []) ++ parts_from (number + 1) more) (number + 1 + i) ≡ (worker_state_at more i).journal
    by true rest = entries-first number (number + 1 + i) w.journal (parts_from (number + 1) more) false (ne_eqb number (number + 1 + i) (omega arith)) ∙ rest
    by false rest = rest

-- ---- the parts have a text

parts-later : (least more : ℕ) (parts : List Part) → more ≤ least → AreParts least parts → AreParts more parts
unfolding AreParts
parts-later least more [] h are = tt
parts-later least more (part ∷ parts) h are = (let first = are.0 in omega arith, are.1, are.2)

some-entries : (entries : List Entry) → has_some entries ≡ true → 0 < length entries
some-entries [] e = absurd (false≢true e)
some-entries (one ∷ more) e = omega arith

pub are-parts : (number : ℕ) (crew : List WorkerState) → number + length crew ≤ 2 ^ 32 → ((i : ℕ) → i < length crew → AreEntries false (worker_state_at crew i).journal)
    → AreParts number (parts_from number crew)
unfolding AreParts parts_from
are-parts number [] few text = tt
are-parts number (w ∷ more) few text = by (has_some w.journal) refl (are-parts (number + 1) more (omega (arith, few)) (λ i below. text (suc i) (omega arith)))
  where
    by : (b : Bool) → has_some w.journal ≡ b → AreParts (number + 1) (parts_from (number + 1) more)
        → AreParts number ((if b then record { worker = number; entries = w.journal } ∷ [] else []) ++ parts_from (number + 1) more)
    by true e rest = (omega arith, record { worker = omega (arith, few); some = some-entries w.journal e; entries = text 0 (omega arith) }, rest)
    by false e rest = parts-later (number + 1) number (parts_from (number + 1) more) (omega arith) rest

-- ---- as the code takes them

pub parts-next : (xs crew : List WorkerState) (i : ℕ) (d : WorkerState) (old new whole : List Part) (entries : List Entry) → i < length xs
    → crew ≡ map without_journal (take i xs) ++ drop i xs → entries ≡ (get_or crew i d).journal
    → new ≡ old ++ part_if_any i entries → old ++ parts_from i (drop i xs) ≡ whole → new ++ parts_from (i + 1) (drop (i + 1) xs) ≡ whole
unfolding parts_from
parts-next xs crew i d old new whole entries h is entries-is grown rest =
    let split : drop i xs ≡ get_or xs i d ∷ drop (i + 1) xs = drop_more xs i d h in
    let journal : entries ≡ (get_or xs i d).journal = entries-is ∙ ap (λ w. w.journal) (read-left without_journal xs crew i d h is) in
    ap (λ ys. ys ++ parts_from (i + 1) (drop (i + 1) xs)) (grown ∙ ap (λ es. old ++ part_if_any i es) journal)
    ∙ append_assoc old (part_if_any i (get_or xs i d).journal) (parts_from (i + 1) (drop (i + 1) xs))
    ∙ ap (λ ys. old ++ parts_from i ys) (sym split)
    ∙ rest

pub parts-end : (xs : List WorkerState) (i : ℕ) (found whole : List Part) → length xs ≤ i → found ++ parts_from i (drop i xs) ≡ whole → found ≡ whole
unfolding parts_from
parts-end xs i found whole h rest = sym (append-nil found) ∙ ap (λ ys. found ++ parts_from i ys) (sym (drop_all i xs h)) ∙ rest
