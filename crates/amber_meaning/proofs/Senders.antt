-- In a workflow whoever sends to a worker has a smaller number.
use Rattle.std.proofs.Common.{◌≡◌, ℕ, zero, suc, ◌+◌, ◌-◌, ◌<◌, ◌≤◌, eqb, ltb, List, [], ◌∷◌, ◌++◌, length, Option, Some, None, Bool, true, false, ◌&&◌, if◌then◌else◌, ◌⊎◌, inl, inr, refl, sym, ap, arith}
use Rattle.std.specs.Prelude.{filter}
use Rattle.std.specs.List.{list_all, list_any, slice_get}
use Rattle.std.proofs.lemmas.Bool.{and_from, and_parts, cases_lt, eqb-true, false≢true, lt-ltb, ltb-false, ltb-true, or_cases}
use Rattle.std.proofs.lemmas.List.{length_push}
use Rattle.amber_rows.specs.Topology.{kind_at, op_of, reads, senders_of, sends_to, what_at}
use Rattle.amber_rows.specs.FlowRules.{AreNext}
use Rattle.amber_rows.specs.Columns.{HasInput, IsEarlier}
use Rattle.amber_rows.specs.Kinds.{inputs_of, IsKind}
use Rattle.amber_rows.specs.declared.column.Column.{Column}
use Rattle.amber_rows.specs.declared.flow.What.{What}
use Rattle.amber_rows.specs.declared.flow.What.TheVariants as what
use Rattle.amber_rows.specs.declared.flow.Operator.{Operator}
use Rattle.amber_meaning.specs.Laws.{FlowsSendForward, SendersFirst}
use Rattle.amber_meaning.proofs.Lists.{nth-next}
use Rattle.amber_meaning.proofs.Operators.{nth-within}

-- each operator, of those from this number on, reads from smaller numbers alone
abbrev pub read_before : ℕ → List Operator → Bool
read_before number [] = true
read_before number (operator ∷ more) = list_all (λ input. ltb input number) (inputs_of operator.what) && read_before (number + 1) more

-- ---- from a workflow

input-before : (before : List Operator) (input : ℕ) → IsEarlier before input → ltb input (length before + 1) ≡ true
input-before before input h = lt-ltb input (length before + 1) (omega (arith, h.1))

has-before : (before : List Operator) (input : ℕ) (columns : List Column) → HasInput before input columns → ltb input (length before + 1) ≡ true
has-before before input columns h = input-before before input (nth-within before input (λ earlier. earlier.schema ≡ columns) h)

kind-reads : (before : List Operator) (kind : What) (columns : List Column) → IsKind before kind columns
    → list_all (λ input. ltb input (length before + 1)) (inputs_of kind) ≡ true
kind-reads before (what.Scan file) columns h = refl
kind-reads before (what.Filter input cond) columns h = and_from _ _ (has-before before input columns h.0) refl
kind-reads before (what.Project input from) columns h = and_from _ _ (input-before before input h.0) refl
kind-reads before (what.Join build probe build_keys probe_keys) columns h =
    and_from _ _ (input-before before build h.0) (and_from _ _ (input-before before probe h.1) refl)
kind-reads before (what.Group input keys aggs) columns h = and_from _ _ (input-before before input h.0) refl
kind-reads before (what.Sink input) columns h = and_from _ _ (has-before before input columns h) refl

AreNext-read : (before flow : List Operator) → AreNext before flow → read_before (length before + 1) flow ≡ true
unfolding AreNext
AreNext-read before [] h = refl
AreNext-read before (operator ∷ more) h =
    and_from _ _ (kind-reads before operator.what operator.schema h.0.kind)
    (let e : length before + 1 + 1 ≡ length (before ++ operator ∷ []) + 1 = ap (λ n. n + 1) (sym (length_push before operator)) in
    rw e (AreNext-read (before ++ operator ∷ []) more h.1))

-- ---- to the workers

below-any : (xs : List ℕ) (x n : ℕ) → list_any (λ y. eqb y x) xs ≡ true → list_all (λ y. ltb y n) xs ≡ true → x < n
below-any [] x n e f = absurd (false≢true e)
below-any (y ∷ ys) x n e f = by (or_cases (eqb y x) _ e) (λ there. below-any ys x n there (and_parts (ltb y n) _ f).1)
  where
    by : (eqb y x ≡ true) ⊎ (list_any (λ z. eqb z x) ys ≡ true) → (list_any (λ z. eqb z x) ys ≡ true → x < n) → x < n
    by (inl here) rest = let less = ltb-true y n (and_parts (ltb y n) _ f).0 in let same = eqb-true y x here in omega arith
    by (inr there) rest = rest there

read-at : (flow : List Operator) (number place : ℕ) (operator : Operator) → read_before number flow ≡ true → slice_get flow place ≡ Some operator
    → list_all (λ input. ltb input (number + place)) (inputs_of operator.what) ≡ true
read-at [] number place operator e f = cc
read-at (first ∷ more) number zero operator e f =
    let same : first ≡ operator = cc in
    let sum : number + 0 ≡ number = omega arith in
    rw (← same, sum) ((and_parts _ _ e).0)
read-at (first ∷ more) number (suc place) operator e f =
    let sum : number + suc place ≡ number + 1 + place = omega arith in
    rw sum (read-at more (number + 1) place operator ((and_parts _ _ e).1) f)

-- an operator reads from operators with smaller numbers
reads-earlier : (flow : List Operator) (op place other : ℕ) → op ≡ place + 1 → read_before 1 flow ≡ true → 0 < other
    → reads (what_at flow op) other ≡ true → other < op
reads-earlier flow op place other is earlier some e = by (slice_get flow place) refl (rw (is, nth-next flow place) at e)
  where
    by : (found : Option Operator) → slice_get flow place ≡ found → reads (kind_at found) other ≡ true → other < op
    by None f e = absurd (omega (arith, below-any (0 ∷ []) other 1 e refl))
    by (Some operator) f e = omega (arith, below-any (inputs_of operator.what) other (1 + place) e (read-at flow 1 place operator earlier f))

op_of-some : (flow : List Operator) (worker : ℕ) → 0 < op_of flow worker
unfolding op_of
op_of-some [] worker = omega arith
op_of-some (operator ∷ more) worker = by (ltb worker operator.workers)
  where
    by : (b : Bool) → 0 < (if b then 1 else suc (op_of more (worker - operator.workers)))
    by true = omega arith
    by false = omega arith

op_of-rises : (flow : List Operator) (a b : ℕ) → a ≤ b → op_of flow a ≤ op_of flow b
unfolding op_of
op_of-rises [] a b h = omega arith
op_of-rises (operator ∷ more) a b h =
    by (ltb a operator.workers) (ltb b operator.workers) refl refl (op_of-rises more (a - operator.workers) (b - operator.workers) (omega arith))
  where
    by : (x y : Bool) → ltb a operator.workers ≡ x → ltb b operator.workers ≡ y → op_of more (a - operator.workers) ≤ op_of more (b - operator.workers)
        → (if x then 1 else suc (op_of more (a - operator.workers))) ≤ (if y then 1 else suc (op_of more (b - operator.workers)))
    by true true e f less = omega arith
    by true false e f less = omega arith
    by false true e f less = let above = ltb-false _ _ e in let below = ltb-true _ _ f in absurd (omega arith)
    by false false e f less = omega arith

filter-any : (test : ℕ → Bool) (xs : List ℕ) (x : ℕ) → list_any (λ y. eqb y x) (filter test xs) ≡ true → test x ≡ true
filter-any test [] x e = absurd (false≢true e)
filter-any test (y ∷ ys) x e = by (test y) refl e (filter-any test ys x)
  where
    first : test y ≡ true → (eqb y x ≡ true) ⊎ (list_any (λ z. eqb z x) (filter test ys) ≡ true) → (list_any (λ z. eqb z x) (filter test ys) ≡ true → test x ≡ true) → test x ≡ true
    first f (inl here) rest = rw (← eqb-true y x here) f
    first f (inr there) rest = rest there

    by : (b : Bool) → test y ≡ b → list_any (λ z. eqb z x) (if b then y ∷ filter test ys else filter test ys) ≡ true
        → (list_any (λ z. eqb z x) (filter test ys) ≡ true → test x ≡ true) → test x ≡ true
    by true f e rest = first f (or_cases (eqb y x) _ e) rest
    by false f e rest = rest e

-- whoever sends to a worker has a smaller number, where operators read from earlier ones
pub senders_first : (flow : List Operator) → read_before 1 flow ≡ true → SendersFirst flow
unfolding senders_of sends_to
senders_first flow earlier worker sender known =
    let sends = and_parts _ _ (filter-any (λ one. sends_to flow one worker) _ sender known) in
    let op : ℕ = op_of flow worker in
    let less = reads-earlier flow op (op - 1) (op_of flow sender) (omega (arith, op_of-some flow worker)) earlier (op_of-some flow sender) sends.0 in
    by less (cases_lt sender worker)
  where
    by : op_of flow sender < op_of flow worker → (sender < worker) ⊎ (worker ≤ sender) → sender < worker
    by less (inl below) = below
    by less (inr above) = absurd (omega (arith, op_of-rises flow worker sender above))

pub flows_send_forward : FlowsSendForward
flows_send_forward flow is = senders_first flow (AreNext-read [] flow is.operators)
