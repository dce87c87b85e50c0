-- Workers are dealt among drivers, from the last one on.
use Rattle.std.proofs.Common.{◌≡◌, ◌≢◌, sym, ap, subst, ◌∙◌, ℕ, ◌+◌, ◌-◌, ◌<◌, ◌≤◌, List, length, set, take, slice_index, slice_index_or, None, Some, if◌then◌else◌, inl, inr, length-set, arith}
use Rattle.std.proofs.lemmas.Bool.{cases_lt, eq-eqb, ne_eqb}
use Rattle.std.proofs.lemmas.Bool.Decides.{eqb_tells}
use Rattle.std.proofs.lemmas.List.{get_or-set_other, get_or-set_same, get_or-take, take-take}
use Rattle.amber_dataflow.proofs.Split.{read-at}
use Rattle.amber_worker.specs.WorkerState.{WorkerState}
use Rattle.amber_dataflow.specs.AtWork.{worker_state_at}
use Rattle.amber_leg.specs.Dealing.{AreDealtOut, dealt_place}
use Rattle.amber_leg.specs.Driving.{worker_placed}
use Rattle.amber_leg.specs.declared.driver.Driver.{Driver}

-- those with the greatest numbers are dealt, and the places of the others are empty
pub record AreDealtFrom (count : ℕ) (owners : List ℕ) (crew : List WorkerState) (drivers : List Driver) : Type 0 where
  pub all : (driver : ℕ) (d : Driver) → driver < length drivers → length (slice_index_or drivers driver d).workers.items ≡ length crew
  pub each : (driver place : ℕ) (d : Driver) → driver < length drivers → count ≤ place → place < length crew
      → worker_placed (slice_index_or drivers driver d) place ≡ dealt_place owners crew driver place
  pub rest : (driver place : ℕ) (d : Driver) → driver < length drivers → place < count → worker_placed (slice_index_or drivers driver d) place ≡ None

-- before any is dealt
pub dealt-none : (owners : List ℕ) (crew : List WorkerState) (drivers : List Driver) → ((driver : ℕ) (d : Driver) → driver < length drivers → length (slice_index_or drivers driver d).workers.items ≡ length crew)
    → ((driver place : ℕ) (d : Driver) → driver < length drivers → worker_placed (slice_index_or drivers driver d) place ≡ None) → AreDealtFrom (length crew) owners crew drivers
dealt-none owners crew drivers all none = record { all = all; each = λ driver place d there past inside. absurd (omega arith); rest = λ driver place d there less. none driver place d there }

-- a worker more is dealt to the driver that owns it
module _ (count : ℕ) (owners : List ℕ) (crew : List WorkerState) (drivers : List Driver) (turn : ℕ) (d : Driver) (next : Driver) (before : AreDealtFrom (count + 1) owners crew drivers)
    (inside : count < length crew) (turn-is : turn ≡ slice_index owners count) (there : turn < length drivers)
    (next-is : next.workers.items ≡ set (slice_index_or drivers turn d).workers.items count (Some (worker_state_at crew count))) where
  abbrev after : List Driver
  after = set drivers turn next

  was-long : length (slice_index_or drivers turn d).workers.items ≡ length crew
  was-long = before.all turn d there

  now-here : worker_placed next count ≡ Some (worker_state_at crew count)
  now-here = ap (λ xs. slice_index_or xs count None) next-is
      ∙ get_or-set_same (slice_index_or drivers turn d).workers.items count (Some (worker_state_at crew count)) None (rw was-long inside)

  now-still : (place : ℕ) → place ≢ count → worker_placed next place ≡ worker_placed (slice_index_or drivers turn d) place
  now-still place apart = ap (λ xs. slice_index_or xs place None) next-is
      ∙ get_or-set_other (slice_index_or drivers turn d).workers.items count place (Some (worker_state_at crew count)) None apart

  same-long : length after ≡ length drivers
  same-long = length-set drivers turn next

  -- what is said of each driver, said of that one and of the others
  by-driver : (P : ℕ → Driver → Type 0) → P turn next → ((driver : ℕ) (e : Driver) → driver ≢ turn → driver < length drivers → P driver (slice_index_or drivers driver e))
      → (driver : ℕ) (e : Driver) → driver < length drivers → P driver (slice_index_or after driver e)
  by-driver P own others driver e known = elim (eqb_tells driver turn) [
    | inl same ↦ subst (λ k. P k (slice_index_or after k e)) (sym same.1) (subst (P turn) (sym (get_or-set_same drivers turn next e there)) own)
    | inr other ↦ subst (P driver) (sym (get_or-set_other drivers turn driver next e other.1)) (others driver e other.1 known)
  ]

  abbrev Holds : ℕ → Driver → Type 0
  Holds driver one = (place : ℕ) → count ≤ place → place < length crew → worker_placed one place ≡ dealt_place owners crew driver place

  later : (place : ℕ) → count ≤ place → place ≢ count → count + 1 ≤ place
  later place past apart = elim (cases_lt count place) [ inl less ↦ (let less = less in omega arith) | inr more ↦ absurd (apart (let more = more in omega arith)) ]

  own-holds : Holds turn next
  own-holds place past known = elim (eqb_tells place count) [
    | inl same ↦
        subst (λ k. worker_placed next k ≡ dealt_place owners crew turn k) (sym same.1)
        (now-here ∙ sym (ap (λ b. if b then Some (worker_state_at crew count) else None) (eq-eqb (slice_index owners count) turn (sym turn-is))))
    | inr other ↦ now-still place other.1 ∙ before.each turn place d there (later place past other.1) known
  ]

  others-hold : (driver : ℕ) (e : Driver) → driver ≢ turn → driver < length drivers → Holds driver (slice_index_or drivers driver e)
  others-hold driver e apart known place past within = elim (eqb_tells place count) [
    | inl same ↦
        subst (λ k. worker_placed (slice_index_or drivers driver e) k ≡ dealt_place owners crew driver k) (sym same.1)
        (before.rest driver count e known (omega arith)
        ∙ sym (ap (λ b. if b then Some (worker_state_at crew count) else None) (ne_eqb (slice_index owners count) driver (λ is. apart (sym is ∙ sym turn-is)))))
    | inr other ↦ before.each driver place e known (later place past other.1) within
  ]

  pub dealt-more : AreDealtFrom count owners crew after
  dealt-more = record {
    all = λ driver e known. by-driver (λ k one. length one.workers.items ≡ length crew)
        (ap length next-is ∙ length-set (slice_index_or drivers turn d).workers.items count (Some (worker_state_at crew count)) ∙ was-long)
        (λ k f apart within. before.all k f within) driver e (subst (λ n. driver < n) same-long known);
    each = λ driver place e known past within.
        by-driver Holds own-holds others-hold driver e (subst (λ n. driver < n) same-long known) place past within;
    rest = λ driver place e known less. by-driver (λ k one. worker_placed one place ≡ None)
        (now-still place (λ same. absurd (omega (arith, same))) ∙ before.rest turn place d there (omega arith))
        (λ k f apart within. before.rest k place f within (omega arith)) driver e (subst (λ n. driver < n) same-long known);
  }

-- all are dealt
pub dealt-all : (owners : List ℕ) (crew : List WorkerState) (drivers : List Driver) → AreDealtFrom 0 owners crew drivers → AreDealtOut owners crew drivers
dealt-all owners crew drivers dealt = record { all = dealt.all; each = λ driver place d there known. dealt.each driver place d there (omega arith) known }

-- the last of those that are left
pub last-left : (crew left : List WorkerState) (n m : ℕ) (w d : WorkerState) → left ≡ take m crew → m ≡ n + 1 → n < length crew → Some w ≡ Some (slice_index_or left (m - 1) d) → w ≡ worker_state_at crew n
last-left crew left n m w d is one inside found =
    (let same : w ≡ slice_index_or left (m - 1) d = cc found in same)
    ∙ ap (λ k. slice_index_or left k d) (let same : m - 1 ≡ n = omega (arith, one) in same)
    ∙ ap (λ xs. slice_index_or xs n d) is ∙ get_or-take m crew n d (omega (arith, one)) ∙ read-at crew n d inside

-- those that are left then
pub left-less : (crew left now : List WorkerState) (n m : ℕ) → left ≡ take m crew → m ≡ n + 1 → now ≡ take (m - 1) left → now ≡ take n crew
left-less crew left now n m is one rest =
    rest ∙ ap (λ xs. take (m - 1) xs) is ∙ take-take (m - 1) m crew (omega arith)
    ∙ ap (λ k. take k crew) (let same : m - 1 ≡ n = omega (arith, one) in same)
