-- What a new worker keeps and does, by its kind.
use Rattle.std.proofs.Common.{◌≡◌, ℕ, eqb, Bool, if◌then◌else◌, List, [], ◌∷◌, filter, ◌<◌, All, Option, Some, None, is_some, true, false, refl, sym, ap, ◌∙◌, arith}
use Rattle.std.specs.List.{filter_map}
use Rattle.std.proofs.lemmas.Bool.{eq-eqb, eqb-true, false≢true, both_ways, or_left}
use Rattle.amber_rows.specs.Topology.{crew_of, op_of, reads, senders_of, sends_to, what_at, workers_of}
use Rattle.amber_rows.specs.Lists.{numbers_below}
use Rattle.amber_rows.specs.Operators.{first_keys, group_result}
use Rattle.amber_rows.specs.Kinds.{is_keyed, is_scan}
use Rattle.amber_rows.specs.declared.flow.What.{What}
use Rattle.amber_rows.specs.declared.flow.What.TheVariants as what
use Rattle.amber_rows.specs.declared.flow.Operator.{Operator}
use Rattle.amber_meaning.specs.Plan.{builders_in}
use Rattle.amber_meaning.specs.Position.{all_arrivals, is_complete, product, share_or}
use Rattle.amber_meaning.specs.Task.{Arrival, Role, Task, suiting}
use Rattle.amber_meaning.specs.Produce.{closing}
use Rattle.amber_meaning.specs.Kinds.{closing_rows, kept_rows}
use Rattle.amber_meaning.proofs.Crews.{own-worker, worker-known, worker-op}
use Rattle.amber_meaning.proofs.Numbers.{among, among-kept, in-below}
use Rattle.amber_scan.specs.Shares.{ShareState}
use Rattle.amber_operators.specs.Handed.{rest_in}
use Rattle.amber_worker.specs.Made.{builds_for, has_build_side}
use Rattle.amber_worker.specs.AtPosition.{HasShare}
use Rattle.amber_worker.proofs.Produced.{produce-none, product-is}

-- a scan is handed its share, all others nothing yet
pub rest-first : (kind : What) (share : Option ShareState) (role : Role) → is_some share ≡ is_scan kind → HasShare share role
    → rest_in share 0 [] ≡ share_or kind role.share []
rest-first (what.Scan file) None role some has = absurd (false≢true some)
rest-first (what.Scan file) (Some records) role some has = has
rest-first (what.Filter input cond) None role some has = refl
rest-first (what.Filter input cond) (Some records) role some has = absurd (false≢true (sym some))
rest-first (what.Project input from) None role some has = refl
rest-first (what.Project input from) (Some records) role some has = absurd (false≢true (sym some))
rest-first (what.Join build probe build_keys probe_keys) None role some has = refl
rest-first (what.Join build probe build_keys probe_keys) (Some records) role some has = absurd (false≢true (sym some))
rest-first (what.Group input keys aggs) None role some has = refl
rest-first (what.Group input keys aggs) (Some records) role some has = absurd (false≢true (sym some))
rest-first (what.Sink input) None role some has = refl
rest-first (what.Sink input) (Some records) role some has = absurd (false≢true (sym some))

pub kept-first : (kind : What) (task : Task) → kept_rows kind task [] ≡ []
kept-first (what.Scan file) task = refl
kept-first (what.Filter input cond) task = refl
kept-first (what.Project input from) task = refl
kept-first (what.Join build probe build_keys probe_keys) task = refl
kept-first (what.Group input keys aggs) task = refl
kept-first (what.Sink input) task = refl

-- nothing was produced before anything was taken
pub product-first : (role : Role) → closing role.task (all_arrivals role []) ≡ [] → product role [] [] ≡ []
product-first role none =
    product-is role [] []
    ∙ rw produce-none (by (is_complete role [] 0))
  where
    by : (b : Bool) → (if b then closing role.task (all_arrivals role []) else []) ≡ []
    by true = none
    by false = refl

-- nothing is closing before anything was handed
pub closing-first : (kind : What) (task : Task) (share : List Arrival) → closing_rows kind (filter_map (suiting task) (share_or kind share [])) ≡ []
unfolding group_result first_keys
closing-first (what.Scan file) task share = refl
closing-first (what.Filter input cond) task share = refl
closing-first (what.Project input from) task share = refl
closing-first (what.Join build probe build_keys probe_keys) task share = refl
closing-first (what.Group input keys aggs) task share = refl
closing-first (what.Sink input) task share = refl

-- ---- the build side

-- what is left at first is of a scan
pub building-first : (flow : List Operator) (kind : What) (share : List Arrival) → All (λ (one : Arrival). among one.from (builders_in flow kind) ≡ has_build_side kind) (share_or kind share [])
building-first flow (what.Scan file) share = λ k d less. refl
building-first flow (what.Filter input cond) share = λ k d less. absurd (omega arith)
building-first flow (what.Project input from) share = λ k d less. absurd (omega arith)
building-first flow (what.Join build probe build_keys probe_keys) share = λ k d less. absurd (omega arith)
building-first flow (what.Group input keys aggs) share = λ k d less. absurd (omega arith)
building-first flow (what.Sink input) share = λ k d less. absurd (omega arith)

-- the workers of an operator are those whose operator it is
own-operator : (flow : List Operator) (build sender : ℕ) → sender < crew_of flow → eqb (op_of flow sender) build ≡ among sender (workers_of flow build)
own-operator flow build sender known = by (among sender (workers_of flow build)) refl
  where
    by : (b : Bool) → among sender (workers_of flow build) ≡ b → eqb (op_of flow sender) build ≡ b
    by true e = eq-eqb (op_of flow sender) build (worker-op flow build sender e)
    by false e = other (eqb (op_of flow sender) build) refl
      where
        other : (b : Bool) → eqb (op_of flow sender) build ≡ b → b ≡ false
        other false h = refl
        other true h =
            let same : op_of flow sender ≡ build = eqb-true (op_of flow sender) build h in
            absurd (both_ways (among sender (workers_of flow build)) e (ap (λ op. among sender (workers_of flow op)) (sym same) ∙ own-worker flow sender known))

-- which senders are of the build side
pub side-first : (flow : List Operator) (kind : What) (sender : ℕ) → sender < crew_of flow → builds_for flow kind sender ≡ among sender (builders_in flow kind)
side-first flow (what.Scan file) sender known = refl
side-first flow (what.Filter input cond) sender known = refl
side-first flow (what.Project input from) sender known = refl
side-first flow (what.Join build probe build_keys probe_keys) sender known = own-operator flow build sender known
side-first flow (what.Group input keys aggs) sender known = refl
side-first flow (what.Sink input) sender known = refl

-- where a keyed operator reads from a worker's, the worker sends to each of its workers
sends-there : (flow : List Operator) (sender worker : ℕ) (kind : What) → what_at flow (op_of flow worker) ≡ kind → reads kind (op_of flow sender) ≡ true → is_keyed kind ≡ true → sends_to flow sender worker ≡ true
unfolding sends_to
sends-there flow sender worker kind e read keyed = rw (e, read, keyed) refl

-- those of the build side are senders
pub builders-first : (flow : List Operator) (worker sender : ℕ) (kind : What) → what_at flow (op_of flow worker) ≡ kind → among sender (builders_in flow kind) ≡ true → among sender (senders_of flow worker) ≡ true
unfolding senders_of
builders-first flow worker sender (what.Scan file) e h = absurd (false≢true h)
builders-first flow worker sender (what.Filter input cond) e h = absurd (false≢true h)
builders-first flow worker sender (what.Project input from) e h = absurd (false≢true h)
builders-first flow worker sender (what.Join build probe build_keys probe_keys) e h =
    let read : reads (what.Join build probe build_keys probe_keys) (op_of flow sender) ≡ true = or_left _ _ (eq-eqb build (op_of flow sender) (sym (worker-op flow build sender h))) in
    among-kept (λ n. sends_to flow n worker) sender (numbers_below (crew_of flow)) (in-below (crew_of flow) sender (worker-known flow build sender h))
    (sends-there flow sender worker (what.Join build probe build_keys probe_keys) e read refl)
builders-first flow worker sender (what.Group input keys aggs) e h = absurd (false≢true h)
builders-first flow worker sender (what.Sink input) e h = absurd (false≢true h)

-- nobody sends to a scan
sends-nowhere : (flow : List Operator) (sender worker : ℕ) → is_scan (what_at flow (op_of flow worker)) ≡ true → sends_to flow sender worker ≡ false
unfolding sends_to
sends-nowhere flow sender worker h = by (what_at flow (op_of flow worker)) refl
  where
    by : (kind : What) → what_at flow (op_of flow worker) ≡ kind → sends_to flow sender worker ≡ false
    by (what.Scan file) e = rw e refl
    by (what.Filter input cond) e = absurd (false≢true (rw e at h))
    by (what.Project input from) e = absurd (false≢true (rw e at h))
    by (what.Join build probe build_keys probe_keys) e = absurd (false≢true (rw e at h))
    by (what.Group input keys aggs) e = absurd (false≢true (rw e at h))
    by (what.Sink input) e = absurd (false≢true (rw e at h))

pub scan-senders : (flow : List Operator) (worker : ℕ) → is_scan (what_at flow (op_of flow worker)) ≡ true → senders_of flow worker ≡ []
unfolding senders_of
scan-senders flow worker h = filter-none (λ n. sends_to flow n worker) (numbers_below (crew_of flow)) (λ n. sends-nowhere flow n worker h)
  where
    filter-none : (test : ℕ → Bool) (ns : List ℕ) → ((n : ℕ) → test n ≡ false) → filter test ns ≡ []
    filter-none test [] none = refl
    filter-none test (n ∷ ns) none = rw (none n) (filter-none test ns none)
