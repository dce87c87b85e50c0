-- What all workers have refused, put in order, is what the answer says.
use Rattle.std.proofs.Common.{◌≡◌, refl, sym, ap, ◌∙◌, ℕ, zero, suc, ◌<◌, ◌≤◌, List, [], ◌∷◌, ◌++◌, length, map, take, Ok, Err, Bool, true, false, cond, append-nil, arith}
use Rattle.std.specs.List.{flat_map}
use Rattle.std.proofs.lemmas.Bool.{false≢true}
use Rattle.std.proofs.lemmas.Grind.{flat_map-append}
use Rattle.std.proofs.lemmas.List.{map-append}
use Rattle.amber_rows.specs.Topology.{crew_of, what_at, workers_of}
use Rattle.amber_rows.specs.Kinds.{is_scan}
use Rattle.amber_rows.specs.Lists.{numbers_below}
use Rattle.amber_rows.specs.Order.{sort_rows}
use Rattle.amber_rows.specs.declared.flow.What.{What}
use Rattle.amber_rows.specs.declared.flow.What.TheVariants as what
use Rattle.amber_rows.specs.declared.value.Value.{Value}
use Rattle.amber_meaning.specs.Kinds.{keys_refused}
use Rattle.amber_meaning.specs.Given.{keys_given, worker_refusals}
use Rattle.amber_meaning.specs.Legal.{Query, role_in}
use Rattle.amber_meaning.specs.Plan.{role_of, task_of}
use Rattle.amber_meaning.specs.Position.{Position, Taken, all_arrivals, arrivals_of, share_or}
use Rattle.amber_meaning.specs.Refused.{refusal_in, refused_groups, refused_in}
use Rattle.amber_meaning.specs.State.{State, position_at}
use Rattle.amber_meaning.specs.Stops.{op_numbers}
use Rattle.amber_meaning.specs.Task.{Arrival, Task}
use Rattle.amber_meaning.specs.Views.{by_number, op_refuses, taken_by, taken_of, worker_refuses}
use Rattle.amber_meaning.specs.declared.answer.Refusal.{Refusal}
use Rattle.amber_meaning.specs.declared.answer.Refusal.TheVariants as refusal
use Rattle.amber_meaning.proofs.Crews.{worker-known, worker-op}
use Rattle.amber_meaning.proofs.Given.{keys_may_be_sorted}
use Rattle.amber_meaning.proofs.Numbers.{among, among-first, among-more}
use Rattle.amber_worker.proofs.Shares.{by_number-share}
use Rattle.amber_worker.specs.AtPosition.{placement_of}
use Rattle.amber_dataflow.specs.Answers.{refused_at, refuser, sort_refusals}
use Rattle.amber_dataflow.proofs.OperatorNumbers.{all-workers}
use Rattle.amber_dataflow.proofs.Orderly.{AreBehind, AreUpTo, sort-append, sort-keys, sort-records}

-- ---- lists

same-among : {A : Type 0} (f g : ℕ → List A) (xs : List ℕ) → ((x : ℕ) → among x xs ≡ true → f x ≡ g x) → flat_map f xs ≡ flat_map g xs
same-among f g [] same = refl
same-among f g (x ∷ xs) same =
    ap (λ l. l ++ flat_map f xs) (same x (among-first x xs))
    ∙ ap (λ l. g x ++ l) (same-among f g xs (λ y known. same y (among-more y x xs known)))

none-among : {A : Type 0} (f : ℕ → List A) (xs : List ℕ) → ((x : ℕ) → among x xs ≡ true → f x ≡ []) → flat_map f xs ≡ []
none-among f [] none = refl
none-among f (x ∷ xs) none =
    ap (λ l. l ++ flat_map f xs) (none x (among-first x xs)) ∙ none-among f xs (λ y known. none y (among-more y x xs known))

-- what was refused of several lists of records
refused-append : (op : ℕ) (xs ys : List Arrival) → refused_in op (xs ++ ys) ≡ refused_in op xs ++ refused_in op ys
refused-append op xs ys = flat_map-append (λ (one : Arrival). refusal_in op one.from one.what) xs ys

refused-each : (op : ℕ) (f : ℕ → List Arrival) (workers : List ℕ) → flat_map (λ worker. refused_in op (f worker)) workers ≡ refused_in op (flat_map f workers)
refused-each op f [] = refl
refused-each op f (worker ∷ workers) =
    ap (λ l. refused_in op (f worker) ++ l) (refused-each op f workers) ∙ sym (refused-append op (f worker) (flat_map f workers))

groups-each : (op : ℕ) (keys : ℕ → List (List Value)) (workers : List ℕ)
    → flat_map (λ worker. map (refusal.Group op) (keys worker)) workers ≡ map (refusal.Group op) (flat_map keys workers)
groups-each op keys [] = refl
groups-each op keys (worker ∷ workers) =
    ap (λ l. map (refusal.Group op) (keys worker) ++ l) (groups-each op keys workers) ∙ sym (map-append (refusal.Group op) (keys worker) (flat_map keys workers))

-- ---- rows have no fault

both-none : {A : Type 0} (xs ys : List A) → xs ++ ys ≡ [] → (xs ≡ []) × (ys ≡ [])
both-none [] ys e = (refl, e)
both-none (x ∷ xs) ys e = cc

rows-none : (op from : ℕ) (rows : List (List Value)) → refused_in op (map (λ row. record { from = from; what = Ok row }) rows) ≡ []
rows-none op from [] = refl
rows-none op from (row ∷ rows) = rows-none op from rows

batches-none : (op : ℕ) (taken : List Taken) → refused_in op (flat_map arrivals_of taken) ≡ []
batches-none op [] = refl
batches-none op (one ∷ more) =
    refused-append op (arrivals_of one) (flat_map arrivals_of more) ∙ ap (λ xs. xs ++ refused_in op (flat_map arrivals_of more)) (rows-none op one.from one.batch.rows) ∙ batches-none op more

take-none : (op n : ℕ) (arrivals : List Arrival) → refused_in op arrivals ≡ [] → refused_in op (take n arrivals) ≡ []
take-none op zero arrivals none = refl
take-none op (suc n) [] none = refl
take-none op (suc n) (one ∷ more) none =
    let parts = both-none (refusal_in op one.from one.what) (refused_in op more) none in
    ap (λ xs. xs ++ refused_in op (take n more)) parts.0 ∙ take-none op n more parts.1

-- what has no fault has none in its order
ordered-none : (op : ℕ) (arrivals : List Arrival) → refused_in op arrivals ≡ [] → refused_in op (by_number arrivals) ≡ []
unfolding sort_refusals
ordered-none op arrivals none = sym (sort-records op arrivals) ∙ ap sort_refusals none

-- ---- of which operator

abbrev AllOf : ℕ → List Refusal → Type 0
AllOf op [] = Unit {0}
AllOf op (one ∷ more) = (refuser one ≡ op) × AllOf op more

of-append : (op : ℕ) (xs ys : List Refusal) → AllOf op xs → AllOf op ys → AllOf op (xs ++ ys)
of-append op [] ys a b = b
of-append op (x ∷ xs) ys a b = (a.0, of-append op xs ys a.1 b)

of-records : (op : ℕ) (arrivals : List Arrival) → AllOf op (refused_in op arrivals)
of-records op [] = tt
of-records op (one ∷ more) = by one.what (of-records op more)
  where
    by : (what : _) → AllOf op (refused_in op more) → AllOf op (refusal_in op one.from what ++ refused_in op more)
    by (Ok row) rest = rest
    by (Err why) rest = (refl, rest)

of-keys : (op : ℕ) (keys : List (List Value)) → AllOf op (map (refusal.Group op) keys)
of-keys op [] = tt
of-keys op (key ∷ keys) = (refl, of-keys op keys)

of-each : (op : ℕ) (f : ℕ → List Refusal) (workers : List ℕ) → ((worker : ℕ) → among worker workers ≡ true → AllOf op (f worker)) → AllOf op (flat_map f workers)
of-each op f [] all = tt
of-each op f (worker ∷ workers) all =
    of-append op (f worker) (flat_map f workers) (all worker (among-first worker workers)) (of-each op f workers (λ other known. all other (among-more other worker workers known)))

behind-of : (n op : ℕ) (xs : List Refusal) → n < op → AllOf op xs → AreBehind n xs
behind-of n op [] less all = tt
behind-of n op (x ∷ xs) less all = (let here = all.0 in omega arith, behind-of n op xs less all.1)

up-of : (n op : ℕ) (xs : List Refusal) → op ≤ n → AllOf op xs → AreUpTo n xs
up-of n op [] low all = tt
up-of n op (x ∷ xs) low all = (let here = all.0 in omega arith, up-of n op xs low all.1)

up-more : (n m : ℕ) (xs : List Refusal) → n ≤ m → AreUpTo n xs → AreUpTo m xs
up-more n m [] h all = tt
up-more n m (x ∷ xs) h all = (let here = all.0 in omega arith, up-more n m xs h all.1)

up-append : (n : ℕ) (xs ys : List Refusal) → AreUpTo n xs → AreUpTo n ys → AreUpTo n (xs ++ ys)
up-append n [] ys a b = b
up-append n (x ∷ xs) ys a b = (a.0, up-append n xs ys a.1 b)

-- ---- kinds

no-keys : (kind : What) (task : Task) (arrivals : List Arrival) → is_scan kind ≡ true → keys_refused kind task arrivals ≡ []
no-keys (what.Scan file) task arrivals e = refl
no-keys (what.Filter input cond) task arrivals e = absurd (false≢true e)
no-keys (what.Project input columns) task arrivals e = absurd (false≢true e)
no-keys (what.Join build probe build_keys probe_keys) task arrivals e = absurd (false≢true e)
no-keys (what.Group input keys aggs) task arrivals e = absurd (false≢true e)
no-keys (what.Sink input) task arrivals e = absurd (false≢true e)

share-scan : (kind : What) (share : List Arrival) (taken : List Taken) → is_scan kind ≡ true → share_or kind share (flat_map arrivals_of taken) ≡ share
share-scan kind share taken e = ap (λ b. cond b share (flat_map arrivals_of taken)) e

share-other : (op n : ℕ) (kind : What) (share : List Arrival) (taken : List Taken) → is_scan kind ≡ false
    → refused_in op (take n (share_or kind share (flat_map arrivals_of taken))) ≡ []
share-other op n kind share taken e =
    ap (λ b. refused_in op (take n (cond b share (flat_map arrivals_of taken)))) e ∙ take-none op n (flat_map arrivals_of taken) (batches-none op taken)

-- ---- one operator

module _ (query : Query) (positions : ℕ → Position) (state : State)
    (here : (worker : ℕ) → worker < crew_of query.flow → position_at state.positions worker ≡ positions worker)
    (done : (worker : ℕ) → worker < crew_of query.flow → (positions worker).finished ≡ true) where
  abbrev taken : ℕ → List Arrival
  taken worker = taken_of (role_in query worker) (position_at state.positions worker)

  abbrev keys : ℕ → List (List Value)
  keys worker = worker_refuses (role_in query worker) (position_at state.positions worker)

  kind-is : (op worker : ℕ) → among worker (workers_of query.flow op) ≡ true → (role_in query worker).task.kind ≡ what_at query.flow op
  unfolding role_of task_of
  kind-is op worker known = ap (what_at query.flow) (worker-op query.flow op worker known)

  refused-here : (op worker : ℕ) → among worker (workers_of query.flow op) ≡ true
      → refused_at query positions worker ≡ refused_in op (by_number (taken worker)) ++ refused_groups op (keys worker)
  unfolding refused_at worker_refusals placement_of
  refused-here op worker known =
      let inside = worker-known query.flow op worker known in
      let role = role_in query worker in
      ap (λ n. refused_in n (by_number (taken_of role (positions worker))) ++ refused_groups n (keys_given role (positions worker))) (worker-op query.flow op worker known)
      ∙ ap (λ b. refused_in op (by_number (taken_of role (positions worker))) ++ refused_groups op (cond b (worker_refuses role (positions worker)) [])) (done worker inside)
      ∙ ap (λ p. refused_in op (by_number (taken_of role p)) ++ refused_groups op (worker_refuses role p)) (sym (here worker inside))

  of-operator : (op worker : ℕ) → among worker (workers_of query.flow op) ≡ true → AllOf op (refused_at query positions worker)
  of-operator op worker known =
      rw (refused-here op worker known) (of-append op _ _ (of-records op (by_number (taken worker))) (of-keys op (sort_rows (keys worker))))

  scan-refuses : (op : ℕ) → is_scan (what_at query.flow op) ≡ true → sort_refusals (flat_map (refused_at query positions) (workers_of query.flow op)) ≡ op_refuses query state op
  unfolding taken_by sort_rows all_arrivals
  scan-refuses op scan =
      let workers = workers_of query.flow op in
      let none : (worker : ℕ) → among worker workers ≡ true → keys worker ≡ [] = λ worker known.
      no-keys (role_in query worker).task.kind (role_in query worker).task (taken worker) (ap is_scan (kind-is op worker known) ∙ scan) in
      let rising : (worker : ℕ) → among worker workers ≡ true → by_number (taken worker) ≡ taken worker = λ worker known.
      let p = position_at state.positions worker in
      let own = share-scan (role_in query worker).task.kind (role_in query worker).share p.taken (ap is_scan (kind-is op worker known) ∙ scan) in
      ap (λ xs. by_number (take (length p.constants) xs)) own ∙ by_number-share query.flow query.records worker (length p.constants)
      ∙ ap (take (length p.constants)) (sym own) in
      ap sort_refusals (same-among (refused_at query positions) (λ worker. refused_in op (taken worker)) workers (λ worker known.
      refused-here op worker known
      ∙ ap (λ ks. refused_in op (by_number (taken worker)) ++ refused_groups op ks) (none worker known)
      ∙ append-nil (refused_in op (by_number (taken worker)))
      ∙ ap (refused_in op) (rising worker known))
      ∙ refused-each op taken workers)
      ∙ sort-records op (flat_map taken workers)
      ∙ sym (ap (λ ks. refused_in op (by_number (flat_map taken workers)) ++ refused_groups op ks) (none-among keys workers none)
      ∙ append-nil (refused_in op (by_number (flat_map taken workers))))

  other-refuses : (op : ℕ) → is_scan (what_at query.flow op) ≡ false → sort_refusals (flat_map (refused_at query positions) (workers_of query.flow op)) ≡ op_refuses query state op
  unfolding taken_by all_arrivals
  other-refuses op other =
      let workers = workers_of query.flow op in
      let none : (worker : ℕ) → among worker workers ≡ true → refused_in op (taken worker) ≡ [] = λ worker known.
      let p = position_at state.positions worker in
      share-other op (length p.constants) (role_in query worker).task.kind (role_in query worker).share p.taken (ap is_scan (kind-is op worker known) ∙ other) in
      let all-none : refused_in op (flat_map taken workers) ≡ [] =
      sym (refused-each op taken workers) ∙ none-among (λ worker. refused_in op (taken worker)) workers none in
      ap sort_refusals (same-among (refused_at query positions) (λ worker. refused_groups op (keys worker)) workers (λ worker known.
      refused-here op worker known
      ∙ ap (λ l. l ++ refused_groups op (keys worker)) (ordered-none op (taken worker) (none worker known)))
      ∙ groups-each op (λ worker. sort_rows (keys worker)) workers)
      ∙ sort-keys op (flat_map (λ worker. sort_rows (keys worker)) workers)
      ∙ keys_may_be_sorted op keys workers
      ∙ ap (λ l. l ++ refused_groups op (flat_map keys workers)) (sym (ordered-none op (flat_map taken workers) all-none))

  operator-refuses : (op : ℕ) → sort_refusals (flat_map (refused_at query positions) (workers_of query.flow op)) ≡ op_refuses query state op
  operator-refuses op = by (is_scan (what_at query.flow op)) refl
    where
      by : (b : Bool) → is_scan (what_at query.flow op) ≡ b → sort_refusals (flat_map (refused_at query positions) (workers_of query.flow op)) ≡ op_refuses query state op
      by true e = scan-refuses op e
      by false e = other-refuses op e

  -- ---- all operators

  abbrev first-refused : ℕ → List Refusal
  first-refused n = flat_map (refused_at query positions) (flat_map (workers_of query.flow) (map suc (numbers_below n)))

  next-refused : (n : ℕ) → first-refused (suc n) ≡ first-refused n ++ flat_map (refused_at query positions) (workers_of query.flow (suc n))
  unfolding numbers_below
  next-refused n =
      let f = refused_at query positions in
      let ops = map suc (numbers_below n) in
      ap (λ l. flat_map f (flat_map (workers_of query.flow) l)) (map-append suc (numbers_below n) (n ∷ []))
      ∙ ap (flat_map f) (flat_map-append (workers_of query.flow) ops (suc n ∷ []))
      ∙ ap (λ l. flat_map f (flat_map (workers_of query.flow) ops ++ l)) (append-nil (workers_of query.flow (suc n)))
      ∙ flat_map-append f (flat_map (workers_of query.flow) ops) (workers_of query.flow (suc n))

  first-low : (n : ℕ) → AreUpTo n (first-refused n)
  unfolding numbers_below
  first-low zero = tt
  first-low (suc n) =
      rw (next-refused n) (up-append (suc n) (first-refused n) (flat_map (refused_at query positions) (workers_of query.flow (suc n)))
      (up-more n (suc n) (first-refused n) (omega arith) (first-low n))
      (up-of (suc n) (suc n) _ (omega arith) (of-each (suc n) (refused_at query positions) (workers_of query.flow (suc n)) (of-operator (suc n)))))

  first-refuse : (n : ℕ) → sort_refusals (first-refused n) ≡ flat_map (op_refuses query state) (map suc (numbers_below n))
  unfolding numbers_below sort_refusals
  first-refuse zero = refl
  first-refuse (suc n) =
      let last = flat_map (refused_at query positions) (workers_of query.flow (suc n)) in
      ap sort_refusals (next-refused n)
      ∙ sort-append n (first-refused n) last (first-low n)
      (behind-of n (suc n) last (omega arith) (of-each (suc n) (refused_at query positions) (workers_of query.flow (suc n)) (of-operator (suc n))))
      ∙ ap (λ l. l ++ sort_refusals last) (first-refuse n)
      ∙ ap (λ l. flat_map (op_refuses query state) (map suc (numbers_below n)) ++ l) (operator-refuses (suc n) ∙ sym (append-nil (op_refuses query state (suc n))))
      ∙ sym (flat_map-append (op_refuses query state) (map suc (numbers_below n)) (suc n ∷ []))
      ∙ ap (flat_map (op_refuses query state)) (sym (map-append suc (numbers_below n) (n ∷ [])))

  -- put in order it is what the operators have refused
  pub all-refuse : sort_refusals (flat_map (refused_at query positions) (numbers_below (crew_of query.flow))) ≡ flat_map (op_refuses query state) (op_numbers query.flow)
  all-refuse = ap (λ l. sort_refusals (flat_map (refused_at query positions) l)) (all-workers query.flow) ∙ first-refuse (length query.flow)
