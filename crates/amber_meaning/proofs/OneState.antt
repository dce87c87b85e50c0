-- The state that items lead to is the one that is computed from them.
use Rattle.std.proofs.Common.{◌≡◌, ℕ, zero, suc, ◌+◌, ◌<◌, ◌≤◌, eqb, List, [], ◌∷◌, ◌++◌, length, map, get_or, replicate, Some, Bool, true, false, if◌then◌else◌, inl, inr, refl, sym, ap, ◌∙◌, arith, add-one}
use Rattle.std.specs.Prelude.{filter}
use Rattle.std.specs.List.{list_any}
use Rattle.std.proofs.lemmas.Bool.{cases_eq, cases_lt, eq-eqb, ne_eqb}
use Rattle.std.proofs.lemmas.List.{append-nil, ext_get_or, get_or_append_left, get_or_push, length_push}
use Rattle.amber_rows.specs.Lists.{nth, IsPrefix}
use Rattle.amber_rows.specs.Topology.{crew_of, op_of}
use Rattle.amber_rows.specs.declared.batch.Batch.{Batch}
use Rattle.amber_log.specs.declared.entry.Entry.{Entry}
use Rattle.amber_log.specs.declared.entry.Entry.TheVariants as entry
use Rattle.amber_log.specs.declared.leg.Part.{Part}
use Rattle.amber_log.specs.declared.log.Item.{Item}
use Rattle.amber_log.specs.declared.log.Item.TheVariants as item
use Rattle.amber_meaning.specs.Laws.{ItemsHaveOneState, LegalLogsHaveOneState, LegsHaveOneState, SendersFirst}
use Rattle.amber_meaning.specs.Legal.{AreOffered, IsWorked, Makes, Query, Reaches, batches_for, entries_of, role_in, stream_of}
use Rattle.amber_meaning.specs.Plan.{role_of}
use Rattle.amber_meaning.specs.Position.{Position, Taken, origin, taken_from}
use Rattle.amber_meaning.specs.Replay.{after_item, after_items, led_by, positions_after, state_after, after_leg, batch_for}
use Rattle.amber_meaning.specs.Rules.{Leads, Moves, Orders, assigned, position_after}
use Rattle.amber_meaning.specs.State.{State, arms_at, begin_leg, begin_last_leg, orders_of, position_at, start_of}
use Rattle.amber_meaning.specs.Task.{Role}
use Rattle.amber_meaning.proofs.Lists.{IsPrefix-refl, IsPrefix-trans, nth-behind, numbered_or}

-- ---- one worker

-- a batch more of a sender
pub taken_from-push : (taken : List Taken) (from : ℕ) (batch : Batch)
    → taken_from (taken ++ record { from = from; batch = batch } ∷ []) from ≡ taken_from taken from ++ batch ∷ []
unfolding taken_from
taken_from-push [] from batch = rw (eq-eqb from from refl)
taken_from-push (one ∷ more) from batch = by (eqb one.from from) (taken_from-push more from batch)
  where
    by : (b : Bool)
        → map (λ (t : Taken). t.batch) (filter (λ (t : Taken). eqb t.from from) (more ++ record { from = from; batch = batch } ∷ []))
        ≡ map (λ (t : Taken). t.batch) (filter (λ (t : Taken). eqb t.from from) more) ++ batch ∷ []
        → map (λ (t : Taken). t.batch) (if b then one ∷ filter (λ (t : Taken). eqb t.from from) (more ++ record { from = from; batch = batch } ∷ []) else filter (λ (t : Taken). eqb t.from from) (more ++ record { from = from; batch = batch } ∷ []))
        ≡ map (λ (t : Taken). t.batch) (if b then one ∷ filter (λ (t : Taken). eqb t.from from) more else filter (λ (t : Taken). eqb t.from from) more) ++ batch ∷ []
    by true e = ap (λ l. one.batch ∷ l) e
    by false e = e

pub taken_from-other : (taken : List Taken) (from sender : ℕ) (batch : Batch) → (from ≡ sender → ⊥)
    → taken_from (taken ++ record { from = from; batch = batch } ∷ []) sender ≡ taken_from taken sender
unfolding taken_from
taken_from-other [] from sender batch ne = rw (ne_eqb from sender ne)
taken_from-other (one ∷ more) from sender batch ne = by (eqb one.from sender) (taken_from-other more from sender batch ne)
  where
    by : (b : Bool)
        → map (λ (t : Taken). t.batch) (filter (λ (t : Taken). eqb t.from sender) (more ++ record { from = from; batch = batch } ∷ []))
        ≡ map (λ (t : Taken). t.batch) (filter (λ (t : Taken). eqb t.from sender) more)
        → map (λ (t : Taken). t.batch) (if b then one ∷ filter (λ (t : Taken). eqb t.from sender) (more ++ record { from = from; batch = batch } ∷ []) else filter (λ (t : Taken). eqb t.from sender) (more ++ record { from = from; batch = batch } ∷ []))
        ≡ map (λ (t : Taken). t.batch) (if b then one ∷ filter (λ (t : Taken). eqb t.from sender) more else filter (λ (t : Taken). eqb t.from sender) more)
    by true e = ap (λ l. one.batch ∷ l) e
    by false e = e

-- what was taken stays taken
pub taken-keeps : (role : Role) (orders : Orders) (p q : Position) (one : Entry) (sender : ℕ) → Moves (assigned role orders) p one q
    → IsPrefix (taken_from p.taken sender) (taken_from q.taken sender)
taken-keeps role orders p q (entry.Take from number) sender h =
    elim (cases_eq from sender) [
      | inl e ↦ (h.0 ∷ [], rw (h.2, ← e) (sym (taken_from-push p.taken from h.0)))
      | inr ne ↦ ([], rw h.2 (append-nil _ ∙ sym (taken_from-other p.taken from sender h.0 ne)))
    ]
taken-keeps role orders p q (entry.Go rows outs) sender h = rw h.2 (IsPrefix-refl _)
taken-keeps role orders p q (entry.Grant n) sender h = rw h.2 (IsPrefix-refl _)
taken-keeps role orders p q (entry.Back n) sender h = rw h.2 (IsPrefix-refl _)
taken-keeps role orders p q entry.Pause sender h = rw h.2 (IsPrefix-refl _)
taken-keeps role orders p q entry.Resume sender h = rw h.2 (IsPrefix-refl _)
taken-keeps role orders p q entry.Hold sender h = rw h.2 (IsPrefix-refl _)
taken-keeps role orders p q entry.Finish sender h = rw h.2 (IsPrefix-refl _)

pub Leads-keeps : (role : Role) (orders : Orders) (p q : Position) (entries : List Entry) (sender : ℕ) → Leads (assigned role orders) p entries q
    → IsPrefix (taken_from p.taken sender) (taken_from q.taken sender)
unfolding Leads
Leads-keeps role orders p q [] sender h = rw h (IsPrefix-refl _)
Leads-keeps role orders p q (one ∷ more) sender h =
    IsPrefix-trans _ _ _ (taken-keeps role orders p h.0 one sender h.1) (Leads-keeps role orders h.0 q more sender h.2)

-- what a worker took of its senders are the first of these batches
abbrev pub TookFirst : Role → (ℕ → List Batch) → Position → Type 0
TookFirst role offer p = (sender : ℕ) → list_any (λ one. eqb one sender) role.senders ≡ true → IsPrefix (taken_from p.taken sender) (offer sender)

-- where a batch is taken, it is the one that is looked up
pub found-batch : (role : Role) (orders : Orders) (offer : ℕ → List Batch) (p q : Position) (from number : ℕ) (h : Moves (assigned role orders) p (entry.Take from number) q)
    → TookFirst role offer q → nth (offer from) (number + 1) ≡ Some h.0
found-batch role orders offer p q from number h first =
    let b : IsPrefix (taken_from p.taken from ++ h.0 ∷ []) (offer from) = rw (h.2, taken_from-push p.taken from h.0) at (first from h.1.sender) in
    nth-behind (taken_from p.taken from) (offer from) h.0 number h.1.next b

pub moved-is : (role : Role) (orders : Orders) (offer : ℕ → List Batch) (p q : Position) (one : Entry) → Moves (assigned role orders) p one q
    → TookFirst role offer q → position_after orders (batch_for offer one) one p ≡ q
moved-is role orders offer p q (entry.Take from number) h first = rw (found-batch role orders offer p q from number h first) (sym h.2)
moved-is role orders offer p q (entry.Go rows outs) h first = sym h.2
moved-is role orders offer p q (entry.Grant n) h first = sym h.2
moved-is role orders offer p q (entry.Back n) h first = sym h.2
moved-is role orders offer p q entry.Pause h first = sym h.2
moved-is role orders offer p q entry.Resume h first = sym h.2
moved-is role orders offer p q entry.Hold h first = sym h.2
moved-is role orders offer p q entry.Finish h first = sym h.2

pub led-is : (role : Role) (orders : Orders) (offer : ℕ → List Batch) (p q : Position) (entries : List Entry) → Leads (assigned role orders) p entries q
    → TookFirst role offer q → led_by offer orders entries p ≡ q
unfolding Leads led_by
led-is role orders offer p q [] h first = h
led-is role orders offer p q (one ∷ more) h first =
    let sooner : TookFirst role offer h.0 = λ sender known. IsPrefix-trans _ _ _ (Leads-keeps role orders h.0 q more sender h.2) (first sender known) in
    rw (moved-is role orders offer p h.0 one h.1 sooner) (led-is role orders offer h.0 q more h.2 first)

-- ---- a leg

pub position-get_or : (positions : List Position) (worker : ℕ) → position_at positions worker ≡ get_or positions worker origin
position-get_or positions worker = numbered_or positions worker origin

-- at the start each worker has begun nothing
pub origin-at : (n worker : ℕ) → position_at (replicate n origin) worker ≡ origin
origin-at n worker = position-get_or (replicate n origin) worker ∙ by n worker
  where
    by : (n worker : ℕ) → get_or (replicate n origin) worker origin ≡ origin
    by zero worker = refl
    by (suc n) zero = refl
    by (suc n) (suc worker) = by n worker

pub position-before : (positions : List Position) (p : Position) (worker : ℕ) → worker < length positions
    → position_at (positions ++ p ∷ []) worker ≡ position_at positions worker
position-before positions p worker h =
    position-get_or (positions ++ p ∷ []) worker ∙ get_or_append_left positions (p ∷ []) origin worker h ∙ sym (position-get_or positions worker)

pub position-last : (positions : List Position) (p : Position) (worker : ℕ) → length positions ≡ worker
    → position_at (positions ++ p ∷ []) worker ≡ p
position-last positions p worker h = position-get_or (positions ++ p ∷ []) worker ∙ get_or_push positions p origin worker h

pub same-batches : (query : Query) (ps qs : List Position) (sender receiver : ℕ) → position_at ps sender ≡ position_at qs sender
    → batches_for query ps sender receiver ≡ batches_for query qs sender receiver
unfolding batches_for stream_of
same-batches query ps qs sender receiver e = rw e

-- the positions of the first workers are those that the leg leads to
pub record AreFound (query : Query) (state after : State) (parts : List Part) (workers : ℕ) : Type 0 where
  pub length : length (positions_after query state parts workers) ≡ workers
  pub same : (worker : ℕ) → worker < workers → position_at (positions_after query state parts workers) worker ≡ position_at after.positions worker

pub are_found : (query : Query) (state after : State) (parts : List Part) → SendersFirst query.flow → IsWorked query state parts after
    → (workers : ℕ) → workers ≤ crew_of query.flow → AreFound query state after parts workers
unfolding positions_after AreOffered role_of
are_found query state after parts first h zero most = record { length = refl; same = λ worker less. absurd (omega arith) }
are_found query state after parts first h (suc k) most =
    let before = are_found query state after parts first h k (omega arith) in
    let ps : List Position = positions_after query state parts k in
    let offer : ℕ → List Batch = λ sender. batches_for query ps sender k in
    let first_taken : TookFirst (role_in query k) offer (position_at after.positions k) = λ sender known.
    rw (same-batches query ps after.positions sender k (before.same sender (first k sender known))) (h.offered k (omega arith) sender known) in
    let new = led-is (role_in query k) (orders_of (arms_at state (op_of query.flow k))) offer (position_at state.positions k)
    (position_at after.positions k) (entries_of parts k) (h.moved k (omega arith)) first_taken in
    record {
      length = length_push ps _ ∙ ap (λ n. n + 1) before.length ∙ add-one k;
      same = λ worker less. elim (cases_lt worker k) [
        | inl lower ↦ position-before ps _ worker (omega (arith, before.length)) ∙ before.same worker lower
        | inr above ↦
            let e : worker ≡ k = omega arith in
            rw e (position-last ps _ k before.length ∙ new)
      ];
    }

State-path : (a b : State) → a.arms ≡ b.arms → a.positions ≡ b.positions → a ≡ b
State-path a b e f = λ i. record { arms = e i; positions = f i }

-- a leg's work leads to the state that is computed
pub after_leg-is : (query : Query) (state after : State) (parts : List Part) → SendersFirst query.flow → IsWorked query state parts after
    → after_leg query state parts ≡ after
unfolding after_leg
after_leg-is query state after parts first h =
    let found = are_found query state after parts first h (crew_of query.flow) (omega arith) in
    let ps : List Position = positions_after query state parts (crew_of query.flow) in
    let same : ps ≡ after.positions = ext_get_or origin ps after.positions (found.length ∙ sym h.crew)
    (λ worker less. sym (position-get_or ps worker) ∙ found.same worker (omega (arith, found.length)) ∙ position-get_or after.positions worker) in
    State-path (record state { positions = ps }) after (sym h.same_arms) same

-- ---- items

pub item-is : (query : Query) (state after : State) (one : Item) → SendersFirst query.flow → Makes query state one after → after_item query state one ≡ after
unfolding after_item
item-is query state after (item.Do command) first h = sym h.1
item-is query state after (item.Run leg) first h = rw (after_leg-is query (begin_leg state) h.0 leg.parts first h.1) (sym h.3)
item-is query state after (item.End leg) first h = after_leg-is query (begin_last_leg state) h.0 leg.parts first h.1 ∙ sym h.3

pub items_have_one_state : ItemsHaveOneState
unfolding Reaches after_items
items_have_one_state query state after [] first h = h
items_have_one_state query state after (one ∷ more) first h =
    rw (item-is query state h.0 one first h.1) (items_have_one_state query h.0 after more first h.2)

pub legs_have_one_state : LegsHaveOneState
legs_have_one_state query before after parts first h = after_leg-is query before after parts first h

pub legal_logs_have_one_state : LegalLogsHaveOneState
unfolding state_after
legal_logs_have_one_state query log first legal = items_have_one_state query (start_of query.flow) legal.after log.items first legal.reached
