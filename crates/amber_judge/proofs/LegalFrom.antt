-- What passes the tests leads on, to the state that is computed.
use Rattle.std.proofs.Common.{◌≡◌, ◌≢◌, ℕ, zero, suc, ◌+◌, ◌<◌, ◌≤◌, eqb, leb, ltb, List, [], ◌∷◌, ◌++◌, length, map, Option, Some, None, is_some, unwrap_or, Bool, true, not, ◌⊎◌, inl, inr, refl, sym, ap, ◌∙◌, arith, add-one}
use Rattle.std.specs.List.{list_all, list_any}
use Rattle.std.proofs.lemmas.Bool.{and_parts, cases_lt, eqb-true, false≢true, leb-true, ltb-true, not-true, or_cases}
use Rattle.std.proofs.lemmas.List.{length_push}
use Rattle.std.proofs.lemmas.List.Folds.{list_all-map}
use Rattle.std.proofs.lemmas.Option.{slice_get_past}
use Rattle.amber_meaning.proofs.Led.{no_batch}
use Rattle.amber_rows.specs.Lists.{numbers_below, nth, is_empty}
use Rattle.amber_rows.specs.Topology.{crew_of, op_of}
use Rattle.amber_rows.specs.declared.batch.Batch.{Batch}
use Rattle.amber_log.specs.declared.entry.Entry.{Entry}
use Rattle.amber_log.specs.declared.entry.Entry.TheVariants as entry
use Rattle.amber_log.specs.declared.leg.Close.{Close}
use Rattle.amber_log.specs.declared.leg.Close.TheVariants as close
use Rattle.amber_log.specs.declared.leg.Part.{Part}
use Rattle.amber_log.specs.declared.log.Item.{Item}
use Rattle.amber_log.specs.declared.log.Item.TheVariants as item
use Rattle.amber_meaning.specs.Laws.{SendersFirst}
use Rattle.amber_judge.specs.TestLaws.{LogsAreTested}
use Rattle.amber_meaning.specs.Legal.{AreOffered, ClosesEnd, ClosesRun, IsSettled, IsWorked, Makes, Query, Reaches, batches_for, entries_of, role_in, stops_in}
use Rattle.amber_judge.specs.LegalTests.{are_offered, is_first_of, is_offered, is_settled, is_within, may_close_end, may_close_run, may_do, may_lead, may_make, may_reach, may_work}
use Rattle.amber_meaning.specs.Plan.{role_of}
use Rattle.amber_meaning.specs.Position.{Position}
use Rattle.amber_meaning.specs.Replay.{after_item, after_items, led_by, positions_after, after_leg, batch_for}
use Rattle.amber_meaning.specs.Rules.{Leads, Moves, Orders, assigned, position_after, with_offered}
use Rattle.amber_judge.specs.RuleTests.{may_move}
use Rattle.amber_meaning.specs.State.{Counting, State, arms_at, begin_leg, begin_last_leg, counted_at, no_arms, orders_of, position_at, steps_in}
use Rattle.amber_meaning.specs.Task.{Role}
use Rattle.amber_judge.proofs.Batches.{begins-so}
use Rattle.amber_judge.proofs.LegalTests.{may_reach-is}
use Rattle.amber_meaning.proofs.Lists.{list_all-at, list_all-member, nth-next}
use Rattle.amber_meaning.proofs.OneState.{position-before, position-last, same-batches}
use Rattle.amber_judge.proofs.RuleTests.{may_move-so, may_take-so, nil_from_empty}

-- ---- one worker

pub moves-from : (role : Role) (orders : Orders) (offer : ℕ → List Batch) (p : Position) (one : Entry) → may_move (assigned role orders) p one ≡ true
    → is_offered offer one ≡ true → Moves (assigned role orders) p one (position_after orders (batch_for offer one) one p)
moves-from role orders offer p (entry.Take from number) e f = by (nth (offer from) (number + 1)) f
  where
    by : (found : Option Batch) → is_some found ≡ true → Moves (assigned role orders) p (entry.Take from number) (with_offered from found p)
    by None g = absurd (false≢true g)
    by (Some batch) g = (batch, (may_take-so role p from number).0 e, refl)
moves-from role orders offer p (entry.Go rows outs) e f = (no_batch, (may_move-so role orders p (entry.Go rows outs)).0 e, refl)
moves-from role orders offer p (entry.Grant n) e f = (no_batch, (may_move-so role orders p (entry.Grant n)).0 e, refl)
moves-from role orders offer p (entry.Back n) e f = (no_batch, (may_move-so role orders p (entry.Back n)).0 e, refl)
moves-from role orders offer p entry.Pause e f = (no_batch, (may_move-so role orders p entry.Pause).0 e, refl)
moves-from role orders offer p entry.Resume e f = (no_batch, (may_move-so role orders p entry.Resume).0 e, refl)
moves-from role orders offer p entry.Hold e f = (no_batch, (may_move-so role orders p entry.Hold).0 e, refl)
moves-from role orders offer p entry.Finish e f = (no_batch, (may_move-so role orders p entry.Finish).0 e, refl)

leads-from : (role : Role) (orders : Orders) (offer : ℕ → List Batch) (p : Position) (entries : List Entry) → may_lead offer (assigned role orders) p entries ≡ true
    → Leads (assigned role orders) p entries (led_by offer orders entries p)
unfolding Leads led_by may_lead
leads-from role orders offer p [] e = refl
leads-from role orders offer p (one ∷ more) e =
    let parts = and_parts (may_move (assigned role orders) p one) _ e in
    let others = and_parts (is_offered offer one) _ parts.1 in
    (position_after orders (batch_for offer one) one p, moves-from role orders offer p one parts.0 others.0, leads-from role orders offer (position_after orders (batch_for offer one) one p) more others.1)

-- the same batches of the senders lead to the same
moved-same : (role : Role) (orders : Orders) (offer other : ℕ → List Batch) (p : Position) (one : Entry)
    → ((sender : ℕ) → list_any (λ s. eqb s sender) role.senders ≡ true → other sender ≡ offer sender) → may_move (assigned role orders) p one ≡ true
    → position_after orders (batch_for other one) one p ≡ position_after orders (batch_for offer one) one p
moved-same role orders offer other p (entry.Take from number) same e = rw (same from ((may_take-so role p from number).0 e).sender)
moved-same role orders offer other p (entry.Go rows outs) same e = refl
moved-same role orders offer other p (entry.Grant n) same e = refl
moved-same role orders offer other p (entry.Back n) same e = refl
moved-same role orders offer other p entry.Pause same e = refl
moved-same role orders offer other p entry.Resume same e = refl
moved-same role orders offer other p entry.Hold same e = refl
moved-same role orders offer other p entry.Finish same e = refl

led-same : (role : Role) (orders : Orders) (offer other : ℕ → List Batch) (p : Position) (entries : List Entry)
    → ((sender : ℕ) → list_any (λ s. eqb s sender) role.senders ≡ true → other sender ≡ offer sender) → may_lead offer (assigned role orders) p entries ≡ true
    → led_by other orders entries p ≡ led_by offer orders entries p
unfolding led_by may_lead
led-same role orders offer other p [] same e = refl
led-same role orders offer other p (one ∷ more) same e =
    let parts = and_parts (may_move (assigned role orders) p one) _ e in
    let others = and_parts (is_offered offer one) _ parts.1 in
    rw (moved-same role orders offer other p one same parts.0) (led-same role orders offer other (position_after orders (batch_for offer one) one p) more same others.1)

-- ---- a leg

length-after : (query : Query) (state : State) (parts : List Part) (workers : ℕ) → length (positions_after query state parts workers) ≡ workers
unfolding positions_after
length-after query state parts zero = refl
length-after query state parts (suc k) =
    length_push (positions_after query state parts k) _ ∙ ap (λ n. n + 1) (length-after query state parts k) ∙ add-one k

-- where a worker stands, that is offered what these have made
abbrev stands : Query → State → List Part → List Position → ℕ → Position
stands query state parts positions worker =
    led_by (λ sender. batches_for query positions sender worker) (orders_of (arms_at state (op_of query.flow worker))) (entries_of parts worker) (position_at state.positions worker)

position-after : (query : Query) (state : State) (parts : List Part) (workers worker : ℕ) → worker < workers
    → position_at (positions_after query state parts workers) worker ≡ stands query state parts (positions_after query state parts worker) worker
unfolding positions_after
position-after query state parts zero worker less = absurd (omega arith)
position-after query state parts (suc k) worker less = by (cases_lt worker k) (position-after query state parts k worker)
  where
    by : (worker < k) ⊎ (k ≤ worker)
        → (worker < k → position_at (positions_after query state parts k) worker ≡ stands query state parts (positions_after query state parts worker) worker)
        → position_at (positions_after query state parts k ++ stands query state parts (positions_after query state parts k) k ∷ []) worker
        ≡ stands query state parts (positions_after query state parts worker) worker
    by (inl lower) rest = position-before (positions_after query state parts k) _ worker (omega (arith, length-after query state parts k)) ∙ rest lower
    by (inr above) rest =
        let same : worker ≡ k = omega arith in
        rw same (position-last (positions_after query state parts k) _ k (length-after query state parts k))

position-same : (query : Query) (state : State) (parts : List Part) (more fewer worker : ℕ) → worker < fewer → fewer ≤ more
    → position_at (positions_after query state parts fewer) worker ≡ position_at (positions_after query state parts more) worker
position-same query state parts more fewer worker less most =
    position-after query state parts fewer worker less ∙ sym (position-after query state parts more worker (omega arith))

known-from : (n : ℕ) (parts : List Part) → list_all (λ part. ltb part.worker n) parts ≡ true
    → (worker : ℕ) → list_any (λ part. eqb part.worker worker) parts ≡ true → worker < n
known-from n [] e worker known = absurd (false≢true known)
known-from n (part ∷ parts) e worker known =
    by (or_cases (eqb part.worker worker) _ known) (known-from n parts (and_parts (ltb part.worker n) _ e).1 worker)
  where
    by : (eqb part.worker worker ≡ true) ⊎ (list_any (λ other. eqb other.worker worker) parts ≡ true)
        → (list_any (λ other. eqb other.worker worker) parts ≡ true → worker < n) → worker < n
    by (inl here) rest = rw (← eqb-true part.worker worker here) (ltb-true _ _ ((and_parts (ltb part.worker n) _ e).0))
    by (inr there) rest = rest there

are_offered-from : (query : Query) (positions : List Position) → are_offered query positions ≡ true → AreOffered query positions
unfolding are_offered AreOffered
are_offered-from query positions e receiver less sender known =
    (begins-so _ _).0 (list_all-member (is_first_of query positions receiver) (role_in query receiver).senders sender
    (list_all-at (λ r. list_all (is_first_of query positions r) (role_in query r).senders) (crew_of query.flow) receiver e less) known)

work-from : (query : Query) (before : State) (parts : List Part) → SendersFirst query.flow → may_work query before parts ≡ true
    → IsWorked query before parts (after_leg query before parts)
unfolding may_work after_leg role_of
work-from query before parts first e =
    let known = and_parts (list_all (λ part. ltb part.worker (crew_of query.flow)) parts) _ e in
    let others = and_parts (list_all (may_do query before parts) (numbers_below (crew_of query.flow))) _ known.1 in
    let ps : List Position = positions_after query before parts (crew_of query.flow) in
    record {
      same_arms = refl;
      crew = length-after query before parts (crew_of query.flow);
      known = known-from (crew_of query.flow) parts known.0;
      moved = λ worker less.
          let may = list_all-at (may_do query before parts) (crew_of query.flow) worker others.0 less in
          let offer : ℕ → List Batch = λ sender. batches_for query ps sender worker in
          let earlier : List Position = positions_after query before parts worker in
          let orders = orders_of (arms_at before (op_of query.flow worker)) in
          let same = led-same (role_in query worker) orders offer (λ sender. batches_for query earlier sender worker) (position_at before.positions worker)
          (entries_of parts worker) (λ sender known. same-batches query earlier ps sender worker
          (position-same query before parts (crew_of query.flow) worker sender (first worker sender known) (omega arith))) may in
          rw (position-after query before parts (crew_of query.flow) worker less ∙ same)
          (leads-from (role_in query worker) orders offer (position_at before.positions worker) (entries_of parts worker) may);
      offered = are_offered-from query ps others.1;
    }

-- ---- how a leg is closed

list_all-later : (test : ℕ → Bool) (n k : ℕ) → list_all test (map suc (numbers_below n)) ≡ true → k < n → test (suc k) ≡ true
list_all-later test n k e less = list_all-at (λ j. test (suc j)) n k (sym (list_all-map test suc (numbers_below n)) ∙ e) less

within-from : (query : Query) (state : State) (op : ℕ) (armed : Option Counting) (counting : Counting) → is_within query state op armed ≡ true → armed ≡ Some counting
    → counted_at query.flow state op counting ≤ counting.target
within-from query state op None counting e f = cc
within-from query state op (Some other) counting e f = let same : other ≡ counting = cc in rw (← same) (leb-true _ _ e)

no_count : (state : State) (op : ℕ) (counting : Counting) → length state.arms < op → (arms_at state op).count ≡ Some counting → ⊥
no_count state zero counting less e = absurd (omega arith)
no_count state (suc k) counting less e =
    let past : nth state.arms (k + 1) ≡ None = nth-next state.arms k ∙ slice_get_past state.arms k (omega arith) in
    let none : (arms_at state (suc k)).count ≡ None = rw (← add-one k) (ap (λ found. (unwrap_or found no_arms).count) past) in
    cc

settled-from : (query : Query) (state : State) → is_settled query state ≡ true → IsSettled query state
unfolding is_settled
settled-from query state e =
    let parts = and_parts (list_all (λ worker. eqb (position_at state.positions worker).restraint.hand 0) (numbers_below (crew_of query.flow))) _ e in
    record {
      hands = λ worker less. eqb-true _ _ (list_all-at (λ worker. eqb (position_at state.positions worker).restraint.hand 0) (crew_of query.flow) worker parts.0 less);
      counts = counts parts.1;
    }
  where
    counts : list_all (λ op. is_within query state op (arms_at state op).count) (map suc (numbers_below (length state.arms))) ≡ true
        → (op : ℕ) (counting : Counting) → (arms_at state op).count ≡ Some counting → counted_at query.flow state op counting ≤ counting.target
    counts e zero counting f = cc
    counts e (suc k) counting f = by (cases_lt k (length state.arms))
      where
        by : (k < length state.arms) ⊎ (length state.arms ≤ k) → counted_at query.flow state (suc k) counting ≤ counting.target
        by (inl lower) = within-from query state (suc k) (arms_at state (suc k)).count counting
            (list_all-later (λ op. is_within query state op (arms_at state op).count) (length state.arms) k e lower) f
        by (inr above) = absurd (no_count state (suc k) counting (omega arith) f)

some-from : {A : Type 0} (xs : List A) → not (is_empty xs) ≡ true → xs ≢ []
some-from [] e = absurd (false≢true e)
some-from (x ∷ xs) e = λ f. cc

pub close_run-from : (query : Query) (state : State) (closed : Close) → may_close_run query state closed ≡ true → ClosesRun query state closed
unfolding may_close_run
close_run-from query state close.Cut e =
    let parts = and_parts (is_settled query state) _ e in
    let others = and_parts (leb (steps_in state) query.most) _ parts.1 in
    (settled-from query state parts.0, leb-true _ _ others.0, some-from (stops_in query state) others.1)
close_run-from query state close.Long e =
    let parts = and_parts (is_settled query state) _ e in
    let others = and_parts (eqb (steps_in state) query.most) _ parts.1 in
    (settled-from query state parts.0, eqb-true _ _ others.0, nil_from_empty (stops_in query state) others.1)

pub close_end-from : (query : Query) (state : State) (closed : Close) → may_close_end query state closed ≡ true → ClosesEnd query state closed
unfolding may_close_end
close_end-from query state close.Cut e =
    let parts = and_parts (is_settled query state) _ e in
    let others = and_parts (leb (steps_in state) query.most) _ parts.1 in
    (settled-from query state parts.0, leb-true _ _ others.0, others.1)
close_end-from query state close.Long e =
    let parts = and_parts (is_settled query state) _ e in
    let others = and_parts (eqb (steps_in state) query.most) _ parts.1 in
    (settled-from query state parts.0, eqb-true _ _ others.0, not-true _ others.1)

-- ---- items

make-from : (query : Query) (state : State) (one : Item) → SendersFirst query.flow → may_make query state one ≡ true → Makes query state one (after_item query state one)
unfolding may_make after_item
make-from query state (item.Do command) first e = (e, refl)
make-from query state (item.Run leg) first e =
    let parts = and_parts (may_work query (begin_leg state) leg.parts) _ e in
    (after_leg query (begin_leg state) leg.parts, work-from query (begin_leg state) leg.parts first parts.0, close_run-from query _ leg.close parts.1, refl)
make-from query state (item.End leg) first e =
    let parts = and_parts (may_work query (begin_last_leg state) leg.parts) _ e in
    (after_leg query (begin_last_leg state) leg.parts, work-from query (begin_last_leg state) leg.parts first parts.0, close_end-from query _ leg.close parts.1, refl)

reach-from : (query : Query) (state : State) (items : List Item) → SendersFirst query.flow → may_reach query state items ≡ true
    → Reaches query state items (after_items query state items)
unfolding Reaches may_reach after_items
reach-from query state [] first e = refl
reach-from query state (one ∷ more) first e =
    let parts = and_parts (may_make query state one) _ e in
    (after_item query state one, make-from query state one first parts.0, reach-from query (after_item query state one) more first parts.1)

pub logs_are_tested : LogsAreTested
logs_are_tested query state items first =
    (λ e. (after_items query state items, reach-from query state items first e), λ h. may_reach-is query state h.0 items first h.1)
