-- The tests for legs and logs are true exactly of what leads on.
use Rattle.std.proofs.Common.{◌≡◌, ◌≢◌, ℕ, suc, ◌<◌, ◌≤◌, eqb, ltb, List, [], ◌∷◌, length, map, Option, Some, None, is_some, true, not, refl, ap}
use Rattle.std.specs.List.{list_all, list_any}
use Rattle.std.proofs.lemmas.Bool.{and_from, eq-eqb, le-leb, lt-ltb, not_from_false, or_left, or_right}
use Rattle.amber_rows.specs.Lists.{numbers_below, IsPrefix, is_empty}
use Rattle.amber_rows.specs.Topology.{crew_of, op_of}
use Rattle.amber_rows.specs.declared.batch.Batch.{Batch}
use Rattle.amber_log.specs.declared.entry.Entry.{Entry}
use Rattle.amber_log.specs.declared.entry.Entry.TheVariants as entry
use Rattle.amber_log.specs.declared.leg.Close.{Close}
use Rattle.amber_log.specs.declared.leg.Close.TheVariants as close
use Rattle.amber_log.specs.declared.leg.Part.{Part}
use Rattle.amber_log.specs.declared.log.Item.{Item}
use Rattle.amber_log.specs.declared.log.Item.TheVariants as item
use Rattle.amber_meaning.specs.Laws.{SendersFirst}
use Rattle.amber_judge.specs.TestLaws.{RulesAreTested}
use Rattle.amber_meaning.specs.Legal.{AreOffered, ClosesEnd, ClosesRun, IsSettled, IsWorked, Makes, Query, Reaches, batches_for, entries_of, role_in, stops_in}
use Rattle.amber_judge.specs.LegalTests.{are_offered, is_first_of, is_offered, is_settled, is_within, may_close_end, may_close_run, may_do, may_lead, may_make, may_reach, may_work}
use Rattle.amber_meaning.specs.Plan.{role_of}
use Rattle.amber_meaning.specs.Position.{Position, taken_from}
use Rattle.amber_meaning.specs.Replay.{after_leg}
use Rattle.amber_meaning.specs.Rules.{Leads, Moves, Orders, May, assigned}
use Rattle.amber_meaning.specs.State.{Counting, State, arms_at, begin_leg, begin_last_leg, counted_at, orders_of, position_at}
use Rattle.amber_meaning.specs.Task.{Role}
use Rattle.amber_judge.proofs.Batches.{begins-so}
use Rattle.amber_meaning.proofs.Lists.{IsPrefix-trans, list_all-below, list_all-every, list_all-members}
use Rattle.amber_meaning.proofs.OneState.{Leads-keeps, TookFirst, found-batch, item-is, moved-is, after_leg-is}
use Rattle.amber_judge.proofs.RuleTests.{empty_from_nil, may_move-so}

-- ---- one worker

pub rule-of : (role : Role) (orders : Orders) (p q : Position) (one : Entry) → Moves (assigned role orders) p one q → May (assigned role orders) p one
rule-of role orders p q one h = h.1

pub offered-is : (role : Role) (orders : Orders) (offer : ℕ → List Batch) (p q : Position) (one : Entry) → Moves (assigned role orders) p one q → TookFirst role offer q
    → is_offered offer one ≡ true
offered-is role orders offer p q (entry.Take from number) h first = ap (λ found. is_some found) (found-batch role orders offer p q from number h first)
offered-is role orders offer p q (entry.Go rows outs) h first = refl
offered-is role orders offer p q (entry.Grant n) h first = refl
offered-is role orders offer p q (entry.Back n) h first = refl
offered-is role orders offer p q entry.Pause h first = refl
offered-is role orders offer p q entry.Resume h first = refl
offered-is role orders offer p q entry.Hold h first = refl
offered-is role orders offer p q entry.Finish h first = refl

leads-may : (role : Role) (orders : Orders) (offer : ℕ → List Batch) (p q : Position) (entries : List Entry) → Leads (assigned role orders) p entries q
    → TookFirst role offer q → may_lead offer (assigned role orders) p entries ≡ true
unfolding Leads may_lead
leads-may role orders offer p q [] h first = refl
leads-may role orders offer p q (one ∷ more) h first =
    let sooner : TookFirst role offer h.0 = λ sender known. IsPrefix-trans _ _ _ (Leads-keeps role orders h.0 q more sender h.2) (first sender known) in
    and_from _ _ ((may_move-so role orders p one).1 (rule-of role orders p h.0 one h.1))
    (and_from _ _ (offered-is role orders offer p h.0 one h.1 sooner)
    (rw (moved-is role orders offer p h.0 one h.1 sooner) (leads-may role orders offer h.0 q more h.2 first)))

-- ---- a leg

offers-is : (query : Query) (positions : List Position) (receiver : ℕ) (senders : List ℕ)
    → ((sender : ℕ) → list_any (λ one. eqb one sender) senders ≡ true
    → IsPrefix (taken_from (position_at positions receiver).taken sender) (batches_for query positions sender receiver))
    → list_all (is_first_of query positions receiver) senders ≡ true
offers-is query positions receiver senders h = list_all-members (is_first_of query positions receiver) senders (λ sender known. (begins-so _ _).1 (h sender known))

are_offered-is : (query : Query) (positions : List Position) → AreOffered query positions → are_offered query positions ≡ true
unfolding are_offered AreOffered
are_offered-is query positions h =
    list_all-below _ (crew_of query.flow) (λ receiver less. offers-is query positions receiver (role_in query receiver).senders (h receiver less))

pub known-all : (n : ℕ) (parts : List Part) → ((worker : ℕ) → list_any (λ part. eqb part.worker worker) parts ≡ true → worker < n)
    → list_all (λ part. ltb part.worker n) parts ≡ true
known-all n [] h = refl
known-all n (part ∷ parts) h =
    and_from _ _ (lt-ltb _ _ (h part.worker (or_left _ _ (eq-eqb part.worker part.worker refl))))
    (known-all n parts (λ worker e. h worker (or_right _ _ e)))

may_work-is : (query : Query) (before after : State) (parts : List Part) → SendersFirst query.flow → IsWorked query before parts after
    → may_work query before parts ≡ true
unfolding may_work AreOffered role_of
may_work-is query before after parts first h =
    and_from _ _ (known-all (crew_of query.flow) parts h.known) (and_from _ _ (list_all-below (may_do query before parts) (crew_of query.flow) (λ worker less.
    let offer : ℕ → List Batch = λ sender. batches_for query (after_leg query before parts).positions sender worker in
    let first_taken : TookFirst (role_in query worker) offer (position_at after.positions worker) = λ sender known.
    rw (after_leg-is query before after parts first h) (h.offered worker less sender known) in
    leads-may (role_in query worker) (orders_of (arms_at before (op_of query.flow worker))) offer (position_at before.positions worker)
    (position_at after.positions worker) (entries_of parts worker) (h.moved worker less) first_taken))
    (rw (after_leg-is query before after parts first h) (are_offered-is query after.positions h.offered)))

is_within-is : (query : Query) (state : State) (op : ℕ) (armed : Option Counting)
    → ((counting : Counting) → armed ≡ Some counting → counted_at query.flow state op counting ≤ counting.target) → is_within query state op armed ≡ true
is_within-is query state op None h = refl
is_within-is query state op (Some counting) h = le-leb _ _ (h counting refl)

is_settled-is : (query : Query) (state : State) → IsSettled query state → is_settled query state ≡ true
unfolding is_settled
is_settled-is query state h =
    and_from _ _ (list_all-below _ (crew_of query.flow) (λ worker less. eq-eqb _ _ (h.hands worker less)))
    (list_all-every _ (map suc (numbers_below (length state.arms))) (λ op. is_within-is query state op (arms_at state op).count (h.counts op)))

some-is : {A : Type 0} (xs : List A) → xs ≢ [] → not (is_empty xs) ≡ true
some-is [] h = absurd (h refl)
some-is (x ∷ xs) h = refl

pub may_close_run-is : (query : Query) (state : State) (closed : Close) → ClosesRun query state closed → may_close_run query state closed ≡ true
unfolding may_close_run
may_close_run-is query state close.Cut h = and_from _ _ (is_settled-is query state h.0) (and_from _ _ (le-leb _ _ h.1) (some-is (stops_in query state) h.2))
may_close_run-is query state close.Long h = and_from _ _ (is_settled-is query state h.0) (and_from _ _ (eq-eqb _ _ h.1) (empty_from_nil (stops_in query state) h.2))

pub may_close_end-is : (query : Query) (state : State) (closed : Close) → ClosesEnd query state closed → may_close_end query state closed ≡ true
unfolding may_close_end
may_close_end-is query state close.Cut h = and_from _ _ (is_settled-is query state h.0) (and_from _ _ (le-leb _ _ h.1) h.2)
may_close_end-is query state close.Long h = and_from _ _ (is_settled-is query state h.0) (and_from _ _ (eq-eqb _ _ h.1) (not_from_false _ h.2))

-- ---- items

may_make-is : (query : Query) (state after : State) (one : Item) → SendersFirst query.flow → Makes query state one after → may_make query state one ≡ true
unfolding may_make
may_make-is query state after (item.Do command) first h = h.0
may_make-is query state after (item.Run leg) first h =
    and_from _ _ (may_work-is query (begin_leg state) h.0 leg.parts first h.1)
    (rw (after_leg-is query (begin_leg state) h.0 leg.parts first h.1) (may_close_run-is query h.0 leg.close h.2))
may_make-is query state after (item.End leg) first h =
    and_from _ _ (may_work-is query (begin_last_leg state) h.0 leg.parts first h.1)
    (rw (after_leg-is query (begin_last_leg state) h.0 leg.parts first h.1) (may_close_end-is query h.0 leg.close h.2))

pub may_reach-is : (query : Query) (state after : State) (items : List Item) → SendersFirst query.flow → Reaches query state items after
    → may_reach query state items ≡ true
unfolding Reaches may_reach
may_reach-is query state after [] first h = refl
may_reach-is query state after (one ∷ more) first h =
    and_from _ _ (may_make-is query state h.0 one first h.1)
    (rw (item-is query state h.0 one first h.1) (may_reach-is query h.0 after more first h.2))

pub rules_are_tested : RulesAreTested
rules_are_tested it p one = may_move-so it.role it.orders p one
