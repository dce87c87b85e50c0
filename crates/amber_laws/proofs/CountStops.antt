-- A count stops a run exactly at its target.
use Rattle.std.proofs.Common.{◌≡◌, ◌≢◌, ℕ, zero, suc, ◌<◌, ◌≤◌, eqb, inl, inr, List, [], ◌∷◌, ◌++◌, length, map, Option, Some, None, nat_le, Bool, true, false, refl, sym, ap, subst, ◌∙◌, add-one, arith}
use Rattle.std.specs.Prelude.{filter, unwrap_or, slice_get, if◌then◌else◌}
use Rattle.std.specs.List.{flat_map}
use Rattle.std.proofs.lemmas.Bool.{cases_eq, eq-eqb, ne_eqb}
use Rattle.std.proofs.lemmas.List.{append-nil, map-append}
use Rattle.std.proofs.lemmas.List.Concat.{flat_map-append, flat_map-cons}
use Rattle.std.proofs.lemmas.List.Elements.{filter-append}
use Rattle.amber_rows.specs.FlowRules.{IsFlow}
use Rattle.amber_rows.specs.Lists.{numbers_below, nth}
use Rattle.amber_rows.specs.declared.flow.Operator.{Operator}
use Rattle.amber_rows.specs.declared.value.Value.{Value}
use Rattle.amber_log.specs.declared.leg.Close.{Close}
use Rattle.amber_log.specs.declared.leg.Close.TheVariants as close
use Rattle.amber_log.specs.declared.leg.Leg.{Leg}
use Rattle.amber_log.specs.declared.log.Item.{Item}
use Rattle.amber_log.specs.declared.log.Item.TheVariants as item
use Rattle.amber_meaning.specs.declared.view.Stop.TheVariants as stop
use Rattle.amber_meaning.specs.Legal.{ClosesRun, IsLegal, IsSettled, IsWorked, Query, Reaches, role_in}
use Rattle.amber_meaning.specs.Replay.{state_after}
use Rattle.amber_meaning.specs.State.{Arms, Counting, State, arms_at, begin_leg, counted_at, emitted_by, have_finished, no_arms, start_of}
use Rattle.amber_meaning.specs.Stops.{count_stop, count_stops, end_stop, held_stop, held_stops, op_numbers, pause_stop, pause_stops, stops_of}
use Rattle.amber_meaning.proofs.Fronts.{AreItems-front, Reaches-parts}
use Rattle.amber_meaning.proofs.Lists.{nth-next}
use Rattle.amber_meaning.proofs.OneState.{after_leg-is, items_have_one_state}
use Rattle.amber_meaning.proofs.Rest.{legal_logs_rest}
use Rattle.amber_meaning.proofs.Senders.{flows_send_forward}
use Rattle.amber_laws.specs.CountLaws.{CountsStopAtTheirTarget, CountsToTarget, is_count_at, log_with_run, run_state, stops_at_count}

-- ---- lists of which some elements are kept

-- where of each list none is kept, none is of all
none-kept : {A B : Type 0} (test : B → Bool) (f : A → List B) (xs : List A) → ((x : A) → filter test (f x) ≡ []) → filter test (flat_map f xs) ≡ []
none-kept test f [] h = refl
none-kept test f (x ∷ xs) h = ap (filter test) (flat_map-cons f x xs) ∙ filter-append test (f x) (flat_map f xs) ∙ rw (h x, none-kept test f xs h) refl

module _ {B : Type 0} (test : B → Bool) (f : ℕ → List B) (op : ℕ) (others : (k : ℕ) → k ≢ op → filter test (f k) ≡ []) where
  one-more : (n : ℕ) → filter test (flat_map f (map suc (numbers_below (suc n)))) ≡ filter test (flat_map f (map suc (numbers_below n))) ++ filter test (f (suc n))
  unfolding numbers_below
  one-more n =
      ap (λ ks. filter test (flat_map f ks)) (map-append suc (numbers_below n) (n ∷ []))
      ∙ ap (filter test) (flat_map-append f (map suc (numbers_below n)) (suc n ∷ []) ∙ ap (λ l. flat_map f (map suc (numbers_below n)) ++ l) (append-nil (f (suc n))))
      ∙ filter-append test (flat_map f (map suc (numbers_below n))) (f (suc n))

  -- of the numbers before this one none is kept
  none-before : (n : ℕ) → n < op → filter test (flat_map f (map suc (numbers_below n))) ≡ []
  unfolding numbers_below
  none-before zero less = refl
  none-before (suc n) less = one-more n ∙ rw (none-before n (omega arith), others (suc n) (λ e. omega arith)) refl

  -- of numbers up to one that is this or comes after it, those of this one are kept
  own-kept : (n : ℕ) → 0 < op → op ≤ n → filter test (flat_map f (map suc (numbers_below n))) ≡ filter test (f op)
  own-kept zero some few = absurd (omega arith)
  own-kept (suc n) some few =
      elim (cases_eq (suc n) op) [
        | inl e ↦ one-more n ∙ rw (none-before n (omega arith), e) refl
        | inr ne ↦ one-more n ∙ rw (own-kept n some (omega arith), others (suc n) ne) (append-nil (filter test (f op)))
      ]

-- ---- the stops of a state

held-none : (op o w : ℕ) (held : Bool) (pending : List (List Value)) → filter (is_count_at op) (held_stop o w held pending) ≡ []
held-none op o w false pending = refl
held-none op o w true [] = refl
held-none op o w true (row ∷ pending) = refl

pause-none : (op : ℕ) (flow : List Operator) (state : State) (k : ℕ) (pause : Option ℕ) → filter (is_count_at op) (pause_stop flow state k pause) ≡ []
pause-none op flow state k None = refl
pause-none op flow state k (Some n) = by (nat_le n (emitted_by flow state k))
  where
    by : (b : Bool) → filter (is_count_at op) (if b then stop.Pause k n (emitted_by flow state k) ∷ [] else []) ≡ []
    by true = refl
    by false = refl

end-none : (op : ℕ) (state : State) → filter (is_count_at op) (end_stop state) ≡ []
end-none op state = by (have_finished state)
  where
    by : (b : Bool) → filter (is_count_at op) (if b then stop.End ∷ [] else []) ≡ []
    by true = refl
    by false = refl

count-other : (op : ℕ) (flow : List Operator) (state : State) (k : ℕ) (count : Option Counting) → k ≢ op → filter (is_count_at op) (count_stop flow state k count) ≡ []
count-other op flow state k None ne = refl
count-other op flow state k (Some counting) ne = by (eqb (counted_at flow state k counting) counting.target)
  where
    by : (b : Bool) → filter (is_count_at op) (if b then stop.Count k counting.target ∷ [] else []) ≡ []
    by true = rw (ne_eqb k op ne) refl
    by false = refl

count-own : (op : ℕ) (flow : List Operator) (state : State) (count : Option Counting) → filter (is_count_at op) (count_stop flow state op count) ≡ count_stop flow state op count
count-own op flow state None = refl
count-own op flow state (Some counting) = by (eqb (counted_at flow state op counting) counting.target)
  where
    by : (b : Bool) → filter (is_count_at op) (if b then stop.Count op counting.target ∷ [] else []) ≡ (if b then stop.Count op counting.target ∷ [] else [])
    by true = rw (eq-eqb op op refl) refl
    by false = refl

-- only those of counts are kept
counts-kept : (query : Query) (state : State) (op : ℕ) → stops_at_count query state op ≡ filter (is_count_at op) (count_stops query.flow state)
unfolding stops_of held_stops pause_stops
counts-kept query state op =
    let held = held_stops query.flow (role_in query) state in
    let counts = count_stops query.flow state in
    let pauses = pause_stops query.flow state in
    let ends = end_stop state in
    filter-append (is_count_at op) held (counts ++ (pauses ++ ends))
    ∙ rw (
      none-kept (is_count_at op) _ _ (λ worker. held-none op _ _ _ _),
      filter-append (is_count_at op) counts (pauses ++ ends),
      filter-append (is_count_at op) pauses ends,
      none-kept (is_count_at op) _ _ (λ k. pause-none op query.flow state k _),
      end-none op state,
    ) (append-nil _)

-- where no count is armed, none is kept
unarmed-kept : (flow : List Operator) (state : State) (op : ℕ) → (arms_at state op).count ≡ None → filter (is_count_at op) (count_stops flow state) ≡ []
unfolding count_stops
unarmed-kept flow state op e =
    none-kept (is_count_at op) (λ k. count_stop flow state k (arms_at state k).count) (op_numbers flow)
    (λ k. elim (cases_eq k op) [
      | inl is ↦ rw (is, e) refl
      | inr ne ↦ count-other op flow state k (arms_at state k).count ne
    ])

-- and else its own
armed-kept : (flow : List Operator) (state : State) (op : ℕ) → 0 < op → op ≤ length flow → filter (is_count_at op) (count_stops flow state) ≡ count_stop flow state op (arms_at state op).count
unfolding count_stops
armed-kept flow state op some few =
    own-kept (is_count_at op) (λ k. count_stop flow state k (arms_at state k).count) op (λ k ne. count-other op flow state k (arms_at state k).count ne) (length flow) some few
    ∙ count-own op flow state (arms_at state op).count

-- where a count is armed there is an operator
armed-got : (arms : List Arms) (i : ℕ) (counting : Counting) → (unwrap_or (slice_get arms i) no_arms).count ≡ Some counting → i < length arms
armed-got [] i counting e = absurd (let never : ◌≡◌ {A = Option Counting} None (Some counting) = e in cc)
armed-got (a ∷ arms) zero counting e = omega arith
armed-got (a ∷ arms) (suc i) counting e = omega (arith, armed-got arms i counting e)

armed-within : (arms : List Arms) (op : ℕ) (counting : Counting) → (unwrap_or (nth arms op) no_arms).count ≡ Some counting → (0 < op) × (op ≤ length arms)
armed-within arms zero counting e = absurd (let never : ◌≡◌ {A = Option Counting} None (Some counting) = e in cc)
armed-within arms (suc i) counting e =
    let got : (unwrap_or (slice_get arms i) no_arms).count ≡ Some counting = rw (← add-one i, nth-next arms i) at e in
    (omega arith, omega (arith, armed-got arms i counting got))

-- ---- a leg of a legal log

-- what holds where a leg up to a stop is closed
pub record IsRunClosed (query : Query) (done : List Item) (leg : Leg) : Type 0 where
  pub reached : State
  pub same : run_state query done leg ≡ reached
  pub arms : length reached.arms ≡ length query.flow
  pub settled : IsSettled query reached
  pub before : Reaches query (start_of query.flow) done (state_after query done)
  pub worked : IsWorked query (begin_leg (state_after query done)) leg.parts reached

settled-run : (query : Query) (state : State) (closed : Close) → ClosesRun query state closed → IsSettled query state
settled-run query state close.Cut h = h.0
settled-run query state close.Long h = h.0

pub run-closed : (query : Query) (batch : ℕ) (done later : List Item) (leg : Leg) → IsFlow query.flow → IsLegal query (log_with_run batch done leg later) → IsRunClosed query done leg
unfolding Reaches state_after begin_leg
run-closed query batch done later leg flow legal =
    let first = flows_send_forward query.flow flow in
    let parts = Reaches-parts query (start_of query.flow) legal.after done (item.Run leg ∷ later) legal.reached in
    let front : IsLegal query (record { batch = batch; items = done }) = record {
      text = record { batch = legal.text.batch; items = AreItems-front false done (item.Run leg ∷ later) legal.text.items };
      batch = legal.batch;
      after = parts.0;
      reached = parts.1;
    } in
    let rests = legal_logs_rest query (record { batch = batch; items = done }) front in
    let is = items_have_one_state query (start_of query.flow) parts.0 done first parts.1 in
    let made = parts.2.1 in
    record {
      reached = made.0;
      same = rw is (after_leg-is query (begin_leg parts.0) made.0 leg.parts first made.1);
      arms = ap length made.1.same_arms ∙ rests.arms;
      settled = settled-run query made.0 leg.close made.2;
      before = rw is parts.1;
      worked = rw is made.1;
    }

-- ---- the law

to-target : (query : Query) (state : State) (op : ℕ) (count : Option Counting) → length state.arms ≡ length query.flow → IsSettled query state → (arms_at state op).count ≡ count
    → CountsToTarget query state op count
to-target query state op None arms settled e = counts-kept query state op ∙ unarmed-kept query.flow state op e
to-target query state op (Some counting) arms settled e =
    let within = armed-within state.arms op counting e in
    let stops : stops_at_count query state op ≡ count_stop query.flow state op (Some counting) =
    counts-kept query state op ∙ armed-kept query.flow state op within.0 (omega (arith, within.1, arms)) ∙ ap (count_stop query.flow state op) e in
    record {
      most = settled.counts op counting e;
      reached = λ all. stops ∙ rw (eq-eqb (counted_at query.flow state op counting) counting.target all) refl;
      short = λ ne. stops ∙ rw (ne_eqb (counted_at query.flow state op counting) counting.target ne) refl;
    }

pub counts_stop_at_their_target : CountsStopAtTheirTarget
counts_stop_at_their_target query batch done later leg flow legal op =
    let closed = run-closed query batch done later leg flow legal in
    subst (λ state. CountsToTarget query state op (arms_at state op).count) (sym closed.same) (to-target query closed.reached op (arms_at closed.reached op).count closed.arms closed.settled refl)
