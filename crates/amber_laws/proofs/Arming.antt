-- What a count has counted are the rows that were emitted since it was armed.
use Rattle.std.proofs.Common.{◌≡◌, ℕ, zero, suc, ◌+◌, ◌<◌, ◌≤◌, eqb, ◌⊎◌, inl, inr, List, [], ◌∷◌, ◌++◌, length, map, get_or, drop, Option, Some, None, Bool, true, false, refl, sym, ap, subst, ◌∙◌, add-one, append_assoc, arith}
use Rattle.std.specs.Prelude.{unwrap_or, slice_get, if◌then◌else◌, ◌&&◌, ◌||◌}
use Rattle.std.specs.List.{list_any, sum_by}
use Rattle.std.proofs.Math.Seq.{drop-append_seam}
use Rattle.std.proofs.lemmas.Bool.{cases_eq, cases_lt, eq-eqb, ne_eqb}
use Rattle.std.proofs.lemmas.List.{append-nil, get_or_append_left, get_or_past, get_or_push, length-map, length_push, map-append}
use Rattle.std.proofs.lemmas.List.Sums.{sum_by-append, sum_by-cons}
use Rattle.amber_rows.specs.Lists.{IsPrefix, changed_at, changed_from, nth, numbers_below}
use Rattle.amber_rows.specs.Topology.{crew_of, workers_of}
use Rattle.amber_rows.specs.declared.flow.Operator.{Operator}
use Rattle.amber_log.specs.Commands.{action_of}
use Rattle.amber_log.specs.declared.command.Command.{Command}
use Rattle.amber_log.specs.declared.effect.Action.{Action}
use Rattle.amber_log.specs.declared.effect.Action.TheVariants as action
use Rattle.amber_log.specs.declared.effect.Change.{Change}
use Rattle.amber_log.specs.declared.effect.Change.TheVariants as change
use Rattle.amber_log.specs.declared.effect.Effect.{Effect}
use Rattle.amber_log.specs.declared.leg.Close.{Close}
use Rattle.amber_log.specs.declared.leg.Close.TheVariants as close
use Rattle.amber_log.specs.declared.leg.Part.{Part}
use Rattle.amber_log.specs.declared.log.Item.{Item}
use Rattle.amber_log.specs.declared.log.Item.TheVariants as item
use Rattle.amber_meaning.specs.Laws.{SendersFirst}
use Rattle.amber_meaning.specs.Legal.{IsWorked, Makes, Query, Reaches, after_close}
use Rattle.amber_meaning.specs.Position.{Position, emitted_count, is_emitted}
use Rattle.amber_meaning.specs.Replay.{after_item, after_items, state_after}
use Rattle.amber_meaning.specs.State.{Arms, Counting, State, after_action, after_command, arms_at, arms_changed, begin_leg, begin_last_leg, counted_at, counted_by, counting_from, crew_at, emitted_by, gone_at, no_arms, position_at, put, start_of, without_arms}
use Rattle.amber_meaning.specs.Stops.{arms_left, count_left, op_numbers, without_stops}
use Rattle.amber_meaning.proofs.Chunks.{numbers-length}
use Rattle.amber_meaning.proofs.Crews.{worker-known}
use Rattle.amber_meaning.proofs.Fronts.{transcripts_grow}
use Rattle.amber_meaning.proofs.Lists.{nth-next, numbered_or}
use Rattle.amber_meaning.proofs.Numbers.{among, among-first, among-more}
use Rattle.amber_meaning.proofs.OneState.{item-is}
use Rattle.amber_meaning.proofs.Senders.{flows_send_forward}
use Rattle.amber_laws.specs.CountLaws.{CountsCountSinceArmed, WasArmed, action_sets_count, sets_count}
use Rattle.amber_laws.proofs.CountStops.{run-closed}
use Rattle.amber_laws.proofs.GoingOn.{GoOn, closed-on, go-on-refl, go-on-trans, leg-on, rest-on}

-- ---- the count of an operator

no-count : (a : Arms) (counting : Counting) (P : Type 0) → a ≡ no_arms → a.count ≡ Some counting → P
no-count a counting P e h = absurd (let never : ◌≡◌ {A = Option Counting} None (Some counting) = sym (ap (λ (arms : Arms). arms.count) e) ∙ h in cc)

no-some : (count : Option Counting) (counting : Counting) (P : Type 0) → count ≡ None → count ≡ Some counting → P
no-some count counting P e h = absurd (let never : ◌≡◌ {A = Option Counting} None (Some counting) = sym e ∙ h in cc)

-- what stands at a number of arms that were changed at one: what stood there, or that changed, or nothing
abbrev IsChanged : (Arms → Arms) → Arms → Arms → Type 0 → Type 0
IsChanged change was now here = ((now ≡ was) × (here → ⊥)) ⊎ (here × (now ≡ change was)) ⊎ (now ≡ no_arms)

arms_from : List Arms → ℕ → Arms
arms_from arms i = unwrap_or (slice_get arms i) no_arms

changed-got : (change : Arms → Arms) (number place : ℕ) (arms : List Arms) (i : ℕ)
    → IsChanged change (arms_from arms i) (arms_from (changed_from change number place arms) i) (number ≡ place + i)
unfolding arms_from
changed-got change number place [] i = inr (inr refl)
changed-got change number place (a ∷ arms) zero =
    elim (cases_eq place number) [
      | inl e ↦ inr (inl (omega arith, rw (eq-eqb place number e) refl))
      | inr ne ↦ inl (rw (ne_eqb place number ne) refl, λ e. ne (omega arith))
    ]
changed-got change number place (a ∷ arms) (suc i) =
    let later : suc place + i ≡ place + suc i = omega arith in
    subst (λ n. IsChanged change (arms_from arms i) (arms_from (changed_from change number (suc place) arms) i) (number ≡ n)) later (changed-got change number (suc place) arms i)

changed-arms : (change : Arms → Arms) (number op : ℕ) (arms : List Arms)
    → IsChanged change (unwrap_or (nth arms op) no_arms) (unwrap_or (nth (changed_at change number arms) op) no_arms) (number ≡ op)
unfolding arms_from
changed-arms change number zero arms = inr (inr refl)
changed-arms change number (suc i) arms =
    let next : 1 + i ≡ suc i = omega arith in
    rw (← add-one i, nth-next arms i, nth-next (changed_at change number arms) i) (subst (λ n. IsChanged change (arms_from arms i) (arms_from (changed_at change number arms) i) (number ≡ n)) (omega arith) (changed-got change number 1 arms i))

-- ---- a cut

-- what stands at a number of arms that are made of the numbers, from 1
listed-arms : (f : ℕ → Arms) (n i : ℕ) → (get_or (map f (map suc (numbers_below n))) i no_arms ≡ f (suc i)) ⊎ (get_or (map f (map suc (numbers_below n))) i no_arms ≡ no_arms)
unfolding numbers_below
listed-arms f zero i = inr refl
listed-arms f (suc n) i = rw more (by-place (cases_lt i n) (listed-arms f n i))
  where
    before : List Arms
    before = map f (map suc (numbers_below n))

    size : length before ≡ n
    size = length-map (map suc (numbers_below n)) f ∙ length-map (numbers_below n) suc ∙ numbers-length n

    more : map f (map suc (numbers_below n ++ n ∷ [])) ≡ before ++ f (suc n) ∷ []
    more = ap (map f) (map-append suc (numbers_below n) (n ∷ [])) ∙ map-append f (map suc (numbers_below n)) (suc n ∷ [])

    behind : (n < i) ⊎ (i ≡ n) → (get_or (before ++ f (suc n) ∷ []) i no_arms ≡ f (suc i)) ⊎ (get_or (before ++ f (suc n) ∷ []) i no_arms ≡ no_arms)
    behind (inl past) = inr (get_or_past (before ++ f (suc n) ∷ []) i no_arms (omega (arith, length_push before (f (suc n)), size)))
    behind (inr e) = inl (get_or_push before (f (suc n)) no_arms i (size ∙ sym e) ∙ ap (λ k. f (suc k)) (sym e))

    by-place : (i < n) ⊎ (n ≤ i) → (get_or before i no_arms ≡ f (suc i)) ⊎ (get_or before i no_arms ≡ no_arms)
        → (get_or (before ++ f (suc n) ∷ []) i no_arms ≡ f (suc i)) ⊎ (get_or (before ++ f (suc n) ∷ []) i no_arms ≡ no_arms)
    by-place (inl less) listed = rw (get_or_append_left before (f (suc n) ∷ []) no_arms i (omega (arith, less, size))) listed
    by-place (inr past) listed = behind (elim (cases_eq i n) [ inl e ↦ inr e | inr ne ↦ inl (omega arith) ])

-- a count that a cut leaves stood before it
left-count : (flow : List Operator) (state : State) (op : ℕ) (count : Option Counting) (counting : Counting) → count_left flow state op count ≡ Some counting → count ≡ Some counting
left-count flow state op None counting e = e
left-count flow state op (Some c) counting e = by (eqb (counted_at flow state op c) c.target) e
  where
    by : (b : Bool) → (if b then None else Some c) ≡ Some counting → ◌≡◌ {A = Option Counting} (Some c) (Some counting)
    by true e = absurd (let never : ◌≡◌ {A = Option Counting} None (Some counting) = e in cc)
    by false e = e

cut-count : (flow : List Operator) (state : State) (op : ℕ) (counting : Counting) → (arms_at (without_stops flow state) op).count ≡ Some counting → (arms_at state op).count ≡ Some counting
unfolding without_stops
cut-count flow state zero counting e = no-some None counting _ refl e
cut-count flow state (suc i) counting e =
    let left = map (arms_left flow state) (op_numbers flow) in
    let got : (get_or left i no_arms).count ≡ Some counting = rw (← add-one i, numbered_or left i no_arms) at e in
    elim (listed-arms (arms_left flow state) (length flow) i) [
      | inl is ↦ left-count flow state (suc i) (arms_at state (suc i)).count counting (sym (ap (λ (a : Arms). a.count) is) ∙ got)
      | inr none ↦ no-count (get_or left i no_arms) counting _ none got
    ]

closed-count : (query : Query) (state : State) (closed : Close) (op : ℕ) (counting : Counting) → (arms_at (after_close query state closed) op).count ≡ Some counting → (arms_at state op).count ≡ Some counting
closed-count query state close.Cut op counting e = cut-count query.flow state op counting e
closed-count query state close.Long op counting e = e

-- after the beginning of a leg to the end no count is armed
cleared-count : (arms : List Arms) (i : ℕ) (counting : Counting) (P : Type 0) → (arms_from (map without_arms arms) i).count ≡ Some counting → P
unfolding arms_from
cleared-count [] i counting P e = no-some None counting P refl e
cleared-count (a ∷ arms) zero counting P e = no-some None counting P refl e
cleared-count (a ∷ arms) (suc i) counting P e = cleared-count arms i counting P e

ended-count : (state : State) (op : ℕ) (counting : Counting) (P : Type 0) → (arms_at (begin_last_leg state) op).count ≡ Some counting → P
unfolding begin_last_leg arms_from
ended-count state zero counting P e = no-some None counting P refl e
ended-count state (suc i) counting P e = cleared-count state.arms i counting P (rw (← add-one i, nth-next (map without_arms state.arms) i) at e)

-- ---- one item more

-- a count was armed by one of these items, and from the state before it the workers have gone on to this one
record IsCounting (query : Query) (done : List Item) (state : State) (op : ℕ) (counting : Counting) : Type 0 where
  armed : WasArmed done op counting.target
  base : counting.base ≡ gone_at query.flow (state_after query armed.before) op
  on : GoOn (crew_of query.flow) (state_after query armed.before) state

abbrev AreCounting : Query → List Item → State → Type 0
AreCounting query done state = (op : ℕ) (counting : Counting) → (arms_at state op).count ≡ Some counting → IsCounting query done state op counting

-- the item leaves this count as it was
abbrev Leaves : State → State → Item → ℕ → Counting → Type 0
Leaves state next one op counting = ((arms_at state op).count ≡ Some counting) × (sets_count op one ≡ false)

none-more : (test : Item → Bool) (items : List Item) (one : Item) → list_any test items ≡ false → test one ≡ false → list_any test (items ++ one ∷ []) ≡ false
none-more test [] one h e = rw e refl
none-more test (x ∷ items) one h e = by (test x) h (λ later. none-more test items one later e)
  where
    by : (b : Bool) → (b || list_any test items) ≡ false → (list_any test items ≡ false → list_any test (items ++ one ∷ []) ≡ false) → (b || list_any test (items ++ one ∷ [])) ≡ false
    by true h later = h
    by false h later = later h

abbrev armed-more : (done : List Item) (one : Item) (op target : ℕ) → (armed : WasArmed done op target) → sets_count op one ≡ false → WasArmed (done ++ one ∷ []) op target
armed-more done one op target armed e = record {
  before = armed.before;
  command = armed.command;
  behind = armed.behind ++ one ∷ [];
  split = ap (λ items. items ++ one ∷ []) armed.split ∙ append_assoc armed.before (item.Do armed.command ∷ armed.behind) (one ∷ []);
  arms = armed.arms;
  last = none-more (sets_count op) armed.behind one armed.last e;
}

counting-on : (query : Query) (done : List Item) (state next : State) (one : Item) (op : ℕ) (counting : Counting) → IsCounting query done state op counting → sets_count op one ≡ false
    → GoOn (crew_of query.flow) state next → IsCounting query (done ++ one ∷ []) next op counting
counting-on query done state next one op counting h e on = record {
  armed = armed-more done one op counting.target h.armed e;
  base = h.base;
  on = go-on-trans (crew_of query.flow) (state_after query h.armed.before) state next h.on on;
}

-- an item that leaves each count that stands after it
kept-counting : (query : Query) (done : List Item) (state next : State) (one : Item) → GoOn (crew_of query.flow) state next
    → ((op : ℕ) (counting : Counting) → (arms_at next op).count ≡ Some counting → Leaves state next one op counting) → AreCounting query done state → AreCounting query (done ++ one ∷ []) next
kept-counting query done state next one on leaves h op counting e =
    let left = leaves op counting e in
    counting-on query done state next one op counting (h op counting left.0) left.1 on

-- ---- a command that is done at rest

other-op : (effect : Effect) (op : ℕ) → (effect.op ≡ op → ⊥) → action_sets_count op (action.AtRest effect) ≡ false
other-op effect op ne = rw (ne_eqb effect.op op ne)

keeps-count : (effect : Effect) (op : ℕ) → effect.arming.count ≡ change.Keep → action_sets_count op (action.AtRest effect) ≡ false
keeps-count effect op e = rw e (by (eqb effect.op op))
  where
    by : (b : Bool) → (b && false) ≡ false
    by true = refl
    by false = refl

module _ (query : Query) (done : List Item) (state : State) (c : Command) (effect : Effect) (is : action_of c ≡ action.AtRest effect) (here : state_after query done ≡ state) where
  abbrev next : State
  next = after_action query.flow (action.AtRest effect) state

  abbrev gone : List ℕ
  gone = gone_at query.flow state effect.op

  -- the operator's count was armed just now
  armed-now : (n op : ℕ) (counting : Counting) → effect.arming.count ≡ change.Put n → effect.op ≡ op → counting ≡ record { target = n; base = gone }
      → IsCounting query (done ++ item.Do c ∷ []) next op counting
  armed-now n op counting puts same new = record {
    armed = record {
      before = done;
      command = c;
      behind = [];
      split = refl;
      arms = rw is (same, puts ∙ ap (λ (k : Counting). change.Put k.target) (sym new));
      last = refl;
    };
    base = ap (λ (k : Counting). k.base) new ∙ ap (gone_at query.flow state) same ∙ ap (λ s. gone_at query.flow s op) (sym here);
    on = rw here (rest-on query state effect);
  }

  -- what becomes of its operator's count
  own-count : (op : ℕ) (counting : Counting) → AreCounting query done state → effect.op ≡ op → (change : Change ℕ) → effect.arming.count ≡ change
      → put (counting_from gone change) (arms_at state op).count ≡ Some counting → IsCounting query (done ++ item.Do c ∷ []) next op counting
  own-count op counting h same change.Keep keeps e =
      counting-on query done state next (item.Do c) op counting (h op counting e) (ap (action_sets_count op) is ∙ keeps-count effect op keeps) (rest-on query state effect)
  own-count op counting h same change.TakeBack takes e = no-some None counting _ refl e
  own-count op counting h same (change.Put n) puts e = armed-now n op counting puts same (let new : counting ≡ record { target = n; base = gone } = cc in new)

  rest-counting : AreCounting query done state → AreCounting query (done ++ item.Do c ∷ []) next
  rest-counting h op counting e =
      elim (changed-arms (arms_changed effect.arming gone) effect.op op state.arms) [
        | inl was ↦
            counting-on query done state next (item.Do c) op counting (h op counting (sym (ap (λ (a : Arms). a.count) was.0) ∙ e)) (ap (action_sets_count op) is ∙ other-op effect op was.1)
            (rest-on query state effect)
        | inr rest ↦ elim rest [
          | inl now ↦ own-count op counting h now.0 effect.arming.count refl (sym (ap (λ (a : Arms). a.count) now.1) ∙ e)
          | inr none ↦ no-count (arms_at next op) counting _ none e
        ]
      ]

done-counting : (query : Query) (done : List Item) (state : State) (c : Command) → state_after query done ≡ state → AreCounting query done state
    → AreCounting query (done ++ item.Do c ∷ []) (after_command query.flow c state)
unfolding after_command
done-counting query done state c here h = by (action_of c) refl
  where
    by : (action : Action) → action_of c ≡ action → AreCounting query (done ++ item.Do c ∷ []) (after_action query.flow action state)
    by (action.Leg to_end) is =
        kept-counting query done state state (item.Do c) (go-on-refl (crew_of query.flow) state) (λ op counting e. (e, ap (action_sets_count op) is)) h
    by (action.AtRest effect) is = rest-counting query done state c effect is here h

begun-arms : (state : State) → (begin_leg state).arms ≡ state.arms
unfolding begin_leg
begun-arms state = refl

-- a leg's arms are those before it
leg-count : (query : Query) (state reached : State) (parts : List Part) (op : ℕ) (counting : Counting) → IsWorked query (begin_leg state) parts reached → (arms_at reached op).count ≡ Some counting
    → (arms_at state op).count ≡ Some counting
leg-count query state reached parts op counting h e = subst (λ arms. (unwrap_or (nth arms op) no_arms).count ≡ Some counting) (h.same_arms ∙ begun-arms state) e

made-counting : (query : Query) (done : List Item) (state next : State) (one : Item) → state_after query done ≡ state → Makes query state one next → AreCounting query done state
    → AreCounting query (done ++ one ∷ []) next
made-counting query done state next (item.Do c) here h counting = rw h.1 (done-counting query done state c here counting)
made-counting query done state next (item.Run leg) here h counting =
    rw h.3
    (kept-counting query done state (after_close query h.0 leg.close) (item.Run leg) (go-on-trans (crew_of query.flow) state h.0 (after_close query h.0 leg.close) (leg-on query state h.0 leg.parts h.1) (closed-on query h.0 leg.close))
    (λ op c e. (leg-count query state h.0 leg.parts op c h.1 (closed-count query h.0 leg.close op c e), refl)) counting)
made-counting query done state next (item.End leg) here h counting =
    rw h.3
    (λ op c e. ended-count state op c _ (subst (λ arms. (unwrap_or (nth arms op) no_arms).count ≡ Some c) h.1.same_arms e))

-- all items
reached-counting : (query : Query) (done : List Item) (state after : State) (more : List Item) → SendersFirst query.flow → state_after query done ≡ state → Reaches query state more after
    → AreCounting query done state → AreCounting query (done ++ more) after
unfolding Reaches
reached-counting query done state after [] first here h counting = rw (append-nil done, ← h) counting
reached-counting query done state after (one ∷ more) first here h counting =
    let next : state_after query (done ++ one ∷ []) ≡ h.0 = (transcripts_grow query done one).1 ∙ ap (λ s. after_item query s one) here ∙ item-is query state h.0 one first h.1 in
    subst (λ items. AreCounting query items after) (append_assoc done (one ∷ []) more)
    (reached-counting query (done ++ one ∷ []) h.0 after more first next h.2 (made-counting query done state h.0 one here h.1 counting))

start-is : (query : Query) → state_after query [] ≡ start_of query.flow
unfolding state_after after_items
start-is query = refl

-- nothing is armed at the start
start-count : (flow : List Operator) (i : ℕ) (counting : Counting) (P : Type 0) → (arms_from (start_of flow).arms i).count ≡ Some counting → P
unfolding start_of arms_from
start-count [] i counting P e = no-some None counting P refl e
start-count (o ∷ flow) zero counting P e = no-some None counting P refl e
start-count (o ∷ flow) (suc i) counting P e = start-count flow i counting P e

start-counting : (query : Query) → AreCounting query [] (start_of query.flow)
unfolding arms_from
start-counting query zero counting e = no-some None counting _ refl e
start-counting query (suc i) counting e = start-count query.flow i counting _ (rw (← add-one i, nth-next (start_of query.flow).arms i) at e)

-- ---- how many rows

emitted-append : (xs ys : List Bool) → emitted_count (xs ++ ys) ≡ emitted_count xs + emitted_count ys
emitted-append xs ys = sum_by-append (λ outcome. if is_emitted outcome then 1 else 0) xs ys

-- the rows of these workers that were emitted since
counted-since : (ps qs : ℕ → Position) (workers : List ℕ) → ((worker : ℕ) → among worker workers ≡ true → IsPrefix (ps worker).outcomes (qs worker).outcomes)
    → sum_by (λ p. emitted_count p.outcomes) (map qs workers)
    ≡ sum_by (λ p. emitted_count p.outcomes) (map ps workers) + counted_by (map (λ p. length p.outcomes) (map ps workers)) (map qs workers)
unfolding counted_by
counted-since ps qs [] h = refl
counted-since ps qs (worker ∷ workers) h =
    let emitted : Position → ℕ = λ p. emitted_count p.outcomes in
    let on = h worker (among-first worker workers) in
    let rest = counted-since ps qs workers (λ other known. h other (among-more other worker workers known)) in
    let since : drop (length (ps worker).outcomes) (qs worker).outcomes ≡ on.0 = ap (drop (length (ps worker).outcomes)) (sym on.1) ∙ drop-append_seam (ps worker).outcomes on.0 in
    let here : emitted_count (qs worker).outcomes ≡ emitted_count (ps worker).outcomes + emitted_count on.0 = ap emitted_count (sym on.1) ∙ emitted-append (ps worker).outcomes on.0 in
    let all = sum_by-cons emitted (qs worker) (map qs workers) in
    let was = sum_by-cons emitted (ps worker) (map ps workers) in
    rw since (omega arith)

pub counts_count_since_armed : CountsCountSinceArmed
unfolding emitted_by crew_at
counts_count_since_armed query batch done later leg flow legal op counting e =
    let closed = run-closed query batch done later leg flow legal in
    let state = state_after query done in
    let counted = reached-counting query [] (start_of query.flow) state done (flows_send_forward query.flow flow) (start-is query) closed.before (start-counting query) in
    let count = rw closed.same at e in
    let is = counted op counting (leg-count query state closed.reached leg.parts op counting closed.worked count) in
    let before = state_after query is.armed.before in
    let on = go-on-trans (crew_of query.flow) before state closed.reached is.on (leg-on query state closed.reached leg.parts closed.worked) in
    let rows = counted-since (position_at before.positions) (position_at closed.reached.positions) (workers_of query.flow op) (λ worker known. on worker (worker-known query.flow op worker known)) in
    let since : emitted_by query.flow closed.reached op ≡ emitted_by query.flow before op + counted_at query.flow closed.reached op counting =
    rows ∙ ap (λ base. emitted_by query.flow before op + counted_by base (crew_at query.flow closed.reached op)) (sym is.base) in
    (is.armed, subst (λ s. emitted_by query.flow s op ≡ emitted_by query.flow before op + counted_at query.flow s op counting) (sym closed.same) since)
