-- A new worker stands at the beginning.
use Rattle.std.proofs.Common.{◌≡◌, ℕ, zero, suc, ◌*◌, ◌/◌, ◌<◌, not, List, [], ◌∷◌, ◌++◌, length, map, get_or, drop, All, Option, Some, None, is_some, Bool, true, false, if◌then◌else◌, refl, sym, ap, ◌∙◌, arith, subst}
use Rattle.std.specs.Option.{IfSome}
use Rattle.std.specs.Prelude.{Result}
use Rattle.std.proofs.lemmas.Bool.{and_parts, false≢true, not-true}
use Rattle.std.proofs.Math.Nat.{zero-div}
use Rattle.rtrb.specs.Ring.{known_items}
use Rattle.amber_rows.specs.Chunks.{chunks_of}
use Rattle.amber_rows.specs.Lists.{numbers_below}
use Rattle.amber_rows.specs.Topology.{crew_of, op_of, receivers_of, senders_of, sends_to, what_at}
use Rattle.amber_rows.specs.Kinds.{is_scan}
use Rattle.amber_rows.specs.Columns.{columns_at}
use Rattle.amber_rows.specs.declared.column.Column.{Column}
use Rattle.amber_rows.specs.declared.value.Value.{Value}
use Rattle.amber_rows.specs.declared.record.RowFault.{RowFault}
use Rattle.amber_rows.specs.declared.flow.What.{What}
use Rattle.amber_rows.specs.declared.flow.What.TheVariants as what
use Rattle.amber_rows.specs.declared.flow.Operator.{Operator}
use Rattle.amber_log.specs.Grammar.{AreEntries}
use Rattle.amber_meaning.specs.Plan.{arrival_columns, role_of, task_of}
use Rattle.amber_meaning.specs.Position.{all_arrivals, kept, origin, share_or, taken_from}
use Rattle.amber_meaning.specs.Rules.{Leads}
use Rattle.amber_meaning.specs.Task.{Role, Task}
use Rattle.amber_meaning.specs.Produce.{closing}
use Rattle.amber_meaning.proofs.Numbers.{among, are_different, different-below, different-kept}
use Rattle.amber_scan.specs.Shares.{ShareState}
use Rattle.amber_link.specs.Links.{HasGiven, OutCarries}
use Rattle.amber_link.specs.Outgoing.{Outgoing}
use Rattle.amber_link.specs.declared.ends.Out.{Out}
use Rattle.amber_link.specs.declared.ends.In.{In}
use Rattle.amber_link.specs.declared.upstreams.Upstream.{Upstream}
use Rattle.amber_link.specs.declared.downstreams.Downstream.{Downstream}
use Rattle.amber_link.proofs.Sides.{map-at, map-length}
use Rattle.amber_worker.specs.Fields.{AreFew}
use Rattle.amber_worker.specs.Links.{IsSoundRoute}
use Rattle.amber_worker.specs.Made.{AreFreshSenders, AreNumbered, IsFresh, IsFreshIn, IsFreshOut, IsTaskOf, end_of, fresh_fields, fresh_worker, from_of, has_build_side, link_of, out_of, roomless, to_of}
use Rattle.amber_operators.specs.States.{IsOperatorStateOf}
use Rattle.amber_worker.specs.declared.new_worker.WorkerEnds.{WorkerEnds}
use Rattle.amber_worker.specs.declared.new_worker.WorkerTask.{WorkerTask}
use Rattle.amber_worker.specs.AtPosition.{HasShare, IsAtPosition, Placement, ReceiveAll, SendAll, Shows, first_context, first_orders, placement_of}
use Rattle.amber_worker.specs.WorkerState.{WorkerState}
use Rattle.amber_operators.specs.declared.operator_state.OperatorState.TheVariants as operator_state
use Rattle.amber_link.specs.Sides.{without_room}
use Rattle.amber_worker.proofs.Roomless.{all-roomless}
use Rattle.amber_worker.proofs.Sent.{unended}
use Rattle.amber_worker.proofs.Fresh.{sender-within}
use Rattle.amber_worker.proofs.FreshParts.{building-first, builders-first, closing-first, kept-first, product-first, rest-first, scan-senders, side-first}
use Rattle.amber_operators.proofs.Made.{does-first, has-first, order-first, scan-operator_state}

-- ---- senders

no-right : {A : Type 0} (xs ys : List A) → xs ++ ys ≡ [] → ys ≡ []
no-right [] ys h = h
no-right (x ∷ xs) ys h = cc

-- of a fresh end nothing has come
given-first : (into : In) → IsFreshIn into → HasGiven into [] []
given-first into fresh =
    let known : known_items into.ring ≡ [] = no-right into.inbox.items (known_items into.ring) fresh.1 in
    record { all = ap (λ l. l ++ known_items into.ring) fresh.0 ∙ known ∙ sym fresh.1 }

received-first : (flow : List Operator) (kind : What) (ins : List Upstream) → are_different (map from_of ins) ≡ true → AreFreshSenders flow kind ins
    → All (λ (one : Upstream). IsFreshIn one.link) ins → ReceiveAll (map from_of ins) (λ _. []) [] ins
unfolding ReceiveAll taken_from
received-first flow kind [] apart fresh ends = tt
received-first flow kind (one ∷ ins) apart fresh ends =
    let parts = and_parts (not (among one.from (map from_of ins))) (are_different (map from_of ins)) apart in
    let own = fresh 0 one (omega arith) in (
      record { from = refl; taken = own.0; ended = own.1; come = given-first one.link (ends 0 one (omega arith)) },
      not-true (among one.from (map from_of ins)) parts.0,
      received-first flow kind ins parts.1 (λ k d less. fresh (suc k) d (omega arith)) (λ k d less. ends (suc k) d (omega arith)),
    )

-- ---- receivers

nothing-left : {A : Type 0} (n : ℕ) → [] ≡ drop {A = A} n []
nothing-left zero = refl
nothing-left (suc n) = refl

-- nothing was made for a receiver
carries-first : (out : Out) (batch_size : ℕ) → 0 < batch_size → IsFreshOut batch_size out → OutCarries out [] []
unfolding chunks_of numbers_below
carries-first out batch_size some fresh =
    let kept_is = fresh.1 in
    let size_is : out.kept.batch_size ≡ batch_size = ap (λ (o : Outgoing). o.batch_size) kept_is in
    let ended : out.kept.ended ≡ false = ap (λ (o : Outgoing). o.ended) kept_is in
    record {
      some = rw size_is some;
      batches = rw (fresh.0, ap (λ (o : Outgoing). o.waiting) kept_is, ended, zero-div) refl;
      partial = ap (λ (o : Outgoing). o.partial) kept_is ∙ rw ended (nothing-left (0 / out.kept.batch_size * out.kept.batch_size));
      made = λ e. ap (λ (o : Outgoing). o.made) kept_is ∙ sym (zero-div out.kept.batch_size);
    }

sent-first : (placement : Placement) (outs : List Downstream) → 0 < placement.batch_size → are_different (map to_of outs) ≡ true → All (λ (one : Downstream). IsFreshOut placement.batch_size one.link) outs
    → SendAll placement (map to_of outs) (unended [] (λ _. [])) outs
unfolding SendAll
sent-first placement [] some apart fresh = tt
sent-first placement (one ∷ outs) some apart fresh =
    let parts = and_parts (not (among one.to (map to_of outs))) (are_different (map to_of outs)) apart in
    let own = fresh 0 one (omega arith) in (
      record { to = refl; batch_size = ap (λ (o : Outgoing). o.batch_size) own.1; over = ap (λ (o : Outgoing). o.ended) own.1; carries = carries-first one.link placement.batch_size some own },
      not-true (among one.to (map to_of outs)) parts.0,
      sent-first placement outs some parts.1 (λ k d less. fresh (suc k) d (omega arith)),
    )

different-senders : (flow : List Operator) (worker : ℕ) → are_different (senders_of flow worker) ≡ true
unfolding senders_of
different-senders flow worker = different-kept (λ n. sends_to flow n worker) (numbers_below (crew_of flow)) (different-below (crew_of flow))

different-receivers : (flow : List Operator) (worker : ℕ) → are_different (receivers_of flow worker) ≡ true
unfolding receivers_of
different-receivers flow worker = different-kept (λ n. sends_to flow worker n) (numbers_below (crew_of flow)) (different-below (crew_of flow))

-- ---- the whole

-- a sender that is kept is a worker
known-at : (flow : List Operator) (worker k : ℕ) (ins : List Upstream) (d : Upstream) → map from_of ins ≡ senders_of flow worker → k < length ins → (get_or ins k d).from < crew_of flow
known-at flow worker k ins d is less =
    let within : k < length (senders_of flow worker) = subst (λ n. k < n) (sym (map-length from_of ins) ∙ ap length is) less in
    subst (λ n. n < crew_of flow) (sym (ap (λ l. get_or l k 0) is) ∙ map-at from_of ins k d 0 less) (sender-within flow worker k 0 within)

-- a worker that has done nothing shows the beginning
shows-first : (flow : List Operator) (records : List (List (Result (List Value) RowFault))) (batch_size worker : ℕ) (share : Option ShareState) (w : WorkerState)
    → 0 < batch_size → is_some share ≡ is_scan (what_at flow (op_of flow worker))
    → HasShare share (role_of flow records worker) → IsFresh (record { flow = flow; number = worker; batch_size = batch_size; share = share }) w
    → Shows (first_context flow records batch_size worker) w origin
unfolding placement_of first_orders role_of task_of all_arrivals closing kept
shows-first flow records batch_size worker share w some shared has fresh =
    let kind : What = what_at flow (op_of flow worker) in
    let task : Task = task_of flow (op_of flow worker) in
    let role : Role = role_of flow records worker in
    let placement : Placement = placement_of flow records batch_size worker in
    let nothing = product-first role (closing-first kind task role.share) in
    let rest : w.rest ≡ share_or kind role.share [] = fresh.rest ∙ rest-first kind share role shared has in
    record {
      op = fresh.op;
      number = fresh.number;
      operator_state = does-first w.operator_state kind role fresh.does (scan-senders flow worker);
      state = has-first w.operator_state kind task fresh.does;
      columns = fresh.columns;
      build_columns = fresh.build_columns;
      sides = λ k d less. (fresh.ins k d less).2 ∙ side-first flow kind (get_or w.ins k d).from (known-at flow worker k w.ins d fresh.senders less);
      builders = λ sender h. builders-first flow worker sender kind refl h;
      building = rw (rest, fresh.building) (building-first flow kind role.share);
      when = fresh.when;
      rest = rest;
      pending = fresh.pending ∙ sym nothing;
      taken = fresh.taken;
      emitted = fresh.emitted;
      batches = fresh.batches;
      within = omega arith;
      produced = omega arith;
      refused = fresh.refused;
      kept = fresh.kept ∙ sym (kept-first kind task);
      restraint = fresh.restraint;
      finished = fresh.finished;
      ins = subst (λ senders. ReceiveAll senders (λ _. []) [] w.ins) fresh.senders
          (received-first flow kind w.ins (ap are_different fresh.senders ∙ different-senders flow worker) fresh.ins fresh.in_ends);
      outs = rw nothing (subst (λ receivers. SendAll placement receivers (unended [] (λ _. [])) w.outs) fresh.receivers
          (sent-first placement w.outs some (ap are_different fresh.receivers ∙ different-receivers flow worker) fresh.out_ends));
      route = fresh.route;
    }

-- a worker that has done nothing stands at the beginning
pub fresh-stands : (flow : List Operator) (records : List (List (Result (List Value) RowFault))) (batch_size worker : ℕ) (share : Option ShareState) (w : WorkerState)
    → 0 < batch_size → is_some share ≡ is_scan (what_at flow (op_of flow worker))
    → HasShare share (role_of flow records worker) → IsFresh (record { flow = flow; number = worker; batch_size = batch_size; share = share }) w
    → IsAtPosition (first_context flow records batch_size worker) w origin origin
unfolding Leads AreEntries
fresh-stands flow records batch_size worker share w some shared has fresh = record {
  leads = rw fresh.journal refl;
  text = rw fresh.journal tt;
  shows = shows-first flow records batch_size worker share w some shared has fresh;
}

-- what a new worker counts is within its steps
few-fresh : (kind : What) (flow : List Operator) (batch_size : ℕ) (share : Option ShareState) (task : WorkerTask) (ends : WorkerEnds) → task.building ≡ has_build_side kind
    → IsOperatorStateOf task.operator_state kind → is_some share ≡ is_scan kind → (is_scan kind ≡ true → ends.ins.items ≡ [])
    → IfSome share (λ one. one.columns ≡ (if task.building then task.build_columns else task.columns)) → AreFreshSenders flow kind ends.ins.items
    → All (λ (one : Downstream). IsFreshOut batch_size one.link) ends.outs.items → IsSoundRoute task.route → AreFew (fresh_fields share task ends)
few-fresh kind flow batch_size share task ends building is shared scans typed fresh out_ends routed = record {
  in_order = rw building (order-first task.operator_state kind ends.ins.items is);
  scans = scan share shared;
  shares = alone share shared;
  typed = typed;
  steps = omega arith;
  unfinished = λ _. refl;
  received = λ k e less. let same = (fresh k e less).0 in omega arith;
  sent = λ _ k e less. let same = ap (λ (o : Outgoing). o.made) (out_ends k e less).1 in omega arith;
  over = λ k e less. ap (λ (o : Outgoing). o.ended) (out_ends k e less).1;
  routed = routed;
  moved = λ k e less. absurd (omega arith);
}
  where
    scan : (o : Option ShareState) → is_some o ≡ is_scan kind → IfSome o (λ _. task.operator_state ≡ operator_state.Scan)
    scan None e = tt
    scan (Some x) e = scan-operator_state task.operator_state kind is (sym e)

    alone : (o : Option ShareState) → is_some o ≡ is_scan kind → IfSome o (λ _. ends.ins.items ≡ [])
    alone None e = tt
    alone (Some x) e = scans (sym e)

-- ---- what is made

-- what is said of the images of elements
all-back : {A B : Type 0} (f : A → B) (P : B → Type 0) (xs : List A) → All P (map f xs) → All (λ x. P (f x)) xs
all-back f P xs h k d less = subst P (map-at f xs k d (f d) less) (h k (f d) (subst (λ n. k < n) (sym (map-length f xs)) less))

roomless-fresh : (batch_size : ℕ) (outs : List Downstream) → All (λ (one : Downstream). IsFreshOut batch_size one.link) outs → All (λ (one : Downstream). IsFreshOut batch_size one.link) (map without_room outs)
roomless-fresh batch_size outs fresh =
    all-roomless (λ (one : Downstream). IsFreshOut batch_size one.link) outs
    (λ k d less. let own = fresh k d less in (own.0, ap (λ (o : Outgoing). record o { room = 0 }) own.1))

roomless-numbers : (outs : List Downstream) → map to_of (map without_room outs) ≡ map to_of outs
roomless-numbers [] = refl
roomless-numbers (one ∷ outs) = ap (λ l. one.to ∷ l) (roomless-numbers outs)

pub roomless-links : (outs : List Downstream) → map link_of (map without_room outs) ≡ map roomless (map out_of outs)
roomless-links [] = refl
roomless-links (one ∷ outs) = ap (λ l. roomless one.link ∷ l) (roomless-links outs)

no-sender : (flow : List Operator) (worker : ℕ) (ins : List Upstream) → map from_of ins ≡ senders_of flow worker → is_scan (what_at flow (op_of flow worker)) ≡ true → ins ≡ []
no-sender flow worker [] is scans = refl
no-sender flow worker (one ∷ ins) is scans = let none = is ∙ scan-senders flow worker scans in cc

-- what is made of a task and of ends has done nothing
pub made-fresh : (flow : List Operator) (worker batch_size : ℕ) (share : Option ShareState) (task : WorkerTask) (ends : WorkerEnds) → IsTaskOf flow worker task → AreNumbered flow worker ends
    → All (IsFreshOut batch_size) (map out_of ends.outs.items) → All IsFreshIn (map end_of ends.ins.items) → IsFresh (record { flow = flow; number = worker; batch_size = batch_size; share = share }) (fresh_worker worker share task ends)
made-fresh flow worker batch_size share task ends is numbered outs ins = record {
  op = is.op;
  number = refl;
  does = is.does;
  columns = is.columns;
  build_columns = is.build_columns;
  building = is.building;
  rest = refl;
  pending = refl;
  taken = refl;
  emitted = refl;
  batches = refl;
  refused = refl;
  kept = refl;
  when = refl;
  seat = refl;
  restraint = refl;
  finished = refl;
  senders = numbered.senders;
  ins = numbered.fresh;
  in_ends = all-back end_of IsFreshIn ends.ins.items ins;
  receivers = roomless-numbers ends.outs.items ∙ numbered.receivers;
  out_ends = roomless-fresh batch_size ends.outs.items (all-back out_of (IsFreshOut batch_size) ends.outs.items outs);
  route = is.route;
  journal = refl;
}

-- the records of a scan's share are typed by the columns of the rows at hand
scan-columns : (flow : List Operator) (op : ℕ) (kind : What) (columns built : List Column) (building : Bool) → columns ≡ arrival_columns flow op kind
    → building ≡ has_build_side kind → is_scan kind ≡ true → columns_at flow op ≡ (if building then built else columns)
scan-columns flow op (what.Scan file) columns built building is joins scans = rw joins (sym is)
scan-columns flow op (what.Filter input cond) columns built building is joins scans = absurd (false≢true scans)
scan-columns flow op (what.Project input from) columns built building is joins scans = absurd (false≢true scans)
scan-columns flow op (what.Join build probe build_keys probe_keys) columns built building is joins scans = absurd (false≢true scans)
scan-columns flow op (what.Group input keys aggs) columns built building is joins scans = absurd (false≢true scans)
scan-columns flow op (what.Sink input) columns built building is joins scans = absurd (false≢true scans)

own-typed : (flow : List Operator) (op : ℕ) (kind : What) (share : Option ShareState) (columns built : List Column) (building : Bool) → columns ≡ arrival_columns flow op kind
    → building ≡ has_build_side kind → is_some share ≡ is_scan kind → IfSome share (λ one. one.columns ≡ columns_at flow op)
    → IfSome share (λ one. one.columns ≡ (if building then built else columns))
own-typed flow op kind None columns built building is joins shared typed = tt
own-typed flow op kind (Some one) columns built building is joins shared typed = typed ∙ scan-columns flow op kind columns built building is joins (sym shared)

-- what it counts is within its steps
pub few-made : (flow : List Operator) (worker batch_size : ℕ) (share : Option ShareState) (task : WorkerTask) (ends : WorkerEnds) → IsTaskOf flow worker task → AreNumbered flow worker ends
    → All (IsFreshOut batch_size) (map out_of ends.outs.items) → is_some share ≡ is_scan (what_at flow (op_of flow worker))
    → IfSome share (λ one. one.columns ≡ columns_at flow (op_of flow worker)) → AreFew (fresh_fields share task ends)
few-made flow worker batch_size share task ends is numbered outs shared typed =
    few-fresh (what_at flow (op_of flow worker)) flow batch_size share task ends is.building is.does shared
    (no-sender flow worker ends.ins.items numbered.senders)
    (own-typed flow (op_of flow worker) (what_at flow (op_of flow worker)) share task.columns task.build_columns task.building is.columns is.building shared typed) numbered.fresh (all-back out_of (IsFreshOut batch_size) ends.outs.items outs) is.sound
