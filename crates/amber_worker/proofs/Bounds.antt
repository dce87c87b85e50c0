-- What a worker counts stays within its steps.
use Rattle.std.proofs.Common.{◌≡◌, ℕ, suc, ◌+◌, ◌^◌, ◌<◌, ◌≤◌, eqb, List, [], ◌∷◌, ◌++◌, length, map, take, drop, All, Option, Some, None, Bool, true, false, ◌&&◌, if◌then◌else◌, refl, sym, ap, ◌∙◌, arith, subst}
use Rattle.std.specs.Option.{IfSome, is_some}
use Rattle.std.proofs.lemmas.Bool.{false≢true}
use Rattle.std.proofs.lemmas.List.{nil_from_length, take-append-le, take_all}
use Rattle.std.proofs.lemmas.List.Elements.{All-cons, All-push}
use Rattle.amber_rows.specs.declared.value.Value.{Value}
use Rattle.amber_rows.specs.declared.batch.Batch.{Batch}
use Rattle.amber_rows.specs.declared.column.Column.{Column}
use Rattle.amber_log.specs.declared.entry.Entry.{Entry}
use Rattle.amber_log.specs.declared.entry.Entry.TheVariants as entry
use Rattle.amber_meaning.specs.Position.{one_if}
use Rattle.amber_meaning.specs.Task.{Arrival, row_in}
use Rattle.amber_meaning.specs.Refused.{refusal_in}
use Rattle.amber_scan.specs.Shares.{ShareState}
use Rattle.amber_link.specs.Sides.{IsTaken, have_all_ended, have_builders_ended, AreEnded, AreLooked}
use Rattle.amber_link.specs.declared.upstreams.Upstream.{Upstream}
use Rattle.amber_link.specs.declared.downstreams.Downstream.{Downstream}
use Rattle.amber_link.specs.Links.{has_some}
use Rattle.amber_worker.specs.Fields.{AreFew, WorkerFields, rows_moved}
use Rattle.amber_operators.specs.Handed.{row_from}
use Rattle.amber_worker.specs.WorkerState.{WorkerState, has_ready}
use Rattle.amber_operators.specs.Kept.{Closes, is_group}
use Rattle.amber_operators.specs.States.{Becomes, turned_to}
use Rattle.amber_worker.specs.Steps.{Finishes, TakesBatch, TakesRow, columns_at_hand, gone_on, with_go}
use Rattle.amber_operators.specs.RowsTaken.{gives_if, keeps_if}
use Rattle.amber_operators.proofs.States.{closes-asked, closes-group, in_order-batch, in_order-row, in_order-settled}
use Rattle.amber_worker.specs.Counting.{DealsUnits, SeatSide, hand_in}
use Rattle.amber_worker.specs.declared.counting.Dealing.{Dealing}
use Rattle.amber_worker.specs.declared.counting.Dealing.TheVariants as dealing
use Rattle.amber_operators.specs.declared.operator_state.OperatorState.{OperatorState}
use Rattle.amber_operators.specs.declared.operator_state.OperatorState.TheVariants as operator_state

-- entries that speak of no more rows than this
abbrev AreWithin : ℕ → List Entry → Type 0
AreWithin n journal = All (λ one. rows_moved one ≤ n) journal

none-within : (n : ℕ) → AreWithin n []
none-within n = λ k d less. absurd (omega arith)

one-within : (n : ℕ) (one : Entry) → rows_moved one ≤ n → AreWithin n (one ∷ [])
one-within n one h = All-cons (λ e. rows_moved e ≤ n) one [] h (none-within n)

two-within : (n rows outs : ℕ) (one : Entry) → rows + outs ≡ 1 → rows_moved one ≤ n → AreWithin (n + 1) (one ∷ entry.Go rows outs ∷ [])
two-within n rows outs one sum h =
    All-cons (λ e. rows_moved e ≤ n + 1) one (entry.Go rows outs ∷ []) (omega arith) (one-within (n + 1) (entry.Go rows outs) (omega arith))

within-gone_on : (n : ℕ) (one : Entry) (rows outs : ℕ) → rows + outs ≡ 1 → rows_moved one ≤ n → AreWithin (n + 1) (gone_on one rows outs)
within-gone_on n (entry.Take sender batch) rows outs sum h = two-within n rows outs (entry.Take sender batch) sum h
within-gone_on n (entry.Go before given) rows outs sum h = one-within (n + 1) (entry.Go (before + rows) (given + outs)) (omega arith)
within-gone_on n (entry.Grant m) rows outs sum h = two-within n rows outs (entry.Grant m) sum h
within-gone_on n (entry.Back m) rows outs sum h = two-within n rows outs (entry.Back m) sum h
within-gone_on n entry.Pause rows outs sum h = two-within n rows outs entry.Pause sum h
within-gone_on n entry.Resume rows outs sum h = two-within n rows outs entry.Resume sum h
within-gone_on n entry.Hold rows outs sum h = two-within n rows outs entry.Hold sum h
within-gone_on n entry.Finish rows outs sum h = two-within n rows outs entry.Finish sum h

within-with_go : (n : ℕ) (journal : List Entry) (rows outs : ℕ) → rows + outs ≡ 1 → AreWithin n journal → AreWithin (n + 1) (with_go journal rows outs)
unfolding with_go
within-with_go n [] rows outs sum h = one-within (n + 1) (entry.Go rows outs) (omega arith)
within-with_go n (one ∷ []) rows outs sum h = within-gone_on n one rows outs sum (h 0 one (omega arith))
within-with_go n (one ∷ next ∷ more) rows outs sum h =
    let here : rows_moved one ≤ n = h 0 one (omega arith) in
    All-cons (λ e. rows_moved e ≤ n + 1) one (with_go (next ∷ more) rows outs) (omega arith)
    (within-with_go n (next ∷ more) rows outs sum (λ k d less. h (suc k) d (omega arith)))

-- ---- a row is taken

pub same-some : {A : Type 0} (P : Type 0) (old new : Option A) → is_some new ≡ is_some old → IfSome old (λ _. P) → IfSome new (λ _. P)
same-some P None None e h = h
same-some P None (Some x) e h = absurd (false≢true (sym e))
same-some P (Some y) None e h = tt
same-some P (Some y) (Some x) e h = h

-- a scan's worker stays one
scans-more : (does now : OperatorState) (builds : Bool) (found : Option (List Value)) → Becomes does builds found now → does ≡ operator_state.Scan → now ≡ operator_state.Scan
scans-more does now builds found becomes scan =
    let P : OperatorState → Type 0 = λ d. Becomes d builds found now in
    subst P scan becomes

scans-so : (does now : OperatorState) (o : Option ShareState) → (does ≡ operator_state.Scan → now ≡ operator_state.Scan) → IfSome o (λ _. does ≡ operator_state.Scan) → IfSome o (λ _. now ≡ operator_state.Scan)
scans-so does now None f h = h
scans-so does now (Some x) f h = f h

pub few-row : (f : WorkerFields) (now : OperatorState) (found : Option (List Value)) (later : Option ShareState) → Becomes f.operator_state f.building found now → AreFew f
    → f.taken + f.emitted + f.batches + one_if f.finished < 2 ^ 40 → is_some later ≡ is_some f.share → IfSome later (λ share. share.columns ≡ f.columns)
    → AreFew (record f { operator_state = now; share = later; taken = f.taken + 1; journal = with_go f.journal 1 0 })
few-row f now found later becomes few less same typed = record {
  in_order = in_order-row f.operator_state now f.building found f.taken f.ins becomes few.in_order;
  scans = scans-so f.operator_state now later (scans-more f.operator_state now f.building found becomes) (same-some (f.operator_state ≡ operator_state.Scan) f.share later same few.scans);
  shares = same-some (f.ins ≡ []) f.share later same few.shares;
  typed = typed;
  steps = omega arith;
  unfinished = few.unfinished;
  received = few.received;
  sent = few.sent;
  over = few.over;
  routed = few.routed;
  moved = λ k d below. let within = within-with_go (f.taken + f.emitted) f.journal 1 0 refl few.moved k d below in omega arith;
}

pub takes-row : (w : WorkerState) (one : Arrival) (later : List Arrival) (now : OperatorState) (last : List (List Value)) (rest : List Arrival) (pending : List (List Value)) (refused : List _)
    (kept : List (List Value)) (journal : List Entry) (columns : List _) (over : Bool)
    → has_some w.pending ≡ false → columns ≡ columns_at_hand w → over ≡ (is_group w.operator_state && (eqb (length w.rest) 1 && have_all_ended w.ins))
    → w.rest ≡ one ∷ later → rest ≡ later → Becomes w.operator_state w.building (row_in columns one.what) now → Closes now over last
    → pending ≡ (w.pending ++ gives_if w.operator_state w.building (row_in columns one.what)) ++ last → refused ≡ w.refused ++ refusal_in w.op one.from one.what
    → kept ≡ w.kept ++ keeps_if w.operator_state (row_in columns one.what) → journal ≡ with_go w.journal 1 0
    → TakesRow w (record w { operator_state = now; rest = rest; pending = pending; taken = w.taken + 1; refused = refused; kept = kept; journal = journal })
takes-row w one later now last rest pending refused kept journal columns over drained columns_is over_is first rest_is becomes closes pending_is refused_is kept_is journal_is = record {
  one = one;
  later = later;
  now = now;
  last = last;
  drained = drained;
  first = first;
  becomes = subst (λ columns. Becomes w.operator_state w.building (row_in columns one.what) now) columns_is becomes;
  closes = closes-group w.operator_state now w.building (row_in columns one.what) (eqb (length w.rest) 1 && have_all_ended w.ins) last becomes (subst (λ b. Closes now b last) over_is closes);
  after = rw (← columns_is, pending_is, refused_is, kept_is, journal_is, rest_is) refl;
}

-- ---- a row is emitted

pub few-emitted : (f : WorkerFields) (after : List Downstream) → f.finished ≡ false → AreFew f → f.taken + f.emitted + f.batches + one_if f.finished < 2 ^ 40
    → ((n : ℕ) → All (λ one. one.link.kept.made ≤ n) f.outs → All (λ one. one.link.kept.made ≤ n + 1) after) → All (λ one. one.link.kept.ended ≡ false) after
    → AreFew (record f { emitted = f.emitted + 1; outs = after; journal = with_go f.journal 0 1 })
few-emitted f after unfinished few less made over = record {
  in_order = few.in_order;
  scans = few.scans;
  shares = few.shares;
  typed = few.typed;
  steps = omega arith;
  unfinished = few.unfinished;
  received = few.received;
  sent = λ e. made f.emitted (few.sent e);
  over = λ k d below. over k d below ∙ sym unfinished;
  routed = few.routed;
  moved = λ k d below. let within = within-with_go (f.taken + f.emitted) f.journal 0 1 refl few.moved k d below in omega arith;
}

-- ---- the end

pub few-done : (f : WorkerFields) (after : List Downstream) → f.paused ≡ false → AreFew f → f.taken + f.emitted + f.batches + one_if f.finished < 2 ^ 40 → All (λ one. one.link.kept.ended ≡ true) after
    → AreFew (record f { finished = true; outs = after; journal = f.journal ++ entry.Finish ∷ [] })
few-done f after running few less over = record {
  in_order = few.in_order;
  scans = few.scans;
  shares = few.shares;
  typed = few.typed;
  steps = omega arith;
  unfinished = λ paused. absurd (false≢true (sym running ∙ paused));
  received = few.received;
  sent = λ e. absurd (false≢true (sym e));
  over = over;
  routed = few.routed;
  moved = All-push (λ one. rows_moved one ≤ f.taken + f.emitted) f.journal entry.Finish few.moved (omega arith);
}

-- ---- a batch is taken

-- what a list that was lent comes back as
pub written-back : {A : Type 0} (n : ℕ) (old new : List A) → n ≡ length old → length new ≡ length old → take n (new ++ drop (length new) old) ≡ new
written-back n old new e same = take-append-le n new (drop (length new) old) (omega arith) ∙ take_all n new (omega arith)

turned-scan : (does : OperatorState) (builds : Bool) → does ≡ operator_state.Scan → turned_to builds does ≡ operator_state.Scan
turned-scan does builds scan = ap (turned_to builds) scan

pub few-batch : (f : WorkerFields) (columns : List Column) (found later : List Upstream) (place from number : ℕ) (builds : Bool) (batch : Batch)
    → ((one : Upstream) × (one.from ≡ from) × (one.taken ≡ number) × (one.builds ≡ builds) × IsTaken found one batch later)
    → have_builders_ended found ≡ have_builders_ended f.ins → length found ≡ length f.ins → AreFew f → f.taken + f.emitted + f.batches + one_if f.finished < 2 ^ 40 → place < length f.ins
    → All (λ one. one.taken ≤ f.batches + 1) later
    → AreFew (record f { operator_state = turned_to builds f.operator_state; columns = columns; building = builds; batches = f.batches + 1; ins = later; journal = f.journal ++ entry.Take from number ∷ [] })
few-batch f columns found later place from number builds batch so built same few less there received = record {
  in_order = rw (← so.3) (in_order-batch f.operator_state f.building f.taken found later so.0 batch so.4 (in_order-settled f.operator_state f.building f.taken f.ins found built few.in_order));
  scans = scans-so f.operator_state (turned_to builds f.operator_state) f.share (turned-scan f.operator_state builds) few.scans;
  shares = none f.share few.shares;
  typed = unshared f.share few.shares;
  steps = omega arith;
  unfinished = few.unfinished;
  received = received;
  sent = few.sent;
  over = few.over;
  routed = few.routed;
  moved = All-push (λ one. rows_moved one ≤ f.taken + f.emitted) f.journal (entry.Take from number) few.moved (omega arith);
}
  where
    none : (o : Option ShareState) → IfSome o (λ _. f.ins ≡ []) → IfSome o (λ _. later ≡ [])
    none None h = tt
    none (Some x) h = let empty = ap length h in absurd (omega arith)

    unshared : (o : Option ShareState) → IfSome o (λ _. f.ins ≡ []) → IfSome o (λ share. share.columns ≡ columns)
    unshared None h = tt
    unshared (Some x) h = let empty = ap length h in absurd (omega arith)

-- a share stands where there are no senders alone
pub no-share : (share : Option ShareState) (ins : List Upstream) (place : ℕ) → IfSome share (λ _. ins ≡ []) → place < length ins → share ≡ None
no-share None ins place h less = refl
no-share (Some x) ins place h less = let empty = ap length h in absurd (omega arith)

pub takes-batch : (w : WorkerState) (from number : ℕ) (builds : Bool) (batch : Batch) (looked ins found : List Upstream) (rest : List Arrival) (journal : List Entry) (now : OperatorState)
    (closing pending : List (List Value)) (empty asked over : Bool)
    → has_some w.pending ≡ false → has_some w.rest ≡ false
    → ((one : Upstream) × (one.from ≡ from) × (one.taken ≡ number) × (one.builds ≡ builds) × IsTaken looked one batch ins) → AreLooked w.ins looked → has_ready looked ≡ true → from < 2 ^ 32 → number < 2 ^ 64
    → rest ≡ map (row_from from) batch.rows → found ≡ ins → journal ≡ w.journal ++ entry.Take from number ∷ [] → now ≡ turned_to builds w.operator_state
    → empty ≡ eqb (length batch.rows) 0 → over ≡ have_all_ended ins → (over ≡ true → asked ≡ empty)
    → Closes w.operator_state asked closing → pending ≡ (if over then closing else [])
    → TakesBatch w (record w { operator_state = now; building = builds; rest = rest; pending = pending; batches = w.batches + 1; ins = found; journal = journal })
takes-batch w from number builds batch looked ins found rest journal now closing pending empty asked over drained used taken seen ready few small rest_is ins_is journal_is now_is empty_is over_is same closes pending_is = record {
  drained = drained;
  used = used;
  one = taken.0;
  batch = batch;
  found = looked;
  looked = seen;
  ready = ready;
  ins = ins;
  taken = taken.4;
  from_small = let same = taken.1 in omega arith;
  number_small = let same = taken.2 in omega arith;
  last = pending;
  closes = rw (← empty_is, ← over_is, pending_is) (closes-asked w.operator_state empty asked over closing same closes);
  after = rw (taken.1, taken.2, taken.3, rest_is, ins_is, journal_is, now_is) refl;
}

-- batches have come
pub few-settled : (f : WorkerFields) (later : List Upstream) → AreFew f → length later ≡ length f.ins → All (λ one. one.taken ≤ f.batches) later
    → have_builders_ended later ≡ have_builders_ended f.ins → AreFew (record f { ins = later })
few-settled f later few same received built = record {
  in_order = in_order-settled f.operator_state f.building f.taken f.ins later built few.in_order;
  scans = few.scans;
  shares = none f.share few.shares;
  typed = few.typed;
  steps = few.steps;
  unfinished = few.unfinished;
  received = received;
  sent = few.sent;
  over = few.over;
  routed = few.routed;
  moved = few.moved;
}
  where
    none : (o : Option ShareState) → IfSome o (λ _. f.ins ≡ []) → IfSome o (λ _. later ≡ [])
    none None h = tt
    none (Some x) h = let empty = ap length h in nil_from_length later (omega arith)

-- batches have gone
pub few-sent : (f : WorkerFields) (later : List Downstream) → AreFew f → (f.finished ≡ false → All (λ one. one.link.kept.made ≤ f.emitted) later)
    → All (λ one. one.link.kept.ended ≡ f.finished) later → AreFew (record f { outs = later })
few-sent f later few made over = record {
  in_order = few.in_order;
  scans = few.scans;
  shares = few.shares;
  typed = few.typed;
  steps = few.steps;
  unfinished = few.unfinished;
  received = few.received;
  sent = made;
  over = over;
  routed = few.routed;
  moved = few.moved;
}

-- ---- units are dealt with

within-dealt : (n : ℕ) (how : Dealing) (old new : SeatSide) → DealsUnits how old new → AreWithin n old.journal → AreWithin n new.journal
within-dealt n dealing.Nothing old new deals within = subst (λ (side : SeatSide). AreWithin n side.journal) (sym deals) within
within-dealt n dealing.Claims old new deals within = subst (AreWithin n) (sym deals.journal) (by (eqb deals.units 0))
  where
    by : (b : Bool) → AreWithin n (if b then old.journal else old.journal ++ entry.Grant deals.units ∷ [])
    by true = within
    by false = All-push (λ one. rows_moved one ≤ n) old.journal (entry.Grant deals.units) within (omega arith)
within-dealt n dealing.Returns old new deals within = subst (AreWithin n) (sym deals.journal) (by (eqb (hand_in old.seat) 0))
  where
    by : (b : Bool) → AreWithin n (if b then old.journal else old.journal ++ entry.Back (hand_in old.seat) ∷ [])
    by true = within
    by false = All-push (λ one. rows_moved one ≤ n) old.journal (entry.Back (hand_in old.seat)) within (omega arith)

-- an entry more that speaks of no row
with-journal : (f : WorkerFields) (journal : List Entry) → AreFew f → AreWithin (f.taken + f.emitted) journal → AreFew (record f { journal = journal })
with-journal f journal few within = record {
  in_order = few.in_order;
  scans = few.scans;
  shares = few.shares;
  typed = few.typed;
  steps = few.steps;
  unfinished = few.unfinished;
  received = few.received;
  sent = few.sent;
  over = few.over;
  routed = few.routed;
  moved = within;
}

pub few-dealt : (f : WorkerFields) (how : Dealing) (old new : SeatSide) → DealsUnits how old new → old.journal ≡ f.journal → AreFew f → AreFew (record f { journal = new.journal })
few-dealt f how old new deals same few =
    with-journal f new.journal few (within-dealt (f.taken + f.emitted) how old new deals (subst (AreWithin (f.taken + f.emitted)) (sym same) few.moved))

pub few-written : (f : WorkerFields) (one : Entry) → rows_moved one ≡ 0 → AreFew f → AreFew (record f { journal = f.journal ++ one ∷ [] })
few-written f one none few =
    with-journal f (f.journal ++ one ∷ []) few (All-push (λ e. rows_moved e ≤ f.taken + f.emitted) f.journal one few.moved (omega arith))

-- ---- a pause begins or ends

-- it is paused or not, and where it is it has not finished
with-paused : (f : WorkerFields) (paused : Bool) → AreFew f → (paused ≡ true → f.finished ≡ false) → AreFew (record f { paused = paused })
with-paused f paused few unfinished = record {
  in_order = few.in_order;
  scans = few.scans;
  shares = few.shares;
  typed = few.typed;
  steps = few.steps;
  unfinished = unfinished;
  received = few.received;
  sent = few.sent;
  over = few.over;
  routed = few.routed;
  moved = few.moved;
}

-- a worker that has not finished is paused
pub few-paused : (f : WorkerFields) → AreFew f → f.finished ≡ false → AreFew (record f { paused = true; journal = f.journal ++ entry.Pause ∷ [] })
few-paused f few unfinished = few-written (record f { paused = true }) entry.Pause refl (with-paused f true few (λ _. unfinished))

-- it goes on
pub few-resumed : (f : WorkerFields) → AreFew f → AreFew (record f { paused = false; journal = f.journal ++ entry.Resume ∷ [] })
few-resumed f few = few-written (record f { paused = false }) entry.Resume refl (with-paused f false few (λ paused. absurd (false≢true paused)))

-- a leg begins
pub few-begun : (f : WorkerFields) (paused : Bool) (journal : List Entry) → AreFew f → paused ≡ false → journal ≡ []
    → AreFew (record f { paused = paused; journal = journal })
few-begun f paused journal few running none =
    with-journal (record f { paused = paused }) journal (with-paused f paused few (λ e. absurd (false≢true (sym running ∙ e))))
    (rw none (none-within (f.taken + f.emitted)))

-- ---- all streams are ended

pub finishes : (w : WorkerState) (outs after : List Downstream) (journal : List Entry) → has_some w.pending ≡ false → has_some w.rest ≡ false → have_all_ended w.ins ≡ true
    → AreEnded w.outs after → outs ≡ after → journal ≡ w.journal ++ entry.Finish ∷ []
    → Finishes w (record w { finished = true; outs = outs; journal = journal })
finishes w outs after journal drained used ended ends outs_is journal_is =
    record { drained = drained; used = used; ended = ended; outs = after; ends = ends; after = rw (outs_is, journal_is) refl }
