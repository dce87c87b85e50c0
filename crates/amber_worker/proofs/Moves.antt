-- A worker that took a row stands where it leads.
use Rattle.std.proofs.Common.{◌≡◌, ℕ, suc, ◌+◌, ◌-◌, ◌^◌, ◌<◌, ◌≤◌, eqb, ◌&&◌, ◌||◌, not, cond, List, [], ◌∷◌, ◌++◌, length, take, drop, All, Option, Some, None, Bool, true, false, if◌then◌else◌, refl, sym, ap, ◌∙◌, arith, append_assoc, length-append, length-drop, subst}
use Rattle.std.specs.List.{filter_map}
use Rattle.std.specs.Option.{option_to_list}
use Rattle.std.proofs.lemmas.Bool.{and_parts, eqb-true}
use Rattle.std.proofs.lemmas.Grind.{flat_map-append}
use Rattle.std.proofs.lemmas.List.{append-nil, take_all}
use Rattle.amber_rows.specs.declared.value.Value.{Value}
use Rattle.amber_rows.specs.declared.batch.Batch.{Batch}
use Rattle.amber_rows.specs.declared.column.Column.{Column}
use Rattle.amber_rows.specs.declared.flow.What.{What}
use Rattle.amber_rows.specs.declared.flow.What.TheVariants as what
use Rattle.amber_meaning.specs.Position.{Position, Restraint, Taken, all_arrivals, have_ended, is_complete, product}
use Rattle.amber_meaning.specs.Rules.{IsFree, MayGo, Orders, assigned, is_watched, produced_with, restraint_used, with_rows}
use Rattle.amber_meaning.specs.Task.{Arrival, Role, Task, columns_from, is_builder, row_in, suiting, rows_in}
use Rattle.amber_meaning.specs.Produce.{closing, produce, yields, yields_if}
use Rattle.amber_meaning.specs.Kinds.{closing_rows, yields_row, kept_rows}
use Rattle.amber_meaning.specs.Refused.{refusal_in, refused_in}
use Rattle.amber_meaning.specs.Views.{taken_of}
use Rattle.amber_link.specs.Sides.{have_all_ended}
use Rattle.amber_link.specs.declared.upstreams.Upstream.{Upstream}
use Rattle.amber_worker.specs.Fields.{rows_moved}
use Rattle.amber_worker.specs.AtPosition.{Context, KeepsUnder, ReceiveAll, Shows}
use Rattle.amber_operators.specs.Kept.{Closes, keeps}
use Rattle.amber_operators.specs.Kept.{KeepsRows}
use Rattle.amber_operators.specs.States.{DoesKind, Becomes, row_yield}
use Rattle.amber_worker.specs.WorkerState.{WorkerState}
use Rattle.amber_worker.specs.Steps.{columns_at_hand, row_taken}
use Rattle.amber_operators.specs.RowsTaken.{gives_if, keeps_if}
use Rattle.amber_operators.specs.declared.operator_state.OperatorState.{OperatorState}
use Rattle.amber_operators.specs.declared.operator_state.OperatorState.TheVariants as operator_state
use Rattle.amber_worker.proofs.Journals.{AreEntries-with_go, Leads-go}
use Rattle.amber_worker.proofs.Produced.{and-turned, kept-longer, left-behind, left-nothing, left-within, not-complete, produce-next, product-is, product-open, same-test}
use Rattle.amber_operators.proofs.Lists.{left-next, take-next}
use Rattle.amber_operators.proofs.States.{closing-is, does-more, has-more, rows-more}

-- a worker that has not finished; it is neither paused nor held
pub record IsWorking (w : WorkerState) : Type 0 where
  pub unfinished : w.finished ≡ false
  pub running : w.restraint.paused ≡ false
  pub loose : w.restraint.held ≡ false
  pub few : All (λ one. rows_moved one < 2 ^ 63) w.journal

-- under a count it has a unit
abbrev pub HasUnit : Bool → WorkerState → Type 0
HasUnit counted w = counted ≡ true → 0 < w.restraint.hand

-- a row does not meet the condition, or it was waved on
abbrev pub lets_by : WorkerState → List Value → Bool
lets_by w row = w.restraint.waved || not (is_watched w.when row)

pub free-shown : (context : Context) (w : WorkerState) (p : Position) → Shows context w p → IsWorking w → IsFree p
free-shown context w p shows works = record {
  running = ap (λ (r : Restraint). r.paused) (sym shows.restraint) ∙ works.running;
  loose = ap (λ (r : Restraint). r.held) (sym shows.restraint) ∙ works.loose;
  unfinished = sym shows.finished ∙ works.unfinished;
}

pub hand-shown : (context : Context) (w : WorkerState) (p : Position) → Shows context w p → w.restraint.hand ≡ p.restraint.hand
hand-shown context w p shows = ap (λ (r : Restraint). r.hand) shows.restraint

-- ---- what a row yields

-- a row that suits yields what the worker gives of it
yields-given : (d : OperatorState) (task : Task) (kind : What) (constants : List Value) (role : Role) (before : List Arrival) (from : ℕ) (row : List Value)
    → DoesKind d kind constants role → KeepsRows d task before → yields_row task kind before from constants row ≡ row_yield d (is_builder task from) row
yields-given operator_state.Scan task (what.Scan file) constants role before from row does has = refl
yields-given (operator_state.Filter cond) task (what.Filter input own) constants role before from row does has = rw does refl
yields-given (operator_state.Project columns) task (what.Project input own) constants role before from row does has = rw does refl
yields-given (operator_state.Join state) task (what.Join build probe build_keys probe_keys) constants role before from row does has = rw (does.0, does.1, has) refl
yields-given (operator_state.Group state) task (what.Group input keys aggs) constants role before from row does has = refl
yields-given operator_state.Sink task (what.Sink input) constants role before from row does has = refl
yields-given d task kind constants role before from row does has = absurd does

-- what is handed yields what the worker gives of it
yields-all : (d : OperatorState) (task : Task) (constants : List Value) (role : Role) (before : List Arrival) (one : Arrival) → DoesKind d task.kind constants role → KeepsRows d task before
    → yields task before one constants ≡ gives_if d (is_builder task one.from) (suiting task one)
unfolding yields
yields-all d task constants role before one does has = by (suiting task one)
  where
    by : (o : Option (List Value)) → yields_if task before one.from constants o ≡ gives_if d (is_builder task one.from) o
    by None = refl
    by (Some row) = yields-given d task task.kind constants role before one.from row does has

nothing_kept : (d : OperatorState) (o : Option (List Value)) → ((row : List Value) → keeps d row ≡ []) → keeps_if d o ≡ []
nothing_kept d None h = refl
nothing_kept d (Some row) h = h row

sink-keeps : (o : Option (List Value)) → option_to_list o ≡ keeps_if operator_state.Sink o
sink-keeps None = refl
sink-keeps (Some row) = refl

-- what is kept for the answer, with one more that was taken
kept-more : (d : OperatorState) (task : Task) (kind : What) (constants : List Value) (role : Role) (taken : List Arrival) (one : Arrival) → DoesKind d kind constants role
    → kept_rows kind task (taken ++ one ∷ []) ≡ kept_rows kind task taken ++ keeps_if d (suiting task one)
kept-more operator_state.Scan task (what.Scan file) constants role taken one does = sym (nothing_kept operator_state.Scan (suiting task one) (λ row. refl))
kept-more (operator_state.Filter cond) task (what.Filter input own) constants role taken one does = sym (nothing_kept (operator_state.Filter cond) (suiting task one) (λ row. refl))
kept-more (operator_state.Project columns) task (what.Project input own) constants role taken one does = sym (nothing_kept (operator_state.Project columns) (suiting task one) (λ row. refl))
kept-more (operator_state.Join state) task (what.Join build probe build_keys probe_keys) constants role taken one does =
    sym (nothing_kept (operator_state.Join state) (suiting task one) (λ row. refl))
kept-more (operator_state.Group state) task (what.Group input keys aggs) constants role taken one does = sym (nothing_kept (operator_state.Group state) (suiting task one) (λ row. refl))
kept-more operator_state.Sink task (what.Sink input) constants role taken one does = rows-more task taken one ∙ ap (λ l. rows_in task taken ++ l) (sink-keeps (suiting task one))
kept-more d task kind constants role taken one does = absurd does

-- what is refused, with one more that was taken
refused-more : (op : ℕ) (taken : List Arrival) (one : Arrival) → refused_in op (taken ++ one ∷ []) ≡ refused_in op taken ++ refusal_in op one.from one.what
refused-more op taken one = flat_map-append _ taken (one ∷ []) ∙ ap (λ l. refused_in op taken ++ l) (append-nil _)

-- ---- a row is taken

-- the facts of a row that is taken
record TakesOne (context : Context) (w : WorkerState) (p : Position) (one : Arrival) (later : List Arrival) (now : OperatorState)
    (last : List (List Value)) : Type 0 where
  shows : Shows context w p
  rest : w.rest ≡ one ∷ later
  pending : w.pending ≡ []
  becomes : Becomes w.operator_state w.building (row_in (columns_at_hand w) one.what) now
  closes : Closes now (eqb (length w.rest) 1 && have_all_ended w.ins) last

-- the position with a row more
abbrev with_one : Orders → Position → Position
with_one orders p = with_rows orders 1 0 p

-- the side of what is at hand
side-is : (context : Context) (w : WorkerState) (p : Position) (one : Arrival) (later : List Arrival) (now : OperatorState) (last : List (List Value))
    → TakesOne context w p one later now last → All (λ other. is_builder context.placement.role.task other.from ≡ w.building) (one ∷ later)
side-is context w p one later now last takes = rw takes.rest at takes.shows.building

-- the row at hand, if it suits
found-is : (context : Context) (w : WorkerState) (p : Position) (one : Arrival) (later : List Arrival) (now : OperatorState) (last : List (List Value))
    → TakesOne context w p one later now last → row_in (columns_at_hand w) one.what ≡ suiting context.placement.role.task one
found-is context w p one later now last takes =
    let builds : is_builder context.placement.role.task one.from ≡ w.building = side-is context w p one later now last takes 0 one (omega arith) in
    ap (λ (columns : List Column). row_in columns one.what) (same w.building builds)
  where
    same : (b : Bool) → is_builder context.placement.role.task one.from ≡ b → (if b then w.build_columns else w.columns) ≡ columns_from context.placement.role.task one.from
    same true e = takes.shows.build_columns ∙ rw e refl
    same false e = takes.shows.columns ∙ rw e refl

-- what is kept becomes what the task says
becomes-is : (context : Context) (w : WorkerState) (p : Position) (one : Arrival) (later : List Arrival) (now : OperatorState) (last : List (List Value))
    → TakesOne context w p one later now last → Becomes w.operator_state (is_builder context.placement.role.task one.from) (suiting context.placement.role.task one) now
becomes-is context w p one later now last takes =
    let builds : is_builder context.placement.role.task one.from ≡ w.building = side-is context w p one later now last takes 0 one (omega arith) in
    let P : Option (List Value) → Type 0 = λ found. Becomes w.operator_state w.building found now in
    let Q : Bool → Type 0 = λ b. Becomes w.operator_state b (suiting context.placement.role.task one) now in
    subst Q (sym builds) (subst P (found-is context w p one later now last takes) takes.becomes)

taken-now : (context : Context) (w : WorkerState) (p : Position) (one : Arrival) (later : List Arrival) (now : OperatorState) (last : List (List Value))
    → TakesOne context w p one later now last → take (length p.constants + 1) (all_arrivals context.placement.role p.taken) ≡ taken_of context.placement.role p ++ one ∷ []
taken-now context w p one later now last takes = take-next (length p.constants) (all_arrivals context.placement.role p.taken) one later (sym takes.shows.rest ∙ takes.rest)

pub all-ended : (senders : List ℕ) (had : ℕ → List Batch) (taken : List Taken) (ins : List Upstream) → ReceiveAll senders had taken ins → have_all_ended ins ≡ have_ended senders taken
unfolding ReceiveAll have_ended
all-ended [] had taken [] h = refl
all-ended [] had taken (one ∷ ins) h = absurd h
all-ended (sender ∷ senders) had taken [] h = absurd h
all-ended (sender ∷ senders) had taken (one ∷ ins) h = rw (h.0.ended, all-ended senders had taken ins h.2) refl

-- of the same rows the same are closing
pub closing-same : (over : Bool) (kind : What) (task : Task) (arrivals all : List Arrival) → (over ≡ true → arrivals ≡ all)
    → (if over then closing_rows kind (filter_map (suiting task) arrivals) else []) ≡ (if over then closing_rows kind (filter_map (suiting task) all) else [])
closing-same true kind task arrivals all same = ap (λ l. closing_rows kind (filter_map (suiting task) l)) (same refl)
closing-same false kind task arrivals all same = refl

-- nothing more can come after this row
over-is : (context : Context) (w : WorkerState) (p : Position) (one : Arrival) (later : List Arrival) (now : OperatorState) (last : List (List Value))
    → TakesOne context w p one later now last → (eqb (length w.rest) 1 && have_all_ended w.ins) ≡ is_complete context.placement.role p.taken (length p.constants + 1)
over-is context w p one later now last takes =
    let shows = takes.shows in
    let within = left-within (length p.constants) (all_arrivals context.placement.role p.taken) one later (sym shows.rest ∙ takes.rest) in
    let left : length w.rest ≡ length (all_arrivals context.placement.role p.taken) - length p.constants = ap length shows.rest ∙ length-drop (length p.constants) (all_arrivals context.placement.role p.taken) in
    and-turned (eqb (length w.rest) 1) (have_all_ended w.ins)
    ∙ ap (λ b. b && eqb (length w.rest) 1) (all-ended context.placement.role.senders context.base.had p.taken w.ins shows.ins)
    ∙ ap (λ b. have_ended context.placement.role.senders p.taken && b)
    (same-test (length w.rest) 1 (length p.constants + 1) (length (all_arrivals context.placement.role p.taken)) (λ e. omega arith) (λ e. omega arith))

-- the rows that are given at the end
last-is : (context : Context) (w : WorkerState) (p : Position) (one : Arrival) (later : List Arrival) (now : OperatorState) (last : List (List Value))
    → TakesOne context w p one later now last
    → last ≡ (if is_complete context.placement.role p.taken (length p.constants + 1) then closing context.placement.role.task (all_arrivals context.placement.role p.taken) else [])
unfolding closing
last-is context w p one later now last takes =
    let shows = takes.shows in
    let task : Task = context.placement.role.task in
    let becomes = becomes-is context w p one later now last takes in
    let does = does-more w.operator_state now (is_builder task one.from) (suiting task one) task.kind context.orders.constants context.placement.role becomes shows.operator_state in
    let has = has-more w.operator_state now task (taken_of context.placement.role p) one becomes shows.state in
    let over = over-is context w p one later now last takes in
    closing-is now task.kind context.orders.constants context.placement.role task (taken_of context.placement.role p ++ one ∷ []) (is_complete context.placement.role p.taken (length p.constants + 1)) last does has
    (subst (λ b. Closes now b last) over takes.closes)
    ∙ closing-same (is_complete context.placement.role p.taken (length p.constants + 1)) task.kind task (taken_of context.placement.role p ++ one ∷ []) (all_arrivals context.placement.role p.taken)
    (λ e. let end = and_parts (have_ended context.placement.role.senders p.taken) _ e in
    let here = eqb-true (length p.constants + 1) (length (all_arrivals context.placement.role p.taken)) end.1 in
    sym (taken-now context w p one later now last takes) ∙ take_all (length p.constants + 1) (all_arrivals context.placement.role p.taken) (omega arith))

-- what was produced with this row
product-one : (context : Context) (w : WorkerState) (p : Position) (one : Arrival) (later : List Arrival) (now : OperatorState) (last : List (List Value))
    → TakesOne context w p one later now last
    → product context.placement.role p.taken (p.constants ++ context.orders.constants ∷ [])
    ≡ product context.placement.role p.taken p.constants ++ (gives_if w.operator_state w.building (row_in (columns_at_hand w) one.what) ++ last)
product-one context w p one later now last takes =
    let shows = takes.shows in
    let task : Task = context.placement.role.task in
    let left : drop (length p.constants) (all_arrivals context.placement.role p.taken) ≡ one ∷ later = sym shows.rest ∙ takes.rest in
    let within = left-within (length p.constants) (all_arrivals context.placement.role p.taken) one later left in
    let more : length (p.constants ++ context.orders.constants ∷ []) ≡ length p.constants + 1 = omega (arith, length-append p.constants (context.orders.constants ∷ [])) in
    let builds : is_builder task one.from ≡ w.building = side-is context w p one later now last takes 0 one (omega arith) in
    let yielded : yields task (take (length p.constants) (all_arrivals context.placement.role p.taken)) one context.orders.constants ≡ gives_if w.operator_state w.building (row_in (columns_at_hand w) one.what) =
    yields-all w.operator_state task context.orders.constants context.placement.role (taken_of context.placement.role p) one shows.operator_state shows.state
    ∙ ap (λ b. gives_if w.operator_state b (suiting task one)) builds
    ∙ ap (λ found. gives_if w.operator_state w.building found) (sym (found-is context w p one later now last takes)) in
    let before : produce task [] (all_arrivals context.placement.role p.taken) p.constants ≡ product context.placement.role p.taken p.constants =
    sym (product-open context.placement.role p.taken p.constants (not-complete context.placement.role p.taken (length p.constants) (omega arith))) in
    product-is context.placement.role p.taken (p.constants ++ context.orders.constants ∷ [])
    ∙ rw (more, produce-next task [] (all_arrivals context.placement.role p.taken) p.constants one later context.orders.constants left, yielded, before, ← last-is context w p one later now last takes)
    (append_assoc (product context.placement.role p.taken p.constants) (gives_if w.operator_state w.building (row_in (columns_at_hand w) one.what)) last)

-- all that was produced is gone
pub all-gone : (context : Context) (w : WorkerState) (p : Position) → Shows context w p → w.pending ≡ []
    → length p.outcomes ≡ length (product context.placement.role p.taken p.constants)
all-gone context w p shows none =
    let gone = left-nothing (length p.outcomes) (product context.placement.role p.taken p.constants) (sym shows.pending ∙ none) in
    let within = shows.produced in
    omega arith

may-take_row : (context : Context) (w : WorkerState) (p : Position) (one : Arrival) (later : List Arrival) (now : OperatorState) (last : List (List Value))
    → TakesOne context w p one later now last → IsWorking w → HasUnit context.orders.counted w → MayGo (assigned context.placement.role context.orders) p 1 0
may-take_row context w p one later now_does last takes works unit =
    let shows = takes.shows in
    let within = left-within (length p.constants) (all_arrivals context.placement.role p.taken) one later (sym shows.rest ∙ takes.rest) in
    let gone = all-gone context w p shows takes.pending in
    let before : produced_with context.placement.role context.orders p 0 ≡ length (product context.placement.role p.taken p.constants) =
    ap (λ (constants : List (List Value)). length (product context.placement.role p.taken constants)) (append-nil p.constants) in
    let now = ap length (product-one context w p one later now_does last takes) in
    let lengths = length-append (product context.placement.role p.taken p.constants) (gives_if w.operator_state w.building (row_in (columns_at_hand w) one.what) ++ last) in
    record {
      free = free-shown context w p shows works;
      within = within;
      produced = omega arith;
      drained = λ some. omega arith;
      in_hand = λ counted. omega arith;
      before_taking = λ counted some. let has = unit counted in omega (arith, has, hand-shown context w p shows);
      no_stop = refl;
    }

both_true : (b : Bool) → (b && true) ≡ b
both_true true = refl
both_true false = refl

same-hand : (b : Bool) (hand : ℕ) → cond b (hand - 0) hand ≡ hand
same-hand true hand = omega arith
same-hand false hand = refl

pub used-none : (counted : Bool) (r : Restraint) → restraint_used counted 0 r ≡ r
used-none counted r = λ i. record r { hand = same-hand counted r.hand i; waved = both_true r.waved i }

shows-row_taken : (context : Context) (w : WorkerState) (p : Position) (one : Arrival) (later : List Arrival) (now : OperatorState) (last : List (List Value))
    → TakesOne context w p one later now last → Shows context (row_taken one later now last w) (with_one context.orders p)
shows-row_taken context w p one later now last takes =
    let shows = takes.shows in
    let task : Task = context.placement.role.task in
    let left : drop (length p.constants) (all_arrivals context.placement.role p.taken) ≡ one ∷ later = sym shows.rest ∙ takes.rest in
    let within = left-within (length p.constants) (all_arrivals context.placement.role p.taken) one later left in
    let more : length (p.constants ++ context.orders.constants ∷ []) ≡ length p.constants + 1 = omega (arith, length-append p.constants (context.orders.constants ∷ [])) in
    let grown = product-one context w p one later now last takes in
    let gone = all-gone context w p shows takes.pending in
    let no_fate : p.outcomes ++ [] ≡ p.outcomes = append-nil p.outcomes in
    let still : length p.outcomes ≤ length (product context.placement.role p.taken p.constants) = shows.produced in
    let lengths = length-append (product context.placement.role p.taken p.constants) (gives_if w.operator_state w.building (row_in (columns_at_hand w) one.what) ++ last) in
    let now_taken : take (length (p.constants ++ context.orders.constants ∷ [])) (all_arrivals context.placement.role p.taken) ≡ taken_of context.placement.role p ++ one ∷ [] =
    rw more (taken-now context w p one later now last takes) in
    let becomes = becomes-is context w p one later now last takes in
    let found = found-is context w p one later now last takes in
    record {
      op = shows.op;
      number = shows.number;
      operator_state = does-more w.operator_state now (is_builder task one.from) (suiting task one) task.kind context.orders.constants context.placement.role becomes shows.operator_state;
      state = rw now_taken (has-more w.operator_state now task (taken_of context.placement.role p) one becomes shows.state);
      columns = shows.columns;
      build_columns = shows.build_columns;
      sides = shows.sides;
      builders = shows.builders;
      building = λ k d less. side-is context w p one later now last takes (suc k) d (omega arith);
      when = shows.when;
      rest = sym (rw more (left-next (length p.constants) (all_arrivals context.placement.role p.taken) one later left));
      pending = rw (takes.pending, no_fate, grown) (sym (left-behind (length p.outcomes) (product context.placement.role p.taken p.constants) _ gone));
      taken = rw (more, shows.taken) refl;
      emitted = rw no_fate shows.emitted;
      batches = shows.batches;
      within = rw more within;
      produced = rw (no_fate, grown) (omega arith);
      refused = rw (shows.refused, shows.op, now_taken) (sym (refused-more context.placement.op (taken_of context.placement.role p) one));
      kept = rw (shows.kept, found, now_taken) (sym (kept-more w.operator_state task task.kind context.orders.constants context.placement.role (taken_of context.placement.role p) one shows.operator_state));
      restraint = shows.restraint ∙ sym (used-none context.orders.counted p.restraint);
      finished = shows.finished;
      ins = shows.ins;
      outs = rw (no_fate, grown, kept-longer) shows.outs;
      route = shows.route;
    }

-- wherever a worker stood, it stands once it took a row
pub Keeps-row_taken : (w : WorkerState) (one : Arrival) (later : List Arrival) (now : OperatorState) (last : List (List Value)) → w.rest ≡ one ∷ later → w.pending ≡ []
    → Becomes w.operator_state w.building (row_in (columns_at_hand w) one.what) now → Closes now (eqb (length w.rest) 1 && have_all_ended w.ins) last
    → IsWorking w → (counted : Bool) → HasUnit counted w → KeepsUnder counted w (row_taken one later now last w)
unfolding KeepsUnder
Keeps-row_taken w one later now last rest pending becomes closes works counted unit context start p armed stands =
    let takes : TakesOne context w p one later now last = record { shows = stands.shows; rest = rest; pending = pending; becomes = becomes; closes = closes } in (
      with_one context.orders p,
      record {
        leads = Leads-go context.placement.role context.orders start w.journal p 1 0 stands.leads (may-take_row context w p one later now last takes works (λ so. unit (sym armed ∙ so)));
        text = AreEntries-with_go w.journal 1 0 stands.text works.few refl;
        shows = shows-row_taken context w p one later now last takes;
      },
    )
