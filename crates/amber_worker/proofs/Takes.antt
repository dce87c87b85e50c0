-- A worker that took a batch stands where it leads.
use Rattle.std.proofs.Common.{◌≡◌, ℕ, suc, ◌^◌, ◌<◌, ◌≤◌, eqb, ◌||◌, ◌&&◌, not, ◌⊎◌, inl, inr, List, [], ◌∷◌, ◌++◌, length, map, take, All, Bool, true, false, if◌then◌else◌, refl, sym, ap, ◌∙◌, arith, length-append, subst}
use Rattle.std.specs.List.{flat_map, list_any}
use Rattle.std.proofs.lemmas.Bool.{and_parts, eqb-true, false≢true, or_cases}
use Rattle.std.proofs.lemmas.Grind.{flat_map-append}
use Rattle.std.proofs.lemmas.List.{append-nil, length-map, take-append-le, take_all}
use Rattle.std.proofs.lemmas.List.Elements.{All-cons}
use Rattle.std.proofs.lemmas.List.Folds.{list_all-append}
use Rattle.amber_meaning.proofs.Lists.{list_all-members}
use Rattle.amber_rows.specs.declared.value.Value.{Value}
use Rattle.amber_rows.specs.declared.batch.Batch.{Batch}
use Rattle.amber_rows.specs.declared.flow.What.{What}
use Rattle.amber_rows.specs.declared.flow.What.TheVariants as what
use Rattle.amber_log.specs.declared.entry.Entry.TheVariants as entry
use Rattle.amber_meaning.specs.Position.{Position, Taken, all_arrivals, arrivals_of, has_last, have_ended, is_complete, product, share_or}
use Rattle.amber_meaning.specs.Rules.{MayTake, may_take_from, with_batch}
use Rattle.amber_meaning.specs.Task.{Arrival, Role, Task, is_builder}
use Rattle.amber_meaning.specs.Produce.{closing, produce}
use Rattle.amber_meaning.specs.Views.{taken_of}
use Rattle.amber_link.specs.Sides.{AreLooked, IsTaken, have_all_ended, have_builders_ended}
use Rattle.amber_worker.proofs.Settling.{Shows-relinked}
use Rattle.amber_link.specs.declared.upstreams.Upstream.{Upstream}
use Rattle.amber_operators.specs.Handed.{row_from}
use Rattle.amber_worker.specs.AtPosition.{Context, IsAtPosition, KeepsUnder, ReceiveAll, Shows}
use Rattle.amber_operators.specs.Kept.{Closes}
use Rattle.amber_operators.specs.States.{DoesKind}
use Rattle.amber_worker.specs.WorkerState.{WorkerState}
use Rattle.amber_worker.specs.Steps.{batch_taken}
use Rattle.amber_operators.specs.declared.operator_state.OperatorState.{OperatorState}
use Rattle.amber_operators.specs.declared.operator_state.OperatorState.TheVariants as operator_state
use Rattle.amber_meaning.proofs.Led.{Leads-push}
use Rattle.amber_worker.proofs.Journals.{AreEntries-push}
use Rattle.amber_worker.proofs.Moves.{IsWorking, all-ended, all-gone, closing-same, free-shown}
use Rattle.amber_worker.proofs.Produced.{and-turned, kept-longer, left-behind, left-nothing, produce-longer, product-is, product-open, same-test}
use Rattle.amber_operators.proofs.States.{closing-is, does-turned, has-turned}
use Rattle.amber_worker.proofs.Received.{as_taken, is-received, is-sender, receive_all-looked, receive_all-next, sides-looked}

-- ---- what was handed

not-scan : (d : OperatorState) (kind : What) (constants : List Value) (role : Role) (share arrivals more : List Arrival) → DoesKind d kind constants role → (role.senders ≡ [] → ⊥)
    → share_or kind share (arrivals ++ more) ≡ share_or kind share arrivals ++ more
not-scan operator_state.Scan (what.Scan file) constants role share arrivals more does some = absurd (some does)
not-scan (operator_state.Filter cond) (what.Scan file) constants role share arrivals more does some = absurd does
not-scan (operator_state.Project from) (what.Scan file) constants role share arrivals more does some = absurd does
not-scan operator_state.Sink (what.Scan file) constants role share arrivals more does some = absurd does
not-scan (operator_state.Join state) (what.Scan file) constants role share arrivals more does some = absurd does
not-scan (operator_state.Group state) (what.Scan file) constants role share arrivals more does some = absurd does
not-scan d (what.Filter input cond) constants role share arrivals more does some = refl
not-scan d (what.Project input columns) constants role share arrivals more does some = refl
not-scan d (what.Join build probe build_keys probe_keys) constants role share arrivals more does some = refl
not-scan d (what.Group input keys aggs) constants role share arrivals more does some = refl
not-scan d (what.Sink input) constants role share arrivals more does some = refl

fed-more : (d : OperatorState) (constants : List Value) (role : Role) (taken : List Taken) (from : ℕ) (batch : Batch) → DoesKind d role.task.kind constants role → (role.senders ≡ [] → ⊥)
    → all_arrivals role (taken ++ as_taken from batch ∷ []) ≡ all_arrivals role taken ++ map (row_from from) batch.rows
unfolding all_arrivals
fed-more d constants role taken from batch does some =
    ap (λ arrivals. share_or role.task.kind role.share arrivals)
    (flat_map-append arrivals_of taken (as_taken from batch ∷ []) ∙ ap (λ l. flat_map arrivals_of taken ++ l) (append-nil _))
    ∙ not-scan d role.task.kind constants role role.share (flat_map arrivals_of taken) (map (row_from from) batch.rows) does some

-- ---- a batch is taken

no-sender : (senders : List ℕ) (member : ℕ) → list_any (λ other. eqb other member) senders ≡ true → senders ≡ [] → ⊥
no-sender [] member h e = false≢true h
no-sender (sender ∷ senders) member h e = cc

-- ---- sides

-- each sender of the build side has ended
ended-of : (had : ℕ → List Batch) (task : Task) (taken : List Taken) (senders : List ℕ) (ins : List Upstream) (sender : ℕ) → ReceiveAll senders had taken ins
    → All (λ one. one.builds ≡ is_builder task one.from) ins → have_builders_ended ins ≡ true → is_builder task sender ≡ true
    → list_any (λ other. eqb other sender) senders ≡ true → has_last taken sender ≡ true
unfolding ReceiveAll
ended-of had task taken [] [] sender h sides built builds member = absurd (false≢true member)
ended-of had task taken [] (one ∷ ins) sender h sides built builds member = absurd h
ended-of had task taken (first ∷ senders) [] sender h sides built builds member = absurd h
ended-of had task taken (first ∷ senders) (one ∷ ins) sender h sides built builds member =
    let parts = and_parts (not one.builds || one.ended) _ built in
    let own : one.builds ≡ is_builder task one.from = sides 0 one (omega arith) in
    by parts.0 own (or_cases (eqb first sender) _ member)
    (λ later. ended-of had task taken senders ins sender h.2 (λ k d less. sides (suc k) d (omega arith)) parts.1 builds later)
  where
    by : (not one.builds || one.ended) ≡ true → one.builds ≡ is_builder task one.from
        → (eqb first sender ≡ true) ⊎ (list_any (λ other. eqb other sender) senders ≡ true)
        → (list_any (λ other. eqb other sender) senders ≡ true → has_last taken sender ≡ true) → has_last taken sender ≡ true
    by here own (inl e) rest =
        let same : first ≡ sender = eqb-true first sender e in
        let of_build : one.builds ≡ true = own ∙ ap (is_builder task) (h.0.from ∙ same) ∙ builds in
        ap (λ n. has_last taken n) (sym same) ∙ sym h.0.ended ∙ (rw of_build at here)
    by here own (inr later) rest = rest later

builders-ended : (had : ℕ → List Batch) (task : Task) (taken : List Taken) (senders : List ℕ) (ins : List Upstream) → ReceiveAll senders had taken ins
    → All (λ one. one.builds ≡ is_builder task one.from) ins
    → ((sender : ℕ) → is_builder task sender ≡ true → list_any (λ one. eqb one sender) senders ≡ true)
    → have_builders_ended ins ≡ true → have_ended task.builders taken ≡ true
unfolding have_ended
builders-ended had task taken senders ins h sides builders built =
    list_all-members (has_last taken) task.builders (λ sender member. ended-of had task taken senders ins sender h sides built member (builders sender member))

-- the side of the sender whose batch is taken
side-there : (task : Task) (front back : List Upstream) (one : Upstream) → All (λ (other : Upstream). other.builds ≡ is_builder task other.from) (front ++ one ∷ back)
    → one.builds ≡ is_builder task one.from
side-there task [] back one sides = sides 0 one (omega arith)
side-there task (first ∷ front) back one sides = side-there task front back one (λ k d less. sides (suc k) d (omega arith))

sides-next : (task : Task) (front back : List Upstream) (one now : Upstream) → now.builds ≡ one.builds → now.from ≡ one.from
    → All (λ (other : Upstream). other.builds ≡ is_builder task other.from) (front ++ one ∷ back)
    → All (λ (other : Upstream). other.builds ≡ is_builder task other.from) (front ++ now ∷ back)
sides-next task [] back one now builds from sides =
    All-cons (λ (other : Upstream). other.builds ≡ is_builder task other.from) now back (builds ∙ sides 0 one (omega arith) ∙ ap (is_builder task) (sym from))
    (λ k d less. sides (suc k) d (omega arith))
sides-next task (first ∷ front) back one now builds from sides =
    All-cons (λ (other : Upstream). other.builds ≡ is_builder task other.from) first (front ++ now ∷ back) (sides 0 first (omega arith))
    (sides-next task front back one now builds from (λ k d less. sides (suc k) d (omega arith)))

-- all rows of a batch are of one side
one-side : (task : Task) (from : ℕ) (builds : Bool) (rows : List (List Value)) → is_builder task from ≡ builds
    → All (λ (other : Arrival). is_builder task other.from ≡ builds) (map (row_from from) rows)
one-side task from builds [] e = λ k d less. absurd (omega arith)
one-side task from builds (row ∷ rows) e =
    All-cons (λ (other : Arrival). is_builder task other.from ≡ builds) (row_from from row) (map (row_from from) rows) e (one-side task from builds rows e)

may-side : (role : Role) (taken : List Taken) (one : Upstream) (built : Bool) → one.builds ≡ is_builder role.task one.from → (one.builds || built) ≡ true
    → (built ≡ true → have_ended role.task.builders taken ≡ true) → may_take_from role taken one.from ≡ true
may-side role taken one built own side ended = by (is_builder role.task one.from) (ap (λ b. b || built) (sym own) ∙ side)
  where
    by : (b : Bool) → (b || built) ≡ true → (if b then true else have_ended role.task.builders taken) ≡ true
    by true e = refl
    by false e = ended e

-- one sender has not ended
unended-there : (front back : List Upstream) (one : Upstream) → one.ended ≡ false → have_all_ended (front ++ one ∷ back) ≡ false
unended-there front back one unended = by (have_all_ended (front ++ one ∷ back)) refl
  where
    by : (b : Bool) → have_all_ended (front ++ one ∷ back) ≡ b → b ≡ false
    by false e = refl
    by true e =
        let parts = and_parts (have_all_ended front) _ (sym (list_all-append (λ (other : Upstream). other.ended) front (one ∷ back)) ∙ e) in
        let here = and_parts one.ended _ parts.1 in
        absurd (false≢true (sym unended ∙ here.0))

-- the facts of a batch that is taken
pub record TakesOne (w : WorkerState) (one : Upstream) (batch : Batch) (ins : List Upstream) (last : List (List Value)) : Type 0 where
  pub rest : w.rest ≡ []
  pub pending : w.pending ≡ []
  pub taken_so : IsTaken w.ins one batch ins
  pub closes : Closes w.operator_state (eqb (length batch.rows) 0 && have_all_ended ins) last

received-all : (context : Context) (w : WorkerState) (p : Position) (one : Upstream) (batch : Batch) (ins : List Upstream) (last : List (List Value))
    → Shows context w p → (takes : TakesOne w one batch ins last) → ReceiveAll context.placement.role.senders context.base.had p.taken (takes.taken_so.front ++ one ∷ takes.taken_so.back)
received-all context w p one batch ins last shows takes = rw takes.taken_so.found at shows.ins

own-side : (context : Context) (w : WorkerState) (p : Position) (one : Upstream) (batch : Batch) (ins : List Upstream) (last : List (List Value))
    → Shows context w p → TakesOne w one batch ins last → one.builds ≡ is_builder context.placement.role.task one.from
own-side context w p one batch ins last shows takes =
    let so = takes.taken_so in
    side-there context.placement.role.task so.front so.back one (rw so.found at shows.sides)

pub may-take : (context : Context) (w : WorkerState) (p : Position) (one : Upstream) (batch : Batch) (ins : List Upstream) (last : List (List Value))
    → Shows context w p → TakesOne w one batch ins last → IsWorking w → MayTake context.placement.role p one.from one.taken
may-take context w p one batch ins last shows takes works =
    let so = takes.taken_so in
    let all = received-all context w p one batch ins last shows takes in
    let received = is-received context.base.had p.taken context.placement.role.senders so.front so.back one all in
    record {
      free = free-shown context w p shows works;
      sender = is-sender context.base.had p.taken context.placement.role.senders so.front so.back one all;
      next = received.taken;
      no_rest = sym shows.rest ∙ takes.rest;
      no_pending = sym shows.pending ∙ takes.pending;
      side = may-side context.placement.role p.taken one (have_builders_ended w.ins) (own-side context w p one batch ins last shows takes) so.side
          (builders-ended context.base.had context.placement.role.task p.taken context.placement.role.senders w.ins shows.ins shows.sides shows.builders);
    }

-- what was handed with this batch
fed-now : (context : Context) (w : WorkerState) (p : Position) (one : Upstream) (batch : Batch) (ins : List Upstream) (last : List (List Value))
    → Shows context w p → TakesOne w one batch ins last
    → all_arrivals context.placement.role (p.taken ++ as_taken one.from batch ∷ []) ≡ all_arrivals context.placement.role p.taken ++ map (row_from one.from) batch.rows
fed-now context w p one batch ins last shows takes =
    let so = takes.taken_so in
    let all = received-all context w p one batch ins last shows takes in
    fed-more w.operator_state context.orders.constants context.placement.role p.taken one.from batch shows.operator_state
    (no-sender context.placement.role.senders one.from (is-sender context.base.had p.taken context.placement.role.senders so.front so.back one all))

-- all that was handed before was taken
all-taken : (context : Context) (w : WorkerState) (p : Position) → Shows context w p → w.rest ≡ []
    → length p.constants ≡ length (all_arrivals context.placement.role p.taken)
all-taken context w p shows none =
    let nothing_left = left-nothing (length p.constants) (all_arrivals context.placement.role p.taken) (sym shows.rest ∙ none) in
    let within = shows.within in
    omega arith

received-next : (context : Context) (w : WorkerState) (p : Position) (one : Upstream) (batch : Batch) (ins : List Upstream) (last : List (List Value))
    → Shows context w p → TakesOne w one batch ins last → ReceiveAll context.placement.role.senders context.base.had (p.taken ++ as_taken one.from batch ∷ []) ins
received-next context w p one batch ins last shows takes =
    let so = takes.taken_so in
    rw so.after_it (receive_all-next context.base.had p.taken context.placement.role.senders so.front so.back one so.now batch so.unended so.gives so.is (received-all context w p one batch ins last shows takes))

-- more could come before
open-before : (context : Context) (w : WorkerState) (p : Position) (one : Upstream) (batch : Batch) (ins : List Upstream) (last : List (List Value))
    → Shows context w p → TakesOne w one batch ins last → is_complete context.placement.role p.taken (length p.constants) ≡ false
open-before context w p one batch ins last shows takes =
    let so = takes.taken_so in
    ap (λ b. b && eqb (length p.constants) (length (all_arrivals context.placement.role p.taken)))
    (sym (all-ended context.placement.role.senders context.base.had p.taken w.ins shows.ins) ∙ ap have_all_ended so.found ∙ unended-there so.front so.back one so.unended)

-- nothing more can come after this batch
over-is : (context : Context) (w : WorkerState) (p : Position) (one : Upstream) (batch : Batch) (ins : List Upstream) (last : List (List Value))
    → Shows context w p → TakesOne w one batch ins last
    → (eqb (length batch.rows) 0 && have_all_ended ins) ≡ is_complete context.placement.role (p.taken ++ as_taken one.from batch ∷ []) (length p.constants)
over-is context w p one batch ins last shows takes =
    let whole = all-taken context w p shows takes.rest in
    let lengths = ap length (fed-now context w p one batch ins last shows takes) in
    let sum = length-append (all_arrivals context.placement.role p.taken) (map (row_from one.from) batch.rows) in
    let mapped = length-map batch.rows (row_from one.from) in
    and-turned (eqb (length batch.rows) 0) (have_all_ended ins)
    ∙ ap (λ b. b && eqb (length batch.rows) 0)
    (all-ended context.placement.role.senders context.base.had (p.taken ++ as_taken one.from batch ∷ []) ins (received-next context w p one batch ins last shows takes))
    ∙ ap (λ b. have_ended context.placement.role.senders (p.taken ++ as_taken one.from batch ∷ []) && b)
    (same-test (length batch.rows) 0 (length p.constants) (length (all_arrivals context.placement.role (p.taken ++ as_taken one.from batch ∷ []))) (λ e. omega arith) (λ e. omega arith))

-- as much was taken as before
taken-same : (context : Context) (w : WorkerState) (p : Position) (one : Upstream) (batch : Batch) (ins : List Upstream) (last : List (List Value))
    → Shows context w p → TakesOne w one batch ins last
    → take (length p.constants) (all_arrivals context.placement.role (p.taken ++ as_taken one.from batch ∷ [])) ≡ taken_of context.placement.role p
taken-same context w p one batch ins last shows takes =
    rw (fed-now context w p one batch ins last shows takes)
    (take-append-le (length p.constants) (all_arrivals context.placement.role p.taken) (map (row_from one.from) batch.rows) shows.within)

-- the rows that are given at the end
last-is : (context : Context) (w : WorkerState) (p : Position) (one : Upstream) (batch : Batch) (ins : List Upstream) (last : List (List Value))
    → Shows context w p → TakesOne w one batch ins last
    → last ≡ (if is_complete context.placement.role (p.taken ++ as_taken one.from batch ∷ []) (length p.constants)
    then closing context.placement.role.task (all_arrivals context.placement.role (p.taken ++ as_taken one.from batch ∷ [])) else [])
unfolding closing
last-is context w p one batch ins last shows takes =
    let task : Task = context.placement.role.task in
    let later : List Taken = p.taken ++ as_taken one.from batch ∷ [] in
    let over = over-is context w p one batch ins last shows takes in
    closing-is w.operator_state task.kind context.orders.constants context.placement.role task (taken_of context.placement.role p) (is_complete context.placement.role later (length p.constants)) last shows.operator_state shows.state
    (subst (λ b. Closes w.operator_state b last) over takes.closes)
    ∙ closing-same (is_complete context.placement.role later (length p.constants)) task.kind task (taken_of context.placement.role p) (all_arrivals context.placement.role later)
    (λ e. let end = and_parts (have_ended context.placement.role.senders later) _ e in
    let here = eqb-true (length p.constants) (length (all_arrivals context.placement.role later)) end.1 in
    sym (taken-same context w p one batch ins last shows takes) ∙ take_all (length p.constants) (all_arrivals context.placement.role later) (omega arith))

-- what was produced with this batch
product-now : (context : Context) (w : WorkerState) (p : Position) (one : Upstream) (batch : Batch) (ins : List Upstream) (last : List (List Value))
    → Shows context w p → TakesOne w one batch ins last
    → product context.placement.role (p.taken ++ as_taken one.from batch ∷ []) p.constants ≡ product context.placement.role p.taken p.constants ++ last
product-now context w p one batch ins last shows takes =
    let before = product-open context.placement.role p.taken p.constants (open-before context w p one batch ins last shows takes) in
    let same : produce context.placement.role.task [] (all_arrivals context.placement.role (p.taken ++ as_taken one.from batch ∷ [])) p.constants ≡ product context.placement.role p.taken p.constants =
    ap (λ arrivals. produce context.placement.role.task [] arrivals p.constants) (fed-now context w p one batch ins last shows takes)
    ∙ produce-longer context.placement.role.task [] (all_arrivals context.placement.role p.taken) (map (row_from one.from) batch.rows) p.constants shows.within
    ∙ sym before in
    product-is context.placement.role (p.taken ++ as_taken one.from batch ∷ []) p.constants
    ∙ ap (λ rows. rows ++ (if is_complete context.placement.role (p.taken ++ as_taken one.from batch ∷ []) (length p.constants)
    then closing context.placement.role.task (all_arrivals context.placement.role (p.taken ++ as_taken one.from batch ∷ [])) else [])) same
    ∙ ap (λ rows. product context.placement.role p.taken p.constants ++ rows) (sym (last-is context w p one batch ins last shows takes))

pub shows-batch_taken : (context : Context) (w : WorkerState) (p : Position) (one : Upstream) (batch : Batch) (ins : List Upstream) (last : List (List Value))
    → Shows context w p → TakesOne w one batch ins last → Shows context (batch_taken one batch ins last w) (with_batch one.from batch p)
shows-batch_taken context w p one batch ins last shows takes =
    let so = takes.taken_so in
    let more = fed-now context w p one batch ins last shows takes in
    let whole = all-taken context w p shows takes.rest in
    let within = shows.within in
    let still : length p.outcomes ≤ length (product context.placement.role p.taken p.constants) = shows.produced in
    let gone = all-gone context w p shows takes.pending in
    let grown = product-now context w p one batch ins last shows takes in
    let lengths = length-append (product context.placement.role p.taken p.constants) last in
    let taken_same = taken-same context w p one batch ins last shows takes in
    let side = own-side context w p one batch ins last shows takes in
    let batches = shows.batches in
    record {
      op = shows.op;
      number = shows.number;
      operator_state = does-turned w.operator_state one.builds context.placement.role.task.kind context.orders.constants context.placement.role shows.operator_state;
      state = rw taken_same (has-turned w.operator_state one.builds context.placement.role.task (taken_of context.placement.role p) shows.state);
      columns = shows.columns;
      build_columns = shows.build_columns;
      sides = rw so.after_it (sides-next context.placement.role.task so.front so.back one so.now (ap (λ (s : Upstream). s.builds) so.is) (ap (λ (s : Upstream). s.from) so.is) (rw so.found at shows.sides));
      builders = shows.builders;
      building = one-side context.placement.role.task one.from one.builds batch.rows (sym side);
      when = shows.when;
      rest = rw more (sym (left-behind (length p.constants) (all_arrivals context.placement.role p.taken) (map (row_from one.from) batch.rows) whole));
      pending = rw grown (sym (left-behind (length p.outcomes) (product context.placement.role p.taken p.constants) last gone));
      taken = shows.taken;
      emitted = shows.emitted;
      batches = omega (arith, length-append p.taken (as_taken one.from batch ∷ []));
      within = rw more (omega (arith, length-append (all_arrivals context.placement.role p.taken) (map (row_from one.from) batch.rows)));
      produced = rw grown (omega arith);
      refused = rw taken_same shows.refused;
      kept = rw taken_same shows.kept;
      restraint = shows.restraint;
      finished = shows.finished;
      ins = received-next context w p one batch ins last shows takes;
      outs = rw (grown, kept-longer) shows.outs;
      route = shows.route;
    }

-- wherever a worker stood, it stands once it took a batch
pub Keeps-batch_taken : (w : WorkerState) (one : Upstream) (batch : Batch) (ins : List Upstream) (last : List (List Value)) → w.rest ≡ [] → w.pending ≡ []
    → IsTaken w.ins one batch ins → one.from < 2 ^ 32 → one.taken < 2 ^ 64 → Closes w.operator_state (eqb (length batch.rows) 0 && have_all_ended ins) last
    → IsWorking w → (counted : Bool) → KeepsUnder counted w (batch_taken one batch ins last w)
unfolding KeepsUnder
Keeps-batch_taken w one batch ins last rest pending so few small closes works counted context start p armed stands =
    let takes : TakesOne w one batch ins last = record { rest = rest; pending = pending; taken_so = so; closes = closes } in (
      with_batch one.from batch p,
      record {
        leads = Leads-push context.placement.role context.orders start w.journal p (entry.Take one.from one.taken) (with_batch one.from batch p) stands.leads
            (batch, may-take context w p one batch ins last stands.shows takes works, refl);
        text = AreEntries-push false w.journal (entry.Take one.from one.taken) stands.text (few, small) refl;
        shows = shows-batch_taken context w p one batch ins last stands.shows takes;
      },
    )

-- a look for batches changes nothing of what a worker shows
pub shows-looked : (context : Context) (w : WorkerState) (found : List Upstream) (p : Position) → AreLooked w.ins found → Shows context w p
    → Shows context (record w { ins = found }) p
shows-looked context w found p looked shows =
    Shows-relinked context w p found w.outs w.journal shows
    (receive_all-looked context.base.had p.taken context.placement.role.senders w.ins found looked shows.ins) (sides-looked context.placement.role.task w.ins found looked shows.sides) shows.outs

-- a look for batches changes nothing of where a worker stands
pub stands-looked : (context : Context) (w : WorkerState) (found : List Upstream) (start p : Position) → AreLooked w.ins found → IsAtPosition context w start p
    → IsAtPosition context (record w { ins = found }) start p
stands-looked context w found start p looked stands = record {
  leads = stands.leads;
  text = stands.text;
  shows = shows-looked context w found p looked stands.shows;
}

-- wherever a worker stood, it stands once it looked for batches
pub Keeps-looked : (counted : Bool) (w : WorkerState) (found : List Upstream) → AreLooked w.ins found → KeepsUnder counted w (record w { ins = found })
unfolding KeepsUnder
Keeps-looked counted w found looked context start p armed stands = (p, stands-looked context w found start p looked stands)
