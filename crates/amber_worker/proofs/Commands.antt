-- What commands leave of where a worker stands.
use Rattle.std.proofs.Common.{◌≡◌, ◌+◌, ◌<◌, ℕ, Option, List, [], ◌∷◌, ◌++◌, drop, length, length-append, drop-drop, if◌then◌else◌, Bool, true, false, refl, sym, ap, ◌∙◌, arith}
use Rattle.std.proofs.lemmas.Bool.{false≢true}
use Rattle.std.proofs.lemmas.List.Sums.{sum_by_push}
use Rattle.amber_rows.specs.declared.value.Value.{Value}
use Rattle.amber_rows.specs.declared.cond.Cond.{Cond}
use Rattle.amber_rows.specs.declared.flow.What.{What}
use Rattle.amber_rows.specs.declared.flow.What.TheVariants as what
use Rattle.amber_log.specs.Grammar.{AreEntries}
use Rattle.amber_meaning.specs.Kinds.Filter.{with_constant}
use Rattle.amber_meaning.specs.Position.{Position, Restraint, is_emitted, kept, produced_rows, product}
use Rattle.amber_meaning.specs.Rules.{Leads}
use Rattle.amber_meaning.specs.State.{let_go, restraint_released}
use Rattle.amber_meaning.specs.Task.{Arrival, Role, Task}
use Rattle.amber_worker.specs.AtPosition.{Context, IsAtPosition, Shows}
use Rattle.amber_operators.specs.Kept.{KeepsRows}
use Rattle.amber_operators.specs.States.{DoesKind, with_value}
use Rattle.amber_worker.specs.Changes.{ShowsDropped, ShowsSet, ShowsWatching, StandsAtLeg, at_leg_start, held_dropped, with_when}
use Rattle.amber_worker.specs.WorkerState.{WorkerState}
use Rattle.amber_worker.proofs.Apart.{shows-apart}
use Rattle.amber_operators.specs.declared.operator_state.OperatorState.{OperatorState}
use Rattle.amber_operators.specs.declared.operator_state.OperatorState.TheVariants as operator_state

-- ---- another constant

other-constant : (value : Value) (own : Cond) (constants : List Value) → record (with_constant own constants) { constant = value } ≡ with_constant own (value ∷ [])
other-constant value own [] = refl
other-constant value own (constant ∷ more) = refl

does-set : (value : Value) (d : OperatorState) (kind : What) (constants : List Value) (role : Role) → DoesKind d kind constants role
    → DoesKind (with_value value d) kind (value ∷ []) role
does-set value (operator_state.Filter cond) (what.Filter input own) constants role does =
    ap (λ (one : Cond). record one { constant = value }) does ∙ other-constant value own constants
does-set value operator_state.Scan (what.Scan file) constants role does = does
does-set value (operator_state.Project from) (what.Project input columns) constants role does = does
does-set value (operator_state.Join state) (what.Join build probe build_keys probe_keys) constants role does = does
does-set value (operator_state.Group state) (what.Group input keys aggs) constants role does = does
does-set value operator_state.Sink (what.Sink input) constants role does = does
does-set value d kind constants role does = absurd does

keeps-set : (value : Value) (d : OperatorState) (task : Task) (arrivals : List Arrival) → KeepsRows d task arrivals → KeepsRows (with_value value d) task arrivals
keeps-set value operator_state.Scan task arrivals keeps = keeps
keeps-set value (operator_state.Filter cond) task arrivals keeps = tt
keeps-set value (operator_state.Project from) task arrivals keeps = keeps
keeps-set value (operator_state.Join state) task arrivals keeps = keeps
keeps-set value (operator_state.Group state) task arrivals keeps = keeps
keeps-set value operator_state.Sink task arrivals keeps = keeps

pub shows-set : (value : Value) (w : WorkerState) → ShowsSet value w (record w { operator_state = with_value value w.operator_state })
unfolding ShowsSet
shows-set value w context p shows = record {
  op = shows.op;
  number = shows.number;
  operator_state = does-set value w.operator_state context.placement.role.task.kind context.orders.constants context.placement.role shows.operator_state;
  state = keeps-set value w.operator_state context.placement.role.task _ shows.state;
  columns = shows.columns;
  build_columns = shows.build_columns;
  sides = shows.sides;
  builders = shows.builders;
  building = shows.building;
  when = shows.when;
  rest = shows.rest;
  pending = shows.pending;
  taken = shows.taken;
  emitted = shows.emitted;
  batches = shows.batches;
  within = shows.within;
  produced = shows.produced;
  refused = shows.refused;
  kept = shows.kept;
  restraint = shows.restraint;
  finished = shows.finished;
  ins = shows.ins;
  outs = shows.outs;
  route = shows.route;
}

-- ---- a leg begins

shows-at_leg : (context : Context) (w : WorkerState) (p : Position) → Shows context w p → Shows context (at_leg_start w) (let_go p)
shows-at_leg context w p shows =
    shows-apart context w p (record { seat = w.seat; restraint = restraint_released w.restraint; journal = []; reserved = w.reserved; turned = 0 }) (restraint_released p.restraint)
    (ap restraint_released shows.restraint) shows

pub stands-at_leg : (w : WorkerState) → StandsAtLeg w (at_leg_start w)
unfolding StandsAtLeg Leads AreEntries
stands-at_leg w context p shows = record { leads = refl; text = tt; shows = shows-at_leg context w p shows }

-- ---- a condition is put in force, or a count is armed

shows-watched : (context : Context) (w : WorkerState) (p : Position) (when : Option Cond) (counted : Bool) → Shows context w p
    → Shows (with_when when counted context) (record w { when = when }) p
shows-watched context w p when counted shows = record {
  op = shows.op;
  number = shows.number;
  operator_state = shows.operator_state;
  state = shows.state;
  columns = shows.columns;
  build_columns = shows.build_columns;
  sides = shows.sides;
  builders = shows.builders;
  building = shows.building;
  when = refl;
  rest = shows.rest;
  pending = shows.pending;
  taken = shows.taken;
  emitted = shows.emitted;
  batches = shows.batches;
  within = shows.within;
  produced = shows.produced;
  refused = shows.refused;
  kept = shows.kept;
  restraint = shows.restraint;
  finished = shows.finished;
  ins = shows.ins;
  outs = shows.outs;
  route = shows.route;
}

-- between legs, where nothing was done since
pub stands-watched : (context : Context) (w : WorkerState) (p : Position) (when : Option Cond) (counted : Bool)
    → IsAtPosition context w p p → w.journal ≡ []
    → IsAtPosition (with_when when counted context) (record w { when = when }) p p
unfolding Leads AreEntries
stands-watched context w p when counted stands none = record {
  leads = rw none refl;
  text = rw none tt;
  shows = shows-watched context w p when counted stands.shows;
}

pub shows-watching : (when : Option Cond) (w : WorkerState) → ShowsWatching when w (record w { when = when })
unfolding ShowsWatching
shows-watching when w context counted p shows = shows-watched context w p when counted shows

-- ---- the row that holds a worker is dropped

kept-dropped : {A : Type 0} (rows : List A) (outcomes : List Bool) → kept rows outcomes ≡ kept rows (outcomes ++ false ∷ [])
unfolding kept
kept-dropped [] outcomes = refl
kept-dropped (row ∷ []) [] = refl
kept-dropped (row ∷ next ∷ rows) [] = refl
kept-dropped (row ∷ rows) (true ∷ outcomes) = ap (λ l. row ∷ l) (kept-dropped rows outcomes)
kept-dropped (row ∷ rows) (false ∷ outcomes) = kept-dropped rows outcomes

drop_one : {A : Type 0} (n : ℕ) (xs : List A) → drop 1 (drop n xs) ≡ drop (n + 1) xs
drop_one n xs = drop-drop 1 n xs

-- a held position without its row
abbrev row_dropped : Position → Position
row_dropped p = record p { outcomes = p.outcomes ++ false ∷ []; restraint = record p.restraint { held = false } }

shows-row_dropped : (context : Context) (w : WorkerState) (p : Position) → length p.outcomes < length (produced_rows context.placement.role p) → Shows context w p
    → Shows context (record w { restraint = record w.restraint { held = false }; pending = drop 1 w.pending }) (row_dropped p)
shows-row_dropped context w p some shows =
    let more : length (p.outcomes ++ false ∷ []) ≡ length p.outcomes + 1 = length-append p.outcomes (false ∷ []) in
    let gone = sum_by_push (λ fate. if is_emitted fate then 1 else 0) p.outcomes false in
    record {
      op = shows.op;
      number = shows.number;
      operator_state = shows.operator_state;
      state = shows.state;
      columns = shows.columns;
      build_columns = shows.build_columns;
      sides = shows.sides;
      builders = shows.builders;
      building = shows.building;
      when = shows.when;
      rest = shows.rest;
      pending = ap (λ rows. drop 1 rows) shows.pending ∙ drop_one (length p.outcomes) (product context.placement.role p.taken p.constants)
          ∙ ap (λ n. drop n (product context.placement.role p.taken p.constants)) (sym more);
      taken = shows.taken;
      emitted = let before = shows.emitted in omega arith;
      batches = shows.batches;
      within = shows.within;
      produced = omega arith;
      refused = shows.refused;
      kept = shows.kept;
      restraint = ap (λ (r : Restraint). record r { held = false }) shows.restraint;
      finished = shows.finished;
      ins = shows.ins;
      outs = rw (← kept-dropped (product context.placement.role p.taken p.constants) p.outcomes) shows.outs;
      route = shows.route;
    }

pub shows-dropped : (w : WorkerState) → ShowsDropped w (held_dropped w)
unfolding ShowsDropped
shows-dropped w context p some shows = by w.restraint.held p.restraint.held refl refl (ap (λ (r : Restraint). r.held) shows.restraint)
  where
    by : (a b : Bool) → w.restraint.held ≡ a → p.restraint.held ≡ b → w.restraint.held ≡ p.restraint.held
        → Shows context (if a then record w { restraint = record w.restraint { held = false }; pending = drop 1 w.pending } else w)
        (if b then record p { outcomes = p.outcomes ++ false ∷ []; restraint = record p.restraint { held = false } } else p)
    by true true e f same = shows-row_dropped context w p (some f) shows
    by false false e f same = shows
    by true false e f same = absurd (false≢true (sym f ∙ sym same ∙ e))
    by false true e f same = absurd (false≢true (sym e ∙ same ∙ f))
