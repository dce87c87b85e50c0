-- A worker that emitted a row, or finished, stands where it leads.
use Rattle.std.proofs.Common.{◌≡◌, ◌+◌, List, [], ◌∷◌, ◌++◌, length, take, drop, Bool, true, false, if◌then◌else◌, refl, sym, ap, ◌∙◌, arith, length-append, subst}
use Rattle.std.proofs.lemmas.List.{append-nil}
use Rattle.std.proofs.lemmas.List.Sums.{sum_by_push}
use Rattle.amber_rows.specs.declared.value.Value.{Value}
use Rattle.amber_log.specs.declared.entry.Entry.TheVariants as entry
use Rattle.amber_meaning.specs.Position.{Position, emitted_rows, is_emitted, product}
use Rattle.amber_meaning.specs.Rules.{MayFinish, MayGo, assigned, pass_by, product_with, produced_with, with_rows}
use Rattle.amber_link.specs.Sides.{AreEnded, have_all_ended}
use Rattle.amber_worker.specs.Links.{IsHandedOn, number_to}
use Rattle.amber_link.specs.declared.downstreams.Downstream.{Downstream}
use Rattle.amber_worker.specs.AtPosition.{Context, KeepsUnder, SendAll, Shows, output_at}
use Rattle.amber_worker.specs.WorkerState.{WorkerState}
use Rattle.amber_worker.specs.Steps.{all_done, row_emitted}
use Rattle.amber_meaning.proofs.Led.{Leads-push, no_batch}
use Rattle.amber_worker.proofs.Journals.{AreEntries-push, AreEntries-with_go, Leads-go, first-passes}
use Rattle.amber_worker.proofs.Sent.{send_all-end, send_all-row, unended}
use Rattle.amber_worker.proofs.Produced.{kept-next, left-within}
use Rattle.amber_operators.proofs.Lists.{left-next}
use Rattle.amber_worker.proofs.Moves.{HasUnit, IsWorking, all-ended, free-shown, hand-shown, lets_by}

-- ---- a row is emitted

-- nothing is at its end that works
pub open-outs : (context : Context) (w : WorkerState) (p : Position) → Shows context w p → IsWorking w
    → SendAll context.placement context.placement.receivers (unended (emitted_rows context.placement.role p) context.base.gave) w.outs
open-outs context w p shows works =
    let open_still : p.finished ≡ false = sym shows.finished ∙ works.unfinished in
    let P : Bool → Type 0 = λ ended. SendAll context.placement context.placement.receivers (record (output_at context p) { ended = ended }) w.outs in
    subst P open_still shows.outs

pub may-emit_row : (context : Context) (w : WorkerState) (p : Position) (row : List Value) (later : List (List Value))
    → Shows context w p → w.pending ≡ row ∷ later → IsWorking w → HasUnit context.orders.counted w → lets_by w row ≡ true → MayGo (assigned context.placement.role context.orders) p 0 1
may-emit_row context w p row later shows pending works unit by_it =
    let produced = left-within (length p.outcomes) (product context.placement.role p.taken p.constants) row later (sym shows.pending ∙ pending) in
    let same : produced_with context.placement.role context.orders p 0 ≡ length (product context.placement.role p.taken p.constants) =
    ap (λ (constants : List (List Value)). length (product context.placement.role p.taken constants)) (append-nil p.constants) in
    let within = shows.within in
    record {
      free = free-shown context w p shows works;
      within = omega arith;
      produced = omega arith;
      drained = λ none. absurd (omega arith);
      in_hand = λ counted. let has = unit counted in omega (arith, has, hand-shown context w p shows);
      before_taking = λ counted none. absurd (omega arith);
      no_stop =
          let first : drop (length p.outcomes) (product_with context.placement.role context.orders p 0) ≡ row ∷ later =
          ap (λ constants. drop (length p.outcomes) (product context.placement.role p.taken constants)) (append-nil p.constants) ∙ sym shows.pending ∙ pending in
          let passed : pass_by context.orders.when p.restraint.waved (row ∷ []) ≡ true =
          first-passes context.orders.when p.restraint.waved row (rw (shows.restraint, shows.when) at by_it) in
          subst (λ l. pass_by context.orders.when p.restraint.waved (take 1 l) ≡ true) (sym first) passed;
    }

pub shows-row_emitted : (counted : Bool) (context : Context) (w : WorkerState) (p : Position) (row : List Value) (later : List (List Value)) (outs : List Downstream)
    → context.orders.counted ≡ counted → Shows context w p → w.pending ≡ row ∷ later → IsHandedOn (number_to w.route row) row w.outs outs → IsWorking w
    → Shows context (row_emitted counted later outs w) (with_rows context.orders 0 1 p)
shows-row_emitted counted context w p row later outs armed shows pending handed works =
    let left : drop (length p.outcomes) (product context.placement.role p.taken p.constants) ≡ row ∷ later = sym shows.pending ∙ pending in
    let produced = left-within (length p.outcomes) (product context.placement.role p.taken p.constants) row later left in
    let no_row : p.constants ++ [] ≡ p.constants = append-nil p.constants in
    let more : length (p.outcomes ++ true ∷ []) ≡ length p.outcomes + 1 = omega (arith, length-append p.outcomes (true ∷ [])) in
    let gone = sum_by_push (λ fate. if is_emitted fate then 1 else 0) p.outcomes true in
    let open_still : p.finished ≡ false = sym shows.finished ∙ works.unfinished in
    record {
      op = shows.op;
      number = shows.number;
      operator_state = shows.operator_state;
      state = rw no_row shows.state;
      columns = shows.columns;
      build_columns = shows.build_columns;
      sides = shows.sides;
      builders = shows.builders;
      building = shows.building;
      when = shows.when;
      rest = rw no_row shows.rest;
      pending = rw (no_row, more) (sym (left-next (length p.outcomes) (product context.placement.role p.taken p.constants) row later left));
      taken = rw no_row shows.taken;
      emitted = let before = shows.emitted in omega arith;
      batches = shows.batches;
      within = rw no_row shows.within;
      produced = rw (no_row, more) produced;
      refused = rw no_row shows.refused;
      kept = rw no_row shows.kept;
      restraint = rw (shows.restraint, armed) refl;
      finished = shows.finished;
      ins = shows.ins;
      outs = rw (no_row, open_still, kept-next (product context.placement.role p.taken p.constants) p.outcomes row later left)
          (send_all-row context.placement context.placement.receivers (emitted_rows context.placement.role p) row context.base.gave w.outs outs (number_to w.route row) (shows.route row)
          (open-outs context w p shows works) handed);
      route = shows.route;
    }

-- wherever a worker stood, it stands once it emitted a row
pub Keeps-row_emitted : (counted : Bool) (w : WorkerState) (row : List Value) (later : List (List Value)) (outs : List Downstream) → w.pending ≡ row ∷ later
    → IsHandedOn (number_to w.route row) row w.outs outs → IsWorking w → HasUnit counted w → lets_by w row ≡ true → KeepsUnder counted w (row_emitted counted later outs w)
unfolding KeepsUnder
Keeps-row_emitted counted w row later outs pending handed works unit by_it context start p armed stands = (
  with_rows context.orders 0 1 p,
  record {
    leads = Leads-go context.placement.role context.orders start w.journal p 0 1 stands.leads (may-emit_row context w p row later stands.shows pending works (λ so. unit (sym armed ∙ so)) by_it);
    text = AreEntries-with_go w.journal 0 1 stands.text works.few refl;
    shows = shows-row_emitted counted context w p row later outs armed stands.shows pending handed works;
  },
)

-- ---- the end

pub may-finish : (context : Context) (w : WorkerState) (p : Position) → Shows context w p → w.rest ≡ [] → w.pending ≡ [] → have_all_ended w.ins ≡ true → IsWorking w
    → MayFinish context.placement.role p
may-finish context w p shows rest pending ended works = record {
  free = free-shown context w p shows works;
  no_rest = sym shows.rest ∙ rest;
  no_pending = sym shows.pending ∙ pending;
  ended = sym (all-ended context.placement.role.senders context.base.had p.taken w.ins shows.ins) ∙ ended;
}

pub shows-all_done : (context : Context) (w : WorkerState) (p : Position) (outs : List Downstream) → Shows context w p → AreEnded w.outs outs → IsWorking w
    → Shows context (all_done outs w) (record p { finished = true })
shows-all_done context w p outs shows ends works = record {
  op = shows.op;
  number = shows.number;
  operator_state = shows.operator_state;
  state = shows.state;
  columns = shows.columns;
  build_columns = shows.build_columns;
  sides = shows.sides;
  builders = shows.builders;
  building = shows.building;
  when = shows.when;
  rest = shows.rest;
  pending = shows.pending;
  taken = shows.taken;
  emitted = shows.emitted;
  batches = shows.batches;
  within = shows.within;
  produced = shows.produced;
  refused = shows.refused;
  kept = shows.kept;
  restraint = shows.restraint;
  finished = refl;
  ins = shows.ins;
  outs = send_all-end context.placement context.placement.receivers (emitted_rows context.placement.role p) context.base.gave w.outs outs (open-outs context w p shows works) ends;
  route = shows.route;
}

-- wherever a worker stood, it stands once it finished
pub Keeps-all_done : (counted : Bool) (w : WorkerState) (outs : List Downstream) → w.rest ≡ [] → w.pending ≡ [] → have_all_ended w.ins ≡ true → AreEnded w.outs outs → IsWorking w
    → KeepsUnder counted w (all_done outs w)
unfolding KeepsUnder
Keeps-all_done counted w outs rest pending ended ends works context start p armed stands = (
  record p { finished = true },
  record {
    leads = Leads-push context.placement.role context.orders start w.journal p entry.Finish (record p { finished = true }) stands.leads
        (no_batch, may-finish context w p stands.shows rest pending ended works, refl);
    text = AreEntries-push false w.journal entry.Finish stands.text tt refl;
    shows = shows-all_done context w p outs stands.shows ends works;
  },
)
