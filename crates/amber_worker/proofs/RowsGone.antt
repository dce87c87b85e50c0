-- A worker that took rows and emitted rows stands where that leads.
use Rattle.std.proofs.Common.{◌≡◌, ℕ, suc, ◌+◌, ◌≤◌, List, [], ◌∷◌, ◌++◌, length, take, drop, replicate, Option, Some, None, Bool, true, false, refl, sym, ap, ◌∙◌, arith, length-append, subst}
use Rattle.std.proofs.lemmas.Grind.{flat_map-append}
use Rattle.std.proofs.lemmas.List.{drop-drop, length-replicate}
use Rattle.std.proofs.lemmas.List.Elements.{All-drop, filter_map-append}
use Rattle.amber_rows.specs.declared.value.Value.{Value}
use Rattle.amber_rows.specs.declared.column.Column.{Column}
use Rattle.amber_rows.specs.declared.flow.What.{What}
use Rattle.amber_rows.specs.declared.flow.What.TheVariants as what
use Rattle.amber_meaning.specs.Kinds.{kept_rows}
use Rattle.amber_meaning.specs.Position.{Position, all_arrivals, emitted_rows, kept, product}
use Rattle.amber_meaning.specs.Refused.{refusal_in, refused_in}
use Rattle.amber_meaning.specs.Rules.{product_with, restraint_used, with_rows}
use Rattle.amber_meaning.specs.Task.{Arrival, Role, Task, columns_from, is_builder, row_in, rows_in, suiting}
use Rattle.amber_meaning.specs.Views.{taken_of}
use Rattle.amber_link.specs.declared.downstreams.Downstream.{Downstream}
use Rattle.amber_worker.specs.AtPosition.{Context, SendAll, Shows, output_at}
use Rattle.amber_operators.specs.Kept.{Closes, keeps}
use Rattle.amber_operators.specs.Kept.{KeepsRows}
use Rattle.amber_operators.specs.States.{DoesKind}
use Rattle.amber_worker.specs.RedoneRows.{AreHandedOn, BecomesTaking, IsGivenLast, MayGoFrom, ends_with, rows_gone, yielded}
use Rattle.amber_operators.specs.ManyRows.{kept_by}
use Rattle.amber_worker.specs.Steps.{columns_at_hand}
use Rattle.amber_operators.specs.RowsTaken.{keeps_if}
use Rattle.amber_worker.specs.WorkerState.{WorkerState}
use Rattle.amber_operators.specs.declared.operator_state.OperatorState.{OperatorState}
use Rattle.amber_operators.specs.declared.operator_state.OperatorState.TheVariants as operator_state
use Rattle.amber_worker.specs.declared.redone_rows.RowsLine.{RowsLine}
use Rattle.amber_worker.proofs.Produced.{kept-longer}
use Rattle.amber_operators.proofs.ReadiedFacts.{flat-none}
use Rattle.amber_worker.proofs.RowsSent.{emitted-rows, kept-rows, send_all-rows}
use Rattle.amber_worker.proofs.RowsYielded.{AreOfSide, does-taking, has-taking, made-length, of-side, pending-length, pending-more, produced-more, rest-length, taken-more}
use Rattle.amber_worker.proofs.Sent.{unended}

-- ---- the rows that are kept for the answer

nothing-kept : (d : OperatorState) (columns : List Column) (arrivals : List Arrival) → ((row : List Value) → keeps d row ≡ []) → kept_by d columns arrivals ≡ []
nothing-kept d columns arrivals none = flat-none (λ (one : Arrival). keeps_if d (row_in columns one.what)) (λ one. by (row_in columns one.what)) arrivals
  where
    by : (o : Option (List Value)) → keeps_if d o ≡ []
    by None = refl
    by (Some row) = none row

sink-kept : (task : Task) (builds : Bool) (columns : List Column) (arrivals : List Arrival) → AreOfSide task builds columns arrivals → kept_by operator_state.Sink columns arrivals ≡ rows_in task arrivals
sink-kept task builds columns [] are = refl
sink-kept task builds columns (one ∷ later) are =
    let more : kept_by operator_state.Sink columns later ≡ rows_in task later = sink-kept task builds columns later (record { side = λ k d less. are.side (suc k) d (omega arith); same = are.same }) in
    let same : columns_from task one.from ≡ columns = are.same one.from (are.side 0 one (omega arith)) in
    ap (λ (c : List Column). keeps_if operator_state.Sink (row_in c one.what) ++ kept_by operator_state.Sink columns later) (sym same)
    ∙ ap (λ l. keeps_if operator_state.Sink (suiting task one) ++ l) more
    ∙ by (suiting task one) refl
  where
    by : (o : Option (List Value)) → suiting task one ≡ o → keeps_if operator_state.Sink o ++ rows_in task later ≡ rows_in task (one ∷ later)
    by None e = rw e refl
    by (Some row) e = rw e refl

-- what is kept for the answer, with more that was taken
kept-taking : (d : OperatorState) (task : Task) (kind : What) (constants : List Value) (role : Role) (builds : Bool) (columns : List Column) (before arrivals : List Arrival)
    → DoesKind d kind constants role → AreOfSide task builds columns arrivals → kept_rows kind task (before ++ arrivals) ≡ kept_rows kind task before ++ kept_by d columns arrivals
kept-taking operator_state.Scan task (what.Scan file) constants role builds columns before arrivals does are = sym (nothing-kept operator_state.Scan columns arrivals (λ row. refl))
kept-taking (operator_state.Filter cond) task (what.Filter input own) constants role builds columns before arrivals does are = sym (nothing-kept (operator_state.Filter cond) columns arrivals (λ row. refl))
kept-taking (operator_state.Project from) task (what.Project input own) constants role builds columns before arrivals does are = sym (nothing-kept (operator_state.Project from) columns arrivals (λ row. refl))
kept-taking (operator_state.Join state) task (what.Join b p build_keys probe_keys) constants role builds columns before arrivals does are = sym (nothing-kept (operator_state.Join state) columns arrivals (λ row. refl))
kept-taking (operator_state.Group state) task (what.Group input keys aggs) constants role builds columns before arrivals does are = sym (nothing-kept (operator_state.Group state) columns arrivals (λ row. refl))
kept-taking operator_state.Sink task (what.Sink input) constants role builds columns before arrivals does are =
    filter_map-append (suiting task) before arrivals ∙ ap (λ l. rows_in task before ++ l) (sym (sink-kept task builds columns arrivals are))
kept-taking d task kind constants role builds columns before arrivals does are = absurd does

-- ---- the position

-- none is given but at the end
gives-no : (d : OperatorState) (last : List (List Value)) → Closes d false last → last ≡ []
gives-no operator_state.Scan last closes = closes
gives-no (operator_state.Filter cond) last closes = closes
gives-no (operator_state.Project from) last closes = closes
gives-no (operator_state.Join state) last closes = closes
gives-no (operator_state.Group state) last closes = closes
gives-no operator_state.Sink last closes = closes

-- what was given at the end is what is
pub given-so : (rows : ℕ) (w : WorkerState) (now : OperatorState) (last : List (List Value)) → BecomesTaking rows w now → Closes now (ends_with rows w) last → IsGivenLast rows w last
given-so rows w now last becomes closes = record {
  none = λ e. gives-no now last (subst (λ b. Closes now b last) e closes);
  some = λ e. (now, becomes, subst (λ b. Closes now b last) e closes);
}

module _ (context : Context) (w : WorkerState) (p : Position) (line : RowsLine) (now : OperatorState) (last : List (List Value)) (outs : List Downstream)
    (shows : Shows context w p) (becomes : BecomesTaking line.rows w now) (given : IsGivenLast line.rows w last) (may : MayGoFrom line last w)
    (unfinished : w.finished ≡ false) (handed : AreHandedOn w.route (take line.outs (w.pending ++ (yielded line.rows w ++ last))) w.outs outs) where
  abbrev role : Role
  role = context.placement.role

  abbrev constants : List (List Value)
  constants = p.constants ++ replicate line.rows context.orders.constants

  constants-length : length constants ≡ length p.constants + line.rows
  constants-length = length-append p.constants (replicate line.rows context.orders.constants) ∙ ap (λ n. length p.constants + n) (length-replicate line.rows context.orders.constants)

  outcomes-length : length (p.outcomes ++ replicate line.outs true) ≡ length p.outcomes + line.outs
  outcomes-length = length-append p.outcomes (replicate line.outs true) ∙ ap (λ n. length p.outcomes + n) (length-replicate line.outs true)

  produced-within : length p.outcomes + line.outs ≤ length (product_with role context.orders p line.rows)
  produced-within =
      let made = made-length context w p shows line.rows last may.fits.within given in
      let pending = pending-length context w p shows in
      let outcomes : length p.outcomes ≤ length (product role p.taken p.constants) = shows.produced in
      let produced = may.fits.produced in
      omega (arith, made, pending, outcomes, produced)

  now-taken : take (length constants) (all_arrivals role p.taken) ≡ taken_of role p ++ take line.rows w.rest
  now-taken = ap (λ n. take n (all_arrivals role p.taken)) constants-length ∙ taken-more context w p shows line.rows may.fits.within

  -- the rows that were emitted then
  now-emitted : emitted_rows role (with_rows context.orders line.rows line.outs p) ≡ emitted_rows role p ++ take line.outs (w.pending ++ (yielded line.rows w ++ last))
  now-emitted =
      kept-rows (product_with role context.orders p line.rows) p.outcomes line.outs produced-within
      ∙ ap (λ l. kept (product_with role context.orders p line.rows) p.outcomes ++ take line.outs l) (pending-more context w p shows line.rows last may.fits.within given)
      ∙ ap (λ l. l ++ take line.outs (w.pending ++ (yielded line.rows w ++ last)))
      (ap (λ l. kept l p.outcomes) (produced-more context w p shows line.rows last may.fits.within given) ∙ kept-longer (product role p.taken p.constants) (yielded line.rows w ++ last) p.outcomes shows.produced)

  -- the receivers then
  now-sent : SendAll context.placement context.placement.receivers (output_at context (with_rows context.orders line.rows line.outs p)) outs
  now-sent =
      let open_still : p.finished ≡ false = sym shows.finished ∙ unfinished in
      let P : Bool → Type 0 = λ ended. SendAll context.placement context.placement.receivers (record (output_at context p) { ended = ended }) w.outs in
      let Q : Bool → Type 0 = λ ended. SendAll context.placement context.placement.receivers (record (output_at context (with_rows context.orders line.rows line.outs p)) { ended = ended }) outs in
      let R : List (List Value) → Type 0 = λ rows. SendAll context.placement context.placement.receivers (unended rows context.base.gave) outs in
      subst Q (sym open_still) (subst R (sym now-emitted)
      (send_all-rows context.placement context.placement.receivers (emitted_rows role p) (take line.outs (w.pending ++ (yielded line.rows w ++ last))) context.base.gave w.outs outs w.route
      shows.route (subst P open_still shows.outs) handed))

  -- the worker stands there, with what is left of the hand
  pub shows-rows_gone : Shows context (record (rows_gone line now last outs w) { restraint = restraint_used context.orders.counted line.outs w.restraint }) (with_rows context.orders line.rows line.outs p)
  shows-rows_gone =
      let within = may.fits.within in
      let left = rest-length context w p shows in
      let inside = shows.within in
      let P : List Arrival → Type 0 = λ l. KeepsRows now role.task l in
      record {
        op = shows.op;
        number = shows.number;
        operator_state = does-taking context w p shows line.rows now becomes;
        state = subst P (ap (λ n. take n (all_arrivals role p.taken)) (sym constants-length)) (has-taking context w p shows line.rows now within becomes);
        columns = shows.columns;
        build_columns = shows.build_columns;
        sides = shows.sides;
        builders = shows.builders;
        building = All-drop (λ one. is_builder role.task one.from ≡ w.building) line.rows w.rest shows.building;
        when = shows.when;
        rest = ap (drop line.rows) shows.rest ∙ drop-drop line.rows (length p.constants) (all_arrivals role p.taken) ∙ ap (λ n. drop n (all_arrivals role p.taken)) (sym constants-length);
        pending =
            ap (drop line.outs) (sym (pending-more context w p shows line.rows last within given))
            ∙ drop-drop line.outs (length p.outcomes) (product_with role context.orders p line.rows)
            ∙ ap (λ n. drop n (product_with role context.orders p line.rows)) (sym outcomes-length);
        taken = omega (arith, shows.taken, constants-length);
        emitted = ap (λ n. n + line.outs) shows.emitted ∙ sym (emitted-rows p.outcomes line.outs);
        batches = shows.batches;
        within = omega (arith, constants-length, within, left, inside);
        produced = omega (arith, outcomes-length, produced-within);
        refused =
            ap (λ l. l ++ refused_in w.op (take line.rows w.rest)) shows.refused
            ∙ ap (λ n. refused_in context.placement.op (taken_of role p) ++ refused_in n (take line.rows w.rest)) shows.op
            ∙ sym (ap (refused_in context.placement.op) now-taken ∙ flat_map-append (λ one. refusal_in context.placement.op one.from one.what) (taken_of role p) (take line.rows w.rest));
        kept =
            ap (λ l. l ++ kept_by w.operator_state (columns_at_hand w) (take line.rows w.rest)) shows.kept
            ∙ sym (ap (kept_rows role.task.kind role.task) now-taken
            ∙ kept-taking w.operator_state role.task role.task.kind context.orders.constants role w.building (columns_at_hand w) (taken_of role p) (take line.rows w.rest) shows.operator_state
            (of-side context w p shows line.rows));
        restraint = ap (restraint_used context.orders.counted line.outs) shows.restraint;
        finished = shows.finished;
        ins = shows.ins;
        outs = now-sent;
        route = shows.route;
      }
