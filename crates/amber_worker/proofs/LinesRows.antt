-- Rows that are taken again, many in one line, where they may be and not elsewhere.
use Rattle.std.proofs.Common.{◌≡◌, ℕ, ◌-◌, eqb, ◌&&◌, List, [], ◌∷◌, ◌++◌, take, Option, Some, None, Result, Ok, Err, Bool, true, false, if◌then◌else◌, refl, sym, ap, ◌∙◌, arith, subst}
use Rattle.std.specs.Option.{IfSome, is_some}
use Rattle.std.specs.Result.{IfOk}
use Rattle.std.proofs.lemmas.Bool.{true≢false}
use Rattle.amber_rows.specs.declared.value.Value.{Value}
use Rattle.amber_rows.specs.declared.column.Column.{Column}
use Rattle.amber_log.specs.Grammar.{AreEntries, IsEntry, is_go}
use Rattle.amber_log.specs.declared.entry.Entry.{Entry}
use Rattle.amber_log.specs.declared.entry.Entry.TheVariants as entry
use Rattle.amber_meaning.specs.Position.{Position, Restraint}
use Rattle.amber_meaning.specs.Rules.{IsFree, restraint_used, with_rows}
use Rattle.amber_meaning.specs.Task.{Arrival, row_in}
use Rattle.amber_meaning.proofs.Led.{Leads-push, no_batch}
use Rattle.amber_link.specs.Sides.{AreSameReceivers, IsLooked}
use Rattle.amber_link.specs.declared.downstreams.Downstream.{Downstream}
use Rattle.amber_link.proofs.SameEnds.{receivers-same, receivers-then, senders-same}
use Rattle.amber_link.proofs.Sides.{looked-same, pairwise-refl}
use Rattle.amber_worker.specs.AtPosition.{Context, Shows}
use Rattle.amber_worker.specs.Links.{number_to}
use Rattle.amber_worker.specs.Redoing.{CannotRedo, HasRedone, LogLine, NeverMeets, Redoes, StandsAfterLine, before_line, hand_before, log_line, with_hand}
use Rattle.amber_worker.specs.RedoneRows.{AreHandedOn, GoesOrNot, MayNotGo, TakesLine, rows_gone}
use Rattle.amber_operators.specs.ManyRows.{BecomesWith}
use Rattle.amber_worker.specs.Steps.{columns_at_hand}
use Rattle.amber_operators.specs.States.{constants_in}
use Rattle.amber_worker.specs.WorkerState.{IsUnrestrained, WorkerState, stands_still}
use Rattle.amber_operators.specs.declared.operator_state.OperatorState.{OperatorState}
use Rattle.amber_worker.specs.declared.redoing.Armed.{Armed}
use Rattle.amber_worker.specs.declared.redone_rows.RowsLine.{RowsLine}
use Rattle.amber_worker.specs.declared.route.Route.{Route}
use Rattle.amber_worker.proofs.Apart.{shows-apart}
use Rattle.amber_worker.proofs.Bridge.{IsArmedSo, may-go, may-go-back}
use Rattle.amber_worker.proofs.LinesNoted.{cannot-redo, free-still}
use Rattle.amber_worker.proofs.RowsGone.{given-so, shows-rows_gone}
use Rattle.amber_worker.proofs.Selves.{becomes-constants}
use Rattle.amber_worker.proofs.Turns.{handed-same, looked-none}

-- ---- what stays

-- the constant that rows are compared with
same-constants : (d now : OperatorState) (builds : Bool) (columns : List Column) (arrivals : List Arrival) → BecomesWith d builds columns arrivals now → constants_in now ≡ constants_in d
unfolding BecomesWith
same-constants d now builds columns [] becomes = ap constants_in becomes
same-constants d now builds columns (one ∷ more) (next, becomes, later) = same-constants next now builds columns more later ∙ becomes-constants d next builds (row_in columns one.what) becomes

-- the receivers
handed-ends : (to : Route) (rows : List (List Value)) (outs after : List Downstream) → AreHandedOn to rows outs after → AreSameReceivers outs after
unfolding AreHandedOn
handed-ends to [] outs after handed = subst (λ l. AreSameReceivers outs l) handed (receivers-same outs)
handed-ends to (row ∷ rows) outs after (next, first, more) = receivers-then outs next after (handed-same (number_to to row) row outs next first) (handed-ends to rows next after more)

-- ---- the hand

armed-so : (counted : Bool) (armed : Option Armed) (rows outs : ℕ) (w : WorkerState) → counted ≡ is_some armed → IsArmedSo counted (record { rows = rows; outs = outs; armed = armed }) (with_hand (hand_before armed) w)
armed-so counted armed rows outs w so = record { counted_so = so; hand = by armed }
  where
    by : (a : Option Armed) → IfSome a (λ (armed : Armed). hand_before a ≡ armed.hand)
    by None = tt
    by (Some armed) = refl

-- what is left of it
used-hand : (armed : Option Armed) (counted : Bool) (outs : ℕ) → counted ≡ is_some armed → hand_before armed - outs ≡ (if counted then hand_before armed - outs else hand_before armed)
used-hand None counted outs so = none ∙ sym (ap (λ b. if b then 0 - outs else 0) so)
  where
    none : 0 - outs ≡ 0
    none = omega arith
used-hand (Some armed) counted outs so = sym (ap (λ b. if b then armed.hand - outs else armed.hand) so)

-- ---- the line was done

free-shown : (context : Context) (line : LogLine) (w : WorkerState) (p : Position) → Shows context (before_line line w) p → IsUnrestrained w → IsFree p
free-shown context line w p shows free = record {
  running = ap (λ (r : Restraint). r.paused) (sym shows.restraint) ∙ free.running;
  loose = ap (λ (r : Restraint). r.held) (sym shows.restraint) ∙ free.loose;
  unfinished = sym shows.finished ∙ free.unfinished;
}

module _ (rows outs : ℕ) (armed : Option Armed) (w : WorkerState) (free : IsUnrestrained w) (text : AreEntries false (w.journal ++ entry.Go rows outs ∷ [])) where
  abbrev line : RowsLine
  line = record { rows = rows; outs = outs; armed = armed }

  abbrev again : LogLine
  again = log_line (entry.Go rows outs) armed

  rows-stand : (new : WorkerState) (goes : TakesLine line w new) → StandsAfterLine again w.ins w (rows_gone line goes.now goes.last goes.outs w)
  unfolding StandsAfterLine
  rows-stand new goes context start p counted stands =
      let b = before_line again w in
      let given = given-so rows b goes.now goes.last goes.becomes goes.closes in
      let may = may-go context b p line goes.last stands.shows (armed-so context.orders.counted armed rows outs w counted) given (free-shown context again w p stands.shows free) goes.may in
      let shown = shows-rows_gone context b p line goes.now goes.last goes.outs stands.shows goes.becomes given goes.may free.unfinished goes.handed in
      let after : Restraint = restraint_used context.orders.counted outs p.restraint in
      let used : restraint_used context.orders.counted outs b.restraint ≡ after = ap (restraint_used context.orders.counted outs) stands.shows.restraint in
      let hand : hand_before armed - outs ≡ (if context.orders.counted then hand_before armed - outs else hand_before armed) = used-hand armed context.orders.counted outs counted in (
        record { may = may; there = tt },
        record {
          leads = Leads-push context.placement.role context.orders start w.journal p (entry.Go rows outs) (with_rows context.orders rows outs p) stands.leads (no_batch, may, refl);
          text = text;
          shows = shows-apart context _ _
              (record {
                seat = w.seat;
                restraint = record w.restraint { hand = hand_before armed - outs; waved = w.restraint.waved && eqb outs 0 };
                journal = w.journal ++ entry.Go rows outs ∷ [];
                reserved = w.reserved;
                turned = w.turned;
              })
              after (ap (λ n. record w.restraint { hand = n; waved = w.restraint.waved && eqb outs 0 }) hand ∙ used) shown;
        },
      )

  pub rows-done : (new : WorkerState) → TakesLine line w new → HasRedone again w new
  rows-done new goes = subst (HasRedone again w) (sym goes.after) (record {
    found = w.ins;
    looked = pairwise-refl IsLooked looked-same w.ins;
    stands = rows-stand new goes;
    unarmed = λ none. ap (λ a. hand_before a - outs) none ∙ omega arith;
    journal = refl;
    ends = record { ins = senders-same w.ins; outs = handed-ends w.route _ w.outs goes.outs goes.handed; number = refl; when = refl; route = refl };
    constants = same-constants w.operator_state goes.now w.building (columns_at_hand w) (take rows w.rest) goes.becomes;
    seat = refl;
    reserved = refl;
    turned = refl;
  })

-- ---- the line could not be done

pub rows-cannot : (rows outs : ℕ) (armed : Option Armed) (w new : WorkerState) → MayNotGo (record { rows = rows; outs = outs; armed = armed }) w → new ≡ w
    → CannotRedo (log_line (entry.Go rows outs) armed) w new
unfolding NeverMeets
rows-cannot rows outs armed w new may_not same = record {
  looked = looked-none w new same;
  never = λ context p counted shows meets.
      let b = before_line (log_line (entry.Go rows outs) armed) w in
      may_not.never (may-go-back context b p (record { rows = rows; outs = outs; armed = armed }) may_not.last shows (armed-so context.orders.counted armed rows outs w counted)
      (record { none = may_not.gives.none; some = may_not.gives.some }) meets.may);
}

-- a worker that stands still takes and emits nothing
pub rows-still : (rows outs : ℕ) (armed : Option Armed) (w : WorkerState) → stands_still w ≡ true → CannotRedo (log_line (entry.Go rows outs) armed) w w
unfolding NeverMeets
rows-still rows outs armed w still = cannot-redo (log_line (entry.Go rows outs) armed) w (λ context p counted shows meets.
    true≢false (sym still ∙ free-still context (before_line (log_line (entry.Go rows outs) armed) w) p shows meets.may.free))

-- the line was done, or could not be
pub rows-redone : {E : Type 0} (rows outs : ℕ) (armed : Option Armed) (w : WorkerState) → IsUnrestrained w → AreEntries false (w.journal ++ entry.Go rows outs ∷ []) → (new : WorkerState) (r : Result Bool E)
    → IfOk r (GoesOrNot (record { rows = rows; outs = outs; armed = armed }) w new) → IfOk r (Redoes (log_line (entry.Go rows outs) armed) w new)
rows-redone rows outs armed w free text new (Ok true) goes = rows-done rows outs armed w free text new goes
rows-redone rows outs armed w free text new (Ok false) not = rows-cannot rows outs armed w new not.0 not.1
rows-redone rows outs armed w free text new (Err e) h = tt

-- ---- the entry

-- the last of entries is one
pub last-entry : (gone : Bool) (journal : List Entry) (one : Entry) → AreEntries gone (journal ++ one ∷ []) → IsEntry one
unfolding AreEntries
last-entry gone [] one text = text.0
last-entry gone (first ∷ more) one text = last-entry (is_go first) more one text.2
