-- What a worker becomes that did a line which takes rows, and when it may not.
use Rattle.std.proofs.Common.{◌≡◌, ℕ, zero, suc, ◌+◌, eqb, ◌&&◌, List, [], ◌∷◌, ◌++◌, take, drop, Option, Some, None, Bool, true, false, refl, sym, ap, ◌∙◌, add-one, subst}
use Rattle.std.proofs.lemmas.Bool.{false≢true}
use Rattle.std.proofs.lemmas.List.{append-nil}
use Rattle.amber_rows.specs.declared.value.Value.{Value}
use Rattle.amber_rows.specs.declared.column.Column.{Column}
use Rattle.amber_log.specs.declared.entry.Entry.{Entry}
use Rattle.amber_log.specs.declared.entry.Entry.TheVariants as entry
use Rattle.amber_meaning.specs.Refused.{refused_in}
use Rattle.amber_meaning.specs.Task.{Arrival, row_in}
use Rattle.amber_meaning.specs.declared.answer.Refusal.{Refusal}
use Rattle.amber_link.specs.declared.downstreams.Downstream.{Downstream}
use Rattle.amber_worker.specs.Emitting.{EmitsMany}
use Rattle.amber_operators.specs.Handed.{arrivals_in}
use Rattle.amber_worker.specs.Links.{IsHandedOn, OutputSide, number_to}
use Rattle.amber_operators.specs.ReadiedRows.{AreReadied, FeedsReadied, IsUnfed, Reading}
use Rattle.amber_worker.specs.RedoneRows.{StandingBy, offer_to, AreHandedOn, BecomesTaking, MayGoFrom, MayGoOn, MayNotGo, TakesLine, ends_with, offered, yielded}
use Rattle.amber_operators.specs.Kept.{keeps_still, Closes, is_group}
use Rattle.amber_operators.specs.States.{Becomes}
use Rattle.amber_operators.specs.ManyRows.{BecomesWith, kept_by}
use Rattle.amber_operators.specs.Keeping.{built_with}
use Rattle.amber_worker.specs.Steps.{columns_at_hand}
use Rattle.amber_worker.specs.WorkerState.{WorkerState}
use Rattle.amber_operators.specs.declared.operator_state.OperatorState.{OperatorState}
use Rattle.amber_operators.specs.declared.operator_state.OperatorState.TheVariants as operator_state
use Rattle.amber_operators.specs.declared.readied_rows.ReadiedRows.{ReadiedRows}
use Rattle.amber_operators.specs.declared.readied_rows.ReadiedRows.TheVariants as readied_rows
use Rattle.amber_worker.specs.declared.redone_rows.RowsLine.{RowsLine}
use Rattle.amber_worker.specs.declared.route.Route.{Route}
use Rattle.amber_operators.specs.declared.taking_rows.Rest.{Rest}
use Rattle.amber_operators.proofs.Lists.{left-next, take-next}
use Rattle.amber_operators.proofs.ReadiedFacts.{plain-still}

-- ---- a worker that keeps no groups

one-apart : (d next : OperatorState) (builds : Bool) (found : Option (List Value)) → Becomes d builds found next → is_group d ≡ false → is_group next ≡ false
one-apart operator_state.Scan next builds found becomes apart = ap is_group becomes
one-apart (operator_state.Filter cond) next builds found becomes apart = ap is_group becomes
one-apart (operator_state.Project from) next builds found becomes apart = ap is_group becomes
one-apart (operator_state.Join state) next builds found becomes apart = ap is_group becomes
one-apart (operator_state.Group state) next builds found becomes apart = absurd (false≢true (sym apart))
one-apart operator_state.Sink next builds found becomes apart = ap is_group becomes

stays-apart : (d now : OperatorState) (builds : Bool) (columns : List Column) (arrivals : List Arrival) → BecomesWith d builds columns arrivals now → is_group d ≡ false → is_group now ≡ false
unfolding BecomesWith
stays-apart d now builds columns [] becomes apart = ap is_group becomes ∙ apart
stays-apart d now builds columns (one ∷ more) (next, becomes, later) apart = stays-apart next now builds columns more later (one-apart d next builds (row_in columns one.what) becomes apart)

one-becomes : (d : OperatorState) (builds : Bool) (found : Option (List Value)) → is_group d ≡ false → (next : OperatorState) × Becomes d builds found next
one-becomes operator_state.Scan builds found apart = (operator_state.Scan, refl)
one-becomes (operator_state.Filter cond) builds found apart = (operator_state.Filter cond, refl)
one-becomes (operator_state.Project from) builds found apart = (operator_state.Project from, refl)
one-becomes (operator_state.Join state) builds found apart = (operator_state.Join (built_with builds found state), refl)
one-becomes (operator_state.Group state) builds found apart = absurd (false≢true (sym apart))
one-becomes operator_state.Sink builds found apart = (operator_state.Sink, refl)

-- it becomes something
some-becomes : (d : OperatorState) (builds : Bool) (columns : List Column) (arrivals : List Arrival) → is_group d ≡ false → (now : OperatorState) × BecomesWith d builds columns arrivals now
unfolding BecomesWith
some-becomes d builds columns [] apart = (d, refl)
some-becomes d builds columns (one ∷ more) apart =
    let first = one-becomes d builds (row_in columns one.what) apart in
    let later = some-becomes first.0 builds columns more (one-apart d first.0 builds (row_in columns one.what) first.1 apart) in
    (later.0, (first.0, first.1, later.1))

closes-nothing : (d : OperatorState) (over : Bool) → is_group d ≡ false → Closes d over []
closes-nothing operator_state.Scan over apart = refl
closes-nothing (operator_state.Filter cond) over apart = refl
closes-nothing (operator_state.Project from) over apart = refl
closes-nothing (operator_state.Join state) over apart = refl
closes-nothing (operator_state.Group state) over apart = absurd (false≢true (sym apart))
closes-nothing operator_state.Sink over apart = refl

still-becomes : (d : OperatorState) (builds : Bool) (found : Option (List Value)) → keeps_still d builds ≡ true → Becomes d builds found d
still-becomes operator_state.Scan builds found still = refl
still-becomes (operator_state.Filter cond) builds found still = refl
still-becomes (operator_state.Project from) builds found still = refl
still-becomes (operator_state.Join state) true found still = absurd (false≢true still)
still-becomes (operator_state.Join state) false None still = refl
still-becomes (operator_state.Join state) false (Some row) still = refl
still-becomes (operator_state.Group state) builds found still = absurd (false≢true still)
still-becomes operator_state.Sink builds found still = refl

-- rows of a side that changes nothing
stays-itself : (d : OperatorState) (builds : Bool) (columns : List Column) (arrivals : List Arrival) → keeps_still d builds ≡ true → BecomesWith d builds columns arrivals d
unfolding BecomesWith
stays-itself d builds columns [] still = refl
stays-itself d builds columns (one ∷ more) still = (d, still-becomes d builds (row_in columns one.what) still, stays-itself d builds columns more still)

unfed-becomes : (how : Reading) (before now : Rest) (state : OperatorState) → keeps_still how.state how.builds ≡ true → IsUnfed how before now state
    → BecomesWith how.state how.builds how.columns (take how.count (arrivals_in before)) state
unfed-becomes how before now state still unfed =
    subst (λ (d : OperatorState). BecomesWith how.state how.builds how.columns (take how.count (arrivals_in before)) d) (sym unfed.state_so)
    (stays-itself how.state how.builds how.columns (take how.count (arrivals_in before)) still)

-- what is kept once what is ready was fed
pub fed-becomes : (how : Reading) (before now : Rest) (state : OperatorState) (readied : ReadiedRows) → AreReadied how before readied → FeedsReadied how before now state readied
    → BecomesWith how.state how.builds how.columns (take how.count (arrivals_in before)) state
fed-becomes how before now state (readied_rows.Records first made) ready fed = unfed-becomes how before now state (ap (λ d. keeps_still d how.builds) ready.scan) fed
fed-becomes how before now state (readied_rows.Rows fates) ready fed = unfed-becomes how before now state (plain-still how.state how.builds ready.plain) fed
fed-becomes how before now state readied_rows.Kept ready fed = unfed-becomes how before now state (ap (λ d. keeps_still d how.builds) ready.sink) fed
fed-becomes how before now state (readied_rows.Made made) ready fed = unfed-becomes how before now state ready.still fed
fed-becomes how before now state readied_rows.Built ready fed = fed.becomes

-- how the rows at hand are read, and what stands by
abbrev pub reading_of : RowsLine → WorkerState → Reading
reading_of line w = record { count = line.rows; columns = columns_at_hand w; builds = w.building; state = w.operator_state }

abbrev pub waiting_of : WorkerState → StandingBy
waiting_of w = record { pending = w.pending; when = w.when; waved = w.restraint.waved }

same-offer : (w : WorkerState) (line : RowsLine) → offer_to (reading_of line w) w.rest (waiting_of w) ≡ offered [] line.rows w
same-offer w line = λ i. record (offered [] line.rows w) { made = sym (append-nil (yielded line.rows w)) i }

-- a line may not be done
pub may-not : (w : WorkerState) (line : RowsLine) → is_group w.operator_state ≡ false → (MayGoOn line (offer_to (reading_of line w) w.rest (waiting_of w)) → ⊥) → MayNotGo line w
may-not w line apart never =
    let becomes = some-becomes w.operator_state w.building (columns_at_hand w) (take line.rows w.rest) apart in
    record {
      last = [];
      gives = record {
        none = λ e. refl;
        some = λ e. (becomes.0, becomes.1, closes-nothing becomes.0 true (stays-apart w.operator_state becomes.0 w.building (columns_at_hand w) (take line.rows w.rest) becomes.1 apart));
      };
      never = λ may. never (subst (MayGoOn line) (sym (same-offer w line)) may);
    }

-- what is left was read ahead alone
pub same-rest : (w now : WorkerState) (rest : List Arrival) → rest ≡ w.rest → w ≡ now → record w { rest = rest } ≡ now
same-rest w now rest same is = ap (λ l. record w { rest = l }) same ∙ is

-- ---- rows are handed on

handed-push : (to : Route) (rows : List (List Value)) (row : List Value) (outs between after : List Downstream) → AreHandedOn to rows outs between → IsHandedOn (number_to to row) row between after
    → AreHandedOn to (rows ++ row ∷ []) outs after
unfolding AreHandedOn
handed-push to [] row outs between after handed one = (after, subst (λ l. IsHandedOn (number_to to row) row l after) (sym handed) one, refl)
handed-push to (first ∷ rows) row outs between after (next, handed, more) one = (next, handed, handed-push to rows row next between after more one)

pub record AreGone (to : Route) (n : ℕ) (old new : OutputSide) : Type 0 where
  pub pending : new.pending ≡ drop n old.pending
  pub handed : AreHandedOn to (take n old.pending) old.outs new.outs

gone-more : (to : Route) (n : ℕ) (old between new : OutputSide) (row : List Value) → AreGone to n old between → between.pending ≡ row ∷ new.pending → IsHandedOn (number_to to row) row between.outs new.outs
    → AreGone to (n + 1) old new
gone-more to n old between new row gone first handed =
    let left : drop n old.pending ≡ row ∷ new.pending = sym gone.pending ∙ first in
    record {
      pending = sym (left-next n old.pending row new.pending left);
      handed = subst (λ l. AreHandedOn to l old.outs new.outs) (sym (take-next n old.pending row new.pending left)) (handed-push to (take n old.pending) row old.outs between.outs new.outs gone.handed handed);
    }

-- so many were handed on, one after the other
gone-many : (to : Route) (n : ℕ) (old new : OutputSide) → EmitsMany to n old new → AreGone to n old new
unfolding EmitsMany AreHandedOn
gone-many to zero old new emits = record { pending = ap (λ (side : OutputSide). side.pending) emits; handed = ap (λ (side : OutputSide). side.outs) (sym emits) }
gone-many to (suc n) old new (between, emits, one) =
    subst (λ k. AreGone to k old new) (add-one n) (gone-more to n old between new one.row (gone-many to n old between emits) one.first one.handed)

-- ---- the line was done

-- nothing is given at the end
pub apart-closes : (w : WorkerState) (line : RowsLine) (now : OperatorState) → is_group w.operator_state ≡ false → BecomesTaking line.rows w now → Closes now (ends_with line.rows w) []
apart-closes w line now apart becomes =
    closes-nothing now (ends_with line.rows w) (stays-apart w.operator_state now w.building (columns_at_hand w) (take line.rows w.rest) becomes apart)

pub apart-may : (w : WorkerState) (line : RowsLine) → MayGoOn line (offer_to (reading_of line w) w.rest (waiting_of w)) → MayGoFrom line [] w
apart-may w line may = subst (MayGoOn line) (same-offer w line) may

pub apart-filled : (w : WorkerState) (line : RowsLine) (filled : List (List Value)) → filled ≡ w.pending ++ yielded line.rows w → filled ≡ w.pending ++ (yielded line.rows w ++ [])
apart-filled w line filled is = is ∙ ap (λ l. w.pending ++ l) (sym (append-nil (yielded line.rows w)))

pub goes-on : (w : WorkerState) (line : RowsLine) (now : OperatorState) (last : List (List Value)) (rest : List Arrival) (refused : List Refusal) (kept filled pending : List (List Value)) (outs written : List Downstream) (journal : List Entry) (waved : Bool)
    → BecomesTaking line.rows w now → Closes now (ends_with line.rows w) last → MayGoFrom line last w
    → rest ≡ drop line.rows w.rest → filled ≡ w.pending ++ (yielded line.rows w ++ last) → refused ≡ w.refused ++ refused_in w.op (take line.rows w.rest)
    → kept ≡ w.kept ++ kept_by w.operator_state (columns_at_hand w) (take line.rows w.rest)
    → EmitsMany w.route line.outs (record { pending = filled; outs = w.outs }) (record { pending = pending; outs = outs }) → written ≡ outs
    → journal ≡ w.journal ++ entry.Go line.rows line.outs ∷ [] → waved ≡ (w.restraint.waved && eqb line.outs 0)
    → TakesLine line w (record w {
      operator_state = now;
      rest = rest;
      pending = pending;
      taken = w.taken + line.rows;
      emitted = w.emitted + line.outs;
      refused = refused;
      kept = kept;
      restraint = record w.restraint { waved = waved };
      outs = written;
      journal = journal;
    })
goes-on w line now last rest refused kept filled pending outs written journal waved becomes closes may rest_is filled_is refused_is kept_is emits written_is journal_is waved_is =
    let gone = gone-many w.route line.outs (record { pending = filled; outs = w.outs }) (record { pending = pending; outs = outs }) emits in
    let pending_is : pending ≡ drop line.outs (w.pending ++ (yielded line.rows w ++ last)) = gone.pending ∙ ap (drop line.outs) filled_is in
    record {
      now = now;
      becomes = becomes;
      last = last;
      closes = closes;
      may = may;
      outs = outs;
      handed = subst (λ l. AreHandedOn w.route (take line.outs l) w.outs outs) filled_is gone.handed;
      after = λ i. record w {
        operator_state = now;
        rest = rest_is i;
        pending = pending_is i;
        taken = w.taken + line.rows;
        emitted = w.emitted + line.outs;
        refused = refused_is i;
        kept = kept_is i;
        restraint = record w.restraint { waved = waved_is i };
        outs = written_is i;
        journal = journal_is i;
      };
    }
