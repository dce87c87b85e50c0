-- The example's filter in mid-batch, on literals: what it shows, which turn comes, which step it has made; each with data that are wrong.
use Rattle.std.proofs.Common.{◌≡◌, ℕ, zero, suc, ◌++◌, pos, List, [], ◌∷◌, All, map, replicate, None, Some, true, false, inl, inr, refl, sym, ap, ◌∙◌, subst, arith}
use Rattle.std.proofs.lemmas.Bool.{false≢true}
use Rattle.rtrb.specs.Ring.{sent}
use Rattle.amber_rows.specs.Chunks.{chunks_of}
use Rattle.amber_rows.specs.Cond.{holds_of}
use Rattle.amber_rows.specs.Lists.{numbers_below}
use Rattle.amber_rows.specs.Suits.{suits_of}
use Rattle.amber_rows.specs.declared.value.Value.TheVariants as value
use Rattle.amber_rows.specs.declared.cond.Cmp.TheVariants as cmp
use Rattle.amber_rows.specs.declared.cond.Cond.{Cond}
use Rattle.amber_rows.specs.declared.flow.What.TheVariants as what
use Rattle.amber_log.specs.declared.entry.Entry.{Entry}
use Rattle.amber_log.specs.declared.entry.Entry.TheVariants as entry
use Rattle.amber_meaning.specs.Position.{Position, Restraint, all_arrivals, have_ended, kept, origin, product, taken_from, no_restraint}
use Rattle.amber_meaning.specs.Produce.{closing, produce, yields}
use Rattle.amber_meaning.specs.Task.{Arrival, Role, is_builder}
use Rattle.amber_link.specs.Links.{come, waiting}
use Rattle.amber_link.specs.Outgoing.{Carries, Outgoing}
use Rattle.amber_link.specs.Sides.{IsLooked}
use Rattle.amber_link.specs.declared.ends.Out.{Out}
use Rattle.amber_link.specs.declared.ends.In.{In}
use Rattle.amber_link.specs.declared.upstreams.Upstream.{Upstream}
use Rattle.amber_link.proofs.Sides.{looked-same, pairwise-refl}
use Rattle.amber_worker.specs.AtPosition.{Context, ReceiveAll, SendAll, Shows, no_base}
use Rattle.amber_operators.specs.Handed.{row_from}
use Rattle.amber_worker.specs.Fields.{rows_moved}
use Rattle.amber_worker.specs.Steps.{with_go}
use Rattle.amber_worker.specs.Turning.{HasTurned, IsNextTurn}
use Rattle.amber_worker.specs.WorkerState.{WorkerState, empty_worker_state}
use Rattle.amber_operators.specs.declared.operator_state.OperatorState.TheVariants as operator_state
use Rattle.amber_worker.specs.declared.route.Route.TheVariants as route
use Rattle.amber_worker.specs.declared.turn.Turn.TheVariants as turn
use Rattle.amber_worker.proofs.ExampleFlow.{numbers}
use Rattle.amber_worker.proofs.ExampleWorkers.{batch_of_five, cell}

-- ---- where the filter stands

-- the numbers that are 2 or more pass
abbrev two_or_more : Cond
two_or_more = record { column = 1; op = cmp.Ge; constant = value.Int (pos 2) }

abbrev role : Role
role = record { task = record { kind = what.Filter 1 two_or_more; columns = numbers; build_columns = []; builders = [] }; senders = 0 ∷ []; share = [] }

-- it is to stop before a 2, and a count is armed
abbrev context : Context
context = record {
  placement = record { op = 2; number = 1; role = role; receivers = 2 ∷ []; route = λ row. 2; batch_size = 400 };
  orders = record { constants = value.Int (pos 2) ∷ []; when = Some (record two_or_more { op = cmp.Eq }); counted = true };
  base = no_base;
}

-- of the rows 3, 1, 2, 5 and 0 it has taken three, of which two have passed, and has emitted one; it stands before the 2, with four units
abbrev place : Position
place = record origin { taken = record { from = 0; batch = batch_of_five } ∷ []; constants = replicate 3 (cell 2); outcomes = true ∷ []; restraint = record no_restraint { hand = 4; held = true } }

-- the ends of its links: the one batch was taken, and the row that was emitted is kept for the next batch
pub record Ends : Type 0 where
  pub into : In
  pub out : Out
  pub come_is : come into ≡ batch_of_five ∷ []
  pub waiting_is : waiting into ≡ []
  pub kept_is : out.kept ≡ record { batch_size = 400; made = 0; ended = false; waiting = []; partial = cell 3 ∷ []; room = 0 }
  pub sent_is : sent out.ring ≡ []

abbrev from : In → Upstream
from link = record { from = 0; builds = false; taken = 1; ended = true; link = link }

-- with no condition in force and no unit
abbrev free : Ends → WorkerState
free e = record empty_worker_state {
  op = 2;
  number = 1;
  operator_state = operator_state.Filter two_or_more;
  columns = numbers;
  rest = row_from 0 (cell 5) ∷ row_from 0 (cell 0) ∷ [];
  pending = cell 2 ∷ [];
  taken = 3;
  emitted = 1;
  batches = 1;
  ins = from e.into ∷ [];
  outs = record { to = 2; link = e.out } ∷ [];
  route = route.One 2;
  journal = entry.Take 0 0 ∷ entry.Go 3 1 ∷ [];
}

abbrev held : Ends → WorkerState
held e = record (free e) { when = Some (record two_or_more { op = cmp.Eq }); restraint = record no_restraint { hand = 4; held = true } }

-- ---- what it shows

module _ (e : Ends) where
  of_no_build_side : All (λ (one : Upstream). one.builds ≡ is_builder role.task one.from) (held e).ins
  of_no_build_side zero d less = refl
  of_no_build_side (suc k) d less = absurd (omega arith)

  rows_of_no_build_side : All (λ (one : Arrival). is_builder role.task one.from ≡ false) (held e).rest
  rows_of_no_build_side zero d less = refl
  rows_of_no_build_side (suc zero) d less = refl
  rows_of_no_build_side (suc (suc k)) d less = absurd (omega arith)

  -- of the rows 3 and 2, that have passed, the first was emitted
  one_is_kept : Carries e.out.kept ([] ++ sent e.out.ring) (cell 3 ∷ [])
  unfolding chunks_of numbers_below
  one_is_kept =
      subst (λ gone. Carries e.out.kept gone (cell 3 ∷ [])) (sym e.sent_is)
      (subst (λ (out : Outgoing). Carries out [] (cell 3 ∷ [])) (sym e.kept_is) (record { some = omega arith; batches = refl; partial = refl; made = λ unended. refl }))

  it_shows_the_place : Shows context (held e) place
  unfolding all_arrivals have_ended product produce yields closing kept taken_from holds_of suits_of ReceiveAll SendAll
  it_shows_the_place = record {
    op = refl;
    number = refl;
    operator_state = refl;
    state = tt;
    columns = refl;
    build_columns = refl;
    sides = of_no_build_side;
    builders = λ sender builds. absurd (false≢true builds);
    building = rows_of_no_build_side;
    when = refl;
    rest = refl;
    pending = refl;
    taken = refl;
    emitted = refl;
    batches = refl;
    within = omega arith;
    produced = omega arith;
    refused = refl;
    kept = refl;
    restraint = refl;
    finished = refl;
    ins = (record { from = refl; taken = refl; ended = refl; come = record { all = e.come_is ∙ ap (λ l. batch_of_five ∷ l) (sym e.waiting_is) } }, refl, tt);
    outs = (
      record { to = refl; batch_size = ap (λ (out : Outgoing). out.batch_size) e.kept_is; over = ap (λ (out : Outgoing). out.ended) e.kept_is; carries = one_is_kept },
      refl,
      tt,
    );
    route = λ row some. refl;
  }

  a_row_that_is_left_out : Shows context (record (held e) { rest = row_from 0 (cell 0) ∷ [] }) place → ⊥
  unfolding all_arrivals
  a_row_that_is_left_out shows = let wrong = shows.rest in cc

  a_pending_row_that_is_gone : Shows context (record (held e) { pending = [] }) place → ⊥
  unfolding all_arrivals have_ended product produce yields closing holds_of suits_of
  a_pending_row_that_is_gone shows = let wrong = shows.pending in cc

  a_row_counted_twice : Shows context (record (held e) { emitted = 2 }) place → ⊥
  a_row_counted_twice shows = let wrong = shows.emitted in absurd (omega arith)

  a_unit_that_is_lost : Shows context (record (held e) { restraint = record no_restraint { hand = 3; held = true } }) place → ⊥
  a_unit_that_is_lost shows = let wrong = ap (λ (r : Restraint). r.hand) shows.restraint in absurd (omega arith)

  a_hold_that_is_over : Shows context (record (held e) { restraint = record no_restraint { hand = 4 } }) place → ⊥
  a_hold_that_is_over shows = false≢true (ap (λ (r : Restraint). r.held) shows.restraint)

  another_condition : Shows context (record (held e) { when = None }) place → ⊥
  another_condition shows = let wrong = shows.when in cc

  a_sender_forgotten : Shows context (record (held e) { ins = [] }) place → ⊥
  unfolding ReceiveAll
  a_sender_forgotten shows = shows.ins

  -- ---- which turn comes

  a_row_is_pending : IsNextTurn (free e) turn.Moved
  a_row_is_pending = record { found = (free e).ins; looked = pairwise-refl IsLooked looked-same (free e).ins; is = refl }

  all_is_over : IsNextTurn (record (free e) { finished = true }) turn.Ended
  all_is_over = record { found = (free e).ins; looked = pairwise-refl IsLooked looked-same (free e).ins; is = refl }

  nobody_is_idle_with_a_pending_row : IsNextTurn (free e) turn.Idle → ⊥
  nobody_is_idle_with_a_pending_row next = let wrong = next.is in cc

  nobody_has_ended_with_a_row_that_is_left : IsNextTurn (record (free e) { pending = [] }) turn.Ended → ⊥
  nobody_has_ended_with_a_row_that_is_left next = let wrong = next.is in cc

  -- ---- which step it has made

  -- the pending row has been emitted
  abbrev before : WorkerState
  before = record (free e) { pending = [] }

  -- the 5 was taken, and passes
  abbrev after : WorkerState
  after = record before { rest = row_from 0 (cell 0) ∷ []; pending = cell 5 ∷ []; taken = 4; journal = entry.Take 0 0 ∷ entry.Go 4 1 ∷ [] }

  it_takes_a_row : HasTurned turn.Moved before after
  unfolding holds_of suits_of with_go
  it_takes_a_row =
      inr (inl (record {
        one = row_from 0 (cell 5);
        later = row_from 0 (cell 0) ∷ [];
        now = operator_state.Filter two_or_more;
        last = [];
        drained = refl;
        first = refl;
        becomes = refl;
        closes = refl;
        after = refl;
      }))

  -- the rows that each entry speaks of
  abbrev moved : List Entry → List ℕ
  moved journal = map rows_moved journal

  -- none of the four steps leaves this journal and as many batches, with nobody finished
  no_step : (new : WorkerState) → (with_go before.journal 1 0 ≡ new.journal → ⊥) → new.batches ≡ 1 → new.finished ≡ false → HasTurned turn.Moved before new → ⊥
  no_step new other batches unfinished (inl emits) = let wrong = emits.first in cc
  no_step new other batches unfinished (inr (inl takes)) = other (sym (ap (λ (w : WorkerState). w.journal) takes.after))
  no_step new other batches unfinished (inr (inr (inl takes))) = let wrong = ap (λ (w : WorkerState). w.batches) takes.after in absurd (omega arith)
  no_step new other batches unfinished (inr (inr (inr finishes))) = false≢true (sym unfinished ∙ ap (λ (w : WorkerState). w.finished) finishes.finishes.after)

  a_pause_of_its_own_is_no_step : HasTurned turn.Moved before (record after { journal = entry.Take 0 0 ∷ entry.Go 4 1 ∷ entry.Pause ∷ entry.Resume ∷ [] }) → ⊥
  unfolding with_go
  a_pause_of_its_own_is_no_step = no_step (record after { journal = entry.Take 0 0 ∷ entry.Go 4 1 ∷ entry.Pause ∷ entry.Resume ∷ [] }) (λ same. cc) refl refl

  two_rows_are_no_step : HasTurned turn.Moved before (record after { taken = 5; journal = entry.Take 0 0 ∷ entry.Go 5 1 ∷ [] }) → ⊥
  unfolding with_go
  two_rows_are_no_step = no_step (record after { taken = 5; journal = entry.Take 0 0 ∷ entry.Go 5 1 ∷ [] }) (λ same. let wrong = ap moved same in cc) refl refl

  a_turn_that_only_looks_is_no_step : HasTurned turn.Moved before before → ⊥
  unfolding with_go
  a_turn_that_only_looks_is_no_step = no_step before (λ same. let wrong = ap moved same in cc) refl refl

  nobody_idles_with_a_row_that_is_left : HasTurned turn.Idle before before → ⊥
  nobody_idles_with_a_row_that_is_left idle = let wrong = idle.idle in cc
