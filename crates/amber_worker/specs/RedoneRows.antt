-- A line of a log that takes rows: what these make, when it may be done, and what a worker is then.
use Rattle.std.specs.Prelude.{◌≡◌, ℕ, ◌+◌, ◌-◌, ◌<◌, ◌≤◌, ◌==◌, ◌&&◌, not, List, [], ◌∷◌, ◌++◌, length, take, drop, Option, Bool, true, false, IfSome}
use Rattle.amber_rows.specs.declared.value.Value.{Value}
use Rattle.amber_rows.specs.declared.cond.Cond.{Cond}
use Rattle.amber_log.specs.declared.entry.Entry.TheVariants as entry
use Rattle.amber_meaning.specs.Refused.{refused_in}
use Rattle.amber_meaning.specs.Rules.{pass_by}
use Rattle.amber_meaning.specs.Task.{Arrival}
use Rattle.amber_link.specs.Sides.{have_all_ended}
use Rattle.amber_link.specs.declared.downstreams.Downstream.{Downstream}
use Rattle.amber_worker.specs.Links.{IsHandedOn, number_to}
use Rattle.amber_operators.specs.Kept.{Closes}
use Rattle.amber_worker.specs.Steps.{columns_at_hand}
use Rattle.amber_worker.specs.WorkerState.{WorkerState}
use Rattle.amber_operators.specs.declared.operator_state.OperatorState.{OperatorState}
use Rattle.amber_worker.specs.declared.redone_made.Offering.{Offering}
use Rattle.amber_worker.specs.declared.redone_rows.RowsLine.{RowsLine}
use Rattle.amber_worker.specs.declared.route.Route.{Route}
use Rattle.amber_operators.specs.ReadiedRows.{Reading, yielded_to}
use Rattle.amber_operators.specs.ManyRows.{yielded_by, kept_by, BecomesWith}

-- ---- what rows make

-- ---- when a line may be done

-- the numbers of a line meet the rule, where so many rows are left to be taken, so many are pending or come of all that it takes but for
-- the last, and so many are pending or come of all of it
pub record Fits (line : RowsLine) (left gone all : ℕ) : Type 0 where
  pub within : line.rows ≤ left
  pub produced : line.outs ≤ all
  -- a row is taken only where all that was produced before it is gone
  pub drained : 0 < line.rows → gone ≤ line.outs
  -- under a count each row is emitted with a unit, and each is taken while there is one
  pub in_hand : IfSome line.armed (λ armed. line.outs ≤ armed.hand)
  pub before_taking : IfSome line.armed (λ armed. 0 < line.rows → gone < armed.hand)

-- what a line is judged by: how much is left to be taken, the rows that are pending, how many come of what it takes but for the last,
-- the rows that come of all of it, the condition in force, and whether the first row is waved on
pub record Offer : Type 0 where
  pub left : ℕ
  pub pending : List (List Value)
  pub before : ℕ
  pub made : List (List Value)
  pub when : Option Cond
  pub waved : Bool

-- how many rows are pending once all came of it
abbrev pub most_pending : Offer → ℕ
most_pending offer = length offer.pending + length offer.made

-- that of which no row comes but with the last that is taken
abbrev pub offer_in : Offering → Offer
offer_in offering = record {
  left = offering.left;
  pending = offering.pending.now;
  before = 0;
  made = offering.made.now.items;
  when = offering.when.now;
  waved = offering.waved;
}

-- the line may be done
pub record MayGoOn (line : RowsLine) (offer : Offer) : Type 0 where
  pub fits : Fits line offer.left (length offer.pending + offer.before) (length offer.pending + length offer.made)
  pub no_stop : pass_by offer.when offer.waved (take line.outs (offer.pending ++ offer.made)) ≡ true

-- the rows that go on of so much of what is left to a worker
abbrev pub yielded : ℕ → WorkerState → List (List Value)
yielded rows w = yielded_by w.operator_state w.building (columns_at_hand w) (take rows w.rest)

-- by what a line is judged that takes so many rows of a worker, where these are given at the end
abbrev pub offered : List (List Value) → ℕ → WorkerState → Offer
offered last rows w = record {
  left = length w.rest;
  pending = w.pending;
  before = length (yielded (rows - 1) w);
  made = yielded rows w ++ last;
  when = w.when;
  waved = w.restraint.waved;
}

-- the line may be done by a worker, which gives these rows at the end
abbrev pub MayGoFrom : RowsLine → List (List Value) → WorkerState → Type 0
MayGoFrom line last w = MayGoOn line (offered last line.rows w)

-- nothing more can come once so many rows were taken, which was not so before
abbrev pub ends_with : ℕ → WorkerState → Bool
ends_with rows w = not (rows == 0) && ((rows == length w.rest) && have_all_ended w.ins)

-- what a worker keeps for its operator becomes this with so many rows
abbrev pub BecomesTaking : ℕ → WorkerState → OperatorState → Type 0
BecomesTaking rows w now = BecomesWith w.operator_state w.building (columns_at_hand w) (take rows w.rest) now

-- these rows are given at the end with so many rows taken, once nothing more can come; else none
pub record IsGivenLast (rows : ℕ) (w : WorkerState) (last : List (List Value)) : Type 0 where
  pub none : ends_with rows w ≡ false → last ≡ []
  pub some : ends_with rows w ≡ true → (now : OperatorState) × BecomesTaking rows w now × Closes now true last

-- ---- what a worker is then

-- rows were pushed, one after the other, each for its receiver, if there is one
unfoldable pub AreHandedOn : Route → List (List Value) → List Downstream → List Downstream → Type 0
AreHandedOn to [] outs after = outs ≡ after
AreHandedOn to (row ∷ rows) outs after = (next : List Downstream) × IsHandedOn (number_to to row) row outs next × AreHandedOn to rows next after

-- the line was done; what the worker keeps for its operator became this, these rows were given at the end, and its receivers are these
abbrev pub rows_gone : RowsLine → OperatorState → List (List Value) → List Downstream → WorkerState → WorkerState
rows_gone line now last outs w = record w {
  operator_state = now;
  rest = drop line.rows w.rest;
  pending = drop line.outs (w.pending ++ (yielded line.rows w ++ last));
  taken = w.taken + line.rows;
  emitted = w.emitted + line.outs;
  refused = w.refused ++ refused_in w.op (take line.rows w.rest);
  kept = w.kept ++ kept_by w.operator_state (columns_at_hand w) (take line.rows w.rest);
  restraint = record w.restraint { waved = w.restraint.waved && (line.outs == 0) };
  outs = outs;
  journal = w.journal ++ entry.Go line.rows line.outs ∷ [];
}

-- the line was done, whole
pub record TakesLine (line : RowsLine) (old new : WorkerState) : Type 0 where
  pub now : OperatorState
  pub becomes : BecomesTaking line.rows old now
  pub last : List (List Value)
  pub closes : Closes now (ends_with line.rows old) last
  pub may : MayGoFrom line last old
  pub outs : List Downstream
  pub handed : AreHandedOn old.route (take line.outs (old.pending ++ (yielded line.rows old ++ last))) old.outs outs
  pub after : new ≡ rows_gone line now last outs old

-- the line may not be done
pub record MayNotGo (line : RowsLine) (w : WorkerState) : Type 0 where
  pub last : List (List Value)
  pub gives : IsGivenLast line.rows w last
  pub never : MayGoFrom line last w → ⊥

-- the line was done, or may not be, and all is as before
abbrev pub GoesOrNot : RowsLine → WorkerState → WorkerState → Bool → Type 0
GoesOrNot line old new true = TakesLine line old new
GoesOrNot line old new false = MayNotGo line old × (new ≡ old)

-- what stands by besides: the rows that are pending, the condition in force, and whether the first row is waved on
pub record StandingBy : Type 0 where
  pub pending : List (List Value)
  pub when : Option Cond
  pub waved : Bool

-- by what the taking of so many of these is judged
abbrev pub offer_to : Reading → List Arrival → StandingBy → Offer
offer_to how arrivals waiting = record {
  left = length arrivals;
  pending = waiting.pending;
  before = length (yielded_by how.state how.builds how.columns (take (how.count - 1) arrivals));
  made = yielded_to how arrivals;
  when = waiting.when;
  waved = waiting.waved;
}
