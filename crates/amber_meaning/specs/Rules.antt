-- When a worker may make a step: one rule for each entry of a journal. And where each entry leads.
use Rattle.std.specs.Prelude.{◌≡◌, ℕ, ◌+◌, ◌-◌, ◌==◌, ◌<◌, ◌≤◌, ◌&&◌, not, List, [], ◌∷◌, ◌++◌, length, take, drop, replicate, Option, Some, None, Bool, true, false, if◌then◌else◌}
use Rattle.std.specs.List.{list_all, list_any}
use Rattle.amber_rows.specs.Cond.{holds_of}
use Rattle.amber_rows.specs.declared.value.Value.{Value}
use Rattle.amber_rows.specs.declared.batch.Batch.{Batch}
use Rattle.amber_rows.specs.declared.cond.Cond.{Cond}
use Rattle.amber_log.specs.declared.entry.Entry.{Entry}
use Rattle.amber_log.specs.declared.entry.Entry.TheVariants as entry
use Rattle.amber_meaning.specs.Task.{Role, is_builder}
use Rattle.amber_meaning.specs.Position.{Position, Restraint, Taken, all_arrivals, have_ended, pending_rows, product, rest_of, taken_from}

-- what commands have put in force for a leg: a filter's constants, the operator's condition, and whether a count is armed
pub record Orders : Type 0 where
  pub constants : List Value
  pub when : Option Cond
  pub counted : Bool

-- what a worker does, and the orders that it is under
pub record Assignment : Type 0 where
  pub role : Role
  pub orders : Orders

-- the two together
abbrev pub assigned : Role → Orders → Assignment
assigned role orders = record { role = role; orders = orders }

-- ---- the parts of the rules

-- neither paused nor held nor finished
pub record IsFree (p : Position) : Type 0 where
  pub running : p.restraint.paused ≡ false
  pub loose : p.restraint.held ≡ false
  pub unfinished : p.finished ≡ false

-- the rows that the worker has produced once it took this many more under the orders
abbrev pub product_with : Role → Orders → Position → ℕ → List (List Value)
product_with role orders p rows = product role p.taken (p.constants ++ replicate rows orders.constants)

-- how many these are
abbrev pub produced_with : Role → Orders → Position → ℕ → ℕ
produced_with role orders p rows = length (product_with role orders p rows)

-- whether a row meets the operator's condition
abbrev pub is_watched : Option Cond → List Value → Bool
is_watched None row = false
is_watched (Some cond) row = holds_of cond row

-- no row meets the condition, but perhaps the first, where that one is waved on
abbrev pub pass_by : Option Cond → Bool → List (List Value) → Bool
pass_by when waved [] = true
pass_by when true (row ∷ rows) = list_all (λ other. not (is_watched when other)) rows
pass_by when false (row ∷ rows) = list_all (λ other. not (is_watched when other)) (row ∷ rows)

-- the first row meets the condition
abbrev pub first_is_watched : Option Cond → List (List Value) → Bool
first_is_watched when [] = false
first_is_watched when (row ∷ rows) = is_watched when row

-- the batch's side may be taken: of a join the probe side only once the build side has ended
abbrev pub may_take_from : Role → List Taken → ℕ → Bool
may_take_from role taken from = if is_builder role.task from then true else have_ended role.task.builders taken

-- ---- the rules

-- taking the batch with this number of a sender
pub record MayTake (role : Role) (p : Position) (from number : ℕ) : Type 0 where
  pub free : IsFree p
  pub sender : list_any (λ sender. sender == from) role.senders ≡ true
  pub next : number ≡ length (taken_from p.taken from)
  pub no_rest : rest_of role p ≡ []
  pub no_pending : pending_rows role p ≡ []
  pub side : may_take_from role p.taken from ≡ true

-- taking rows and emitting rows
pub record MayGo (it : Assignment) (p : Position) (rows outs : ℕ) : Type 0 where
  pub free : IsFree p
  pub within : length p.constants + rows ≤ length (all_arrivals it.role p.taken)
  pub produced : length p.outcomes + outs ≤ produced_with it.role it.orders p rows
  -- a row is taken only where all that was produced before it is gone
  pub drained : 0 < rows → produced_with it.role it.orders p (rows - 1) ≤ length p.outcomes + outs
  -- under a count each row is emitted with a unit, and each is taken while there is one
  pub in_hand : it.orders.counted ≡ true → outs ≤ p.restraint.hand
  pub before_taking : it.orders.counted ≡ true → 0 < rows → produced_with it.role it.orders p (rows - 1) < length p.outcomes + p.restraint.hand
  pub no_stop : pass_by it.orders.when p.restraint.waved (take outs (drop (length p.outcomes) (product_with it.role it.orders p rows))) ≡ true

-- claiming units of a count
pub record MayGrant (orders : Orders) (p : Position) : Type 0 where
  pub counted : orders.counted ≡ true
  pub unfinished : p.finished ≡ false

-- giving the whole hand back
pub record MayGiveBack (orders : Orders) (p : Position) (n : ℕ) : Type 0 where
  pub counted : orders.counted ≡ true
  pub whole : n ≡ p.restraint.hand

pub record MayPause (p : Position) : Type 0 where
  pub running : p.restraint.paused ≡ false
  pub unfinished : p.finished ≡ false

pub record MayResume (p : Position) : Type 0 where
  pub paused : p.restraint.paused ≡ true
  pub loose : p.restraint.held ≡ false
  pub unfinished : p.finished ≡ false

-- stopping before a row that meets the condition
pub record MayHold (it : Assignment) (p : Position) : Type 0 where
  pub free : IsFree p
  pub watched : first_is_watched it.orders.when (pending_rows it.role p) ≡ true
  pub not_waved : p.restraint.waved ≡ false
  pub in_hand : it.orders.counted ≡ true → 0 < p.restraint.hand

pub record MayFinish (role : Role) (p : Position) : Type 0 where
  pub free : IsFree p
  pub no_rest : rest_of role p ≡ []
  pub no_pending : pending_rows role p ≡ []
  pub ended : have_ended role.senders p.taken ≡ true

-- when an entry may come
abbrev pub May : Assignment → Position → Entry → Type 0
May it p (entry.Take from number) = MayTake it.role p from number
May it p (entry.Go rows outs) = MayGo it p rows outs
May it p (entry.Grant n) = MayGrant it.orders p
May it p (entry.Back n) = MayGiveBack it.orders p n
May it p entry.Pause = MayPause p
May it p entry.Resume = MayResume p
May it p entry.Hold = MayHold it p
May it p entry.Finish = MayFinish it.role p

-- ---- the position afterwards

-- a batch of a sender more
abbrev pub with_batch : ℕ → Batch → Position → Position
with_batch from batch p = record p { taken = p.taken ++ record { from = from; batch = batch } ∷ [] }

-- the same, where there is a batch
abbrev pub with_offered : ℕ → Option Batch → Position → Position
with_offered from None p = p
with_offered from (Some batch) p = with_batch from batch p

-- this many rows were emitted: under a count each has used a unit of the hand, and the row that was waved on is gone
abbrev pub restraint_used : Bool → ℕ → Restraint → Restraint
restraint_used counted outs r = record r { hand = if counted then r.hand - outs else r.hand; waved = r.waved && (outs == 0) }

-- rows taken under the orders, and rows emitted
abbrev pub with_rows : Orders → ℕ → ℕ → Position → Position
with_rows orders rows outs p = record p {
  constants = p.constants ++ replicate rows orders.constants;
  outcomes = p.outcomes ++ replicate outs true;
  restraint = restraint_used orders.counted outs p.restraint;
}

-- where an entry leads, to which this batch is offered; a batch that is not there is not taken
abbrev pub position_after : Orders → Option Batch → Entry → Position → Position
position_after orders offered (entry.Take from number) p = with_offered from offered p
position_after orders offered (entry.Go rows outs) p = with_rows orders rows outs p
position_after orders offered (entry.Grant n) p = record p { restraint = record p.restraint { hand = p.restraint.hand + n } }
position_after orders offered (entry.Back n) p = record p { restraint = record p.restraint { hand = 0 } }
position_after orders offered entry.Pause p = record p { restraint = record p.restraint { paused = true } }
position_after orders offered entry.Resume p = record p { restraint = record p.restraint { paused = false } }
position_after orders offered entry.Hold p = record p { restraint = record p.restraint { held = true } }
position_after orders offered entry.Finish p = record p { finished = true }

-- ---- one entry, and a journal

-- an entry leads from one position to another: it may come, and some batch is offered to it
abbrev pub Moves : Assignment → Position → Entry → Position → Type 0
Moves it p one q = (batch : Batch) × May it p one × (q ≡ position_after it.orders (Some batch) one p)

-- entries lead from one position to another, one after the other
unfoldable pub Leads : Assignment → Position → List Entry → Position → Type 0
Leads it p [] q = p ≡ q
Leads it p (one ∷ more) q = (m : Position) × Moves it p one m × Leads it m more q
