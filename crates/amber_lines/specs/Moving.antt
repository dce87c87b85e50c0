-- A leg's work in two parts: each worker moves by its rules, and what was taken was offered.
use Rattle.std.specs.Prelude.{◌≡◌, ℕ, ◌+◌, ◌<◌, ◌≤◌, List, length, Some, Bool, false}
use Rattle.amber_rows.specs.Lists.{nth}
use Rattle.amber_rows.specs.Topology.{crew_of}
use Rattle.amber_rows.specs.declared.batch.Batch.{Batch}
use Rattle.amber_log.specs.Grammar.{AreParts, ends_over}
use Rattle.amber_log.specs.declared.entry.Entry.{Entry}
use Rattle.amber_log.specs.declared.entry.Entry.TheVariants as entry
use Rattle.amber_log.specs.declared.leg.Part.{Part}
use Rattle.amber_log.specs.declared.log.Log.{Log}
use Rattle.amber_meaning.specs.Legal.{AreKnown, IsLegal, Query, assignment_in, batches_for, entries_of, leg_start}
use Rattle.amber_meaning.specs.Position.{Position}
use Rattle.amber_meaning.specs.Rules.{Leads, Moves, Orders, with_batch}
use Rattle.amber_meaning.specs.State.{State, position_at, steps_in}

-- the orders of a worker in a leg that began in this state
abbrev pub orders_in : Query → State → ℕ → Orders
orders_in query start worker = (assignment_in query start worker).orders

-- what the workers did leads each from where it stood; whether what they took was there is not asked
pub record HaveMoved (query : Query) (before : State) (parts : List Part) (after : State) : Type 0 where
  pub same_arms : after.arms ≡ before.arms
  pub crew : length after.positions ≡ crew_of query.flow
  pub known : AreKnown query parts
  pub moved : (worker : ℕ) → worker < crew_of query.flow
      → Leads (assignment_in query before worker) (position_at before.positions worker) (entries_of parts worker) (position_at after.positions worker)

-- a legal log and after it a leg that is not closed yet, whose workers moved; whether what they took was there is not asked
pub record IsUnderway (query : Query) (log : Log) (to_end : Bool) (parts : List Part) : Type 0 where
  pub legal : IsLegal query log
  pub more : ends_over false log.items ≡ false
  pub text : AreParts 0 parts
  pub now : State
  pub moved : HaveMoved query (leg_start to_end legal.after) parts now
  pub few : steps_in now ≤ query.most

-- ---- an entry more

-- an entry takes the batch that is offered under its number, and leads so to the position afterwards
abbrev pub TakesOffered : (ℕ → List Batch) → Position → Entry → Position → Type 0
TakesOffered offer p (entry.Take from number) q = (batch : Batch) × (nth (offer from) (number + 1) ≡ Some batch) × (q ≡ with_batch from batch p)
TakesOffered offer p (entry.Go rows outs) q = Unit {0}
TakesOffered offer p (entry.Grant n) q = Unit {0}
TakesOffered offer p (entry.Back n) q = Unit {0}
TakesOffered offer p entry.Pause q = Unit {0}
TakesOffered offer p entry.Resume q = Unit {0}
TakesOffered offer p entry.Hold q = Unit {0}
TakesOffered offer p entry.Finish q = Unit {0}

-- an entry more of one worker in a leg: the states in which the leg began, before the entry and after it, and the leg's parts
-- without it and with it
pub record NextEntry : Type 0 where
  pub start : State
  pub now : State
  pub after : State
  pub parts : List Part
  pub longer : List Part
  pub worker : ℕ
  pub made : Entry

-- the worker's rule allows the entry, the batch that it takes is there, and nobody else has moved
pub record IsNextEntry (query : Query) (next : NextEntry) : Type 0 where
  pub inside : next.worker < crew_of query.flow
  pub known : AreKnown query next.longer
  pub arms : next.after.arms ≡ next.now.arms
  pub crew : length next.after.positions ≡ crew_of query.flow
  pub others : (other : ℕ) → (other ≡ next.worker → ⊥)
      → (position_at next.after.positions other ≡ position_at next.now.positions other) × (entries_of next.longer other ≡ entries_of next.parts other)
  pub allowed : Moves (assignment_in query next.start next.worker)
      (position_at next.now.positions next.worker) next.made (position_at next.after.positions next.worker)
  pub offered : TakesOffered (λ sender. batches_for query next.now.positions sender next.worker)
      (position_at next.now.positions next.worker) next.made (position_at next.after.positions next.worker)
  -- the entries may be more by one, or have one that was merged with it
  pub leads : Leads (assignment_in query next.start next.worker)
      (position_at next.start.positions next.worker) (entries_of next.longer next.worker) (position_at next.after.positions next.worker)
