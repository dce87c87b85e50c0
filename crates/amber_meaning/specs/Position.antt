-- How far a worker has come. Whatever tables and queues it keeps, this is all that a run says of it.
use Rattle.std.specs.Prelude.{ℕ, ◌+◌, ◌==◌, ◌&&◌, List, [], ◌∷◌, ◌++◌, length, map, filter, drop, count_by, Ok, Bool, true, false, if◌then◌else◌}
use Rattle.std.specs.List.{flat_map, list_all, list_any}
use Rattle.amber_rows.specs.Kinds.{is_scan}
use Rattle.amber_rows.specs.declared.value.Value.{Value}
use Rattle.amber_rows.specs.declared.batch.Batch.{Batch}
use Rattle.amber_rows.specs.declared.flow.What.{What}
use Rattle.amber_meaning.specs.Task.{Arrival, Role}
use Rattle.amber_meaning.specs.Produce.{closing, produce}

-- a batch that was taken, and its sender
pub record Taken : Type 0 where
  pub from : ℕ
  pub batch : Batch

-- what holds a worker back, or lets it on
pub record Restraint : Type 0 where
  -- units of an armed count that were claimed and not used
  pub hand : ℕ
  -- stands before a row that meets the operator's condition
  pub held : Bool
  -- may emit the next row although it meets the condition
  pub waved : Bool
  pub paused : Bool

-- nothing does
abbrev pub no_restraint : Restraint
no_restraint = record { hand = 0; held = false; waved = false; paused = false }

pub record Position : Type 0 where
  -- the batches that were taken, in order
  pub taken : List Taken
  -- for each row that was taken the constants that were in force then; so its length is how many were taken
  pub constants : List (List Value)
  -- for each produced row that is gone whether it was emitted, and not dropped; so its length is how many are gone
  pub outcomes : List Bool
  pub restraint : Restraint
  pub finished : Bool

-- before anything was done
abbrev pub origin : Position
origin = record { taken = []; constants = []; outcomes = []; restraint = no_restraint; finished = false }

-- ---- what was handed

abbrev pub arrivals_of : Taken → List Arrival
arrivals_of taken = map (λ row. record { from = taken.from; what = Ok row }) taken.batch.rows

-- a scan's share, or what others were handed
abbrev pub share_or : What → List Arrival → List Arrival → List Arrival
share_or kind share arrivals = if is_scan kind then share else arrivals

-- all that a worker was handed: the rows of the batches that it took, one after the other, or a scan's share
unfoldable pub all_arrivals : Role → List Taken → List Arrival
all_arrivals role taken = share_or role.task.kind role.share (flat_map arrivals_of taken)

-- the batches taken from one sender
unfoldable pub taken_from : List Taken → ℕ → List Batch
taken_from taken sender = map (λ one. one.batch) (filter (λ one. one.from == sender) taken)

-- the last batch of a sender was taken
abbrev pub has_last : List Taken → ℕ → Bool
has_last taken sender = list_any (λ batch. batch.last) (taken_from taken sender)

-- the last batch of each of these was taken
unfoldable pub have_ended : List ℕ → List Taken → Bool
have_ended senders taken = list_all (has_last taken) senders

-- ---- what was produced

-- all batches of all senders were taken, and no row of them is left
abbrev pub is_complete : Role → List Taken → ℕ → Bool
is_complete role taken rows = have_ended role.senders taken && (rows == length (all_arrivals role taken))

-- what a worker has produced that took these batches, and rows of them under these constants
unfoldable pub product : Role → List Taken → List (List Value) → List (List Value)
product role taken constants =
    produce role.task [] (all_arrivals role taken) constants ++ (if is_complete role taken (length constants) then closing role.task (all_arrivals role taken) else [])

abbrev pub produced_rows : Role → Position → List (List Value)
produced_rows role p = product role p.taken p.constants

-- what was handed and not yet taken
abbrev pub rest_of : Role → Position → List Arrival
rest_of role p = drop (length p.constants) (all_arrivals role p.taken)

-- the rows that were produced and are not gone
abbrev pub pending_rows : Role → Position → List (List Value)
pending_rows role p = drop (length p.outcomes) (produced_rows role p)

-- of a list's first elements those with the fate true
unfoldable pub kept : {A : Type 0} → List A → List Bool → List A
kept [] outcomes = []
kept (x ∷ xs) [] = []
kept (x ∷ xs) (true ∷ outcomes) = x ∷ kept xs outcomes
kept (x ∷ xs) (false ∷ outcomes) = kept xs outcomes

-- the rows that were emitted
abbrev pub emitted_rows : Role → Position → List (List Value)
emitted_rows role p = kept (produced_rows role p) p.outcomes

-- ---- numbers

abbrev pub is_emitted : Bool → Bool
is_emitted outcome = outcome

-- how many rows were emitted
abbrev pub emitted_count : List Bool → ℕ
emitted_count outcomes = count_by is_emitted outcomes

abbrev pub one_if : Bool → ℕ
one_if true = 1
one_if false = 0

-- the steps so far: rows taken, rows emitted, batches taken, and the end
abbrev pub steps_of : Position → ℕ
steps_of p = length p.constants + emitted_count p.outcomes + length p.taken + one_if p.finished
