-- What a home does that does a leg of a log again, part by part.
use Rattle.std.specs.Prelude.{◌≡◌, ℕ, ◌+◌, List, [], ◌∷◌, ◌++◌, map, nat_lt, Option, None, Some, Bool, true, false}
use Rattle.amber_boards.specs.declared.target.Target.{Target}
use Rattle.amber_dataflow.specs.Dataflow.{DataflowState, rows_emitted}
use Rattle.amber_lines.specs.Lines.{Between, Within, bad_line_from, judge_all, judge_close}
use Rattle.amber_log.specs.ReadLines.{part_of}
use Rattle.amber_log.specs.declared.entry.Entry.{Entry}
use Rattle.amber_log.specs.declared.leg.Close.{Close}
use Rattle.amber_log.specs.declared.line.Line.{Line}
use Rattle.amber_log.specs.declared.line.Line.TheVariants as line
use Rattle.amber_home.specs.Asked.{Asked}
use Rattle.amber_home.specs.Leg.{count_at}
use Rattle.amber_home.specs.HomeState.{ClosesIn, HomeState, MayClose, query_of, rest_state, runs_to_end, spent_at, state_of, with_closed_leg}
use Rattle.amber_home.specs.declared.phase.Counts.{Counts}
use Rattle.amber_home.specs.declared.phase.Counts.TheVariants.{Armed, Disarmed, Unarmed}
use Rattle.amber_home.specs.declared.phase.Phase.{Phase}
use Rattle.amber_home.specs.declared.phase.Phase.TheVariants as phase

-- nothing has been armed in a leg
abbrev pub is_unarmed : Counts → Bool
is_unarmed Unarmed = true
is_unarmed Armed = false
is_unarmed Disarmed = false

-- lines of a log may be done again: a leg is open in which nothing has been armed, or some were done again already
abbrev pub may_redo : Phase → Bool
may_redo phase.Resting = false
may_redo (phase.Open to_end counts) = is_unarmed counts
may_redo (phase.Lent to_end) = false
may_redo (phase.Unsettled to_end) = false
may_redo (phase.Redoing to_end empty) = true
may_redo phase.Over = false
may_redo phase.Spent = false

-- the lines of a part behind the one that names its worker
abbrev pub entry_lines : List Entry → List Line
entry_lines entries = map line.Entry entries

-- a worker's part was done again: each of its lines could stand there, and the leg goes on behind it
pub record HasRedonePart (worker : ℕ) (entries : List Entry) (old new : HomeState) : Type 0 where
  pub only : new ≡ record old { phase = new.phase; parts = old.parts ++ part_of worker entries ∷ [] }
  pub may : may_redo new.phase ≡ true
  pub end : runs_to_end new.phase ≡ runs_to_end old.phase
  pub good : judge_all (query_of old) (Within (runs_to_end old.phase) (state_of old) worker) (entry_lines entries)
      ≡ Some (Within (runs_to_end old.phase) (state_of new) worker)

-- the entry at a place of the part could not stand there
pub record FailsAt (worker : ℕ) (entries : List Entry) (place : ℕ) (old new : HomeState) : Type 0 where
  pub spent : new ≡ spent_at old
  pub bad : bad_line_from (query_of old) (Within (runs_to_end old.phase) (state_of old) worker) 0 (entry_lines entries) ≡ Some place

-- the part was done, or names the place of its first entry that could not be
abbrev pub RedoesPart : ℕ → List Entry → HomeState → HomeState → Option ℕ → Type 0
RedoesPart worker entries old new None = HasRedonePart worker entries old new
RedoesPart worker entries old new (Some place) = FailsAt worker entries place old new

-- the leg was closed so, or could not be
abbrev pub ClosesRedone : Close → HomeState → HomeState → Bool → Type 0
ClosesRedone close old new true =
    (new ≡ with_closed_leg old close) × (judge_close (query_of old) (runs_to_end old.phase) (state_of old) close ≡ Some (Between (rest_state new)))
ClosesRedone close old new false = (new ≡ spent_at old) × (judge_close (query_of old) (runs_to_end old.phase) (state_of old) close ≡ None)

-- ---- within a call

-- more rows were counted than a count asks for, where its operator has emitted so many
abbrev pub is_over : Option Target → ℕ → Bool
is_over None rows = false
is_over (Some count) rows = nat_lt (count.target + count.since) rows

-- no count has counted more than it asks for
abbrev pub NoneIsOver : List Asked → DataflowState → Type 0
NoneIsOver arms d = (op : ℕ) → is_over (count_at arms op) (rows_emitted d op) ≡ false

-- the line that closes a leg is judged well just where it may be closed so
pub record IsJudged (e : HomeState) (close : Close) : Type 0 where
  pub closes : ClosesIn (runs_to_end e.phase) (query_of e) (state_of e) close
      → judge_close (query_of e) (runs_to_end e.phase) (state_of e) close ≡ Some (Between (rest_state (with_closed_leg e close)))
  pub refuses : (ClosesIn (runs_to_end e.phase) (query_of e) (state_of e) close → ⊥) → judge_close (query_of e) (runs_to_end e.phase) (state_of e) close ≡ None

-- the workers that did a leg again are settled, with empty hands and counts within what they ask for; or that is not so, and the leg may not
-- be closed in any way
abbrev pub EndsRedoing : HomeState → HomeState → Bool → Type 0
EndsRedoing old new true = (new ≡ record old { phase = phase.Open (runs_to_end old.phase) Disarmed }) × ((close : Close) → IsJudged new close)
EndsRedoing old new false = (new ≡ spent_at old) × ((close : Close) → judge_close (query_of old) (runs_to_end old.phase) (state_of old) close ≡ None)

-- whether a leg may be closed so
abbrev pub TellsClose : HomeState → Close → Bool → Type 0
TellsClose e close true = MayClose (runs_to_end e.phase) e close
TellsClose e close false = MayClose (runs_to_end e.phase) e close → ⊥
