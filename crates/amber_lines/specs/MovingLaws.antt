-- Laws of open legs: moving and offering, and how a leg grows by an entry.
use Rattle.std.specs.Prelude.{◌≡◌, ℕ, ◌+◌, ◌≤◌, ◌↔◌, List, [], ◌∷◌, ◌++◌, Bool}
use Rattle.amber_log.specs.Grammar.{AreParts}
use Rattle.amber_log.specs.declared.entry.Entry.{Entry}
use Rattle.amber_log.specs.declared.entry.Entry.TheVariants as entry
use Rattle.amber_log.specs.declared.leg.Part.{Part}
use Rattle.amber_log.specs.declared.log.Log.{Log}
use Rattle.amber_meaning.specs.Legal.{AreOffered, IsOpen, IsWorked, Query, leg_start}
use Rattle.amber_meaning.specs.Position.{Position}
use Rattle.amber_meaning.specs.Rules.{Assignment, Leads, Moves}
use Rattle.amber_meaning.specs.State.{State, steps_in}
use Rattle.amber_lines.specs.Moving.{HaveMoved, IsNextEntry, IsUnderway}

-- a leg was worked exactly where its workers moved and what they took was offered
abbrev pub WorkIsMovingAndOffering : Type 0
WorkIsMovingAndOffering = (query : Query) (before after : State) (parts : List Part)
    → IsWorked query before parts after ↔ (HaveMoved query before parts after × AreOffered query after.positions)

-- the same of a leg that goes on
abbrev pub OpenIsMovingAndOffering : Type 0
OpenIsMovingAndOffering = (query : Query) (log : Log) (to_end : Bool) (parts : List Part) (now : State)
    → ((leg : IsOpen query log to_end parts) × (leg.now ≡ now))
    ↔ ((leg : IsUnderway query log to_end parts) × (leg.now ≡ now) × AreOffered query now.positions)

-- a leg that goes on goes on when one worker makes an entry that its rule allows, and takes no batch that is not there
abbrev pub OpenLegsGrow : Type 0
OpenLegsGrow = (query : Query) (log : Log) (to_end : Bool) (parts longer : List Part) (worker : ℕ) (made : Entry) (after : State)
    → (leg : IsOpen query log to_end parts)
    → IsNextEntry query (record { start = leg_start to_end leg.legal.after; now = leg.now; after = after; parts = parts; longer = longer; worker = worker; made = made })
    → AreParts 0 longer → steps_in after ≤ query.most
    → (grown : IsOpen query log to_end longer) × (grown.now ≡ after)

-- rows taken and emitted in one entry and then in another are taken and emitted in one entry
abbrev pub GoesJoin : Type 0
GoesJoin = (it : Assignment) (start p q : Position) (done : List Entry) (rows outs more others : ℕ)
    → Leads it start (done ++ entry.Go rows outs ∷ []) p → Moves it p (entry.Go more others) q
    → Leads it start (done ++ entry.Go (rows + more) (outs + others) ∷ []) q
