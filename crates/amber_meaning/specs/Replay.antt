-- The state that a log leads to, computed. Where the log is legal it is the one state that the log reaches.
use Rattle.std.specs.Prelude.{ℕ, zero, suc, ◌+◌, List, [], ◌∷◌, ◌++◌, Option, None}
use Rattle.amber_rows.specs.Lists.{nth}
use Rattle.amber_rows.specs.Topology.{crew_of, op_of}
use Rattle.amber_rows.specs.declared.batch.Batch.{Batch}
use Rattle.amber_log.specs.declared.entry.Entry.{Entry}
use Rattle.amber_log.specs.declared.entry.Entry.TheVariants as entry
use Rattle.amber_log.specs.declared.leg.Part.{Part}
use Rattle.amber_log.specs.declared.log.Item.{Item}
use Rattle.amber_log.specs.declared.log.Item.TheVariants as item
use Rattle.amber_meaning.specs.Legal.{Query, after_close, batches_for, entries_of}
use Rattle.amber_meaning.specs.Position.{Position}
use Rattle.amber_meaning.specs.Rules.{Orders, position_after}
use Rattle.amber_meaning.specs.State.{State, arms_at, begin_leg, begin_last_leg, after_command, orders_of, position_at, start_of}

-- the batch that an entry takes, of those that `offer` has of each sender; none where it is not there, or none is taken
abbrev pub batch_for : (ℕ → List Batch) → Entry → Option Batch
batch_for offer (entry.Take from number) = nth (offer from) (number + 1)
batch_for offer (entry.Go rows outs) = None
batch_for offer (entry.Grant n) = None
batch_for offer (entry.Back n) = None
batch_for offer entry.Pause = None
batch_for offer entry.Resume = None
batch_for offer entry.Hold = None
batch_for offer entry.Finish = None

-- the position after entries, each with the batch that it takes of those that `offer` has
unfoldable pub led_by : (ℕ → List Batch) → Orders → List Entry → Position → Position
led_by offer orders [] p = p
led_by offer orders (one ∷ more) p = led_by offer orders more (position_after orders (batch_for offer one) one p)

-- the positions of the first workers at the end of a leg: senders have smaller numbers than receivers
unfoldable pub positions_after : Query → State → List Part → ℕ → List Position
positions_after query state parts zero = []
positions_after query state parts (suc worker) =
    let before = positions_after query state parts worker in
    before ++ led_by (λ sender. batches_for query before sender worker) (orders_of (arms_at state (op_of query.flow worker)))
    (entries_of parts worker) (position_at state.positions worker) ∷ []

-- the state at the end of a leg
unfoldable pub after_leg : Query → State → List Part → State
after_leg query state parts = record state { positions = positions_after query state parts (crew_of query.flow) }

-- the state after an item
unfoldable pub after_item : Query → State → Item → State
after_item query state (item.Do command) = after_command query.flow command state
after_item query state (item.Run leg) = after_close query (after_leg query (begin_leg state) leg.parts) leg.close
after_item query state (item.End leg) = after_leg query (begin_last_leg state) leg.parts

unfoldable pub after_items : Query → State → List Item → State
after_items query state [] = state
after_items query state (one ∷ more) = after_items query (after_item query state one) more

-- the state after a log's items
unfoldable pub state_after : Query → List Item → State
state_after query items = after_items query (start_of query.flow) items
