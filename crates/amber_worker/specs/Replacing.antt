-- A worker becomes another one that stands where it stands, and keeps the ends of its links.
use Rattle.amber_meaning.specs.Position.{Position}
use Rattle.amber_worker.specs.AtPosition.{Base, Context, IsAtPosition, Shows}
use Rattle.amber_worker.specs.WorkerState.{WorkerState}

-- the same place and orders, where this went through earlier links
abbrev pub over_base : Base → Context → Context
over_base base context = record context { base = base }

-- two workers show the same position, each over its own links
abbrev pub StandAlike : WorkerState → WorkerState → Type 0
StandAlike old made = (context : Context) × (base : Base) × (p : Position) × Shows context old p × Shows (over_base base context) made p

-- a worker with the links of another one
abbrev pub with_links_of : WorkerState → WorkerState → WorkerState
with_links_of old made = record made { ins = old.ins; outs = old.outs; route = old.route }

-- where both showed a position, each over its own links, the worker shows it over those that it had
unfoldable pub ShowsReplaced : WorkerState → WorkerState → WorkerState → Type 0
ShowsReplaced old made new = (context : Context) (base : Base) (p : Position)
    → Shows context old p → Shows (over_base base context) made p → Shows context new p

-- where the one showed a position at which the other stood, over its own links, the worker stands there over those that it had
unfoldable pub StandsReplaced : WorkerState → WorkerState → WorkerState → Type 0
StandsReplaced old made new = (context : Context) (base : Base) (start p : Position)
    → Shows context old p → IsAtPosition (over_base base context) made start p → IsAtPosition context new start p
