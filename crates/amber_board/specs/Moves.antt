-- What each kind of step makes of the view of the seat that makes it.
use Rattle.std.specs.Prelude.{ℕ, ◌+◌, ◌-◌, [], ◌∷◌, slice_set}
use Rattle.amber_board.specs.declared.view.Role.TheVariants.{Worker, Spent}
use Rattle.amber_board.specs.declared.view.Step.{Step}
use Rattle.amber_board.specs.declared.view.Step.TheVariants.{Split, Draw, Grant, PutBack, Sweep, Watch, Join, Claim, Count, GiveBack}
use Rattle.amber_board.specs.declared.view.View.{View}
use Rattle.amber_board.specs.Ledger.{worker_number_of}

-- a step that leaves this many units in the hand
abbrev pub stepped_to : View → ℕ → Step → View
stepped_to v hand step = record v { hand = hand; done = step ∷ v.done }

-- the chief took n unassigned units
abbrev pub drawn : View → ℕ → View
drawn v n = stepped_to v (v.hand + n) Draw

-- the chief allotted n units to worker w
abbrev pub after_grant : View → ℕ → ℕ → View
after_grant v w n = stepped_to v (v.hand - n) (Grant w n)

-- the chief made its hand unassigned
abbrev pub put_back_of : View → View
put_back_of v = stepped_to v 0 PutBack

-- the chief took back n units that worker w had not claimed
abbrev pub swept : View → ℕ → ℕ → View
swept v w n = stepped_to v (v.hand + n) (Sweep w)

-- the chief saw that worker w had counted n
abbrev pub after_watch : View → ℕ → ℕ → View
after_watch v w n = record v { seen = slice_set v.seen w n; done = Watch w ∷ v.done }

-- worker w claimed n units
abbrev pub after_claim : View → ℕ → ℕ → View
after_claim v w n = stepped_to v (v.hand + n) (Claim w)

-- worker w counted one unit of its hand
abbrev pub counted_one : View → ℕ → View
counted_one v w = record v { hand = v.hand - 1; mine = v.mine + 1; done = Count w ∷ v.done }

-- worker w made its hand unassigned
abbrev pub given_back : View → ℕ → View
given_back v w = stepped_to v 0 (GiveBack w)

-- the chief made a seat for the next worker, and kept this many units
abbrev pub after_split : View → ℕ → View
after_split v left = record v { hand = left; made = v.made + 1; done = Split v.made ∷ v.done }

-- the seat of worker w, with this many units
abbrev pub new_seat : ℕ → ℕ → View
new_seat w hand = record { role = Worker w; hand = hand; mine = 0; target = 0; made = 0; seen = []; kept = []; done = [] }

-- the chief took in a worker's seat
abbrev pub after_join : View → View → View
after_join v other = record v { kept = record { worker = worker_number_of other.role; count = other.mine } ∷ v.kept; done = Join (worker_number_of other.role) ∷ v.done }

-- what is left of a seat that the chief took in
abbrev pub spent_view : View
spent_view = record { role = Spent; hand = 0; mine = 0; target = 0; made = 0; seen = []; kept = []; done = [] }
