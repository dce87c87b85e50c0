-- An entry that takes no batch wants nothing.
use Rattle.std.proofs.Common.{◌≡◌, ◌⊎◌, ℕ, List, inl, inr, sym, subst}
use Rattle.amber_log.specs.declared.entry.Entry.{Entry}
use Rattle.amber_log.specs.declared.entry.Entry.TheVariants as entry
use Rattle.amber_worker.specs.WorkerState.{WorkerState}
use Rattle.amber_dataflow.specs.Redoing.{IsSettledFor, PassesFor}
use Rattle.amber_dataflow.proofs.InHands.{same-for}
use Rattle.amber_dataflow.proofs.redoing.pass_for.Goals as goal

abbrev TakesNone : Entry → Type 0
TakesNone one =
    ((x : ℕ) × (y : ℕ) × (one ≡ entry.Go x y))
    ⊎ (((x : ℕ) × (one ≡ entry.Grant x)) ⊎ (((x : ℕ) × (one ≡ entry.Back x)) ⊎ ((one ≡ entry.Pause) ⊎ ((one ≡ entry.Resume) ⊎ ((one ≡ entry.Hold) ⊎ (one ≡ entry.Finish))))))

stays : (crew : List WorkerState) (worker : ℕ) (one : Entry) → TakesNone one → PassesFor worker one crew crew
stays crew worker one none = same-for crew worker one (by none)
  where
    so : (other : Entry) → one ≡ other → IsSettledFor crew worker other → IsSettledFor crew worker one
    so other is = subst (IsSettledFor crew worker) (sym is)

    by : TakesNone one → IsSettledFor crew worker one
    by (inl (x, y, is)) = so (entry.Go x y) is tt
    by (inr (inl (x, is))) = so (entry.Grant x) is tt
    by (inr (inr (inl (x, is)))) = so (entry.Back x) is tt
    by (inr (inr (inr (inl is)))) = so entry.Pause is tt
    by (inr (inr (inr (inr (inl is))))) = so entry.Resume is tt
    by (inr (inr (inr (inr (inr (inl is)))))) = so entry.Hold is tt
    by (inr (inr (inr (inr (inr (inr is)))))) = so entry.Finish is tt

pub returns-in-Go : goal.returns-in-Go
returns-in-Go c = stays c.args.crew.now c.args.number c.args.entry.now c.in-Go.is

pub returns-in-Go-2 : goal.returns-in-Go-2
returns-in-Go-2 c = stays c.args.crew.now c.args.number c.args.entry.now c.in-Go.is

pub returns-in-Go-3 : goal.returns-in-Go-3
returns-in-Go-3 c = stays c.args.crew.now c.args.number c.args.entry.now c.in-Go.is

pub returns-in-Go-4 : goal.returns-in-Go-4
returns-in-Go-4 c = stays c.args.crew.now c.args.number c.args.entry.now c.in-Go.is

pub returns-in-Go-5 : goal.returns-in-Go-5
returns-in-Go-5 c = stays c.args.crew.now c.args.number c.args.entry.now c.in-Go.is

pub returns-in-Go-6 : goal.returns-in-Go-6
returns-in-Go-6 c = stays c.args.crew.now c.args.number c.args.entry.now c.in-Go.is

pub returns-in-Go-7 : goal.returns-in-Go-7
returns-in-Go-7 c = stays c.args.crew.now c.args.number c.args.entry.now c.in-Go.is
