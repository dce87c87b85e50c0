-- A worker that does what it is told between two drives.
use Rattle.std.proofs.Common.{◌≡◌, ◌||◌, ◌++◌, [], ◌∷◌, Option, Some, Bool, true, false, refl, sym, subst, arith, if◌then◌else◌}
use Rattle.std.proofs.lemmas.Bool.{false≢true}
use Rattle.amber_log.specs.declared.entry.Entry.TheVariants as entry
use Rattle.amber_mail.specs.declared.mail.Control.{Control}
use Rattle.amber_mail.specs.declared.mail.Control.TheVariants as control
use Rattle.amber_worker.specs.Acting.{Acts, DealsAt, IsDealingUnder, MayDeal, paused_at}
use Rattle.amber_worker.specs.Driving.{CountsTurns}
use Rattle.amber_worker.specs.Turning.{MakesTurns}
use Rattle.amber_worker.specs.WorkerState.{WorkerState, is_armed}
use Rattle.amber_worker.specs.declared.counting.Dealing.{Dealing}
use Rattle.amber_worker.proofs.Dealt.{is-dealt}
use Rattle.amber_worker.proofs.ManyTurns.{makes-acts}
use Rattle.amber_worker.proofs.Selves.{acts-self}
use Rattle.amber_worker.proofs.Stills.{Keeps-paused_at}
use Rattle.amber_worker.proofs.Told.{acts-dealt, ends-dealt, keeps-dealt, paused-or}

-- no turn is counted
pub counts-acts : (told : Option Control) (old new : WorkerState) → Acts told old new → CountsTurns 0 old new
counts-acts told old new acts =
    let acted = acts-self told old new acts in
    record { turned = λ fits. let turned = acted.self.turned in omega (arith, turned); steps = omega (arith, acted.steps) }

-- units were dealt with
pub makes-dealt : (told : Option Control) (how : Dealing) (old new : WorkerState) → IsDealingUnder told old how → MayDeal how old → DealsAt how old new → MakesTurns 0 old new
makes-dealt told how old new is may deals =
    makes-acts told old new (keeps-dealt how old new may deals) (ends-dealt old new (is-dealt how old new deals)) (acts-dealt told how old new is deals)

-- it was paused
pub makes-paused : (old new : WorkerState) → new ≡ paused_at old → MakesTurns 0 old new
makes-paused old new is =
    subst (MakesTurns 0 old) (sym is)
    (makes-acts (Some control.Pause) old (paused_at old) (Keeps-paused_at (is_armed old) old) (paused-or old).ends refl)

-- one that has finished, or is paused, stays as it is
pub paused-same : (w : WorkerState) → (w.finished || w.restraint.paused) ≡ true → paused_at w ≡ w
paused-same w so = by (w.finished || w.restraint.paused) so
  where
    by : (b : Bool) → b ≡ true → (if b then w else record w { restraint = record w.restraint { paused = true }; journal = w.journal ++ entry.Pause ∷ [] }) ≡ w
    by true so = refl
    by false so = absurd (false≢true so)

pub paused-now : (w : WorkerState) → (w.finished || w.restraint.paused) ≡ false
    → paused_at w ≡ record w { restraint = record w.restraint { paused = true }; journal = w.journal ++ entry.Pause ∷ [] }
paused-now w so = by (w.finished || w.restraint.paused) so
  where
    by : (b : Bool) → b ≡ false → (if b then w else record w { restraint = record w.restraint { paused = true }; journal = w.journal ++ entry.Pause ∷ [] })
        ≡ record w { restraint = record w.restraint { paused = true }; journal = w.journal ++ entry.Pause ∷ [] }
    by true so = absurd (false≢true (sym so))
    by false so = refl
