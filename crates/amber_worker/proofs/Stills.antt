-- A worker that is held, paused or resumed stands where that leads.
use Rattle.std.proofs.Common.{◌≡◌, ◌||◌, ◌&&◌, not, [], ◌∷◌, ◌++◌, Bool, true, false, refl, sym, ap, ◌∙◌, if◌then◌else◌}
use Rattle.std.proofs.lemmas.Bool.{false≢true}
use Rattle.amber_log.specs.declared.entry.Entry.TheVariants as entry
use Rattle.amber_meaning.specs.Position.{Restraint}
use Rattle.amber_meaning.specs.Rules.{MayHold, MayPause, MayResume, assigned, first_is_watched}
use Rattle.amber_meaning.proofs.Led.{Leads-push, no_batch}
use Rattle.amber_worker.specs.Acting.{paused_at}
use Rattle.amber_worker.specs.AtPosition.{KeepsUnder}
use Rattle.amber_worker.specs.Changes.{resumed_at}
use Rattle.amber_worker.specs.Steps.{held_at}
use Rattle.amber_worker.specs.WorkerState.{WorkerState, must_hold}
use Rattle.amber_worker.proofs.Apart.{shows-apart}
use Rattle.amber_worker.proofs.Journals.{AreEntries-push}
use Rattle.amber_worker.proofs.KeptPosition.{Keeps-refl}
use Rattle.amber_worker.proofs.Moves.{HasUnit, IsWorking, free-shown, hand-shown}

both_parts : (a b : Bool) → (not a && b) ≡ true → (a ≡ false) × (b ≡ true)
both_parts true b h = absurd (false≢true h)
both_parts false b h = (refl, h)

-- a row holds it
pub Keeps-held_at : (counted : Bool) (w : WorkerState) → IsWorking w → HasUnit counted w → must_hold w ≡ true → KeepsUnder counted w (held_at w)
unfolding KeepsUnder
Keeps-held_at counted w works unit holds context start p armed stands =
    let shows = stands.shows in
    let parts = both_parts w.restraint.waved (first_is_watched w.when w.pending) holds in
    let after : Restraint = record p.restraint { held = true } in
    let may : MayHold (assigned context.placement.role context.orders) p = record {
      free = free-shown context w p shows works;
      watched = rw (← shows.when, ← shows.pending) parts.1;
      not_waved = ap (λ (r : Restraint). r.waved) (sym shows.restraint) ∙ parts.0;
      in_hand = λ so. rw (← hand-shown context w p shows) (unit (sym armed ∙ so));
    } in (
      record p { restraint = after },
      record {
        leads = Leads-push context.placement.role context.orders start w.journal p entry.Hold (record p { restraint = after }) stands.leads (no_batch, may, refl);
        text = AreEntries-push false w.journal entry.Hold stands.text tt refl;
        shows = shows-apart context w p
            (record { seat = w.seat; restraint = record w.restraint { held = true }; journal = w.journal ++ entry.Hold ∷ []; reserved = w.reserved; turned = w.turned })
            after (ap (λ (r : Restraint). record r { held = true }) shows.restraint) shows;
      },
    )

-- it is paused
paused : (counted : Bool) (w : WorkerState) → w.finished ≡ false → w.restraint.paused ≡ false
    → KeepsUnder counted w (record w { restraint = record w.restraint { paused = true }; journal = w.journal ++ entry.Pause ∷ [] })
unfolding KeepsUnder
paused counted w unfinished running context start p armed stands =
    let shows = stands.shows in
    let after : Restraint = record p.restraint { paused = true } in
    let may : MayPause p = record {
      running = ap (λ (r : Restraint). r.paused) (sym shows.restraint) ∙ running;
      unfinished = sym shows.finished ∙ unfinished;
    } in (
      record p { restraint = after },
      record {
        leads = Leads-push context.placement.role context.orders start w.journal p entry.Pause (record p { restraint = after }) stands.leads (no_batch, may, refl);
        text = AreEntries-push false w.journal entry.Pause stands.text tt refl;
        shows = shows-apart context w p
            (record { seat = w.seat; restraint = record w.restraint { paused = true }; journal = w.journal ++ entry.Pause ∷ []; reserved = w.reserved; turned = w.turned })
            after (ap (λ (r : Restraint). record r { paused = true }) shows.restraint) shows;
      },
    )

pub Keeps-paused_at : (counted : Bool) (w : WorkerState) → KeepsUnder counted w (paused_at w)
Keeps-paused_at counted w = by w.finished w.restraint.paused refl refl
  where
    by : (a b : Bool) → w.finished ≡ a → w.restraint.paused ≡ b
        → KeepsUnder counted w (if a || b then w else record w { restraint = record w.restraint { paused = true }; journal = w.journal ++ entry.Pause ∷ [] })
    by true b f g = Keeps-refl counted w
    by false true f g = Keeps-refl counted w
    by false false f g = paused counted w f g

-- it goes on
pub Keeps-resumed_at : (counted : Bool) (w : WorkerState) → w.finished ≡ false → w.restraint.held ≡ false → w.restraint.paused ≡ true → KeepsUnder counted w (resumed_at w)
unfolding KeepsUnder
Keeps-resumed_at counted w unfinished loose is_paused context start p armed stands =
    let shows = stands.shows in
    let after : Restraint = record p.restraint { paused = false } in
    let may : MayResume p = record {
      paused = ap (λ (r : Restraint). r.paused) (sym shows.restraint) ∙ is_paused;
      loose = ap (λ (r : Restraint). r.held) (sym shows.restraint) ∙ loose;
      unfinished = sym shows.finished ∙ unfinished;
    } in (
      record p { restraint = after },
      record {
        leads = Leads-push context.placement.role context.orders start w.journal p entry.Resume (record p { restraint = after }) stands.leads (no_batch, may, refl);
        text = AreEntries-push false w.journal entry.Resume stands.text tt refl;
        shows = shows-apart context w p
            (record { seat = w.seat; restraint = record w.restraint { paused = false }; journal = w.journal ++ entry.Resume ∷ []; reserved = w.reserved; turned = w.turned })
            after (ap (λ (r : Restraint). record r { paused = false }) shows.restraint) shows;
      },
    )
