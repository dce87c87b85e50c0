-- A worker of which nothing is watched, counted or held back stays so.
use Rattle.std.proofs.Common.{◌≡◌, ◌&&◌, List, [], ◌∷◌, Option, Some, None, not, Bool, true, false, refl, sym, ap, ◌∙◌, subst, inl, inr}
use Rattle.std.specs.Option.{is_some}
use Rattle.std.proofs.lemmas.Bool.{false≢true}
use Rattle.amber_board.specs.declared.types.WorkSeat.{WorkSeat}
use Rattle.amber_meaning.specs.Position.{Restraint, no_restraint}
use Rattle.amber_meaning.specs.Rules.{first_is_watched, restraint_used}
use Rattle.amber_rows.specs.declared.value.Value.{Value}
use Rattle.amber_link.specs.Links.{has_some}
use Rattle.amber_link.specs.Sides.{have_all_ended}
use Rattle.amber_worker.specs.AtPosition.{IsLookedAt}
use Rattle.amber_worker.specs.Counting.{CountsOne}
use Rattle.amber_worker.specs.Turning.{IsCalm, IsNextTurn, MakesStep, MakesTurn, StaysCalm, other_entries}
use Rattle.amber_worker.specs.WorkerState.{WorkerState, has_ready, is_armed, is_starved, must_hold}
use Rattle.amber_worker.specs.declared.turn.Turn.{Turn}
use Rattle.amber_worker.specs.declared.turn.Turn.TheVariants as turn
use Rattle.amber_worker.proofs.StepFacts.{step-writes}
use Rattle.amber_worker.proofs.TurnCases.{holds-by}
use Rattle.amber_worker.proofs.ManyTurns.{same-step}

restraint-calm : (w : WorkerState) → IsCalm w → (w.restraint.paused ≡ false) × (w.restraint.held ≡ false) × (w.restraint.waved ≡ false)
restraint-calm w calm = (
  ap (λ (r : Restraint). r.paused) calm.loose,
  ap (λ (r : Restraint). r.held) calm.loose,
  ap (λ (r : Restraint). r.waved) calm.loose,
)

nothing-watched : (rows : List (List Value)) → first_is_watched None rows ≡ false
nothing-watched [] = refl
nothing-watched (row ∷ rows) = refl

no_matter : (b : Bool) → (b && false) ≡ false
no_matter true = refl
no_matter false = refl

calm-passes : (w : WorkerState) → IsCalm w → must_hold w ≡ false
calm-passes w calm =
    ap (λ when. not w.restraint.waved && first_is_watched when w.pending) calm.unwatched ∙ ap (λ b. not w.restraint.waved && b) (nothing-watched w.pending) ∙ no_matter (not w.restraint.waved)

unarmed-still : (seat now : Option WorkSeat) → seat ≡ None → CountsOne seat now → now ≡ None
unarmed-still None now none counts = counts
unarmed-still (Some seat) now none counts = absurd (false≢true (sym (ap (λ (s : Option WorkSeat). is_some s) none)))

used-calm : (counted : Bool) (r : Restraint) → counted ≡ false → r ≡ no_restraint → restraint_used counted 1 r ≡ no_restraint
used-calm counted r unarmed is = ap (λ b. restraint_used b 1 r) unarmed ∙ ap (λ (q : Restraint). restraint_used false 1 q) is

calm-step : (old new : WorkerState) → IsCalm old → MakesStep old new → IsCalm new
calm-step old new calm (inl emits) = subst IsCalm (sym emits.after) (record {
  unwatched = calm.unwatched;
  unarmed = unarmed-still old.seat emits.seat calm.unarmed emits.counts;
  loose = used-calm (is_armed old) old.restraint (ap (λ (s : Option WorkSeat). is_some s) calm.unarmed) calm.loose;
})
calm-step old new calm (inr (inl takes)) = subst IsCalm (sym takes.after) (record { unwatched = calm.unwatched; unarmed = calm.unarmed; loose = calm.loose })
calm-step old new calm (inr (inr (inl takes))) = subst IsCalm (sym takes.after) (record { unwatched = calm.unwatched; unarmed = calm.unarmed; loose = calm.loose })
calm-step old new calm (inr (inr (inr ends))) =
    subst IsCalm (sym ends.finishes.after ∙ refl)
    (record {
      unwatched = ap (λ (w : WorkerState). w.when) ends.looked.only ∙ calm.unwatched;
      unarmed = ap (λ (w : WorkerState). w.seat) ends.looked.only ∙ calm.unarmed;
      loose = ap (λ (w : WorkerState). w.restraint) ends.looked.only ∙ calm.loose;
    })

calm-looked : (old new : WorkerState) → IsCalm old → IsLookedAt old new → IsCalm new
calm-looked old new calm looked = subst IsCalm (sym looked.only) (record { unwatched = calm.unwatched; unarmed = calm.unarmed; loose = calm.loose })

-- no row holds it
never-held : (old : WorkerState) → IsCalm old → IsNextTurn old turn.Held → ⊥
never-held old calm next =
    let parts = restraint-calm old calm in
    let held =
    holds-by old.finished old.restraint.paused old.restraint.held (has_some old.pending) (is_starved old) (must_hold old) (has_some old.rest) (has_ready next.found) (have_all_ended next.found) next.is parts.1 in
    false≢true (sym (calm-passes old calm) ∙ held.must)

-- it stays calm, and what is written tells of steps alone
pub calm-turn : (old new : WorkerState) (done : Turn) → IsCalm old → MakesTurn old new done → StaysCalm old new
calm-turn old new turn.Moved calm makes = record { calm = calm-step old new calm makes.turned; writes = same-step old.journal new.journal (step-writes old new makes.turned) }
calm-turn old new turn.Idle calm makes =
    record { calm = calm-looked old new calm makes.turned.looked; writes = ap (λ (w : WorkerState). other_entries w.journal) makes.turned.looked.only }
calm-turn old new turn.Held calm makes = absurd (never-held old calm makes.next)
calm-turn old new turn.Starved calm makes = record { calm = subst IsCalm (sym makes.turned) calm; writes = ap (λ (w : WorkerState). other_entries w.journal) makes.turned }
calm-turn old new turn.Paused calm makes = record { calm = subst IsCalm (sym makes.turned) calm; writes = ap (λ (w : WorkerState). other_entries w.journal) makes.turned }
calm-turn old new turn.Ended calm makes = record { calm = subst IsCalm (sym makes.turned) calm; writes = ap (λ (w : WorkerState). other_entries w.journal) makes.turned }

pub calm-then : (a b c : WorkerState) → StaysCalm a b → StaysCalm b c → StaysCalm a c
calm-then a b c one two = record { calm = two.calm; writes = two.writes ∙ one.writes }

pub calm-broken : (old new : WorkerState) → IsCalm old → IsLookedAt old new → StaysCalm old new
calm-broken old new calm looked = record { calm = calm-looked old new calm looked; writes = ap (λ (w : WorkerState). other_entries w.journal) looked.only }
