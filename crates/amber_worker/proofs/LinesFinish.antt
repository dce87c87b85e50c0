-- The end, done again where it may come and not elsewhere.
use Rattle.std.proofs.Common.{◌≡◌, ◌<◌, ◌^◌, not, List, [], ◌∷◌, All, Option, true, false, refl, sym, ap, ◌∙◌, subst}
use Rattle.std.proofs.lemmas.Bool.{and_parts, false≢true, not-true}
use Rattle.amber_log.specs.declared.entry.Entry.TheVariants as entry
use Rattle.amber_meaning.proofs.Led.{Leads-push, no_batch}
use Rattle.amber_link.specs.Links.{has_some}
use Rattle.amber_link.specs.Sides.{AreEnded, IsLooked, have_all_ended}
use Rattle.amber_link.specs.declared.downstreams.Downstream.{Downstream}
use Rattle.amber_link.proofs.SameEnds.{ended-ends, senders-same}
use Rattle.amber_link.proofs.Sides.{looked-same, pairwise-refl}
use Rattle.amber_worker.specs.Fields.{rows_moved}
use Rattle.amber_worker.specs.Redoable.{finishes_again, is_through}
use Rattle.amber_worker.specs.Redoing.{CannotRedo, HasRedone, LogLine, NeverMeets, StandsAfterLine, before_line, hand_before, log_line}
use Rattle.amber_worker.specs.Steps.{Finishes, all_done}
use Rattle.amber_worker.specs.WorkerState.{IsUnrestrained, WorkerState, stands_still}
use Rattle.amber_worker.specs.declared.redoing.Armed.{Armed}
use Rattle.amber_worker.proofs.Emits.{may-finish, shows-all_done}
use Rattle.amber_worker.proofs.Journals.{AreEntries-push}
use Rattle.amber_worker.proofs.Moves.{IsWorking, all-ended}
use Rattle.amber_worker.proofs.LinesNoted.{cannot-redo, free-still, still-free}

nothing : {A : Type 0} (xs : List A) → has_some xs ≡ false → xs ≡ []
nothing [] h = refl
nothing (x ∷ xs) h = absurd (false≢true (sym h))

-- what a worker has that is through
pub record IsThrough (w : WorkerState) : Type 0 where
  pub free : IsUnrestrained w
  pub pending : w.pending ≡ []
  pub rest : w.rest ≡ []

pub through-parts : (w : WorkerState) → is_through w ≡ true → IsThrough w
through-parts w h =
    let parts = and_parts (not (stands_still w)) _ h in
    let more = and_parts (not (has_some w.pending)) _ parts.1 in
    record {
      free = still-free w (not-true (stands_still w) parts.0);
      pending = nothing w.pending (not-true (has_some w.pending) more.0);
      rest = nothing w.rest (not-true (has_some w.rest) more.1);
    }

-- one that works
pub works-free : (line : LogLine) (w : WorkerState) → IsUnrestrained w → All (λ one. rows_moved one < 2 ^ 63) w.journal → IsWorking (before_line line w)
works-free line w free few = record { unfinished = free.unfinished; running = free.running; loose = free.loose; few = few }

-- ---- the end

finish-stands : (w : WorkerState) (outs : List Downstream) (armed : Option Armed) → finishes_again w ≡ true → All (λ one. rows_moved one < 2 ^ 63) w.journal → AreEnded w.outs outs
    → StandsAfterLine (log_line entry.Finish armed) w.ins w (all_done outs w)
unfolding StandsAfterLine
finish-stands w outs armed may few ends context start p counted stands =
    let line = log_line entry.Finish armed in
    let parts = and_parts (is_through w) _ may in
    let through = through-parts w parts.0 in
    let works = works-free line w through.free few in
    let rule = may-finish context (before_line line w) p stands.shows through.rest through.pending parts.1 works in (
      record { may = rule; there = tt },
      record {
        leads = Leads-push context.placement.role context.orders start w.journal p entry.Finish (record p { finished = true }) stands.leads (no_batch, rule, refl);
        text = AreEntries-push false w.journal entry.Finish stands.text tt refl;
        shows = shows-all_done context (before_line line w) p outs stands.shows ends works;
      },
    )

pub finish-done : (w new : WorkerState) (armed : Option Armed) → finishes_again w ≡ true → All (λ one. rows_moved one < 2 ^ 63) w.journal → Finishes w new
    → HasRedone (log_line entry.Finish armed) w new
finish-done w new armed may few finishes = subst (HasRedone (log_line entry.Finish armed) w) (sym finishes.after) (record {
  found = w.ins;
  looked = pairwise-refl IsLooked looked-same w.ins;
  stands = finish-stands w finishes.outs armed may few finishes.ends;
  unarmed = λ none. ap hand_before none;
  journal = refl;
  ends = record { ins = senders-same w.ins; outs = ended-ends w.outs finishes.outs finishes.ends; number = refl; when = refl; route = refl };
  constants = refl;
  seat = refl;
  reserved = refl;
  turned = refl;
})

pub finish-cannot : (w : WorkerState) (armed : Option Armed) → finishes_again w ≡ false → CannotRedo (log_line entry.Finish armed) w w
unfolding NeverMeets
finish-cannot w armed may = cannot-redo (log_line entry.Finish armed) w (λ context p counted shows meets.
    let b = before_line (log_line entry.Finish armed) w in
    let still : stands_still w ≡ false = free-still context b p shows meets.may.free in
    let pending : w.pending ≡ [] = shows.pending ∙ meets.may.no_pending in
    let rest : w.rest ≡ [] = shows.rest ∙ meets.may.no_rest in
    let ended : have_all_ended w.ins ≡ true = all-ended context.placement.role.senders context.base.had p.taken w.ins shows.ins ∙ meets.may.ended in
    false≢true (sym may ∙ rw (still, pending, rest, ended) refl))
