-- A line of a log that changes only what holds a worker, done again where it may come and not elsewhere.
use Rattle.std.proofs.Common.{◌≡◌, ℕ, ◌+◌, ◌<◌, ◌≤◌, ◌^◌, ◌&&◌, ◌||◌, not, [], ◌∷◌, ◌++◌, Option, Some, None, Bool, true, false, refl, sym, ap, ◌∙◌, arith, subst}
use Rattle.std.specs.Option.{is_some}
use Rattle.std.proofs.lemmas.Bool.{and_parts, false≢true, le-ltb, ltb-false, not-true}
use Rattle.amber_rows.specs.declared.batch.Batch.{Batch}
use Rattle.amber_log.specs.Grammar.{IsEntry, is_go}
use Rattle.amber_log.specs.declared.entry.Entry.{Entry}
use Rattle.amber_log.specs.declared.entry.Entry.TheVariants as entry
use Rattle.amber_meaning.specs.Position.{Position, Restraint}
use Rattle.amber_meaning.specs.Rules.{IsFree, Orders, first_is_watched, position_after}
use Rattle.amber_meaning.proofs.Led.{Leads-push, no_batch}
use Rattle.amber_link.proofs.SameEnds.{receivers-same, senders-same}
use Rattle.amber_link.proofs.Sides.{looked-same, pairwise-refl}
use Rattle.amber_link.specs.Sides.{IsLooked}
use Rattle.amber_worker.specs.AtPosition.{Context, IsAtPosition, Shows}
use Rattle.amber_worker.specs.Redoable.{claims_again, holds_again, lacks_units, pauses_again, resumes_again}
use Rattle.amber_worker.specs.Redoing.{CannotRedo, HasRedone, LogLine, MeetsRule, NeverMeets, StandsAfterLine, before_line, hand_after, hand_before, log_line, offered_to, with_hand}
use Rattle.amber_worker.specs.WorkerState.{IsUnrestrained, WorkerState, must_hold, stands_still}
use Rattle.amber_worker.specs.declared.redoing.Armed.{Armed}
use Rattle.amber_worker.proofs.Apart.{shows-apart}
use Rattle.amber_worker.proofs.Journals.{AreEntries-push}
use Rattle.amber_worker.proofs.Turns.{looked-none}

-- ---- what is shown

pub unfinished-shown : (context : Context) (w : WorkerState) (p : Position) → Shows context w p → p.finished ≡ false → w.finished ≡ false
unfinished-shown context w p shows unfinished = shows.finished ∙ unfinished

pub restraint-shown : {A : Type 0} (part : Restraint → A) (context : Context) (w : WorkerState) (p : Position) (x : A) → Shows context w p → part p.restraint ≡ x → part w.restraint ≡ x
restraint-shown part context w p x shows is = ap part shows.restraint ∙ is

-- a worker that shows a free position does not stand still
pub free-still : (context : Context) (w : WorkerState) (p : Position) → Shows context w p → IsFree p → stands_still w ≡ false
free-still context w p shows free =
    rw (
      unfinished-shown context w p shows free.unfinished,
      restraint-shown (λ r. r.paused) context w p false shows free.running,
      restraint-shown (λ r. r.held) context w p false shows free.loose,
    ) refl

both_false : (a b : Bool) → (a || b) ≡ false → (a ≡ false) × (b ≡ false)
both_false true b h = absurd (false≢true (sym h))
both_false false b h = (refl, h)

-- one that does not stand still is neither finished nor paused nor held
pub still-free : (w : WorkerState) → stands_still w ≡ false → IsUnrestrained w
still-free w still =
    let parts = both_false (w.finished || w.restraint.paused) w.restraint.held still in
    let more = both_false w.finished w.restraint.paused parts.0 in
    record { unfinished = more.0; running = more.1; loose = parts.1 }

-- ---- the line was done

-- what holds the worker is this now, and the entry is journalled
abbrev pub noted : Entry → Restraint → WorkerState → WorkerState
noted one restraint w = record w { restraint = restraint; journal = w.journal ++ one ∷ [] }

-- whatever the worker showed, the line met its rule
abbrev pub AlwaysMeets : LogLine → WorkerState → Type 0
AlwaysMeets line w = (context : Context) (p : Position) → context.orders.counted ≡ is_some line.armed → Shows context (before_line line w) p → MeetsRule context w.ins p line.entry

module _ (line : LogLine) (w : WorkerState) (restraint : Restraint) (follow : Restraint → Restraint)
    (lands : (orders : Orders) (offered : Option Batch) (p : Position) → position_after orders offered line.entry p ≡ record p { restraint = follow p.restraint })
    (same : record restraint { hand = hand_after line } ≡ follow (record w.restraint { hand = hand_before line.armed })) where
  stands-noted : IsEntry line.entry → is_go line.entry ≡ false → AlwaysMeets line w → StandsAfterLine line w.ins w (noted line.entry restraint w)
  unfolding StandsAfterLine
  stands-noted entry other rule context start p counted stands =
      let meets = rule context p counted stands.shows in
      let at : Position → Type 0 = λ q. IsAtPosition context (with_hand (hand_after line) (noted line.entry restraint w)) start q in (
        meets,
        subst at (sym (lands context.orders (offered_to w.ins line.entry) p)) (record {
          leads = Leads-push context.placement.role context.orders start w.journal p line.entry (record p { restraint = follow p.restraint }) stands.leads
              (no_batch, meets.may, sym (lands context.orders (Some no_batch) p));
          text = AreEntries-push false w.journal line.entry stands.text entry other;
          shows = shows-apart context (before_line line w) p
              (record { seat = w.seat; restraint = record restraint { hand = hand_after line }; journal = w.journal ++ line.entry ∷ []; reserved = w.reserved; turned = w.turned })
              (follow p.restraint) (same ∙ ap follow stands.shows.restraint) stands.shows;
        }),
      )

  -- the line was done
  pub redone-noted : IsEntry line.entry → is_go line.entry ≡ false → AlwaysMeets line w → (line.armed ≡ None → hand_after line ≡ 0)
      → HasRedone line w (noted line.entry restraint w)
  redone-noted entry other rule unarmed = record {
    found = w.ins;
    looked = pairwise-refl IsLooked looked-same w.ins;
    stands = stands-noted entry other rule;
    unarmed = unarmed;
    journal = refl;
    ends = record { ins = senders-same w.ins; outs = receivers-same w.outs; number = refl; when = refl; route = refl };
    constants = refl;
    seat = refl;
    reserved = refl;
    turned = refl;
  }

pub cannot-redo : (line : LogLine) (w : WorkerState) → NeverMeets line w.ins w → CannotRedo line w w
cannot-redo line w never = record { looked = looked-none w w refl; never = never }

-- ---- a pause

pub pause-done : (w : WorkerState) (armed : Option Armed) → pauses_again w ≡ true → HasRedone (log_line entry.Pause armed) w (noted entry.Pause (record w.restraint { paused = true }) w)
pause-done w armed may =
    let parts = and_parts (not w.finished) _ may in
    redone-noted (log_line entry.Pause armed) w (record w.restraint { paused = true }) (λ r. record r { paused = true }) (λ orders offered p. refl) refl tt refl
    (λ context p counted shows. record {
      may = record {
        running = ap (λ (r : Restraint). r.paused) (sym shows.restraint) ∙ not-true w.restraint.paused parts.1;
        unfinished = sym shows.finished ∙ not-true w.finished parts.0;
      };
      there = tt;
    })
    (λ none. ap hand_before none)

pub pause-cannot : (w : WorkerState) (armed : Option Armed) → pauses_again w ≡ false → CannotRedo (log_line entry.Pause armed) w w
unfolding NeverMeets
pause-cannot w armed may = cannot-redo (log_line entry.Pause armed) w (λ context p counted shows meets.
    let b = before_line (log_line entry.Pause armed) w in
    let unfinished : w.finished ≡ false = unfinished-shown context b p shows meets.may.unfinished in
    let running : w.restraint.paused ≡ false = restraint-shown (λ r. r.paused) context b p false shows meets.may.running in
    false≢true (sym may ∙ rw (unfinished, running) refl))

-- ---- it goes on

pub resume-done : (w : WorkerState) (armed : Option Armed) → resumes_again w ≡ true → HasRedone (log_line entry.Resume armed) w (noted entry.Resume (record w.restraint { paused = false }) w)
resume-done w armed may =
    let parts = and_parts w.restraint.paused _ may in
    let more = and_parts (not w.finished) _ parts.1 in
    redone-noted (log_line entry.Resume armed) w (record w.restraint { paused = false }) (λ r. record r { paused = false }) (λ orders offered p. refl) refl tt refl
    (λ context p counted shows. record {
      may = record {
        paused = ap (λ (r : Restraint). r.paused) (sym shows.restraint) ∙ parts.0;
        loose = ap (λ (r : Restraint). r.held) (sym shows.restraint) ∙ not-true w.restraint.held more.1;
        unfinished = sym shows.finished ∙ not-true w.finished more.0;
      };
      there = tt;
    })
    (λ none. ap hand_before none)

pub resume-cannot : (w : WorkerState) (armed : Option Armed) → resumes_again w ≡ false → CannotRedo (log_line entry.Resume armed) w w
unfolding NeverMeets
resume-cannot w armed may = cannot-redo (log_line entry.Resume armed) w (λ context p counted shows meets.
    let b = before_line (log_line entry.Resume armed) w in
    let unfinished : w.finished ≡ false = unfinished-shown context b p shows meets.may.unfinished in
    let paused : w.restraint.paused ≡ true = restraint-shown (λ r. r.paused) context b p true shows meets.may.paused in
    let loose : w.restraint.held ≡ false = restraint-shown (λ r. r.held) context b p false shows meets.may.loose in
    false≢true (sym may ∙ rw (unfinished, paused, loose) refl))

-- ---- a row holds it

-- a count that lacks no unit has one
pub has-units : (armed : Option Armed) (n : ℕ) → lacks_units armed n ≡ false → is_some armed ≡ true → n ≤ hand_before armed
has-units None n enough some = absurd (false≢true some)
has-units (Some armed) n enough some = ltb-false armed.hand n enough

pub lacks-none : (armed : Option Armed) (n : ℕ) → (is_some armed ≡ true → n ≤ hand_before armed) → lacks_units armed n ≡ false
lacks-none None n enough = refl
lacks-none (Some armed) n enough = le-ltb armed.hand n (enough refl)

pub hold-done : (w : WorkerState) (armed : Option Armed) → holds_again armed w ≡ true → HasRedone (log_line entry.Hold armed) w (noted entry.Hold (record w.restraint { held = true }) w)
hold-done w armed may =
    let both = and_parts (not (stands_still w) && must_hold w) _ may in
    let parts = and_parts (not (stands_still w)) _ both.0 in
    let free = still-free w (not-true (stands_still w) parts.0) in
    let must = and_parts (not w.restraint.waved) (first_is_watched w.when w.pending) parts.1 in
    let enough = has-units armed 1 (not-true (lacks_units armed 1) both.1) in
    redone-noted (log_line entry.Hold armed) w (record w.restraint { held = true }) (λ r. record r { held = true }) (λ orders offered p. refl) refl tt refl
    (λ context p counted shows. record {
      may = record {
        free = record {
          running = ap (λ (r : Restraint). r.paused) (sym shows.restraint) ∙ free.running;
          loose = ap (λ (r : Restraint). r.held) (sym shows.restraint) ∙ free.loose;
          unfinished = sym shows.finished ∙ free.unfinished;
        };
        watched = rw (← shows.when, ← shows.pending) must.1;
        not_waved = ap (λ (r : Restraint). r.waved) (sym shows.restraint) ∙ not-true w.restraint.waved must.0;
        in_hand = λ so. subst (λ (r : Restraint). 0 < r.hand) shows.restraint (enough (sym counted ∙ so));
      };
      there = tt;
    })
    (λ none. ap hand_before none)

pub hold-cannot : (w : WorkerState) (armed : Option Armed) → holds_again armed w ≡ false → CannotRedo (log_line entry.Hold armed) w w
unfolding NeverMeets
hold-cannot w armed may = cannot-redo (log_line entry.Hold armed) w (λ context p counted shows meets.
    let b = before_line (log_line entry.Hold armed) w in
    let still : stands_still w ≡ false = free-still context b p shows meets.may.free in
    let unwaved : w.restraint.waved ≡ false = restraint-shown (λ r. r.waved) context b p false shows meets.may.not_waved in
    let watched : first_is_watched w.when w.pending ≡ true = rw (shows.when, shows.pending) meets.may.watched in
    let enough = lacks-none armed 1 (λ some. subst (λ (r : Restraint). 0 < r.hand) (sym shows.restraint) (meets.may.in_hand (counted ∙ some))) in
    false≢true (sym may ∙ rw (still, unwaved, watched, enough) refl))

-- ---- units

pub grant-done : (w : WorkerState) (n : ℕ) (armed : Option Armed) → 0 < n → n < 2 ^ 64 → claims_again armed w ≡ true
    → HasRedone (log_line (entry.Grant n) armed) w (noted (entry.Grant n) w.restraint w)
grant-done w n armed some few may =
    let parts = and_parts (is_some armed) _ may in
    redone-noted (log_line (entry.Grant n) armed) w w.restraint (λ r. record r { hand = r.hand + n }) (λ orders offered p. refl) refl (some, few) refl
    (λ context p counted shows. record {
      may = record { counted = counted ∙ parts.0; unfinished = sym shows.finished ∙ not-true w.finished parts.1 };
      there = tt;
    })
    (λ none. absurd (false≢true (ap is_some (sym none) ∙ parts.0)))

pub grant-cannot : (w : WorkerState) (n : ℕ) (armed : Option Armed) → claims_again armed w ≡ false → CannotRedo (log_line (entry.Grant n) armed) w w
unfolding NeverMeets
grant-cannot w n armed may = cannot-redo (log_line (entry.Grant n) armed) w (λ context p counted shows meets.
    let unfinished : w.finished ≡ false = unfinished-shown context (before_line (log_line (entry.Grant n) armed) w) p shows meets.may.unfinished in
    let some : is_some armed ≡ true = sym counted ∙ meets.may.counted in
    false≢true (sym may ∙ rw (some, unfinished) refl))

armed-hand : (armed : Option Armed) → 0 < hand_before armed → is_some armed ≡ true
armed-hand None some = absurd (omega (arith, some))
armed-hand (Some armed) some = refl

pub back-done : (w : WorkerState) (n : ℕ) (armed : Option Armed) → 0 < n → n < 2 ^ 64 → hand_before armed ≡ n
    → HasRedone (log_line (entry.Back n) armed) w (noted (entry.Back n) w.restraint w)
back-done w n armed some few whole =
    redone-noted (log_line (entry.Back n) armed) w w.restraint (λ r. record r { hand = 0 }) (λ orders offered p. refl) refl (some, few) refl
    (λ context p counted shows. record {
      may = record {
        counted = counted ∙ armed-hand armed (omega (arith, some, whole));
        whole = sym whole ∙ ap (λ (r : Restraint). r.hand) shows.restraint;
      };
      there = tt;
    })
    (λ none. refl)

pub back-cannot : (w : WorkerState) (n : ℕ) (armed : Option Armed) → (hand_before armed ≡ n → ⊥) → CannotRedo (log_line (entry.Back n) armed) w w
unfolding NeverMeets
back-cannot w n armed other = cannot-redo (log_line (entry.Back n) armed) w (λ context p counted shows meets.
    other (ap (λ (r : Restraint). r.hand) shows.restraint ∙ sym meets.may.whole))
