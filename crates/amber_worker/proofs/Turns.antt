-- Each kind of turn leaves a worker where its journal leads, with the same ends.
use Rattle.std.proofs.Common.{◌≡◌, ◌<◌, ℕ, zero, suc, eqb, get_or, map, ◌||◌, ◌&&◌, not, List, [], ◌∷◌, Option, Some, None, if◌then◌else◌, Bool, true, false, inl, inr, refl, sym, ap, ◌∙◌, arith, subst}
use Rattle.std.specs.List.{list_any}
use Rattle.std.specs.Option.{MatchOption}
use Rattle.std.proofs.lemmas.Bool.{false≢true}
use Rattle.amber_rows.specs.declared.value.Value.{Value}
use Rattle.amber_meaning.specs.Rules.{first_is_watched, is_watched}
use Rattle.amber_link.specs.Links.{has_some}
use Rattle.amber_link.specs.Sides.{AreEnded, AreSameReceivers, HandsOn, IsLooked, Pairwise, have_all_ended}
use Rattle.amber_link.specs.declared.downstreams.Downstream.{Downstream}
use Rattle.amber_link.specs.declared.upstreams.Upstream.{Upstream}
use Rattle.amber_link.proofs.SameEnds.{ended-ends, handed-ends, looked-ends, receivers-same, receivers-then, senders-same, senders-then, taken-ends}
use Rattle.amber_link.proofs.Sides.{get_or-any, looked-same, map-set-same, pairwise-refl}
use Rattle.amber_worker.specs.AtPosition.{HasSameEnds, IsLookedAt, KeepsUnder}
use Rattle.amber_worker.specs.Links.{IsHandedOn, HaveSentNothing, number_to}
use Rattle.amber_worker.specs.Fields.{AreShort}
use Rattle.amber_worker.specs.WorkerState.{IsUnrestrained, WorkerState, has_ready, is_armed, is_starved, must_hold, next_turn, steps_made}
use Rattle.amber_worker.specs.Steps.{EmitsRow, TakesBatch, TakesRow, batch_taken, held_at, row_emitted}
use Rattle.amber_worker.specs.Turning.{FinishesAt, HasTurned, MakesStep, MakesTurn}
use Rattle.amber_worker.specs.declared.turn.Turn.{Turn}
use Rattle.amber_worker.specs.declared.turn.Turn.TheVariants as turn
use Rattle.amber_worker.proofs.Dealt.{Keeps-apart}
use Rattle.amber_worker.proofs.Emits.{Keeps-all_done, Keeps-row_emitted}
use Rattle.amber_worker.proofs.Moves.{HasUnit, IsWorking, Keeps-row_taken, lets_by}
use Rattle.amber_worker.proofs.KeptPosition.{Keeps-refl, Keeps-then}
use Rattle.amber_worker.proofs.Stills.{Keeps-held_at}
use Rattle.amber_worker.proofs.Takes.{Keeps-batch_taken, Keeps-looked}
use Rattle.amber_worker.proofs.TurnCases.{holds-by, moves-free, moves-on, moves-takes, turn_by}

working : (w : WorkerState) → AreShort w.journal → IsUnrestrained w → IsWorking w
working w few free = record { unfinished = free.unfinished; running = free.running; loose = free.loose; few = few }

-- whatever has come
working-looked : (w : WorkerState) (found : List Upstream) → IsWorking w → IsWorking (record w { ins = found })
working-looked w found works = record { unfinished = works.unfinished; running = works.running; loose = works.loose; few = works.few }

nothing : {A : Type 0} (xs : List A) → has_some xs ≡ false → xs ≡ []
nothing [] h = refl
nothing (x ∷ xs) h = absurd (false≢true (sym h))

-- under a count one that is not starved has a unit
armed-unit : (armed : Bool) (hand : ℕ) → (armed && eqb hand 0) ≡ false → armed ≡ true → 0 < hand
armed-unit true hand fed so = unit hand fed
  where
    unit : (n : ℕ) → eqb n 0 ≡ false → 0 < n
    unit zero fed = absurd (false≢true (sym fed))
    unit (suc n) fed = omega arith
armed-unit false hand fed so = absurd (false≢true so)

has-unit : (w : WorkerState) → is_starved w ≡ false → HasUnit (is_armed w) w
has-unit w fed so = armed-unit (is_armed w) w.restraint.hand fed so

-- a row that does not hold a worker is let by
let-by : (waved watched : Bool) → (not waved && watched) ≡ false → (waved || not watched) ≡ true
let-by true watched h = refl
let-by false true h = absurd (false≢true (sym h))
let-by false false h = refl

first-let : (w : WorkerState) (row : List Value) (later : List (List Value)) → w.pending ≡ row ∷ later → must_hold w ≡ false → lets_by w row ≡ true
first-let w row later is passes =
    let-by w.restraint.waved (is_watched w.when row) (ap (λ rows. not w.restraint.waved && first_is_watched w.when rows) (sym is) ∙ passes)

-- ---- nothing has happened, or a look

pub keeps-same : (counted : Bool) (old new : WorkerState) → new ≡ old → KeepsUnder counted old new
keeps-same counted old new same = subst (λ w. KeepsUnder counted old w) (sym same) (Keeps-refl counted old)

pub ends-same : (old new : WorkerState) → new ≡ old → HasSameEnds old new
ends-same old new same = subst (λ w. HasSameEnds old w) (sym same)
    (record { ins = senders-same old.ins; outs = receivers-same old.outs; number = refl; when = refl; route = refl })

pub looked-none : (old new : WorkerState) → new ≡ old → IsLookedAt old new
looked-none old new same = subst (λ w. IsLookedAt old w) (sym same) (record { looked = pairwise-refl IsLooked looked-same old.ins; only = refl })

pub keeps-looked : (counted : Bool) (old new : WorkerState) → IsLookedAt old new → KeepsUnder counted old new
keeps-looked counted old new looked = subst (λ w. KeepsUnder counted old w) (sym looked.only) (Keeps-looked counted old new.ins looked.looked)

pub ends-looked : (old new : WorkerState) → IsLookedAt old new → HasSameEnds old new
ends-looked old new looked = subst (λ w. HasSameEnds old w) (sym looked.only)
    (record { ins = looked-ends old.ins new.ins looked.looked; outs = receivers-same old.outs; number = refl; when = refl; route = refl })

pub same-after : (old between : WorkerState) → IsLookedAt old between → (P : WorkerState → Type 0) → P (record old { ins = between.ins }) → P between
same-after old between looked P h = subst P (sym looked.only) h

-- ---- a step

-- that step is the next turn
abbrev pub IsNext : WorkerState → List Upstream → Turn → Type 0
IsNext old found done = done ≡ next_turn (record old { ins = found })

next-free : (old : WorkerState) (found : List Upstream) → IsNext old found turn.Moved → IsUnrestrained old
next-free old found is =
    let parts = moves-free old.finished old.restraint.paused old.restraint.held (has_some old.pending) (is_starved old) (must_hold old) (has_some old.rest) (has_ready found) (have_all_ended found) is in
    record { unfinished = parts.0; running = parts.1; loose = parts.2 }

keeps-emitted : (old new : WorkerState) (found : List Upstream) → AreShort old.journal → IsNext old found turn.Moved → EmitsRow old new → KeepsUnder (is_armed old) old new
keeps-emitted old new found few is emits =
    let free = next-free old found is in
    let some : has_some old.pending ≡ true = ap has_some emits.first in
    let parts =
    moves-on old.finished old.restraint.paused old.restraint.held (is_starved old) (must_hold old) (has_some old.rest) (has_ready found) (have_all_ended found)
    (is ∙ ap (λ b. turn_by old.finished old.restraint.paused old.restraint.held b (is_starved old) (must_hold old) (has_some old.rest) (has_ready found) (have_all_ended found)) some) in
    subst (λ w. KeepsUnder (is_armed old) old w) (sym emits.after)
    (Keeps-then (is_armed old) old (row_emitted (is_armed old) emits.later emits.outs old) (record (row_emitted (is_armed old) emits.later emits.outs old) { seat = emits.seat })
    (Keeps-row_emitted (is_armed old) old emits.row emits.later emits.outs emits.first emits.handed (working old few free) (has-unit old parts.0) (first-let old emits.row emits.later emits.first parts.1))
    (Keeps-apart (is_armed old) (row_emitted (is_armed old) emits.later emits.outs old) emits.seat old.reserved old.turned))

keeps-taken_row : (old new : WorkerState) (found : List Upstream) → AreShort old.journal → IsNext old found turn.Moved → TakesRow old new → KeepsUnder (is_armed old) old new
keeps-taken_row old new found few is takes =
    let free = next-free old found is in
    let some : has_some old.rest ≡ true = ap has_some takes.first in
    let fed =
    moves-takes old.finished old.restraint.paused old.restraint.held (is_starved old) (must_hold old) (has_ready found) (have_all_ended found)
    (is ∙ ap (λ b. turn_by old.finished old.restraint.paused old.restraint.held b (is_starved old) (must_hold old) (has_some old.rest) (has_ready found) (have_all_ended found)) takes.drained
    ∙ ap (λ b. turn_by old.finished old.restraint.paused old.restraint.held false (is_starved old) (must_hold old) b (has_ready found) (have_all_ended found)) some) in
    subst (λ w. KeepsUnder (is_armed old) old w) (sym takes.after)
    (Keeps-row_taken old takes.one takes.later takes.now takes.last takes.first (nothing old.pending takes.drained) takes.becomes takes.closes (working old few free) (is_armed old) (has-unit old fed))

keeps-taken_batch : (old new : WorkerState) (found : List Upstream) → AreShort old.journal → IsNext old found turn.Moved → TakesBatch old new → KeepsUnder (is_armed old) old new
keeps-taken_batch old new found few is takes =
    let seen : WorkerState = record old { ins = takes.found } in
    subst (λ w. KeepsUnder (is_armed old) old w) (sym takes.after)
    (Keeps-then (is_armed old) old seen (batch_taken takes.one takes.batch takes.ins takes.last old) (Keeps-looked (is_armed old) old takes.found takes.looked)
    (Keeps-batch_taken seen takes.one takes.batch takes.ins takes.last (nothing old.rest takes.used) (nothing old.pending takes.drained) takes.taken takes.from_small
    takes.number_small takes.closes (working-looked old takes.found (working old few (next-free old found is))) (is_armed old)))

keeps-done : (old new : WorkerState) (found : List Upstream) → AreShort old.journal → IsNext old found turn.Moved → FinishesAt old new → KeepsUnder (is_armed old) old new
keeps-done old new found few is ends =
    let between = ends.between in
    let done = ends.finishes in
    Keeps-then (is_armed old) old between new (keeps-looked (is_armed old) old between ends.looked)
    (subst (λ w. KeepsUnder (is_armed old) between w) (sym done.after)
    (Keeps-all_done (is_armed old) between done.outs (nothing between.rest done.used) (nothing between.pending done.drained) done.ended done.ends
    (same-after old between ends.looked IsWorking (working-looked old between.ins (working old few (next-free old found is))))))

pub keeps-step : (old new : WorkerState) (found : List Upstream) → AreShort old.journal → IsNext old found turn.Moved → MakesStep old new → KeepsUnder (is_armed old) old new
keeps-step old new found few is (inl emits) = keeps-emitted old new found few is emits
keeps-step old new found few is (inr (inl takes)) = keeps-taken_row old new found few is takes
keeps-step old new found few is (inr (inr (inl takes))) = keeps-taken_batch old new found few is takes
keeps-step old new found few is (inr (inr (inr ends))) = keeps-done old new found few is ends

-- a row that holds it
keeps-held : (old : WorkerState) (found : List Upstream) → AreShort old.journal → IsNext old found turn.Held
    → KeepsUnder (is_armed old) old (if old.restraint.held then old else held_at old)
keeps-held old found few is = by old.restraint.held refl
  where
    by : (b : Bool) → old.restraint.held ≡ b → KeepsUnder (is_armed old) old (if b then old else held_at old)
    by true e = Keeps-refl (is_armed old) old
    by false e =
        let parts = holds-by old.finished old.restraint.paused old.restraint.held (has_some old.pending) (is_starved old) (must_hold old) (has_some old.rest) (has_ready found) (have_all_ended found) is e in
        Keeps-held_at (is_armed old) old (working old few (record { unfinished = parts.unfinished; running = parts.running; loose = e })) (has-unit old parts.fed) parts.must

-- each turn
pub keeps-turn : (old new : WorkerState) (done : Turn) → AreShort old.journal → MakesTurn old new done → KeepsUnder (is_armed old) old new
keeps-turn old new turn.Moved few makes = keeps-step old new makes.next.found few makes.next.is makes.turned
keeps-turn old new turn.Idle few makes = keeps-looked (is_armed old) old new makes.turned.looked
keeps-turn old new turn.Held few makes = subst (λ w. KeepsUnder (is_armed old) old w) (sym makes.turned) (keeps-held old makes.next.found few makes.next.is)
keeps-turn old new turn.Starved few makes = keeps-same (is_armed old) old new makes.turned
keeps-turn old new turn.Paused few makes = keeps-same (is_armed old) old new makes.turned
keeps-turn old new turn.Ended few makes = keeps-same (is_armed old) old new makes.turned

-- ---- the same ends

pub handed-same : (number : ℕ) (row : List Value) (outs after : List Downstream) → IsHandedOn number row outs after → AreSameReceivers outs after
handed-same number row outs after handed = by handed.place handed.so
  where
    by : (place : Option ℕ)
        → MatchOption place ((list_any (λ (one : Downstream). eqb one.to number) outs ≡ false) × (after ≡ outs)) (λ i. HandsOn i row outs after × ((d : Downstream) → (get_or outs i d).to ≡ number))
        → AreSameReceivers outs after
    by None so = subst (λ l. AreSameReceivers outs l) (sym so.1) (receivers-same outs)
    by (Some i) so = handed-ends i row outs after so.0

ends-emitted : (old new : WorkerState) → EmitsRow old new → HasSameEnds old new
ends-emitted old new emits =
    subst (λ w. HasSameEnds old w) (sym emits.after)
    (record { ins = senders-same old.ins; outs = handed-same (number_to old.route emits.row) emits.row old.outs emits.outs emits.handed; number = refl; when = refl; route = refl })

ends-taken_row : (old new : WorkerState) → TakesRow old new → HasSameEnds old new
ends-taken_row old new takes =
    subst (λ w. HasSameEnds old w) (sym takes.after) (record { ins = senders-same old.ins; outs = receivers-same old.outs; number = refl; when = refl; route = refl })

ends-taken_batch : (old new : WorkerState) → TakesBatch old new → HasSameEnds old new
ends-taken_batch old new takes =
    subst (λ w. HasSameEnds old w) (sym takes.after) (record {
      ins = senders-then old.ins takes.found takes.ins (looked-ends old.ins takes.found takes.looked) (taken-ends takes.found takes.ins takes.one takes.batch takes.taken);
      outs = receivers-same old.outs;
      number = refl;
      when = refl;
      route = refl;
    })

-- one after the other
pub ends-then : (a b c : WorkerState) → HasSameEnds a b → HasSameEnds b c → HasSameEnds a c
ends-then a b c one two = record {
  ins = senders-then a.ins b.ins c.ins one.ins two.ins;
  outs = receivers-then a.outs b.outs c.outs one.outs two.outs;
  number = two.number ∙ one.number;
  when = two.when ∙ one.when;
  route = two.route ∙ one.route;
}

ends-done : (old new : WorkerState) → FinishesAt old new → HasSameEnds old new
ends-done old new ends =
    let between = ends.between in
    let done = ends.finishes in
    ends-then old between new (ends-looked old between ends.looked)
    (subst (λ w. HasSameEnds between w) (sym done.after)
    (record { ins = senders-same between.ins; outs = ended-ends between.outs done.outs done.ends; number = refl; when = refl; route = refl }))

ends-held : (old : WorkerState) → HasSameEnds old (if old.restraint.held then old else held_at old)
ends-held old = by old.restraint.held
  where
    by : (b : Bool) → HasSameEnds old (if b then old else held_at old)
    by true = ends-same old old refl
    by false = record { ins = senders-same old.ins; outs = receivers-same old.outs; number = refl; when = refl; route = refl }

pub ends-turn : (old new : WorkerState) (done : Turn) → HasTurned done old new → HasSameEnds old new
ends-turn old new turn.Moved (inl emits) = ends-emitted old new emits
ends-turn old new turn.Moved (inr (inl takes)) = ends-taken_row old new takes
ends-turn old new turn.Moved (inr (inr (inl takes))) = ends-taken_batch old new takes
ends-turn old new turn.Moved (inr (inr (inr ends))) = ends-done old new ends
ends-turn old new turn.Idle idle = ends-looked old new idle.looked
ends-turn old new turn.Held is = subst (λ w. HasSameEnds old w) (sym is) (ends-held old)
ends-turn old new turn.Starved same = ends-same old new same
ends-turn old new turn.Paused same = ends-same old new same
ends-turn old new turn.Ended same = ends-same old new same

-- ---- nothing is sent

pub unsent-same : (old new : WorkerState) → new ≡ old → HaveSentNothing old.outs new.outs
unsent-same old new same = ap (λ (w : WorkerState). map (λ (one : Downstream). one.link.ring) w.outs) same

pub unsent-looked : (old new : WorkerState) → IsLookedAt old new → HaveSentNothing old.outs new.outs
unsent-looked old new looked = ap (λ (w : WorkerState). map (λ (one : Downstream). one.link.ring) w.outs) looked.only

unsent-handed : (number : ℕ) (row : List Value) (outs after : List Downstream) → IsHandedOn number row outs after → HaveSentNothing outs after
unsent-handed number row outs after handed = by handed.place handed.so
  where
    by : (place : Option ℕ)
        → MatchOption place ((list_any (λ (one : Downstream). eqb one.to number) outs ≡ false) × (after ≡ outs)) (λ i. HandsOn i row outs after × ((d : Downstream) → (get_or outs i d).to ≡ number))
        → HaveSentNothing outs after
    by None so = ap (λ l. map (λ (one : Downstream). one.link.ring) l) so.1
    by (Some i) so =
        let h = so.0 in
        ap (λ l. map (λ (one : Downstream). one.link.ring) l) h.is
        ∙ map-set-same (λ (one : Downstream). one.link.ring) outs i h.now (λ d. h.ring ∙ ap (λ (one : Downstream). one.link.ring) (get_or-any outs i h.now d h.within))

unsent-ended : (outs after : List Downstream) → AreEnded outs after → HaveSentNothing outs after
unfolding Pairwise
unsent-ended [] [] h = refl
unsent-ended [] (y ∷ ys) h = absurd h
unsent-ended (x ∷ xs) [] h = absurd h
unsent-ended (x ∷ xs) (y ∷ ys) h = rw (h.0.ring, unsent-ended xs ys h.1) refl

unsent-held : (old : WorkerState) → HaveSentNothing old.outs (if old.restraint.held then old else held_at old).outs
unsent-held old = by old.restraint.held
  where
    by : (b : Bool) → HaveSentNothing old.outs (if b then old else held_at old).outs
    by true = refl
    by false = refl

pub unsent-turn : (old new : WorkerState) (done : Turn) → HasTurned done old new → HaveSentNothing old.outs new.outs
unsent-turn old new turn.Moved (inl emits) =
    ap (λ (w : WorkerState). map (λ (one : Downstream). one.link.ring) w.outs) emits.after ∙ unsent-handed (number_to old.route emits.row) emits.row old.outs emits.outs emits.handed
unsent-turn old new turn.Moved (inr (inl takes)) = ap (λ (w : WorkerState). map (λ (one : Downstream). one.link.ring) w.outs) takes.after
unsent-turn old new turn.Moved (inr (inr (inl takes))) = ap (λ (w : WorkerState). map (λ (one : Downstream). one.link.ring) w.outs) takes.after
unsent-turn old new turn.Moved (inr (inr (inr ends))) =
    ap (λ (w : WorkerState). map (λ (one : Downstream). one.link.ring) w.outs) ends.finishes.after ∙ unsent-ended ends.between.outs ends.finishes.outs ends.finishes.ends
    ∙ unsent-looked old ends.between ends.looked
unsent-turn old new turn.Idle idle = unsent-looked old new idle.looked
unsent-turn old new turn.Held is = ap (λ (w : WorkerState). map (λ (one : Downstream). one.link.ring) w.outs) is ∙ unsent-held old
unsent-turn old new turn.Starved same = unsent-same old new same
unsent-turn old new turn.Paused same = unsent-same old new same
unsent-turn old new turn.Ended same = unsent-same old new same

-- ---- what a look leaves

pub looked-few : (old between : WorkerState) (n : ℕ) → IsLookedAt old between → steps_made old < n → steps_made between < n
looked-few old between n looked few = same-after old between looked (λ w. steps_made w < n) few
