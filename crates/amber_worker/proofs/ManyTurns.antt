-- What one turn of a worker after another comes to.
use Rattle.std.proofs.Common.{◌≡◌, ℕ, ◌+◌, ◌≤◌, ◌||◌, ◌++◌, List, [], ◌∷◌, Option, Some, None, not, Bool, true, false, if◌then◌else◌, refl, sym, ap, ◌∙◌, subst, inl, inr, append_assoc, arith}
use Rattle.std.proofs.lemmas.List.{append-nil}
use Rattle.std.proofs.lemmas.List.Elements.{filter-append}
use Rattle.std.proofs.lemmas.Bool.{false≢true}
use Rattle.amber_mail.specs.Controls.{is_pause}
use Rattle.amber_mail.specs.declared.mail.Control.{Control}
use Rattle.amber_mail.specs.declared.mail.Control.TheVariants as control
use Rattle.amber_rows.specs.declared.batch.Batch.{Batch}
use Rattle.amber_log.specs.declared.entry.Entry.{Entry}
use Rattle.amber_log.specs.declared.entry.Entry.TheVariants as entry
use Rattle.amber_link.specs.Links.{come, has_some}
use Rattle.amber_link.specs.Sides.{AreLooked, HaveSentOn, IsLooked, IsTaken, Pairwise, have_all_ended}
use Rattle.amber_link.specs.declared.upstreams.Upstream.{Upstream}
use Rattle.amber_link.specs.declared.downstreams.Downstream.{Downstream}
use Rattle.amber_link.proofs.LinkEnds.{carries-forwards}
use Rattle.amber_link.proofs.SameEnds.{pairwise-weaker, senders-same}
use Rattle.amber_link.proofs.SentOn.{on-keeps, sent_on-ends}
use Rattle.amber_link.proofs.Sides.{pairwise-refl, pairwise-then}
use Rattle.amber_worker.specs.Acting.{Acts}
use Rattle.amber_worker.specs.AtPosition.{HasSameEnds, IsLookedAt, KeepsUnder, Output, Placement, SendAll, output_at, stream_to}
use Rattle.amber_worker.specs.Driving.{HasSent}
use Rattle.amber_worker.specs.Steps.{gone_on, held_at, with_go}
use Rattle.amber_worker.specs.Turning.{HasTurned, HaveMoreCome, MakesStep, MakesTurns, TurnsUnder, WritesStep, other_entries, tells_steps}
use Rattle.amber_worker.specs.WorkerState.{WorkerState, has_ready, is_armed, is_starved, must_hold, steps_made}
use Rattle.amber_worker.specs.declared.turn.Turn.{Turn}
use Rattle.amber_worker.specs.declared.turn.Turn.TheVariants as turn
use Rattle.amber_worker.proofs.Dealt.{Keeps-apart}
use Rattle.amber_worker.proofs.KeptPosition.{Keeps-then}
use Rattle.amber_worker.proofs.Settling.{Shows-relinked}
use Rattle.amber_worker.proofs.Selves.{acts-self, pauses-stand, seat-armed, seat-same, seat-then, self-looked, self-then, turned-self}
use Rattle.amber_worker.proofs.StepFacts.{step-steps, turned-counts}
use Rattle.amber_worker.proofs.TurnCases.{turn_by}
use Rattle.amber_worker.proofs.Turns.{ends-looked, ends-then, keeps-looked, looked-none}

-- ---- the batches that have come

-- no more have come
come-same : (one : Upstream) → HaveMoreCome one one
come-same one = ([], sym (append-nil (come one.link)))

-- some have come, and then some more
come-then : (a b c : Upstream) → HaveMoreCome a b → HaveMoreCome b c → HaveMoreCome a c
come-then a b c one two = (one.0 ++ two.0, two.1 ∙ ap (λ l. l ++ two.0) one.1 ∙ append_assoc (come a.link) one.0 two.0)

-- no more of any sender
all-same : (ins : List Upstream) → Pairwise HaveMoreCome ins ins
all-same ins = pairwise-refl HaveMoreCome come-same ins

-- some of each sender, and then some more
all-then : (a b c : List Upstream) → Pairwise HaveMoreCome a b → Pairwise HaveMoreCome b c → Pairwise HaveMoreCome a c
all-then a b c one two = pairwise-then HaveMoreCome come-then a b c one two

-- more may have come where a look was made
all-looked : (old new : List Upstream) → AreLooked old new → Pairwise HaveMoreCome old new
all-looked old new looked = pairwise-weaker IsLooked HaveMoreCome (λ x y one. (one.gives.more, one.gives.come_more)) old new looked

-- some of one sender
all-but : (front back : List Upstream) (one now : Upstream) → HaveMoreCome one now → Pairwise HaveMoreCome (front ++ one ∷ back) (front ++ now ∷ back)
unfolding Pairwise
all-but [] back one now more = (more, all-same back)
all-but (first ∷ front) back one now more = (come-same first, all-but front back one now more)

-- where a batch was taken
all-taken : (ins after : List Upstream) (one : Upstream) (batch : Batch) → IsTaken ins one batch after → Pairwise HaveMoreCome ins after
all-taken ins after one batch taken =
    subst (λ l. Pairwise HaveMoreCome l after) (sym taken.found)
    (subst (λ l. Pairwise HaveMoreCome (taken.front ++ one ∷ taken.back) l) (sym taken.after_it)
    (all-but taken.front taken.back one taken.now (taken.gives.more, taken.gives.come_more)))

-- where a step was made
step-come : (old new : WorkerState) → MakesStep old new → Pairwise HaveMoreCome old.ins new.ins
step-come old new (inl emits) = rw emits.after (all-same old.ins)
step-come old new (inr (inl takes)) = rw takes.after (all-same old.ins)
step-come old new (inr (inr (inl takes))) =
    rw takes.after (all-then old.ins takes.found takes.ins (all-looked old.ins takes.found takes.looked) (all-taken takes.found takes.ins takes.one takes.batch takes.taken))
step-come old new (inr (inr (inr finishes))) = rw finishes.finishes.after (all-looked old.ins finishes.between.ins finishes.looked.looked)

-- ---- what is written

-- rows taken and emitted after an entry
same-gone_on : (one : Entry) (rows outs : ℕ) → other_entries (gone_on one rows outs) ≡ other_entries (one ∷ [])
same-gone_on (entry.Take sender batch) rows outs = refl
same-gone_on (entry.Go before given) rows outs = refl
same-gone_on (entry.Grant n) rows outs = refl
same-gone_on (entry.Back n) rows outs = refl
same-gone_on entry.Pause rows outs = refl
same-gone_on entry.Resume rows outs = refl
same-gone_on entry.Hold rows outs = refl
same-gone_on entry.Finish rows outs = refl

-- and after a journal
same-with_go : (journal : List Entry) (rows outs : ℕ) → other_entries (with_go journal rows outs) ≡ other_entries journal
unfolding with_go
same-with_go [] rows outs = refl
same-with_go (one ∷ []) rows outs = same-gone_on one rows outs
same-with_go (one ∷ next ∷ more) rows outs = rw (same-with_go (next ∷ more) rows outs) refl

-- an entry that tells of steps after a journal
same-push : (journal : List Entry) (one : Entry) → tells_steps one ≡ true → other_entries (journal ++ one ∷ []) ≡ other_entries journal
same-push journal one tells = rw (filter-append (λ e. not (tells_steps e)) journal (one ∷ []), tells) (append-nil (other_entries journal))

-- what a step writes tells of steps
pub same-step : (old new : List Entry) → WritesStep old new → other_entries new ≡ other_entries old
same-step old new (inl emits) = rw emits (same-with_go old 0 1)
same-step old new (inr (inl takes)) = rw takes (same-with_go old 1 0)
same-step old new (inr (inr (inl takes))) = rw takes.2 (same-push old (entry.Take takes.0 takes.1) refl)
same-step old new (inr (inr (inr finishes))) = rw finishes (same-push old entry.Finish refl)

-- ---- a turn

turned-come : (done : Turn) (old new : WorkerState) → HasTurned done old new → Pairwise HaveMoreCome old.ins new.ins
turned-come turn.Moved old new step = step-come old new step
turned-come turn.Idle old new idle = all-looked old.ins new.ins idle.looked.looked
turned-come turn.Held old new is = subst (λ (w : WorkerState). Pairwise HaveMoreCome old.ins w.ins) (sym is) (by old.restraint.held)
  where
    by : (b : Bool) → Pairwise HaveMoreCome old.ins (if b then old else held_at old).ins
    by true = all-same old.ins
    by false = all-same old.ins
turned-come turn.Starved old new same = subst (λ (w : WorkerState). Pairwise HaveMoreCome old.ins w.ins) (sym same) (all-same old.ins)
turned-come turn.Paused old new same = subst (λ (w : WorkerState). Pairwise HaveMoreCome old.ins w.ins) (sym same) (all-same old.ins)
turned-come turn.Ended old new same = subst (λ (w : WorkerState). Pairwise HaveMoreCome old.ins w.ins) (sym same) (all-same old.ins)

-- how many steps a turn makes
abbrev pub steps_in : Turn → ℕ
steps_in turn.Moved = 1
steps_in turn.Idle = 0
steps_in turn.Held = 0
steps_in turn.Starved = 0
steps_in turn.Paused = 0
steps_in turn.Ended = 0

pub turned-steps : (done : Turn) (old new : WorkerState) → HasTurned done old new → steps_made new ≡ steps_made old + steps_in done
turned-steps turn.Moved old new step = step-steps old new step
turned-steps turn.Idle old new idle = rw idle.looked.only (omega arith)
turned-steps turn.Held old new is = rw is (by old.restraint.held)
  where
    by : (b : Bool) → steps_made (if b then old else held_at old) ≡ steps_made old + 0
    by true = omega arith
    by false = omega arith
turned-steps turn.Starved old new same = rw same (omega arith)
turned-steps turn.Paused old new same = rw same (omega arith)
turned-steps turn.Ended old new same = rw same (omega arith)

-- rows rise with steps
pub turned-rows : (done : Turn) (old new : WorkerState) → HasTurned done old new → new.taken + new.emitted ≤ old.taken + old.emitted + steps_in done
turned-rows turn.Moved old new step = (turned-counts turn.Moved old new step).rows
turned-rows turn.Idle old new idle = rw idle.looked.only (omega arith)
turned-rows turn.Held old new is = rw is (by old.restraint.held)
  where
    by : (b : Bool) → (if b then old else held_at old).taken + (if b then old else held_at old).emitted ≤ old.taken + old.emitted + 0
    by true = omega arith
    by false = omega arith
turned-rows turn.Starved old new same = rw same (omega arith)
turned-rows turn.Paused old new same = rw same (omega arith)
turned-rows turn.Ended old new same = rw same (omega arith)

-- ---- many turns

-- a look makes no turn
pub makes-looked : (old new : WorkerState) → IsLookedAt old new → MakesTurns 0 old new
makes-looked old new looked =
    let self = self-looked old new looked in
    record {
      keeps = keeps-looked (is_armed old) old new looked;
      ends = ends-looked old new looked;
      constants = self.constants;
      seat = self.seat;
      mine = self.mine;
      reserved = self.reserved;
      come = all-looked old.ins new.ins looked.looked;
      taken = rw looked.only (omega arith);
      emitted = rw looked.only (omega arith);
      batches = rw looked.only (omega arith);
      rows = rw looked.only (omega arith);
      steps = rw looked.only (omega arith);
      more = rw looked.only (omega arith);
    }

-- nor does nothing
pub makes-same : (old : WorkerState) → MakesTurns 0 old old
makes-same old = makes-looked old old (looked-none old old refl)

-- so many were made, and then so many more
pub makes-then : (m n : ℕ) (a b c : WorkerState) → is_armed b ≡ is_armed a → MakesTurns m a b → MakesTurns n b c → MakesTurns (m + n) a c
makes-then m n a b c armed one two = record {
  keeps = Keeps-then (is_armed a) a b c one.keeps (subst (λ t. KeepsUnder t b c) armed two.keeps);
  ends = ends-then a b c one.ends two.ends;
  constants = two.constants ∙ one.constants;
  seat = seat-then a.seat b.seat c.seat one.seat two.seat;
  mine = λ so. let first = one.mine so in let second = two.mine (armed ∙ so) in omega (arith, first, second);
  reserved = two.reserved ∙ one.reserved;
  come = all-then a.ins b.ins c.ins one.come two.come;
  taken = omega (arith, one.taken, two.taken);
  emitted = omega (arith, one.emitted, two.emitted);
  batches = omega (arith, one.batches, two.batches);
  rows = omega (arith, one.rows, two.rows);
  steps = omega (arith, one.steps, two.steps);
  more = omega (arith, one.more, two.more);
}

-- batches that were sent
receivers-sent : (placement : Placement) (receivers : List ℕ) (output : Output) (outs after : List Downstream) → HaveSentOn outs after → SendAll placement receivers output outs
    → SendAll placement receivers output after
unfolding Pairwise SendAll
receivers-sent placement [] output [] [] sent sends = tt
receivers-sent placement [] output [] (y ∷ after) sent sends = absurd sent
receivers-sent placement [] output (x ∷ outs) after sent sends = absurd sends
receivers-sent placement (receiver ∷ receivers) output [] after sent sends = absurd sends
receivers-sent placement (receiver ∷ receivers) output (x ∷ outs) [] sent sends = absurd sent
receivers-sent placement (receiver ∷ receivers) output (x ∷ outs) (y ∷ after) sent sends =
    let keeps = on-keeps x y sent.0 in (
      record {
        to = sent.0.to ∙ sends.0.to;
        batch_size = keeps.batch_size ∙ sends.0.batch_size;
        over = keeps.ended ∙ sends.0.over;
        carries = carries-forwards x.link y.link (output.gave receiver) (stream_to placement receiver output.rows) sent.0.link sends.0.carries;
      },
      sends.1,
      receivers-sent placement receivers output outs after sent.1 sends.2,
    )

keeps-sent : (counted : Bool) (w : WorkerState) (outs : List Downstream) → HaveSentOn w.outs outs → KeepsUnder counted w (record w { outs = outs })
unfolding KeepsUnder
keeps-sent counted w outs sent context start p armed stands = (
  p,
  record {
    leads = stands.leads;
    text = stands.text;
    shows = Shows-relinked context w p w.ins outs w.journal stands.shows stands.shows.ins stands.shows.sides
        (receivers-sent context.placement context.placement.receivers (output_at context p) w.outs outs sent stands.shows.outs);
  },
)

-- a turn more was driven, and batches were sent
pub makes-sent : (old new : WorkerState) (turned : ℕ) → HasSent (record old { turned = turned }) new → MakesTurns 0 old new
makes-sent old new turned sent = subst (MakesTurns 0 old) (sym sent.only) (record {
  keeps = Keeps-then (is_armed old) old (record old { turned = turned }) (record old { turned = turned; outs = new.outs }) (Keeps-apart (is_armed old) old old.seat old.reserved turned)
      (keeps-sent (is_armed old) (record old { turned = turned }) new.outs sent.sent);
  ends = record { ins = senders-same old.ins; outs = sent_on-ends old.outs new.outs sent.sent; number = refl; when = refl; route = refl };
  constants = refl;
  seat = seat-same old.seat;
  mine = λ so. refl;
  reserved = refl;
  come = all-same old.ins;
  taken = omega arith;
  emitted = omega arith;
  batches = omega arith;
  rows = omega arith;
  steps = omega arith;
  more = omega arith;
})

-- where so many were made, no more than a greater number were
pub makes-more : (m n : ℕ) (old new : WorkerState) → m ≤ n → MakesTurns m old new → MakesTurns n old new
makes-more m n old new within makes = record {
  keeps = makes.keeps;
  ends = makes.ends;
  constants = makes.constants;
  seat = makes.seat;
  mine = makes.mine;
  reserved = makes.reserved;
  come = makes.come;
  taken = makes.taken;
  emitted = makes.emitted;
  batches = makes.batches;
  rows = omega (arith, makes.rows);
  steps = omega (arith, makes.steps);
  more = makes.more;
}

-- a count stays armed or not
pub makes-armed : (n : ℕ) (old new : WorkerState) → MakesTurns n old new → is_armed new ≡ is_armed old
makes-armed n old new makes = seat-armed old.seat new.seat makes.seat

-- how many turns are made that a control leaves to it: none where it is a pause
abbrev pub moves_under : Option Control → ℕ
moves_under told = if is_pause told then 0 else 1

few-steps : (done : Turn) → steps_in done ≤ 1
few-steps turn.Moved = omega arith
few-steps turn.Idle = omega arith
few-steps turn.Held = omega arith
few-steps turn.Starved = omega arith
few-steps turn.Paused = omega arith
few-steps turn.Ended = omega arith

-- one that has finished or is paused does not move
stays_put : (a b c d e f g h i : Bool) → (a || b) ≡ true → (done : Turn) → done ≡ turn_by a b c d e f g h i → steps_in done ≤ 0
stays_put true b c d e f g h i so done is = rw is (omega arith)
stays_put false true c d e f g h i so done is = rw is (omega arith)
stays_put false false c d e f g h i so done is = absurd (false≢true so)

paused-steps : (old new : WorkerState) (done : Turn) → TurnsUnder (Some control.Pause) old new done → steps_in done ≤ 0
paused-steps old new done turns =
    let w = turns.between in
    let next = turns.makes.next in
    stays_put w.finished w.restraint.paused w.restraint.held (has_some w.pending) (is_starved w) (must_hold w) (has_some w.rest) (has_ready next.found) (have_all_ended next.found)
    (ap (λ (v : WorkerState). v.finished || v.restraint.paused) turns.acts ∙ pauses-stand old) done next.is

-- one that is told to pause makes no step
no-step : (told : Option Control) (old new : WorkerState) (done : Turn) → TurnsUnder told old new done → steps_in done ≤ moves_under told
no-step None old new done turns = few-steps done
no-step (Some control.Pause) old new done turns = paused-steps old new done turns
no-step (Some control.Claim) old new done turns = few-steps done
no-step (Some control.Return) old new done turns = few-steps done

-- a turn is one at most
pub makes-turn : (told : Option Control) (old new : WorkerState) (done : Turn) → KeepsUnder (is_armed old) old new → HasSameEnds old new → TurnsUnder told old new done
    → MakesTurns (moves_under told) old new
makes-turn told old new done keeps ends turns =
    let acted = acts-self told old turns.between turns.acts in
    let self = self-then old turns.between new acted.self (turned-self done turns.between new turns.makes.turned) in
    let counts = turned-counts done turns.between new turns.makes.turned in
    let rows = turned-rows done turns.between new turns.makes.turned in
    let steps = turned-steps done turns.between new turns.makes.turned in
    let few = no-step told old new done turns in
    record {
      keeps = keeps;
      ends = ends;
      constants = self.constants;
      seat = self.seat;
      mine = self.mine;
      reserved = self.reserved;
      come = subst (λ ins. Pairwise HaveMoreCome ins new.ins) acted.ins (turned-come done turns.between new turns.makes.turned);
      taken = omega (arith, acted.taken, counts.taken);
      emitted = omega (arith, acted.emitted, counts.emitted);
      batches = omega (arith, acted.batches, counts.batches);
      rows = omega (arith, acted.taken, acted.emitted, rows, few);
      steps = omega (arith, acted.steps, steps, few);
      more = omega (arith, acted.steps, steps);
    }

-- what it is told is no turn
pub makes-acts : (told : Option Control) (old new : WorkerState) → KeepsUnder (is_armed old) old new → HasSameEnds old new → Acts told old new → MakesTurns 0 old new
makes-acts told old new keeps ends acts =
    let acted = acts-self told old new acts in
    record {
      keeps = keeps;
      ends = ends;
      constants = acted.self.constants;
      seat = acted.self.seat;
      mine = acted.self.mine;
      reserved = acted.self.reserved;
      come = subst (λ ins. Pairwise HaveMoreCome old.ins ins) (sym acted.ins) (all-same old.ins);
      taken = omega (arith, acted.taken);
      emitted = omega (arith, acted.emitted);
      batches = omega (arith, acted.batches);
      rows = omega (arith, acted.taken, acted.emitted);
      steps = omega (arith, acted.steps);
      more = omega (arith, acted.steps);
    }
