-- A line that one of the workers does again: it is judged well, and leads where the worker stands then.
use Rattle.std.proofs.Common.{◌≡◌, ◌≢◌, refl, sym, ap, subst, ◌∙◌, ℕ, ◌+◌, ◌<◌, ◌≤◌, List, [], ◌∷◌, ◌++◌, length, get_or, set, nat_eq, Bool, true, false, Option, Some, None, is_some, arith, length-set}
use Rattle.std.specs.List.{list_any}
use Rattle.std.proofs.lemmas.Bool.{false≢true, ne_eqb}
use Rattle.amber_rows.specs.Topology.{crew_of}
use Rattle.amber_rows.specs.declared.batch.Batch.{Batch}
use Rattle.amber_link.specs.Links.{waiting}
use Rattle.amber_link.specs.declared.upstreams.Upstream.{Upstream}
use Rattle.amber_lines.specs.Lines.{may_enter, offers_in, position_behind, with_position}
use Rattle.amber_lines.specs.Moving.{TakesOffered, orders_in}
use Rattle.amber_lines.proofs.Entered.{enters, entries_are_tested}
use Rattle.amber_log.specs.declared.entry.Entry.{Entry}
use Rattle.amber_log.specs.declared.entry.Entry.TheVariants as entry
use Rattle.amber_meaning.specs.Legal.{assignment_in, batches_for, role_in}
use Rattle.amber_meaning.specs.Plan.{role_of}
use Rattle.amber_meaning.specs.Position.{Position, taken_from}
use Rattle.amber_meaning.specs.Replay.{batch_for}
use Rattle.amber_meaning.specs.Rules.{May, Moves, Orders, assigned, position_after}
use Rattle.amber_meaning.specs.State.{State, position_at}
use Rattle.amber_meaning.specs.Task.{Role}
use Rattle.amber_meaning.proofs.OneState.{same-batches}
use Rattle.amber_worker.specs.AtPosition.{IsAtPosition, IsLookedAt, placement_of}
use Rattle.amber_worker.specs.Redoing.{CannotRedo, HasBatch, HasRedone, MeetsRule, NeverMeets, StandsAfterLine, batch_from, hand_after, hand_before, offered_to, with_hand}
use Rattle.amber_worker.specs.WorkerState.{WorkerState}
use Rattle.amber_dataflow.specs.AtWork.{IsSameBesides, MovesOnly, SendsTo, context_in, worker_state_at}
use Rattle.amber_dataflow.specs.Passing.{AreSameBesides, Settled}
use Rattle.amber_dataflow.specs.Redoing.{AreRedoneAt, CannotMakeLine, HasMadeLine, IsRedoneCrew, IsSettledFor, LeadsTo, LineComesNext, LineOf, MakesLine, PassesFor, StandBefore, StandStill, Stance, WritesAlone, in_hand, may_be_next, stand_later, state_in}
use Rattle.amber_dataflow.proofs.Behind.{state-placed}
use Rattle.amber_dataflow.proofs.Crews.{at-each, ends-each, here-now, joined-each, placed, same-place, there-still}
use Rattle.amber_dataflow.proofs.InHands.{receives-redone, sending-redone}
use Rattle.amber_dataflow.proofs.Offered.{all-offered, comes-next, looked-there, taken-offered}
use Rattle.amber_dataflow.proofs.OnePlace.{in-place}
use Rattle.amber_dataflow.proofs.Passed.{same-besides}
use Rattle.amber_dataflow.proofs.Reached.{listed-at}

any_batch : Batch
any_batch = record { seq = 0; rows = []; last = false }

-- one that is there
some-sender : (ins : List Upstream) (place : ℕ) → place < length ins → Upstream
some-sender [] place less = absurd (omega arith)
some-sender (one ∷ ins) place less = one

pub same-then : (a b c : WorkerState) → IsSameBesides a b → IsSameBesides b c → IsSameBesides a c
same-then a b c first second = second ∙ ap (λ (w : WorkerState). record w { ins = c.ins; outs = c.outs }) first

-- ---- the rule

-- a rule that is met is met with the batch that is there
met-moves : (role : Role) (orders : Orders) (p : Position) (one : Entry) (offered : Option Batch) → May (assigned role orders) p one → HasBatch one offered
    → Moves (assigned role orders) p one (position_after orders offered one p)
met-moves role orders p (entry.Take from number) None may there = absurd (false≢true there)
met-moves role orders p (entry.Take from number) (Some batch) may there = (batch, may, refl)
met-moves role orders p (entry.Go rows outs) offered may there = (any_batch, may, refl)
met-moves role orders p (entry.Grant n) offered may there = (any_batch, may, refl)
met-moves role orders p (entry.Back n) offered may there = (any_batch, may, refl)
met-moves role orders p entry.Pause offered may there = (any_batch, may, refl)
met-moves role orders p entry.Resume offered may there = (any_batch, may, refl)
met-moves role orders p entry.Hold offered may there = (any_batch, may, refl)
met-moves role orders p entry.Finish offered may there = (any_batch, may, refl)

-- an entry is offered what it takes
met-offered : (offer : ℕ → List Batch) (orders : Orders) (p : Position) (one : Entry) (offered : Option Batch) → batch_for offer one ≡ offered → HasBatch one offered
    → TakesOffered offer p one (position_after orders offered one p)
met-offered offer orders p (entry.Take from number) None is there = absurd (false≢true there)
met-offered offer orders p (entry.Take from number) (Some batch) is there = (batch, is, refl)
met-offered offer orders p (entry.Go rows outs) offered is there = tt
met-offered offer orders p (entry.Grant n) offered is there = tt
met-offered offer orders p (entry.Back n) offered is there = tt
met-offered offer orders p entry.Pause offered is there = tt
met-offered offer orders p entry.Resume offered is there = tt
met-offered offer orders p entry.Hold offered is there = tt
met-offered offer orders p entry.Finish offered is there = tt

-- ---- the line is done

module _ (at : Stance) (crew : List WorkerState) (one : LineOf) (before : StandBefore at one crew) (inside : one.worker < length crew) where
  abbrev worker : ℕ
  worker = one.worker

  abbrev made : Entry
  made = one.line.entry

  abbrev orders : Orders
  orders = orders_in at.query at.start worker

  abbrev p : Position
  p = at.positions worker

  here : worker < crew_of at.query.flow
  here = rw (← before.stand.all) inside

  position-now : position_at (state_in at).positions worker ≡ p
  position-now = listed-at at.positions (crew_of at.query.flow) worker here

  as-line : IsAtPosition (context_in before.stand.bases at.query at.start worker) (with_hand (hand_before one.line.armed) (worker_state_at crew worker))
      (position_at at.start.positions worker) p
  as-line = subst (λ hand. IsAtPosition (context_in before.stand.bases at.query at.start worker) (with_hand hand (worker_state_at crew worker)) (position_at at.start.positions worker) p)
      before.hand.hand (before.stand.each worker here)

  module _ (now : WorkerState) (done : HasRedone one.line (worker_state_at crew worker) now) where
    abbrev offered : Option Batch
    offered = offered_to done.found made

    abbrev q : Position
    q = position_after orders offered made p

    abbrev later : ℕ → Position
    later = placed at.positions worker q

    abbrev moved : List WorkerState
    moved = set crew worker now

    stands : MeetsRule (context_in before.stand.bases at.query at.start worker) done.found p made
        × IsAtPosition (context_in before.stand.bases at.query at.start worker) (with_hand (hand_after one.line) now) (position_at at.start.positions worker) q
    unfolding StandsAfterLine
    stands = done.stands (context_in before.stand.bases at.query at.start worker) (position_at at.start.positions worker) p before.hand.counted as-line

    hand-behind : hand_after one.line ≡ q.restraint.hand
    hand-behind = ap (λ r. r.hand) stands.1.shows.restraint

    later-here : later worker ≡ q
    later-here = rw (same-place worker) refl

    -- they stand behind it
    pub stand-behind : AreRedoneAt (stand_later at later) moved
    stand-behind = record {
      flow = before.stand.flow;
      bases = before.stand.bases;
      earlier = before.stand.earlier;
      all = length-set crew worker now ∙ before.stand.all;
      each = at-each (λ k. k < crew_of at.query.flow
          → IsAtPosition (context_in before.stand.bases at.query at.start k) (in_hand later moved k) (position_at at.start.positions k) (later k)) worker
          (λ less. rw (here-now crew worker now inside, same-place worker, ← hand-behind) stands.1)
          (λ k apart less. rw (there-still crew worker now inside k apart, ne_eqb k worker apart) (before.stand.each k less));
      joined = λ from to from-in to-in.
          joined-each crew moved (ends-each crew worker now inside done.ends) from to (before.stand.joined from to from-in to-in);
    }

    module _ (new : List WorkerState) (passes : PassesFor worker made moved new) where
      stand-then : AreRedoneAt (stand_later at later) new
      unfolding StandStill
      stand-then = passes.still (stand_later at later) stand-behind

      -- what it took was offered
      takes-next : (from number : ℕ) (batch : Batch) → May (assigned (role_in at.query worker) orders) p (entry.Take from number) → batch_from done.found from ≡ Some batch
          → later worker ≡ position_after orders (Some batch) (entry.Take from number) p
          → (list_any (λ (one : Upstream). nat_eq one.from from) (worker_state_at new worker).ins ≡ true → Settled new from worker)
          → batch_for (offers_in at.query (state_in at) worker) (entry.Take from number) ≡ Some batch
      unfolding role_of
      takes-next from number batch may found is settled =
          let does : SendsTo at.query.flow from worker = (here, may.sender) in
          let sends = sending-redone (stand_later at later) new stand-then from worker does in
          let place = in-place (worker_state_at new worker).ins from sends.receives in
          let d = some-sender (worker_state_at new worker).ins place.0 place.1 in
          let apart : from ≢ worker = λ same. (let before = sends.before in absurd (omega arith)) in
          let there : from < crew_of at.query.flow = (let before = sends.before in omega arith) in
          let all = all-offered (stand_later at later) new stand-then from worker does (settled sends.receives) place.0 d place.1 (place.2 d) in
          let same : batches_for at.query (state_in (stand_later at later)).positions from worker ≡ batches_for at.query (state_in at).positions from worker =
          same-batches at.query (state_in (stand_later at later)).positions (state_in at).positions from worker
          (listed-at later (crew_of at.query.flow) from there ∙ rw (ne_eqb from worker apart) refl ∙ sym (listed-at at.positions (crew_of at.query.flow) from there)) in
          taken-offered p from number batch (waiting (get_or (worker_state_at new worker).ins place.0 d).link) (batches_for at.query (state_in at).positions from worker) may.next
          (ap (λ (r : Position). taken_from r.taken from ++ waiting (get_or (worker_state_at new worker).ins place.0 d).link) (sym is) ∙ all ∙ same)

      offered-so : batch_for (offers_in at.query (state_in at) worker) made ≡ offered
      unfolding placement_of
      offered-so = by made stands.0.may stands.0.there later-here passes.settled
        where
          taken : (from number : ℕ) (found : Option Batch) → batch_from done.found from ≡ found → May (assigned (role_in at.query worker) orders) p (entry.Take from number) → is_some found ≡ true
              → later worker ≡ position_after orders found (entry.Take from number) p
              → (list_any (λ (one : Upstream). nat_eq one.from from) (worker_state_at new worker).ins ≡ true → Settled new from worker)
              → batch_for (offers_in at.query (state_in at) worker) (entry.Take from number) ≡ found
          taken from number None is may there stands settled = absurd (false≢true there)
          taken from number (Some batch) is may there stands settled = takes-next from number batch may is stands settled

          by : (e : Entry) → May (assigned (role_in at.query worker) orders) p e → HasBatch e (offered_to done.found e)
              → later worker ≡ position_after orders (offered_to done.found e) e p → IsSettledFor new worker e
              → batch_for (offers_in at.query (state_in at) worker) e ≡ offered_to done.found e
          by (entry.Take from number) may there is settled = taken from number (batch_from done.found from) refl may there is settled
          by (entry.Go rows outs) may there is settled = refl
          by (entry.Grant n) may there is settled = refl
          by (entry.Back n) may there is settled = refl
          by entry.Pause may there is settled = refl
          by entry.Resume may there is settled = refl
          by entry.Hold may there is settled = refl
          by entry.Finish may there is settled = refl

      may-come : may_be_next at one ≡ true
      unfolding placement_of
      may-come =
          (entries_are_tested at.query (state_in at) worker made).1 (
            q,
            rw position-now (met-moves (role_in at.query worker) orders p made offered stands.0.may stands.0.there),
            rw position-now (met-offered (offers_in at.query (state_in at) worker) orders p made offered offered-so stands.0.there),
          )

      behind-is : position_behind at.query (state_in at) worker made ≡ q
      unfolding position_behind
      behind-is = rw (position-now, offered-so) refl

      pub leads-there : LeadsTo at one later
      leads-there = record {
        may = may-come;
        leads = state-placed at.query at.start at.positions worker here q
            ∙ ap (λ (r : Position). with_position worker r (state_in at)) (sym behind-is);
        hand = ap (λ (r : Position). r.restraint.hand) later-here ∙ sym hand-behind;
        others = λ other apart. rw (ne_eqb other worker apart) refl;
      }

  -- ---- it could not be done

  module _ (now : WorkerState) (cannot : CannotRedo one.line (worker_state_at crew worker) now) (settled : IsSettledFor crew worker made) where
    there-anyway : (e : Entry) (r : Position) → May (assigned (role_in at.query worker) orders) p e → TakesOffered (offers_in at.query (state_in at) worker) p e r → IsSettledFor crew worker e
        → HasBatch e (offered_to now.ins e)
    unfolding role_of
    there-anyway (entry.Take from number) r may takes settled =
        let does : SendsTo at.query.flow from worker = (here, may.sender) in
        let sends = sending-redone at crew before.stand from worker does in
        looked-there from (worker_state_at crew worker).ins now.ins cannot.looked.looked sends.receives
        (λ k d less own. comes-next at crew before.stand from worker does (settled sends.receives) k d less own number takes.0 may.next takes.1)
    there-anyway (entry.Go rows outs) r may takes settled = tt
    there-anyway (entry.Grant n) r may takes settled = tt
    there-anyway (entry.Back n) r may takes settled = tt
    there-anyway entry.Pause r may takes settled = tt
    there-anyway entry.Resume r may takes settled = tt
    there-anyway entry.Hold r may takes settled = tt
    there-anyway entry.Finish r may takes settled = tt

    pub cannot-make : may_be_next at one ≡ false
    unfolding NeverMeets placement_of
    cannot-make = by (may_be_next at one) refl
      where
        by : (b : Bool) → may_be_next at one ≡ b → b ≡ false
        by false is = refl
        by true is =
            let all = enters at.query (state_in at) worker made is in
            let may : May (assigned (role_in at.query worker) orders) p made = rw (← position-now) all.0.1 in
            absurd (cannot.never (context_in before.stand.bases at.query at.start worker) p before.hand.counted as-line.shows
            (record { may = may; there = there-anyway made (position_behind at.query (state_in at) worker made) may (rw (← position-now) all.1) settled }))

-- ---- the calls around it

module _ (old mid new : List WorkerState) (one : LineOf) (inside : one.worker < length old) (first : PassesFor one.worker one.line.entry old mid) where
  inside-mid : one.worker < length mid
  inside-mid = rw first.long inside

  still : (at : Stance) → StandBefore at one old → StandBefore at one mid
  unfolding StandStill
  still at before = record { stand = first.still at before.stand; hand = before.hand }

  module _ (now : WorkerState) (done : HasRedone one.line (worker_state_at mid one.worker) now) (second : PassesFor one.worker one.line.entry (set mid one.worker now) new) where
    was : IsSameBesides (worker_state_at old one.worker) (worker_state_at mid one.worker)
    was = first.aside one.worker

    is-now : IsSameBesides now (worker_state_at new one.worker)
    is-now = subst (λ w. IsSameBesides w (worker_state_at new one.worker)) (here-now mid one.worker now inside-mid) (second.aside one.worker)

    alone : WritesAlone one.worker (one.line.entry ∷ []) old new
    alone = record {
      long = second.long ∙ length-set mid one.worker now ∙ first.long;
      writes = ap (λ (w : WorkerState). w.journal) is-now ∙ done.journal ∙ ap (λ (w : WorkerState). w.journal ++ one.line.entry ∷ []) was;
      seat = ap (λ (w : WorkerState). w.seat) is-now ∙ done.seat ∙ ap (λ (w : WorkerState). w.seat) was;
      undriven = ap (λ (w : WorkerState). w.turned) is-now ∙ done.turned ∙ ap (λ (w : WorkerState). w.turned) was;
      others = λ other apart.
          same-then (worker_state_at old other) (worker_state_at mid other) (worker_state_at new other) (first.aside other)
          (subst (λ w. IsSameBesides w (worker_state_at new other)) (there-still mid one.worker now inside-mid other apart) (second.aside other));
    }

    pub made-line : HasMadeLine one old new
    unfolding MakesLine StandStill
    made-line = record {
      makes = λ at before.
          let then = still at before in (
            later at mid one then inside-mid now done,
            second.still (stand_later at (later at mid one then inside-mid now done)) (stand-behind at mid one then inside-mid now done),
            leads-there at mid one then inside-mid now done new second,
          );
      unarmed = done.unarmed;
      alone = alone;
    }

  pub moved-crew : (now : WorkerState) → HasRedone one.line (worker_state_at mid one.worker) now → LineComesNext one old → IsRedoneCrew (set mid one.worker now)
  moved-crew now done next =
      let then = still next.0 next.1 in
      (stand_later next.0 (later next.0 mid one then inside-mid now done), stand-behind next.0 mid one then inside-mid now done)

  pub not-made : (now : WorkerState) → CannotRedo one.line (worker_state_at mid one.worker) now → CannotMakeLine one old
  unfolding CannotMakeLine
  not-made now cannot at before = cannot-make at mid one (still at before) inside-mid now cannot first.settled
