-- What stays where batches go on from one worker to another.
use Rattle.std.proofs.Common.{◌≡◌, ◌≢◌, refl, sym, ap, subst, ◌∙◌, ℕ, ◌<◌, List, length, set, nat_eq, true, arith, length-set}
use Rattle.std.specs.List.{list_any}
use Rattle.amber_worker.specs.Pairs.{AreJoined}
use Rattle.amber_worker.specs.WorkerState.{WorkerState}
use Rattle.amber_dataflow.specs.AtWork.{AreJoinedAt, IsJoinedCrew, IsSameBesides, StayPut, worker_state_at}
use Rattle.amber_dataflow.specs.Passing.{AreSameBesides, Come, IsSettledAt, MayPass, PassedOn, Settled, SettledStay}
use Rattle.amber_dataflow.proofs.Crews.{at-each, here-now, joined-stays, there-still}
use Rattle.amber_dataflow.proofs.Linked.{come-aside, come-settled, settled-aside, settled-beside, settled-same}
use Rattle.amber_dataflow.proofs.Numbers.{length-put}
use Rattle.amber_dataflow.proofs.Sending.{number-shown, sending, sending-in, sending-out}

-- ---- nothing has changed

pub put-same : (crew : List WorkerState) → StayPut crew crew
unfolding StayPut
put-same crew query start positions at = at

pub put-then : (a b c : List WorkerState) → StayPut a b → StayPut b c → StayPut a c
unfolding StayPut
put-then a b c first second query start positions at = second query start positions (first query start positions at)

pub joined-put : (old new : List WorkerState) → IsJoinedCrew old → StayPut old new → IsJoinedCrew new
unfolding StayPut
joined-put old new crew put = (crew.0, crew.1, crew.2, put crew.0 crew.1 crew.2 crew.3)

pub same-besides : (old new : WorkerState) → new ≡ old → IsSameBesides old new
same-besides old new same = same ∙ ap (λ (w : WorkerState). record old { ins = w.ins; outs = w.outs }) (sym same)

pub besides-then : (a b c : List WorkerState) → AreSameBesides a b → AreSameBesides b c → AreSameBesides a c
besides-then a b c first second worker =
    second worker ∙ ap (λ (w : WorkerState). record w { ins = (worker_state_at c worker).ins; outs = (worker_state_at c worker).outs }) (first worker)

pub besides-same : (crew : List WorkerState) → AreSameBesides crew crew
besides-same crew worker = refl

pub stay-same : (crew : List WorkerState) → SettledStay crew crew
stay-same crew from to before there settled = settled

pub stay-then : (a b c : List WorkerState) → length b ≡ length a → SettledStay a b → SettledStay b c → SettledStay a c
stay-then a b c long first second from to before there settled = second from to before (rw long there) (first from to before there settled)

-- ---- batches may go on

pub can-pass : (crew : List WorkerState) (from to : ℕ) → IsJoinedCrew crew → from < length crew
    → list_any (λ one. nat_eq one.to to) (worker_state_at crew from).outs ≡ true → MayPass crew from to
can-pass crew from to joined inside known =
    let at = joined.3 in
    let one = sending-out joined.0 joined.1 crew joined.2 at from to inside known in
    record {
      before = one.before;
      there = one.there;
      sends = rw one.to_number known;
      receives = rw one.from_number one.receives;
      joined = at.joined from to (rw (← at.at_positions.all) inside) (rw (← at.at_positions.all) one.there);
    }

-- ---- batches went on

module _ (old new : List WorkerState) (from to : ℕ) (passed : PassedOn old from to new) where
  abbrev between : List WorkerState
  between = set old from passed.from_now

  from-inside : from < length old
  from-inside = let before = passed.before in let there = passed.there in omega arith

  to-inside : to < length between
  to-inside = rw length-set passed.there

  apart : to ≢ from
  apart = λ same. let before = passed.before in absurd (omega arith)

  to-between : worker_state_at between to ≡ worker_state_at old to
  to-between = there-still old from passed.from_now from-inside to apart

  pub from-here : worker_state_at new from ≡ passed.from_now
  from-here = ap (λ crew. worker_state_at crew from) passed.is
      ∙ there-still between to passed.to_now to-inside from (λ same. apart (sym same)) ∙ here-now old from passed.from_now from-inside

  pub to-here : worker_state_at new to ≡ passed.to_now
  to-here = ap (λ crew. worker_state_at crew to) passed.is ∙ here-now between to passed.to_now to-inside

  pub other-here : (k : ℕ) → k ≢ from → k ≢ to → worker_state_at new k ≡ worker_state_at old k
  other-here k not-from not-to = ap (λ crew. worker_state_at crew k) passed.is
      ∙ there-still between to passed.to_now to-inside k not-to ∙ there-still old from passed.from_now from-inside k not-from

  pub passed-length : length new ≡ length old
  passed-length = ap length passed.is ∙ length-set between to passed.to_now ∙ length-set old from passed.from_now

  -- all stand where they stood
  pub put-passed : StayPut old new
  unfolding StayPut
  put-passed query start positions at =
      subst (λ crew. AreJoinedAt query start crew positions) (sym passed.is)
      (joined-stays query start between positions to passed.to_now
      (joined-stays query start old positions from passed.from_now at from-inside passed.from_stays passed.from_ends) to-inside
      (rw to-between passed.to_stays) (rw to-between passed.to_ends))

  -- the link is settled
  pub settled-passed : Settled new from to
  settled-passed = rw (from-here, to-here) passed.settled

  from-besides : IsSameBesides (worker_state_at old from) (worker_state_at new from)
  from-besides = rw from-here (passed.passes.from_only ∙ ap (λ outs. record (worker_state_at old from) { outs = outs }) (sym (ap (λ (w : WorkerState). w.outs) passed.passes.from_only))
      ∙ ap (λ ins. record (worker_state_at old from) { ins = ins; outs = passed.from_now.outs }) (sym (ap (λ (w : WorkerState). w.ins) passed.passes.from_only)))

  to-besides : IsSameBesides (worker_state_at old to) (worker_state_at new to)
  to-besides = rw to-here (passed.passes.to_only ∙ ap (λ ins. record (worker_state_at old to) { ins = ins }) (sym (ap (λ (w : WorkerState). w.ins) passed.passes.to_only))
      ∙ ap (λ outs. record (worker_state_at old to) { ins = passed.to_now.ins; outs = outs }) (sym (ap (λ (w : WorkerState). w.outs) passed.passes.to_only)))

  -- nothing but batches has changed
  pub besides-passed : AreSameBesides old new
  besides-passed = at-each (λ k. IsSameBesides (worker_state_at old k) (worker_state_at new k)) from from-besides
      (λ k not-from. at-each (λ k. k ≢ from → IsSameBesides (worker_state_at old k) (worker_state_at new k)) to (λ _. to-besides)
      (λ k not-to not-from. same-besides (worker_state_at old k) (worker_state_at new k) (other-here k not-from not-to)) k not-from)

  module _ (numbers : (k : ℕ) → k < length old → (worker_state_at old k).number ≡ k) where
    -- and every link that was settled still is
    pub stay-passed : SettledStay old new
    stay-passed a b before inside = at-each (λ a. a < b → Settled old a b → Settled new a b) from here there a before
      where
        here : from < b → Settled old from b → Settled new from b
        here before = at-each (λ b. b < length old → from < b → Settled old from b → Settled new from b) to (λ _ _ _. settled-passed)
            (λ b not-to inside before settled. rw (from-here, other-here b (λ same. absurd (omega arith)) not-to)
            (settled-aside (worker_state_at old from) (worker_state_at old to) passed.from_now passed.to_now (worker_state_at old b) passed.passes
            (λ same. not-to (sym (numbers b inside) ∙ same ∙ numbers to passed.there)) settled)) b inside before

        there : (a : ℕ) → a ≢ from → a < b → Settled old a b → Settled new a b
        there a not-from before = at-each (λ b. b < length old → a < b → Settled old a b → Settled new a b) to
            (λ inside before settled. rw (other-here a not-from (λ same. absurd (omega arith)), to-here)
            (settled-beside (worker_state_at old from) (worker_state_at old to) passed.from_now passed.to_now (worker_state_at old a) passed.passes
            (λ same. not-from (sym (numbers a (omega arith)) ∙ same ∙ numbers from from-inside)) settled))
            (λ b not-to inside before settled. settled-same (worker_state_at old a) (worker_state_at new a) (worker_state_at old b) (worker_state_at new b)
            (outs-still a not-from) (number-still a) (ins-still b not-to) (number-still b) settled) b inside before
          where
            number-still : (k : ℕ) → (worker_state_at new k).number ≡ (worker_state_at old k).number
            number-still k = ap (λ (w : WorkerState). w.number) (besides-passed k)

            outs-still : (k : ℕ) → k ≢ from → (worker_state_at new k).outs ≡ (worker_state_at old k).outs
            outs-still = at-each (λ k. k ≢ from → (worker_state_at new k).outs ≡ (worker_state_at old k).outs) to
                (λ _. ap (λ (w : WorkerState). w.outs) (to-here ∙ passed.passes.to_only))
                (λ k not-to not-from. ap (λ (w : WorkerState). w.outs) (other-here k not-from not-to))

            ins-still : (k : ℕ) → k ≢ to → (worker_state_at new k).ins ≡ (worker_state_at old k).ins
            ins-still k not-to = at-each (λ k. k ≢ to → (worker_state_at new k).ins ≡ (worker_state_at old k).ins) from
                (λ _. ap (λ (w : WorkerState). w.ins) (from-here ∙ passed.passes.from_only))
                (λ k not-from not-to. ap (λ (w : WorkerState). w.ins) (other-here k not-from not-to)) k not-to

    pub come-passed : (b : ℕ) → from < b → b < length old → Come old from b → Come new from b
    come-passed b before inside come = at-each (λ b. b < length old → from < b → Come old from b → Come new from b) to
        (λ _ _ _. come-settled (worker_state_at new from) (worker_state_at new to) settled-passed)
        (λ b not-to inside before come. rw (from-here, other-here b (λ same. absurd (omega arith)) not-to)
        (come-aside (worker_state_at old from) (worker_state_at old to) passed.from_now passed.to_now (worker_state_at old b) passed.passes
        (λ same. not-to (sym (numbers b inside) ∙ same ∙ numbers to passed.there)) come)) b inside before come

-- the numbers of workers that are joined
pub numbers-of : (crew : List WorkerState) → IsJoinedCrew crew → (k : ℕ) → k < length crew → (worker_state_at crew k).number ≡ k
numbers-of crew joined = number-shown joined.0 joined.1 crew joined.2 joined.3

-- what one worker has made went on, and then what was made for it
module _ (old between new : List WorkerState) (number : ℕ) (joined : IsJoinedCrew old) (inside : number < length old) (put : StayPut old between)
    (outs : (to : ℕ) → list_any (λ one. nat_eq one.to to) (worker_state_at old number).outs ≡ true → Settled between number to)
    (others : SettledStay old between) (aside : AreSameBesides old between) where
  pub settled-both : StayPut between new → ((from : ℕ) → list_any (λ one. nat_eq one.from from) (worker_state_at between number).ins ≡ true → Settled new from number)
      → SettledStay between new → AreSameBesides between new → IsSettledAt old new number
  unfolding StayPut
  settled-both put-next ins others-next aside-next =
      let query = joined.0 in
      let start = joined.1 in
      let positions = joined.2 in
      let long = length-put old between joined put in
      record {
        put = put-then old between new put put-next;
        outs = λ to known.
            let one = sending-out query start old positions joined.3 number to inside known in
            others-next number to one.before (rw long one.there) (outs to known);
        ins = λ from known.
            let one = sending-in query start old positions joined.3 from number inside known in
            ins from (sending query start between positions (put query start positions joined.3) from number one.does).receives;
        others = stay-then old between new long others others-next;
        aside = besides-then old between new aside aside-next;
      }
