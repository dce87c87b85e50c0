-- The state that workers reach within a leg, and that the leg is open there.
use Rattle.std.proofs.Common.{◌≡◌, refl, sym, ap, ◌∙◌, ℕ, ◌<◌, ◌≤◌, ◌^◌, List, [], ◌∷◌, length, true, false, get_or, None, Some, zero-add, arith}
use Rattle.std.proofs.lemmas.List.{take_all}
use Rattle.amber_rows.specs.Topology.{crew_of}
use Rattle.amber_link.specs.Links.{waiting}
use Rattle.amber_link.specs.declared.upstreams.Upstream.{Upstream}
use Rattle.amber_log.specs.Grammar.{AreParts}
use Rattle.amber_meaning.specs.Legal.{AreOffered, IsWorked, Query, assignment_in, batches_for, entries_of, stream_of}
use Rattle.amber_meaning.specs.Plan.{role_of}
use Rattle.amber_meaning.specs.Position.{Position}
use Rattle.amber_meaning.specs.Replay.{after_leg}
use Rattle.amber_meaning.specs.Rules.{Leads}
use Rattle.amber_meaning.specs.State.{State, have_finished, position_at, steps_in}
use Rattle.amber_meaning.proofs.OneState.{legs_have_one_state}
use Rattle.amber_meaning.proofs.Senders.{flows_send_forward}
use Rattle.amber_worker.specs.AtPosition.{placement_of}
use Rattle.amber_worker.specs.Pairs.{OffersAll}
use Rattle.amber_worker.specs.WorkerState.{WorkerState}
use Rattle.amber_worker.proofs.PairFacts.{offers-all}
use Rattle.amber_worker.proofs.Settling.{steps-shown}
use Rattle.amber_dataflow.specs.AtWork.{AreAtWork, HaveFinished, context_in, state_reached, steps_by, worker_state_at}
use Rattle.amber_dataflow.specs.Parts.{parts_from}
use Rattle.amber_dataflow.proofs.OnePlace.{in-place}
use Rattle.amber_dataflow.proofs.PartFacts.{are-parts, entries-at, part-above}
use Rattle.amber_dataflow.proofs.Reached.{all-finished, length-listed, listed-at, not-finished, steps-listed}
use Rattle.amber_dataflow.proofs.Sending.{sending}

-- one that is there
first-of-senders : (ins : List Upstream) (place : ℕ) → place < length ins → Upstream
first-of-senders [] place less = absurd (omega arith)
first-of-senders (one ∷ ins) place less = one

none-some : {A : Type 0} {x : A} → None ≡ Some x → ⊥
none-some e = cc

pub entries-here : (crew : List WorkerState) (worker : ℕ) → entries_of (parts_from 0 crew) worker ≡ (worker_state_at crew worker).journal
entries-here crew worker = ap (entries_of (parts_from 0 crew)) (sym (zero-add worker)) ∙ entries-at 0 crew worker

module _ (query : Query) (start : State) (crew : List WorkerState) (positions : ℕ → Position) (work : AreAtWork query start crew positions) where
  abbrev reached : State
  reached = state_reached query start positions

  pub position-here : (worker : ℕ) → worker < crew_of query.flow → position_at reached.positions worker ≡ positions worker
  position-here worker inside = listed-at positions (crew_of query.flow) worker inside

  -- what each worker took of each sender are the first batches that the sender has made for it
  pub offered : AreOffered query reached.positions
  unfolding AreOffered batches_for stream_of OffersAll placement_of role_of
  offered receiver inside sender known =
      let one = sending query start crew positions work.at sender receiver (inside, known) in
      let before = one.before in
      let there : sender < crew_of query.flow = omega arith in
      let sends = work.at.at_positions.each sender there in
      let takes = work.at.at_positions.each receiver inside in
      let at = in-place (worker_state_at crew receiver).ins sender one.receives in
      let place = at.0 in
      let d : Upstream = first-of-senders (worker_state_at crew receiver).ins place at.1 in
      let all = offers-all (worker_state_at crew sender) (worker_state_at crew receiver) (work.settled sender receiver one.does)
      (record { context = context_in work.at.at_positions.bases query start sender; position = positions sender }) (record { context = context_in work.at.at_positions.bases query start receiver; position = positions receiver })
      (record { shows = sends.shows; other_shows = takes.shows; earlier = work.at.at_positions.earlier sender receiver })
      place d at.1 (at.2 d) in (
        waiting (get_or (worker_state_at crew receiver).ins place d).link,
        rw (position-here receiver inside, position-here sender there) all,
      )

  pub leads-at : (worker : ℕ) → worker < crew_of query.flow
      → Leads (assignment_in query start worker) (position_at start.positions worker) (worker_state_at crew worker).journal (positions worker)
  unfolding placement_of
  leads-at worker inside = (work.at.at_positions.each worker inside).leads

  -- the leg was worked so
  pub worked : IsWorked query start (parts_from 0 crew) reached
  worked = record {
    same_arms = refl;
    crew = length-listed positions (crew_of query.flow);
    known = λ worker known. let below = (part-above 0 crew worker known).1 in let all = work.at.at_positions.all in omega arith;
    moved = λ worker inside. rw (entries-here crew worker, position-here worker inside) (leads-at worker inside);
    offered = offered;
  }

  pub after-is : after_leg query start (parts_from 0 crew) ≡ reached
  after-is = legs_have_one_state query start reached (parts_from 0 crew) (flows_send_forward query.flow work.at.flow) worked

  pub parts-text : length crew ≤ 2 ^ 32 → AreParts 0 (parts_from 0 crew)
  parts-text few = are-parts 0 crew (rw zero-add few) (λ i below. (work.at.at_positions.each i (rw (← work.at.at_positions.all) below)).text)

  -- the steps of the state are those of the workers
  pub steps-reached : steps_in reached ≡ steps_by crew
  unfolding steps_in
  steps-reached =
      steps-listed crew positions (crew_of query.flow) (let all = work.at.at_positions.all in omega arith)
      (λ k below. steps-shown (context_in work.at.at_positions.bases query start k) (worker_state_at crew k) (positions k) (work.at.at_positions.each k below).shows)
      ∙ ap steps_by (take_all (crew_of query.flow) crew (let all = work.at.at_positions.all in omega arith))

  -- whether all have finished
  pub finished-reached : HaveFinished (length crew) crew → have_finished reached ≡ true
  finished-reached done =
      all-finished positions (crew_of query.flow) (λ k below. sym (work.at.at_positions.each k below).shows.finished ∙ done k (rw work.at.at_positions.all below))

  pub unfinished-reached : (worker : ℕ) → worker < length crew → (worker_state_at crew worker).finished ≡ false → have_finished reached ≡ false
  unfinished-reached worker inside not-yet =
      let here : worker < crew_of query.flow = rw (← work.at.at_positions.all) inside in
      not-finished positions (crew_of query.flow) worker here (sym (work.at.at_positions.each worker here).shows.finished ∙ not-yet)
