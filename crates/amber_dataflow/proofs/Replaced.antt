-- A worker has taken the place of another: all stand where they stood.
use Rattle.std.proofs.Common.{◌≡◌, refl, sym, ap, ◌∙◌, ℕ, ◌<◌, [], List, length, set, arith, length-set}
use Rattle.amber_rows.specs.Topology.{crew_of}
use Rattle.amber_log.specs.Grammar.{AreEntries}
use Rattle.amber_meaning.specs.Legal.{Query}
use Rattle.amber_meaning.specs.Position.{Position, one_if}
use Rattle.amber_meaning.specs.Rules.{Leads}
use Rattle.amber_meaning.specs.State.{State, position_at}
use Rattle.amber_worker.specs.AtPosition.{Context, IsAtPosition, Shows}
use Rattle.amber_worker.specs.Replacing.{ShowsReplaced, StandAlike, with_links_of}
use Rattle.amber_worker.specs.WorkerState.{WorkerState, steps_made}
use Rattle.amber_worker.proofs.Replaced.{shows-replaced}
use Rattle.amber_dataflow.specs.AtWork.{context_in, worker_state_at}
use Rattle.amber_dataflow.specs.Dataflow.{DataflowState, HaveDoneNothing, IsDataflow, StandAt, journal_of, step_count}
use Rattle.amber_dataflow.specs.Replacing.{StandsFor, worker_replaced}
use Rattle.amber_dataflow.proofs.Crews.{at-each, here-now, there-still}
use Rattle.amber_dataflow.proofs.Renewed.{HasItsEnds, renewed}
use Rattle.amber_dataflow.proofs.Standing.{stand-all}
use Rattle.amber_dataflow.proofs.Steps.{sum-more}

-- two workers that show the same position have made as many steps
made-alike : (context : Context) (other : Context) (w made : WorkerState) (p : Position) → Shows context w p → Shows other made p → steps_made made ≡ steps_made w
made-alike context other w made p shows shown =
    let taken = shown.taken ∙ sym shows.taken in
    let emitted = shown.emitted ∙ sym shows.emitted in
    let batches = shown.batches ∙ sym shows.batches in
    let finished = ap one_if (shown.finished ∙ sym shows.finished) in
    omega (arith, taken, emitted, batches, finished)

module _ (query : Query) (start : State) (d : DataflowState) (positions : ℕ → Position) (stand : StandAt query start d positions)
    (none : HaveDoneNothing d) (worker : ℕ) (inside : worker < crew_of query.flow) (made : WorkerState) (rest : made.journal ≡ [])
    (stands : StandsFor query start positions worker made) where
  abbrev crew : List WorkerState
  crew = d.workers

  abbrev old : WorkerState
  old = worker_state_at crew worker

  abbrev now : WorkerState
  now = with_links_of old made

  abbrev context : ℕ → Context
  context k = context_in stand.work.at.at_positions.bases query start k

  there : worker < length crew
  there = rw (stand-all query start d positions stand) inside

  stood : IsAtPosition (context worker) old (position_at start.positions worker) (positions worker)
  stood = stand.work.at.at_positions.each worker inside

  -- the two stand alike
  pub alike : StandAlike old made
  alike = (context worker, stands.base, positions worker, stood.shows, stands.shows)

  same : (k : ℕ) → HasItsEnds (worker_state_at crew k) (worker_state_at (set crew worker now) k)
  same = at-each (λ k. HasItsEnds (worker_state_at crew k) (worker_state_at (set crew worker now) k)) worker
      (rw (here-now crew worker now there) (record { number = stands.shows.number ∙ sym stood.shows.number; ins = refl; outs = refl }))
      (λ k ne. rw (there-still crew worker now there k ne) (record { number = refl; ins = refl; outs = refl }))

  -- the worker stands where the other one stood
  here : IsAtPosition (context worker) now (position_at start.positions worker) (positions worker)
  unfolding Leads AreEntries ShowsReplaced journal_of
  here = record {
    leads = rw (rest) (rw (none worker) at stood.leads);
    text = rw rest tt;
    shows = shows-replaced old made (context worker) stands.base (positions worker) stood.shows stands.shows;
  }

  each : (k : ℕ) → k < crew_of query.flow → IsAtPosition (context k) (worker_state_at (set crew worker now) k) (position_at start.positions k) (positions k)
  each = at-each (λ k. k < crew_of query.flow → IsAtPosition (context k) (worker_state_at (set crew worker now) k) (position_at start.positions k) (positions k)) worker
      (λ less. rw (here-now crew worker now there) here)
      (λ k ne less. rw (there-still crew worker now there k ne) (stand.work.at.at_positions.each k less))

  pub stand-replaced : StandAt query start (worker_replaced worker made d) positions
  stand-replaced = record {
    flow = stand.flow;
    work = renewed query start start crew (set crew worker now) positions positions stand.work (length-set crew worker now) same each;
  }

  pub kept-replaced : IsDataflow d → IsDataflow (worker_replaced worker made d)
  unfolding step_count
  kept-replaced keeps = record {
    flow = keeps.flow;
    few =
        let steps : steps_made now ≡ steps_made old = made-alike (context worker) (context_in (λ _. stands.base) query start worker) old made (positions worker) stood.shows stands.shows in
        let more = sum-more crew worker 0 now there (steps ∙ omega arith) in
        let few = keeps.few in
        omega arith;
    stand = λ _. (query, start, positions, stand-replaced);
  }
