-- The row before which a worker is held is dropped.
use Rattle.std.proofs.Common.{◌≡◌, refl, sym, ap, ◌∙◌, ℕ, zero, suc, ◌<◌, ◌≤◌, List, [], ◌∷◌, length, drop, set, eqb, Bool, true, false, None, if◌then◌else◌, is_some, inl, inr, arith, length-set}
use Rattle.std.proofs.lemmas.Bool.{cases_lt, eq-eqb, false≢true, ne_eqb}
use Rattle.std.proofs.lemmas.List.{drop_all}
use Rattle.amber_rows.specs.Lists.{first_of}
use Rattle.amber_rows.specs.Topology.{crew_of}
use Rattle.amber_rows.specs.declared.value.Value.{Value}
use Rattle.amber_log.specs.Grammar.{AreEntries}
use Rattle.amber_lines.specs.Moving.{orders_in}
use Rattle.amber_meaning.specs.Legal.{Query}
use Rattle.amber_meaning.specs.Position.{Position, Restraint, produced_rows}
use Rattle.amber_meaning.specs.Rules.{Leads}
use Rattle.amber_meaning.specs.State.{State, position_at, without_held}
use Rattle.amber_worker.specs.AtPosition.{Context, IsAtPosition, Shows}
use Rattle.amber_worker.specs.Changes.{ShowsDropped, held_dropped, row_held}
use Rattle.amber_worker.specs.WorkerState.{WorkerState, steps_made}
use Rattle.amber_worker.proofs.Commands.{shows-dropped}
use Rattle.amber_dataflow.specs.AtWork.{context_in, state_reached, worker_state_at}
use Rattle.amber_dataflow.specs.Dataflow.{AreHeldByRows, DataflowState, HaveDoneNothing, IsDataflow, StandAt, row_held_at, is_held, journal_of, row_dropped, step_count}
use Rattle.amber_dataflow.proofs.Crews.{at-each, here-now, there-still}
use Rattle.amber_dataflow.proofs.Reached.{listed-at}
use Rattle.amber_dataflow.proofs.Renewed.{HasItsEnds, renewed}
use Rattle.amber_dataflow.proofs.Standing.{stand-all}
use Rattle.amber_dataflow.proofs.Steps.{sum-more}

-- a list that goes on behind so many has more
some-behind : (n : ℕ) (rows : List (List Value)) → is_some (first_of (drop n rows)) ≡ true → n < length rows
some-behind n rows some = elim (cases_lt n (length rows)) [
  | inl below ↦ below
  | inr beyond ↦ absurd (false≢true (ap (λ xs. is_some (first_of xs)) (sym (drop_all n rows beyond)) ∙ some))
]

-- a worker without the row
dropped-ends : (w : WorkerState) → HasItsEnds w (held_dropped w)
dropped-ends w = by w.restraint.held
  where
    by : (b : Bool) → HasItsEnds w (if b then record w { restraint = record w.restraint { held = false }; pending = drop 1 w.pending } else w)
    by true = record { number = refl; ins = refl; outs = refl }
    by false = record { number = refl; ins = refl; outs = refl }

dropped-journal : (w : WorkerState) → (held_dropped w).journal ≡ w.journal
dropped-journal w = by w.restraint.held
  where
    by : (b : Bool) → (if b then record w { restraint = record w.restraint { held = false }; pending = drop 1 w.pending } else w).journal ≡ w.journal
    by true = refl
    by false = refl

dropped-made : (w : WorkerState) → steps_made (held_dropped w) ≡ steps_made w
dropped-made w = by w.restraint.held
  where
    by : (b : Bool) → steps_made (if b then record w { restraint = record w.restraint { held = false }; pending = drop 1 w.pending } else w) ≡ steps_made w
    by true = refl
    by false = refl

-- who is held stands before a row
holds-row : (context : Context) (w : WorkerState) (p : Position) → Shows context w p → (w.restraint.held ≡ true → is_some (row_held w) ≡ true)
    → p.restraint.held ≡ true → length p.outcomes < length (produced_rows context.placement.role p)
holds-row context w p shows rows held =
    let here : w.restraint.held ≡ true = ap (λ (r : Restraint). r.held) shows.restraint ∙ held in
    some-behind (length p.outcomes) (produced_rows context.placement.role p)
    (ap (λ xs. is_some (first_of xs)) (sym shows.pending) ∙ ap (λ b. is_some (if b then first_of w.pending else None)) (sym here) ∙ rows here)

module _ (query : Query) (start : State) (d : DataflowState) (positions : ℕ → Position) (stand : StandAt query start d positions)
    (none : HaveDoneNothing d) (rows : AreHeldByRows d) (worker : ℕ) (inside : worker < crew_of query.flow) where
  -- where the workers stand without it
  unfoldable pub dropped_at : ℕ → Position
  dropped_at k = if eqb k worker then without_held (positions k) else positions k

  abbrev crew : List WorkerState
  crew = d.workers

  abbrev now : WorkerState
  now = held_dropped (worker_state_at d.workers worker)

  there : worker < length crew
  there = rw (stand-all query start d positions stand) inside

  same : (k : ℕ) → HasItsEnds (worker_state_at crew k) (worker_state_at (set crew worker now) k)
  same = at-each (λ k. HasItsEnds (worker_state_at crew k) (worker_state_at (set crew worker now) k)) worker
      (rw (here-now crew worker now there) (dropped-ends (worker_state_at crew worker)))
      (λ k ne. rw (there-still crew worker now there k ne) (record { number = refl; ins = refl; outs = refl }))

  -- one of them, with nothing done since
  at : (k : ℕ) → k < crew_of query.flow → IsAtPosition (context_in stand.work.at.at_positions.bases query start k) (worker_state_at (set crew worker now) k) (dropped_at k) (dropped_at k)
  unfolding dropped_at journal_of is_held row_held_at ShowsDropped Leads AreEntries
  at = at-each (λ k. k < crew_of query.flow → IsAtPosition (context_in stand.work.at.at_positions.bases query start k) (worker_state_at (set crew worker now) k) (dropped_at k) (dropped_at k)) worker
      (λ less.
      let w = worker_state_at crew worker in
      let shows = (stand.work.at.at_positions.each worker less).shows in
      let journal : now.journal ≡ [] = dropped-journal w ∙ none worker in
      rw (here-now crew worker now there, eq-eqb worker worker refl)
      (record {
        leads = rw journal refl;
        text = rw journal tt;
        shows = shows-dropped w (context_in stand.work.at.at_positions.bases query start worker) (positions worker) (holds-row (context_in stand.work.at.at_positions.bases query start worker) w (positions worker) shows (rows worker)) shows;
      }))
      (λ k ne less.
      rw (there-still crew worker now there k ne, ne_eqb k worker ne)
      (record { leads = rw (none k) refl; text = rw (none k) tt; shows = (stand.work.at.at_positions.each k less).shows }))

  -- and all of them, in another state with the same orders
  pub stand-dropped : (after : State) → ((k : ℕ) → k < crew_of query.flow → orders_in query after k ≡ orders_in query start k)
      → ((k : ℕ) → k < crew_of query.flow → position_at after.positions k ≡ dropped_at k) → StandAt query after (row_dropped worker d) dropped_at
  stand-dropped after orders is = record {
    flow = stand.flow;
    work = renewed query start after crew (set crew worker now) positions dropped_at stand.work (length-set crew worker now) same
        (λ k less. rw (orders k less, is k less) (at k less));
  }

  pub kept-dropped : IsDataflow d → IsDataflow (row_dropped worker d)
  unfolding step_count
  kept-dropped keeps = record {
    flow = keeps.flow;
    few =
        let more = sum-more crew worker 0 now there (dropped-made (worker_state_at crew worker) ∙ omega arith) in
        let few = keeps.few in
        omega arith;
    stand = λ _.
        let after = state_reached query start dropped_at in (
          query,
          after,
          dropped_at,
          stand-dropped after (λ k less. refl) (λ k less. listed-at dropped_at (crew_of query.flow) k less),
        );
  }

-- nobody has done anything since, where nobody had
pub dropped-nothing : (d : DataflowState) (worker : ℕ) → HaveDoneNothing d → HaveDoneNothing (row_dropped worker d)
unfolding journal_of
dropped-nothing d worker none k = elim (cases_lt worker (length d.workers)) [
  | inl there ↦
      at-each (λ k. (worker_state_at (set d.workers worker (held_dropped (worker_state_at d.workers worker))) k).journal ≡ []) worker
      (ap (λ (w : WorkerState). w.journal) (here-now d.workers worker (held_dropped (worker_state_at d.workers worker)) there)
      ∙ dropped-journal (worker_state_at d.workers worker) ∙ none worker)
      (λ k ne. ap (λ (w : WorkerState). w.journal) (there-still d.workers worker (held_dropped (worker_state_at d.workers worker)) there k ne) ∙ none k) k
  | inr past ↦ ap (λ (crew : List WorkerState). (worker_state_at crew k).journal) (set-past d.workers worker (held_dropped (worker_state_at d.workers worker)) past) ∙ none k
]
  where
    set-past : (crew : List WorkerState) (n : ℕ) (w : WorkerState) → length crew ≤ n → set crew n w ≡ crew
    set-past [] n w past = refl
    set-past (v ∷ crew) zero w past = absurd (omega arith)
    set-past (v ∷ crew) (suc n) w past = ap (λ more. v ∷ more) (set-past crew n w (omega arith))
