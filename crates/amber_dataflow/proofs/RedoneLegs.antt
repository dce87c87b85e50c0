-- Workers that begin to do a leg again, that have done a part of it, and that end it.
use Rattle.std.proofs.Common.{◌≡◌, ◌≢◌, refl, sym, ap, subst, ◌∙◌, ℕ, zero, suc, ◌+◌, ◌<◌, ◌≤◌, List, [], ◌∷◌, ◌++◌, length, map, Bool, true, false, None, if◌then◌else◌, arith, append-nil, append_assoc}
use Rattle.std.proofs.lemmas.Bool.{false≢true}
use Rattle.std.proofs.lemmas.List.{length-map}
use Rattle.amber_rows.specs.Topology.{crew_of}
use Rattle.amber_link.specs.Links.{has_some}
use Rattle.amber_link.proofs.SameEnds.{receivers-same, senders-same}
use Rattle.amber_log.specs.Grammar.{AreParts}
use Rattle.amber_log.specs.ReadLines.{part_of}
use Rattle.amber_log.specs.declared.entry.Entry.{Entry}
use Rattle.amber_log.specs.declared.leg.Part.{Part}
use Rattle.amber_meaning.specs.Legal.{Query}
use Rattle.amber_meaning.specs.Position.{Position}
use Rattle.amber_meaning.specs.State.{State, position_at}
use Rattle.amber_worker.specs.AtPosition.{Context, HasSameEnds, IsAtPosition}
use Rattle.amber_worker.specs.Redoing.{with_hand}
use Rattle.amber_worker.specs.WorkerState.{WorkerState}
use Rattle.amber_worker.proofs.Apart.{shows-apart}
use Rattle.amber_dataflow.specs.AtWork.{AreJoinedAt, context_in, steps_by, worker_state_at}
use Rattle.amber_dataflow.specs.Dataflow.{DataflowState, StandAt}
use Rattle.amber_dataflow.specs.Parts.{part_if_any, parts_from}
use Rattle.amber_dataflow.specs.Redoing.{AreRedoneAt, Stance, WritesAlone, emptied, in_hand}
use Rattle.amber_dataflow.proofs.Crews.{joined-each}
use Rattle.amber_dataflow.proofs.Standing.{steps-mapped}

-- ---- they begin

-- a worker has in hand what its position has
own-hand : (context : Context) (w : WorkerState) (start p : Position) → IsAtPosition context w start p → IsAtPosition context (with_hand p.restraint.hand w) start p
own-hand context w start p stands =
    subst (λ hand. IsAtPosition context (with_hand hand w) start p) (ap (λ r. r.hand) stands.shows.restraint) stands

pub redone-from : (query : Query) (start : State) (d : DataflowState) (positions : ℕ → Position) → StandAt query start d positions
    → AreRedoneAt (record { query = query; start = start; positions = positions }) d.workers
redone-from query start d positions stand =
    let at = stand.work.at in
    record {
      flow = at.flow;
      bases = at.at_positions.bases;
      earlier = at.at_positions.earlier;
      all = at.at_positions.all;
      each = λ worker inside. own-hand (context_in at.at_positions.bases query start worker) (worker_state_at d.workers worker) (position_at start.positions worker) (positions worker)
          (at.at_positions.each worker inside);
      joined = at.joined;
    }

-- ---- they end

pub emptied-at : (crew : List WorkerState) (k : ℕ) → k < length crew → worker_state_at (map emptied crew) k ≡ emptied (worker_state_at crew k)
emptied-at [] k less = absurd (omega arith)
emptied-at (w ∷ crew) zero less = refl
emptied-at (w ∷ crew) (suc k) less = emptied-at crew k (omega arith)

stands-emptied : (context : Context) (w : WorkerState) (start p : Position) → IsAtPosition context (with_hand 0 w) start p → IsAtPosition context (emptied w) start p
stands-emptied context w start p stands = record {
  leads = stands.leads;
  text = stands.text;
  shows = shows-apart context (with_hand 0 w) p
      (record { seat = None; restraint = (with_hand 0 w).restraint; journal = w.journal; reserved = false; turned = w.turned }) p.restraint stands.shows.restraint stands.shows;
}

ends-emptied : (crew : List WorkerState) (k : ℕ) → HasSameEnds (worker_state_at crew k) (worker_state_at (map emptied crew) k)
ends-emptied [] k = record { ins = senders-same _; outs = receivers-same _; number = refl; when = refl; route = refl }
ends-emptied (w ∷ crew) zero = record { ins = senders-same w.ins; outs = receivers-same w.outs; number = refl; when = refl; route = refl }
ends-emptied (w ∷ crew) (suc k) = ends-emptied crew k

-- where no hand holds a unit they stand there
pub joined-emptied : (at : Stance) (crew : List WorkerState) → AreRedoneAt at crew → ((worker : ℕ) → worker < crew_of at.query.flow → (at.positions worker).restraint.hand ≡ 0)
    → AreJoinedAt at.query at.start (map emptied crew) at.positions
joined-emptied at crew stand empty = record {
  flow = stand.flow;
  at_positions = record {
    bases = stand.bases;
    earlier = stand.earlier;
    all = length-map crew emptied ∙ stand.all;
    each = λ worker inside.
        let context = context_in stand.bases at.query at.start worker in
        let start = position_at at.start.positions worker in
        rw (emptied-at crew worker (rw stand.all inside))
        (stands-emptied context (worker_state_at crew worker) start (at.positions worker)
        (subst (λ hand. IsAtPosition context (with_hand hand (worker_state_at crew worker)) start (at.positions worker)) (empty worker inside) (stand.each worker inside)));
  };
  joined = λ from to from-in to-in. joined-each crew (map emptied crew) (ends-emptied crew) from to (stand.joined from to from-in to-in);
}

pub emptied-parts : (number : ℕ) (crew : List WorkerState) → parts_from number (map emptied crew) ≡ parts_from number crew
unfolding parts_from
emptied-parts number [] = refl
emptied-parts number (w ∷ crew) = ap (λ rest. part_if_any number w.journal ++ rest) (emptied-parts (number + 1) crew)

pub emptied-steps : (crew : List WorkerState) → steps_by (map emptied crew) ≡ steps_by crew
emptied-steps crew = steps-mapped emptied (λ w. refl) crew

-- ---- a part more

last-above : (least worker : ℕ) (entries : List Entry) (parts : List Part) → AreParts least (parts ++ part_of worker entries ∷ []) → least ≤ worker
unfolding AreParts
last-above least worker entries [] are = are.0
last-above least worker entries (one ∷ parts) are =
    let above = last-above (one.worker + 1) worker entries parts are.2 in
    let first = are.0 in
    omega arith

nothing-written : (journal : List Entry) → has_some journal ≡ false → journal ≡ []
nothing-written [] e = refl
nothing-written (one ∷ more) e = absurd (false≢true (sym e))

-- who stands behind the last part has written nothing
pub none-behind : (least number : ℕ) (crew : List WorkerState) (worker : ℕ) (entries : List Entry) → AreParts least (parts_from number crew ++ part_of worker entries ∷ [])
    → (i : ℕ) → worker ≤ number + i → (worker_state_at crew i).journal ≡ []
unfolding parts_from AreParts
none-behind least number [] worker entries are i behind = refl
none-behind least number (w ∷ crew) worker entries are zero behind = by (has_some w.journal) refl are
  where
    by : (b : Bool) → has_some w.journal ≡ b
        → AreParts least (((if b then record { worker = number; entries = w.journal } ∷ [] else []) ++ parts_from (number + 1) crew) ++ part_of worker entries ∷ [])
        → w.journal ≡ []
    by true is are = let above = last-above (number + 1) worker entries (parts_from (number + 1) crew) are.2 in absurd (omega arith)
    by false is are = nothing-written w.journal is
none-behind least number (w ∷ crew) worker entries are (suc i) behind =
    by (has_some w.journal) are (λ lower later. none-behind lower (number + 1) crew worker entries later i (omega arith))
  where
    by : (b : Bool)
        → AreParts least (((if b then record { worker = number; entries = w.journal } ∷ [] else []) ++ parts_from (number + 1) crew) ++ part_of worker entries ∷ [])
        → ((lower : ℕ) → AreParts lower (parts_from (number + 1) crew ++ part_of worker entries ∷ []) → (worker_state_at crew i).journal ≡ [])
        → (worker_state_at crew i).journal ≡ []
    by true are rest = rest (number + 1) are.2
    by false are rest = rest least are

parts-none : (number : ℕ) (crew : List WorkerState) → ((k : ℕ) → (worker_state_at crew k).journal ≡ []) → parts_from number crew ≡ []
unfolding parts_from
parts-none number [] none = refl
parts-none number (w ∷ crew) none = rw (none 0, parts-none (number + 1) crew (λ k. none (suc k))) refl

some-part : (number : ℕ) (entries : List Entry) → 0 < length entries → part_if_any number entries ≡ part_of number entries ∷ []
some-part number [] some = absurd (omega arith)
some-part number (one ∷ more) some = refl

-- the part of a worker stands behind the others
pub parts-grow : (number : ℕ) (old new : List WorkerState) (i : ℕ) (entries : List Entry) → length new ≡ length old → i < length old → 0 < length entries
    → ((k : ℕ) → i ≤ k → (worker_state_at old k).journal ≡ []) → (worker_state_at new i).journal ≡ entries
    → ((k : ℕ) → k ≢ i → (worker_state_at new k).journal ≡ (worker_state_at old k).journal)
    → parts_from number new ≡ parts_from number old ++ part_of (number + i) entries ∷ []
unfolding parts_from
parts-grow number [] new i entries long inside some none writes others = absurd (omega arith)
parts-grow number (w ∷ old) [] i entries long inside some none writes others = absurd (omega arith)
parts-grow number (w ∷ old) (v ∷ new) zero entries long inside some none writes others =
    let same : number ≡ number + 0 = omega arith in
    let old-none = parts-none (number + 1) old (λ k. none (suc k) (omega arith)) in
    let new-none = parts-none (number + 1) new (λ k. others (suc k) (λ e. absurd (omega arith)) ∙ none (suc k) (omega arith)) in
    rw (writes, none 0 (omega arith), old-none, new-none, some-part number entries some) (ap (λ n. part_of n entries ∷ []) same)
parts-grow number (w ∷ old) (v ∷ new) (suc i) entries long inside some none writes others =
    let first = others 0 (λ e. absurd (omega arith)) in
    let sum : number + 1 + i ≡ number + suc i = omega arith in
    let rest = parts-grow (number + 1) old new i entries (omega (arith, long)) (omega arith) some (λ k behind. none (suc k) (omega arith)) writes
    (λ k apart. others (suc k) (λ e. apart (omega arith))) in
    ap (λ journal. part_if_any number journal ++ parts_from (number + 1) new) first
    ∙ ap (λ parts. part_if_any number w.journal ++ parts) (rest ∙ ap (λ n. parts_from (number + 1) old ++ part_of n entries ∷ []) sum)
    ∙ sym (append_assoc (part_if_any number w.journal) (parts_from (number + 1) old) (part_of (number + suc i) entries ∷ []))

-- the others have written nothing more, and nobody has a seat who had none
pub alone-journal : (worker : ℕ) (entries : List Entry) (old new : List WorkerState) → WritesAlone worker entries old new → (k : ℕ) → k ≢ worker
    → (worker_state_at new k).journal ≡ (worker_state_at old k).journal
alone-journal worker entries old new alone k apart = ap (λ (w : WorkerState). w.journal) (alone.others k apart)
