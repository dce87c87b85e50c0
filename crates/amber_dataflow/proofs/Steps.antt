-- A turn of the first unfinished worker: it makes a step. And the steps of all.
use Rattle.std.proofs.Common.{◌≡◌, ◌⊎◌, if◌then◌else◌, refl, sym, ap, ◌∙◌, ℕ, zero, suc, ◌+◌, ◌<◌, ◌≤◌, List, [], ◌∷◌, ◌++◌, length, get_or, set, nat_eq, true, false, inl, inr, subst, arith, take, drop, sum_by, zero-add}
use Rattle.std.proofs.lemmas.Bool.{eq-eqb, false≢true, or_cases, or_left, or_right}
use Rattle.std.proofs.lemmas.Grind.{take_at_read}
use Rattle.std.proofs.lemmas.List.{take-append-drop}
use Rattle.std.proofs.lemmas.List.Sums.{sum_by-append, sum_by-cons}
use Rattle.std.specs.List.{list_any}
use Rattle.amber_rows.specs.Topology.{crew_of}
use Rattle.amber_link.specs.Links.{waiting}
use Rattle.amber_link.specs.Sides.{AreLooked, IsLooked}
use Rattle.amber_link.proofs.Sides.{pairwise-length}
use Rattle.amber_link.specs.declared.upstreams.Upstream.{Upstream}
use Rattle.amber_rows.specs.Chunks.{chunks_of}
use Rattle.amber_rows.specs.declared.batch.Batch.{Batch}
use Rattle.amber_meaning.specs.Legal.{Query, role_in}
use Rattle.amber_meaning.specs.Position.{Position, emitted_rows, taken_from}
use Rattle.amber_meaning.specs.State.{State}
use Rattle.amber_worker.specs.AtPosition.{placement_of, stream_to}
use Rattle.amber_worker.specs.Turning.{HasTurned, IsNextTurn, MakesStep}
use Rattle.amber_worker.specs.Pairs.{OffersAll, made_for}
use Rattle.amber_worker.specs.Steps.{held_at}
use Rattle.amber_worker.specs.WorkerState.{IsUnrestrained, WorkerState, is_armed, needs_unit, next_turn, steps_made}
use Rattle.amber_worker.specs.declared.turn.Turn.{Turn}
use Rattle.amber_worker.specs.declared.turn.Turn.TheVariants as turn
use Rattle.amber_worker.proofs.Idle.{has_marked, has_marked-chunks_of, never_idle}
use Rattle.amber_worker.proofs.PairFacts.{offers-all}
use Rattle.amber_worker.proofs.Settling.{Shows-relinked}
use Rattle.amber_worker.proofs.Received.{receive_all-looked, sides-looked}
use Rattle.amber_worker.proofs.TurnCases.{ends-by, pauses-by}
use Rattle.amber_dataflow.proofs.Linked.{pairwise-at}
use Rattle.amber_dataflow.proofs.Sending.{sending-in}
use Rattle.amber_dataflow.proofs.Split.{read-at}
use Rattle.amber_dataflow.proofs.Untold.{starving}
use Rattle.amber_dataflow.specs.AtWork.{AreAtWork, HaveFinished, IsCrewUnder, context_in, placement_at, steps_by, worker_state_at}

-- ---- who has something to do

marked-more : (xs ys zs : List Batch) → has_marked (xs ++ ys) ≡ true → has_marked (xs ++ (ys ++ zs)) ≡ true
marked-more [] [] zs e = absurd (false≢true e)
marked-more [] (y ∷ ys) zs e = elim (or_cases y.last _ e) [ inl here ↦ or_left _ _ here | inr there ↦ or_right _ _ (marked-more [] ys zs there) ]
marked-more (x ∷ xs) ys zs e = elim (or_cases x.last _ e) [ inl here ↦ or_left _ _ here | inr there ↦ or_right _ _ (marked-more xs ys zs there) ]

pub any-at : (ins : List Upstream) (k n : ℕ) → k < length ins → ((d : Upstream) → (get_or ins k d).from ≡ n) → list_any (λ (one : Upstream). nat_eq one.from n) ins ≡ true
any-at [] k n less own = absurd (omega arith)
any-at (one ∷ ins) zero n less own = or_left _ _ (eq-eqb one.from n (own one))
any-at (one ∷ ins) (suc k) n less own = or_right _ _ (any-at ins k n (omega arith) own)

module _ (query : Query) (start : State) (crew : List WorkerState) (positions : ℕ → Position) (work : AreAtWork query start crew positions)
    (worker : ℕ) (inside : worker < length crew) where
  abbrev me : WorkerState
  me = worker_state_at crew worker

  -- of each sender all batches that it has made were taken or wait
  offered : (sender k : ℕ) → k < length me.ins → ((d : Upstream) → (get_or me.ins k d).from ≡ sender) → (d : Upstream)
      → taken_from (positions worker).taken sender ++ waiting (get_or me.ins k d).link ≡ made_for (placement_at query sender) (positions sender) worker
  unfolding OffersAll placement_of
  offered sender k less own d =
      let one = sending-in query start crew positions work.at sender worker inside (any-at me.ins k sender less own) in
      let there : sender < crew_of query.flow = rw (← work.at.at_positions.all) (let before = one.before in omega arith) in
      let sends = work.at.at_positions.each sender there in
      let takes = work.at.at_positions.each worker one.does.0 in
      offers-all (worker_state_at crew sender) me (work.settled sender worker one.does)
      (record { context = context_in work.at.at_positions.bases query start sender; position = positions sender }) (record { context = context_in work.at.at_positions.bases query start worker; position = positions worker })
      (record { shows = sends.shows; other_shows = takes.shows; earlier = work.at.at_positions.earlier sender worker })
      k d less (own d)

  module _ (finished : HaveFinished worker crew) where
    -- of each sender the last batch was taken or waits
    marked : (sender k : ℕ) → k < length me.ins → ((d : Upstream) → (get_or me.ins k d).from ≡ sender) → (d : Upstream)
        → has_marked (taken_from (positions worker).taken sender ++ waiting (get_or me.ins k d).link) ≡ true
    unfolding placement_of
    marked sender k less own d =
        let one = sending-in query start crew positions work.at sender worker inside (any-at me.ins k sender less own) in
        let there : sender < crew_of query.flow = rw (← work.at.at_positions.all) (let before = one.before in omega arith) in
        let done : (positions sender).finished ≡ true = sym (work.at.at_positions.each sender there).shows.finished ∙ finished sender one.before in
        rw (offered sender k less own d)
        (ap (λ b. has_marked (chunks_of query.batch_size (stream_to (placement_at query sender) worker (emitted_rows (role_in query sender) (positions sender))) b)) done
        ∙ has_marked-chunks_of query.batch_size _)

    -- the worker finds something to do, whatever it finds in a ring
    busy : (found : List Upstream) → AreLooked me.ins found → next_turn (record me { ins = found }) ≡ turn.Idle → ⊥
    unfolding placement_of
    busy found looked idle =
        let here : worker < crew_of query.flow = rw (← work.at.at_positions.all) inside in
        let stands = work.at.at_positions.each worker here in
        let context = context_in work.at.at_positions.bases query start worker in
        let shows = Shows-relinked context me (positions worker) found me.outs me.journal stands.shows
        (receive_all-looked context.base.had (positions worker).taken context.placement.role.senders me.ins found looked stands.shows.ins)
        (sides-looked context.placement.role.task me.ins found looked stands.shows.sides) stands.shows.outs in
        let long : length found ≡ length me.ins = pairwise-length IsLooked me.ins found looked in
        never_idle context (record me { ins = found }) (positions worker) shows
        (λ sender k less own d.
        let k_less : k < length me.ins = rw (← long) less in
        let seen : (e : Upstream) → IsLooked (get_or me.ins k e) (get_or found k d) = λ e. pairwise-at IsLooked me.ins found k e d k_less looked in
        let same : (e : Upstream) → (get_or me.ins k e).from ≡ sender = λ e. sym (ap (λ (s : Upstream). s.from) (seen e).only) ∙ own d in
        subst (λ batches. has_marked (taken_from (positions worker).taken sender ++ batches) ≡ true) ((seen d).gives.waiting_more)
        (marked-more (taken_from (positions worker).taken sender) (waiting (get_or me.ins k d).link) (seen d).gives.more (marked sender k k_less same d)))
        idle

-- an unfinished worker that is neither held nor paused, and whose senders have all finished, makes a step or is held by its next row
pub moves : (crew : List WorkerState) (worker : ℕ) (now d : WorkerState) (done : Turn) → IsCrewUnder (is_armed (worker_state_at crew worker)) worker crew → worker < length crew → HaveFinished worker crew
    → IsUnrestrained (worker_state_at crew worker) → needs_unit (worker_state_at crew worker) ≡ false → IsNextTurn (get_or crew worker d) done → HasTurned done (get_or crew worker d) now
    → MakesStep (worker_state_at crew worker) now ⊎ (now ≡ held_at (worker_state_at crew worker))
moves crew worker now d done work inside finished may fed is turned =
    by done (subst (λ w. IsNextTurn w done) (read-at crew worker d inside) is) (subst (λ w. HasTurned done w now) (read-at crew worker d inside) turned)
  where
    by : (done : Turn) → IsNextTurn (worker_state_at crew worker) done → HasTurned done (worker_state_at crew worker) now
        → MakesStep (worker_state_at crew worker) now ⊎ (now ≡ held_at (worker_state_at crew worker))
    by turn.Moved is turned = inl turned
    by turn.Idle is turned = absurd (busy work.0 work.1 crew work.2 work.3 worker inside finished is.found is.looked (sym is.is))
    by turn.Held is turned = inr (turned ∙ ap (λ b. if b then worker_state_at crew worker else held_at (worker_state_at crew worker)) may.loose)
    by turn.Starved is turned =
        absurd (false≢true (sym fed ∙ starving (worker_state_at crew worker) is))
    by turn.Paused is turned = absurd (false≢true (sym may.running ∙ pauses-by (worker_state_at crew worker) is))
    by turn.Ended is turned = absurd (false≢true (sym may.unfinished ∙ ends-by (worker_state_at crew worker) is))

-- ---- sums of steps

pub steps-cons : (w : WorkerState) (crew : List WorkerState) → steps_by (w ∷ crew) ≡ steps_made w + steps_by crew
unfolding steps_by
steps-cons w crew = sum_by-cons steps_made w crew

pub sum-set : (crew : List WorkerState) (i : ℕ) (w : WorkerState) → i < length crew → steps_by (set crew i w) + steps_made (worker_state_at crew i) ≡ steps_by crew + steps_made w
sum-set [] i w h = absurd (omega arith)
sum-set (x ∷ xs) zero w h =
    rw (steps-cons w xs, steps-cons x xs) (omega arith)
sum-set (x ∷ xs) (suc i) w h =
    let rest = sum-set xs i w (omega arith) in
    rw (steps-cons x (set xs i w), steps-cons x xs) (omega arith)

pub sum-more : (crew : List WorkerState) (i n : ℕ) (w : WorkerState) → i < length crew → steps_made w ≡ steps_made (worker_state_at crew i) + n → steps_by (set crew i w) ≡ steps_by crew + n
sum-more crew i n w h more = let sum = sum-set crew i w h in omega arith

pub sum-member : (crew : List WorkerState) (i : ℕ) → steps_made (worker_state_at crew i) ≤ steps_by crew
sum-member [] i = omega arith
sum-member (x ∷ xs) zero = rw (steps-cons x xs) (omega arith)
sum-member (x ∷ xs) (suc i) = let rest = sum-member xs i in rw (steps-cons x xs) (omega arith)

-- ---- the steps of the first workers

pub steps-next : (crew : List WorkerState) (i steps more : ℕ) (w : WorkerState) → i < length crew → w ≡ get_or crew i w → more ≡ steps_made w → steps ≡ steps_by (take i crew)
    → steps + more ≡ steps_by (take (i + 1) crew)
unfolding steps_by
steps-next crew i steps more w inside is own so =
    ap (λ n. n + more) so ∙ ap (λ n. sum_by steps_made (take i crew) + n) (own ∙ ap steps_made is ∙ sym (zero-add (steps_made (get_or crew i w))))
    ∙ sym (ap (sum_by steps_made) (take_at_read crew i w inside).1 ∙ sum_by-append steps_made (take i crew) (get_or crew i w ∷ []))

pub steps-few : (crew : List WorkerState) (n : ℕ) → steps_by (take n crew) ≤ steps_by crew
unfolding steps_by
steps-few crew n =
    let split : steps_by crew ≡ steps_by (take n crew) + steps_by (drop n crew) =
    ap (sum_by steps_made) (sym (take-append-drop n crew)) ∙ sum_by-append steps_made (take n crew) (drop n crew) in
    omega arith

pub steps-none : steps_by [] ≡ 0
unfolding steps_by
steps-none = refl
