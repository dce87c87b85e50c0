-- A receiver stands at one place alone.
use Rattle.std.proofs.Common.{◌≡◌, refl, sym, ap, ◌∙◌, ℕ, zero, suc, ◌<◌, eqb, nat_eq, List, [], ◌∷◌, length, get_or, true, false, ◌⊎◌, inl, inr, subst, arith}
use Rattle.std.specs.List.{list_any}
use Rattle.std.proofs.lemmas.Bool.{eq-eqb, false≢true, or_cases, or_left, or_right, eqb-true}
use Rattle.amber_link.specs.Links.{has_some}
use Rattle.amber_link.specs.declared.downstreams.Downstream.{Downstream}
use Rattle.amber_link.specs.declared.upstreams.Upstream.{Upstream}
use Rattle.amber_worker.specs.AtPosition.{Output, Placement, SendAll, placement_of}
use Rattle.amber_worker.specs.WorkerState.{WorkerState}
use Rattle.amber_dataflow.specs.AtWork.{IsJoinedCrew, worker_state_at}
use Rattle.amber_dataflow.specs.Passing.{Come, Settled}
use Rattle.amber_dataflow.proofs.Linked.{settled-come}
use Rattle.amber_dataflow.proofs.Sending.{IsSending, sending-in, sending-out}
use Rattle.amber_dataflow.proofs.Split.{read-at}

is-receiver : (placement : Placement) (receivers : List ℕ) (output : Output) (outs : List Downstream) (j n : ℕ) (d : Downstream) → j < length outs
    → (get_or outs j d).to ≡ n → SendAll placement receivers output outs → list_any (λ other. eqb other n) receivers ≡ true
unfolding SendAll
is-receiver placement [] output [] j n d less own h = absurd (omega arith)
is-receiver placement [] output (one ∷ outs) j n d less own h = absurd h
is-receiver placement (receiver ∷ receivers) output [] j n d less own h = absurd h
is-receiver placement (receiver ∷ receivers) output (one ∷ outs) zero n d less own h = or_left _ _ (eq-eqb receiver n (sym h.0.to ∙ own))
is-receiver placement (receiver ∷ receivers) output (one ∷ outs) (suc j) n d less own h =
    or_right _ _ (is-receiver placement receivers output outs j n d (omega arith) own h.2)

one-place : (placement : Placement) (receivers : List ℕ) (output : Output) (outs : List Downstream) (j i n : ℕ) (d e : Downstream)
    → j < length outs → i < length outs → (get_or outs j d).to ≡ n → (get_or outs i e).to ≡ n → SendAll placement receivers output outs → j ≡ i
unfolding SendAll
one-place placement [] output [] j i n d e less below own same h = absurd (omega arith)
one-place placement [] output (one ∷ outs) j i n d e less below own same h = absurd h
one-place placement (receiver ∷ receivers) output [] j i n d e less below own same h = absurd h
one-place placement (receiver ∷ receivers) output (one ∷ outs) zero zero n d e less below own same h = refl
one-place placement (receiver ∷ receivers) output (one ∷ outs) zero (suc i) n d e less below own same h =
    let here : receiver ≡ n = sym h.0.to ∙ own in
    absurd (false≢true (sym h.1 ∙ ap (λ r. list_any (λ other. eqb other r) receivers) here ∙ is-receiver placement receivers output outs i n e (omega arith) same h.2))
one-place placement (receiver ∷ receivers) output (one ∷ outs) (suc j) zero n d e less below own same h =
    let here : receiver ≡ n = sym h.0.to ∙ same in
    absurd (false≢true (sym h.1 ∙ ap (λ r. list_any (λ other. eqb other r) receivers) here ∙ is-receiver placement receivers output outs j n d (omega arith) own h.2))
one-place placement (receiver ∷ receivers) output (one ∷ outs) (suc j) (suc i) n d e less below own same h =
    ap suc (one-place placement receivers output outs j i n d e (omega arith) (omega arith) own same h.2)

pub any-out : (outs : List Downstream) (k n : ℕ) → k < length outs → ((d : Downstream) → (get_or outs k d).to ≡ n) → list_any (λ (one : Downstream). nat_eq one.to n) outs ≡ true
any-out [] k n less own = absurd (omega arith)
any-out (one ∷ outs) zero n less own = or_left _ _ (eq-eqb one.to n (own one))
any-out (one ∷ outs) (suc k) n less own = or_right _ _ (any-out outs k n (omega arith) own)

-- and the other way round: it stands at some place
pub out-place : (outs : List Downstream) (n : ℕ) → list_any (λ (one : Downstream). nat_eq one.to n) outs ≡ true → (k : ℕ) × (k < length outs) × ((d : Downstream) → (get_or outs k d).to ≡ n)
out-place [] n e = absurd (false≢true e)
out-place (one ∷ outs) n e = by (or_cases (nat_eq one.to n) _ e) (out-place outs n)
  where
    by : (nat_eq one.to n ≡ true) ⊎ (list_any (λ (one : Downstream). nat_eq one.to n) outs ≡ true)
        → (list_any (λ (one : Downstream). nat_eq one.to n) outs ≡ true → (k : ℕ) × (k < length outs) × ((d : Downstream) → (get_or outs k d).to ≡ n))
        → (k : ℕ) × (k < length (one ∷ outs)) × ((d : Downstream) → (get_or (one ∷ outs) k d).to ≡ n)
    by (inl here) rest = (0, omega arith, λ d. eqb-true one.to n here)
    by (inr there) rest = let found = rest there in let below = found.1 in (suc found.0, omega arith, found.2)

-- where nothing waits for the receiver at a place, and all that was sent has come, the link is settled
pub settled-waiting : (crew : List WorkerState) (number place to : ℕ) → IsJoinedCrew crew → number < length crew → place < length (worker_state_at crew number).outs
    → ((d : Downstream) → (get_or (worker_state_at crew number).outs place d).to ≡ to)
    → ((d : Downstream) → has_some (get_or (worker_state_at crew number).outs place d).link.kept.waiting ≡ false) → Come crew number to → Settled crew number to
unfolding placement_of
settled-waiting crew number place to joined inside within own none come =
    let at = joined.3 in
    let one = sending-out joined.0 joined.1 crew joined.2 at number to inside (any-out (worker_state_at crew number).outs place to within own) in
    let stands = at.at_positions.each number (rw (← at.at_positions.all) inside) in
    let same : come.j ≡ place = one-place _ _ _ (worker_state_at crew number).outs come.j place to come.out come.out come.places.j_within within
    (come.places.to_is come.out ∙ one.to_number) (own come.out) stands.shows.outs in
    settled-come (worker_state_at crew number) (worker_state_at crew to) come (λ d. ap (λ k. has_some (get_or (worker_state_at crew number).outs k d).link.kept.waiting) same ∙ none d)

-- one that is there
pub no_receiver : (crew : List WorkerState) (number place : ℕ) → place < length (worker_state_at crew number).outs → Downstream
no_receiver crew number place within = first (worker_state_at crew number).outs within
  where
    first : (outs : List Downstream) → place < length outs → Downstream
    first [] less = absurd (omega arith)
    first (one ∷ outs) less = one

-- ---- senders

pub any-in : (ins : List Upstream) (k n : ℕ) → k < length ins → ((d : Upstream) → (get_or ins k d).from ≡ n) → list_any (λ (one : Upstream). nat_eq one.from n) ins ≡ true
any-in [] k n less own = absurd (omega arith)
any-in (one ∷ ins) zero n less own = or_left _ _ (eq-eqb one.from n (own one))
any-in (one ∷ ins) (suc k) n less own = or_right _ _ (any-in ins k n (omega arith) own)

pub in-place : (ins : List Upstream) (n : ℕ) → list_any (λ (one : Upstream). nat_eq one.from n) ins ≡ true → (k : ℕ) × (k < length ins) × ((d : Upstream) → (get_or ins k d).from ≡ n)
in-place [] n e = absurd (false≢true e)
in-place (one ∷ ins) n e = by (or_cases (nat_eq one.from n) _ e) (in-place ins n)
  where
    by : (nat_eq one.from n ≡ true) ⊎ (list_any (λ (one : Upstream). nat_eq one.from n) ins ≡ true)
        → (list_any (λ (one : Upstream). nat_eq one.from n) ins ≡ true → (k : ℕ) × (k < length ins) × ((d : Upstream) → (get_or ins k d).from ≡ n))
        → (k : ℕ) × (k < length (one ∷ ins)) × ((d : Upstream) → (get_or (one ∷ ins) k d).from ≡ n)
    by (inl here) rest = (0, omega arith, λ d. eqb-true one.from n here)
    by (inr there) rest = let found = rest there in let below = found.1 in (suc found.0, omega arith, found.2)

-- one that is there
pub no_sender : (crew : List WorkerState) (number place : ℕ) → place < length (worker_state_at crew number).ins → Upstream
no_sender crew number place within = first (worker_state_at crew number).ins within
  where
    first : (ins : List Upstream) → place < length ins → Upstream
    first [] less = absurd (omega arith)
    first (one ∷ ins) less = one

-- who stands at a place sends
pub comes-from : (crew : List WorkerState) (number place from : ℕ) (d : WorkerState) (joined : IsJoinedCrew crew) → number < length crew → place < length (get_or crew number d).ins
    → ((e : Upstream) → from ≡ (get_or (get_or crew number d).ins place e).from) → IsSending joined.0 crew from number
comes-from crew number place from d joined inside within own =
    let here = read-at crew number d inside in
    sending-in joined.0 joined.1 crew joined.2 joined.3 from number inside
    (any-in (worker_state_at crew number).ins place from (subst (λ (w : WorkerState). place < length w.ins) here within)
    (λ e. sym (own e ∙ ap (λ (w : WorkerState). (get_or w.ins place e).from) here)))

pub sender-before : (crew : List WorkerState) (number place from : ℕ) (joined : IsJoinedCrew crew) → number < length crew → place < length (worker_state_at crew number).ins
    → ((e : Upstream) → (get_or (worker_state_at crew number).ins place e).from ≡ from) → from < number
sender-before crew number place from joined inside within own =
    (sending-in joined.0 joined.1 crew joined.2 joined.3 from number inside (any-in (worker_state_at crew number).ins place from within own)).before
