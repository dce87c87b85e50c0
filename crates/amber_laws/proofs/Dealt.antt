-- What a worker gives, from what it is given.
use Rattle.std.proofs.Common.{◌≡◌, ℕ, zero, suc, ◌+◌, ◌<◌, ◌≤◌, List, [], ◌∷◌, ◌++◌, length, get_or, ◌⊎◌, inl, inr, refl, sym, ◌∙◌, ap, arith, true}
use Rattle.std.proofs.lemmas.Bool.{cases_lt}
use Rattle.std.proofs.lemmas.List.{get_or_append_left, get_or_push, length_push}
use Rattle.amber_rows.specs.Topology.{crew_of}
use Rattle.amber_rows.specs.FlowRules.{IsFlow}
use Rattle.amber_rows.specs.declared.value.Value.{Value}
use Rattle.amber_meaning.proofs.Numbers.{among}
use Rattle.amber_meaning.proofs.Lists.{numbered_or}
use Rattle.amber_meaning.proofs.Senders.{flows_send_forward}
use Rattle.amber_meaning.specs.Laws.{SendersFirst}
use Rattle.amber_meaning.specs.Legal.{Query, role_in}
use Rattle.amber_rows.specs.Lists.{list_at}
use Rattle.amber_meaning.specs.Plan.{role_of}
use Rattle.amber_meaning.specs.Position.{share_or}
use Rattle.amber_meaning.specs.Total.{dealt_by, dealt_stream, dealt_to, total_arrivals, gives, arrivals_from}
use Rattle.amber_laws.proofs.Bags.{equal-among}

-- what a worker gives, from what those before it give
abbrev next_dealt : Query → ℕ → List (List Value)
next_dealt query worker = gives (role_in query worker).task (total_arrivals query (λ sender. list_at (dealt_by query worker) (sender + 1)) worker)

length_dealt : (query : Query) (n : ℕ) → length (dealt_by query n) ≡ n
unfolding dealt_by
length_dealt query zero = refl
length_dealt query (suc n) = omega (arith, length_push (dealt_by query n) (next_dealt query n), length_dealt query n)

dealt_place : (query : Query) (n worker : ℕ) → worker < n → get_or (dealt_by query n) worker [] ≡ next_dealt query worker
unfolding dealt_by
dealt_place query zero worker less = absurd (omega arith)
dealt_place query (suc n) worker less = by (cases_lt worker n) (dealt_place query n worker)
  where
    by : (worker < n) ⊎ (n ≤ worker) → (worker < n → get_or (dealt_by query n) worker [] ≡ next_dealt query worker)
        → get_or (dealt_by query n ++ next_dealt query n ∷ []) worker [] ≡ next_dealt query worker
    by (inl before) rest =
        let within : worker < length (dealt_by query n) = omega (arith, length_dealt query n) in
        get_or_append_left (dealt_by query n) (next_dealt query n ∷ []) [] worker within ∙ rest before
    by (inr there) rest =
        let same : worker ≡ n = omega arith in
        rw same (get_or_push (dealt_by query n) (next_dealt query n) [] n (length_dealt query n))

dealt_number : (query : Query) (n worker : ℕ) → worker < n → list_at (dealt_by query n) (worker + 1) ≡ next_dealt query worker
dealt_number query n worker less = numbered_or (dealt_by query n) worker [] ∙ dealt_place query n worker less

-- what a worker is given depends on what its senders give alone
pub given-same : (query : Query) (worker : ℕ) (f g : ℕ → List (List Value))
    → ((sender : ℕ) → among sender (role_in query worker).senders ≡ true → f sender ≡ g sender) → total_arrivals query f worker ≡ total_arrivals query g worker
unfolding total_arrivals
given-same query worker f g same =
    let role = role_in query worker in
    ap (share_or role.task.kind role.share)
    (equal-among (λ sender. arrivals_from sender (dealt_stream query f worker sender)) (λ sender. arrivals_from sender (dealt_stream query g worker sender))
    role.senders (λ sender known. rw (same sender known) refl))

-- each worker gives what its task makes of what its senders give
pub dealt-from : (query : Query) → SendersFirst query.flow → (worker : ℕ) → worker < crew_of query.flow
    → dealt_to query worker ≡ gives (role_in query worker).task (total_arrivals query (dealt_to query) worker)
unfolding dealt_to role_of
dealt-from query first worker less =
    dealt_number query (crew_of query.flow) worker less
    ∙ ap (gives (role_in query worker).task)
    (given-same query worker (λ sender. list_at (dealt_by query worker) (sender + 1)) (dealt_to query)
    (λ sender known.
    let before : sender < worker = first worker sender known in
    dealt_number query worker sender before ∙ sym (dealt_number query (crew_of query.flow) sender (omega (arith, before, less)))))

pub dealt-is : (query : Query) → IsFlow query.flow → (worker : ℕ) → worker < crew_of query.flow
    → dealt_to query worker ≡ gives (role_in query worker).task (total_arrivals query (dealt_to query) worker)
dealt-is query flow = dealt-from query (flows_send_forward query.flow flow)
