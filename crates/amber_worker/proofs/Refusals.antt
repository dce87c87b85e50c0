-- What a worker has refused, in the order of numbers.
use Rattle.std.proofs.Common.{◌≡◌, ℕ, zero, suc, nat_lt, List, [], ◌∷◌, ◌++◌, length, map, take, Bool, true, false, if◌then◌else◌, refl, sym, ap, ◌∙◌}
use Rattle.std.specs.List.{flat_map}
use Rattle.std.proofs.lemmas.Grind.{flat_map-append}
use Rattle.amber_rows.specs.Kinds.{is_scan}
use Rattle.amber_rows.specs.declared.value.Value.{Value}
use Rattle.amber_meaning.specs.Position.{Position, Taken, all_arrivals, arrivals_of}
use Rattle.amber_meaning.specs.Refused.{refusal_in, refused_in}
use Rattle.amber_meaning.specs.Task.{Arrival, Role}
use Rattle.amber_meaning.specs.Views.{by_number, insert_numbered, taken_of}
use Rattle.amber_worker.specs.AtPosition.{IsNumbered}
use Rattle.amber_operators.specs.Handed.{row_from}

left-none : {A : Type 0} (xs ys : List A) → xs ++ ys ≡ [] → xs ≡ []
left-none [] ys h = refl
left-none (x ∷ xs) ys h = cc

right-none : {A : Type 0} (xs ys : List A) → xs ++ ys ≡ [] → ys ≡ []
right-none [] ys h = h
right-none (x ∷ xs) ys h = cc

-- rows of a batch are not refused
rows-pass : (op from : ℕ) (rows : List (List Value)) → refused_in op (map (row_from from) rows) ≡ []
rows-pass op from [] = refl
rows-pass op from (row ∷ rows) = rows-pass op from rows

batches-pass : (op : ℕ) (taken : List Taken) → refused_in op (flat_map arrivals_of taken) ≡ []
batches-pass op [] = refl
batches-pass op (one ∷ more) =
    flat_map-append (λ (a : Arrival). refusal_in op a.from a.what) (arrivals_of one) (flat_map arrivals_of more)
    ∙ ap (λ l. l ++ refused_in op (flat_map arrivals_of more)) (rows-pass op one.from one.batch.rows) ∙ batches-pass op more

take-pass : (op n : ℕ) (arrivals : List Arrival) → refused_in op arrivals ≡ [] → refused_in op (take n arrivals) ≡ []
take-pass op zero arrivals h = refl
take-pass op (suc n) [] h = refl
take-pass op (suc n) (one ∷ more) h =
    ap (λ l. l ++ refused_in op (take n more)) (left-none (refusal_in op one.from one.what) (refused_in op more) h)
    ∙ take-pass op n more (right-none (refusal_in op one.from one.what) (refused_in op more) h)

insert-pass : (op : ℕ) (one : Arrival) (arrivals : List Arrival) → refusal_in op one.from one.what ≡ [] → refused_in op arrivals ≡ [] → refused_in op (insert_numbered one arrivals) ≡ []
unfolding insert_numbered
insert-pass op one [] own h = ap (λ l. l ++ []) own
insert-pass op one (other ∷ more) own h =
    let first = left-none (refusal_in op other.from other.what) (refused_in op more) h in
    by (nat_lt other.from one.from)
    (ap (λ l. l ++ refused_in op (insert_numbered one more)) first ∙ insert-pass op one more own (right-none (refusal_in op other.from other.what) (refused_in op more) h))
    (ap (λ l. l ++ refused_in op (other ∷ more)) own ∙ h)
  where
    by : (b : Bool) → refused_in op (other ∷ insert_numbered one more) ≡ [] → refused_in op (one ∷ other ∷ more) ≡ []
        → refused_in op (if b then other ∷ insert_numbered one more else one ∷ other ∷ more) ≡ []
    by true x y = x
    by false x y = y

sorted-pass : (op : ℕ) (arrivals : List Arrival) → refused_in op arrivals ≡ [] → refused_in op (by_number arrivals) ≡ []
unfolding by_number
sorted-pass op [] h = refl
sorted-pass op (one ∷ more) h =
    insert-pass op one (by_number more) (left-none (refusal_in op one.from one.what) (refused_in op more) h)
    (sorted-pass op more (right-none (refusal_in op one.from one.what) (refused_in op more) h))

-- what was refused of the records that were taken stands by their numbers
pub refused-numbered : (op : ℕ) (role : Role) (p : Position) → IsNumbered role → refused_in op (taken_of role p) ≡ refused_in op (by_number (taken_of role p))
unfolding all_arrivals
refused-numbered op role p numbered = by (is_scan role.task.kind)
  where
    by : (b : Bool)
        → refused_in op (take (length p.constants) (if b then role.share else flat_map arrivals_of p.taken))
        ≡ refused_in op (by_number (take (length p.constants) (if b then role.share else flat_map arrivals_of p.taken)))
    by true = ap (refused_in op) (sym (numbered (length p.constants)))
    by false =
        let none = take-pass op (length p.constants) (flat_map arrivals_of p.taken) (batches-pass op p.taken) in
        none ∙ sym (sorted-pass op (take (length p.constants) (flat_map arrivals_of p.taken)) none)
