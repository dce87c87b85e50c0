-- The records of a scan's share stand by their numbers.
use Rattle.std.proofs.Common.{◌≡◌, ℕ, zero, suc, ◌+◌, ◌≤◌, eqb, List, [], ◌∷◌, filter, map, take, Result, Bool, true, false, if◌then◌else◌, refl, ap, ◌∙◌, arith}
use Rattle.std.proofs.lemmas.Bool.{le-ltb}
use Rattle.amber_scan.specs.Shares.{scanned_number, scanned_record}
use Rattle.amber_rows.specs.declared.value.Value.{Value}
use Rattle.amber_rows.specs.declared.record.RowFault.{RowFault}
use Rattle.amber_rows.specs.declared.flow.Operator.{Operator}
use Rattle.amber_meaning.specs.Plan.{role_of, numbered_record, record_number}
use Rattle.amber_rows.specs.Shares.{share_of, turn_of, with_numbers}
use Rattle.amber_meaning.specs.Task.{Arrival}
use Rattle.amber_meaning.specs.Views.{by_number, insert_numbered}
use Rattle.amber_scan.specs.declared.share.Scanned.{Scanned}
use Rattle.amber_operators.specs.Handed.{arrival_of}

-- records whose numbers rise, from this one on
abbrev Rise : ℕ → List Arrival → Type 0
Rise least [] = Unit {0}
Rise least (one ∷ more) = (least ≤ one.from) × Rise one.from more

rise-lower : (a b : ℕ) (arrivals : List Arrival) → a ≤ b → Rise b arrivals → Rise a arrivals
rise-lower a b [] less h = tt
rise-lower a b (one ∷ more) less h = (let here = h.0 in omega arith, h.1)

rise-filter : (test : Arrival → Bool) (least : ℕ) (arrivals : List Arrival) → Rise least arrivals → Rise least (filter test arrivals)
rise-filter test least [] h = tt
rise-filter test least (one ∷ more) h = by (test one) (rise-filter test one.from more h.1)
  where
    by : (b : Bool) → Rise one.from (filter test more) → Rise least (if b then one ∷ filter test more else filter test more)
    by true rest = (h.0, rest)
    by false rest = rise-lower least one.from (filter test more) h.0 rest

rise-take : (n least : ℕ) (arrivals : List Arrival) → Rise least arrivals → Rise least (take n arrivals)
rise-take zero least arrivals h = tt
rise-take (suc n) least [] h = tt
rise-take (suc n) least (one ∷ more) h = (h.0, rise-take n one.from more h.1)

rise-numbers : (number : ℕ) (records : List (Result (List Value) RowFault)) → Rise number (with_numbers numbered_record number records)
unfolding with_numbers
rise-numbers number [] = tt
rise-numbers number (one ∷ more) = (omega arith, rise-lower number (number + 1) (with_numbers numbered_record (number + 1) more) (omega arith) (rise-numbers (number + 1) more))

-- rising records are in their order
rising-sorted : (least : ℕ) (arrivals : List Arrival) → Rise least arrivals → by_number arrivals ≡ arrivals
unfolding by_number insert_numbered
rising-sorted least [] h = refl
rising-sorted least (one ∷ more) h = rw (rising-sorted one.from more h.1) (first more h.1)
  where
    first : (more : List Arrival) → Rise one.from more → insert_numbered one more ≡ one ∷ more
    first [] h = refl
    first (other ∷ more) h = rw (le-ltb other.from one.from h.0) refl

-- what was taken of a worker's share is in the order of its numbers
pub by_number-share : (flow : List Operator) (records : List (List (Result (List Value) RowFault))) (worker n : ℕ)
    → by_number (take n (role_of flow records worker).share) ≡ take n (role_of flow records worker).share
unfolding role_of share_of
by_number-share flow records worker n =
    rising-sorted 1 (take n (role_of flow records worker).share) (rise-take n 1 (role_of flow records worker).share (rise-filter _ 1 (with_numbers numbered_record 1 _) (rise-numbers 1 _)))

-- ---- the share that is dealt

nth-so : (number : ℕ) (records : List (Result (List Value) RowFault)) → map arrival_of (with_numbers scanned_record number records) ≡ with_numbers numbered_record number records
unfolding with_numbers
nth-so number [] = refl
nth-so number (one ∷ more) = ap (λ l. record { from = number; what = one } ∷ l) (nth-so (number + 1) more)

filter-map_so : (workers place : ℕ) (scanned : List Scanned)
    → map arrival_of (filter (λ one. eqb (turn_of workers one.number) place) scanned) ≡ filter (λ arrivals. eqb (turn_of workers arrivals.from) place) (map arrival_of scanned)
filter-map_so workers place [] = refl
filter-map_so workers place (one ∷ more) = by (eqb (turn_of workers one.number) place) (filter-map_so workers place more)
  where
    by : (b : Bool)
        → map arrival_of (filter (λ one. eqb (turn_of workers one.number) place) more) ≡ filter (λ arrivals. eqb (turn_of workers arrivals.from) place) (map arrival_of more)
        → map arrival_of (if b then one ∷ filter (λ one. eqb (turn_of workers one.number) place) more else filter (λ one. eqb (turn_of workers one.number) place) more)
        ≡ (if b then arrival_of one ∷ filter (λ arrivals. eqb (turn_of workers arrivals.from) place) (map arrival_of more) else filter (λ arrivals. eqb (turn_of workers arrivals.from) place) (map arrival_of more))
    by true rest = ap (λ l. arrival_of one ∷ l) rest
    by false rest = rest

-- the share that a worker is dealt is what it is handed
pub share-dealt : (records : List (Result (List Value) RowFault)) (workers place : ℕ)
    → map arrival_of (share_of scanned_number workers place (with_numbers scanned_record 1 records)) ≡ share_of record_number workers place (with_numbers numbered_record 1 records)
unfolding share_of
share-dealt records workers place =
    filter-map_so workers place (with_numbers scanned_record 1 records) ∙ ap (λ l. filter (λ arrivals. eqb (turn_of workers arrivals.from) place) l) (nth-so 1 records)
