-- The records of the operator with a number, if there is one.
use Rattle.std.proofs.Common.{◌≡◌, ℕ, zero, suc, ◌+◌, ◌-◌, ◌<◌, Bool, true, false, cond, eqb, List, [], ◌∷◌, get_or, length, take, Some, None, Result, refl, sym, ◌∙◌, arith}
use Rattle.std.specs.Prelude.{slice_get}
use Rattle.std.specs.List.{filter_map}
use Rattle.std.proofs.lemmas.Bool.{eqb-false}
use Rattle.amber_rows.specs.Lists.{first_list, list_at, nth}
use Rattle.amber_rows.specs.Record.{ok_of}
use Rattle.amber_rows.specs.declared.value.Value.{Value}
use Rattle.amber_rows.specs.declared.record.RowFault.{RowFault}
use Rattle.amber_rows.specs.declared.flow.Operator.{Operator}
use Rattle.amber_meaning.specs.Plain.{files_after, records_of}
use Rattle.amber_meaning.specs.Refused.{refused_records}
use Rattle.amber_meaning.specs.ScanFiles.{files_left, records_at}
use Rattle.amber_meaning.specs.declared.answer.Refusal.{Refusal}
use Rattle.amber_meaning.proofs.Operators.{list_at-is, records-here}
use Rattle.amber_plain.specs.Holding.{Fills}
use Rattle.amber_plain.specs.Stages.{count_through}
use Rattle.amber_plain.specs.declared.chain.Chain.{Chain}
use Rattle.amber_plain.proofs.Records.{Gathers-none}

-- no records are read where there are none
pub read-none : (op : ℕ) (records : List (Result (List Value) RowFault)) (chain : Chain) (refused : List Refusal) → records ≡ [] → refused ≡ []
    → Fills chain chain (filter_map ok_of records) × (chain.left ≡ chain.left + count_through chain.stages.items (filter_map ok_of records)) × (refused ≡ refused_records op 1 records)
read-none op records chain refused e n =
    let g = Gathers-none op [] chain refused n in rw e (g.moved, g.spent, g.refused_so_far)

-- ---- elements by their numbers

get-some : {A : Type 0} (xs : List A) (k : ℕ) (x : A) → slice_get xs k ≡ Some x → (k < length xs) × (x ≡ get_or xs k x)
get-some [] k x e = absurd (cc e)
get-some (y ∷ ys) zero x e = let same : y ≡ x = cc e in (omega arith, sym same)
get-some (y ∷ ys) (suc k) x e = let h = get-some ys k x e in (omega (arith, h.0), h.1)

some-by : {A : Type 0} (xs : List A) (n : ℕ) (x : A) (b : Bool) → eqb n 0 ≡ b → cond b None (slice_get xs (n - 1)) ≡ Some x → (0 < n) × (n - 1 < length xs) × (x ≡ get_or xs (n - 1) x)
some-by xs n x true e h = absurd (cc h)
some-by xs n x false e h = let g = get-some xs (n - 1) x h in (omega (arith, eqb-false n 0 e), g.0, g.1)

pub nth-some : {A : Type 0} (xs : List A) (n : ℕ) (x : A) → nth xs n ≡ Some x → (0 < n) × (n - 1 < length xs) × (x ≡ get_or xs (n - 1) x)
nth-some xs n x h = some-by xs n x (eqb n 0) refl h

none-there : (files : List (List ℕ)) (flow : List Operator) (k : ℕ) → slice_get flow k ≡ None → slice_get (records_of files flow) k ≡ None
unfolding records_of
none-there files [] k h = refl
none-there files (o ∷ flow) zero h = absurd (cc h)
none-there files (o ∷ flow) (suc k) h = none-there (files_after o.what files) flow k h

none-by : (files : List (List ℕ)) (flow : List Operator) (n : ℕ) (b : Bool) → eqb n 0 ≡ b → cond b None (slice_get flow (n - 1)) ≡ None → list_at (records_of files flow) n ≡ []
none-by files flow n true e h = rw e refl
none-by files flow n false e h = rw (e, none-there files flow (n - 1) h) refl

-- no operator has no records
pub records-none : (files : List (List ℕ)) (flow : List Operator) (n : ℕ) → nth flow n ≡ None → list_at (records_of files flow) n ≡ []
records-none files flow n h = none-by files flow n (eqb n 0) refl h

-- an operator's records are those of its file
pub records-some : (files : List (List ℕ)) (flow : List Operator) (n : ℕ) (o : Operator) → nth flow n ≡ Some o
    → list_at (records_of files flow) n ≡ records_at o.what o.schema (first_list (files_left files (take (n - 1) flow)))
records-some files flow n o h =
    let there = nth-some flow n o h in list_at-is (records_of files flow) n there.0 ∙ records-here files flow (n - 1) o there.1 there.2
