-- The records that a reader has read are the first ones of its file, and the typed records are those after the header.
use Rattle.std.proofs.Common.{◌≡◌, ◌<◌, ◌+◌, ◌⊎◌, ℕ, zero, suc, List, [], ◌∷◌, ◌++◌, length, map, Some, None, inl, inr, refl, arith}
use Rattle.std.proofs.lemmas.Bool.{cases_Bool}
use Rattle.std.proofs.lemmas.List.{append-nil}
use Rattle.csv.specs.Machine.{Read, ends_at_end, is_end, next_record, step}
use Rattle.csv.specs.Reading.{Reached, default_config, records_from, strip_bom}
use Rattle.csv.specs.declared.parser.Config.{Config}
use Rattle.csv.specs.declared.parser.State.{State}
use Rattle.csv.specs.declared.parser.State.TheVariants as st
use Rattle.amber_rows.specs.Reading.{HasRead}
use Rattle.amber_rows.specs.Record.{file_records, row_of, typed_records}
use Rattle.amber_rows.specs.declared.column.Column.{Column}
use Rattle.amber_rows.specs.declared.record_reader.RecordReader.{RecordReader}

-- a number of turns is enough for all records from here on
abbrev Enough : ℕ → State → List ℕ → Type 0
Enough turns s xs = (length xs < turns) ⊎ ((xs ≡ []) × (s ≡ st.StartRecord))

some-is : {A : Type 0} {x y : A} → Some x ≡ Some y → y ≡ x
some-is e = cc

-- a read leaves fewer bytes, or none at the start of a record
shorter : (cfg : Config) (s : State) (fields : List (List ℕ)) (field xs : List ℕ) (p : Read) → next_record cfg s fields field xs ≡ Some p
    → (length p.2 < length xs) ⊎ ((p.2 ≡ []) × (p.1 ≡ st.StartRecord))
unfolding next_record
shorter cfg s fields field [] p e =
    elim (cases_Bool (ends_at_end s)) [
      | inl last ↦ let h = some-is (rw last at e) in inr (rw h refl, rw h refl)
      | inr more ↦ absurd (cc (rw more at e))
    ]
shorter cfg s fields field (c ∷ rest) p e =
    elim (cases_Bool (is_end (step cfg s c).1)) [
      | inl last ↦ let h = some-is (rw last at e) in inl (rw h (omega arith))
      | inr more ↦ elim (shorter cfg (step cfg s c).0 _ _ rest p (rw more at e)) [
        | inl less ↦ inl (omega (arith, less))
        | inr none ↦ inr none
      ]
    ]

-- what was reached are the first records, and enough turns are left for the others
reached-front : (cfg : Config) (s s2 : State) (xs ys : List ℕ) (rows : List (List (List ℕ))) (turns : ℕ) → Reached cfg s xs rows s2 ys → Enough turns s xs
    → (left : ℕ) × (records_from cfg turns s xs ≡ rows ++ records_from cfg left s2 ys)
unfolding Reached records_from next_record
reached-front cfg s s2 xs ys [] turns h enough = (turns, rw (h.0, h.1) refl)
reached-front cfg s s2 xs ys (r ∷ rs) zero h (inl less) = absurd (omega (arith, less))
reached-front cfg s s2 xs ys (r ∷ rs) (suc turns) h (inl less) =
    let p = h.0 in
    let enough : Enough turns p.1 p.2 = elim (shorter cfg s [] [] xs p h.1) [
      | inl fewer ↦ inl (omega (arith, fewer, less))
      | inr none ↦ inr none
    ] in
    let rest = reached-front cfg p.1 s2 p.2 ys rs turns h.3 enough in
    (rest.0, rw (h.1, h.2, rest.1) refl)
reached-front cfg s s2 xs ys (r ∷ rs) turns h (inr none) = absurd (cc (rw (none.0, none.1) at h.1))

-- no record is left where the next read finds none
records-none : (cfg : Config) (s : State) (ys : List ℕ) (turns : ℕ) → next_record cfg s [] [] ys ≡ None → records_from cfg turns s ys ≡ []
unfolding records_from
records-none cfg s ys zero e = refl
records-none cfg s ys (suc turns) e = rw e refl

-- the records that a reader has read are the first ones of its file
pub HasRead-front : {bytes : List ℕ} {r : RecordReader} {done : List (List (List ℕ))} → HasRead bytes r done
    → (more : List (List (List ℕ))) × (file_records bytes ≡ done ++ more)
unfolding file_records
HasRead-front {bytes} {r} {done} h =
    let xs = strip_bom bytes in
    let enough : Enough (length xs + 1) st.StartRecord xs = inl (omega arith) in
    let front = reached-front default_config st.StartRecord r.reader.state xs h.rest done (length xs + 1) h.reached enough in
    (records_from default_config front.0 r.reader.state h.rest, front.1)

-- they are all of them where the next read finds none
pub HasRead-all : {bytes : List ℕ} {r : RecordReader} {done : List (List (List ℕ))} (h : HasRead bytes r done)
    → next_record default_config r.reader.state [] [] h.rest ≡ None → file_records bytes ≡ done
unfolding file_records
HasRead-all {bytes} {r} {done} h none =
    let xs = strip_bom bytes in
    let enough : Enough (length xs + 1) st.StartRecord xs = inl (omega arith) in
    let front = reached-front default_config st.StartRecord r.reader.state xs h.rest done (length xs + 1) h.reached enough in
    rw (records-none default_config r.reader.state h.rest front.0 none, append-nil done) at front.1

-- ---- the typed records of a file

pub typed-none : (columns : List Column) (file : List ℕ) → file_records file ≡ [] → typed_records columns file ≡ []
unfolding typed_records
typed-none columns file e = rw e refl

-- all records after the header
pub typed-all : (columns : List Column) (file : List ℕ) (header : List (List ℕ)) (done : List (List (List ℕ))) → file_records file ≡ header ∷ done
    → typed_records columns file ≡ map (row_of columns) done
unfolding typed_records
typed-all columns file header done e = rw e refl
