-- What is kept of receivers, as several rows are pushed.
use Rattle.std.proofs.Common.{◌≡◌, ℕ, zero, suc, ◌+◌, ◌<◌, ◌≤◌, List, [], ◌∷◌, ◌++◌, length, take, drop, replicate, Bool, true, refl, sym, ap, ◌∙◌, arith, append_assoc, if◌then◌else◌, length-append, length-drop, subst}
use Rattle.std.proofs.lemmas.List.{append-nil}
use Rattle.std.proofs.lemmas.List.Sums.{sum_by_push}
use Rattle.amber_rows.specs.declared.value.Value.{Value}
use Rattle.amber_rows.specs.declared.batch.Batch.{Batch}
use Rattle.amber_meaning.specs.Position.{emitted_count, is_emitted, kept}
use Rattle.amber_link.specs.declared.downstreams.Downstream.{Downstream}
use Rattle.amber_worker.specs.AtPosition.{Placement, SendAll}
use Rattle.amber_worker.specs.Links.{number_to}
use Rattle.amber_worker.specs.RedoneRows.{AreHandedOn}
use Rattle.amber_worker.specs.declared.route.Route.{Route}
use Rattle.amber_worker.proofs.Produced.{kept-next}
use Rattle.amber_operators.proofs.Lists.{left-next}
use Rattle.amber_worker.proofs.Sent.{send_all-row, unended}

-- these rows go to the receivers with their numbers
pub send_all-rows : (placement : Placement) (receivers : List ℕ) (sent rows : List (List Value)) (gave : ℕ → List Batch) (outs after : List Downstream) (to : Route)
    → ((row : List Value) → 0 < length receivers → number_to to row ≡ placement.route row)
    → SendAll placement receivers (unended sent gave) outs → AreHandedOn to rows outs after → SendAll placement receivers (unended (sent ++ rows) gave) after
unfolding AreHandedOn
send_all-rows placement receivers sent [] gave outs after to routes h handed =
    let P : List (List Value) → Type 0 = λ l. SendAll placement receivers (unended l gave) after in
    let Q : List Downstream → Type 0 = λ l. SendAll placement receivers (unended sent gave) l in
    subst P (sym (append-nil sent)) (subst Q handed h)
send_all-rows placement receivers sent (row ∷ rows) gave outs after to routes h (next, first, more) =
    let P : List (List Value) → Type 0 = λ l. SendAll placement receivers (unended l gave) after in
    subst P (append_assoc sent (row ∷ []) rows)
    (send_all-rows placement receivers (sent ++ row ∷ []) rows gave next after to routes (send_all-row placement receivers sent row gave outs next (number_to to row) (routes row) h first) more)

next-fates : (outcomes : List Bool) (n : ℕ) → (outcomes ++ true ∷ []) ++ replicate n true ≡ outcomes ++ replicate (suc n) true
next-fates outcomes n = append_assoc outcomes (true ∷ []) (replicate n true)

-- so many rows more are kept
pub kept-rows : {A : Type 0} (rows : List A) (outcomes : List Bool) (n : ℕ) → length outcomes + n ≤ length rows
    → kept rows (outcomes ++ replicate n true) ≡ kept rows outcomes ++ take n (drop (length outcomes) rows)
kept-rows rows outcomes zero within = ap (kept rows) (append-nil outcomes) ∙ sym (append-nil (kept rows outcomes))
kept-rows rows outcomes (suc n) within = by (kept-rows rows (outcomes ++ true ∷ []) n) (drop (length outcomes) rows) refl
  where
    by : (length (outcomes ++ true ∷ []) + n ≤ length rows → kept rows ((outcomes ++ true ∷ []) ++ replicate n true) ≡ kept rows (outcomes ++ true ∷ []) ++ take n (drop (length (outcomes ++ true ∷ [])) rows))
        → (left : List _) → drop (length outcomes) rows ≡ left → kept rows (outcomes ++ replicate (suc n) true) ≡ kept rows outcomes ++ take (suc n) left
    by more [] e = let lengths = ap length e in absurd (omega (arith, lengths, within, length-drop (length outcomes) rows))
    by more (row ∷ later) e =
        let one : length (outcomes ++ true ∷ []) ≡ length outcomes + 1 = length-append outcomes (true ∷ []) in
        ap (kept rows) (sym (next-fates outcomes n))
        ∙ more (omega (arith, one, within))
        ∙ (λ i. kept-next rows outcomes row later e i ++ take n ((ap (λ m. drop m rows) one ∙ left-next (length outcomes) rows row later e) i))
        ∙ append_assoc (kept rows outcomes) (row ∷ []) (take n later)

-- and so many more were emitted
pub emitted-rows : (outcomes : List Bool) (n : ℕ) → emitted_count (outcomes ++ replicate n true) ≡ emitted_count outcomes + n
emitted-rows outcomes zero = ap emitted_count (append-nil outcomes) ∙ omega arith
emitted-rows outcomes (suc n) =
    let before = emitted-rows (outcomes ++ true ∷ []) n in
    let one = sum_by_push (λ fate. if is_emitted fate then 1 else 0) outcomes true in
    ap emitted_count (sym (next-fates outcomes n)) ∙ before ∙ omega (arith, one)
