-- What is read of a file is the log that stands in it.
use Rattle.std.proofs.Common.{◌≡◌, ℕ, ◌⊎◌, inl, inr, List, [], ◌∷◌, map, Option, Some, None, Result, Ok, Err, refl, sym, ap, ◌∙◌, subst}
use Rattle.std.specs.Prelude.{IfOk, IfSome, option_and_then}
use Rattle.amber_log.specs.Grammar.{AreItems, IsBatch, IsLog}
use Rattle.amber_log.specs.Laws.{ReadsWhatStands}
use Rattle.amber_log.specs.LogText.{unlines}
use Rattle.amber_log.specs.ReadAs.{IsReadAs, lines_of, read_of, whole_items, whole_lines}
use Rattle.amber_log.specs.ReadLines.{empty_log, next_or, read_lines, read_on, start}
use Rattle.amber_log.specs.ReadWords.{parse}
use Rattle.amber_log.specs.Words.{spell}
use Rattle.amber_log.specs.declared.line.Line.{Line}
use Rattle.amber_log.specs.declared.line.Line.TheVariants as line
use Rattle.amber_log.specs.declared.log.Log.{Log}
use Rattle.amber_log.specs.declared.reading.Place.TheVariants as place
use Rattle.amber_log.specs.declared.reading.Reading.{Reading}
use Rattle.amber_log.proofs.Sound.{IsLogOf, IsReading, IsSpelled, parse-found, read_on-found}
use Rattle.amber_log.proofs.Torn.{log_bytes, log_text-unlines, what_stands_is_read}

-- these lines are the log's
abbrev pub IsTextOf : List (List ℕ) → Log → Type 0
IsTextOf lines log = IsLog log × (lines ≡ log_bytes log)

abbrev pub behind_head : ℕ → Reading
behind_head batch = record { batch = batch; items = []; place = place.Outside }

pub IsReading-head : (batch : ℕ) → IsBatch batch → IsReading (behind_head batch)
unfolding AreItems
IsReading-head batch h = record { batch = h; items = tt; over = refl; place = tt }

by_result : (batch : ℕ) (bytes : List ℕ) (lines : List (List ℕ)) (result : Result Log ℕ) → bytes ≡ spell (line.Head batch)
    → IfOk result (IsLogOf (behind_head batch) lines) → IfOk result (IsTextOf (bytes ∷ lines))
by_result batch bytes lines (Err number) e h = tt
by_result batch bytes lines (Ok log) e h =
    (h.legal, ap (λ (b : List ℕ). b ∷ lines) e ∙ ap (λ (l : List (List ℕ)). spell (line.Head batch) ∷ l) (sym h.spelled) ∙ ap (map spell) h.whole)

by_first : (bytes : List ℕ) (lines : List (List ℕ)) (found : Option Line) → IfSome found (IsSpelled bytes)
    → IfOk (next_or 1 (option_and_then start found) (λ reading. read_on 2 reading lines)) (IsTextOf (bytes ∷ lines))
by_first bytes lines None h = tt
by_first bytes lines (Some (line.Head batch)) h =
    by_result batch bytes lines (read_on 2 (behind_head batch) lines) h.0 (read_on-found lines 2 (behind_head batch) (IsReading-head batch h.1))
by_first bytes lines (Some (line.Do command)) h = tt
by_first bytes lines (Some line.Run) h = tt
by_first bytes lines (Some line.End) h = tt
by_first bytes lines (Some (line.Worker worker)) h = tt
by_first bytes lines (Some (line.Entry entry)) h = tt
by_first bytes lines (Some (line.Close close)) h = tt

-- lines that read as a log are its lines, or there are none
abbrev pub IsFound : List (List ℕ) → Log → Type 0
IsFound lines log = IsTextOf lines log ⊎ ((lines ≡ []) × (log ≡ empty_log))

found_text : (lines : List (List ℕ)) (result : Result Log ℕ) → IfOk result (IsTextOf lines) → IfOk result (IsFound lines)
found_text lines (Err number) h = tt
found_text lines (Ok log) h = inl h

pub read_lines-found : (lines : List (List ℕ)) → IfOk (read_lines lines) (IsFound lines)
unfolding read_lines
read_lines-found [] = inr (refl, refl)
read_lines-found (bytes ∷ lines) =
    found_text (bytes ∷ lines) (next_or 1 (option_and_then start (parse bytes)) (λ reading. read_on 2 reading lines)) (by_first bytes lines (parse bytes) (parse-found bytes))

stands : (bytes : List ℕ) (log : Log) → IsFound (whole_lines (lines_of bytes)) log → IsReadAs bytes log
unfolding whole_items
stands bytes log (inl (h, e)) = inl (h, ap unlines e ∙ sym (log_text-unlines log))
stands bytes log (inr (none, e)) = inr (ap unlines none, e)

what_is_read_stands : (bytes : List ℕ) (log : Log) → read_of bytes ≡ Ok log → IsReadAs bytes log
unfolding read_of
what_is_read_stands bytes log e =
    stands bytes log (subst (λ (result : Result Log ℕ). IfOk result (IsFound (whole_lines (lines_of bytes)))) e (read_lines-found (whole_lines (lines_of bytes))))

pub reads_what_stands : ReadsWhatStands
reads_what_stands bytes log = (what_is_read_stands bytes log, what_stands_is_read bytes log)
