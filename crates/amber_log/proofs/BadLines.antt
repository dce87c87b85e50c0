-- Reading fails at the first line with which the lines begin those of no log.
use Rattle.std.proofs.Common.{◌≡◌, ℕ, suc, ◌+◌, ◌<◌, ◌≤◌, ◌⊎◌, inl, inr, ◌++◌, Bool, true, false, List, [], ◌∷◌, length, map, take, drop, Option, Some, None, Result, Ok, Err, refl, sym, ap, ◌∙◌, subst, arith, add-one, length-append, append_assoc, append-nil}
use Rattle.std.specs.Prelude.{IfErr, IfOk, IfSome, option_and_then}
use Rattle.std.proofs.Math.Seq.{take-append_seam}
use Rattle.std.proofs.lemmas.Bool.{cases_order}
use Rattle.std.proofs.lemmas.List.{map-append, take-append-drop, take-take}
use Rattle.std.proofs.lemmas.Result.{IfErr-at_err}
use Rattle.amber_log.specs.Grammar.{AreItems}
use Rattle.amber_log.specs.LogText.{log_lines}
use Rattle.amber_log.specs.ReadAs.{closes, cut_back, keep, lines_of, read_of, whole_lines}
use Rattle.amber_log.specs.ReadLines.{empty_log, finish, finish_at, next_or, read_lines, read_on, start, step}
use Rattle.amber_log.specs.ReadWords.{parse}
use Rattle.amber_log.specs.TextLaws.{BeginsText, FailsAtFirstBadLine, IsFirstBadLine}
use Rattle.amber_log.specs.Words.{spell}
use Rattle.amber_log.specs.declared.line.Line.{Line}
use Rattle.amber_log.specs.declared.line.Line.TheVariants as line
use Rattle.amber_log.specs.declared.log.Log.{Log}
use Rattle.amber_log.specs.declared.reading.Place.{Place}
use Rattle.amber_log.specs.declared.reading.Place.TheVariants as place
use Rattle.amber_log.specs.declared.reading.Reading.{Reading}
use Rattle.amber_log.proofs.Complete.{read_lines-log_lines}
use Rattle.amber_log.proofs.Endings.{IsAtRest, closing_rests, readings_end}
use Rattle.amber_log.proofs.Exact.{IsFound, IsReading-head, behind_head, read_lines-found}
use Rattle.amber_log.proofs.Sound.{Adds, IsReading, IsSpelled, lines_read, parse-found, step-adds, step-is}

-- ---- the last line ends an item

-- the last of these lines ends an item, if there is one
abbrev LastCloses : List (List ℕ) → Type 0
LastCloses [] = Unit {0}
LastCloses (bytes ∷ []) = closes bytes ≡ true
LastCloses (bytes ∷ next ∷ lines) = LastCloses (next ∷ lines)

LastCloses-keep : (closing : Bool) (bytes : List ℕ) (kept : List (List ℕ)) → closes bytes ≡ closing → LastCloses kept → LastCloses (keep closing bytes kept)
LastCloses-keep true bytes [] e h = e
LastCloses-keep false bytes [] e h = tt
LastCloses-keep true bytes (next ∷ kept) e h = h
LastCloses-keep false bytes (next ∷ kept) e h = h

LastCloses-cut_back : (lines : List (List ℕ)) → LastCloses (cut_back lines)
unfolding cut_back
LastCloses-cut_back [] = tt
LastCloses-cut_back (bytes ∷ lines) = LastCloses-keep (closes bytes) bytes (cut_back lines) refl (LastCloses-cut_back lines)

-- after the first of these lines, where it is the last: it ends an item
LastCloses-first : (bytes : List ℕ) (lines : List (List ℕ)) → LastCloses (bytes ∷ lines) → lines ≡ [] → closes bytes ≡ true
LastCloses-first bytes [] h none = h
LastCloses-first bytes (next ∷ lines) h none = cc

LastCloses-later : (bytes : List ℕ) (lines : List (List ℕ)) → LastCloses (bytes ∷ lines) → LastCloses lines
LastCloses-later bytes [] h = tt
LastCloses-later bytes (next ∷ lines) h = h

-- ---- the first bad line

take-one_more : (before : List (List ℕ)) (bytes : List ℕ) (lines : List (List ℕ)) → take (suc (length before)) (before ++ bytes ∷ lines) ≡ before ++ bytes ∷ []
take-one_more [] bytes lines = refl
take-one_more (first ∷ before) bytes lines = ap (λ (l : List (List ℕ)). first ∷ l) (take-one_more before bytes lines)

-- lines that begin a log's read as that log once they are all there
begun_reads : (lines : List (List ℕ)) → (h : BeginsText lines) → read_lines (lines ++ h.more) ≡ Ok h.log
begun_reads lines h = ap read_lines h.whole ∙ read_lines-log_lines h.log h.text

-- reading fails here whatever follows, and the lines before begin a log's
first_bad : (before : List (List ℕ)) (bytes : List ℕ) (lines : List (List ℕ)) → BeginsText before
    → ((more : List (List ℕ)) → read_lines (before ++ bytes ∷ more) ≡ Err (length before + 1)) → IsFirstBadLine (before ++ bytes ∷ lines) (length before + 1)
first_bad before bytes lines begins fails =
    record {
      place = length before;
      nth = refl;
      inside = let size = length-append before (bytes ∷ lines) in omega arith;
      good = subst BeginsText (sym (take-append_seam before (bytes ∷ lines))) begins;
      bad = λ h. fails_at (subst BeginsText (ap (λ (n : ℕ). take n (before ++ bytes ∷ lines)) (add-one (length before)) ∙ take-one_more before bytes lines) h);
    }
  where
    fails_at : BeginsText (before ++ bytes ∷ []) → ⊥
    fails_at h =
        let reads : read_lines ((before ++ bytes ∷ []) ++ h.more) ≡ Ok h.log = begun_reads (before ++ bytes ∷ []) h in
        let same : read_lines ((before ++ bytes ∷ []) ++ h.more) ≡ Err (length before + 1) = ap read_lines (append_assoc before (bytes ∷ []) h.more) ∙ fails h.more in
        cc

-- ---- reading on

-- what was read are these lines
record Follows (before : List (List ℕ)) (reading : Reading) : Type 0 where
  is : IsReading reading
  lines : map spell (lines_read reading) ≡ before
  reads : (more : List (List ℕ)) → read_lines (before ++ more) ≡ read_on (length before + 1) reading more

follows_begin : (before : List (List ℕ)) (reading : Reading) → Follows before reading → BeginsText before
follows_begin before reading f =
    let ends = readings_end reading f.is in
    record {
      log = ends.log;
      text = ends.text;
      more = map spell ends.more;
      whole = ap (λ (l : List (List ℕ)). l ++ map spell ends.more) (sym f.lines) ∙ sym (map-append {A = Line} spell (lines_read reading) ends.more) ∙ ap (map spell) ends.whole;
    }

-- whether a line can stand after what was read
stepped : Reading → List ℕ → Option Reading
stepped reading bytes = option_and_then (step reading) (parse bytes)

one_more : (before : List (List ℕ)) (reading next : Reading) (one : Line) (bytes : List ℕ) → Follows before reading → IsSpelled bytes one
    → Adds reading one next → IsReading next → ((more : List (List ℕ)) → read_on (length before + 1) reading (bytes ∷ more) ≡ read_on (length before + 1 + 1) next more)
    → Follows (before ++ bytes ∷ []) next
one_more before reading next one bytes f spelled adds is reads =
    let size : length (before ++ bytes ∷ []) + 1 ≡ length before + 1 + 1 = let e = length-append before (bytes ∷ []) in omega arith in
    record {
      is = is;
      lines = ap (map spell) adds ∙ map-append {A = Line} spell (lines_read reading) (one ∷ []) ∙ ap (λ (l : List (List ℕ)). l ++ spell one ∷ []) f.lines
          ∙ ap (λ (b : List ℕ). before ++ b ∷ []) (sym spelled.0);
      reads = λ more. ap read_lines (append_assoc before (bytes ∷ []) more) ∙ f.reads (bytes ∷ more) ∙ reads more ∙ ap (λ (n : ℕ). read_on n next more) (sym size);
    }

abbrev FailsFirst : List (List ℕ) → Result Log ℕ → Type 0
FailsFirst lines result = IfErr result (IsFirstBadLine lines)

-- what is made of the lines that are left
abbrev FailsWell : List (List ℕ) → Type 0
FailsWell lines = (before : List (List ℕ)) (reading : Reading) → Follows before reading → (lines ≡ [] → IsAtRest reading.place) → LastCloses lines
    → FailsFirst (before ++ lines) (read_on (length before + 1) reading lines)

rest_is_read : (lines : List (List ℕ)) (number : ℕ) (reading : Reading) (place : Place) → IsAtRest place → FailsFirst lines (finish_at number reading place)
rest_is_read lines number reading place.Outside h = tt
rest_is_read lines number reading place.Over h = tt
rest_is_read lines number reading (place.Opened end) h = absurd h
rest_is_read lines number reading (place.Inside end parts worker entries gone) h = absurd h

by_step : (before : List (List ℕ)) (reading : Reading) (one : Line) (bytes : List ℕ) (lines : List (List ℕ)) (found : Option Reading)
    → Follows before reading → LastCloses (bytes ∷ lines) → IsSpelled bytes one → step reading one ≡ found → parse bytes ≡ Some one
    → IfSome found (Adds reading one) → IfSome found IsReading → IfSome found (λ next. closes bytes ≡ true → IsAtRest next.place) → FailsWell lines
    → FailsFirst (before ++ bytes ∷ lines) (next_or (length before + 1) found (λ next. read_on (length before + 1 + 1) next lines))
unfolding read_on
by_step before reading one bytes lines None f closing spelled step_is parsed adds is rests rest =
    first_bad before bytes lines (follows_begin before reading f)
    (λ more. f.reads (bytes ∷ more)
    ∙ ap (λ (o : Option Line). next_or (length before + 1) (option_and_then (step reading) o) (λ next. read_on (length before + 1 + 1) next more)) parsed
    ∙ ap (λ (o : Option Reading). next_or (length before + 1) o (λ next. read_on (length before + 1 + 1) next more)) step_is)
by_step before reading one bytes lines (Some next) f closing spelled step_is parsed adds is rests rest =
    let later = one_more before reading next one bytes f spelled adds is
    (λ more. ap (λ (o : Option Line). next_or (length before + 1) (option_and_then (step reading) o) (λ next. read_on (length before + 1 + 1) next more)) parsed
    ∙ ap (λ (o : Option Reading). next_or (length before + 1) o (λ next. read_on (length before + 1 + 1) next more)) step_is) in
    let result = rest (before ++ bytes ∷ []) next later (λ none. rests (LastCloses-first bytes lines closing none)) (LastCloses-later bytes lines closing) in
    let size : length (before ++ bytes ∷ []) + 1 ≡ length before + 1 + 1 = let e = length-append before (bytes ∷ []) in omega arith in
    subst (λ (l : List (List ℕ)). FailsFirst l (read_on (length before + 1 + 1) next lines)) (append_assoc before (bytes ∷ []) lines)
    (subst (λ (n : ℕ). FailsFirst ((before ++ bytes ∷ []) ++ lines) (read_on n next lines)) size result)

by_parse : (before : List (List ℕ)) (reading : Reading) (bytes : List ℕ) (lines : List (List ℕ)) (found : Option Line)
    → Follows before reading → LastCloses (bytes ∷ lines) → parse bytes ≡ found → IfSome found (IsSpelled bytes) → FailsWell lines
    → FailsFirst (before ++ bytes ∷ lines) (next_or (length before + 1) (option_and_then (step reading) found) (λ next. read_on (length before + 1 + 1) next lines))
unfolding read_on
by_parse before reading bytes lines None f closing parsed spelled rest =
    first_bad before bytes lines (follows_begin before reading f)
    (λ more. f.reads (bytes ∷ more)
    ∙ ap (λ (o : Option Line). next_or (length before + 1) (option_and_then (step reading) o) (λ next. read_on (length before + 1 + 1) next more)) parsed)
by_parse before reading bytes lines (Some one) f closing parsed spelled rest =
    by_step before reading one bytes lines (step reading one) f closing spelled refl parsed (step-adds reading one) (step-is reading one f.is spelled.1)
    (at_close (step reading one) (λ h. closing_rests reading one (ap closes (sym spelled.0) ∙ h))) rest
  where
    at_close : (found : Option Reading) → (closes bytes ≡ true → IfSome found (λ next. IsAtRest next.place)) → IfSome found (λ next. closes bytes ≡ true → IsAtRest next.place)
    at_close None h = tt
    at_close (Some next) h = h

read_on-fails : (lines : List (List ℕ)) → FailsWell lines
unfolding read_on finish
read_on-fails [] before reading f rest closing = rest_is_read (before ++ []) (length before + 1) reading reading.place (rest refl)
read_on-fails (bytes ∷ lines) before reading f rest closing = by_parse before reading bytes lines (parse bytes) f closing refl (parse-found bytes) (read_on-fails lines)

-- ---- the first line

begins_at_once : BeginsText []
unfolding AreItems
begins_at_once = record { log = empty_log; text = record { batch = (omega arith, omega arith); items = tt }; more = map spell (log_lines empty_log); whole = refl }

follows_head : (batch : ℕ) (bytes : List ℕ) → IsSpelled bytes (line.Head batch) → parse bytes ≡ Some (line.Head batch) → Follows (bytes ∷ []) (behind_head batch)
unfolding read_lines
follows_head batch bytes spelled parsed =
    record {
      is = IsReading-head batch spelled.1;
      lines = ap (λ (b : List ℕ). b ∷ []) (sym spelled.0);
      reads = λ more. ap (λ (o : Option Line). next_or 1 (option_and_then start o) (λ reading. read_on 2 reading more)) parsed;
    }

bad_head : (bytes : List ℕ) (lines : List (List ℕ)) (found : Option Line) → parse bytes ≡ found → option_and_then start found ≡ None
    → IsFirstBadLine (bytes ∷ lines) 1
unfolding read_lines
bad_head bytes lines found parsed none =
    first_bad [] bytes lines begins_at_once
    (λ more. ap (λ (o : Option Line). next_or 1 (option_and_then start o) (λ reading. read_on 2 reading more)) parsed
    ∙ ap (λ (o : Option Reading). next_or 1 o (λ reading. read_on 2 reading more)) none)

by_first : (bytes : List ℕ) (lines : List (List ℕ)) (found : Option Line) → LastCloses lines → parse bytes ≡ found → IfSome found (IsSpelled bytes)
    → FailsFirst (bytes ∷ lines) (next_or 1 (option_and_then start found) (λ reading. read_on 2 reading lines))
unfolding read_lines
by_first bytes lines None closing parsed h = bad_head bytes lines None parsed refl
by_first bytes lines (Some (line.Head batch)) closing parsed h =
    read_on-fails lines (bytes ∷ []) (behind_head batch) (follows_head batch bytes h parsed) (λ none. tt) closing
by_first bytes lines (Some (line.Do command)) closing parsed h = bad_head bytes lines (Some (line.Do command)) parsed refl
by_first bytes lines (Some line.Run) closing parsed h = bad_head bytes lines (Some line.Run) parsed refl
by_first bytes lines (Some line.End) closing parsed h = bad_head bytes lines (Some line.End) parsed refl
by_first bytes lines (Some (line.Worker worker)) closing parsed h = bad_head bytes lines (Some (line.Worker worker)) parsed refl
by_first bytes lines (Some (line.Entry entry)) closing parsed h = bad_head bytes lines (Some (line.Entry entry)) parsed refl
by_first bytes lines (Some (line.Close close)) closing parsed h = bad_head bytes lines (Some (line.Close close)) parsed refl

read_lines-fails : (lines : List (List ℕ)) → FailsFirst (whole_lines lines) (read_lines (whole_lines lines))
unfolding read_lines whole_lines
read_lines-fails [] = tt
read_lines-fails (bytes ∷ lines) = by_first bytes (cut_back lines) (parse bytes) (LastCloses-cut_back lines) refl (parse-found bytes)

-- ---- there is one first bad line

front_begins : (xs ys : List (List ℕ)) → BeginsText (xs ++ ys) → BeginsText xs
front_begins xs ys h = record { log = h.log; text = h.text; more = ys ++ h.more; whole = sym (append_assoc xs ys h.more) ∙ h.whole }

fewer_begin : (fewer more : ℕ) (lines : List (List ℕ)) → fewer ≤ more → BeginsText (take more lines) → BeginsText (take fewer lines)
fewer_begin fewer more lines h begins =
    let rest = drop fewer (take more lines) in
    let whole : take fewer lines ++ rest ≡ take more lines = ap (λ front. front ++ rest) (sym (take-take fewer more lines h)) ∙ take-append-drop fewer (take more lines) in
    front_begins (take fewer lines) rest (subst BeginsText (sym whole) begins)

one_first : (lines : List (List ℕ)) (number other : ℕ) → IsFirstBadLine lines number → IsFirstBadLine lines other → number ≡ other
one_first lines number other h g = by_order (cases_order h.place g.place)
  where
    by_order : (h.place ≡ g.place) ⊎ ((h.place < g.place) ⊎ (g.place < h.place)) → number ≡ other
    by_order (inl same) = h.nth ∙ ap (λ (n : ℕ). n + 1) same ∙ sym g.nth
    by_order (inr (inl less)) = absurd (h.bad (fewer_begin (h.place + 1) g.place lines (omega arith) g.good))
    by_order (inr (inr less)) = absurd (g.bad (fewer_begin (g.place + 1) h.place lines (omega arith) h.good))

found_begins : (lines : List (List ℕ)) (log : Log) (number : ℕ) → IsFound lines log → IsFirstBadLine lines number → ⊥
found_begins lines log number (inl (legal, whole)) h =
    h.bad (front_begins (take (h.place + 1) lines) (drop (h.place + 1) lines)
    (record { log = log; text = legal; more = []; whole = append-nil (take (h.place + 1) lines ++ drop (h.place + 1) lines) ∙ take-append-drop (h.place + 1) lines ∙ whole }))
found_begins lines log number (inr (none, empty)) h =
    let size : length lines ≡ 0 = ap length none in
    let inside = h.inside in
    omega arith

first_fails : (lines : List (List ℕ)) (number : ℕ) (result : Result Log ℕ) → IfOk result (IsFound lines) → FailsFirst lines result → IsFirstBadLine lines number → result ≡ Err number
first_fails lines number (Ok log) found fails h = absurd (found_begins lines log number found h)
first_fails lines number (Err other) found fails h = ap (λ (n : ℕ). Err n) (one_first lines other number fails h)

pub fails_at_first_bad_line : FailsAtFirstBadLine
unfolding read_of
fails_at_first_bad_line bytes number =
    let lines = whole_lines (lines_of bytes) in (
      λ e. IfErr-at_err (IsFirstBadLine lines) e (read_lines-fails (lines_of bytes)),
      λ h. first_fails lines number (read_lines lines) (read_lines-found lines) (read_lines-fails (lines_of bytes)) h,
    )
