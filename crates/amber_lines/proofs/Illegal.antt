-- The illegal line is the first up to which a log is no legal beginning.
use Rattle.std.proofs.Common.{◌≡◌, ℕ, suc, ◌+◌, ◌<◌, ◌≤◌, List, [], ◌∷◌, ◌++◌, length, take, drop, Option, Some, None, ◌⊎◌, inl, inr, refl, sym, ap, ◌∙◌, subst, arith, append-nil}
use Rattle.std.specs.Prelude.{option_and_then}
use Rattle.std.proofs.lemmas.Bool.{cases_order}
use Rattle.std.proofs.lemmas.List.{take-append-drop, take-take, take_all}
use Rattle.amber_log.specs.Grammar.{IsLog}
use Rattle.amber_log.specs.LogText.{log_lines}
use Rattle.amber_log.specs.declared.line.Line.{Line}
use Rattle.amber_log.specs.declared.log.Log.{Log}
use Rattle.amber_meaning.specs.Laws.{SendersFirst}
use Rattle.amber_meaning.specs.Legal.{IsLegal, Query}
use Rattle.amber_lines.specs.LineLaws.{IllegalLinesAreFirst, IsFirstIllegal}
use Rattle.amber_lines.specs.Lines.{Fresh, IsBeginning, Progress, bad_line_from, bad_or, illegal_line, judge, judge_all}
use Rattle.amber_lines.proofs.Beginnings.{beginnings_have_fronts, whole_logs_are_judged}

-- ---- what the walk along the lines finds

-- judging stops at this place
record StopsAt (query : Query) (progress : Progress) (number found : ℕ) (lines : List Line) : Type 0 where
  place : ℕ
  nth : found ≡ number + place
  inside : place < length lines
  last : Progress
  good : judge_all query progress (take place lines) ≡ Some last
  bad : judge_all query progress (take (suc place) lines) ≡ None

judged-none : (query : Query) (progress last : Progress) (number : ℕ) (lines : List Line) → judge_all query progress lines ≡ Some last
    → bad_line_from query progress number lines ≡ None
unfolding judge_all bad_line_from
judged-none query progress last number [] e = refl
judged-none query progress last number (one ∷ more) e = by (judge query progress one) (λ next. judged-none query next last (number + 1) more) e
  where
    by : (found : Option Progress) → ((next : Progress) → judge_all query next more ≡ Some last → bad_line_from query next (number + 1) more ≡ None)
        → option_and_then (λ next. judge_all query next more) found ≡ Some last → bad_or number found (λ next. bad_line_from query next (number + 1) more) ≡ None
    by None rest e = cc
    by (Some next) rest e = rest next e

none-judged : (query : Query) (progress : Progress) (number : ℕ) (lines : List Line) → bad_line_from query progress number lines ≡ None
    → (last : Progress) × (judge_all query progress lines ≡ Some last)
unfolding judge_all bad_line_from
none-judged query progress number [] e = (progress, refl)
none-judged query progress number (one ∷ more) e = by (judge query progress one) (λ next. none-judged query next (number + 1) more) e
  where
    by : (found : Option Progress) → ((next : Progress) → bad_line_from query next (number + 1) more ≡ None → (last : Progress) × (judge_all query next more ≡ Some last))
        → bad_or number found (λ next. bad_line_from query next (number + 1) more) ≡ None
        → (last : Progress) × (option_and_then (λ next. judge_all query next more) found ≡ Some last)
    by None rest e = cc
    by (Some next) rest e = rest next e

some-stops : (query : Query) (progress : Progress) (number found : ℕ) (lines : List Line) → bad_line_from query progress number lines ≡ Some found
    → StopsAt query progress number found lines
unfolding judge_all bad_line_from
some-stops query progress number found [] e = cc
some-stops query progress number found (one ∷ more) e = by (judge query progress one) refl (λ next. some-stops query next (number + 1) found more) e
  where
    by : (step : Option Progress) → judge query progress one ≡ step
        → ((next : Progress) → bad_line_from query next (number + 1) more ≡ Some found → StopsAt query next (number + 1) found more)
        → bad_or number step (λ next. bad_line_from query next (number + 1) more) ≡ Some found → StopsAt query progress number found (one ∷ more)
    by None is rest e =
        let here : number ≡ found = cc in
        record {
          place = 0;
          nth = omega arith;
          inside = omega arith;
          last = progress;
          good = refl;
          bad = ap (option_and_then (λ next. judge_all query next [])) is;
        }
    by (Some next) is rest e =
        let later = rest next e in
        let place = later.nth in
        let inside = later.inside in
        record {
          place = suc later.place;
          nth = omega arith;
          inside = omega arith;
          last = later.last;
          good = ap (option_and_then (λ next. judge_all query next (take later.place more))) is ∙ later.good;
          bad = ap (option_and_then (λ next. judge_all query next (take (suc later.place) more))) is ∙ later.bad;
        }

-- ---- the law

front-begins : (query : Query) (log : Log) (count : ℕ) (last : Progress) → IsLog log → judge_all query Fresh (take count (log_lines log)) ≡ Some last
    → IsBeginning query (take count (log_lines log))
front-begins query log count last text good =
    record { log = log; text = text; front = (drop count (log_lines log), take-append-drop count (log_lines log)); progress = last; good = good }

stops-first : (query : Query) (log : Log) (number : ℕ) → IsLog log → StopsAt query Fresh 1 number (log_lines log) → IsFirstIllegal query (log_lines log) number
stops-first query log number text h =
    let nth = h.nth in
    record {
      place = h.place;
      nth = omega arith;
      inside = h.inside;
      good = front-begins query log h.place h.last text h.good;
      bad = λ begins. refused (subst (λ (n : ℕ). IsBeginning query (take n (log_lines log))) (one_more h.place) begins);
    }
  where
    one_more : (n : ℕ) → n + 1 ≡ suc n
    one_more n = omega arith

    refused : IsBeginning query (take (suc h.place) (log_lines log)) → ⊥
    refused begins = let none = h.bad in let some = begins.good in cc

fewer-begin : (query : Query) (fewer more : ℕ) (lines : List Line) → fewer ≤ more → IsBeginning query (take more lines) → IsBeginning query (take fewer lines)
fewer-begin query fewer more lines h begins =
    let rest = drop fewer (take more lines) in
    let whole : take fewer lines ++ rest ≡ take more lines = ap (λ front. front ++ rest) (sym (take-take fewer more lines h)) ∙ take-append-drop fewer (take more lines) in
    beginnings_have_fronts query (take fewer lines) rest (subst (IsBeginning query) (sym whole) begins)

one-first : (query : Query) (lines : List Line) (number other : ℕ) → IsFirstIllegal query lines number → IsFirstIllegal query lines other → number ≡ other
one-first query lines number other h g = by (cases_order h.place g.place)
  where
    by : (h.place ≡ g.place) ⊎ ((h.place < g.place) ⊎ (g.place < h.place)) → number ≡ other
    by (inl same) = h.nth ∙ ap (λ (n : ℕ). n + 1) same ∙ sym g.nth
    by (inr (inl less)) = absurd (h.bad (fewer-begin query (h.place + 1) g.place lines (omega arith) g.good))
    by (inr (inr less)) = absurd (g.bad (fewer-begin query (g.place + 1) h.place lines (omega arith) h.good))

none-legal : (query : Query) (log : Log) → SendersFirst query.flow → IsLog log → illegal_line query log ≡ None → IsLegal query log
unfolding illegal_line
none-legal query log first text e =
    let judged = none-judged query Fresh 1 (log_lines log) e in
    (whole_logs_are_judged query log first text).1
    (record { log = log; text = text; front = ([], append-nil (log_lines log)); progress = judged.0; good = judged.1 })

legal-none : (query : Query) (log : Log) → SendersFirst query.flow → IsLog log → IsLegal query log → illegal_line query log ≡ None
unfolding illegal_line
legal-none query log first text legal =
    let begins = (whole_logs_are_judged query log first text).0 legal in
    judged-none query Fresh begins.progress 1 (log_lines log) begins.good

some-first : (query : Query) (log : Log) (number : ℕ) → IsLog log → illegal_line query log ≡ Some number → IsFirstIllegal query (log_lines log) number
unfolding illegal_line
some-first query log number text e = stops-first query log number text (some-stops query Fresh 1 number (log_lines log) e)

first-some : (query : Query) (log : Log) (number : ℕ) → SendersFirst query.flow → IsLog log → IsFirstIllegal query (log_lines log) number
    → (found : Option ℕ) → illegal_line query log ≡ found → found ≡ Some number
first-some query log number first text h None e =
    let begins = (whole_logs_are_judged query log first text).0 (none-legal query log first text e) in
    let all = take_all (length (log_lines log)) (log_lines log) (omega arith) in
    let inside = h.inside in
    absurd (h.bad (fewer-begin query (h.place + 1) (length (log_lines log)) (log_lines log) (omega arith) (subst (IsBeginning query) (sym all) begins)))
first-some query log number first text h (Some other) e =
    ap (λ (n : ℕ). Some n) (sym (one-first query (log_lines log) number other h (some-first query log other text e)))

pub illegal_lines_are_first : IllegalLinesAreFirst
illegal_lines_are_first query log first text = (
  (none-legal query log first text, legal-none query log first text),
  λ number. (some-first query log number text, λ h. first-some query log number first text h (illegal_line query log) refl),
)
