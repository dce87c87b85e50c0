-- Lines that are judged one after the other, and the first bad one.
use Rattle.std.proofs.Common.{◌≡◌, ℕ, ◌+◌, ◌<◌, List, [], ◌∷◌, ◌++◌, length, Option, Some, None, sym, ap, ◌∙◌, arith, append-nil}
use Rattle.std.specs.Prelude.{option_and_then}
use Rattle.amber_log.specs.declared.line.Line.{Line}
use Rattle.amber_meaning.specs.Legal.{Query}
use Rattle.amber_lines.specs.Lines.{Progress, bad_line_from, bad_or, judge, judge_all}

-- behind good lines the others are judged from where these lead
pub bad-on : (query : Query) (progress last : Progress) (number : ℕ) (lines more : List Line) → judge_all query progress lines ≡ Some last
    → bad_line_from query progress number (lines ++ more) ≡ bad_line_from query last (number + length lines) more
unfolding judge_all bad_line_from
bad-on query progress last number [] more e =
    let same : progress ≡ last = cc in
    let here : number ≡ number + 0 = omega arith in
    ap (λ (p : Progress). bad_line_from query p number more) same ∙ ap (λ (n : ℕ). bad_line_from query last n more) here
bad-on query progress last number (one ∷ lines) more e = by (judge query progress one) (λ next. bad-on query next last (number + 1) lines more) e
  where
    by : (found : Option Progress)
        → ((next : Progress) → judge_all query next lines ≡ Some last
        → bad_line_from query next (number + 1) (lines ++ more) ≡ bad_line_from query last (number + 1 + length lines) more)
        → option_and_then (λ next. judge_all query next lines) found ≡ Some last
        → bad_or number found (λ next. bad_line_from query next (number + 1) (lines ++ more)) ≡ bad_line_from query last (number + length (one ∷ lines)) more
    by None rest e = cc
    by (Some next) rest e =
        let place : number + 1 + length lines ≡ number + length (one ∷ lines) = omega arith in
        rest next e ∙ ap (λ (n : ℕ). bad_line_from query last n more) place

-- among good lines none is bad
pub bad-none : (query : Query) (progress last : Progress) (number : ℕ) (lines : List Line) → judge_all query progress lines ≡ Some last
    → bad_line_from query progress number lines ≡ None
unfolding bad_line_from
bad-none query progress last number lines e =
    ap (bad_line_from query progress number) (sym (append-nil lines)) ∙ bad-on query progress last number lines [] e

-- the first bad line stays the first, whatever follows
pub bad-front : (query : Query) (progress : Progress) (number found : ℕ) (lines more : List Line) → bad_line_from query progress number lines ≡ Some found
    → bad_line_from query progress number (lines ++ more) ≡ Some found
unfolding bad_line_from
bad-front query progress number found [] more e = cc
bad-front query progress number found (one ∷ lines) more e = by (judge query progress one) (λ next. bad-front query next (number + 1) found lines more) e
  where
    by : (step : Option Progress)
        → ((next : Progress) → bad_line_from query next (number + 1) lines ≡ Some found → bad_line_from query next (number + 1) (lines ++ more) ≡ Some found)
        → bad_or number step (λ next. bad_line_from query next (number + 1) lines) ≡ Some found
        → bad_or number step (λ next. bad_line_from query next (number + 1) (lines ++ more)) ≡ Some found
    by None rest e = e
    by (Some next) rest e = rest next e

-- where the lines are numbered from a later one, so is the bad one
pub bad-later : (query : Query) (progress : Progress) (before number found : ℕ) (lines : List Line) → bad_line_from query progress number lines ≡ Some found
    → bad_line_from query progress (before + number) lines ≡ Some (before + found)
unfolding bad_line_from
bad-later query progress before number found [] e = cc
bad-later query progress before number found (one ∷ lines) e = by (judge query progress one) (λ next. bad-later query next before (number + 1) found lines) e
  where
    by : (step : Option Progress)
        → ((next : Progress) → bad_line_from query next (number + 1) lines ≡ Some found
        → bad_line_from query next (before + (number + 1)) lines ≡ Some (before + found))
        → bad_or number step (λ next. bad_line_from query next (number + 1) lines) ≡ Some found
        → bad_or (before + number) step (λ next. bad_line_from query next (before + number + 1) lines) ≡ Some (before + found)
    by None rest e = let same : number ≡ found = cc in ap (λ (n : ℕ). Some (before + n)) same
    by (Some next) rest e =
        let place : before + number + 1 ≡ before + (number + 1) = omega arith in
        ap (λ (n : ℕ). bad_line_from query next n lines) place ∙ rest next e

-- it is one of the lines
pub bad-inside : (query : Query) (progress : Progress) (number found : ℕ) (lines : List Line) → bad_line_from query progress number lines ≡ Some found
    → found < number + length lines
unfolding bad_line_from
bad-inside query progress number found [] e = absurd (let never : None ≡ Some found = e in cc)
bad-inside query progress number found (one ∷ lines) e = by (judge query progress one) (λ next. bad-inside query next (number + 1) found lines) e
  where
    by : (step : Option Progress)
        → ((next : Progress) → bad_line_from query next (number + 1) lines ≡ Some found → found < number + 1 + length lines)
        → bad_or number step (λ next. bad_line_from query next (number + 1) lines) ≡ Some found → found < number + length (one ∷ lines)
    by None rest e = let same : number ≡ found = cc in omega arith
    by (Some next) rest e = let inside = rest next e in omega arith
