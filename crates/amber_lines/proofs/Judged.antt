-- Lines judged one after the other.
use Rattle.std.proofs.Common.{◌≡◌, List, [], ◌∷◌, ◌++◌, Option, Some, None, Bool, true, false, refl, sym, ◌∙◌}
use Rattle.std.specs.Prelude.{option_and_then}
use Rattle.amber_log.specs.declared.line.Line.{Line}
use Rattle.amber_meaning.specs.Legal.{Query}
use Rattle.amber_lines.specs.Lines.{Progress, judge, judge_all, when}

-- what passes a test
pub passes : (may : Bool) (progress next : Progress) → when may progress ≡ Some next → (may ≡ true) × (progress ≡ next)
passes true progress next e = (refl, by e)
  where
    by : Some progress ≡ Some next → progress ≡ next
    by e = cc
passes false progress next e = cc

-- the step that a chain begins with
pub first-of : (found : Option Progress) (rest : Progress → Option Progress) (last : Progress) → option_and_then rest found ≡ Some last
    → (next : Progress) × (found ≡ Some next) × (rest next ≡ Some last)
first-of None rest last e = cc
first-of (Some next) rest last e = (next, refl, e)

pub judge_all-append : (query : Query) (progress : Progress) (lines more : List Line)
    → judge_all query progress (lines ++ more) ≡ option_and_then (λ next. judge_all query next more) (judge_all query progress lines)
unfolding judge_all
judge_all-append query progress [] more = refl
judge_all-append query progress (one ∷ lines) more = by (judge query progress one) (λ next. judge_all-append query next lines more)
  where
    by : (found : Option Progress) → ((next : Progress) → judge_all query next (lines ++ more) ≡ option_and_then (λ last. judge_all query last more) (judge_all query next lines))
        → option_and_then (λ next. judge_all query next (lines ++ more)) found
        ≡ option_and_then (λ last. judge_all query last more) (option_and_then (λ next. judge_all query next lines) found)
    by None rest = refl
    by (Some next) rest = rest next

-- the progress between the first lines and the others
pub judge_all-parts : (query : Query) (progress last : Progress) (lines more : List Line) → judge_all query progress (lines ++ more) ≡ Some last
    → (next : Progress) × (judge_all query progress lines ≡ Some next) × (judge_all query next more ≡ Some last)
judge_all-parts query progress last lines more e =
    first-of (judge_all query progress lines) (λ next. judge_all query next more) last (sym (judge_all-append query progress lines more) ∙ e)
