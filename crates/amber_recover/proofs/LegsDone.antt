-- The lines of a leg and of a command, judged and done.
use Rattle.std.proofs.Common.{◌≡◌, ℕ, ◌+◌, List, [], ◌∷◌, ◌++◌, length, Option, Some, None, Bool, true, false, refl, ap, ◌∙◌}
use Rattle.std.specs.Prelude.{option_and_then}
use Rattle.std.specs.List.{flat_map}
use Rattle.amber_log.specs.LogText.{item_lines, part_lines}
use Rattle.amber_log.specs.declared.leg.Close.{Close}
use Rattle.amber_log.specs.declared.leg.Part.{Part}
use Rattle.amber_log.specs.declared.line.Line.{Line}
use Rattle.amber_log.specs.declared.line.Line.TheVariants as line
use Rattle.amber_meaning.specs.Legal.{Query, leg_start}
use Rattle.amber_meaning.specs.State.{State}
use Rattle.amber_lines.specs.Lines.{Between, Progress, Within, bad_line_from, bad_or, judge_all, judge_close, leg_line}
use Rattle.amber_lines.proofs.Judged.{judge_all-append}
use Rattle.amber_home.specs.HomeState.{item_of_leg}
use Rattle.amber_recover.proofs.Judging.{bad-front, bad-on}

-- a leg's lines: the one that opens it, those of its parts, and its end
pub leg-lines : (to_end : Bool) (parts : List Part) (closed : Close)
    → item_lines (item_of_leg to_end parts closed) ≡ leg_line to_end ∷ (flat_map part_lines parts ++ line.Close closed ∷ [])
leg-lines false parts closed = refl
leg-lines true parts closed = refl

opened : (query : Query) (to_end : Bool) (state : State) (more : List Line)
    → judge_all query (Between state) (leg_line to_end ∷ more) ≡ judge_all query (Within to_end (leg_start to_end state) 0) more
unfolding judge_all
opened query false state more = refl
opened query true state more = refl

opened-bad : (query : Query) (to_end : Bool) (state : State) (number : ℕ) (more : List Line)
    → bad_line_from query (Between state) number (leg_line to_end ∷ more) ≡ bad_line_from query (Within to_end (leg_start to_end state) 0) (number + 1) more
unfolding bad_line_from
opened-bad query false state number more = refl
opened-bad query true state number more = refl

closed-line : (query : Query) (to_end : Bool) (now : State) (worker : ℕ) (closed : Close) (after : Progress) → judge_close query to_end now closed ≡ Some after
    → judge_all query (Within to_end now worker) (line.Close closed ∷ []) ≡ Some after
unfolding judge_all
closed-line query to_end now worker closed after e = ap (option_and_then (λ next. judge_all query next [])) e

closed-bad : (query : Query) (to_end : Bool) (now : State) (worker number : ℕ) (closed : Close) → judge_close query to_end now closed ≡ None
    → bad_line_from query (Within to_end now worker) number (line.Close closed ∷ []) ≡ Some number
unfolding bad_line_from
closed-bad query to_end now worker number closed e = ap (λ (found : Option Progress). bad_or number found (λ next. bad_line_from query next (number + 1) [])) e

-- the parts are good from where the leg begins, and lead there
abbrev pub PartsLead : Query → Bool → State → List Part → State → ℕ → Type 0
PartsLead query to_end state parts now last = judge_all query (Within to_end (leg_start to_end state) 0) (flat_map part_lines parts) ≡ Some (Within to_end now last)

-- a leg whose lines are good
pub leg-good : (query : Query) (to_end : Bool) (state now : State) (last : ℕ) (after : Progress) (parts : List Part) (closed : Close)
    → PartsLead query to_end state parts now last → judge_close query to_end now closed ≡ Some after
    → judge_all query (Between state) (item_lines (item_of_leg to_end parts closed)) ≡ Some after
leg-good query to_end state now last after parts closed lead e =
    let begun_leg = Within to_end (leg_start to_end state) 0 in
    ap (judge_all query (Between state)) (leg-lines to_end parts closed)
    ∙ opened query to_end state (flat_map part_lines parts ++ line.Close closed ∷ [])
    ∙ judge_all-append query begun_leg (flat_map part_lines parts) (line.Close closed ∷ [])
    ∙ ap (option_and_then (λ next. judge_all query next (line.Close closed ∷ []))) lead
    ∙ closed-line query to_end now last closed after e

-- one of whose parts has a bad line
pub leg-bad : (query : Query) (to_end : Bool) (state : State) (number found : ℕ) (parts : List Part) (closed : Close)
    → bad_line_from query (Within to_end (leg_start to_end state) 0) (number + 1) (flat_map part_lines parts) ≡ Some found
    → bad_line_from query (Between state) number (item_lines (item_of_leg to_end parts closed)) ≡ Some found
leg-bad query to_end state number found parts closed e =
    let begun_leg = Within to_end (leg_start to_end state) 0 in
    ap (bad_line_from query (Between state) number) (leg-lines to_end parts closed)
    ∙ opened-bad query to_end state number (flat_map part_lines parts ++ line.Close closed ∷ [])
    ∙ bad-front query begun_leg (number + 1) found (flat_map part_lines parts) (line.Close closed ∷ []) e

-- one that may not be closed so
pub leg-unclosed : (query : Query) (to_end : Bool) (state now : State) (last number : ℕ) (parts : List Part) (closed : Close)
    → PartsLead query to_end state parts now last → judge_close query to_end now closed ≡ None
    → bad_line_from query (Between state) number (item_lines (item_of_leg to_end parts closed)) ≡ Some (number + 1 + length (flat_map part_lines parts))
leg-unclosed query to_end state now last number parts closed lead e =
    let begun_leg = Within to_end (leg_start to_end state) 0 in
    ap (bad_line_from query (Between state) number) (leg-lines to_end parts closed)
    ∙ opened-bad query to_end state number (flat_map part_lines parts ++ line.Close closed ∷ [])
    ∙ bad-on query begun_leg (Within to_end now last) (number + 1) (flat_map part_lines parts) (line.Close closed ∷ []) lead
    ∙ closed-bad query to_end now last (number + 1 + length (flat_map part_lines parts)) closed e
