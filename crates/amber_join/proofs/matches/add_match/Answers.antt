-- The row at the place, or none past the last.
use Rattle.std.proofs.Common.{◌≤◌, ◌<◌, ◌∙◌, ◌++◌, ◌∷◌, [], suc, List, ap, arith, length, map, refl, sym}
use Rattle.std.specs.List.{cons_option}
use Rattle.std.proofs.lemmas.Bool.{leb-false}
use Rattle.std.proofs.lemmas.List.{append-nil}
use Rattle.std.proofs.lemmas.Option.{slice_get_past, slice_get_read}
use Rattle.amber_rows.specs.declared.value.Value.{Value}
use Rattle.amber_join.proofs.matches.add_match.Goals as goal

pub returns-in_default : goal.returns-in_default
returns-in_default c =
    let build = c.args.build.now in
    let made = c.args.made.now.items in
    let outside : length build < suc c.args.place = leb-false (suc c.args.place) (length build) (sym c.in_default.ensures.lookup.0) in
    let past : length build ≤ c.args.place = omega (arith, outside) in
    sym (ap (λ found. made ++ map (λ (other : List Value). c.args.probe.now ++ other) (cons_option found [])) (slice_get_past build c.args.place past) ∙ append-nil made)

pub returns-in_ok-push : goal.returns-in_ok-push
returns-in_ok-push c =
    let build = c.args.build.now in
    let made = c.args.made.now.items in
    let at = c.in-Some.ensures.lookup in
    c.in_ok-push.ensures.items ∙ ap (λ row. made ++ row ∷ []) c.in_ok-beside_in.ensures
    ∙ sym (ap (λ found. made ++ map (λ (other : List Value). c.args.probe.now ++ other) (cons_option found [])) (slice_get_read build (length build) c.args.place c.in-Some.other.now refl at.3.0 at.1))
