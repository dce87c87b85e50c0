-- From each part to the next, and the line that ends the leg.
use Rattle.std.proofs.Common.{◌≡◌, ℕ, ◌+◌, ◌<◌, ◌≤◌, List, [], ◌∷◌, ◌++◌, length, take, get_or, append_assoc, sym, ap, ◌∙◌}
use Rattle.std.specs.List.{flat_map}
use Rattle.std.proofs.lemmas.Grind.{flat_map-append}
use Rattle.std.proofs.lemmas.List.{append-nil, take_all, take_more}
use Rattle.std.proofs.lemmas.Result.{on_ok_weaker}
use Rattle.amber_log.specs.LogText.{line_text}
use Rattle.amber_log.specs.declared.leg.Close.{Close}
use Rattle.amber_log.specs.declared.leg.Leg.{Leg}
use Rattle.amber_log.specs.declared.leg.Part.{Part}
use Rattle.amber_log.specs.declared.line.Line.TheVariants as line
use Rattle.amber_journal.specs.Written.{leg_text, part_text}
use Rattle.amber_journal.proofs.legs.push_leg.Goals as goal

-- the parts so far and one more
parts_more : (old out more : List ℕ) (parts : List Part) (i : ℕ) (d : Part) → i < length parts → out ≡ old ++ flat_map part_text (take i parts) → more ≡ out ++ part_text (get_or parts i d)
    → more ≡ old ++ flat_map part_text (take (i + 1) parts)
parts_more old out more parts i d less told so =
    let last : List ℕ = flat_map part_text (take i parts) in
    let part : List ℕ = part_text (get_or parts i d) in
    let step : flat_map part_text (take (i + 1) parts) ≡ last ++ part =
    ap (flat_map part_text) (take_more parts i d less) ∙ flat_map-append part_text (take i parts) (get_or parts i d ∷ []) ∙ ap (λ (end : List ℕ). last ++ end) (append-nil part) in
    so ∙ ap (λ (begun : List ℕ). begun ++ part) told ∙ append_assoc old last part ∙ ap (λ (end : List ℕ). old ++ end) (sym step)

-- all parts and the line that ends the leg
closed : (old out new : List ℕ) (parts : List Part) (i : ℕ) (leg : Leg) → length parts ≤ i → parts ≡ leg.parts → out ≡ old ++ flat_map part_text (take i parts) → new ≡ out ++ line_text (line.Close leg.close)
    → new ≡ old ++ leg_text leg
closed old out new parts i leg all is told so =
    so
    ∙ ap (λ (begun : List ℕ). begun ++ line_text (line.Close leg.close)) (told ∙ ap (λ (parts : List Part). old ++ flat_map part_text parts) (take_all i parts all ∙ is))
    ∙ append_assoc old (flat_map part_text leg.parts) (line_text (line.Close leg.close))

pub loop-part-init : goal.loop-part-init
loop-part-init c = sym (append-nil c.args.out.now.items)

pub loop-part-preserved : goal.loop-part-preserved
loop-part-preserved c =
    parts_more c.args.out.now.items c.loop-part.out.items c.push_part.new.out.items c.get-parts.result.now c.loop-part.part-index c.part-item.result c.loop-part-test.true c.loop-part.invariant
    (c.in_ok-push_part.ensures ∙ ap (λ (part : Part). c.loop-part.out.items ++ part_text part) c.part-item.is)

pub returns-in-Cut : goal.returns-in-Cut
returns-in-Cut c =
    on_ok_weaker c.push_line.result
    (λ so. closed c.args.out.now.items c.loop-part.out.items c.push_line.new.out.items c.get-parts.result.now c.loop-part.part-index c.args.leg.now c.loop-part-test.false c.get-parts.ensures c.loop-part.invariant
    (so ∙ ap (λ (close : Close). c.loop-part.out.items ++ line_text (line.Close close)) (sym c.in-Cut.is)))
    c.push_line.ensures

pub returns-in-Long : goal.returns-in-Long
returns-in-Long c =
    on_ok_weaker c.push_line-in-Long.result
    (λ so. closed c.args.out.now.items c.loop-part.out.items c.push_line-in-Long.new.out.items c.get-parts.result.now c.loop-part.part-index c.args.leg.now c.loop-part-test.false c.get-parts.ensures c.loop-part.invariant
    (so ∙ ap (λ (close : Close). c.loop-part.out.items ++ line_text (line.Close close)) (sym c.in-Long.is)))
    c.push_line-in-Long.ensures
