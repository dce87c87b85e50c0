-- How many lines the first of several parts or items have.
use Rattle.std.proofs.Common.{◌≡◌, ℕ, ◌+◌, ◌<◌, ◌≤◌, List, [], ◌∷◌, length, take, get_or, sym, ap, ◌∙◌, arith, append-nil, length-append}
use Rattle.std.specs.List.{flat_map}
use Rattle.std.proofs.lemmas.List.{take_more}
use Rattle.std.proofs.lemmas.List.Concat.{flat_map-append}
use Rattle.std.proofs.lemmas.List.Folds.{length-flat_map-take}
use Rattle.amber_log.specs.LogText.{item_lines, part_lines}
use Rattle.amber_log.specs.declared.leg.Part.{Part}
use Rattle.amber_log.specs.declared.log.Item.{Item}

-- the length of one more
one-longer : {X Y : Type 0} (f : X → List Y) (xs : List X) (i : ℕ) (d : X) → i < length xs
    → length (flat_map f (take (i + 1) xs)) ≡ length (flat_map f (take i xs)) + length (f (get_or xs i d))
one-longer f xs i d less =
    ap (λ ys. length (flat_map f ys)) (take_more xs i d less)
    ∙ ap (λ ys. length ys) (flat_map-append f (take i xs) (get_or xs i d ∷ []))
    ∙ length-append (flat_map f (take i xs)) (flat_map f (get_or xs i d ∷ []))
    ∙ ap (λ ys. length (flat_map f (take i xs)) + length ys) (append-nil (f (get_or xs i d)))

pub parts-longer : (parts : List Part) (i : ℕ) (part : Part) → i < length parts → part ≡ get_or parts i part
    → length (flat_map part_lines (take (i + 1) parts)) ≡ length (flat_map part_lines (take i parts)) + length (part_lines part)
parts-longer parts i part less is =
    one-longer part_lines parts i part less ∙ ap (λ (p : Part). length (flat_map part_lines (take i parts)) + length (part_lines p)) (sym is)

pub items-longer : (items : List Item) (i : ℕ) (one : Item) → i < length items → one ≡ get_or items i one
    → length (flat_map item_lines (take (i + 1) items)) ≡ length (flat_map item_lines (take i items)) + length (item_lines one)
items-longer items i one less is =
    one-longer item_lines items i one less ∙ ap (λ (x : Item). length (flat_map item_lines (take i items)) + length (item_lines x)) (sym is)

-- the first ones and the next have no more lines than all
pub parts-few : (parts : List Part) (i : ℕ) (part : Part) → i < length parts → part ≡ get_or parts i part
    → length (flat_map part_lines (take i parts)) + length (part_lines part) ≤ length (flat_map part_lines parts)
parts-few parts i part less is =
    let same = ap (λ (p : Part). length (part_lines p)) is in
    omega (arith, length-flat_map-take part_lines parts i part less, same)

pub items-few : (items : List Item) (i : ℕ) (one : Item) → i < length items → one ≡ get_or items i one
    → length (flat_map item_lines (take i items)) + length (item_lines one) ≤ length (flat_map item_lines items)
items-few items i one less is =
    let same = ap (λ (x : Item). length (item_lines x)) is in
    omega (arith, length-flat_map-take item_lines items i one less, same)
