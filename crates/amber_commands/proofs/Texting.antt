-- The script of items, item by item, and the line of the first that has none.
use Rattle.std.proofs.Common.{◌≡◌, ℕ, ◌+◌, ◌<◌, ◌≤◌, ◌^◌, List, [], ◌∷◌, ◌++◌, length, take, drop, get_or, None, Some, true, false, refl, sym, ap, ◌∙◌, arith, length-append}
use Rattle.std.specs.List.{flat_map}
use Rattle.std.proofs.lemmas.Grind.{flat_map-append}
use Rattle.std.proofs.lemmas.List.Folds.{length-flat_map-take}
use Rattle.std.proofs.lemmas.List.{append-nil, drop_all, drop_more, length-map, take_more}
use Rattle.amber_rows.specs.declared.flow.Operator.{Operator}
use Rattle.amber_log.specs.LogText.{item_lines, part_lines}
use Rattle.amber_log.specs.declared.leg.Part.{Part}
use Rattle.amber_log.specs.declared.line.Line.{Line}
use Rattle.amber_log.specs.declared.line.Line.TheVariants as line
use Rattle.amber_log.specs.declared.log.Item.{Item}
use Rattle.amber_commands.specs.Commands.{are_scripted, commands_in, unfit_line}

-- what is made of a list's elements is made of one after the other
pub each-in-turn : {X Y Z : Type 0} (f : Y → List Z) (g : X → List Y) (xs : List X) → flat_map (λ x. flat_map f (g x)) xs ≡ flat_map f (flat_map g xs)
each-in-turn f g [] = refl
each-in-turn f g (x ∷ xs) = ap (λ more. flat_map f (g x) ++ more) (each-in-turn f g xs) ∙ sym (flat_map-append f (g x) (flat_map g xs))

-- the length of one more
pub one-longer : {X Y : Type 0} (f : X → List Y) (xs : List X) (i : ℕ) (d : X) → i < length xs
    → length (flat_map f (take (i + 1) xs)) ≡ length (flat_map f (take i xs)) + length (f (get_or xs i d))
one-longer f xs i d less =
    ap (λ ys. length (flat_map f ys)) (take_more xs i d less)
    ∙ ap (λ ys. length ys) (flat_map-append f (take i xs) (get_or xs i d ∷ []))
    ∙ length-append (flat_map f (take i xs)) (flat_map f (get_or xs i d ∷ []))
    ∙ ap (λ ys. length (flat_map f (take i xs)) + length ys) (append-nil (f (get_or xs i d)))

-- an item that has a script, or none
pub fit-more : (flow : List Operator) (items : List Item) (i line : ℕ) (d : Item) → i < length items → are_scripted flow (commands_in (get_or items i d)) ≡ true
    → unfit_line line flow (drop i items) ≡ unfit_line (line + length (item_lines (get_or items i d))) flow (drop (i + 1) items)
unfolding unfit_line
fit-more flow items i line d less fit = ap (unfit_line line flow) (drop_more items i d less) ∙ rw fit refl

pub unfit-here : (flow : List Operator) (items : List Item) (i line : ℕ) (d : Item) → i < length items → are_scripted flow (commands_in (get_or items i d)) ≡ false
    → unfit_line line flow (drop i items) ≡ Some line
unfolding unfit_line
unfit-here flow items i line d less unfit = ap (unfit_line line flow) (drop_more items i d less) ∙ rw unfit refl

pub fit-all : (flow : List Operator) (items : List Item) (i line : ℕ) → length items ≤ i → unfit_line line flow (drop i items) ≡ None
unfolding unfit_line
fit-all flow items i line most = ap (unfit_line line flow) (drop_all i items most)

-- the items up to one have no more lines than all have
pub items-few : (items : List Item) (i : ℕ) (one : Item) → i < length items → one ≡ get_or items i one → length (flat_map item_lines items) < 2 ^ 32
    → length (flat_map item_lines (take i items)) + length (item_lines one) < 2 ^ 32
items-few items i one less is small =
    let same = ap (λ (x : Item). length (item_lines x)) is in omega (arith, length-flat_map-take item_lines items i one less, same, small)

-- the parts up to one have no more lines than the leg has
pub parts-few : (parts : List Part) (close : Line) (i : ℕ) (part : Part) → i < length parts → part ≡ get_or parts i part → length (flat_map part_lines parts ++ close ∷ []) < 2 ^ 32
    → length (flat_map part_lines (take i parts)) + (1 + length part.entries) < 2 ^ 32
parts-few parts close i part less is small =
    let same = ap (λ (x : Part). length (part_lines x)) is in
    let entries = length-map part.entries (λ entry. line.Entry entry) in
    omega (arith, length-flat_map-take part_lines parts i part less, same, entries, length-append (flat_map part_lines parts) (close ∷ []), small)
