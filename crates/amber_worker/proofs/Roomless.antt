-- Receivers, whatever room there is.
use Rattle.std.proofs.Common.{◌≡◌, ℕ, ◌<◌, eqb, ◌||◌, List, [], ◌∷◌, length, map, get_or, All, refl, sym, ap, ◌∙◌, subst}
use Rattle.std.specs.List.{list_any}
use Rattle.amber_link.specs.Sides.{without_room}
use Rattle.amber_link.specs.declared.downstreams.Downstream.{Downstream}
use Rattle.amber_link.proofs.Sides.{map-at, map-length}

-- which receivers there are
pub same-receivers : (n : ℕ) (outs : List Downstream) → list_any (λ (one : Downstream). eqb one.to n) outs ≡ list_any (λ (one : Downstream). eqb one.to n) (map without_room outs)
same-receivers n [] = refl
same-receivers n (one ∷ outs) = ap (λ b. eqb one.to n || b) (same-receivers n outs)

-- what is said of each whatever room there is
pub all-roomless : (P : Downstream → Type 0) (outs : List Downstream) → All (λ one. P (without_room one)) outs → All P (map without_room outs)
all-roomless P outs h k d less =
    let within : k < length outs = rw map-length at less in
    subst P (sym (map-at without_room outs k d d within)) (h k d within)

pub all-roomy : (P : Downstream → Type 0) (outs : List Downstream) → All P (map without_room outs) → All (λ one. P (without_room one)) outs
all-roomy P outs h k d less = subst P (map-at without_room outs k d d less) (h k d (rw map-length less))

-- and stays where room alone is made
pub still-all : (P : Downstream → Type 0) (outs after : List Downstream) → map without_room after ≡ map without_room outs → All (λ one. P (without_room one)) outs → All (λ one. P (without_room one)) after
still-all P outs after same h = all-roomy P after (subst (λ l. All P l) (sym same) (all-roomless P outs h))

-- the receiver at a place
pub same-at : (outs : List Downstream) (i n : ℕ) → i < length outs → ((d : Downstream) → (get_or outs i d).to ≡ n) → (d : Downstream) → (get_or (map without_room outs) i d).to ≡ n
same-at outs i n within own d = ap (λ (one : Downstream). one.to) (map-at without_room outs i d d within) ∙ own d
