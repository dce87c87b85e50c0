-- Shares place by place.
use Rattle.std.proofs.Common.{◌≡◌, ℕ, zero, suc, ◌+◌, ◌/◌, ◌%◌, ◌<◌, ◌≤◌, Bool, true, false, count_by, take, List, [], ◌∷◌, length, get_or, set, replicate, ◌⊎◌, inl, inr, refl, ap, sym, ◌∙◌, arith, add-zero, zero-add}
use Rattle.std.specs.Prelude.{nat_lt}
use Rattle.std.proofs.lemmas.Bool.{cases_lt, ne_eqb}
use Rattle.std.proofs.lemmas.List.Sums.{count_by_more_no, count_by_more_yes}
use Rattle.std.proofs.lemmas.List.{ext_get_or, get_or-set_other, get_or-set_same, length-set}
use Rattle.amber_principal.specs.Shares.{even_share, is_able, is_in_need, unit_if, share_at, sharer_count, shares_from, shares_of}
use Rattle.amber_principal.specs.Turns.{next_share}
use Rattle.amber_principal.specs.declared.dividing.Need.TheVariants as need
use Rattle.amber_principal.specs.declared.dividing.Turns.{Turns}
use Rattle.amber_principal.specs.declared.dividing.Need.{Need}

pub shares-length : (rest : ℕ) (needs : List Need) (place : ℕ) (xs : List Need) → length (shares_from rest needs place xs) ≡ length xs
unfolding shares_from
shares-length rest needs place [] = refl
shares-length rest needs place (x ∷ xs) = ap suc (shares-length rest needs (place + 1) xs)

pub shares-at : (rest : ℕ) (needs : List Need) (place : ℕ) (xs : List Need) (i : ℕ) (d : Need) → i < length xs
    → get_or (shares_from rest needs place xs) i 0 ≡ share_at rest needs (place + i) (get_or xs i d)
unfolding shares_from
shares-at rest needs place [] i d less = omega (arith, less)
shares-at rest needs place (x ∷ xs) zero d less = rw add-zero refl
shares-at rest needs place (x ∷ xs) (suc i) d less =
    let next : place + suc i ≡ place + 1 + i = omega arith in
    let shorter : i < length xs = omega (arith, less) in
    rw next (shares-at rest needs (place + 1) xs i d shorter)

abbrev nought : ℕ
nought = 0

-- the share of the worker at a place
pub share-of : (rest : ℕ) (needs : List Need) (i : ℕ) (d : Need) → i < length needs → get_or (shares_of rest needs) i 0 ≡ share_at rest needs i (get_or needs i d)
share-of rest needs i d less = shares-at rest needs 0 needs i d less ∙ ap (λ place. share_at rest needs place (get_or needs i d)) (zero-add i)

get_or-replicate : (n i : ℕ) → get_or (replicate n nought) i nought ≡ nought
get_or-replicate zero i = refl
get_or-replicate (suc n) zero = refl
get_or-replicate (suc n) (suc i) = get_or-replicate n i

-- the shares of the workers before this place stand, and none after it
pub record Agrees (full shares : List ℕ) (place : ℕ) : Type 0 where
  pub long : length shares ≡ length full
  pub before : (i : ℕ) → i < place → get_or shares i 0 ≡ get_or full i 0
  pub behind : (i : ℕ) → place ≤ i → get_or shares i 0 ≡ 0

-- no share stands yet
pub agrees-start : (full : List ℕ) → length full ≡ 16 → Agrees full (0 ∷ 0 ∷ 0 ∷ 0 ∷ 0 ∷ 0 ∷ 0 ∷ 0 ∷ 0 ∷ 0 ∷ 0 ∷ 0 ∷ 0 ∷ 0 ∷ 0 ∷ 0 ∷ []) 0
agrees-start full long = record { long = sym long; before = λ i below. omega (arith, below); behind = λ i above. zeros i }
  where
    zeros : (i : ℕ) → get_or (replicate 16 nought) i nought ≡ nought
    zeros i = get_or-replicate 16 i

pub agrees-set : (full shares : List ℕ) (place value : ℕ) → place < length full → value ≡ get_or full place 0 → Agrees full shares place
    → Agrees full (set shares place value) (place + 1)
agrees-set full shares place value less same old = record {
  long = length-set shares place value ∙ old.long;
  before = λ i below. at i below (cases_lt i place);
  behind = λ i above. get_or-set_other shares place i value 0 (λ e. omega (arith, above, e)) ∙ old.behind i (omega (arith, above));
}
  where
    here : place < length shares
    here = rw old.long less

    at : (i : ℕ) → i < place + 1 → (i < place) ⊎ (place ≤ i) → get_or (set shares place value) i 0 ≡ get_or full i 0
    at i below (inl less_) = get_or-set_other shares place i value 0 (λ e. omega (arith, less_, e)) ∙ old.before i less_
    at i below (inr most) =
        let e : i ≡ place = omega (arith, below, most) in
        rw e (get_or-set_same shares place value 0 here ∙ same)

pub agrees-keep : (full shares : List ℕ) (place : ℕ) → get_or full place 0 ≡ 0 → Agrees full shares place → Agrees full shares (place + 1)
agrees-keep full shares place none old = record {
  long = old.long;
  before = λ i below. at i below (cases_lt i place);
  behind = λ i above. old.behind i (omega (arith, above));
}
  where
    at : (i : ℕ) → i < place + 1 → (i < place) ⊎ (place ≤ i) → get_or shares i 0 ≡ get_or full i 0
    at i below (inl less) = old.before i less
    at i below (inr most) =
        let e : i ≡ place = omega (arith, below, most) in
        rw e (old.behind place (omega arith) ∙ sym none)

pub agrees-all : (full shares : List ℕ) (place : ℕ) → length full ≤ place → Agrees full shares place → shares ≡ full
agrees-all full shares place most all =
    ext_get_or 0 shares full all.long (λ i less. all.before i (omega (arith, less, all.long, most)))

-- ---- worker by worker

-- one more of the needs is counted
pub counts-next : (p : Need → Bool) (needs : List Need) (place : ℕ) (one d : Need) → place < length needs → get_or needs place d ≡ one
    → count_by p (take (place + 1) needs) ≡ count_by p (take place needs) + unit_if (p one)
counts-next p needs place one d less is = by (p (get_or needs place d)) refl
  where
    by : (b : Bool) → p (get_or needs place d) ≡ b → count_by p (take (place + 1) needs) ≡ count_by p (take place needs) + unit_if (p one)
    by true yes_ = count_by_more_yes p needs place d less yes_ ∙ ap (λ b. count_by p (take place needs) + unit_if b) (sym yes_ ∙ ap p is)
    by false no_ =
        count_by_more_no p needs place d less no_ ∙ sym (add-zero (count_by p (take place needs))) ∙ ap (λ b. count_by p (take place needs) + unit_if b) (sym no_ ∙ ap p is)

even : (rest sharers before each left : ℕ) → 0 < sharers → each ≡ rest / sharers → left ≡ rest % sharers → each + unit_if (nat_lt before left) ≡ even_share rest sharers before
even rest sharers before each left some is_each is_left = rw (is_each, is_left, ne_eqb sharers 0 (λ e. omega (arith, some, e))) refl

-- the next share is that of the place
pub next-is : (rest : ℕ) (needs : List Need) (place : ℕ) (one : Need) (turns : Turns) → 0 < sharer_count needs
    → turns.each ≡ rest / sharer_count needs → turns.left ≡ rest % sharer_count needs
    → turns.starved ≡ count_by is_in_need (take place needs) → turns.able ≡ count_by is_in_need needs + count_by is_able (take place needs)
    → next_share turns one ≡ share_at rest needs place one
next-is rest needs place need.Absent turns some each left starved able = refl
next-is rest needs place need.Finished turns some each left starved able = refl
next-is rest needs place need.Starved turns some each left starved able =
    even rest (sharer_count needs) turns.starved turns.each turns.left some each left ∙ ap (even_share rest (sharer_count needs)) starved
next-is rest needs place need.Able turns some each left starved able =
    even rest (sharer_count needs) turns.able turns.each turns.left some each left ∙ ap (even_share rest (sharer_count needs)) able
