-- A step on one word, by one seat, keeps the conservation rule.
use Rattle.std.proofs.Common.{◌≡◌, ◌≢◌, ℕ, ◌+◌, ◌<◌, ◌≤◌, Bool, cond, eq-eqb, ltb, List, length, get_or, set, refl, sym, ap, ◌∙◌, subst, ⊎_elim, arith}
use mathlib.Core.Option.{some, some-injective}
use lib.ListN.{get_elem?}
use Rattle.atomic_table.proofs.Lists.{at_set}
use Rattle.std.proofs.lemmas.Bool.{cases_lt}
use Rattle.amber_board.specs.declared.view.Role.{Role}
use Rattle.amber_board.specs.declared.view.Role.TheVariants.{Chief, Worker, Spent}
use Rattle.amber_board.specs.declared.view.Terms.{Terms}
use Rattle.amber_board.specs.declared.view.View.{View}
use Rattle.amber_board.specs.Ledger.{free_units, allotment, tally, total_below, is_worker, seats_of, mine_of, times_kept, kept_of, flag, PlacedView, ConservedBy, Conserved}
use Rattle.amber_board.proofs.Sums.{flag-above}
use Rattle.amber_board.proofs.Views.{sum_at_set, sum_at}

-- 1 where the seat is worker w's
abbrev pub seat_flag : ℕ → Role → ℕ
seat_flag w r = cond (is_worker w r) 1 0

-- what the seat counted, where it is worker w's
abbrev pub mine_if : ℕ → Role → ℕ → ℕ
mine_if w r mine = cond (is_worker w r) mine 0

-- what a step does to the words, and to the hand and the count of the seat that makes it
pub record Steps (words words' : List ℕ) (made : ℕ) (v v' : View) : Type 0 where
  pub size : length words' ≡ length words
  pub target : get_or words' 0 0 ≡ get_or words 0 0
  pub units : free_units words' + total_below 16 (allotment words') + total_below 16 (tally words') + v'.hand ≡ free_units words + total_below 16 (allotment words) + total_below 16 (tally words) + v.hand
  pub unmade : (w : ℕ) → made ≤ w → w < 16 → (allotment words' w ≡ allotment words w) × (tally words' w ≡ tally words w)
  pub mine : (w : ℕ) → w < 16 → tally words' w + mine_if w v.role v.mine ≡ tally words w + mine_if w v'.role v'.mine
  pub more : (w : ℕ) → w < 16 → tally words w ≤ tally words' w

-- what the chief's view keeps
pub record SameChief (chief chief' : View) : Type 0 where
  pub role : chief'.role ≡ Chief
  pub target : chief'.target ≡ chief.target
  pub made : chief'.made ≡ chief.made
  pub kept : chief'.kept ≡ chief.kept

pub same_chief : (chief : View) → chief.role ≡ Chief → SameChief chief chief
same_chief chief is = record { role = is; target = refl; made = refl; kept = refl }

pub seats_same : (w : ℕ) (views : List View) (id : ℕ) (v v' : View) → get_elem? views id ≡ some v → v'.role ≡ v.role → seats_of w (set views id v') ≡ seats_of w views
seats_same w views id v v' at role =
    let step = sum_at_set (λ (u : View). seat_flag w u.role) views id v v' at in
    let same : seat_flag w v'.role ≡ seat_flag w v.role = ap (seat_flag w) role in
    omega arith

module _ {terms : Terms} {words words' : List ℕ} {views : List View} {chief : PlacedView} (h : ConservedBy terms words views chief)
    (id : ℕ) (v v' chief' : View) (at : get_elem? views id ≡ some v) (role : v'.role ≡ v.role) (live : v.role ≢ Spent)
    (there : get_elem? (set views id v') chief.place ≡ some chief') (same : SameChief chief.view chief') (steps : Steps words words' chief.view.made v v')
    (seen : (w : ℕ) → w < 16 → get_or chief'.seen w 0 ≤ tally words w) (all_seen : length chief'.seen ≡ 16) where
  only_here : (k : ℕ) (u : View) → get_elem? (set views id v') k ≡ some u → u.role ≡ Chief → k ≡ chief.place
  only_here k u e is =
      ⊎_elim (λ t. t.0 ∙ h.only id v at (sym role ∙ ap (λ (x : View). x.role) t.1 ∙ is))
      (λ t. h.only k u t.1 is) (at_set views id k v' u e)

  spent_here : (k : ℕ) (u : View) → get_elem? (set views id v') k ≡ some u → u.role ≡ Spent → u.hand ≡ 0
  spent_here k u e is =
      ⊎_elim (λ t. absurd (live (sym role ∙ ap (λ (x : View). x.role) t.1 ∙ is))) (λ t. h.spent k u t.1 is) (at_set views id k v' u e)

  mine_here : (w : ℕ) → w < 16 → tally words' w ≡ mine_of w (set views id v') + kept_of w chief'.kept
  mine_here w l =
      let change = sum_at_set (λ (u : View). mine_if w u.role u.mine) views id v v' at in
      let step = steps.mine w l in
      let was = h.mine w l in
      let kept = ap (kept_of w) same.kept in
      let least = sum_at (λ (u : View). mine_if w u.role u.mine) views id v at in
      omega arith

  pub stays : ConservedBy terms words' (set views id v') (record { place = chief.place; view = chief' })
  stays = record {
    units =
        let change = sum_at_set (λ (u : View). u.hand) views id v v' at in
        let least = sum_at (λ (u : View). u.hand) views id v at in
        let moved = steps.units in
        let was = h.units in
        omega arith;
    there = there;
    is_chief = same.role;
    only = only_here;
    seats = λ w.
        let out = seats_same w views id v v' at role in
        let kept = ap (times_kept w) same.kept in
        let flags = ap (λ (m : ℕ). flag (ltb w m)) same.made in
        let was = h.seats w in
        omega arith;
    made = let fewer = h.made in let same_made = same.made in omega arith;
    unmade = λ w le l.
        let far : chief.view.made ≤ w = let same_made = same.made in omega arith in
        ((steps.unmade w far l).0 ∙ (h.unmade w far l).0, (steps.unmade w far l).1 ∙ (h.unmade w far l).1);
    spent = spent_here;
    mine = mine_here;
    seen = λ w l. let below = seen w l in let rises = steps.more w l in omega arith;
    all_seen = all_seen;
    target = (steps.target ∙ h.target.0, same.target ∙ h.target.1);
    size = steps.size ∙ h.size;
    limits = h.limits;
  }

-- the chief's view stands where its seat says
pub by_chief : {terms : Terms} {words : List ℕ} {views : List View} (h : Conserved terms words views) (id : ℕ) (v : View) → get_elem? views id ≡ some v → v.role ≡ Chief → ConservedBy terms words views (record { place = id; view = v })
by_chief {terms} {words} {views} h id v at is =
    let place : id ≡ h.0.place = h.1.only id v at is in
    let there : get_elem? views h.0.place ≡ some v = subst (λ (k : ℕ). get_elem? views k ≡ some v) place at in
    let same : h.0.view ≡ v = some-injective h.0.view v (sym h.1.there ∙ there) in
    let chief : h.0 ≡ record { place = id; view = v } = λ i. record { place = sym place i; view = same i } in
    subst (ConservedBy terms words views) chief h.1

-- a worker's seat is not where the chief's is
pub apart : {terms : Terms} {words : List ℕ} {views : List View} {chief : PlacedView} (h : ConservedBy terms words views chief) (id : ℕ) (v : View) (n : ℕ) → get_elem? views id ≡ some v → v.role ≡ Worker n → chief.place ≢ id
apart {terms} {words} {views} {chief} h id v n at is e =
    let here : get_elem? views id ≡ some chief.view = subst (λ (k : ℕ). get_elem? views k ≡ some chief.view) e h.there in
    let same : v ≡ chief.view = some-injective v chief.view (sym at ∙ here) in
    let role : Worker n ≡ Chief = sym is ∙ ap (λ (u : View). u.role) same ∙ h.is_chief in
    cc

pub itself : (n : ℕ) → seat_flag n (Worker n) ≡ 1
itself n = let P : Bool → Type 0 = λ b. ◌≡◌ {A = ℕ} (cond b 1 0) 1 in subst P (sym (eq-eqb n n refl)) refl

pub from_flag : (n m : ℕ) → 1 ≤ flag (ltb n m) → n < m
from_flag n m h = ⊎_elim (λ l. l) (λ l. let none = flag-above n m l in absurd (omega arith)) (cases_lt n m)

-- a worker with a seat is below `made`
pub nth : {terms : Terms} {words : List ℕ} {views : List View} {chief : PlacedView} (h : ConservedBy terms words views chief) (id : ℕ) (v : View) (n : ℕ) → get_elem? views id ≡ some v → v.role ≡ Worker n → n < chief.view.made
nth {terms} {words} {views} {chief} h id v n at is =
    let one : seat_flag n v.role ≡ 1 = ap (seat_flag n) is ∙ itself n in
    let least = sum_at (λ (u : View). seat_flag n u.role) views id v at in
    let all = h.seats n in
    from_flag n chief.view.made (omega arith)
