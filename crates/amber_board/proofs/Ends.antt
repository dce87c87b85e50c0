-- A seat is made, a seat is taken in, and what the last state says.
use Rattle.std.proofs.Common.{◌*◌, ◌≡◌, ◌≢◌, ℕ, zero, suc, ◌+◌, ◌^◌, ◌<◌, ◌≤◌, Bool, true, false, cond, eqb, ltb, List, [], ◌∷◌, ◌++◌, length, get_or, set, sum, sum_by, replicate, refl, sym, ap, ◌∙◌, subst, ⊎_elim, arith}
use mathlib.Core.Option.{some, some-injective, some-ne-none}
use lib.ListN.{get_elem?}
use Rattle.std.proofs.lemmas.Bool.{cases_eq, cases_lt, ne_eqb}
use Rattle.std.proofs.lemmas.List.Sums.{sum_by_push}
use Rattle.atomic_table.specs.Table.{Splits, Joins}
use Rattle.atomic_table.proofs.Lists.{at_set, set_here, set_else, at_longer, at_snoc}
use Rattle.amber_board.specs.declared.view.Role.{Role}
use Rattle.amber_board.specs.declared.view.Role.TheVariants.{Chief, Worker, Spent}
use Rattle.amber_board.specs.declared.view.Kept.{Kept}
use Rattle.amber_board.specs.declared.view.Terms.{Terms}
use Rattle.amber_board.specs.declared.view.View.{View}
use Rattle.amber_board.specs.Ledger.{count_word, allotment, tally, total_below, seats_of, mine_of, times_kept, kept_of, flag, PlacedView, ConservedBy, Conserved, IsExact, IsSeen, IsWord, first_view, is_worker, worker_number_of}
use Rattle.amber_board.specs.Moves.{after_split, new_seat, after_join, spent_view}
use Rattle.amber_board.proofs.Sums.{total_below-ext, total_below-zero, total_below-le, total_below-plus, total_below-flag, total_below-term, total_below-keyed, flag-below, flag-above, sum-below, sum_by-cons}
use Rattle.amber_board.proofs.Views.{at_within, sum_at_set, sum_at, sum_zero}
use Rattle.amber_board.proofs.Stays.{by_chief, seat_flag, mine_if, seats_same, itself, from_flag}
use Rattle.amber_board.proofs.WordSteps.{mine_own, mine_other}
use Rattle.amber_board.proofs.Keeps.{Rule}

seat_other : (k w : ℕ) → k ≢ w → seat_flag k (Worker w) ≡ 0
seat_other k w n = let P : Bool → Type 0 = λ b. ◌≡◌ {A = ℕ} (cond b 1 0) 0 in subst P (sym (ne_eqb w k (λ e. n (sym e)))) refl

nothing_mine : (w n : ℕ) → mine_if w (Worker n) 0 ≡ 0
nothing_mine w n = ⊎_elim (λ e. ap (λ (j : ℕ). mine_if j (Worker n) 0) e ∙ mine_own n 0) (λ q. mine_other w n 0 q) (cases_eq w n)

-- one more worker has a seat
flag-more : (w m : ℕ) → flag (ltb w m) + seat_flag w (Worker m) ≡ flag (ltb w (m + 1))
flag-more w m =
    ⊎_elim (λ e.
    let own = ap (λ (j : ℕ). seat_flag j (Worker m)) e ∙ itself m in
    let was = flag-above w m (omega arith) in
    let now = flag-below w (m + 1) (omega arith) in
    omega arith)
    (λ q.
    let other = seat_other w m q in
    ⊎_elim (λ l. let was = flag-below w m l in let now = flag-below w (m + 1) (omega arith) in omega arith)
    (λ l. let was = flag-above w m l in let now = flag-above w (m + 1) (omega arith) in omega arith) (cases_lt w m))
    (cases_eq w m)

-- the chief gives a part of its hand to a new worker's seat
pub splits : (terms : Terms) (id : ℕ) (v : View) (left right : ℕ) → v.role ≡ Chief → v.made < terms.workers → left + right ≡ v.hand
    → Splits (Rule terms) id v (after_split v left) (new_seat v.made right)
splits terms id v left right is room share s holds at =
    let h = by_chief holds id v at is in
    let l : View = after_split v left in
    let r : View = new_seat v.made right in
    let views : List View = set s.views id l in
    let last : (k : ℕ) (u : View) → get_elem? (views ++ r ∷ []) k ≡ some u → u.role ≢ Worker v.made → get_elem? views k ≡ some u =
    λ k u e n. ⊎_elim (λ t. t) (λ t. absurd (n (ap (λ (x : View). x.role) (sym t)))) (at_snoc views r u k e) in (
      record { place = id; view = l },
      record {
        units =
            let push = sum_by_push (λ (u : View). u.hand) views r in
            let change = sum_at_set (λ (u : View). u.hand) s.views id v l at in
            let was = h.units in
            omega arith;
        there = at_longer views (r ∷ []) id l (set_here s.views id l (at_within s.views id v at));
        is_chief = is;
        only = λ k u e role.
            ⊎_elim (λ t. t.0) (λ t. h.only k u t.1 role)
            (at_set s.views id k l u (last k u e (λ q. let clash : Worker v.made ≡ Chief = sym q ∙ role in cc)));
        seats = λ w.
            let push = sum_by_push (λ (u : View). seat_flag w u.role) views r in
            let same = seats_same w s.views id v l at refl in
            let was = h.seats w in
            let more = flag-more w v.made in
            omega arith;
        made = let below = room in omega arith;
        unmade = λ w le m. h.unmade w (omega arith) m;
        spent = λ k u e role.
            ⊎_elim (λ t. let clash : Chief ≡ Spent = sym is ∙ ap (λ (x : View). x.role) t.1 ∙ role in absurd (cc)) (λ t. h.spent k u t.1 role)
            (at_set s.views id k l u (last k u e (λ q. let clash : Worker v.made ≡ Spent = sym q ∙ role in cc)));
        mine = λ w m.
            let push = sum_by_push (λ (u : View). mine_if w u.role u.mine) views r in
            let change = sum_at_set (λ (u : View). mine_if w u.role u.mine) s.views id v l at in
            let none = nothing_mine w v.made in
            let was = h.mine w m in
            omega arith;
        seen = h.seen;
        all_seen = h.all_seen;
        target = h.target;
        size = h.size;
        limits = h.limits;
      },
    )

-- the chief takes in a seat with an empty hand
pub joins : (terms : Terms) (id : ℕ) (v : View) (other : ℕ) (u : View) (n : ℕ) → v.role ≡ Chief → u.role ≡ Worker n → u.hand ≡ 0 → Joins (Rule terms) id v other u (after_join v u) spent_view
joins terms id v other u n is worker empty s holds at apart there =
    let h = by_chief holds id v at is in
    let c : View = after_join v u in
    let views : List View = set s.views id c in
    let name : worker_number_of u.role ≡ n = ap worker_number_of worker in
    let taken : Kept = record { worker = worker_number_of u.role; count = u.mine } in (
      record { place = id; view = c },
      record {
        units =
            let first = sum_at_set (λ (x : View). x.hand) s.views id v c at in
            let second = sum_at_set (λ (x : View). x.hand) views other u spent_view there in
            let was = h.units in
            omega arith;
        there = set_else views other id spent_view (λ e. apart (sym e)) ∙ set_here s.views id c (at_within s.views id v at);
        is_chief = is;
        only = λ k x e role.
            ⊎_elim (λ t. let clash : Spent ≡ Chief = ap (λ (y : View). y.role) t.1 ∙ role in absurd (cc))
            (λ t. ⊎_elim (λ p. p.0) (λ p. h.only k x p.1 role) (at_set s.views id k c x t.1)) (at_set views other k spent_view x e);
        seats = λ w.
            let first = seats_same w s.views id v c at refl in
            let second = sum_at_set (λ (x : View). seat_flag w x.role) views other u spent_view there in
            let more = sum_by-cons (λ (k : Kept). seat_flag w (Worker k.worker)) taken v.kept in
            let role = ap (seat_flag w) worker in
            let same = ap (λ (j : ℕ). seat_flag w (Worker j)) name in
            let was = h.seats w in
            omega arith;
        made = h.made;
        unmade = h.unmade;
        spent = λ k x e role.
            ⊎_elim (λ t. ap (λ (y : View). y.hand) (sym t.1))
            (λ t. ⊎_elim (λ p. let clash : Chief ≡ Spent = sym is ∙ ap (λ (y : View). y.role) p.1 ∙ role in absurd (cc)) (λ p. h.spent k x p.1 role) (at_set s.views id k c x t.1)) (at_set views other k spent_view x e);
        mine = λ w m.
            let first = sum_at_set (λ (x : View). mine_if w x.role x.mine) s.views id v c at in
            let second = sum_at_set (λ (x : View). mine_if w x.role x.mine) views other u spent_view there in
            let more = sum_by-cons (λ (k : Kept). mine_if w (Worker k.worker) k.count) taken v.kept in
            let role = ap (λ (r : Role). mine_if w r u.mine) worker in
            let same = ap (λ (j : ℕ). mine_if w (Worker j) u.mine) name in
            let was = h.mine w m in
            omega arith;
        seen = h.seen;
        all_seen = h.all_seen;
        target = h.target;
        size = h.size;
        limits = h.limits;
      },
    )

zero_at : (n k : ℕ) → ◌≡◌ {A = ℕ} (get_or (replicate n 0) k 0) 0
zero_at zero k = refl
zero_at (suc n) zero = refl
zero_at (suc n) (suc k) = zero_at n k

alone : (v : View) (k : ℕ) (u : View) → get_elem? (v ∷ []) k ≡ some u → (k ≡ 0) × (v ≡ u)
alone v zero u e = (refl, some-injective v u e)
alone v (suc k) u e = absurd (some-ne-none u (sym e))

-- the words as a board is made
abbrev pub first_words : ℕ → List ℕ
first_words target = target ∷ target ∷ replicate 150 0

no_allotment : (t w : ℕ) → allotment (first_words t) w ≡ 0
no_allotment t w = let e : 2 + w ≡ suc (suc w) = omega arith in ap (λ (j : ℕ). get_or (first_words t) j 0) e ∙ zero_at 150 w

no_count : (t w : ℕ) → tally (first_words t) w ≡ 0
no_count t w = let e : count_word w ≡ suc (suc (22 + 8 * w)) = omega arith in ap (λ (j : ℕ). get_or (first_words t) j 0) e ∙ zero_at 150 (22 + 8 * w)

-- at first all units are unassigned
pub opens : (terms : Terms) → terms.target ≤ 2 ^ 40 → terms.workers ≤ 16 → Conserved terms (first_words terms.target) (first_view terms ∷ [])
opens terms small few =
    let v : View = first_view terms in
    let t : ℕ = terms.target in (
      record { place = 0; view = v },
      record {
        units =
            let allotments = total_below-zero 16 (allotment (first_words t)) (λ w l. no_allotment t w) in
            let counts = total_below-zero 16 (tally (first_words t)) (λ w l. no_count t w) in
            omega arith;
        there = refl;
        is_chief = refl;
        only = λ k u e is. (alone v k u e).0;
        seats = λ w. let none = flag-above w 0 (omega arith) in omega arith;
        made = omega arith;
        unmade = λ w le l. (no_allotment t w, no_count t w);
        spent = λ k u e is. ap (λ (x : View). x.hand) (sym (alone v k u e).1);
        mine = λ w l. no_count t w;
        seen = λ w l. let none = zero_at 16 w in omega arith;
        all_seen = refl;
        target = (refl, refl);
        size = refl;
        limits = (small, few);
      },
    )

-- a seat that was taken in is of one of the workers
kept_below : {terms : Terms} {words : List ℕ} {views : List View} {chief : PlacedView} (h : ConservedBy terms words views chief) (j : ℕ) (k : Kept) → get_elem? chief.view.kept j ≡ some k → k.worker < 16
kept_below {chief = chief} h j k at =
    let one = itself k.worker in
    let least = sum_at (λ (x : Kept). seat_flag k.worker (Worker x.worker)) chief.view.kept j k at in
    let all = h.seats k.worker in
    let below = from_flag k.worker chief.view.made (omega arith) in
    let fewer = h.made in
    let few = h.limits.1 in
    omega arith

-- what the workers counted, by seats that are out and seats that were taken in
counted_parts : {terms : Terms} {words : List ℕ} {views : List View} {chief : PlacedView} (h : ConservedBy terms words views chief)
    → total_below 16 (tally words) ≡ total_below 16 (λ w. mine_of w views) + sum_by (λ (k : Kept). k.count) chief.view.kept
counted_parts {words = words} {views = views} {chief = chief} h =
    let cut = total_below-ext 16 (tally words) (λ w. mine_of w views + kept_of w chief.view.kept) (λ w l. h.mine w l) in
    let parts = total_below-plus 16 (λ w. mine_of w views) (λ w. kept_of w chief.view.kept) in
    let keyed = total_below-keyed 16 (λ (k : Kept). k.worker) (λ (k : Kept). k.count) chief.view.kept (λ j k at. kept_below h j k at) in
    omega arith

length-sum : {X : Type 0} (xs : List X) → sum_by (λ _. 1) xs ≡ length xs
length-sum [] = refl
length-sum (x ∷ xs) = let rest = length-sum xs in let all = sum_by-cons (λ _. 1) x xs in omega arith

idle_flag : (b : Bool) (m : ℕ) → ◌≡◌ {A = ℕ} (cond b 1 0) 0 → cond b m 0 ≡ 0
idle_flag true m e = absurd (omega arith)
idle_flag false m e = refl

flag-most : (n m : ℕ) → flag (ltb n m) ≤ 1
flag-most n m = ⊎_elim (λ l. let one = flag-below n m l in omega arith) (λ l. let none = flag-above n m l in omega arith) (cases_lt n m)

-- where each worker's seat was taken in, none is out
none_out : {terms : Terms} {words : List ℕ} {views : List View} {chief : PlacedView} (h : ConservedBy terms words views chief) → length chief.view.kept ≡ chief.view.made → (w : ℕ) → w < 16 → mine_of w views ≡ 0
none_out {views = views} {chief = chief} h all w l =
    let flags = total_below-ext 16 (λ k. seats_of k views + times_kept k chief.view.kept) (λ k. flag (ltb k chief.view.made)) (λ k m. h.seats k) in
    let parts = total_below-plus 16 (λ k. seats_of k views) (λ k. times_kept k chief.view.kept) in
    let fewer = h.made in
    let few = h.limits.1 in
    let made = total_below-flag 16 chief.view.made (omega arith) in
    let keyed = total_below-keyed 16 (λ (k : Kept). k.worker) (λ _. 1) chief.view.kept (λ j k at. kept_below h j k at) in
    let long = length-sum chief.view.kept in
    let here = total_below-term 16 w (λ k. seats_of k views) l in
    sum_zero (λ (v : View). mine_if w v.role v.mine) views
    (λ k v at. let part = sum_at (λ (x : View). seat_flag w x.role) views k v at in idle_flag (is_worker w v.role) v.mine (omega arith))

-- what the chief saw adds up to at most what was counted
seen_below : {terms : Terms} {words : List ℕ} {views : List View} {chief : PlacedView} (h : ConservedBy terms words views chief) → sum chief.view.seen ≤ total_below 16 (tally words)
seen_below {words = words} {chief = chief} h =
    let places = sum-below chief.view.seen in
    let long = ap (λ (n : ℕ). total_below n (λ k. get_or chief.view.seen k 0)) h.all_seen in
    let least = total_below-le 16 (λ k. get_or chief.view.seen k 0) (tally words) h.seen in
    omega arith

pub seen_exact : (v : View) → v.role ≡ Chief → IsSeen v
seen_exact v is terms words views k holds at = (by_chief holds k v at is).seen

-- a hit is exact
pub hit_exact : (v : View) → v.role ≡ Chief → sum v.seen ≡ v.target → IsExact v
hit_exact v is hit terms words views k holds at =
    let h = by_chief holds k v at is in
    let least = seen_below h in
    let all = h.units in
    let target = h.target.1 in
    record { counted_all = omega arith; none_unassigned = omega arith; none_allotted = omega arith; none_in_hand = omega arith }

-- what the seats that were taken in counted is a part of the target, and all of it after a hit
pub closes : (terms : Terms) (words : List ℕ) (views : List View) (k : ℕ) (v : View) → Conserved terms words views → get_elem? views k ≡ some v → v.role ≡ Chief
    → (sum_by (λ (x : Kept). x.count) v.kept ≤ v.target) × (length v.kept ≡ v.made → sum v.seen ≡ v.target → sum_by (λ (x : Kept). x.count) v.kept ≡ v.target)
closes terms words views k v holds at is =
    let h = by_chief holds k v at is in
    let parts = counted_parts h in
    let all = h.units in
    let target = h.target.1 in (
      omega arith,
      λ long hit.
          let none = total_below-zero 16 (λ w. mine_of w views) (λ w l. none_out h long w l) in
          let least = seen_below h in
          omega arith,
    )

-- a seat that is out is its worker's only one, and it counted all that the worker did
pub mine_exact : (v : View) (n : ℕ) → v.role ≡ Worker n → n < 16 → IsWord v
mine_exact v n is few terms words views k holds at =
    let h = holds.1 in
    let chief : View = holds.0.view in
    let name : worker_number_of v.role ≡ n = ap worker_number_of is in
    let own = ap (seat_flag n) is ∙ itself n in
    let all = h.seats n in
    let top = flag-most n chief.made in
    let here = sum_at (λ (u : View). seat_flag n u.role) views k v at in
    let change = sum_at_set (λ (u : View). seat_flag n u.role) views k v spent_view at in
    let rest : List View = set views k spent_view in
    let alone = sum_zero (λ (u : View). mine_if n u.role u.mine) rest
    (λ j u e. let part = sum_at (λ (x : View). seat_flag n x.role) rest j u e in idle_flag (is_worker n u.role) u.mine (omega arith)) in
    let kept = sum_zero (λ (x : Kept). mine_if n (Worker x.worker) x.count) chief.kept
    (λ j x e. let part = sum_at (λ (y : Kept). seat_flag n (Worker y.worker)) chief.kept j x e in idle_flag (eqb x.worker n) x.count (omega arith)) in
    let moved = sum_at_set (λ (u : View). mine_if n u.role u.mine) views k v spent_view at in
    let mine = ap (λ (r : Role). mine_if n r v.mine) is ∙ mine_own n v.mine in
    let word = h.mine n few in
    let spot = ap (tally words) name in
    omega arith
