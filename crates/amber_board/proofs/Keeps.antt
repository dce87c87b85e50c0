-- Each kind of step keeps the conservation rule, whatever state it finds.
use Rattle.std.proofs.Common.{◌≡◌, ◌≢◌, ℕ, ◌+◌, ◌%◌, ◌^◌, ◌<◌, ◌≤◌, List, length, get_or, set, refl, sym, ap, ◌∙◌, subst, ⊎_elim, get_or-set_other, get_or-set_same, length-set, arith}
use Rattle.std.proofs.lemmas.Bool.{cases_eq}
use mathlib.Core.Option.{some}
use lib.ListN.{get_elem?}
use Rattle.atomic_table.specs.Table.{State, Me, keeps, Allows}
use Rattle.atomic_table.proofs.Lists.{set_here, set_else}
use Rattle.amber_board.specs.declared.view.Role.{Role}
use Rattle.amber_board.specs.declared.view.Role.TheVariants.{Chief, Worker, Spent}
use Rattle.amber_board.specs.declared.view.Terms.{Terms}
use Rattle.amber_board.specs.declared.view.View.{View}
use Rattle.amber_board.specs.Ledger.{count_word, free_units, allotment, tally, PlacedView, ConservedBy, Conserved, worker_number_of}
use Rattle.amber_board.specs.Moves.{drawn, after_grant, put_back_of, swept, after_watch, after_claim, counted_one, given_back}
use Rattle.amber_board.proofs.Sums.{total_below-zero, total_below-term}
use Rattle.amber_board.proofs.Views.{at_within, sum_at, sum_only}
use Rattle.amber_board.proofs.Stays.{Steps, SameChief, same_chief, stays, by_chief, apart, nth, mine_if}
use Rattle.amber_board.proofs.WordSteps.{unassigned_steps, allotment_steps, load_steps, count_steps, mine_own}

-- the rule, as the table states it
abbrev pub Rule : Terms → State (Unit {0}) View → Type 0
Rule terms s = Conserved terms s.words s.views

chief_stays : {terms : Terms} {words words' : List ℕ} {views : List View} {chief : PlacedView} (h : ConservedBy terms words views chief) (v' : View) → SameChief chief.view v' → Steps words words' chief.view.made chief.view v'
    → ((w : ℕ) → w < 16 → get_or v'.seen w 0 ≤ tally words w) → length v'.seen ≡ 16 → Conserved terms words' (set views chief.place v')
chief_stays {views = views} {chief = chief} h v' same steps seen all_seen = (
  record { place = chief.place; view = v' },
  stays h chief.place chief.view v' v' h.there (same.role ∙ sym h.is_chief) (λ e. let r : Chief ≡ Spent = sym h.is_chief ∙ e in cc) (set_here views chief.place v' (at_within views chief.place chief.view h.there)) same steps seen all_seen,
)

worker_stays : {terms : Terms} {words words' : List ℕ} {views : List View} {chief : PlacedView} (h : ConservedBy terms words views chief) (id : ℕ) (v v' : View) (n : ℕ) → get_elem? views id ≡ some v → v.role ≡ Worker n → v'.role ≡ v.role
    → Steps words words' chief.view.made v v' → Conserved terms words' (set views id v')
worker_stays {views = views} {chief = chief} h id v v' n at is role steps = (
  chief,
  stays h id v v' chief.view at role (λ e. let r : Worker n ≡ Spent = sym is ∙ e in cc) (set_else views id chief.place v' (apart h id v n at is) ∙ h.there) (same_chief chief.view h.is_chief) steps h.seen h.all_seen,
)

-- a hand is a part of the target, beside what is unassigned and what one worker may claim
within : {terms : Terms} {words : List ℕ} {views : List View} {chief : PlacedView} (h : ConservedBy terms words views chief) (id : ℕ) (v : View) (w : ℕ) → w < 16 → get_elem? views id ≡ some v
    → v.hand + free_units words + allotment words w + tally words w ≤ 2 ^ 40
within {words = words} {views = views} h id v w l at =
    let hand = sum_at (λ (u : View). u.hand) views id v at in
    let part = total_below-term 16 w (allotment words) l in
    let count = total_below-term 16 w (tally words) l in
    let all = h.units in
    let most = h.limits.0 in
    omega arith

-- while there is no worker, only the chief has a hand
idle : {terms : Terms} {words : List ℕ} {views : List View} {chief : PlacedView} (h : ConservedBy terms words views chief) → chief.view.made ≡ 0 → (k : ℕ) (v : View) → get_elem? views k ≡ some v → k ≢ chief.place → (r : Role) → v.role ≡ r → v.hand ≡ 0
idle h none k v at n Chief is = absurd (n (h.only k v at is))
idle h none k v at n (Worker w) is = let below = nth h k v w at is in absurd (omega arith)
idle h none k v at n Spent is = h.spent k v at is

-- while there is no worker, the chief's hand and the unassigned units are the target
opened : {terms : Terms} {words : List ℕ} {views : List View} {chief : PlacedView} (h : ConservedBy terms words views chief) → chief.view.made ≡ 0 → chief.view.hand + free_units words ≡ chief.view.target
opened {words = words} {views = views} {chief = chief} h none =
    let allotments = total_below-zero 16 (allotment words) (λ w l. (h.unmade w (omega arith) l).0) in
    let counts = total_below-zero 16 (tally words) (λ w l. (h.unmade w (omega arith) l).1) in
    let hand = sum_only (λ (u : View). u.hand) views chief.place chief.view h.there (λ k v at n. idle h none k v at n v.role refl) in
    let all = h.units in
    let target = h.target.1 in
    omega arith

module _ (terms : Terms) (slots id : ℕ) (me : Me (Unit {0}) View) (is : me.0.role ≡ Chief) where
  pub draws : Allows (Rule terms) slots id me 1 (λ _. 0)
      (λ n after. (◌≡◌ {A = ℕ} 1 1) × (after.0 ≡ drawn me.0 n) × (after.1 ≡ me.1) × (me.0.hand + n ≤ 2 ^ 40) × (me.0.made ≡ 0 → me.0.hand + n ≡ me.0.target))
  draws s holds _ at _ =
      let h = by_chief holds id me.0 at is in
      let v' : View = drawn me.0 (free_units s.words) in
      let bound : me.0.hand + free_units s.words ≤ 2 ^ 40 = let all = within h id me.0 0 (omega arith) at in omega arith in (
        v',
        keeps,
        tt,
        chief_stays h v' (record { role = is; target = refl; made = refl; kept = refl }) (unassigned_steps s.words h.size me.0.made me.0 v' refl refl 0 (omega arith)) h.seen h.all_seen,
        (refl, refl, refl, bound, opened h),
      )

  pub puts_back : (k : ℕ) → me.0.hand ≡ k → Allows (Rule terms) slots id me 1 (λ n. (n + k) % 2 ^ 64) (λ n after. (◌≡◌ {A = ℕ} 1 1) × (after.0 ≡ put_back_of me.0) × (after.1 ≡ me.1))
  puts_back k hand s holds _ at _ =
      let h = by_chief holds id me.0 at is in
      let v' : View = put_back_of me.0 in
      let x : ℕ = free_units s.words in
      let small : x + k ≡ (x + k) % 18446744073709551616 = let all = within h id me.0 0 (omega arith) at in omega arith in (
        v',
        keeps,
        tt,
        subst (λ (y : ℕ). Conserved terms (set s.words 1 y) (set s.views id v')) small
            (chief_stays h v' (record { role = is; target = refl; made = refl; kept = refl }) (unassigned_steps s.words h.size me.0.made me.0 v' refl refl (x + k) (omega arith)) h.seen h.all_seen),
        (refl, refl, refl),
      )

  pub grants : (worker k : ℕ) → worker < me.0.made → worker < 16 → k ≤ me.0.hand
      → Allows (Rule terms) slots id me (2 + worker) (λ n. (n + k) % 2 ^ 64) (λ n after. ((w : ℕ) → 2 + worker ≡ 2 + w → after.0 ≡ after_grant me.0 w k) × (after.1 ≡ me.1))
  grants worker k made few has s holds _ at _ =
      let h = by_chief holds id me.0 at is in
      let v' : View = after_grant me.0 worker k in
      let x : ℕ = allotment s.words worker in
      let small : x + k ≡ (x + k) % 18446744073709551616 = let all = within h id me.0 worker few at in omega arith in (
        v',
        keeps,
        tt,
        subst (λ (y : ℕ). Conserved terms (set s.words (2 + worker) y) (set s.views id v')) small
            (chief_stays h v' (record { role = is; target = refl; made = refl; kept = refl }) (allotment_steps s.words h.size me.0.made me.0 v' refl refl worker (x + k) made few (omega arith)) h.seen h.all_seen),
        ((λ w e. let same : worker ≡ w = omega arith in ap (λ (j : ℕ). after_grant me.0 j k) same), refl),
      )

  pub sweeps : (worker : ℕ) → worker < me.0.made → worker < 16
      → Allows (Rule terms) slots id me (2 + worker) (λ _. 0) (λ n after. ((w : ℕ) → 2 + worker ≡ 2 + w → after.0 ≡ swept me.0 w n) × (after.1 ≡ me.1) × (me.0.hand + n ≤ 2 ^ 40))
  sweeps worker made few s holds _ at _ =
      let h = by_chief holds id me.0 at is in
      let x : ℕ = allotment s.words worker in
      let v' : View = swept me.0 worker x in
      let bound : me.0.hand + x ≤ 2 ^ 40 = let all = within h id me.0 worker few at in omega arith in (
        v',
        keeps,
        tt,
        chief_stays h v' (record { role = is; target = refl; made = refl; kept = refl }) (allotment_steps s.words h.size me.0.made me.0 v' refl refl worker 0 made few (omega arith)) h.seen h.all_seen,
        ((λ w e. let same : worker ≡ w = omega arith in ap (λ (j : ℕ). swept me.0 j x) same), refl, bound),
      )

  pub watches : (worker : ℕ) → worker < 16
      → Allows (Rule terms) slots id me (count_word worker) (λ n. n) (λ n after. ((w : ℕ) → count_word worker ≡ count_word w → after.0 ≡ after_watch me.0 w n) × (after.1 ≡ me.1) × (n ≤ 2 ^ 40))
  watches worker few s holds _ at _ =
      let h = by_chief holds id me.0 at is in
      let x : ℕ = tally s.words worker in
      let v' : View = after_watch me.0 worker x in
      let bound : x ≤ 2 ^ 40 = let all = within h id me.0 worker few at in omega arith in
      let all_seen = h.all_seen in (
        v',
        keeps,
        tt,
        chief_stays h v' (record { role = is; target = refl; made = refl; kept = refl }) (load_steps s.words h.size me.0.made me.0 v' refl refl (count_word worker) (omega arith) refl)
            (λ w l. ⊎_elim (λ e. let here = get_or-set_same me.0.seen worker x 0 (omega arith) in let move = ap (λ (j : ℕ). get_or v'.seen j 0) e in let was = ap (tally s.words) e in omega arith)
            (λ n. let other = get_or-set_other me.0.seen worker w x 0 n in let below = h.seen w l in omega arith) (cases_eq w worker))
            (length-set me.0.seen worker x ∙ all_seen),
        ((λ w e. let same : worker ≡ w = omega arith in ap (λ (j : ℕ). after_watch me.0 j x) same), refl, bound),
      )

module _ (terms : Terms) (slots id : ℕ) (me : Me (Unit {0}) View) (number : ℕ) (is : me.0.role ≡ Worker number) (few : number < 16) where
  pub claims : Allows (Rule terms) slots id me (2 + number) (λ _. 0) (λ n after. (2 + number ≡ 2 + worker_number_of me.0.role) × (after.0 ≡ after_claim me.0 (worker_number_of me.0.role) n) × (after.1 ≡ me.1) × (me.0.hand + n ≤ 2 ^ 40))
  claims s holds _ at _ =
      let h = holds.1 in
      let x : ℕ = allotment s.words number in
      let v' : View = after_claim me.0 (worker_number_of me.0.role) x in
      let bound : me.0.hand + x ≤ 2 ^ 40 = let all = within h id me.0 number few at in omega arith in
      let made = nth h id me.0 number at is in (
        v',
        keeps,
        tt,
        worker_stays h id me.0 v' number at is refl (allotment_steps s.words h.size holds.0.view.made me.0 v' refl refl number 0 made few (omega arith)),
        (ap (λ (r : Role). 2 + worker_number_of r) (sym is), refl, refl, bound),
      )

  pub counts : 0 < me.0.hand → Allows (Rule terms) slots id me (count_word number) (λ n. (n + 1) % 2 ^ 64) (λ n after. (count_word number ≡ count_word (worker_number_of me.0.role)) × (after.0 ≡ counted_one me.0 (worker_number_of me.0.role)) × (after.1 ≡ me.1) × (me.0.mine + 1 ≤ 2 ^ 40))
  counts has s holds _ at _ =
      let h = holds.1 in
      let x : ℕ = tally s.words number in
      let v' : View = counted_one me.0 (worker_number_of me.0.role) in
      let all = within h id me.0 number few at in
      let small : x + 1 ≡ (x + 1) % 18446744073709551616 = omega arith in
      let made = nth h id me.0 number at is in
      let own = sum_at (λ (u : View). mine_if number u.role u.mine) s.views id me.0 at in
      let same = ap (λ (r : Role). mine_if number r me.0.mine) is ∙ mine_own number me.0.mine in
      let mine = h.mine number few in
      let bound : me.0.mine + 1 ≤ 2 ^ 40 = omega arith in (
        v',
        keeps,
        tt,
        subst (λ (y : ℕ). Conserved terms (set s.words (count_word number) y) (set s.views id v')) small
            (worker_stays h id me.0 v' number at is refl (count_steps s.words holds.0.view.made number 1 me.0 v' h.size is refl made few (omega arith) refl)),
        (ap (λ (r : Role). count_word (worker_number_of r)) (sym is), refl, refl, bound),
      )

  pub gives_back : (k : ℕ) → me.0.hand ≡ k → Allows (Rule terms) slots id me 1 (λ n. (n + k) % 2 ^ 64) (λ n after. (◌≡◌ {A = ℕ} 1 1) × (after.0 ≡ given_back me.0 (worker_number_of me.0.role)) × (after.1 ≡ me.1))
  gives_back k hand s holds _ at _ =
      let h = holds.1 in
      let v' : View = given_back me.0 (worker_number_of me.0.role) in
      let x : ℕ = free_units s.words in
      let small : x + k ≡ (x + k) % 18446744073709551616 = let all = within h id me.0 0 (omega arith) at in omega arith in (
        v',
        keeps,
        tt,
        subst (λ (y : ℕ). Conserved terms (set s.words 1 y) (set s.views id v')) small
            (worker_stays h id me.0 v' number at is refl (unassigned_steps s.words h.size holds.0.view.made me.0 v' refl refl (x + k) (omega arith))),
        (refl, refl, refl),
      )
