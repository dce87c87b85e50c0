-- What each kind of step does to the words and to the hand.
use Rattle.std.proofs.Common.{◌≡◌, ◌≢◌, ℕ, ◌+◌, ◌<◌, ◌≤◌, cond, eq-eqb, List, length, get_or, set, refl, sym, ap, ◌∙◌, subst, ⊎_elim, length-set, get_or-set_other, get_or-set_same, arith}
use Rattle.std.proofs.lemmas.Bool.{cases_eq, ne_eqb}
use Rattle.amber_board.specs.declared.view.Role.{Role}
use Rattle.amber_board.specs.declared.view.Role.TheVariants.{Worker}
use Rattle.amber_board.specs.declared.view.View.{View}
use Rattle.amber_board.specs.Ledger.{count_word, free_units, allotment, tally, total_below}
use Rattle.amber_board.proofs.Sums.{total_below-ext, total_below-change}
use Rattle.amber_board.proofs.Stays.{Steps, mine_if}

-- Units move, and none is counted
record Moves (words words' : List ℕ) (made hand hand' : ℕ) : Type 0 where
  pub size : length words' ≡ length words
  pub target : get_or words' 0 0 ≡ get_or words 0 0
  pub units : free_units words' + total_below 16 (allotment words') + hand' ≡ free_units words + total_below 16 (allotment words) + hand
  pub unmade : (w : ℕ) → made ≤ w → w < 16 → allotment words' w ≡ allotment words w
  pub counts : (w : ℕ) → w < 16 → tally words' w ≡ tally words w

moving : (words words' : List ℕ) (made : ℕ) (v v' : View) → v'.role ≡ v.role → v'.mine ≡ v.mine → Moves words words' made v.hand v'.hand → Steps words words' made v v'
moving words words' made v v' role mine m = record {
  size = m.size;
  target = m.target;
  units = let same = total_below-ext 16 (tally words') (tally words) m.counts in let move = m.units in omega arith;
  unmade = λ w le l. (m.unmade w le l, m.counts w l);
  mine = λ w l.
      let same = m.counts w l in
      let part = ap (λ (r : Role). mine_if w r v'.mine) role ∙ ap (λ (n : ℕ). mine_if w v.role n) mine in
      omega arith;
  more = λ w l. let same = m.counts w l in omega arith;
}

module _ (words : List ℕ) (size : length words ≡ 152) (made hand : ℕ) where
  -- word 1 changes
  unassigned_moves : (x hand' : ℕ) → x + hand' ≡ free_units words + hand → Moves words (set words 1 x) made hand hand'
  unassigned_moves x hand' e = record {
    size = length-set words 1 x;
    target = get_or-set_other words 1 0 x 0 (λ q. omega arith);
    units =
        let same = total_below-ext 16 (allotment (set words 1 x)) (allotment words) (λ w l. get_or-set_other words 1 (2 + w) x 0 (λ q. omega arith)) in
        let here = get_or-set_same words 1 x 0 (omega arith) in
        omega arith;
    unmade = λ w le l. get_or-set_other words 1 (2 + w) x 0 (λ q. omega arith);
    counts = λ w l. get_or-set_other words 1 (count_word w) x 0 (λ q. omega arith);
  }

  -- the allotment of worker w changes
  allotment_moves : (w x hand' : ℕ) → w < made → w < 16 → x + hand' ≡ allotment words w + hand → Moves words (set words (2 + w) x) made hand hand'
  allotment_moves w x hand' lt l e = record {
    size = length-set words (2 + w) x;
    target = get_or-set_other words (2 + w) 0 x 0 (λ q. omega arith);
    units =
        let change = total_below-change 16 w (allotment words) (allotment (set words (2 + w) x)) l (λ k m n. get_or-set_other words (2 + w) (2 + k) x 0 (λ q. n (omega arith))) in
        let here = get_or-set_same words (2 + w) x 0 (omega arith) in
        let other = get_or-set_other words (2 + w) 1 x 0 (λ q. omega arith) in
        omega arith;
    unmade = λ k le m. get_or-set_other words (2 + w) (2 + k) x 0 (λ q. omega arith);
    counts = λ k m. get_or-set_other words (2 + w) (count_word k) x 0 (λ q. omega arith);
  }

  -- the count of worker w is loaded
  nothing_moves : (i : ℕ) → i < 152 → Moves words (set words i (get_or words i 0)) made hand hand
  nothing_moves i l = record {
    size = length-set words i (get_or words i 0);
    target = same 0;
    units =
        let allotments = total_below-ext 16 (allotment (set words i (get_or words i 0))) (allotment words) (λ w l. same (2 + w)) in
        let other = same 1 in
        omega arith;
    unmade = λ w le l. same (2 + w);
    counts = λ w l. same (count_word w);
  } where
    same : (j : ℕ) → get_or (set words i (get_or words i 0)) j 0 ≡ get_or words j 0
    same j = ⊎_elim (λ e. subst (λ (k : ℕ). get_or (set words i (get_or words i 0)) k 0 ≡ get_or words k 0) (sym e) (get_or-set_same words i (get_or words i 0) 0 (omega arith)))
        (λ n. get_or-set_other words i j (get_or words i 0) 0 n) (cases_eq j i)

module _ (words : List ℕ) (size : length words ≡ 152) (made : ℕ) (v v' : View) (role : v'.role ≡ v.role) (mine : v'.mine ≡ v.mine) where
  pub unassigned_steps : (x : ℕ) → x + v'.hand ≡ free_units words + v.hand → Steps words (set words 1 x) made v v'
  unassigned_steps x e = moving words (set words 1 x) made v v' role mine (unassigned_moves words size made v.hand x v'.hand e)

  pub allotment_steps : (w x : ℕ) → w < made → w < 16 → x + v'.hand ≡ allotment words w + v.hand → Steps words (set words (2 + w) x) made v v'
  allotment_steps w x lt l e = moving words (set words (2 + w) x) made v v' role mine (allotment_moves words size made v.hand w x v'.hand lt l e)

  pub load_steps : (i : ℕ) → i < 152 → v'.hand ≡ v.hand → Steps words (set words i (get_or words i 0)) made v v'
  load_steps i l e = moving words (set words i (get_or words i 0)) made v v' role mine
      (subst (λ (hand : ℕ). Moves words (set words i (get_or words i 0)) made v.hand hand) (sym e) (nothing_moves words size made v.hand i l))

pub mine_own : (w m : ℕ) → mine_if w (Worker w) m ≡ m
mine_own w m = subst (λ b. cond b m 0 ≡ m) (sym (eq-eqb w w refl)) refl

pub mine_other : (k w m : ℕ) → k ≢ w → mine_if k (Worker w) m ≡ 0
mine_other k w m n = subst (λ b. cond b m 0 ≡ 0) (sym (ne_eqb w k (λ e. n (sym e)))) refl

-- worker w counts n units of its hand
pub count_steps : (words : List ℕ) (made w n : ℕ) (v v' : View) → length words ≡ 152 → v.role ≡ Worker w → v'.role ≡ v.role → w < made → w < 16 → v'.hand + n ≡ v.hand → v'.mine ≡ v.mine + n
    → Steps words (set words (count_word w) (tally words w + n)) made v v'
count_steps words made w n v v' size is role lt l hand mine = record {
  size = length-set words (count_word w) x;
  target = get_or-set_other words (count_word w) 0 x 0 (λ q. omega arith);
  units =
      let change = total_below-change 16 w (tally words) (tally words') l others in
      let same = total_below-ext 16 (allotment words') (allotment words) allotments in
      let other = get_or-set_other words (count_word w) 1 x 0 (λ q. omega arith) in
      let here = here_is in
      omega arith;
  unmade = λ k le m. (allotments k m, others k m (λ q. omega arith));
  mine = λ k m.
      let first = ap (λ (r : Role). mine_if k r v.mine) is in
      let then = ap (λ (r : Role). mine_if k r v'.mine) (role ∙ is) in
      ⊎_elim (λ e. let here = here_is in let move = ap (tally words') e in let was = ap (tally words) e in
      let own = ap (λ (j : ℕ). mine_if j (Worker w) v.mine) e ∙ mine_own w v.mine in
      let now = ap (λ (j : ℕ). mine_if j (Worker w) v'.mine) e ∙ mine_own w v'.mine in omega arith)
      (λ q. let other = others k m q in let own = mine_other k w v.mine q in let now = mine_other k w v'.mine q in omega arith)
      (cases_eq k w);
  more = λ k m. ⊎_elim (λ e. let here = here_is in let move = ap (tally words') e in let was = ap (tally words) e in omega arith) (λ q. let other = others k m q in omega arith) (cases_eq k w);
} where
  x : ℕ
  x = tally words w + n

  words' : List ℕ
  words' = set words (count_word w) x

  here_is : tally words' w ≡ tally words w + n
  here_is = get_or-set_same words (count_word w) x 0 (omega arith)

  others : (k : ℕ) → k < 16 → k ≢ w → tally words' k ≡ tally words k
  others k m q = get_or-set_other words (count_word w) (count_word k) x 0 (λ e. q (omega arith))

  allotments : (k : ℕ) → k < 16 → allotment words' k ≡ allotment words k
  allotments k m = get_or-set_other words (count_word w) (2 + k) x 0 (λ q. omega arith)
