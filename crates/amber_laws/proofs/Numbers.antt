-- Two lists of different numbers with the same members are the same.
use Rattle.std.proofs.Common.{◌≡◌, ℕ, not, eqb, true, false, List, [], ◌∷◌, filter, refl, sym, ◌∙◌, ap}
use Rattle.std.specs.List.{flat_map}
use Rattle.std.proofs.lemmas.Bool.{and_parts, both_ways, eq-eqb, false≢true, ne_eqb, not-true, or_parts}
use Rattle.amber_meaning.proofs.Lists.{list_all-members}
use Rattle.amber_laws.proofs.Bags.{Same, Join, equal-among, same-dealt, same-is, sent_to}
use Rattle.amber_meaning.proofs.Numbers.{among_step, among, are_different}

-- ---- the same members

only_none : (n : ℕ) (ns : List ℕ) → among n ns ≡ false → filter (λ x. eqb x n) ns ≡ []
only_none n [] e = refl
only_none n (m ∷ ns) e = let parts = or_parts (eqb m n) (among n ns) e in rw parts.0 (only_none n ns parts.1)

-- a number that is in a list of different ones stands there once
only_one : (n : ℕ) (ns : List ℕ) → are_different ns ≡ true → among n ns ≡ true → filter (λ x. eqb x n) ns ≡ n ∷ []
only_one n [] d h = absurd (false≢true h)
only_one n (m ∷ ns) d h =
    among_step m n ns (filter (λ x. eqb x n) (m ∷ ns) ≡ n ∷ []) h
    (λ same. rw (same, eq-eqb n n refl) (ap (λ l. n ∷ l) (only_none n ns (ap (λ k. among k ns) (sym same) ∙ none))))
    (λ there. rw (differs there) (only_one n ns parts.1 there))
  where
    parts : (not (among m ns) ≡ true) × (are_different ns ≡ true)
    parts = and_parts (not (among m ns)) (are_different ns) d

    none : among m ns ≡ false
    none = not-true (among m ns) parts.0

    differs : among n ns ≡ true → eqb m n ≡ false
    differs there = ne_eqb m n (λ same. both_ways (among m ns) none (ap (λ k. among k ns) same ∙ there))

each_itself : (ns : List ℕ) → flat_map (λ n. n ∷ []) ns ≡ ns
each_itself [] = refl
each_itself (n ∷ ns) = ap (λ l. n ∷ l) (each_itself ns)

-- lists of different numbers with the same members
pub same-members : (ns ms : List ℕ) → are_different ns ≡ true → are_different ms ≡ true
    → ((n : ℕ) → among n ns ≡ true → among n ms ≡ true) → ((n : ℕ) → among n ms ≡ true → among n ns ≡ true) → Same ns ms
same-members ns ms d e right left =
    let dealt : ns ≡ flat_map (sent_to (λ x. x) ms) ns =
    sym (each_itself ns) ∙ equal-among (λ n. n ∷ []) (sent_to (λ x. x) ms) ns (λ n h. sym (only_one n ms e (right n h))) in
    Join ns (flat_map (sent_to (λ x. x) ms) ns) ms (same-is ns (flat_map (sent_to (λ x. x) ms) ns) dealt)
    (same-dealt (λ x. x) ns d ms (list_all-members (λ x. among x ns) ms left))
