-- How large the numbers of groups can be.
use Rattle.std.proofs.Common.{◌≡◌, ℕ, zero, suc, ◌+◌, ◌<◌, ◌≤◌, Bool, true, false, cond, List, [], ◌∷◌, ◌++◌, length, get_or, map, take, drop, set, Option, Some, sym, subst, ◌∙◌, arith, ℤ}
use Rattle.std.specs.Map.{lookup}
use Rattle.std.proofs.lemmas.Int.{ints}
use Rattle.std.proofs.lemmas.List.{drop_more, take_more_set}
use Rattle.amber_rows.specs.Operators.{same_row, total_of}
use Rattle.amber_rows.specs.declared.value.Value.{Value}
use Rattle.amber_rows.specs.declared.agg.Agg.{Agg}
use Rattle.amber_rows.specs.declared.agg.Agg.TheVariants as agg
use Rattle.amber_keys.specs.Tables.{replaced}
use Rattle.amber_group.specs.declared.running.Running.{Running}
use Rattle.amber_group.specs.declared.running.Running.TheVariants.{Count, Sum, Min, Max}
use Rattle.amber_group.specs.Running.{running_of}
use Rattle.amber_group.specs.Steps.{AreWithin, GroupsWithin, IsSumWithin, IsWithin}

abbrev Group : Type 0
Group = List Value × List Running

sum-up : (m n : ℕ) (total : ℤ) → m ≤ n → IsSumWithin m total → IsSumWithin n total
sum-up m n total le h = (omega (arith, ints), omega (arith, ints))

within-up : (m n : ℕ) (running : Running) → m ≤ n → IsWithin m running → IsWithin n running
unfolding IsWithin
within-up m n (Count rows) le h = omega arith
within-up m n (Sum column total) le h = sum-up m n total le h
within-up m n (Min column best) le h = tt
within-up m n (Max column best) le h = tt

pub are_within-up : (m n : ℕ) (runnings : List Running) → m ≤ n → AreWithin m runnings → AreWithin n runnings
are_within-up m n [] le h = tt
are_within-up m n (running ∷ runnings) le h = (within-up m n running le h.0, are_within-up m n runnings le h.1)

pub groups_within-up : (m n : ℕ) (groups : List Group) → m ≤ n → GroupsWithin m groups → GroupsWithin n groups
groups_within-up m n [] le h = tt
groups_within-up m n (group ∷ groups) le h = (are_within-up m n group.1 le h.0, groups_within-up m n groups le h.1)

replaced_by : (n : ℕ) (old new : List Running) (t : Bool) → AreWithin n old → AreWithin n new → AreWithin n (cond t new old)
replaced_by n old new true h w = w
replaced_by n old new false h w = h

pub groups_within-replaced : (n : ℕ) (groups : List Group) (key : List Value) (new : List Running) → GroupsWithin n groups → AreWithin n new → GroupsWithin n (replaced key new groups)
groups_within-replaced n [] key new h w = tt
groups_within-replaced n (group ∷ groups) key new h w = (replaced_by n group.1 new (same_row key group.0) h.0 w, groups_within-replaced n groups key new h.1 w)

pub groups_within-push : (n : ℕ) (groups : List Group) (key : List Value) (new : List Running) → GroupsWithin n groups → AreWithin n new → GroupsWithin n (groups ++ (key, new) ∷ [])
groups_within-push n [] key new h w = (w, tt)
groups_within-push n (group ∷ groups) key new h w = (h.0, groups_within-push n groups key new h.1 w)

found_by : (n : ℕ) (first runnings : List Running) (rest : Option (List Running)) (t : Bool) → AreWithin n first → (rest ≡ Some runnings → AreWithin n runnings) → cond t (Some first) rest ≡ Some runnings
    → AreWithin n runnings
found_by n first runnings rest true h on e = let same : first ≡ runnings = cc in subst (AreWithin n) same h
found_by n first runnings rest false h on e = on e

pub groups_within-found : (n : ℕ) (groups : List Group) (key : List Value) (runnings : List Running) → GroupsWithin n groups → lookup (same_row key) groups ≡ Some runnings → AreWithin n runnings
groups_within-found n [] key runnings h e = absurd (cc)
groups_within-found n (group ∷ groups) key runnings h e =
    found_by n group.1 runnings (lookup (same_row key) groups) (same_row key group.0) h.0 (groups_within-found n groups key runnings h.1) e

none-within : (one : Agg) → IsWithin 0 (running_of [] one)
unfolding IsWithin running_of total_of
none-within agg.Count = omega arith
none-within (agg.Sum column) = (omega (arith, ints), omega (arith, ints))
none-within (agg.Min column) = tt
none-within (agg.Max column) = tt

-- of no row the numbers are 0
pub none-are_within : (aggs : List Agg) → AreWithin 0 (map (running_of []) aggs)
none-are_within [] = tt
none-are_within (one ∷ aggs) = (none-within one, none-are_within aggs)

-- ---- one after the other

all-push : (n : ℕ) (runnings : List Running) (running : Running) → AreWithin n runnings → IsWithin n running → AreWithin n (runnings ++ running ∷ [])
all-push n [] running h w = (w, tt)
all-push n (x ∷ runnings) running h w = (h.0, all-push n runnings running h.1 w)

all-drop : (n i : ℕ) (runnings : List Running) → AreWithin n runnings → AreWithin n (drop i runnings)
all-drop n zero runnings h = h
all-drop n (suc i) [] h = tt
all-drop n (suc i) (x ∷ runnings) h = all-drop n i runnings h.1

-- one that was not reached yet is as large as at first
pub within-at : (n i : ℕ) (first runnings : List Running) (running : Running) → AreWithin n first → drop i runnings ≡ drop i first → i < length runnings → running ≡ get_or runnings i running
    → IsWithin n running
within-at n i first runnings running h e less is =
    let here : drop i first ≡ get_or runnings i running ∷ drop (i + 1) runnings = sym e ∙ drop_more runnings i running less in
    let all : AreWithin n (get_or runnings i running ∷ drop (i + 1) runnings) = subst (AreWithin n) here (all-drop n i first h) in
    subst (IsWithin n) (sym is) all.0

pub within-more : (n i : ℕ) (runnings : List Running) (new : Running) → i < length runnings → AreWithin n (take i runnings) → IsWithin n new → AreWithin n (take (i + 1) (set runnings i new))
within-more n i runnings new less h w = subst (AreWithin n) (sym (take_more_set runnings i new less)) (all-push n (take i runnings) new h w)
