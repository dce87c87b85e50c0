-- The groups of rows, as a row is added.
use Rattle.std.proofs.Common.{◌≡◌, ℕ, ◌+◌, false, cond, List, [], ◌∷◌, ◌++◌, length, map, Some, None, refl, sym, ap, subst, ◌∙◌, arith, length-append}
use Rattle.std.specs.Map.{lookup}
use Rattle.std.proofs.lemmas.List.{append-nil, length-map}
use Rattle.std.proofs.lemmas.List.Elements.{filter-append}
use Rattle.amber_rows.specs.Operators.{first_keys, pick_cells, rows_with, same_row}
use Rattle.amber_rows.specs.declared.value.Value.{Value}
use Rattle.amber_rows.specs.declared.agg.Agg.{Agg}
use Rattle.amber_keys.specs.SameRows.{same-itself}
use Rattle.amber_keys.specs.Tables.{replaced}
use Rattle.amber_keys.proofs.FirstKeys.{rows_with-absent}
use Rattle.amber_keys.proofs.Tables.{entries-known, entries-new}
use Rattle.amber_group.specs.declared.running.Running.{Running}
use Rattle.amber_group.specs.Group.{FeedsRow, groups_of}
use Rattle.amber_group.specs.Running.{running_of}
use Rattle.amber_group.specs.Steps.{AreWithin, GroupsWithin, running_after}
use Rattle.amber_group.specs.Taking.{Coming, TakesIn}
use Rattle.amber_group.proofs.Stepping.{steps-more}
use Rattle.amber_group.proofs.Within.{are_within-up, groups_within-found, groups_within-push, groups_within-replaced, groups_within-up}

abbrev Row : Type 0
Row = List Value

abbrev Groups : Type 0
Groups = List (Row × List Running)

module _ (keys : List ℕ) (aggs : List Agg) (rows : List Row) (row : Row) where
  with-own : rows_with keys (rows ++ row ∷ []) (pick_cells keys row) ≡ rows_with keys rows (pick_cells keys row) ++ row ∷ []
  with-own =
      filter-append (λ one. same_row (pick_cells keys one) (pick_cells keys row)) rows (row ∷ [])
      ∙ ap (λ t. rows_with keys rows (pick_cells keys row) ++ cond t (row ∷ []) []) (same-itself (pick_cells keys row))

  with-other : (x : Row) → same_row (pick_cells keys row) x ≡ false → rows_with keys (rows ++ row ∷ []) x ≡ rows_with keys rows x
  with-other x e =
      filter-append (λ one. same_row (pick_cells keys one) x) rows (row ∷ []) ∙ ap (λ t. rows_with keys rows x ++ cond t (row ∷ []) []) e
      ∙ append-nil (rows_with keys rows x)

  of_rows : List Row → Row → List Running
  of_rows some key = map (running_of (rows_with keys some key)) aggs

  agree : (x : Row) → same_row (pick_cells keys row) x ≡ false → of_rows (rows ++ row ∷ []) x ≡ of_rows rows x
  unfolding of_rows
  agree x e = ap (λ some. map (running_of some) aggs) (with-other x e)

  groups-known : (groups : Groups) (old new : List Running) → groups ≡ groups_of keys aggs rows → lookup (same_row (pick_cells keys row)) groups ≡ Some old
      → new ≡ map (running_after row) old → replaced (pick_cells keys row) new groups ≡ groups_of keys aggs (rows ++ row ∷ [])
  unfolding groups_of of_rows
  groups-known groups old new is found more =
      entries-known of_rows keys rows row agree groups is old new found
      (λ e. more ∙ ap (map (running_after row)) e ∙ steps-more (rows_with keys rows (pick_cells keys row)) row aggs ∙ ap (λ some. map (running_of some) aggs) (sym with-own))

  groups-new : (groups : Groups) (new : List Running) → groups ≡ groups_of keys aggs rows → lookup (same_row (pick_cells keys row)) groups ≡ None
      → new ≡ map (running_after row) (map (running_of []) aggs) → groups ++ (pick_cells keys row, new) ∷ [] ≡ groups_of keys aggs (rows ++ row ∷ [])
  unfolding groups_of of_rows
  groups-new groups new is none one =
      entries-new of_rows keys rows row agree groups is new none
      (λ absent.
      one ∙ steps-more [] row aggs ∙ ap (λ some. map (running_of (some ++ row ∷ [])) aggs) (sym (rows_with-absent keys rows (pick_cells keys row) absent))
      ∙ ap (λ some. map (running_of some) aggs) (sym with-own))

-- a row of a key that has a group
pub takes-known : (c : Coming) (old new : List Running) (after : Groups) → lookup (same_row c.key) c.entries ≡ Some old → new ≡ map (running_after c.row) old
    → ((rows : ℕ) → AreWithin rows old → AreWithin (rows + 1) new) → after ≡ replaced c.key new c.entries → TakesIn c after
takes-known c old new after found more small is =
    record {
      groups = λ keys rows of own.
          is ∙ ap (λ key. replaced key new c.entries) own
          ∙ groups-known keys c.aggs rows c.row c.entries old new of (ap (λ key. lookup (same_row key) c.entries) (sym own) ∙ found) more;
      within = λ fed h.
          subst (GroupsWithin (fed + 1)) (sym is)
          (groups_within-replaced (fed + 1) c.entries c.key new (groups_within-up fed (fed + 1) c.entries (omega arith) h) (small fed (groups_within-found fed c.entries c.key old h found)));
    }

-- a row of a new key
pub takes-new : (c : Coming) (new : List Running) (after : Groups) → lookup (same_row c.key) c.entries ≡ None → new ≡ map (running_after c.row) (map (running_of []) c.aggs)
    → AreWithin 1 new → after ≡ c.entries ++ (c.key, new) ∷ [] → TakesIn c after
takes-new c new after none one small is =
    record {
      groups = λ keys rows of own.
          is ∙ ap (λ key. c.entries ++ (key, new) ∷ []) own
          ∙ groups-new keys c.aggs rows c.row c.entries new of (ap (λ key. lookup (same_row key) c.entries) (sym own) ∙ none) one;
      within = λ fed h.
          subst (GroupsWithin (fed + 1)) (sym is)
          (groups_within-push (fed + 1) c.entries c.key new (groups_within-up fed (fed + 1) c.entries (omega arith) h) (are_within-up 1 (fed + 1) new (omega arith) small));
    }

-- a state that took in a row stands for one row more
pub feeds : (keys : List ℕ) (aggs : List Agg) (fed : ℕ) (groups after : Groups) (key row : Row) → TakesIn (record { entries = groups; aggs = aggs; key = key; row = row }) after → key ≡ pick_cells keys row
    → FeedsRow row (record { keys = keys; aggs = aggs; fed = fed; groups = groups }) (record { keys = keys; aggs = aggs; fed = fed + 1; groups = after })
feeds keys aggs fed groups after key row takes own =
    record {
      keys = refl;
      aggs = refl;
      fed = refl;
      stands = λ rows stands. (ap (λ n. n + 1) stands.0 ∙ sym (length-append rows (row ∷ [])), takes.groups keys rows stands.1 own);
    }

pub length-groups : (keys : List ℕ) (aggs : List Agg) (rows : List Row) → length (groups_of keys aggs rows) ≡ length (first_keys keys rows)
unfolding groups_of
length-groups keys aggs rows = length-map (first_keys keys rows) (λ key. (key, map (running_of (rows_with keys rows key)) aggs))

pub no-groups : (keys : List ℕ) (aggs : List Agg) → groups_of keys aggs [] ≡ []
unfolding groups_of first_keys
no-groups keys aggs = refl
