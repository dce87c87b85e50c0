-- Known files that change.
use Rattle.std.proofs.Common.{◌≡◌, refl, ap, sym, ◌∙◌, ℕ, cond, List, [], ◌++◌, Option, None, Some, IsSome}
use Rattle.std.specs.Cmp.Lexicographic.{nat_list_cmp_total}
use Rattle.std.specs.FinMap.{get, get-insert, insert, same_map, slice_cmp-IsAntisymmetric, nat_cmp-IsAntisymmetric}
use Rattle.amber_io.proofs.Lookup.{cond-twice, tied, tied-same}
use Rattle.amber_io.specs.Folder.{IsThere, Named, grown, with_file, with_more}

-- an insert of the same name takes the place of the one before it
insert-insert : (files : Named) (name a b : List ℕ) → insert (insert files name a) name b ≡ insert files name b
insert-insert files name a b =
    same_map nat_list_cmp_total (slice_cmp-IsAntisymmetric nat_cmp-IsAntisymmetric) _ _ (λ q.
    get-insert nat_list_cmp_total (insert files name a) name b q
    ∙ ap (cond (tied q name) (Some b)) (get-insert nat_list_cmp_total files name a q)
    ∙ sym (cond-twice (tied q name) (Some b) (Some a) (get files q))
    ∙ sym (get-insert nat_list_cmp_total files name b q))

get-same : (files : Named) (name a : List ℕ) → get (insert files name a) name ≡ Some a
get-same files name a = get-insert nat_list_cmp_total files name a name ∙ ap (λ b. cond b (Some a) (get files name)) (tied-same name)

-- bytes that are written after a file's first ones make it as if all were written at once
pub with_more-with_file : (told : Option Named) (name a b : List ℕ) → with_more (with_file told name a) name b ≡ with_file told name (a ++ b)
unfolding with_file with_more
with_more-with_file None name a b = refl
with_more-with_file (Some files) name a b =
    ap (λ found. Some (grown (insert files name a) name found b)) (get-same files name a) ∙ ap Some (insert-insert files name a (a ++ b))

-- ---- a file that is there

-- a file that was made
pub made_there : (told : Option Named) (name bytes : List ℕ) → IsThere (with_file told name bytes) name
unfolding with_file
made_there None name bytes = tt
made_there (Some files) name bytes = rw (get-same files name bytes) refl

grown_there : (files : Named) (name more : List ℕ) (held : Option (List ℕ)) → get files name ≡ held → IsSome held → IsSome (get (grown files name held more) name)
grown_there files name more None e h = cc
grown_there files name more (Some bytes) e h = rw (get-same files name (bytes ++ more)) refl

-- a file that was there and has grown
pub more_there : (told : Option Named) (name more : List ℕ) → IsThere told name → IsThere (with_more told name more) name
unfolding with_more
more_there None name more h = tt
more_there (Some files) name more h = grown_there files name more (get files name) refl h

-- ---- one set of files

pub empty_told : (old new : Named) (name : List ℕ) → new ≡ insert old name [] → Some new ≡ with_file (Some old) name []
unfolding with_file
empty_told old new name is = ap Some is

pub more_told : (old new : Named) (name more : List ℕ) → new ≡ grown old name (get old name) more → Some new ≡ with_more (Some old) name more
unfolding with_more
more_told old new name more is = ap Some is
