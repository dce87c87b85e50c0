-- A file that grows by one piece after another.
use Rattle.std.proofs.Common.{◌≡◌, ℕ, cond, Bool, true, false, List, [], ◌++◌, Option, None, Some, refl, sym, ap, ◌∙◌, append_assoc}
use Rattle.std.proofs.lemmas.List.{append-nil}
use Rattle.std.specs.Cmp.Lexicographic.{nat_list_cmp_total, same_text, texts_ties}
use Rattle.std.specs.FinMap.{get, get-insert, insert, same_map, slice_cmp-IsAntisymmetric, nat_cmp-IsAntisymmetric}
use Rattle.amber_io.specs.Folder.{Named, grown, with_file, with_more}
use Rattle.amber_io.proofs.Lookup.{tied}
use Rattle.amber_io.proofs.Told.{with_more-with_file}

-- a file that holds what it is to hold
insert-held : (files : Named) (name held : List ℕ) → get files name ≡ Some held → insert files name held ≡ files
insert-held files name held e =
    same_map nat_list_cmp_total (slice_cmp-IsAntisymmetric nat_cmp-IsAntisymmetric) _ _ (λ q. get-insert nat_list_cmp_total files name held q ∙ by-name q (tied q name) refl)
  where
    by-name : (q : List ℕ) (b : Bool) → tied q name ≡ b → cond b (Some held) (get files q) ≡ get files q
    by-name q true is = sym (ap (get files) (same_text q name (sym is ∙ sym (texts_ties q name))) ∙ e)
    by-name q false is = refl

-- nothing more
pub more-nil : (told : Option Named) (name : List ℕ) → with_more told name [] ≡ told
unfolding with_more
more-nil None name = refl
more-nil (Some files) name = ap Some (by-held (get files name) refl)
  where
    by-held : (held : Option (List ℕ)) → get files name ≡ held → grown files name held [] ≡ files
    by-held None e = refl
    by-held (Some bytes) e = ap (insert files name) (append-nil bytes) ∙ insert-held files name bytes e

-- a file that is there and holds this grows as one that was made
there-more : (files : Named) (name held a b : List ℕ) → with_more (with_file (Some files) name (held ++ a)) name b ≡ with_file (Some files) name (held ++ (a ++ b))
there-more files name held a b = with_more-with_file (Some files) name (held ++ a) b ∙ ap (with_file (Some files) name) (append_assoc held a b)

-- two pieces, one after the other
pub more-more : (told : Option Named) (name a b : List ℕ) → with_more (with_more told name a) name b ≡ with_more told name (a ++ b)
unfolding with_more with_file
more-more None name a b = refl
more-more (Some files) name a b = by-held (get files name) refl
  where
    by-held : (held : Option (List ℕ)) → get files name ≡ held
        → with_more (Some (grown files name held a)) name b ≡ Some (grown files name held (a ++ b))
    by-held None e = ap (λ held. Some (grown files name held b)) e
    by-held (Some bytes) e = there-more files name bytes a b
