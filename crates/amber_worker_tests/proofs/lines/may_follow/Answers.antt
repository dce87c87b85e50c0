-- One entry more may follow.
use Rattle.std.proofs.Common.{◌≡◌, ℕ, ◌+◌, ◌<◌, ◌≤◌, ◌&&◌, List, [], ◌∷◌, ◌++◌, Bool, false, get_or, length, take, append_assoc, ap, refl, subst, sym, ◌∙◌}
use Rattle.std.proofs.lemmas.List.{take_all, take_more}
use Rattle.amber_log.specs.Grammar.{AreEntries, IsEntry, is_go}
use Rattle.amber_log.specs.declared.entry.Entry.{Entry}
use Rattle.amber_worker_tests.proofs.lines.may_follow.Goals as goal

-- what may follow these entries, where the last of them takes or emits rows or not
abbrev MayBehind : Bool → List Entry → Type 0
MayBehind gone entries = (later : List Entry) → AreEntries gone later → AreEntries false (entries ++ later)

one-more : (entries : List Entry) (i : ℕ) (d : Entry) (gone : Bool) → i < length entries → IsEntry (get_or entries i d) → (gone && is_go (get_or entries i d)) ≡ false → MayBehind gone (take i entries)
    → MayBehind (is_go (get_or entries i d)) (take (i + 1) entries)
unfolding AreEntries
one-more entries i d gone less one apart so_far later follow =
    subst (AreEntries false) (sym (ap (λ l. l ++ later) (take_more entries i d less) ∙ append_assoc (take i entries) (get_or entries i d ∷ []) later))
    (so_far (get_or entries i d ∷ later) (one, apart, follow))

at-last : (entries : List Entry) (n : ℕ) (gone : Bool) (entry : Entry) → length entries ≤ n → IsEntry entry → (gone && is_go entry) ≡ false → MayBehind gone (take n entries) → AreEntries false (entries ++ entry ∷ [])
unfolding AreEntries
at-last entries n gone entry all one apart so_far = subst (λ l. AreEntries false (l ++ entry ∷ [])) (take_all n entries all) (so_far (entry ∷ []) (one, apart, tt))

pub loop-i-preserved : goal.loop-i-preserved
loop-i-preserved c =
    let so_far : MayBehind c.loop-i.gone (take c.loop-i.i c.args.entries.now) = c.loop-i.invariant in
    λ later follow. one-more c.args.entries.now c.loop-i.i _ c.loop-i.gone c.loop-i-test.true (c.if-not-fits_after.ensures.entry refl) (c.if-not-fits_after.ensures.apart refl) so_far later (rw c.is_go-gone.ensures at follow)

pub returns : goal.returns
returns c may = at-last c.args.entries.now c.loop-i.i c.loop-i.gone c.args.entry.now c.loop-i-test.false (c.fits_after-2.ensures.entry may) (c.fits_after-2.ensures.apart may) c.loop-i.invariant
