-- From one command of a script to the next.
use Rattle.std.proofs.Common.{◌≡◌, ◌≢◌, ℕ, zero, suc, ◌+◌, ◌<◌, ◌≤◌, List, [], ◌∷◌, ◌++◌, length, drop, get_or, Bool, true, false, refl, sym, ap, subst, ◌∙◌, arith}
use Rattle.std.specs.List.{list_all}
use Rattle.std.proofs.Math.Seq.{drop-cons}
use Rattle.std.proofs.lemmas.List.Folds.{list_all_at}
use Rattle.amber_log.specs.declared.command.Command.{Command}
use Rattle.amber_log.specs.declared.command.Command.TheVariants as command
use Rattle.amber_script.specs.Commands.{is_scripted}

-- ---- the commands of a script

pub scripted-end : (done : Command) → is_scripted done ≡ true → done ≢ command.End
scripted-end done h e = let never : false ≡ true = rw e at h in cc

all-at : {X : Type 0} (test : X → Bool) (xs : List X) (i : ℕ) (d : X) → i < length xs → list_all test xs ≡ true → test (get_or xs i d) ≡ true
all-at test xs i d h all = by-test (test (get_or xs i d)) refl
  where
    by-test : (b : Bool) → test (get_or xs i d) ≡ b → test (get_or xs i d) ≡ true
    by-test true e = e
    by-test false e = absurd (let never : false ≡ true = sym (list_all_at test xs i d h e) ∙ all in cc)

pub element-passes : {X : Type 0} (test : X → Bool) (xs : List X) (i : ℕ) (one : X) → i < length xs → one ≡ get_or xs i one → list_all test xs ≡ true → test one ≡ true
element-passes test xs i one h is all = subst (λ x. test x ≡ true) (sym is) (all-at test xs i one h all)

-- those that are left, of which one is the next
next-left : {X : Type 0} (xs left : List X) (i : ℕ) (d : X) → i < length xs → drop i xs ++ left ≡ get_or xs i d ∷ (drop (i + 1) xs ++ left)
next-left xs left i d h =
    let next : suc i ≡ i + 1 = omega arith in
    ap (λ zs. zs ++ left) (drop-cons xs i d h) ∙ ap (λ n. get_or xs i d ∷ (drop n xs ++ left)) next

pub command-left : {X : Type 0} (xs left : List X) (i : ℕ) (one : X) → i < length xs → one ≡ get_or xs i one → drop i xs ++ left ≡ one ∷ (drop (i + 1) xs ++ left)
command-left xs left i one h is = next-left xs left i one h ∙ ap (λ x. x ∷ (drop (i + 1) xs ++ left)) (sym is)

pub none-left : {X : Type 0} (xs left : List X) (i : ℕ) → length xs ≤ i → drop i xs ++ left ≡ left
none-left [] left zero h = refl
none-left [] left (suc i) h = refl
none-left (x ∷ xs) left zero h = absurd (omega (arith, h))
none-left (x ∷ xs) left (suc i) h = none-left xs left i (omega (arith, h))
