-- What is so of all elements of a list but one.
use Rattle.std.proofs.Common.{◌≡◌, ◌≢◌, ℕ, zero, suc, ◌+◌, ◌<◌, List, [], ◌∷◌, length, take, drop, get_or, Bool, true, ◌&&◌, refl, sym, ap, ◌∙◌, arith, subst}
use Rattle.std.specs.List.{list_all}
use Rattle.std.proofs.lemmas.Bool.{and_from, and_parts}

module _ {A : Type 0} (test : A → Bool) where
  -- a list of the same elements passes too
  same-pass : (old new : List A) → length new ≡ length old → ((k : ℕ) (d : A) → k < length old → get_or new k d ≡ get_or old k d) → list_all test new ≡ true → list_all test old ≡ true
  same-pass [] new long same pass = refl
  same-pass (x ∷ old) [] long same pass = absurd (omega (arith, long))
  same-pass (x ∷ old) (y ∷ new) long same pass =
      let parts = and_parts (test y) (list_all test new) pass in
      and_from (test x) (list_all test old) (ap test (sym (same 0 x (omega arith))) ∙ parts.0)
      (same-pass old new (omega (arith, long)) (λ k d less. same (suc k) d (omega arith)) parts.1)

  -- where one element alone is another and all pass now, all others passed before
  others-passed : (old new : List A) (i : ℕ) → length new ≡ length old → ((k : ℕ) (d : A) → k ≢ i → get_or new k d ≡ get_or old k d) → list_all test new ≡ true
      → (list_all test (take i old) && list_all test (drop (suc i) old)) ≡ true
  others-passed [] new zero long same pass = refl
  others-passed [] new (suc i) long same pass = refl
  others-passed (x ∷ old) [] i long same pass = absurd (omega (arith, long))
  others-passed (x ∷ old) (y ∷ new) zero long same pass =
      let parts = and_parts (test y) (list_all test new) pass in
      same-pass old new (omega (arith, long)) (λ k d less. same (suc k) d (λ e. absurd (omega (arith, e)))) parts.1
  others-passed (x ∷ old) (y ∷ new) (suc i) long same pass =
      let parts = and_parts (test y) (list_all test new) pass in
      let later = others-passed old new i (omega (arith, long)) (λ k d apart. same (suc k) d (λ e. apart (omega (arith, e)))) parts.1 in
      let both = and_parts (list_all test (take i old)) (list_all test (drop (suc i) old)) later in
      and_from (test x && list_all test (take i old)) (list_all test (drop (suc i) old))
      (and_from (test x) (list_all test (take i old)) (ap test (sym (same 0 x (λ e. absurd (omega (arith, e))))) ∙ parts.0) both.0) both.1

  pub others-pass : (old new : List A) (i : ℕ) → length new ≡ length old → ((k : ℕ) (d : A) → k ≢ i → get_or new k d ≡ get_or old k d) → list_all test new ≡ true
      → (list_all test (take i old) && list_all test (drop (i + 1) old)) ≡ true
  others-pass old new i long same pass =
      let next : suc i ≡ i + 1 = omega arith in
      subst (λ n. (list_all test (take i old) && list_all test (drop n old)) ≡ true) next (others-passed old new i long same pass)
