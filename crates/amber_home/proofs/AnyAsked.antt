-- Whether something is in force at some operator.
use Rattle.std.proofs.Common.{◌≡◌, refl, ap, ◌∙◌, ℕ, zero, suc, ◌+◌, List, [], ◌∷◌, get_or, Bool, true, false, Option, None, Some, inl, inr, is_some, arith}
use Rattle.std.specs.List.{list_any}
use Rattle.std.proofs.lemmas.Bool.{cases_Bool, false≢true}
use Rattle.amber_meaning.proofs.Lists.{numbered_or}
use Rattle.amber_home.specs.Asked.{Asked, asked_at, no_asked}

-- an option that is there, and one that is not
pub some-of : {A : Type 0} (found : Option A) → is_some found ≡ true → (one : A) × (found ≡ Some one)
some-of None is = absurd (false≢true is)
some-of (Some one) is = (one, refl)

pub none-of : {A : Type 0} (found : Option A) → is_some found ≡ false → found ≡ None
none-of None is = refl
none-of (Some one) is = absurd (cc is)

module _ (test : Asked → Bool) where
  none-there : (asked : List Asked) (place : ℕ) → list_any test asked ≡ false → test no_asked ≡ false → test (get_or asked place no_asked) ≡ false
  none-there [] place none free = free
  none-there (one ∷ more) zero none free = elim (cases_Bool (test one)) [
    | inl t ↦ absurd (cc (rw t at none))
    | inr f ↦ f
  ]
  none-there (one ∷ more) (suc place) none free = elim (cases_Bool (test one)) [
    | inl t ↦ absurd (cc (rw t at none))
    | inr f ↦ none-there more place (rw f at none) free
  ]

  some-there : (asked : List Asked) → list_any test asked ≡ true → (place : ℕ) × (test (get_or asked place no_asked) ≡ true)
  some-there [] is = absurd (false≢true is)
  some-there (one ∷ more) is = elim (cases_Bool (test one)) [
    | inl t ↦ (0, t)
    | inr f ↦ let later = some-there more (rw f at is) in (suc later.0, later.1)
  ]

  -- none passes the test, where what is in force without an operator does not
  pub none-asked : (asked : List Asked) → list_any test asked ≡ false → test no_asked ≡ false → (op : ℕ) → test (asked_at asked op) ≡ false
  none-asked asked none free zero = free
  none-asked asked none free (suc place) =
      let op : suc place ≡ place + 1 = omega arith in
      rw op (ap test (numbered_or asked place no_asked) ∙ none-there asked place none free)

  -- one passes it
  pub some-asked : (asked : List Asked) → list_any test asked ≡ true → (op : ℕ) × (test (asked_at asked op) ≡ true)
  some-asked asked is = let found = some-there asked is in (found.0 + 1, ap test (numbered_or asked found.0 no_asked) ∙ found.1)
