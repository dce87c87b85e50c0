-- Copies of a value, made one after the other, and taken one after the other from the end.
use Rattle.std.proofs.Common.{◌≡◌, ap, ◌∙◌, ℕ, ◌+◌, ◌-◌, ◌<◌, List, [], ◌∷◌, ◌++◌, length, replicate, take, get_or, Some, unwrap_or, arith}
use Rattle.std.proofs.lemmas.List.{get_or-replicate, length-replicate, replicate-append-replicate, take-replicate}

-- one copy more
pub copies-more : {A : Type 0} (n : ℕ) (value one : A) (old new : List A) → old ≡ replicate n value → one ≡ value → new ≡ old ++ one ∷ [] → new ≡ replicate (n + 1) value
copies-more n value one old new are same is =
    is ∙ ap (λ xs. xs ++ one ∷ []) are ∙ ap (λ x. replicate n value ++ x ∷ []) same ∙ replicate-append-replicate n 1 value

module _ {A : Type 0} (n many : ℕ) (value : A) (old : List A) (are : old ≡ replicate n value) (count : many ≡ length old) where
  all : many ≡ n
  all = count ∙ ap length are ∙ length-replicate n value

  pub has-one : 0 < n → 0 < many
  has-one some = omega (arith, all, some)

  -- the last one
  pub last-copy : (d : A) → 0 < n → get_or old (many - 1) d ≡ value
  last-copy d some = ap (λ xs. get_or xs (many - 1) d) are ∙ get_or-replicate n (many - 1) value d (omega (arith, all, some))

  pub copy-is : (copy : A) → 0 < n → Some copy ≡ Some (get_or old (many - 1) copy) → copy ≡ value
  copy-is copy some last = ap (λ found. unwrap_or found copy) last ∙ last-copy copy some

  -- the others
  pub copies-left : (new : List A) → new ≡ take (many - 1) old → new ≡ replicate (n - 1) value
  copies-left new rest = rest ∙ ap (λ m. take (m - 1) old) all ∙ ap (take (n - 1)) are ∙ take-replicate (n - 1) n value (omega arith)
