-- Rows whose keys differ stand as their keys do.
use Rattle.std.proofs.Common.{◌≡◌, ℕ, zero, suc, ◌+◌, ◌-◌, ◌*◌, ◌^◌, ◌<◌, ◌≤◌, ℤ, pos, negsuc, Bool, true, false, cond, ltb, List, [], ◌∷◌, ◌&&◌, length, drop, get_or, refl, sym, ◌∙◌, ap, inl, inr, arith}
use Rattle.std.proofs.Math.Nat.{mul-le-mul_right, one-le-pow, pow-suc}
use Rattle.std.proofs.lemmas.Bool.{cases_order, lt-ltb, ltb-true, ltb-false}
use Rattle.std.proofs.lemmas.Cmp.{nat_cmp_total, tied_itself}
use Rattle.std.proofs.lemmas.Int.{ints}
use Rattle.std.specs.Cmp.{int_cmp_is}
use Rattle.std.specs.Cmp.Lexicographic.{slice_cmp}
use Rattle.std.specs.Prelude.{◌<ℤ◌}
use Rattle.std.specs.Ordering.{nat_cmp, ordering_then, ordering_reverse}
use Rattle.std.specs.declared.cmp.Ordering.{Ordering}
use Rattle.std.specs.declared.cmp.Ordering.TheVariants.{Equal, Less, Greater}
use Rattle.amber_rows.specs.SortKey.{cell_key, front, int_key, key_of, key_tells_number}
use Rattle.amber_rows.specs.Order.{row_cmp, value_cmp}
use Rattle.amber_rows.specs.OrderLaws.{row-total}
use Rattle.amber_rows.specs.declared.value.Value.{Value}
use Rattle.amber_rows.specs.declared.value.Value.TheVariants.{Int, Text}

-- ---- numbers

less : (a b : ℕ) → a < b → nat_cmp a b ≡ Less
less a b h = rw (lt-ltb a b h) refl

more : (a b : ℕ) → b < a → nat_cmp a b ≡ Greater
more a b h = nat_cmp_total.antisymm a b ∙ ap ordering_reverse (less b a h)

int_below : (m n : ℤ) → int_key m < int_key n → m <ℤ n
int_below (pos m) (pos n) h = omega (arith, ints)
int_below (pos m) (negsuc n) h = absurd (omega arith)
int_below (negsuc m) (pos n) h = omega (arith, ints)
int_below (negsuc m) (negsuc n) h = omega (arith, ints)

int_bound : (n : ℤ) → int_key n < 2 ^ 63
int_bound (pos n) = omega arith
int_bound (negsuc n) = omega arith

-- ---- the first bytes of a text

bound_if : (n b r : ℕ) (t : Bool) → ltb b 256 ≡ t → r < 256 ^ n → cond t (b * 256 ^ n + r) (256 ^ suc n - 1) < 256 ^ suc n
bound_if n b r true e h =
    let small : b + 1 ≤ 256 = omega (arith, ltb-true b 256 e) in
    omega (arith, pow-suc 256 n, mul-le-mul_right (256 ^ n) small)
bound_if n b r false e h = omega (arith, one-le-pow (suc n) 256 (omega arith))

front_bound : (n : ℕ) (bytes : List ℕ) → front n bytes < 256 ^ n
unfolding front
front_bound zero bytes = omega arith
front_bound (suc n) [] = omega (arith, one-le-pow (suc n) 256 (omega arith))
front_bound (suc n) (b ∷ bytes) = bound_if n b (front n bytes) (ltb b 256) refl (front_bound n bytes)

rest_less : (n b r s : ℕ) (t : Bool) → cond t (b * 256 ^ n + r) (256 ^ suc n - 1) < cond t (b * 256 ^ n + s) (256 ^ suc n - 1) → r < s
rest_less n b r s true h = omega arith
rest_less n b r s false h = absurd (omega arith)

not_more : (n a b r s : ℕ) (t u : Bool) → ltb a 256 ≡ t → ltb b 256 ≡ u → b < a → s < 256 ^ n
    → cond t (a * 256 ^ n + r) (256 ^ suc n - 1) < cond u (b * 256 ^ n + s) (256 ^ suc n - 1) → ⊥
not_more n a b r s true true d e lt bound h =
    let next : b + 1 ≤ a = omega arith in
    omega (arith, mul-le-mul_right (256 ^ n) next)
not_more n a b r s true false d e lt bound h = omega (arith, ltb-true a 256 d, ltb-false b 256 e)
not_more n a b r s false true d e lt bound h =
    let small : b + 1 ≤ 256 = omega (arith, ltb-true b 256 e) in
    omega (arith, pow-suc 256 n, mul-le-mul_right (256 ^ n) small)
not_more n a b r s false false d e lt bound h = omega arith

then_same : (a b : ℕ) (o : Ordering) → a ≡ b → ordering_then (nat_cmp a b) o ≡ o
then_same a b o e = rw (e, tied_itself nat_cmp_total b) refl

front_less : (n : ℕ) (xs ys : List ℕ) → front n xs < front n ys → slice_cmp nat_cmp xs ys ≡ Less
unfolding front
front_less zero xs ys h = absurd (omega arith)
front_less (suc n) xs [] h = absurd (omega arith)
front_less (suc n) [] (b ∷ ys) h = refl
front_less (suc n) (a ∷ xs) (b ∷ ys) h =
    elim (cases_order a b) [
      | inl same ↦
          then_same a b (slice_cmp nat_cmp xs ys) same
          ∙ front_less n xs ys (rest_less n b (front n xs) (front n ys) (ltb b 256) (rw same at h))
      | inr unlike ↦
          elim unlike [
            | inl lt ↦ ap (λ o. ordering_then o (slice_cmp nat_cmp xs ys)) (less a b lt)
            | inr gt ↦ absurd (not_more n a b (front n xs) (front n ys) (ltb a 256) (ltb b 256) refl refl gt (front_bound n ys) h)
          ]
    ]

front_none : (n : ℕ) → front n [] ≡ 0
unfolding front
front_none zero = refl
front_none (suc n) = refl

front_step : (n i : ℕ) (bytes : List ℕ) → get_or bytes i 0 < 256 → front (suc n) (drop i bytes) ≡ get_or bytes i 0 * 256 ^ n + front n (drop (suc i) bytes)
unfolding front
front_step n zero [] h = omega (arith, front_none n)
front_step n (suc i) [] h = omega (arith, front_none n)
front_step n zero (b ∷ bytes) h = rw (lt-ltb b 256 h) refl
front_step n (suc i) (b ∷ bytes) h = front_step n i bytes h

pub front_seven : (bytes : List ℕ) (b0 b1 b2 b3 b4 b5 b6 : ℕ)
    → b0 ≡ get_or bytes 0 0 → b1 ≡ get_or bytes 1 0 → b2 ≡ get_or bytes 2 0 → b3 ≡ get_or bytes 3 0
    → b4 ≡ get_or bytes 4 0 → b5 ≡ get_or bytes 5 0 → b6 ≡ get_or bytes 6 0
    → b0 < 256 → b1 < 256 → b2 < 256 → b3 < 256 → b4 < 256 → b5 < 256 → b6 < 256
    → (((((b0 * 256 + b1) * 256 + b2) * 256 + b3) * 256 + b4) * 256 + b5) * 256 + b6 ≡ front 7 bytes
unfolding front
front_seven bytes b0 b1 b2 b3 b4 b5 b6 e0 e1 e2 e3 e4 e5 e6 s0 s1 s2 s3 s4 s5 s6 =
    let f0 : front 7 (drop 0 bytes) ≡ b0 * 256 ^ 6 + front 6 (drop 1 bytes) = rw e0 (front_step 6 0 bytes (omega arith)) in
    let f1 : front 6 (drop 1 bytes) ≡ b1 * 256 ^ 5 + front 5 (drop 2 bytes) = rw e1 (front_step 5 1 bytes (omega arith)) in
    let f2 : front 5 (drop 2 bytes) ≡ b2 * 256 ^ 4 + front 4 (drop 3 bytes) = rw e2 (front_step 4 2 bytes (omega arith)) in
    let f3 : front 4 (drop 3 bytes) ≡ b3 * 256 ^ 3 + front 3 (drop 4 bytes) = rw e3 (front_step 3 3 bytes (omega arith)) in
    let f4 : front 3 (drop 4 bytes) ≡ b4 * 256 ^ 2 + front 2 (drop 5 bytes) = rw e4 (front_step 2 4 bytes (omega arith)) in
    let f5 : front 2 (drop 5 bytes) ≡ b5 * 256 ^ 1 + front 1 (drop 6 bytes) = rw e5 (front_step 1 5 bytes (omega arith)) in
    let f6 : front 1 (drop 6 bytes) ≡ b6 * 256 ^ 0 + front 0 (drop 7 bytes) = rw e6 (front_step 0 6 bytes (omega arith)) in
    omega arith

-- ---- cells and rows

value_less : (x y : Value) → cell_key x < cell_key y → value_cmp x y ≡ Less
value_less (Int m) (Int n) h = sym (int_cmp_is m n Less (int_below m n h))
value_less (Int m) (Text t) h = refl
value_less (Text s) (Int n) h = absurd (omega (arith, int_bound n))
value_less (Text s) (Text t) h = front_less 7 s t (omega arith)

row_less : (xs ys : List Value) → key_of xs < key_of ys → row_cmp xs ys ≡ Less
unfolding key_of
row_less xs [] h = absurd (omega arith)
row_less [] (y ∷ ys) h = refl
row_less (x ∷ xs) (y ∷ ys) h = ap (λ o. ordering_then o (row_cmp xs ys)) (value_less x y h)

-- rows whose keys differ stand as the keys do
pub row_by_key : (xs ys : List Value) (a b : ℕ) → a ≡ key_of xs → b ≡ key_of ys → (a ≡ b → ⊥) → nat_cmp a b ≡ row_cmp xs ys
row_by_key xs ys a b p q ne =
    elim (cases_order a b) [
      | inl same ↦ absurd (ne same)
      | inr unlike ↦
          elim unlike [
            | inl lt ↦ less a b lt ∙ sym (row_less xs ys (omega arith))
            | inr gt ↦ more a b gt ∙ sym (row-total.antisymm xs ys ∙ ap ordering_reverse (row_less ys xs (omega arith)))
          ]
    ]

-- ---- rows of one number

int_same : (m n : ℤ) → int_key m ≡ int_key n → 0 < int_key m → int_key m < 2 ^ 63 - 1 → m ≡ n
int_same (pos m) (pos n) e a b = ap pos (omega arith)
int_same (pos m) (negsuc n) e a b = absurd (omega arith)
int_same (negsuc m) (pos n) e a b = absurd (omega arith)
int_same (negsuc m) (negsuc n) e a b = ap negsuc (omega arith)

both_true : (a b : Bool) → a && b ≡ true → (a ≡ true) × (b ≡ true)
both_true true true e = (refl, refl)
both_true true false e = absurd (cc)
both_true false b e = absurd (cc)

value_same : (x y : Value) → cell_key x ≡ cell_key y → 0 < cell_key x → cell_key x < 2 ^ 63 - 1 → x ≡ y
value_same (Int m) (Int n) e a b = ap Int (int_same m n e a b)
value_same (Int m) (Text t) e a b = absurd (omega (arith, e, b))
value_same (Text s) y e a b = absurd (omega (arith, b))

one_same : (xs ys : List Value) → key_of xs ≡ key_of ys → 0 < key_of xs → key_of xs < 2 ^ 63 - 1 → length xs ≡ 1 → length ys ≡ 1 → xs ≡ ys
unfolding key_of
one_same [] ys e a b p q = absurd (omega arith)
one_same (x ∷ y ∷ xs) ys e a b p q = absurd (omega arith)
one_same (x ∷ []) [] e a b p q = absurd (omega arith)
one_same (x ∷ []) (y ∷ z ∷ ys) e a b p q = absurd (omega arith)
one_same (x ∷ []) (y ∷ []) e a b p q = ap (λ v. v ∷ []) (value_same x y e a b)

-- rows of one cell with a key that one number alone has are that number
pub one_number : (xs ys : List Value) (a b : ℕ) → a ≡ key_of xs → b ≡ key_of ys → a ≡ b → key_tells_number a ≡ true → length xs ≡ 1 → length ys ≡ 1 → row_cmp xs ys ≡ Equal
one_number xs ys a b p q same tells m n =
    let both = both_true (ltb 0 a) (ltb a (2 ^ 63 - 1)) tells in
    let some : 0 < key_of xs = omega (arith, p, ltb-true 0 a both.0) in
    let few : key_of xs < 2 ^ 63 - 1 = omega (arith, p, ltb-true a (2 ^ 63 - 1) both.1) in
    let e = one_same xs ys (sym p ∙ same ∙ q) some few m n in
    rw e (tied_itself row-total ys)
