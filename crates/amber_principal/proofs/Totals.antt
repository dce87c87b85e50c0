-- The shares add up to what is divided.
use Rattle.std.proofs.Common.{◌≡◌, ℕ, zero, suc, ◌+◌, ◌*◌, ◌/◌, ◌%◌, ◌<◌, ◌≤◌, Bool, true, false, cond, List, [], ◌∷◌, ◌++◌, length, replicate, take, drop, count_by, refl, ap, sym, ◌∙◌, arith, append_assoc, add-zero}
use Rattle.std.specs.Prelude.{All, sum, nat_lt, if◌then◌else◌}
use Rattle.std.specs.List.{list_any}
use Rattle.std.proofs.lemmas.Bool.{false≢true, ltb-true, ltb-false, ne_eqb}
use Rattle.std.proofs.lemmas.List.{append-nil, length-append}
use Rattle.std.proofs.lemmas.List.Sums.{sum_by-append, sum_by-cons}
use Rattle.std.proofs.Math.Nat.{div-add-mod, mod-lt, mul_comm, mul-add}
use Rattle.std.proofs.Math.Seq.{take-append_seam}
use Rattle.amber_principal.specs.Shares.{even_share, is_able, is_in_need, unit_if, share_at, sharer_count, shares_from, shares_of}
use Rattle.amber_principal.specs.declared.dividing.Need.{Need}
use Rattle.amber_principal.specs.declared.dividing.Need.TheVariants as need

abbrev nought : ℕ
nought = 0

-- how many of the first n get one of r units more
unfoldable least : ℕ → ℕ → ℕ
least r n = if nat_lt n r then n else r

least-more : (r n : ℕ) → least r (n + 1) ≡ least r n + unit_if (nat_lt n r)
unfolding least
least-more r n = by (nat_lt n r) (nat_lt (n + 1) r) refl refl
  where
    by : (a b : Bool) → nat_lt n r ≡ a → nat_lt (n + 1) r ≡ b → (if nat_lt (n + 1) r then n + 1 else r) ≡ (if nat_lt n r then n else r) + unit_if (nat_lt n r)
    by true true here next = rw (here, next) refl
    by true false here next =
        let most : r ≤ n + 1 = ltb-false (n + 1) r next in
        let less : n < r = ltb-true n r here in
        rw (here, next) (omega (arith, most, less))
    by false true here next =
        let most : r ≤ n = ltb-false n r here in
        let less : n + 1 < r = ltb-true (n + 1) r next in
        omega (arith, most, less)
    by false false here next = rw (here, next) (omega arith)

least-all : (r n : ℕ) → r < n → least r n ≡ r
unfolding least
least-all r n less = by (nat_lt n r) refl
  where
    by : (a : Bool) → nat_lt n r ≡ a → (if nat_lt n r then n else r) ≡ r
    by true here = omega (arith, ltb-true n r here, less)
    by false here = rw here refl

least-none : (r : ℕ) → least r 0 ≡ 0
unfolding least
least-none r = by (nat_lt 0 r) refl
  where
    by : (a : Bool) → nat_lt 0 r ≡ a → (if nat_lt 0 r then 0 else r) ≡ 0
    by true here = rw here refl
    by false here = rw here (omega (arith, ltb-false 0 r here))

count-cons : (p : Need → Bool) (x : Need) (xs : List Need) → count_by p (x ∷ xs) ≡ unit_if (p x) + count_by p xs
count-cons p x xs = sum_by-cons (λ y. cond (p y) 1 0) x xs ∙ ap (λ n. n + count_by p xs) (by (p x))
  where
    by : (b : Bool) → cond b 1 0 ≡ unit_if b
    by true = refl
    by false = refl

count-push : (p : Need → Bool) (xs : List Need) (x : Need) → count_by p (xs ++ x ∷ []) ≡ count_by p xs + unit_if (p x)
count-push p xs x =
    let one : count_by p (x ∷ []) ≡ unit_if (p x) + count_by p [] = count-cons p x [] in
    sum_by-append (λ y. cond (p y) 1 0) xs (x ∷ []) ∙ ap (λ n. count_by p xs + n) (one ∙ omega arith)

length-push : (xs : List Need) (x : Need) → length (xs ++ x ∷ []) ≡ length xs + 1
length-push xs x = length-append xs (x ∷ []) ∙ ap (λ n. length xs + n) refl

-- the shares of the later workers, where these came before: each its even part, and what is left over in turn
record Divided (left each later : ℕ) (all done xs : List Need) : Type 0 where
  whole : later + least left (count_by is_in_need done) + least left (count_by is_in_need all + count_by is_able done)
      ≡ each * sharer_count xs + least left (count_by is_in_need all) + least left (sharer_count all)

-- a worker that shares or not: what the shares after it add up to, with it and without
record Turn (left each share : ℕ) (all done : List Need) (x : Need) : Type 0 where
  one : share + least left (count_by is_in_need done) + least left (count_by is_in_need all + count_by is_able done)
      ≡ each * (unit_if (is_in_need x) + unit_if (is_able x)) + least left (count_by is_in_need (done ++ x ∷ [])) + least left (count_by is_in_need all + count_by is_able (done ++ x ∷ []))

even-is : (rest sharers before : ℕ) → 0 < sharers → even_share rest sharers before ≡ rest / sharers + unit_if (nat_lt before (rest % sharers))
even-is rest sharers before some = rw (ne_eqb sharers 0 (λ e. omega (arith, some, e))) refl

-- a worker that does not share
none-more : (f : ℕ → ℕ) (each s a S n m : ℕ) → n ≡ s + 0 → m ≡ a + 0 → 0 + f s + f (S + a) ≡ each * (0 + 0) + f n + f (S + m)
none-more f each s a S n m is_s is_a =
    let same_s : n ≡ s = omega (arith, is_s) in
    let same_a : m ≡ a = omega (arith, is_a) in
    rw (same_s, same_a) (omega arith)

-- a worker that is starved, and one that is able
starved-more : (r each s a S n m share : ℕ) → share ≡ each + unit_if (nat_lt s r) → n ≡ s + 1 → m ≡ a + 0
    → share + least r s + least r (S + a) ≡ each * (1 + 0) + least r n + least r (S + m)
starved-more r each s a S n m share is is_s is_a =
    let same_a : m ≡ a = omega (arith, is_a) in
    rw (same_a, is_s, least-more r s, is) (omega arith)

able-more : (r each s a S n m share : ℕ) → share ≡ each + unit_if (nat_lt (S + a) r) → n ≡ s + 0 → m ≡ a + 1
    → share + least r s + least r (S + a) ≡ each * (0 + 1) + least r n + least r (S + m)
able-more r each s a S n m share is is_s is_a =
    let same_s : n ≡ s = omega (arith, is_s) in
    let more : S + m ≡ S + a + 1 = omega (arith, is_a) in
    rw (same_s, more, least-more r (S + a), is) (omega arith)

taken : (all done xs : List Need) → all ≡ done ++ xs → take (length done) all ≡ done
taken all done xs is = ap (take (length done)) is ∙ take-append_seam done xs

counts-before : (rest : ℕ) (all done xs : List Need) (x : Need) → all ≡ done ++ x ∷ xs → 0 < sharer_count all
    → Turn (rest % sharer_count all) (rest / sharer_count all) (share_at rest all (length done) x) all done x
counts-before rest all done xs need.Absent is some = record {
  one = none-more (least (rest % sharer_count all)) (rest / sharer_count all) (count_by is_in_need done) (count_by is_able done) (count_by is_in_need all)
      (count_by is_in_need (done ++ need.Absent ∷ [])) (count_by is_able (done ++ need.Absent ∷ []))
      (count-push is_in_need done need.Absent) (count-push is_able done need.Absent);
}
counts-before rest all done xs need.Finished is some = record {
  one = none-more (least (rest % sharer_count all)) (rest / sharer_count all) (count_by is_in_need done) (count_by is_able done) (count_by is_in_need all)
      (count_by is_in_need (done ++ need.Finished ∷ [])) (count_by is_able (done ++ need.Finished ∷ []))
      (count-push is_in_need done need.Finished) (count-push is_able done need.Finished);
}
counts-before rest all done xs need.Starved is some = record {
  one = starved-more (rest % sharer_count all) (rest / sharer_count all) (count_by is_in_need done) (count_by is_able done) (count_by is_in_need all)
      (count_by is_in_need (done ++ need.Starved ∷ [])) (count_by is_able (done ++ need.Starved ∷ []))
      (share_at rest all (length done) need.Starved)
      (even-is rest (sharer_count all) (count_by is_in_need (take (length done) all)) some
      ∙ ap (λ before. rest / sharer_count all + unit_if (nat_lt (count_by is_in_need before) (rest % sharer_count all))) (taken all done (need.Starved ∷ xs) is))
      (count-push is_in_need done need.Starved) (count-push is_able done need.Starved);
}
counts-before rest all done xs need.Able is some = record {
  one = able-more (rest % sharer_count all) (rest / sharer_count all) (count_by is_in_need done) (count_by is_able done) (count_by is_in_need all)
      (count_by is_in_need (done ++ need.Able ∷ [])) (count_by is_able (done ++ need.Able ∷ []))
      (share_at rest all (length done) need.Able)
      (even-is rest (sharer_count all) (count_by is_in_need all + count_by is_able (take (length done) all)) some
      ∙ ap (λ before. rest / sharer_count all + unit_if (nat_lt (count_by is_in_need all + count_by is_able before) (rest % sharer_count all))) (taken all done (need.Able ∷ xs) is))
      (count-push is_in_need done need.Able) (count-push is_able done need.Able);
}

sharers-cons : (x : Need) (xs : List Need) → sharer_count (x ∷ xs) ≡ (unit_if (is_in_need x) + unit_if (is_able x)) + sharer_count xs
sharers-cons x xs = omega (arith, count-cons is_in_need x xs, count-cons is_able x xs)

later-shares : (rest : ℕ) (all : List Need) → 0 < sharer_count all → (done xs : List Need) → all ≡ done ++ xs
    → Divided (rest % sharer_count all) (rest / sharer_count all) (sum (shares_from rest all (length done) xs)) all done xs
unfolding shares_from
later-shares rest all some done [] is =
    let whole : done ≡ all = sym (append-nil done) ∙ sym is in
    record { whole = rw whole (omega arith) }
later-shares rest all some done (x ∷ xs) is =
    let r = rest % sharer_count all in
    let each = rest / sharer_count all in
    let now_ : all ≡ (done ++ x ∷ []) ++ xs = is ∙ sym (append_assoc done (x ∷ []) xs) in
    let later = later-shares rest all some (done ++ x ∷ []) xs now_ in
    let turn = counts-before rest all done xs x is some in
    let place : shares_from rest all (length (done ++ x ∷ [])) xs ≡ shares_from rest all (length done + 1) xs = ap (λ n. shares_from rest all n xs) (length-push done x) in
    let sums : sum (shares_from rest all (length done) (x ∷ xs)) ≡ share_at rest all (length done) x + sum (shares_from rest all (length done + 1) xs) =
    sum_by-cons (λ n. n) (share_at rest all (length done) x) (shares_from rest all (length done + 1) xs) in
    record {
      whole = together each (sharer_count xs) (unit_if (is_in_need x) + unit_if (is_able x)) (sharer_count (x ∷ xs)) _ _ _ _ _ _ _ _ _ _
          (sharers-cons x xs) sums (ap sum (sym place)) turn.one later.whole;
    }
  where
    together : (each n m k share later more all_ a b c d e f : ℕ) → k ≡ m + n → all_ ≡ share + later → later ≡ more → share + a + b ≡ each * m + c + d → more + c + d ≡ each * n + e + f
        → all_ + a + b ≡ each * k + e + f
    together each n m k share later more all_ a b c d e f is sums same one rest_ =
        let parts : each * k ≡ each * m + each * n = ap (λ j. each * j) is ∙ mul-add each m n in
        omega (arith, sums, same, one, rest_, parts)

-- where anyone shares, the shares add up to what is divided
pub shares-total : (rest : ℕ) (needs : List Need) → 0 < sharer_count needs → sum (shares_of rest needs) ≡ rest
shares-total rest needs some =
    let whole = (later-shares rest needs some [] needs refl).whole in
    let last : least (rest % sharer_count needs) (sharer_count needs) ≡ rest % sharer_count needs = least-all (rest % sharer_count needs) (sharer_count needs) (mod-lt rest some) in
    let none : least (rest % sharer_count needs) 0 ≡ 0 = least-none (rest % sharer_count needs) in
    let none_able : count_by is_in_need needs + 0 ≡ count_by is_in_need needs = omega arith in
    let divided : sharer_count needs * (rest / sharer_count needs) + rest % sharer_count needs ≡ rest = div-add-mod rest (sharer_count needs) in
    let turned : rest / sharer_count needs * sharer_count needs ≡ sharer_count needs * (rest / sharer_count needs) = mul_comm (rest / sharer_count needs) (sharer_count needs) in
    omega (arith, whole, last, none, ap (least (rest % sharer_count needs)) none_able, divided, turned)

-- where nobody shares nobody has a share
pub shares-none : (rest : ℕ) (all : List Need) (place : ℕ) (xs : List Need) → sharer_count all ≡ 0 → shares_from rest all place xs ≡ replicate (length xs) nought
unfolding shares_from
shares-none rest all place [] none = refl
shares-none rest all place (x ∷ xs) none =
    ap (λ share. share ∷ shares_from rest all (place + 1) xs) (zero_share x) ∙ ap (λ more. nought ∷ more) (shares-none rest all (place + 1) xs none)
  where
    zero_share : (one : Need) → share_at rest all place one ≡ nought
    zero_share need.Absent = refl
    zero_share need.Finished = refl
    zero_share need.Starved = rw none refl
    zero_share need.Able = rw none refl

-- the shares from a place on are those of the workers from there on
pub shares-behind : (rest : ℕ) (all : List Need) (place n : ℕ) (xs : List Need) → drop n (shares_from rest all place xs) ≡ shares_from rest all (place + n) (drop n xs)
unfolding shares_from
shares-behind rest all place zero xs = ap (λ p. shares_from rest all p xs) (sym (add-zero place))
shares-behind rest all place (suc n) [] = refl
shares-behind rest all place (suc n) (x ∷ xs) =
    let next : place + 1 + n ≡ place + suc n = omega arith in
    shares-behind rest all (place + 1) n xs ∙ ap (λ p. shares_from rest all p (drop n xs)) next

-- where no worker is there nobody has a share
pub absent-none : (rest : ℕ) (all : List Need) (place : ℕ) (xs : List Need) → All (λ one. one ≡ need.Absent) xs → sum (shares_from rest all place xs) ≡ 0
unfolding shares_from
absent-none rest all place [] absent = refl
absent-none rest all place (x ∷ xs) absent =
    let here : x ≡ need.Absent = absent 0 need.Absent (omega arith) in
    let share : share_at rest all place x ≡ 0 = ap (share_at rest all place) here in
    let later : sum (shares_from rest all (place + 1) xs) ≡ 0 = absent-none rest all (place + 1) xs (λ k d less. absent (suc k) d (omega (arith, less))) in
    sum_by-cons (λ n. n) (share_at rest all place x) (shares_from rest all (place + 1) xs) ∙ omega (arith, share, later)

starved-counted : (xs : List Need) → list_any is_in_need xs ≡ true → 0 < count_by is_in_need xs
starved-counted [] any = absurd (false≢true any)
starved-counted (x ∷ xs) any = by (is_in_need x) refl (starved-counted xs)
  where
    by : (b : Bool) → is_in_need x ≡ b → (list_any is_in_need xs ≡ true → 0 < count_by is_in_need xs) → 0 < count_by is_in_need (x ∷ xs)
    by true is later = omega (arith, count-cons is_in_need x xs, ap unit_if is)
    by false is later =
        let behind : list_any is_in_need xs ≡ true = rw is at any in
        omega (arith, count-cons is_in_need x xs, ap unit_if is, later behind)

-- where anyone is starved somebody shares
pub starved-shares : (needs : List Need) → list_any is_in_need needs ≡ true → 0 < sharer_count needs
starved-shares needs any = omega (arith, starved-counted needs any)
