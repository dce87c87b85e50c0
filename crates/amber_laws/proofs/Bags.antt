-- Lists with the same elements in any order, and lists of part of another's elements.
use Rattle.std.proofs.Common.{◌≡◌, ℕ, suc, ◌≤◌, ◌&&◌, ◌||◌, not, cond, eqb, Bool, true, false, Option, Some, None, List, [], ◌∷◌, ◌++◌, length, map, filter, append_assoc, refl, sym, ◌∙◌, ap, arith, ◌⊎◌, inl, inr}
use Rattle.std.specs.List.{cons_option, filter_map, flat_map, list_all, list_any, sum_by}
use Rattle.std.proofs.lemmas.Bool.{and_parts, eqb-false, eqb-true, false≢true, ne_eqb, not-true, or_cases, or_parts}
use Rattle.std.proofs.lemmas.Grind.{flat_map-append}
use Rattle.std.proofs.lemmas.List.{append-nil, length-append, map-append}
use Rattle.std.proofs.lemmas.List.Elements.{filter-append, filter_map-append}
use Rattle.std.proofs.lemmas.List.Sums.{sum_by-cons}
use Rattle.amber_rows.proofs.Sorting.{sort-bag}
use Rattle.amber_rows.specs.Order.{sort_rows, times}
use Rattle.amber_rows.specs.declared.value.Value.{Value}
use Rattle.amber_meaning.proofs.Numbers.{among, among-first, among-more, are_different}

-- the same elements, each as often, in any order
pub data Same {X : Type 0} : List X → List X → Type 0 where
  Empty : Same [] []
  Keep : (x : X) (xs ys : List X) → Same xs ys → Same (x ∷ xs) (x ∷ ys)
  Turn : (x y : X) (xs : List X) → Same (x ∷ y ∷ xs) (y ∷ x ∷ xs)
  Join : (xs ys zs : List X) → Same xs ys → Same ys zs → Same xs zs

-- the elements of xs are among those of ys, each as often at least
pub record Part {X : Type 0} (xs ys : List X) : Type 0 where
  pub more : List X
  pub same : Same (xs ++ more) ys

-- ---- the relation

pub same-self : {X : Type 0} (xs : List X) → Same xs xs
same-self [] = Empty
same-self (x ∷ xs) = Keep x xs xs (same-self xs)

pub same-is : {X : Type 0} (xs ys : List X) → xs ≡ ys → Same xs ys
same-is xs ys e = rw e (same-self ys)

pub same-turned : {X : Type 0} {xs ys : List X} → Same xs ys → Same ys xs
same-turned Empty = Empty
same-turned (Keep x xs ys h) = Keep x ys xs (same-turned h)
same-turned (Turn x y xs) = Turn y x xs
same-turned (Join xs ys zs h k) = Join zs ys xs (same-turned k) (same-turned h)

-- ---- one list after the other

pub same-left : {X : Type 0} (zs : List X) {xs ys : List X} → Same xs ys → Same (zs ++ xs) (zs ++ ys)
same-left [] h = h
same-left (z ∷ zs) {xs} {ys} h = Keep z (zs ++ xs) (zs ++ ys) (same-left zs h)

pub same-right : {X : Type 0} (zs : List X) {xs ys : List X} → Same xs ys → Same (xs ++ zs) (ys ++ zs)
same-right zs Empty = same-self zs
same-right zs (Keep x xs ys h) = Keep x (xs ++ zs) (ys ++ zs) (same-right zs h)
same-right zs (Turn x y xs) = Turn x y (xs ++ zs)
same-right zs (Join xs ys us h k) = Join (xs ++ zs) (ys ++ zs) (us ++ zs) (same-right zs h) (same-right zs k)

pub same-both : {X : Type 0} {xs ys us vs : List X} → Same xs ys → Same us vs → Same (xs ++ us) (ys ++ vs)
same-both {xs = xs} {ys = ys} {us = us} {vs = vs} h k = Join (xs ++ us) (ys ++ us) (ys ++ vs) (same-right us h) (same-left ys k)

-- an element of the second list put before the first
pub same-front : {X : Type 0} (xs : List X) (y : X) (ys : List X) → Same (xs ++ y ∷ ys) (y ∷ xs ++ ys)
same-front [] y ys = same-self (y ∷ ys)
same-front (x ∷ xs) y ys =
    Join (x ∷ xs ++ y ∷ ys) (x ∷ y ∷ xs ++ ys) (y ∷ x ∷ xs ++ ys) (Keep x (xs ++ y ∷ ys) (y ∷ xs ++ ys) (same-front xs y ys)) (Turn x y (xs ++ ys))

pub same-swap : {X : Type 0} (xs ys : List X) → Same (xs ++ ys) (ys ++ xs)
same-swap [] ys = same-is ys (ys ++ []) (sym (append-nil ys))
same-swap (x ∷ xs) ys =
    Join (x ∷ xs ++ ys) (x ∷ ys ++ xs) (ys ++ x ∷ xs) (Keep x (xs ++ ys) (ys ++ xs) (same-swap xs ys)) (same-turned (same-front ys x xs))

-- two lists in the middle change places
pub same-middle : {X : Type 0} (ws xs ys zs : List X) → Same ((ws ++ xs) ++ (ys ++ zs)) ((ws ++ ys) ++ (xs ++ zs))
same-middle ws xs ys zs =
    let inner : Same (xs ++ (ys ++ zs)) (ys ++ (xs ++ zs)) =
    rw (← append_assoc xs ys zs, ← append_assoc ys xs zs) (same-right zs (same-swap xs ys)) in
    rw (append_assoc ws xs (ys ++ zs), append_assoc ws ys (xs ++ zs)) (same-left ws inner)

-- ---- maps and filters

pub same-map : {X Y : Type 0} (f : X → Y) {xs ys : List X} → Same xs ys → Same (map f xs) (map f ys)
same-map f Empty = Empty
same-map f (Keep x xs ys h) = Keep (f x) (map f xs) (map f ys) (same-map f h)
same-map f (Turn x y xs) = Turn (f x) (f y) (map f xs)
same-map f (Join xs ys zs h k) = Join (map f xs) (map f ys) (map f zs) (same-map f h) (same-map f k)

keep_if : {X : Type 0} (b : Bool) (x : X) {xs ys : List X} → Same xs ys → Same (cond b (x ∷ xs) xs) (cond b (x ∷ ys) ys)
keep_if true x {xs} {ys} h = Keep x xs ys h
keep_if false x h = h

turn_if : {X : Type 0} (a b : Bool) (x y : X) (xs : List X)
    → Same (cond a (x ∷ cond b (y ∷ xs) xs) (cond b (y ∷ xs) xs)) (cond b (y ∷ cond a (x ∷ xs) xs) (cond a (x ∷ xs) xs))
turn_if true true x y xs = Turn x y xs
turn_if true false x y xs = same-self (x ∷ xs)
turn_if false true x y xs = same-self (y ∷ xs)
turn_if false false x y xs = same-self xs

pub same-filter : {X : Type 0} (test : X → Bool) {xs ys : List X} → Same xs ys → Same (filter test xs) (filter test ys)
same-filter test Empty = Empty
same-filter test (Keep x xs ys h) = keep_if (test x) x (same-filter test h)
same-filter test (Turn x y xs) = turn_if (test x) (test y) x y (filter test xs)
same-filter test (Join xs ys zs h k) = Join (filter test xs) (filter test ys) (filter test zs) (same-filter test h) (same-filter test k)

pub same-flat_map : {X Y : Type 0} (f : X → List Y) {xs ys : List X} → Same xs ys → Same (flat_map f xs) (flat_map f ys)
same-flat_map f Empty = Empty
same-flat_map f (Keep x xs ys h) = same-left (f x) (same-flat_map f h)
same-flat_map f (Turn x y xs) =
    rw (← append_assoc (f x) (f y) (flat_map f xs), ← append_assoc (f y) (f x) (flat_map f xs)) (same-right (flat_map f xs) (same-swap (f x) (f y)))
same-flat_map f (Join xs ys zs h k) = Join (flat_map f xs) (flat_map f ys) (flat_map f zs) (same-flat_map f h) (same-flat_map f k)

option_keep : {X : Type 0} (o : Option X) {xs ys : List X} → Same xs ys → Same (cons_option o xs) (cons_option o ys)
option_keep None h = h
option_keep (Some x) {xs} {ys} h = Keep x xs ys h

option_turn : {X : Type 0} (o p : Option X) (xs : List X) → Same (cons_option o (cons_option p xs)) (cons_option p (cons_option o xs))
option_turn None p xs = same-self (cons_option p xs)
option_turn (Some x) None xs = same-self (x ∷ xs)
option_turn (Some x) (Some y) xs = Turn x y xs

pub same-filter_map : {X Y : Type 0} (f : X → Option Y) {xs ys : List X} → Same xs ys → Same (filter_map f xs) (filter_map f ys)
same-filter_map f Empty = Empty
same-filter_map f (Keep x xs ys h) = option_keep (f x) (same-filter_map f h)
same-filter_map f (Turn x y xs) = option_turn (f x) (f y) (filter_map f xs)
same-filter_map f (Join xs ys zs h k) = Join (filter_map f xs) (filter_map f ys) (filter_map f zs) (same-filter_map f h) (same-filter_map f k)

-- ---- another list in place of each element's

pub same-each : {X Y : Type 0} (f g : X → List Y) → ((x : X) → Same (f x) (g x)) → (xs : List X) → Same (flat_map f xs) (flat_map g xs)
same-each f g h [] = Empty
same-each f g h (x ∷ xs) = same-both (h x) (same-each f g h xs)

pub same-beside : {X Y : Type 0} (f g : X → List Y) (xs : List X) → Same (flat_map (λ x. f x ++ g x) xs) (flat_map f xs ++ flat_map g xs)
same-beside f g [] = Empty
same-beside f g (x ∷ xs) =
    Join ((f x ++ g x) ++ flat_map (λ y. f y ++ g y) xs) ((f x ++ g x) ++ (flat_map f xs ++ flat_map g xs)) ((f x ++ flat_map f xs) ++ (g x ++ flat_map g xs))
    (same-left (f x ++ g x) (same-beside f g xs)) (same-middle (f x) (g x) (flat_map f xs) (flat_map g xs))

-- ---- what stays: lengths, sums, tests of each element

pub same-length : {X : Type 0} {xs ys : List X} → Same xs ys → length xs ≡ length ys
same-length Empty = refl
same-length (Keep x xs ys h) = ap suc (same-length h)
same-length (Turn x y xs) = refl
same-length (Join xs ys zs h k) = same-length h ∙ same-length k

pub same-sum : {X : Type 0} (f : X → ℕ) {xs ys : List X} → Same xs ys → sum_by f xs ≡ sum_by f ys
same-sum f Empty = refl
same-sum f (Keep x xs ys h) = omega (arith, sum_by-cons f x xs, sum_by-cons f x ys, same-sum f h)
same-sum f (Turn x y xs) = omega (arith, sum_by-cons f x (y ∷ xs), sum_by-cons f y xs, sum_by-cons f y (x ∷ xs), sum_by-cons f x xs)
same-sum f (Join xs ys zs h k) = same-sum f h ∙ same-sum f k

all_turn : (a b c : Bool) → (a && (b && c)) ≡ (b && (a && c))
all_turn true b c = refl
all_turn false true c = refl
all_turn false false c = refl

pub same-all : {X : Type 0} (test : X → Bool) {xs ys : List X} → Same xs ys → list_all test xs ≡ list_all test ys
same-all test Empty = refl
same-all test (Keep x xs ys h) = ap (λ b. test x && b) (same-all test h)
same-all test (Turn x y xs) = all_turn (test x) (test y) (list_all test xs)
same-all test (Join xs ys zs h k) = same-all test h ∙ same-all test k

any_turn : (a b c : Bool) → (a || (b || c)) ≡ (b || (a || c))
any_turn true true c = refl
any_turn true false c = refl
any_turn false b c = refl

pub same-any : {X : Type 0} (test : X → Bool) {xs ys : List X} → Same xs ys → list_any test xs ≡ list_any test ys
same-any test Empty = refl
same-any test (Keep x xs ys h) = ap (λ b. test x || b) (same-any test h)
same-any test (Turn x y xs) = any_turn (test x) (test y) (list_any test xs)
same-any test (Join xs ys zs h k) = same-any test h ∙ same-any test k

-- ---- numbers in a list

-- pointwise for the members alone
pub same-among : {Y : Type 0} (f g : ℕ → List Y) (ns : List ℕ) → ((n : ℕ) → among n ns ≡ true → Same (f n) (g n)) → Same (flat_map f ns) (flat_map g ns)
same-among f g [] h = Empty
same-among f g (n ∷ ns) h = same-both (h n (among-first n ns)) (same-among f g ns (λ m k. h m (among-more m n ns k)))

pub equal-among : {Y : Type 0} (f g : ℕ → List Y) (ns : List ℕ) → ((n : ℕ) → among n ns ≡ true → f n ≡ g n) → flat_map f ns ≡ flat_map g ns
equal-among f g [] h = refl
equal-among f g (n ∷ ns) h =
    let first : f n ≡ g n = h n (among-first n ns) in
    let rest : flat_map f ns ≡ flat_map g ns = equal-among f g ns (λ m k. h m (among-more m n ns k)) in
    rw (first, rest) refl

-- ---- elements dealt out by a number that each has

-- the elements with this number
abbrev pub sent_to : {X : Type 0} → (X → ℕ) → List X → ℕ → List X
sent_to f xs n = filter (λ x. eqb (f x) n) xs

dealt_no : {X : Type 0} (f : X → ℕ) (x : X) (xs : List X) (ns : List ℕ) → among (f x) ns ≡ false
    → flat_map (sent_to f (x ∷ xs)) ns ≡ flat_map (sent_to f xs) ns
dealt_no f x xs [] e = refl
dealt_no f x xs (n ∷ ns) e =
    let parts = or_parts (eqb n (f x)) (among (f x) ns) e in
    let other : eqb (f x) n ≡ false = ne_eqb (f x) n (λ s. eqb-false n (f x) parts.0 (sym s)) in
    rw other (ap (λ l. sent_to f xs n ++ l) (dealt_no f x xs ns parts.1))

dealt_one : {X : Type 0} (f : X → ℕ) (x : X) (xs : List X) (ns : List ℕ) → are_different ns ≡ true → among (f x) ns ≡ true
    → Same (flat_map (sent_to f (x ∷ xs)) ns) (x ∷ flat_map (sent_to f xs) ns)
dealt_one f x xs [] d e = absurd (false≢true e)
dealt_one f x xs (n ∷ ns) d e = by (eqb (f x) n) refl (λ later. dealt_one f x xs ns parts.1 later)
  where
    parts : (not (among n ns) ≡ true) × (are_different ns ≡ true)
    parts = and_parts (not (among n ns)) (are_different ns) d

    by : (b : Bool) → eqb (f x) n ≡ b → (among (f x) ns ≡ true → Same (flat_map (sent_to f (x ∷ xs)) ns) (x ∷ flat_map (sent_to f xs) ns))
        → Same (cond b (x ∷ sent_to f xs n) (sent_to f xs n) ++ flat_map (sent_to f (x ∷ xs)) ns) (x ∷ sent_to f xs n ++ flat_map (sent_to f xs) ns)
    by true s rest =
        let none : among (f x) ns ≡ false = rw (eqb-true (f x) n s) (not-true (among n ns) parts.0) in
        rw (dealt_no f x xs ns none) (same-self (x ∷ sent_to f xs n ++ flat_map (sent_to f xs) ns))
    by false s rest =
        let other : eqb n (f x) ≡ false = ne_eqb n (f x) (λ t. eqb-false (f x) n s (sym t)) in
        let later : among (f x) ns ≡ true = rw other at e in
        Join (sent_to f xs n ++ flat_map (sent_to f (x ∷ xs)) ns) (sent_to f xs n ++ x ∷ flat_map (sent_to f xs) ns) (x ∷ sent_to f xs n ++ flat_map (sent_to f xs) ns)
        (same-left (sent_to f xs n) (rest later)) (same-front (sent_to f xs n) x (flat_map (sent_to f xs) ns))

nothing_dealt : {X : Type 0} (f : X → ℕ) (ns : List ℕ) → flat_map (sent_to f []) ns ≡ []
nothing_dealt f [] = refl
nothing_dealt f (n ∷ ns) = nothing_dealt f ns

-- elements dealt out to different numbers, each to one of them, are all of them
pub same-dealt : {X : Type 0} (f : X → ℕ) (ns : List ℕ) → are_different ns ≡ true → (xs : List X) → list_all (λ x. among (f x) ns) xs ≡ true
    → Same (flat_map (sent_to f xs) ns) xs
same-dealt f ns d [] h = same-is (flat_map (sent_to f []) ns) [] (nothing_dealt f ns)
same-dealt f ns d (x ∷ xs) h =
    let parts = and_parts (among (f x) ns) (list_all (λ y. among (f y) ns) xs) h in
    Join (flat_map (sent_to f (x ∷ xs)) ns) (x ∷ flat_map (sent_to f xs) ns) (x ∷ xs)
    (dealt_one f x xs ns d parts.0) (Keep x (flat_map (sent_to f xs) ns) xs (same-dealt f ns d xs parts.1))

-- ---- parts

pub part-self : {X : Type 0} (xs : List X) → Part xs xs
part-self xs = record { more = []; same = same-is (xs ++ []) xs (append-nil xs) }

pub part-same : {X : Type 0} {xs ys : List X} → Same xs ys → Part xs ys
part-same {xs = xs} {ys = ys} h = record { more = []; same = Join (xs ++ []) xs ys (same-is (xs ++ []) xs (append-nil xs)) h }

pub part-none : {X : Type 0} (xs : List X) → Part [] xs
part-none xs = record { more = xs; same = same-self xs }

-- the first elements of a list
pub part-begin : {X : Type 0} (xs more : List X) → Part xs (xs ++ more)
part-begin xs more = record { more = more; same = same-self (xs ++ more) }

pub part-then : {X : Type 0} {xs ys zs : List X} → Part xs ys → Part ys zs → Part xs zs
part-then {xs = xs} {ys = ys} {zs = zs} h k =
    record { more = h.more ++ k.more; same = rw (← append_assoc xs h.more k.more) (Join ((xs ++ h.more) ++ k.more) (ys ++ k.more) zs (same-right k.more h.same) k.same) }

pub part-both : {X : Type 0} {xs ys us vs : List X} → Part xs ys → Part us vs → Part (xs ++ us) (ys ++ vs)
part-both {xs = xs} {ys = ys} {us = us} {vs = vs} h k =
    record { more = h.more ++ k.more; same = Join ((xs ++ us) ++ (h.more ++ k.more)) ((xs ++ h.more) ++ (us ++ k.more)) (ys ++ vs) (same-middle xs us h.more k.more) (same-both h.same k.same) }

pub part-map : {X Y : Type 0} (f : X → Y) {xs ys : List X} → Part xs ys → Part (map f xs) (map f ys)
part-map f {xs} {ys} h = record { more = map f h.more; same = rw (← map-append f xs h.more) (same-map f h.same) }

pub part-filter : {X : Type 0} (test : X → Bool) {xs ys : List X} → Part xs ys → Part (filter test xs) (filter test ys)
part-filter test {xs} {ys} h = record { more = filter test h.more; same = rw (← filter-append test xs h.more) (same-filter test h.same) }

pub part-flat_map : {X Y : Type 0} (f : X → List Y) {xs ys : List X} → Part xs ys → Part (flat_map f xs) (flat_map f ys)
part-flat_map f {xs} {ys} h = record { more = flat_map f h.more; same = rw (← flat_map-append f xs h.more) (same-flat_map f h.same) }

pub part-filter_map : {X Y : Type 0} (f : X → Option Y) {xs ys : List X} → Part xs ys → Part (filter_map f xs) (filter_map f ys)
part-filter_map f {xs} {ys} h = record { more = filter_map f h.more; same = rw (← filter_map-append f xs h.more) (same-filter_map f h.same) }

pub part-each : {X Y : Type 0} (f g : X → List Y) → ((x : X) → Part (f x) (g x)) → (xs : List X) → Part (flat_map f xs) (flat_map g xs)
part-each f g h [] = part-self []
part-each f g h (x ∷ xs) = part-both (h x) (part-each f g h xs)

pub part-among : {Y : Type 0} (f g : ℕ → List Y) (ns : List ℕ) → ((n : ℕ) → among n ns ≡ true → Part (f n) (g n)) → Part (flat_map f ns) (flat_map g ns)
part-among f g [] h = part-self []
part-among f g (n ∷ ns) h = part-both (h n (among-first n ns)) (part-among f g ns (λ m k. h m (among-more m n ns k)))

pub part-length : {X : Type 0} {xs ys : List X} → Part xs ys → length xs ≤ length ys
part-length {xs = xs} {ys = ys} h = omega (arith, same-length h.same, length-append xs h.more)

-- a part as long as the whole is the whole
pub part-whole : {X : Type 0} {xs ys : List X} → Part xs ys → length xs ≡ length ys → Same xs ys
part-whole {xs = xs} {ys = ys} h e = by h.more refl
  where
    by : (more : List _) → h.more ≡ more → Same xs ys
    by [] n = Join xs (xs ++ h.more) ys (same-is xs (xs ++ h.more) (rw n (sym (append-nil xs)))) h.same
    by (m ∷ more) n = absurd (omega (arith, same-length h.same, length-append xs h.more, ap length n))

-- ---- sums

-- sums of parts that are none greater
pub sum-most : (f g : ℕ → ℕ) (ns : List ℕ) → ((n : ℕ) → among n ns ≡ true → f n ≤ g n) → sum_by f ns ≤ sum_by g ns
sum-most f g [] h = omega arith
sum-most f g (n ∷ ns) h =
    let rest = sum-most f g ns (λ m k. h m (among-more m n ns k)) in
    omega (arith, sum_by-cons f n ns, sum_by-cons g n ns, h n (among-first n ns), rest)

pub sum-equal : (f g : ℕ → ℕ) (ns : List ℕ) → ((n : ℕ) → among n ns ≡ true → f n ≡ g n) → sum_by f ns ≡ sum_by g ns
sum-equal f g [] h = refl
sum-equal f g (n ∷ ns) h =
    let rest = sum-equal f g ns (λ m k. h m (among-more m n ns k)) in
    omega (arith, sum_by-cons f n ns, sum_by-cons g n ns, h n (among-first n ns), rest)

-- where such sums are equal, so are the parts
pub sum-whole : (f g : ℕ → ℕ) (ns : List ℕ) → ((n : ℕ) → among n ns ≡ true → f n ≤ g n) → sum_by f ns ≡ sum_by g ns
    → (n : ℕ) → among n ns ≡ true → f n ≡ g n
sum-whole f g [] h e n k = absurd (false≢true k)
sum-whole f g (m ∷ ns) h e n k = by (or_cases (eqb m n) (among n ns) k) (λ s there. sum-whole f g ns (λ o l. h o (among-more o m ns l)) s n there)
  where
    least : f m ≤ g m
    least = h m (among-first m ns)

    rest : sum_by f ns ≤ sum_by g ns
    rest = sum-most f g ns (λ o l. h o (among-more o m ns l))

    by : (eqb m n ≡ true) ⊎ (among n ns ≡ true) → (sum_by f ns ≡ sum_by g ns → among n ns ≡ true → f n ≡ g n) → f n ≡ g n
    by (inl here) more = rw (← eqb-true m n here) (omega (arith, least, rest, e, sum_by-cons f m ns, sum_by-cons g m ns))
    by (inr there) more = more (omega (arith, least, rest, e, sum_by-cons f m ns, sum_by-cons g m ns)) there

-- ---- rows

pub same_times : (row : List Value) {xs ys : List (List Value)} → Same xs ys → times row xs ≡ times row ys
unfolding times
same_times row Empty = refl
same_times row (Keep x xs ys h) = omega (arith, same_times row h)
same_times row (Turn x y xs) = omega arith
same_times row (Join xs ys zs h k) = same_times row h ∙ same_times row k

-- the same rows are equal lists once they are sorted
pub same-sorted : {xs ys : List (List Value)} → Same xs ys → sort_rows xs ≡ sort_rows ys
same-sorted {xs = xs} {ys = ys} h = sort-bag xs ys (λ row. same_times row h)
