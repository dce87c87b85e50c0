-- Lists of JSON values, and lists in which each element must give something.
use Rattle.std.proofs.Common.{◌≡◌, ℕ, zero, suc, ◌+◌, ◌<◌, ◌≤◌, ◌&&◌, ◌||◌, not, ltb, List, [], ◌∷◌, ◌++◌, length, map, get_or, take, drop, Option, Some, None, is_some, option_map, Bool, true, false, cond, refl, sym, ap, ◌∙◌, append_assoc, append-nil, subst, drop-cons, arith}
use Rattle.std.proofs.lemmas.Bool.Decides.{nat_tests}
use Rattle.std.proofs.lemmas.List.{drop_all, map-append, take_all, take_more}
use Rattle.std.proofs.lemmas.List.Elements.{filter_map-append}
use Rattle.std.specs.List.{cons_option, filter_map, list_all, list_any, position, position_or_len}
use Rattle.serde_json.specs.View.{items_view, view}
use Rattle.serde_json.specs.declared.value.Value.{Value}
use Rattle.amber_rows.specs.Chain.{each}
use Rattle.amber_flow.specs.Fields.{values_of}

pub values-view : (trees : List Value) → values_of (items_view trees) ≡ map view trees
values-view [] = refl
values-view (tree ∷ trees) = ap (λ more. view tree ∷ more) (values-view trees)

pub values-found : {T : Type 0} (items : T → List Value) (found : Option T) → option_map (λ list. map view (items list)) found ≡ option_map values_of (option_map (λ list. items_view (items list)) found)
values-found items None = refl
values-found items (Some list) = ap Some (sym (values-view (items list)))

-- ---- each element gives something

-- these before the others, or nothing
abbrev pub each_after : {B : Type 0} → List B → Option (List B) → Option (List B)
each_after done None = None
each_after done (Some more) = Some (done ++ more)

after-first : {B : Type 0} (done more : List B) (y : B) (all : Bool) → each_after done (cond all (Some (y ∷ more)) None) ≡ each_after (done ++ y ∷ []) (cond all (Some more) None)
after-first done more y true = ap Some (sym (append_assoc done (y ∷ []) more))
after-first done more y false = refl

-- the elements are read by `g`
pub each-more : {Z A B : Type 0} (f : A → Option B) (g : Z → A) (xs : List Z) (i : ℕ) (x : Z) (done : List B) (y : B) → i < length xs → x ≡ get_or xs i x → Some y ≡ f (g x)
    → each_after done (each f (map g (drop i xs))) ≡ each_after (done ++ y ∷ []) (each f (map g (drop (i + 1) xs)))
each-more f g xs i x done y h is gives =
    let next : i + 1 ≡ suc i = omega arith in
    rw (next, drop-cons xs i x, ← is, ← gives) (after-first done (filter_map f (map g (drop (suc i) xs))) y (list_all (λ x. is_some (f x)) (map g (drop (suc i) xs))))

pub each-stop : {Z A B : Type 0} (f : A → Option B) (g : Z → A) (xs : List Z) (i : ℕ) (x : Z) (done : List B) → i < length xs → x ≡ get_or xs i x → None ≡ f (g x)
    → each_after done (each f (map g (drop i xs))) ≡ None
each-stop f g xs i x done h is gives = rw (drop-cons xs i x, ← is, ← gives)

pub each-end : {Z A B : Type 0} (f : A → Option B) (g : Z → A) (xs : List Z) (i : ℕ) (done : List B) → length xs ≤ i → each_after done (each f (map g (drop i xs))) ≡ Some done
each-end f g xs i done h = rw (drop_all i xs h, append-nil done)

-- nothing before the others
pub each-start : {B : Type 0} (all : Option (List B)) → all ≡ each_after [] all
each-start None = refl
each-start (Some all) = refl

-- each element gives the one that stands beside it
abbrev pub Gives : {A B : Type 0} → (A → Option B) → List A → List B → Type 0
Gives f [] [] = Unit {0}
Gives f [] (y ∷ ys) = ⊥
Gives f (x ∷ xs) [] = ⊥
Gives f (x ∷ xs) (y ∷ ys) = (f x ≡ Some y) × Gives f xs ys

gives_first : {A B : Type 0} (f : A → Option B) (x : A) (xs : List A) (ys : List B) (all : Bool) (o : Option B) → f x ≡ o → (is_some o && all) ≡ true → (all ≡ true → Gives f xs ys) → Gives f (x ∷ xs) (cons_option o ys)
gives_first f x xs ys all None is some rest = absurd (cc)
gives_first f x xs ys all (Some y) is some rest = (is, rest some)

pub gives_all : {A B : Type 0} (f : A → Option B) (xs : List A) → list_all (λ x. is_some (f x)) xs ≡ true → Gives f xs (filter_map f xs)
gives_all f [] all = tt
gives_all f (x ∷ xs) all = gives_first f x xs (filter_map f xs) (list_all (λ x. is_some (f x)) xs) (f x) refl all (λ h. gives_all f xs h)

gives_when : {A B : Type 0} (f : A → Option B) (xs : List A) (ys : List B) (all : Bool) → list_all (λ x. is_some (f x)) xs ≡ all → cond all (Some (filter_map f xs)) None ≡ Some ys → Gives f xs ys
gives_when {B = B} f xs ys true all is =
    let same : filter_map f xs ≡ ys = cc in
    subst (λ (zs : List B). Gives f xs zs) same (gives_all f xs all)
gives_when f xs ys false all is = absurd (cc)

pub each-gives : {A B : Type 0} (f : A → Option B) (xs : List A) (ys : List B) → each f xs ≡ Some ys → Gives f xs ys
each-gives f xs ys is = gives_when f xs ys (list_all (λ x. is_some (f x)) xs) refl is

-- ---- the elements that give something

-- one element more; the elements are read by `g`
pub kept-more : {Z A B : Type 0} (f : A → Option B) (g : Z → A) (xs : List Z) (i : ℕ) (x : Z) (old new : List B) → i < length xs → x ≡ get_or xs i x → old ≡ filter_map f (map g (take i xs)) → new ≡ old ++ filter_map f (g x ∷ [])
    → new ≡ filter_map f (map g (take (i + 1) xs))
kept-more f g xs i x old new h is o n =
    let next : take (i + 1) xs ≡ take i xs ++ x ∷ [] = take_more xs i x h ∙ ap (λ y. take i xs ++ y ∷ []) (sym is) in
    rw (next, map-append, filter_map-append, ← o) n

pub kept-end : {Z A B : Type 0} (f : A → Option B) (g : Z → A) (xs : List Z) (i : ℕ) (all : List B) → length xs ≤ i → all ≡ filter_map f (map g (take i xs)) → all ≡ filter_map f (map g xs)
kept-end f g xs i all h is = is ∙ ap (λ xs. filter_map f (map g xs)) (take_all i xs h)

-- the same after what stood before
pub kept-after : {Z A B : Type 0} (f : A → Option B) (g : Z → A) (xs : List Z) (i : ℕ) (x : Z) (start old new : List B) → i < length xs → x ≡ get_or xs i x → old ≡ start ++ filter_map f (map g (take i xs)) → new ≡ old ++ filter_map f (g x ∷ [])
    → new ≡ start ++ filter_map f (map g (take (i + 1) xs))
kept-after f g xs i x start old new h is o n =
    let all = kept-more f g xs i x (filter_map f (map g (take i xs))) (filter_map f (map g (take i xs)) ++ filter_map f (g x ∷ [])) h is refl refl in
    n ∙ ap (λ ys. ys ++ filter_map f (g x ∷ [])) o ∙ append_assoc start (filter_map f (map g (take i xs))) (filter_map f (g x ∷ [])) ∙ ap (λ ys. start ++ ys) all

pub kept-after_end : {Z A B : Type 0} (f : A → Option B) (g : Z → A) (xs : List Z) (i : ℕ) (start all : List B) → length xs ≤ i → all ≡ start ++ filter_map f (map g (take i xs)) → all ≡ start ++ filter_map f (map g xs)
kept-after_end f g xs i start all h is = is ∙ ap (λ xs. start ++ filter_map f (map g xs)) (take_all i xs h)

-- as many as there are elements
pub gives-length : {A B : Type 0} (f : A → Option B) (xs : List A) (ys : List B) → Gives f xs ys → length ys ≡ length xs
gives-length f [] [] given = refl
gives-length f [] (y ∷ ys) given = absurd given
gives-length f (x ∷ xs) [] given = absurd given
gives-length f (x ∷ xs) (y ∷ ys) given = ap suc (gives-length f xs ys given.1)

-- ---- two tests that are met

pub and-true : (a b : Bool) → (a && b) ≡ true → (a ≡ true) × (b ≡ true)
and-true true b both = (refl, both)
and-true false b both = absurd (cc)

-- ---- a first place

-- a place is found where an element passes
pub place-any : {A : Type 0} (p : A → Bool) (xs : List A) → is_some (position p xs) ≡ list_any p xs
place-any {A = A} p xs = there (ltb (position_or_len p xs) (length xs)) (position_or_len p xs) ∙ within xs
  where
    there : (inside : Bool) (place : ℕ) → is_some (cond inside (Some place) None) ≡ inside
    there true place = refl
    there false place = refl

    one : (here : Bool) (place count : ℕ) (rest : Bool) → ltb place count ≡ rest → ltb (cond (not here) (1 + place) 0) (suc count) ≡ (here || rest)
    one true place count rest is =
        let some : ltb 0 (suc count) ≡ true = grind (arith, nat_tests) in
        some
    one false place count rest is =
        let next : ltb (1 + place) (suc count) ≡ ltb place count = grind (arith, nat_tests) in
        next ∙ is

    within : (xs : List A) → ltb (position_or_len p xs) (length xs) ≡ list_any p xs
    within [] = refl
    within (x ∷ xs) = one (p x) (position_or_len p xs) (length xs) (list_any p xs) (within xs)

-- the one that stands beside the element at a place
pub gives-at : {A B : Type 0} (f : A → Option B) (xs : List A) (ys : List B) (i : ℕ) (d : A) (e : B) → Gives f xs ys → i < length xs → f (get_or xs i d) ≡ Some (get_or ys i e)
gives-at f [] [] i d e given h = absurd (omega (arith, h))
gives-at f [] (y ∷ ys) i d e given h = absurd given
gives-at f (x ∷ xs) [] i d e given h = absurd given
gives-at f (x ∷ xs) (y ∷ ys) zero d e given h = given.0
gives-at f (x ∷ xs) (y ∷ ys) (suc i) d e given h = gives-at f xs ys i d e given.1 (omega (arith, h))
