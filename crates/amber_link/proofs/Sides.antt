-- Lists of senders and of receivers, of which one is changed.
use Rattle.std.proofs.Common.{◌≡◌, All, ℕ, zero, suc, ◌+◌, ◌<◌, ◌≤◌, List, [], ◌∷◌, ◌++◌, length, get_or, map, take, drop, set, Bool, true, false, ◌||◌, ◌&&◌, not, refl, sym, ap, ◌∙◌, arith}
use Rattle.std.specs.List.{list_any}
use Rattle.std.proofs.Math.Seq.{split_at}
use Rattle.std.proofs.lemmas.Bool.{and_parts, false≢true}
use Rattle.std.proofs.lemmas.List.Elements.{All-from_get_or, All-get_or, All-nil}
use Rattle.amber_rows.specs.declared.value.Value.{Value}
use Rattle.amber_rows.specs.declared.batch.Batch.{Batch}
use Rattle.amber_link.specs.Links.{GivesBatches, has_some, waiting}
use Rattle.amber_link.specs.Outgoing.{Adds, Outgoing}
use Rattle.amber_link.specs.Sides.{AreLooked, IsEnded, HandsOn, IsLooked, IsTaken, Pairwise, have_builders_ended, may_come, without_room}
use Rattle.amber_link.specs.declared.upstreams.Upstream.{Upstream}
use Rattle.amber_link.specs.declared.downstreams.Downstream.{Downstream}
use Rattle.amber_link.proofs.Carried.{carries-roomy}
use Rattle.amber_link.proofs.LinkEnds.{gives-none, gives-then}

-- ---- lists in general

-- a list with an element replaced
pub set-split : {A : Type 0} (xs : List A) (i : ℕ) (y : A) → i < length xs → set xs i y ≡ take i xs ++ y ∷ drop (suc i) xs
set-split [] i y less = absurd (omega arith)
set-split (x ∷ xs) zero y less = refl
set-split (x ∷ xs) (suc i) y less = ap (λ l. x ∷ l) (set-split xs i y (omega arith))

-- no element passes a test
pub none-any : {A : Type 0} (test : A → Bool) (xs : List A) → ((k : ℕ) (d : A) → k < length xs → test (get_or xs k d) ≡ false) → list_any test xs ≡ false
none-any test [] h = refl
none-any test (x ∷ xs) h = rw (h 0 x (omega arith)) (none-any test xs (λ k d less. h (suc k) d (omega arith)))

-- one does
pub some-any : {A : Type 0} (test : A → Bool) (xs : List A) (i : ℕ) → i < length xs → ((d : A) → test (get_or xs i d) ≡ true) → list_any test xs ≡ true
some-any test [] i less h = absurd (omega arith)
some-any test (x ∷ xs) zero less h = rw (h x) refl
some-any test (x ∷ xs) (suc i) less h = by (test x) (some-any test xs i (omega arith) h)
  where
    by : (b : Bool) → list_any test xs ≡ true → (b || list_any test xs) ≡ true
    by true e = refl
    by false e = e

pub pairwise-refl : {A : Type 0} (R : A → A → Type 0) → ((x : A) → R x x) → (xs : List A) → Pairwise R xs xs
unfolding Pairwise
pairwise-refl R same [] = tt
pairwise-refl R same (x ∷ xs) = (same x, pairwise-refl R same xs)

pub pairwise-then : {A : Type 0} (R : A → A → Type 0) → ((x y z : A) → R x y → R y z → R x z) → (xs ys zs : List A) → Pairwise R xs ys → Pairwise R ys zs → Pairwise R xs zs
unfolding Pairwise
pairwise-then R then [] [] [] h k = tt
pairwise-then R then [] [] (z ∷ zs) h k = absurd k
pairwise-then R then [] (y ∷ ys) zs h k = absurd h
pairwise-then R then (x ∷ xs) [] zs h k = absurd h
pairwise-then R then (x ∷ xs) (y ∷ ys) [] h k = absurd k
pairwise-then R then (x ∷ xs) (y ∷ ys) (z ∷ zs) h k = (then x y z h.0 k.0, pairwise-then R then xs ys zs h.1 k.1)

pub pairwise-set : {A : Type 0} (R : A → A → Type 0) → ((x : A) → R x x) → (xs : List A) (i : ℕ) (y : A) → i < length xs → ((d : A) → R (get_or xs i d) y) → Pairwise R xs (set xs i y)
unfolding Pairwise
pairwise-set R same [] i y less h = absurd (omega arith)
pairwise-set R same (x ∷ xs) zero y less h = (h x, pairwise-refl R same xs)
pairwise-set R same (x ∷ xs) (suc i) y less h = (same x, pairwise-set R same xs i y (omega arith) h)

pub pairwise-length : {A : Type 0} (R : A → A → Type 0) → (xs ys : List A) → Pairwise R xs ys → length ys ≡ length xs
unfolding Pairwise
pairwise-length R [] [] h = refl
pairwise-length R [] (y ∷ ys) h = absurd h
pairwise-length R (x ∷ xs) [] h = absurd h
pairwise-length R (x ∷ xs) (y ∷ ys) h = ap suc (pairwise-length R xs ys h.1)

-- what stands so to each other place by place
pub pairwise-each : {A : Type 0} (R : A → A → Type 0) → (xs ys : List A) → length ys ≡ length xs → ((k : ℕ) (d e : A) → k < length xs → R (get_or xs k d) (get_or ys k e)) → Pairwise R xs ys
unfolding Pairwise
pairwise-each R [] [] same h = tt
pairwise-each R [] (y ∷ ys) same h = absurd (omega (arith, same))
pairwise-each R (x ∷ xs) [] same h = absurd (omega (arith, same))
pairwise-each R (x ∷ xs) (y ∷ ys) same h = (h 0 x y (omega arith), pairwise-each R xs ys (omega (arith, same)) (λ k d e less. h (suc k) d e (omega arith)))

pub pairwise-at : {A : Type 0} (R : A → A → Type 0) → (xs ys : List A) → Pairwise R xs ys → (k : ℕ) (d e : A) → k < length xs → R (get_or xs k d) (get_or ys k e)
unfolding Pairwise
pairwise-at R [] ys h k d e less = absurd (omega arith)
pairwise-at R (x ∷ xs) [] h k d e less = absurd h
pairwise-at R (x ∷ xs) (y ∷ ys) h zero d e less = h.0
pairwise-at R (x ∷ xs) (y ∷ ys) h (suc k) d e less = pairwise-at R xs ys h.1 k d e (omega arith)

-- what holds of each of the first holds of each of the second
pub pairwise-all : {A : Type 0} (R : A → A → Type 0) (P Q : A → Type 0) → ((x y : A) → R x y → P x → Q y) → (xs ys : List A) → Pairwise R xs ys → All P xs → All Q ys
pairwise-all R P Q to xs [] h all = All-nil Q
pairwise-all R P Q to xs (y ∷ ys) h all =
    let long : length (y ∷ ys) ≡ length xs = pairwise-length R xs (y ∷ ys) h in
    All-from_get_or Q (y ∷ ys) y
    (λ k less. to (get_or xs k y) (get_or (y ∷ ys) k y) (pairwise-at R xs (y ∷ ys) h k y y (omega (arith, long, less))) (All-get_or P xs k y (omega (arith, long, less)) all))

pub pairwise-map : {A B : Type 0} (R : A → A → Type 0) (S : B → B → Type 0) (f : A → B) → ((x y : A) → R x y → S (f x) (f y)) → (xs ys : List A) → Pairwise R xs ys → Pairwise S (map f xs) (map f ys)
unfolding Pairwise
pairwise-map R S f to [] [] h = tt
pairwise-map R S f to [] (y ∷ ys) h = absurd h
pairwise-map R S f to (x ∷ xs) [] h = absurd h
pairwise-map R S f to (x ∷ xs) (y ∷ ys) h = (to x y h.0, pairwise-map R S f to xs ys h.1)

pub map-set : {A B : Type 0} (f : A → B) (xs : List A) (i : ℕ) (y : A) → map f (set xs i y) ≡ set (map f xs) i (f y)
map-set f [] i y = refl
map-set f (x ∷ xs) zero y = refl
map-set f (x ∷ xs) (suc i) y = ap (λ l. f x ∷ l) (map-set f xs i y)

pub map-at : {A B : Type 0} (f : A → B) (xs : List A) (i : ℕ) (d : A) (e : B) → i < length xs → get_or (map f xs) i e ≡ f (get_or xs i d)
map-at f [] i d e less = absurd (omega arith)
map-at f (x ∷ xs) zero d e less = refl
map-at f (x ∷ xs) (suc i) d e less = map-at f xs i d e (omega arith)

pub map-length : {A B : Type 0} (f : A → B) (xs : List A) → length (map f xs) ≡ length xs
map-length f [] = refl
map-length f (x ∷ xs) = ap suc (map-length f xs)

-- a replaced element that has the same image
pub map-set-same : {A B : Type 0} (f : A → B) (xs : List A) (i : ℕ) (y : A) → ((d : A) → f y ≡ f (get_or xs i d)) → map f (set xs i y) ≡ map f xs
map-set-same f [] i y h = refl
map-set-same f (x ∷ xs) zero y h = ap (λ z. z ∷ map f xs) (h x)
map-set-same f (x ∷ xs) (suc i) y h = ap (λ l. f x ∷ l) (map-set-same f xs i y h)

-- ---- looks

pub looked-same : (one : Upstream) → IsLooked one one
looked-same one = record { gives = gives-none one.link; only = refl }

pub looked-then : (a b c : Upstream) → IsLooked a b → IsLooked b c → IsLooked a c
looked-then a b c one two = record {
  gives = gives-then a.link b.link c.link [] [] one.gives two.gives;
  only = two.only ∙ ap (λ (s : Upstream). record s { link = c.link }) one.only;
}

-- one was looked at
pub looked-at : (first ins : List Upstream) (i : ℕ) (now : Upstream) → AreLooked first ins → i < length ins → ((d : Upstream) → IsLooked (get_or ins i d) now) → AreLooked first (set ins i now)
looked-at first ins i now before less looked =
    pairwise-then IsLooked looked-then first ins (set ins i now) before (pairwise-set IsLooked looked-same ins i now less looked)

-- ---- a batch is taken

-- a sender of whom a batch may be taken
may-parts : (built : Bool) (one : Upstream) → may_come built one ≡ true → (one.ended ≡ false) × ((one.builds || built) ≡ true) × (has_some (waiting one.link) ≡ true)
may-parts built one may =
    let both = and_parts (not one.ended && (one.builds || built)) (has_some (waiting one.link)) may in
    let first = and_parts (not one.ended) (one.builds || built) both.0 in
    (by one.ended first.0, first.1, both.1)
  where
    by : (a : Bool) → not a ≡ true → a ≡ false
    by true e = absurd (false≢true e)
    by false e = refl

pub may-wait : (built : Bool) (one : Upstream) → may_come built one ≡ true → has_some (waiting one.link) ≡ true
may-wait built one may = (may-parts built one may).2

-- the first batch of the sender at this place was taken
pub taken-there : (ins : List Upstream) (i : ℕ) (d new : Upstream) (batch : Batch) (from number : ℕ) (builds : Bool) → i < length ins
    → may_come (have_builders_ended ins) (get_or ins i d) ≡ true → from ≡ (get_or ins i d).from → number ≡ (get_or ins i d).taken → builds ≡ (get_or ins i d).builds
    → GivesBatches (get_or ins i d).link (batch ∷ []) new.link → new ≡ record (get_or ins i d) { taken = (get_or ins i d).taken + 1; ended = batch.last; link = new.link }
    → (one : Upstream) × (one.from ≡ from) × (one.taken ≡ number) × (one.builds ≡ builds) × IsTaken ins one batch (set ins i new)
taken-there ins i d new batch from number builds less may from_is number_is builds_is gives is =
    let parts = may-parts (have_builders_ended ins) (get_or ins i d) may in (
      get_or ins i d,
      sym from_is,
      sym number_is,
      sym builds_is,
      record {
        front = take i ins;
        back = drop (suc i) ins;
        now = new;
        found = split_at ins i d less;
        unended = parts.0;
        side = parts.1;
        gives = gives;
        is = is;
        after_it = set-split ins i new less;
      },
    )

-- ---- rows are handed on

unroomy : (old new : Outgoing) → new ≡ record old { room = new.room } → record new { room = 0 } ≡ record old { room = 0 }
unroomy old new is = ap (λ (o : Outgoing). record o { room = 0 }) is

-- room alone is made
pub reserved-at : (outs : List Downstream) (i : ℕ) (now : Downstream) → ((d : Downstream) → now.to ≡ (get_or outs i d).to)
    → ((d : Downstream) → now.link.ring ≡ (get_or outs i d).link.ring) → ((d : Downstream) → now.link.kept ≡ record (get_or outs i d).link.kept { room = now.link.kept.room })
    → map without_room (set outs i now) ≡ map without_room outs
reserved-at outs i now to ring kept = map-set-same without_room outs i now (λ d j. record {
  to = to d j;
  link = record { ring = ring d j; kept = unroomy (get_or outs i d).link.kept now.link.kept (kept d) j; back = tt };
})

adds-erased : (old new : Outgoing) (row : List Value) → Adds old row new → Adds (record old { room = 0 }) row (record new { room = 0 })
adds-erased old new row adds = record {
  each = λ gone pushed carries.
      carries-roomy new (record new { room = 0 }) gone (pushed ++ row ∷ []) refl (adds.each gone pushed (carries-roomy (record old { room = 0 }) old gone pushed refl carries));
  batch_size = adds.batch_size;
  ended = adds.ended;
}

-- a row was pushed at this place
pub hands-on : (outs : List Downstream) (i : ℕ) (now : Downstream) (row : List Value) → i < length outs → now.to ≡ (get_or outs i now).to
    → now.link.ring ≡ (get_or outs i now).link.ring → Adds (get_or outs i now).link.kept row now.link.kept
    → HandsOn i row (map without_room outs) (map without_room (set outs i now))
hands-on outs i now row less to ring adds =
    let there : get_or (map without_room outs) i (without_room now) ≡ without_room (get_or outs i now) = map-at without_room outs i now (without_room now) less in
    record {
      within = rw map-length less;
      now = without_room now;
      is = map-set without_room outs i now;
      to = to ∙ ap (λ (r : Downstream). r.to) (sym there);
      ring = ring ∙ ap (λ (r : Downstream). r.link.ring) (sym there);
      adds = rw there (adds-erased (get_or outs i now).link.kept now.link.kept row adds);
    }

ends-erased : (a b : Downstream) → IsEnded a b → IsEnded (without_room a) (without_room b)
ends-erased a b ends = record {
  to = ends.to;
  ring = ends.ring;
  closes = record {
    each = λ gone pushed carries.
        carries-roomy b.link.kept (record b.link.kept { room = 0 }) gone pushed refl
        (ends.closes.each gone pushed (carries-roomy (record a.link.kept { room = 0 }) a.link.kept gone pushed refl carries));
    batch_size = ends.closes.batch_size;
    ended = ends.closes.ended;
  };
}

pub all-ended : (outs after : List Downstream) → Pairwise IsEnded outs after → Pairwise IsEnded (map without_room outs) (map without_room after)
all-ended outs after ends = pairwise-map IsEnded IsEnded without_room ends-erased outs after ends

pub get_or-any : {A : Type 0} (xs : List A) (k : ℕ) (d e : A) → k < length xs → get_or xs k d ≡ get_or xs k e
get_or-any [] k d e less = absurd (omega arith)
get_or-any (x ∷ xs) zero d e less = refl
get_or-any (x ∷ xs) (suc k) d e less = get_or-any xs k d e (omega arith)

-- those so far stand so to each other, and there are no others
pub each-so_far : (R : Downstream → Downstream → Type 0) (outs after : List Downstream) (n : ℕ) → length after ≡ length outs → length outs ≤ n
    → ((k : ℕ) (d : Downstream) → k < n → R (get_or outs k d) (get_or after k d)) → Pairwise R outs after
each-so_far R outs after n same all h = pairwise-each R outs after same (λ k d e less. rw (get_or-any after k e d (omega (arith, same))) (h k d (omega arith)))
