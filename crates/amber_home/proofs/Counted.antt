-- What a count has counted while workers go on: of each the rows that were gone stay gone, and those that it emits are counted.
use Rattle.std.proofs.Common.{◌≡◌, ℕ, ◌+◌, ◌-◌, ◌≤◌, eqb, List, [], ◌∷◌, ◌++◌, length, length-append, map, drop, Option, Some, None, Bool, true, false, if◌then◌else◌, refl, sym, ap, ◌∙◌, arith}
use Rattle.std.proofs.Math.Seq.{drop-append_seam}
use Rattle.std.proofs.lemmas.Bool.{eq-eqb, eqb-true}
use Rattle.std.proofs.lemmas.List.{append-nil, drop-append-le}
use Rattle.std.proofs.lemmas.List.Sums.{sum_by-append, sum_by-cons}
use Rattle.amber_rows.specs.Lists.{IsPrefix}
use Rattle.amber_log.specs.declared.effect.Arming.{Arming}
use Rattle.amber_log.specs.declared.effect.Change.{Change}
use Rattle.amber_log.specs.declared.effect.Change.TheVariants as change
use Rattle.amber_meaning.specs.Position.{Position, emitted_count, is_emitted}
use Rattle.amber_meaning.specs.State.{Arms, Counting, arms_changed, counted_by, counting_from, emitted_since, put, put_constant}
use Rattle.amber_home.specs.Asked.{AreGone, Asked, IsAskedOf, IsCountOf, IsTargetOf, asked_changed, counting_since, emitted_of}
use Rattle.amber_boards.specs.declared.target.Target.{Target}

-- ---- one worker

-- of outcomes after others the emitted are both together
emitted-append : (xs ys : List Bool) → emitted_count (xs ++ ys) ≡ emitted_count xs + emitted_count ys
emitted-append xs ys = sum_by-append (λ outcome. if is_emitted outcome then 1 else 0) xs ys

-- the rows that it emitted since, as more are gone
since-later : (base : ℕ) (p q : Position) → base ≤ length p.outcomes → IsPrefix p.outcomes q.outcomes
    → emitted_since base q + emitted_count p.outcomes ≡ emitted_since base p + emitted_count q.outcomes
since-later base p q gone on =
    let all : emitted_count q.outcomes ≡ emitted_count p.outcomes + emitted_count on.0 = ap emitted_count (sym on.1) ∙ emitted-append p.outcomes on.0 in
    let since : emitted_since base q ≡ emitted_since base p + emitted_count on.0 =
    ap (λ outcomes. emitted_count (drop base outcomes)) (sym on.1) ∙ ap emitted_count (drop-append-le base p.outcomes on.0 gone) ∙ emitted-append (drop base p.outcomes) on.0 in
    omega arith

-- no fewer rows are gone
gone-more : (p q : Position) → IsPrefix p.outcomes q.outcomes → length p.outcomes ≤ length q.outcomes
gone-more p q on = let all = ap length (sym on.1) ∙ length-append p.outcomes on.0 in omega arith

-- ---- the workers of an operator

-- of each of them the rows that were gone are still gone
abbrev pub AreLater : List Position → List Position → Type 0
AreLater [] [] = Unit {0}
AreLater [] (q ∷ qs) = ⊥
AreLater (p ∷ ps) [] = ⊥
AreLater (p ∷ ps) (q ∷ qs) = IsPrefix p.outcomes q.outcomes × AreLater ps qs

-- the first worker's rows and those of the others
emitted-first : (p : Position) (ps : List Position) → emitted_of (p ∷ ps) ≡ emitted_count p.outcomes + emitted_of ps
emitted-first p ps = sum_by-cons (λ (p : Position). emitted_count p.outcomes) p ps

-- what is counted grows as what is emitted
counted-later : (bases : List ℕ) (ps qs : List Position) → AreGone bases ps → AreLater ps qs → counted_by bases qs + emitted_of ps ≡ counted_by bases ps + emitted_of qs
unfolding counted_by
counted-later [] [] [] gone later = refl
counted-later [] [] (q ∷ qs) gone later = absurd later
counted-later [] (p ∷ ps) qs gone later = absurd gone
counted-later (base ∷ bases) [] qs gone later = absurd gone
counted-later (base ∷ bases) (p ∷ ps) [] gone later = absurd later
counted-later (base ∷ bases) (p ∷ ps) (q ∷ qs) gone later =
    let one = since-later base p q gone.0 later.0 in
    let rest = counted-later bases ps qs gone.1 later.1 in
    let was = emitted-first p ps in
    let is = emitted-first q qs in
    omega arith

-- what was gone when a count was armed still is
gone-later : (bases : List ℕ) (ps qs : List Position) → AreGone bases ps → AreLater ps qs → AreGone bases qs
gone-later [] [] [] gone later = tt
gone-later [] [] (q ∷ qs) gone later = later
gone-later [] (p ∷ ps) qs gone later = absurd gone
gone-later (base ∷ bases) [] qs gone later = absurd gone
gone-later (base ∷ bases) (p ∷ ps) [] gone later = later
gone-later (base ∷ bases) (p ∷ ps) (q ∷ qs) gone later =
    let few = gone.0 in
    let more = gone-more p q later.0 in
    (omega arith, gone-later bases ps qs gone.1 later.1)

-- an armed count stays one of the definitions
target-later : (ps qs : List Position) (kept : Target) (counting : Counting) → AreLater ps qs → IsTargetOf ps kept counting → IsTargetOf qs kept counting
target-later ps qs kept counting later is = record {
  target = is.target;
  counted =
      let grows = counted-later counting.base ps qs is.gone later in
      let was = is.counted in
      omega arith;
  gone = gone-later counting.base ps qs is.gone later;
}

-- so where one may be armed
count-later : (ps qs : List Position) (kept : Option Target) (count : Option Counting) → AreLater ps qs → IsCountOf ps kept count → IsCountOf qs kept count
count-later ps qs None None later is = tt
count-later ps qs None (Some counting) later is = absurd is
count-later ps qs (Some kept) None later is = absurd is
count-later ps qs (Some kept) (Some counting) later is = target-later ps qs kept counting later is

-- what is in force stays so
pub asked-later : (ps qs : List Position) (asked : Asked) (arms : Arms) → AreLater ps qs → IsAskedOf ps asked arms → IsAskedOf qs asked arms
asked-later ps qs asked arms later is = record {
  pause = is.pause;
  count = count-later ps qs asked.count arms.count later is.count;
  when = is.when;
  constants = is.constants;
}

-- tests that are true together are the same
same-bool : (a b : Bool) → (a ≡ true → b ≡ true) → (b ≡ true → a ≡ true) → a ≡ b
same-bool true b there back = sym (there refl)
same-bool false true there back = back refl
same-bool false false there back = refl

-- it stands where the definitions say
pub reached-test : (crew : List Position) (kept : Target) (counting : Counting) → IsTargetOf crew kept counting
    → eqb (emitted_of crew) (kept.target + kept.since) ≡ eqb (counted_by counting.base crew) counting.target
reached-test crew kept counting is =
    let target = is.target in
    let rows = is.counted in
    same-bool (eqb (emitted_of crew) (kept.target + kept.since)) (eqb (counted_by counting.base crew) counting.target)
    (λ e. let same = eqb-true (emitted_of crew) (kept.target + kept.since) e in eq-eqb (counted_by counting.base crew) counting.target (omega arith))
    (λ e. let same = eqb-true (counted_by counting.base crew) counting.target e in eq-eqb (emitted_of crew) (kept.target + kept.since) (omega arith))

-- and it has counted so many rows
pub counted-rows : (crew : List Position) (kept : Target) (counting : Counting) → IsTargetOf crew kept counting
    → counted_by counting.base crew ≡ emitted_of crew - kept.since
counted-rows crew kept counting is = let rows = is.counted in omega arith

-- where the definitions have no count, none is kept
pub count-none : (crew : List Position) (kept : Option Target) (count : Option Counting) → IsCountOf crew kept count → count ≡ None → kept ≡ None
count-none crew None count is none = refl
count-none crew (Some kept) None is none = absurd is
count-none crew (Some kept) (Some counting) is none = cc

-- ---- a count that is armed

-- how many rows of each are gone
gone-of : List Position → List ℕ
gone-of crew = map (λ p. length p.outcomes) crew

-- nothing is counted yet
counted-none : (crew : List Position) → counted_by (gone-of crew) crew ≡ 0
unfolding counted_by gone-of
counted-none [] = refl
counted-none (p ∷ crew) =
    let none : drop (length p.outcomes) p.outcomes ≡ [] = ap (drop (length p.outcomes)) (sym (append-nil p.outcomes)) ∙ drop-append_seam p.outcomes [] in
    rw (none, counted-none crew) refl

-- and these are gone
gone-now : (crew : List Position) → AreGone (gone-of crew) crew
unfolding gone-of
gone-now [] = tt
gone-now (p ∷ crew) = (omega arith, gone-now crew)

-- what a command changes of a count
count-changed : (crew : List Position) (change : Change ℕ) (kept : Option Target) (count : Option Counting) → IsCountOf crew kept count
    → IsCountOf crew (put (counting_since (emitted_of crew) change) kept) (put (counting_from (map (λ p. length p.outcomes) crew) change) count)
unfolding gone-of
count-changed crew change.Keep kept count is = is
count-changed crew change.TakeBack kept count is = tt
count-changed crew (change.Put n) kept count is = record { target = refl; counted = let none = counted-none crew in omega arith; gone = gone-now crew }

-- what a command changes at an operator
pub asked-changed : (crew : List Position) (arming : Arming) (asked : Asked) (arms : Arms) → IsAskedOf crew asked arms
    → IsAskedOf crew (asked_changed arming (emitted_of crew) asked) (arms_changed arming (map (λ p. length p.outcomes) crew) arms)
asked-changed crew arming asked arms is = record {
  pause = ap (put arming.pause) is.pause;
  count = count-changed crew arming.count asked.count arms.count is.count;
  when = ap (put arming.when) is.when;
  constants = ap (put_constant arming.constant) is.constants;
}
