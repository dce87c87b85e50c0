-- Lists of operators that grow at the end, and walks along them.
use Rattle.std.proofs.Common.{◌≡◌, ℕ, zero, suc, ◌+◌, ◌<◌, ◌==◌, ◌&&◌, ◌||◌, not, cond, Bool, true, false, List, [], ◌∷◌, ◌++◌, length, take, drop, get_or, append_assoc, refl, ◌∙◌, ap, arith}
use Rattle.std.specs.List.{flat_map, list_any}
use Rattle.std.specs.Cmp.Lexicographic.{nat_list_eq_equiv}
use Rattle.std.specs.Prelude.{bytes_eq}
use Rattle.std.proofs.lemmas.Grind.{flat_map-append}
use Rattle.std.proofs.lemmas.List.{append-nil}
use Rattle.std.proofs.lemmas.List.Folds.{list_any-append}
use Rattle.std.proofs.lemmas.List.Sums.{sum_by-append}
use Rattle.amber_rows.specs.FlowRules.{AreNext, IsNext, ends_in_sink, reader_count}
use Rattle.amber_rows.specs.Columns.{are_apart, is_among}
use Rattle.amber_rows.specs.Kinds.{inputs_of, is_sink}
use Rattle.amber_rows.specs.declared.flow.Operator.{Operator}

-- ---- each operator may follow those before it

-- one more at the end
pub AreNext-push : (before ops : List Operator) (o : Operator) → AreNext before ops → IsNext (before ++ ops) o → AreNext before (ops ++ o ∷ [])
unfolding AreNext
AreNext-push before [] o h n = (rw append-nil at n, tt)
AreNext-push before (p ∷ ops) o h n = (h.0, AreNext-push (before ++ p ∷ []) ops o h.1 (rw append_assoc n))

-- the first one
pub AreNext-first : (before more : List Operator) (o : Operator) → AreNext before (o ∷ more) → IsNext before o
unfolding AreNext
AreNext-first before more o h = h.0

-- those after the first
pub AreNext-rest : (before more : List Operator) (o : Operator) → AreNext before (o ∷ more) → AreNext (before ++ o ∷ []) more
unfolding AreNext
AreNext-rest before more o h = h.1

-- those from a place on
pub AreNext-drop : (before ops : List Operator) (i : ℕ) → AreNext before ops → AreNext (before ++ take i ops) (drop i ops)
unfolding AreNext
AreNext-drop before ops zero h = rw append-nil h
AreNext-drop before [] (suc i) h = tt
AreNext-drop before (p ∷ ops) (suc i) h = rw append_assoc at (AreNext-drop (before ++ p ∷ []) ops i h.1)

-- the one at a place
pub AreNext-at : (before ops : List Operator) (i : ℕ) (d : Operator) → i < length ops → AreNext before ops → IsNext (before ++ take i ops) (get_or ops i d)
unfolding AreNext
AreNext-at before [] i d k h = absurd (omega arith)
AreNext-at before (p ∷ ops) zero d k h = rw append-nil h.0
AreNext-at before (p ∷ ops) (suc i) d k h = rw append_assoc at (AreNext-at (before ++ p ∷ []) ops i d (omega arith) h.1)

-- ---- the sink at the end

-- one of these is a sink
unfoldable pub has_sink : List Operator → Bool
has_sink ops = list_any (λ operator. is_sink operator.what) ops

both_not : (a b c : Bool) → (not a && (not b && c)) ≡ (not (a || b) && c)
both_not true b c = refl
both_not false b c = refl

one_not : (a c : Bool) → (not a && c) ≡ (not (a || false) && c)
one_not true c = refl
one_not false c = refl

pub ends_in_sink-push : (ops : List Operator) (o : Operator) → ends_in_sink (ops ++ o ∷ []) ≡ (not (has_sink ops) && is_sink o.what)
unfolding ends_in_sink has_sink
ends_in_sink-push [] o = refl
ends_in_sink-push (p ∷ []) o = one_not (is_sink p.what) (is_sink o.what)
ends_in_sink-push (p ∷ q ∷ ops) o = ap (λ b. not (is_sink p.what) && b) (ends_in_sink-push (q ∷ ops) o) ∙ both_not (is_sink p.what) (has_sink (q ∷ ops)) (is_sink o.what)

-- ---- how often an operator is read

pub reader_count-append : (xs ys : List Operator) (op : ℕ) → reader_count (xs ++ ys) op ≡ reader_count xs op + reader_count ys op
unfolding reader_count
reader_count-append xs ys op = rw (flat_map-append (λ (o : Operator). inputs_of o.what) xs ys) (sum_by-append (λ (input : ℕ). cond (input == op) 1 0) (flat_map (λ (o : Operator). inputs_of o.what) xs) (flat_map (λ (o : Operator). inputs_of o.what) ys))

-- ---- names

pub is_among-append : (name : List ℕ) (xs ys : List (List ℕ)) → is_among name (xs ++ ys) ≡ (is_among name xs || is_among name ys)
is_among-append name xs ys = list_any-append (λ other. bytes_eq other name) xs ys

apart_sides : (a b c d : Bool) → (not (a || b) && (c && not d)) ≡ ((not a && c) && not (b || d))
apart_sides true b c d = refl
apart_sides false true true d = refl
apart_sides false true false d = refl
apart_sides false false c d = refl

or_false : (a b : Bool) → (a || (b || false)) ≡ (a || b)
or_false true b = refl
or_false false true = refl
or_false false false = refl

pub are_apart-push : (names : List (List ℕ)) (name : List ℕ) → are_apart (names ++ name ∷ []) ≡ (are_apart names && not (is_among name names))
unfolding are_apart
are_apart-push [] name = refl
are_apart-push (first ∷ names) name =
    let among : is_among first (names ++ name ∷ []) ≡ (is_among first names || bytes_eq first name) =
    is_among-append first names (name ∷ []) ∙ or_false (is_among first names) (bytes_eq name first) ∙ ap (λ b. is_among first names || b) (nat_list_eq_equiv.symm name first) in
    rw (among, are_apart-push names name) (apart_sides (is_among first names) (bytes_eq first name) (are_apart names) (is_among name names))
