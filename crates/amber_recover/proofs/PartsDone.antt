-- Parts of a leg that are done again one after the other.
use Rattle.std.proofs.Common.{◌≡◌, ℕ, ◌+◌, ◌<◌, ◌≤◌, List, [], ◌∷◌, ◌++◌, length, get_or, take, drop, Option, Some, None, is_some, Bool, true, false, refl, sym, ap, subst, ◌∙◌, arith, append_assoc, append-nil}
use Rattle.std.specs.Prelude.{option_and_then}
use Rattle.std.specs.List.{flat_map}
use Rattle.std.proofs.lemmas.Bool.{le-ltb, lt-ltb}
use Rattle.std.proofs.lemmas.List.{take-append-drop, drop_more, take_more, take_all}
use Rattle.std.proofs.lemmas.List.Concat.{flat_map-append}
use Rattle.amber_rows.specs.Topology.{crew_of}
use Rattle.amber_log.specs.Grammar.{AreParts}
use Rattle.amber_log.specs.LogText.{part_lines}
use Rattle.amber_log.specs.declared.entry.Entry.{Entry}
use Rattle.amber_log.specs.declared.leg.Part.{Part}
use Rattle.amber_log.specs.declared.line.Line.{Line}
use Rattle.amber_log.specs.declared.line.Line.TheVariants as line
use Rattle.amber_meaning.specs.Legal.{Query}
use Rattle.amber_meaning.specs.State.{State}
use Rattle.amber_lines.specs.Lines.{Within, bad_line_from, bad_or, judge_all, when}
use Rattle.amber_lines.proofs.Judged.{judge_all-append}
use Rattle.amber_lines.proofs.Parts.{AreParts-front}
use Rattle.amber_home.specs.HomeState.{HomeState, query_of, runs_to_end, state_of}
use Rattle.amber_home.specs.Redoing.{FailsAt, HasRedonePart, RedoesPart, entry_lines, may_redo}
use Rattle.amber_recover.specs.Redone.{HasDoneParts, bad_in_parts, within}
use Rattle.amber_recover.proofs.Judging.{bad-front, bad-inside, bad-later, bad-none, bad-on}

-- ---- whose part it was before

-- a part begins with its worker, so it does not matter whose part it was before
bad-any : (query : Query) (to_end : Bool) (now : State) (one other number : ℕ) (parts : List Part)
    → bad_line_from query (Within to_end now one) number (flat_map part_lines parts) ≡ bad_line_from query (Within to_end now other) number (flat_map part_lines parts)
unfolding bad_line_from
bad-any query to_end now one other number [] = refl
bad-any query to_end now one other number (part ∷ parts) = refl

judge-any : (query : Query) (to_end end : Bool) (now after : State) (one other last : ℕ) (parts : List Part)
    → judge_all query (Within to_end now one) (flat_map part_lines parts) ≡ Some (Within end after last)
    → (k : ℕ) × (judge_all query (Within to_end now other) (flat_map part_lines parts) ≡ Some (Within end after k))
unfolding judge_all
judge-any query to_end end now after one other last [] e =
    let same_end : to_end ≡ end = cc in
    let same_state : now ≡ after = cc in
    (other, cc)
judge-any query to_end end now after one other last (part ∷ parts) e = (last, e)

-- ---- parts

pub nothing-done : (home : HomeState) → may_redo home.phase ≡ true → HasDoneParts [] home home
unfolding judge_all
nothing-done home may = record {
  only = ap (λ (parts : List Part). record home { parts = parts }) (sym (append-nil home.parts));
  may = may;
  end = refl;
  last = 0;
  good = refl;
}

same-query : (parts : List Part) (old new : HomeState) → HasDoneParts parts old new → query_of new ≡ query_of old
same-query parts old new h = ap query_of h.only

pub parts-after : (old mid new : HomeState) (xs ys : List Part) → HasDoneParts xs old mid → HasDoneParts ys mid new → HasDoneParts (xs ++ ys) old new
parts-after old mid new xs ys a b =
    let moved = judge-any (query_of mid) (runs_to_end mid.phase) (runs_to_end new.phase) (state_of mid) (state_of new) 0 a.last b.last ys b.good in
    record {
      only = b.only ∙ ap (λ (h : HomeState). record h { phase = new.phase; parts = h.parts ++ ys }) a.only
          ∙ ap (λ (parts : List Part). record old { phase = new.phase; parts = parts }) (append_assoc old.parts xs ys);
      may = b.may;
      end = b.end ∙ a.end;
      last = moved.0;
      good = ap (judge_all (query_of old) (within old 0)) (flat_map-append part_lines xs ys)
          ∙ judge_all-append (query_of old) (within old 0) (flat_map part_lines xs) (flat_map part_lines ys)
          ∙ ap (option_and_then (λ next. judge_all (query_of old) next (flat_map part_lines ys))) a.good
          ∙ ap (λ (q : Query). judge_all q (within mid a.last) (flat_map part_lines ys)) (sym (same-query xs old mid a)) ∙ moved.1;
    }

-- the first bad line of the parts behind them
pub bad-after : (old mid : HomeState) (number : ℕ) (xs ys : List Part) → HasDoneParts xs old mid
    → bad_in_parts old number (xs ++ ys) ≡ bad_in_parts mid (number + length (flat_map part_lines xs)) ys
bad-after old mid number xs ys a =
    let place = number + length (flat_map part_lines xs) in
    ap (bad_line_from (query_of old) (within old 0) number) (flat_map-append part_lines xs ys)
    ∙ bad-on (query_of old) (within old 0) (within mid a.last) number (flat_map part_lines xs) (flat_map part_lines ys) a.good
    ∙ bad-any (query_of old) (runs_to_end mid.phase) (state_of mid) a.last 0 place ys
    ∙ ap (λ (q : Query). bad_line_from q (within mid 0) place (flat_map part_lines ys)) (sym (same-query xs old mid a))

pub none-bad : (old new : HomeState) (number : ℕ) (parts : List Part) → HasDoneParts parts old new → bad_in_parts old number parts ≡ None
none-bad old new number parts h = bad-none (query_of old) (within old 0) (within new h.last) number (flat_map part_lines parts) h.good

-- ---- one part

one-part : (part : Part) → flat_map part_lines (part ∷ []) ≡ part_lines part
one-part part = append-nil (part_lines part)

-- the line of a worker that is there
begins : (query : Query) (to_end : Bool) (now : State) (before worker : ℕ) (lines : List Line) → worker < crew_of query.flow
    → judge_all query (Within to_end now before) (line.Worker worker ∷ lines) ≡ judge_all query (Within to_end now worker) lines
unfolding judge_all
begins query to_end now before worker lines inside =
    ap (λ (b : Bool). option_and_then (λ next. judge_all query next lines) (when b (Within to_end now worker))) (lt-ltb worker (crew_of query.flow) inside)

begins-bad : (query : Query) (to_end : Bool) (now : State) (before worker number : ℕ) (lines : List Line) → worker < crew_of query.flow
    → bad_line_from query (Within to_end now before) number (line.Worker worker ∷ lines) ≡ bad_line_from query (Within to_end now worker) (number + 1) lines
unfolding bad_line_from
begins-bad query to_end now before worker number lines inside =
    ap (λ (b : Bool). bad_or number (when b (Within to_end now worker)) (λ next. bad_line_from query next (number + 1) lines)) (lt-ltb worker (crew_of query.flow) inside)

nobody : (query : Query) (to_end : Bool) (now : State) (before worker number : ℕ) (lines : List Line) → crew_of query.flow ≤ worker
    → bad_line_from query (Within to_end now before) number (line.Worker worker ∷ lines) ≡ Some number
unfolding bad_line_from
nobody query to_end now before worker number lines outside =
    ap (λ (b : Bool). bad_or number (when b (Within to_end now worker)) (λ next. bad_line_from query next (number + 1) lines)) (le-ltb worker (crew_of query.flow) outside)

pub part-done : (part : Part) (old new : HomeState) → part.worker < crew_of old.flow → HasRedonePart part.worker part.entries old new → HasDoneParts (part ∷ []) old new
part-done part old new inside h = record {
  only = h.only;
  may = h.may;
  end = h.end;
  last = part.worker;
  good = ap (judge_all (query_of old) (within old 0)) (one-part part)
      ∙ begins (query_of old) (runs_to_end old.phase) (state_of old) 0 part.worker (entry_lines part.entries) inside
      ∙ h.good ∙ ap (λ (to_end : Bool). Some (Within to_end (state_of new) part.worker)) (sym h.end);
}

-- its worker is none of the workflow
pub part-nobody : (part : Part) (home : HomeState) (number : ℕ) → crew_of home.flow ≤ part.worker → bad_in_parts home number (part ∷ []) ≡ Some number
part-nobody part home number outside =
    ap (bad_line_from (query_of home) (within home 0) number) (one-part part)
    ∙ nobody (query_of home) (runs_to_end home.phase) (state_of home) 0 part.worker number (entry_lines part.entries) outside

-- one of its entries is bad
pub part-fails : (part : Part) (old new : HomeState) (number place : ℕ) → part.worker < crew_of old.flow → FailsAt part.worker part.entries place old new
    → bad_in_parts old number (part ∷ []) ≡ Some (number + 1 + place)
part-fails part old new number place inside h =
    let here : number + 1 ≡ number + 1 + 0 = omega arith in
    ap (bad_line_from (query_of old) (within old 0) number) (one-part part)
    ∙ begins-bad (query_of old) (runs_to_end old.phase) (state_of old) 0 part.worker number (entry_lines part.entries) inside
    ∙ ap (λ (n : ℕ). bad_line_from (query_of old) (within old part.worker) n (entry_lines part.entries)) here
    ∙ bad-later (query_of old) (within old part.worker) (number + 1) 0 place (entry_lines part.entries) h.bad

-- what a worker's call answers
pub redone-fails : (part : Part) (entries : List Entry) (old new : HomeState) (found : Option ℕ) (place : ℕ) → entries ≡ part.entries → found ≡ Some place
    → RedoesPart part.worker entries old new found → FailsAt part.worker part.entries place old new
redone-fails part entries old new found place same is h =
    subst (λ (es : List Entry). FailsAt part.worker es place old new) same (subst (RedoesPart part.worker entries old new) is h)

pub redone-all : (part : Part) (entries : List Entry) (old new : HomeState) (found : Option ℕ) → entries ≡ part.entries → found ≡ None
    → RedoesPart part.worker entries old new found → HasRedonePart part.worker part.entries old new
redone-all part entries old new found same is h =
    subst (λ (es : List Entry). HasRedonePart part.worker es old new) same (subst (RedoesPart part.worker entries old new) is h)

pub fails-inside : (part : Part) (old new : HomeState) (place : ℕ) → FailsAt part.worker part.entries place old new → place < length (entry_lines part.entries)
fails-inside part old new place h =
    let inside = bad-inside (query_of old) (within old part.worker) 0 place (entry_lines part.entries) h.bad in omega arith

-- ---- from each part to the next

pub next-parts : (old mid : HomeState) (parts : List Part) (i : ℕ) (part : Part) → i < length parts → part ≡ get_or parts i part → old.parts ≡ [] → AreParts 0 parts
    → HasDoneParts (take i parts) old mid → AreParts 0 (mid.parts ++ part ∷ [])
next-parts old mid parts i part less is none text before =
    let rest = drop (i + 1) parts in
    let whole : parts ≡ (take i parts ++ part ∷ []) ++ rest =
    sym (take-append-drop i parts) ∙ ap (λ (more : List Part). take i parts ++ more) (drop_more parts i part less ∙ ap (λ (p : Part). p ∷ rest) (sym is))
    ∙ sym (append_assoc (take i parts) (part ∷ []) rest) in
    let made : mid.parts ≡ take i parts = ap (λ (h : HomeState). h.parts) before.only ∙ ap (λ (ps : List Part). ps ++ take i parts) none in
    subst (λ (ps : List Part). AreParts 0 (ps ++ part ∷ [])) (sym made) (AreParts-front 0 (take i parts ++ part ∷ []) rest (subst (AreParts 0) whole text))

pub part-more : (old mid new : HomeState) (parts : List Part) (i : ℕ) (part : Part) → i < length parts → part ≡ get_or parts i part
    → HasDoneParts (take i parts) old mid → HasDoneParts (part ∷ []) mid new → HasDoneParts (take (i + 1) parts) old new
part-more old mid new parts i part less is before here =
    let longer : take (i + 1) parts ≡ take i parts ++ part ∷ [] = take_more parts i part less ∙ ap (λ (p : Part). take i parts ++ p ∷ []) (sym is) in
    rw longer (parts-after old mid new (take i parts) (part ∷ []) before here)

-- the first bad line of a part is that of all parts, where those before it were done
pub part-bad : (old mid : HomeState) (parts : List Part) (i number found : ℕ) (part : Part) → i < length parts → part ≡ get_or parts i part
    → HasDoneParts (take i parts) old mid → bad_in_parts mid (number + length (flat_map part_lines (take i parts))) (part ∷ []) ≡ Some found
    → bad_in_parts old number parts ≡ Some found
part-bad old mid parts i number found part less is before bad =
    let rest = drop (i + 1) parts in
    let place = number + length (flat_map part_lines (take i parts)) in
    let whole : parts ≡ take i parts ++ (part ∷ rest) =
    sym (take-append-drop i parts) ∙ ap (λ (more : List Part). take i parts ++ more) (drop_more parts i part less ∙ ap (λ (p : Part). p ∷ rest) (sym is)) in
    ap (bad_in_parts old number) whole ∙ bad-after old mid number (take i parts) (part ∷ rest) before
    ∙ bad-front (query_of mid) (within mid 0) place found (part_lines part) (flat_map part_lines rest)
    (ap (bad_line_from (query_of mid) (within mid 0) place) (sym (one-part part)) ∙ bad)

pub part-found : (old mid : HomeState) (parts : List Part) (i number : ℕ) (part : Part) (bad : Option ℕ) → i < length parts → part ≡ get_or parts i part
    → HasDoneParts (take i parts) old mid → is_some bad ≡ true → bad ≡ bad_in_parts mid (number + length (flat_map part_lines (take i parts))) (part ∷ [])
    → bad ≡ bad_in_parts old number parts
part-found old mid parts i number part None less is before some e = absurd (let never : false ≡ true = some in cc)
part-found old mid parts i number part (Some found) less is before some e = sym (part-bad old mid parts i number found part less is before (sym e))

pub parts-done : (old mid : HomeState) (parts : List Part) (i : ℕ) → length parts ≤ i → HasDoneParts (take i parts) old mid → HasDoneParts parts old mid
parts-done old mid parts i all h = subst (λ (ps : List Part). HasDoneParts ps old mid) (take_all i parts all) h

pub none-found : (bad : Option ℕ) → is_some bad ≡ false → bad ≡ None
none-found None e = refl
none-found (Some found) e = absurd (let never : true ≡ false = e in cc)

pub no-some : (bad : Option ℕ) → ((found : ℕ) → bad ≡ Some found → ⊥) → bad ≡ None
no-some None not = refl
no-some (Some found) not = absurd (not found refl)
