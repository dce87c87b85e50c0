-- The whole items of a beginning of a log's text are those of its first items.
use Rattle.std.proofs.Common.{◌≡◌, ℕ, ◌&&◌, ◌⊎◌, inl, inr, ◌++◌, Bool, true, false, not, List, [], ◌∷◌, map, refl, sym, ap, ◌∙◌}
use Rattle.std.specs.Prelude.{codes}
use Rattle.std.specs.List.{flat_map, join_with_byte}
use Rattle.std.proofs.lemmas.Bool.{and_from, and_parts, false≢true, not-true}
use Rattle.std.proofs.lemmas.List.{map-append}
use Rattle.amber_log.specs.Commands.{Action, AtRest, Leg, action_of}
use Rattle.amber_log.specs.Grammar.{HasWords, IsItem}
use Rattle.amber_log.specs.LogText.{item_lines, part_lines}
use Rattle.amber_log.specs.ReadAs.{closes, cut_back, keep}
use Rattle.amber_log.specs.Words.{action_words, spell}
use Rattle.amber_log.specs.declared.entry.Entry.{Entry}
use Rattle.amber_log.specs.declared.entry.Entry.TheVariants as entry
use Rattle.amber_log.specs.declared.leg.Close.{Close}
use Rattle.amber_log.specs.declared.leg.Close.TheVariants as close
use Rattle.amber_log.specs.declared.leg.Part.{Part}
use Rattle.amber_log.specs.declared.log.Item.{Item}
use Rattle.amber_log.specs.declared.log.Item.TheVariants as item
use Rattle.amber_log.specs.declared.line.Line.{Line}
use Rattle.amber_log.specs.declared.line.Line.TheVariants as line

-- ---- lists of lines of which the last alone closes

-- the last of these lines closes, and no other
abbrev pub ends_once : List (List ℕ) → Bool
ends_once [] = false
ends_once (bytes ∷ []) = closes bytes
ends_once (bytes ∷ next ∷ lines) = not (closes bytes) && ends_once (next ∷ lines)

-- one more line in front, which does not close
ends_once-cons : (bytes : List ℕ) (lines : List (List ℕ)) → closes bytes ≡ false → ends_once lines ≡ true → ends_once (bytes ∷ lines) ≡ true
ends_once-cons bytes [] stays ends = absurd (false≢true ends)
ends_once-cons bytes (next ∷ lines) stays ends = rw stays ends

-- none of these lines closes
abbrev are_open : List (List ℕ) → Bool
are_open [] = true
are_open (bytes ∷ lines) = not (closes bytes) && are_open lines

are_open-append : (xs ys : List (List ℕ)) → are_open xs ≡ true → are_open ys ≡ true → are_open (xs ++ ys) ≡ true
are_open-append [] ys p q = q
are_open-append (x ∷ xs) ys p q =
    let parts = and_parts (not (closes x)) (are_open xs) p in
    and_from (not (closes x)) (are_open (xs ++ ys)) parts.0 (are_open-append xs ys parts.1 q)

ends_once-open : (xs : List (List ℕ)) (last : List ℕ) → are_open xs ≡ true → closes last ≡ true → ends_once (xs ++ last ∷ []) ≡ true
ends_once-open [] last p q = q
ends_once-open (x ∷ xs) last p q =
    let parts = and_parts (not (closes x)) (are_open xs) p in
    ends_once-cons x (xs ++ last ∷ []) (not-true (closes x) parts.0) (ends_once-open xs last parts.1 q)

-- ---- the lines of an item

pub open-entry : (one : Entry) → not (closes (spell (line.Entry one))) ≡ true
unfolding closes
open-entry (entry.Take sender batch) = refl
open-entry (entry.Go rows outs) = refl
open-entry (entry.Grant n) = refl
open-entry (entry.Back n) = refl
open-entry entry.Pause = refl
open-entry entry.Resume = refl
open-entry entry.Hold = refl
open-entry entry.Finish = refl

pub open-worker : (worker : ℕ) → not (closes (spell (line.Worker worker))) ≡ true
unfolding closes
open-worker worker = refl

pub open-run : closes (spell line.Run) ≡ false
unfolding closes
open-run = refl

pub open-end : closes (spell line.End) ≡ false
unfolding closes
open-end = refl

closes-close : (one : Close) → closes (spell (line.Close one)) ≡ true
unfolding closes
closes-close close.Cut = refl
closes-close close.Long = refl

closes-command : (action : Action) → HasWords action → closes (join_with_byte 32 (codes "do" ∷ action_words action)) ≡ true
unfolding closes
closes-command (Leg to_end) h = absurd h
closes-command (AtRest effect) h = refl

are_open-entries : (entries : List Entry) → are_open (map spell (map (λ entry. line.Entry entry) entries)) ≡ true
are_open-entries [] = refl
are_open-entries (one ∷ entries) =
    and_from (not (closes (spell (line.Entry one)))) (are_open (map spell (map (λ entry. line.Entry entry) entries))) (open-entry one) (are_open-entries entries)

are_open-parts : (parts : List Part) → are_open (map spell (flat_map part_lines parts)) ≡ true
are_open-parts [] = refl
are_open-parts (part ∷ parts) =
    let steps = map (λ entry. line.Entry entry) part.entries in
    and_from (not (closes (spell (line.Worker part.worker)))) (are_open (map spell (steps ++ flat_map part_lines parts))) (open-worker part.worker)
    (rw (map-append {A = Line} spell steps (flat_map part_lines parts))
    (are_open-append (map spell steps) (map spell (flat_map part_lines parts)) (are_open-entries part.entries) (are_open-parts parts)))

ends_once-leg : (parts : List Part) (close : Close) → ends_once (map spell (flat_map part_lines parts ++ line.Close close ∷ [])) ≡ true
ends_once-leg parts close =
    rw (map-append {A = Line} spell (flat_map part_lines parts) (line.Close close ∷ []))
    (ends_once-open (map spell (flat_map part_lines parts)) (spell (line.Close close)) (are_open-parts parts) (closes-close close))

-- an item ends with its last line, and with no other
pub ends_once-item : (one : Item) → IsItem one → ends_once (map spell (item_lines one)) ≡ true
ends_once-item (item.Do command) h = closes-command (action_of command) h
ends_once-item (item.Run leg) h =
    ends_once-cons (spell line.Run) (map spell (flat_map part_lines leg.parts ++ line.Close leg.close ∷ [])) open-run (ends_once-leg leg.parts leg.close)
ends_once-item (item.End leg) h =
    ends_once-cons (spell line.End) (map spell (flat_map part_lines leg.parts ++ line.Close leg.close ∷ [])) open-end (ends_once-leg leg.parts leg.close)

-- ---- no such list begins another

pub ends_once-front : (xs more : List (List ℕ)) → ends_once xs ≡ true → ends_once (xs ++ more) ≡ true → more ≡ []
ends_once-front [] more p q = absurd (false≢true p)
ends_once-front (x ∷ []) [] p q = refl
ends_once-front (x ∷ []) (y ∷ more) p q =
    let parts = and_parts (not (closes x)) (ends_once (y ∷ more)) q in
    let stays : closes x ≡ false = not-true (closes x) parts.0 in
    absurd (false≢true (sym stays ∙ p))
ends_once-front (x ∷ next ∷ xs) more p q =
    let first = and_parts (not (closes x)) (ends_once (next ∷ xs)) p in
    let both = and_parts (not (closes x)) (ends_once (next ∷ (xs ++ more))) q in
    ends_once-front (next ∷ xs) more first.1 both.1

-- ---- cutting back

pub keep-closing : (closing : Bool) (bytes : List ℕ) (lines : List (List ℕ)) → closing ≡ true → keep closing bytes lines ≡ bytes ∷ lines
keep-closing true bytes [] e = refl
keep-closing true bytes (next ∷ lines) e = refl
keep-closing false bytes lines e = absurd (false≢true e)

keep-some : (closing : Bool) (bytes next : List ℕ) (lines : List (List ℕ)) → keep closing bytes (next ∷ lines) ≡ bytes ∷ next ∷ lines
keep-some closing bytes next lines = refl

-- whole lists of lines stay where what follows is cut back
pub cut_back-whole : (lines more : List (List ℕ)) → ends_once lines ≡ true → cut_back (lines ++ more) ≡ lines ++ cut_back more
unfolding cut_back
cut_back-whole [] more ends = absurd (false≢true ends)
cut_back-whole (bytes ∷ []) more ends = keep-closing (closes bytes) bytes (cut_back more) ends
cut_back-whole (bytes ∷ next ∷ lines) more ends =
    let parts = and_parts (not (closes bytes)) (ends_once (next ∷ lines)) ends in
    ap (keep (closes bytes) bytes) (cut_back-whole (next ∷ lines) more parts.1)

-- a beginning of whole lines and of others: either nothing stays, or the whole lines are there
abbrev pub CutFront : List (List ℕ) → List (List ℕ) → List (List ℕ) → List (List ℕ) → Type 0
CutFront xs more lines rest = (cut_back xs ≡ []) ⊎ ((ys : List (List ℕ)) × (xs ≡ lines ++ ys) × (ys ++ more ≡ rest))

pub cut_back-front : (lines xs more rest : List (List ℕ)) → ends_once lines ≡ true → xs ++ more ≡ lines ++ rest → CutFront xs more lines rest
unfolding cut_back
cut_back-front [] xs more rest ends e = absurd (false≢true ends)
cut_back-front (bytes ∷ lines) [] more rest ends e = inl refl
cut_back-front (bytes ∷ []) (x ∷ xs) more rest ends e =
    let first : x ≡ bytes = cc in
    let after : xs ++ more ≡ rest = cc in
    inr (xs, ap (λ (b : List ℕ). b ∷ xs) first, after)
cut_back-front (bytes ∷ next ∷ lines) (x ∷ xs) more rest ends e =
    let parts = and_parts (not (closes bytes)) (ends_once (next ∷ lines)) ends in
    let first : x ≡ bytes = cc in
    let after : xs ++ more ≡ (next ∷ lines) ++ rest = cc in
    in_front x bytes next lines xs more rest first (not-true (closes bytes) parts.0) (cut_back-front (next ∷ lines) xs more rest parts.1 after)
  where
    in_front : (x bytes next : List ℕ) (lines xs more rest : List (List ℕ)) → x ≡ bytes → closes bytes ≡ false
        → CutFront xs more (next ∷ lines) rest → CutFront (x ∷ xs) more (bytes ∷ next ∷ lines) rest
    in_front x bytes next lines xs more rest first stays (inl none) =
        inl (ap (λ (b : List ℕ). keep (closes b) b (cut_back xs)) first ∙ ap (λ (c : Bool). keep c bytes (cut_back xs)) stays ∙ ap (keep false bytes) none)
    in_front x bytes next lines xs more rest first stays (inr (ys, same, after)) =
        inr (ys, ap (λ (b : List ℕ). b ∷ xs) first ∙ ap (λ (all : List (List ℕ)). bytes ∷ all) same, after)
