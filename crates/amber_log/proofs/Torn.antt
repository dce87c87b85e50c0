-- What is read of a log's text that was cut off somewhere.
use Rattle.std.proofs.Common.{◌≡◌, ℕ, zero, suc, ◌+◌, ◌⊎◌, inl, inr, ◌++◌, Bool, true, false, List, [], ◌∷◌, length, map, take, drop, Ok, refl, sym, ap, ◌∙◌, arith, length-append, append_assoc, append-nil}
use Rattle.std.specs.List.{flat_map}
use Rattle.std.proofs.lemmas.List.{append_cancel_left, map-append, nil_from_length, take-append-drop}
use Rattle.std.proofs.lemmas.List.Concat.{flat_map-append}
use Rattle.amber_log.specs.Grammar.{AreItems, IsBatch, IsItem, IsLog, is_last}
use Rattle.amber_log.specs.Laws.{EachHasItsText, FrontsAreRead, NoItemBeginsAnother, ReadsFront, first_items}
use Rattle.amber_log.specs.LogText.{head_text, item_lines, item_text, line_text, log_lines, log_text, unlines}
use Rattle.amber_log.specs.ReadAs.{IsReadAs, closes, cut_back, keep, lines_of, read_of, whole_items, whole_lines}
use Rattle.amber_log.specs.ReadLines.{empty_log, read_lines}
use Rattle.amber_log.specs.TextLaws.{TextsReadBack}
use Rattle.amber_log.specs.Words.{spell}
use Rattle.amber_log.specs.declared.log.Item.{Item}
use Rattle.amber_log.specs.declared.log.Log.{Log}
use Rattle.amber_log.specs.declared.line.Line.{Line}
use Rattle.amber_log.specs.declared.line.Line.TheVariants as line
use Rattle.amber_log.proofs.Complete.{AreLines, AreLines-item, AreLines-log, read_lines-log_lines}
use Rattle.amber_log.proofs.Plain.{AreClean, AreClean-lines_of, has_no_feed-spell, lines_of-front, lines_of-unlines, lines_of-whole, unlines-lines_of}
use Rattle.amber_log.proofs.Whole.{CutFront, cut_back-front, cut_back-whole, ends_once-front, ends_once-item}

-- ---- texts as lines

-- the spelled lines of items
abbrev item_bytes : Item → List (List ℕ)
item_bytes one = map spell (item_lines one)

abbrev items_bytes : List Item → List (List ℕ)
items_bytes items = map spell (flat_map item_lines items)

abbrev pub log_bytes : Log → List (List ℕ)
log_bytes log = map spell (log_lines log)

unlines-spell : (lines : List Line) → flat_map line_text lines ≡ unlines (map spell lines)
unlines-spell [] = refl
unlines-spell (one ∷ lines) = ap (λ (more : List ℕ). line_text one ++ more) (unlines-spell lines)

item_text-unlines : (one : Item) → item_text one ≡ unlines (item_bytes one)
unfolding item_text
item_text-unlines one = unlines-spell (item_lines one)

items_bytes-cons : (one : Item) (items : List Item) → items_bytes (one ∷ items) ≡ item_bytes one ++ items_bytes items
items_bytes-cons one items = map-append {A = Line} spell (item_lines one) (flat_map item_lines items)

items_text-unlines : (items : List Item) → flat_map item_text items ≡ unlines (items_bytes items)
items_text-unlines [] = refl
items_text-unlines (one ∷ items) =
    ap (λ (text : List ℕ). text ++ flat_map item_text items) (item_text-unlines one)
    ∙ ap (λ (text : List ℕ). unlines (item_bytes one) ++ text) (items_text-unlines items)
    ∙ sym (flat_map-append (λ (bytes : List ℕ). bytes ++ 10 ∷ []) (item_bytes one) (items_bytes items))
    ∙ ap unlines (sym (items_bytes-cons one items))

pub log_text-unlines : (log : Log) → log_text log ≡ unlines (log_bytes log)
unfolding log_text head_text
log_text-unlines log = ap (λ (text : List ℕ). line_text (line.Head log.batch) ++ text) (items_text-unlines log.items)

AreClean-spell : (lines : List Line) → AreLines lines → AreClean (map spell lines)
AreClean-spell [] h = tt
AreClean-spell (one ∷ lines) h = (has_no_feed-spell one h.0, AreClean-spell lines h.1)

lines_of-log_text : (log : Log) (rest : List ℕ) → IsLog log → lines_of (log_text log ++ rest) ≡ log_bytes log ++ lines_of rest
lines_of-log_text log rest h =
    ap (λ (text : List ℕ). lines_of (text ++ rest)) (log_text-unlines log)
    ∙ lines_of-unlines (log_bytes log) rest (AreClean-spell (log_lines log) (AreLines-log log h))

lines_of-log : (log : Log) → IsLog log → lines_of (log_text log) ≡ log_bytes log
lines_of-log log h = ap lines_of (log_text-unlines log) ∙ lines_of-whole (log_bytes log) (AreClean-spell (log_lines log) (AreLines-log log h))

lines_of-item : (one : Item) → IsItem one → lines_of (item_text one) ≡ item_bytes one
lines_of-item one h = ap lines_of (item_text-unlines one) ∙ lines_of-whole (item_bytes one) (AreClean-spell (item_lines one) (AreLines-item one h))

-- ---- whole items

cut_back-items : (over : Bool) (items : List Item) (more : List (List ℕ)) → AreItems over items
    → cut_back (items_bytes items ++ more) ≡ items_bytes items ++ cut_back more
unfolding AreItems
cut_back-items over [] more h = refl
cut_back-items over (one ∷ items) more h =
    let split = items_bytes-cons one items in
    ap (λ (all : List (List ℕ)). cut_back (all ++ more)) split
    ∙ ap cut_back (append_assoc (item_bytes one) (items_bytes items) more)
    ∙ cut_back-whole (item_bytes one) (items_bytes items ++ more) (ends_once-item one h.1)
    ∙ ap (λ (all : List (List ℕ)). item_bytes one ++ all) (cut_back-items (is_last one) items more h.2)
    ∙ sym (append_assoc (item_bytes one) (items_bytes items) (cut_back more))
    ∙ ap (λ (all : List (List ℕ)). all ++ cut_back more) (sym split)

-- a log's lines stay where what follows is cut back
whole_lines-log : (log : Log) (more : List (List ℕ)) → IsLog log → whole_lines (log_bytes log ++ more) ≡ log_bytes log ++ cut_back more
unfolding whole_lines
whole_lines-log log more h = ap (λ (all : List (List ℕ)). spell (line.Head log.batch) ∷ all) (cut_back-items false log.items more h.items)

-- where the whole lines are a log's, that log stands there
IsReadAs-from_lines : (bytes : List ℕ) (log : Log) → IsLog log → whole_lines (lines_of bytes) ≡ log_bytes log → IsReadAs bytes log
unfolding whole_items
IsReadAs-from_lines bytes log h e = inl (h, ap unlines e ∙ sym (log_text-unlines log))

IsReadAs-empty : (bytes : List ℕ) → lines_of bytes ≡ [] → IsReadAs bytes empty_log
unfolding whole_items whole_lines
IsReadAs-empty bytes e = inr (ap (λ (lines : List (List ℕ)). unlines (whole_lines lines)) e, refl)

-- ---- what stands in a file is what is read of it

AreClean-keep : (closing : Bool) (bytes : List ℕ) (lines rest : List (List ℕ)) → AreClean (bytes ∷ lines) → AreClean rest → AreClean (keep closing bytes rest)
AreClean-keep true bytes lines [] h r = (h.0, tt)
AreClean-keep false bytes lines [] h r = tt
AreClean-keep true bytes lines (next ∷ rest) h r = (h.0, r)
AreClean-keep false bytes lines (next ∷ rest) h r = (h.0, r)

AreClean-cut_back : (lines : List (List ℕ)) → AreClean lines → AreClean (cut_back lines)
unfolding cut_back
AreClean-cut_back [] h = tt
AreClean-cut_back (bytes ∷ lines) h = AreClean-keep (closes bytes) bytes lines (cut_back lines) h (AreClean-cut_back lines h.1)

AreClean-whole_lines : (lines : List (List ℕ)) → AreClean lines → AreClean (whole_lines lines)
unfolding whole_lines
AreClean-whole_lines [] h = tt
AreClean-whole_lines (bytes ∷ lines) h = (h.0, AreClean-cut_back lines h.1)

pub lines_of-whole_items : (bytes : List ℕ) → lines_of (whole_items bytes) ≡ whole_lines (lines_of bytes)
unfolding whole_items
lines_of-whole_items bytes = lines_of-whole (whole_lines (lines_of bytes)) (AreClean-whole_lines (lines_of bytes) (AreClean-lines_of bytes))

pub what_stands_is_read : (bytes : List ℕ) (log : Log) → IsReadAs bytes log → read_of bytes ≡ Ok log
unfolding read_of read_lines lines_of
what_stands_is_read bytes log (inl (h, e)) =
    ap read_lines (sym (lines_of-whole_items bytes) ∙ ap lines_of e ∙ lines_of-log log h) ∙ read_lines-log_lines log h
what_stands_is_read bytes log (inr (none, e)) =
    ap read_lines (sym (lines_of-whole_items bytes) ∙ ap lines_of none) ∙ ap (λ (l : Log). Ok l) (sym e)

-- a log stands in its text
pub reads-whole : (log : Log) → IsLog log → IsReadAs (log_text log) log
unfolding cut_back
reads-whole log h =
    IsReadAs-from_lines (log_text log) log h
    (ap whole_lines (lines_of-log log h ∙ sym (append-nil (log_bytes log))) ∙ whole_lines-log log [] h ∙ append-nil (log_bytes log))

-- and is what is read of it
pub texts_read_back : TextsReadBack
texts_read_back log h = what_stands_is_read (log_text log) log (reads-whole log h)

pub each_has_its_text : EachHasItsText
each_has_its_text one other h h' e =
    let first : read_of (log_text one) ≡ Ok one = what_stands_is_read (log_text one) one (reads-whole one h) in
    let second : read_of (log_text other) ≡ Ok other = what_stands_is_read (log_text other) other (reads-whole other h') in
    let both : Ok one ≡ Ok other = sym first ∙ ap read_of e ∙ second in
    cc

-- ---- one item more

-- a text whose lines are all there is there
all_there : (text bytes rest tail : List ℕ) → bytes ++ rest ≡ text → bytes ≡ text ++ tail → bytes ≡ text
all_there text bytes rest tail whole e =
    let sizes : length bytes + length rest ≡ length text = sym (length-append bytes rest) ∙ ap length whole in
    let longer : length bytes ≡ length text + length tail = ap length e ∙ length-append text tail in
    let none : tail ≡ [] = nil_from_length tail (omega arith) in
    e ∙ ap (λ (t : List ℕ). text ++ t) none ∙ append-nil text

nil_left : {A : Type 0} (xs ys : List A) → xs ++ ys ≡ [] → xs ≡ []
nil_left [] ys e = refl
nil_left (x ∷ xs) ys e = cc

-- a beginning of an item's text after a log changes nothing, or is the whole item
torn_item : (log : Log) (one : Item) (bytes rest : List ℕ) → IsLog log → IsItem one → bytes ++ rest ≡ item_text one
    → IsReadAs (log_text log ++ bytes) log ⊎ (bytes ≡ item_text one)
torn_item log one bytes rest h i whole =
    let front = lines_of-front bytes rest in
    let lines : lines_of bytes ++ front.0 ≡ item_bytes one ++ [] =
    front.1 ∙ ap lines_of whole ∙ lines_of-item one i ∙ sym (append-nil (item_bytes one)) in
    by_front front.0 (cut_back-front (item_bytes one) (lines_of bytes) front.0 [] (ends_once-item one i) lines)
  where
    by_front : (more : List (List ℕ)) → CutFront (lines_of bytes) more (item_bytes one) [] → IsReadAs (log_text log ++ bytes) log ⊎ (bytes ≡ item_text one)
    by_front more (inl none) =
        inl (IsReadAs-from_lines (log_text log ++ bytes) log h
        (ap whole_lines (lines_of-log_text log bytes h) ∙ whole_lines-log log (lines_of bytes) h ∙ ap (λ (all : List (List ℕ)). log_bytes log ++ all) none ∙ append-nil (log_bytes log)))
    by_front more (inr (ys, same, after)) =
        let none : ys ≡ [] = nil_left ys more after in
        let all : lines_of bytes ≡ item_bytes one = same ∙ ap (λ (l : List (List ℕ)). item_bytes one ++ l) none ∙ append-nil (item_bytes one) in
        let text = unlines-lines_of bytes in
        inr (all_there (item_text one) bytes rest text.0 whole (text.1 ∙ ap (λ (l : List (List ℕ)). unlines l ++ text.0) all ∙ ap (λ (t : List ℕ). t ++ text.0) (sym (item_text-unlines one))))

pub reads-torn : (log : Log) (one : Item) (count : ℕ) → IsLog log → IsItem one
    → IsReadAs (log_text log ++ take count (item_text one)) log ⊎ (take count (item_text one) ≡ item_text one)
reads-torn log one count h i = torn_item log one (take count (item_text one)) (drop count (item_text one)) h i (take-append-drop count (item_text one))

torn_head : (batch : ℕ) (bytes rest : List ℕ) → IsBatch batch → bytes ++ rest ≡ head_text batch
    → IsReadAs bytes empty_log ⊎ (bytes ≡ head_text batch)
unfolding head_text
torn_head batch bytes rest h whole =
    let front = lines_of-front bytes rest in
    let text = unlines-lines_of bytes in
    let lines : lines_of bytes ++ front.0 ≡ spell (line.Head batch) ∷ [] =
    front.1 ∙ ap lines_of (whole ∙ sym (append-nil (head_text batch))) ∙ lines_of-whole (spell (line.Head batch) ∷ []) (has_no_feed-spell (line.Head batch) h, tt) in
    by_lines (lines_of bytes) front.0 text.0 refl lines text.1
  where
    by_lines : (xs more : List (List ℕ)) (tail : List ℕ) → lines_of bytes ≡ xs → xs ++ more ≡ spell (line.Head batch) ∷ [] → bytes ≡ unlines xs ++ tail
        → IsReadAs bytes empty_log ⊎ (bytes ≡ head_text batch)
    by_lines [] more tail is e text = inl (IsReadAs-empty bytes is)
    by_lines (x ∷ xs) more tail is e text =
        let first : x ≡ spell (line.Head batch) = cc in
        let after : xs ++ more ≡ [] = cc in
        let none : xs ≡ [] = nil_left xs more after in
        let all : x ∷ xs ≡ spell (line.Head batch) ∷ [] = cc in
        inr (all_there (head_text batch) bytes rest tail whole (text ∙ ap (λ (l : List (List ℕ)). unlines l ++ tail) all ∙ ap (λ (t : List ℕ). t ++ tail) (append-nil (head_text batch))))

pub reads-torn_head : (batch count : ℕ) → IsBatch batch
    → IsReadAs (take count (head_text batch)) empty_log ⊎ (take count (head_text batch) ≡ head_text batch)
reads-torn_head batch count h = torn_head batch (take count (head_text batch)) (drop count (head_text batch)) h (take-append-drop count (head_text batch))

-- ---- no item's text begins another's

pub no_item_begins_another : NoItemBeginsAnother
no_item_begins_another one other rest h h' e =
    let front = lines_of-front (item_text one) rest in
    let lines : item_bytes one ++ front.0 ≡ item_bytes other =
    ap (λ (l : List (List ℕ)). l ++ front.0) (sym (lines_of-item one h)) ∙ front.1 ∙ ap lines_of e ∙ lines_of-item other h' in
    let once = ends_once-item other h' in
    let ends = rw (← lines) at once in
    let none : front.0 ≡ [] = ends_once-front (item_bytes one) front.0 (ends_once-item one h) ends in
    let same : item_bytes one ≡ item_bytes other = sym (append-nil (item_bytes one)) ∙ ap (λ (l : List (List ℕ)). item_bytes one ++ l) (sym none) ∙ lines in
    let texts : item_text other ≡ item_text one = item_text-unlines other ∙ ap unlines (sym same) ∙ sym (item_text-unlines one) in
    append_cancel_left (item_text one) rest [] (e ∙ texts ∙ sym (append-nil (item_text one)))

-- ---- every beginning of a log's text

pub AreItems-take : (over : Bool) (items : List Item) (count : ℕ) → AreItems over items → AreItems over (take count items)
unfolding AreItems
AreItems-take over items zero h = tt
AreItems-take over [] (suc count) h = tt
AreItems-take over (one ∷ items) (suc count) h = (h.0, h.1, AreItems-take (is_last one) items count h.2)

-- what stays of a beginning of items is the first of them
abbrev StaysOf : List Item → List (List ℕ) → Type 0
StaysOf items xs = (count : ℕ) × (cut_back xs ≡ items_bytes (take count items))

cut_back-front_items : (over : Bool) (items : List Item) (xs more : List (List ℕ)) → AreItems over items → xs ++ more ≡ items_bytes items → StaysOf items xs
unfolding AreItems cut_back
cut_back-front_items over [] xs more h e = (0, ap cut_back (nil_left xs more e))
cut_back-front_items over (one ∷ items) xs more h e =
    by_front (λ ys after. cut_back-front_items (is_last one) items ys more h.2 after)
    (cut_back-front (item_bytes one) xs more (items_bytes items) (ends_once-item one h.1) (e ∙ items_bytes-cons one items))
  where
    by_front : ((ys : List (List ℕ)) → ys ++ more ≡ items_bytes items → StaysOf items ys) → CutFront xs more (item_bytes one) (items_bytes items) → StaysOf (one ∷ items) xs
    by_front rest (inl none) = (0, none)
    by_front rest (inr (ys, same, after)) =
        let later = rest ys after in (
          suc later.0,
          ap cut_back same ∙ cut_back-whole (item_bytes one) ys (ends_once-item one h.1)
              ∙ ap (λ (l : List (List ℕ)). item_bytes one ++ l) later.1 ∙ sym (items_bytes-cons one (take later.0 items)),
        )

pub fronts_are_read : FrontsAreRead
unfolding whole_lines
fronts_are_read log bytes rest h whole =
    let front = lines_of-front bytes rest in
    let lines : lines_of bytes ++ front.0 ≡ log_bytes log = front.1 ∙ ap lines_of whole ∙ lines_of-log log h in
    by_lines (lines_of bytes) front.0 refl lines
  where
    by_lines : (xs more : List (List ℕ)) → lines_of bytes ≡ xs → xs ++ more ≡ log_bytes log → ReadsFront log bytes
    by_lines [] more is e =
        let stands = IsReadAs-empty bytes is in
        record { read = empty_log; found = what_stands_is_read bytes empty_log stands; exact = stands; front = inl refl }
    by_lines (x ∷ xs) more is e =
        let first : x ≡ spell (line.Head log.batch) = cc in
        let after : xs ++ more ≡ items_bytes log.items = cc in
        let stays = cut_back-front_items false log.items xs more h.items after in
        let read = first_items stays.0 log in
        let legal : IsLog read = record { batch = h.batch; items = AreItems-take false log.items stays.0 h.items } in
        let kept : x ∷ cut_back xs ≡ log_bytes (first_items stays.0 log) = cc (first, stays.1) in
        let all : whole_lines (lines_of bytes) ≡ log_bytes (first_items stays.0 log) = ap whole_lines is ∙ kept in
        let stands = IsReadAs-from_lines bytes read legal all in
        record { read = read; found = what_stands_is_read bytes read stands; exact = stands; front = inr (stays.0, refl) }
