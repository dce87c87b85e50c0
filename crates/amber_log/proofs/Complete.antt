-- The lines of a log read as that log.
use Rattle.std.proofs.Common.{◌≡◌, ℕ, ◌+◌, ◌&&◌, ◌++◌, Bool, true, false, List, [], ◌∷◌, length, map, Option, Some, None, Ok, refl, sym, ap, ◌∙◌, arith, append_assoc, append-nil}
use Rattle.std.specs.Prelude.{nat_lt, option_and_then}
use Rattle.std.specs.List.{flat_map}
use Rattle.std.proofs.lemmas.Bool.{lt-ltb}
use Rattle.amber_log.specs.Grammar.{AreEntries, AreItems, AreParts, IsItem, IsLeg, IsLine, IsLog, IsPart, ends_go, ends_over, is_go, is_last}
use Rattle.amber_log.specs.LogText.{item_lines, leg_lines, log_lines, part_lines}
use Rattle.amber_log.specs.ReadLines.{behind_item, with_leg, finish, next_or, read_lines, read_on, start, step}
use Rattle.amber_log.specs.Words.{spell}
use Rattle.amber_log.specs.declared.entry.Entry.{Entry}
use Rattle.amber_log.specs.declared.leg.Close.{Close}
use Rattle.amber_log.specs.declared.leg.Leg.{Leg}
use Rattle.amber_log.specs.declared.leg.Part.{Part}
use Rattle.amber_log.specs.declared.log.Item.{Item}
use Rattle.amber_log.specs.declared.log.Item.TheVariants as item
use Rattle.amber_log.specs.declared.log.Log.{Log}
use Rattle.amber_log.specs.declared.line.Line.{Line}
use Rattle.amber_log.specs.declared.line.Line.TheVariants as line
use Rattle.amber_log.specs.declared.reading.Place.TheVariants as place
use Rattle.amber_log.specs.declared.reading.Reading.{Reading}
use Rattle.amber_log.proofs.Plain.{parse-spell}

-- ---- the lines of a log are lines

abbrev pub AreLines : List Line → Type 0
AreLines [] = Unit {0}
AreLines (one ∷ lines) = IsLine one × AreLines lines

AreLines-append : (xs ys : List Line) → AreLines xs → AreLines ys → AreLines (xs ++ ys)
AreLines-append [] ys p q = q
AreLines-append (x ∷ xs) ys p q = (p.0, AreLines-append xs ys p.1 q)

AreLines-entries : (gone : Bool) (entries : List Entry) → AreEntries gone entries → AreLines (map (λ entry. line.Entry entry) entries)
unfolding AreEntries
AreLines-entries gone [] h = tt
AreLines-entries gone (entry ∷ entries) h = (h.0, AreLines-entries (is_go entry) entries h.2)

AreLines-parts : (least : ℕ) (parts : List Part) → AreParts least parts → AreLines (flat_map part_lines parts)
unfolding AreParts
AreLines-parts least [] h = tt
AreLines-parts least (part ∷ parts) h = (
  h.1.worker,
  AreLines-append (map (λ entry. line.Entry entry) part.entries) (flat_map part_lines parts)
      (AreLines-entries false part.entries h.1.entries) (AreLines-parts (part.worker + 1) parts h.2),
)

AreLines-leg : (leg : Leg) → IsLeg leg → AreLines (leg_lines leg)
AreLines-leg leg h = AreLines-append (flat_map part_lines leg.parts) (line.Close leg.close ∷ []) (AreLines-parts 0 leg.parts h) (tt, tt)

pub AreLines-item : (one : Item) → IsItem one → AreLines (item_lines one)
AreLines-item (item.Do command) h = (h, tt)
AreLines-item (item.Run leg) h = (tt, AreLines-leg leg h)
AreLines-item (item.End leg) h = (tt, AreLines-leg leg h)

pub AreLines-items : (over : Bool) (items : List Item) → AreItems over items → AreLines (flat_map item_lines items)
unfolding AreItems
AreLines-items over [] h = tt
AreLines-items over (one ∷ items) h =
    AreLines-append (item_lines one) (flat_map item_lines items) (AreLines-item one h.1) (AreLines-items (is_last one) items h.2)

pub AreLines-log : (log : Log) → IsLog log → AreLines (log_lines log)
AreLines-log log h = (h.batch, AreLines-items false log.items h.items)

-- ---- steps

-- what is read with these lines more
abbrev pub feed : Reading → List Line → Option Reading
feed reading [] = Some reading
feed reading (one ∷ lines) = option_and_then (λ next. feed next lines) (step reading one)

abbrev pub inside : ℕ → List Item → Bool → List Part → ℕ → List Entry → Bool → Reading
inside batch items end parts worker entries gone =
    record { batch = batch; items = items; place = place.Inside end parts worker entries gone }

abbrev pub opened : ℕ → List Item → Bool → Reading
opened batch items end = record { batch = batch; items = items; place = place.Opened end }

abbrev pub behind : ℕ → List Item → Bool → Reading
behind batch items over = record { batch = batch; items = items; place = behind_item over }

-- after a leg
abbrev pub behind_leg : ℕ → List Item → Bool → List Part → Close → Reading
behind_leg batch items end parts close = with_leg (opened batch items end) end parts close

feed-entries : (batch : ℕ) (items : List Item) (end : Bool) (parts : List Part) (worker : ℕ) (read : List Entry) (gone : Bool) (entries : List Entry) (lines : List Line)
    → AreEntries gone entries
    → feed (inside batch items end parts worker read gone) (map (λ entry. line.Entry entry) entries ++ lines)
    ≡ feed (inside batch items end parts worker (read ++ entries) (ends_go gone entries)) lines
unfolding AreEntries step
feed-entries batch items end parts worker read gone [] lines h =
    ap (λ (all : List Entry). feed (inside batch items end parts worker all gone) lines) (sym (append-nil read))
feed-entries batch items end parts worker read gone (entry ∷ entries) lines h =
    let may : (gone && is_go entry) ≡ false = h.1 in
    let next = feed-entries batch items end parts worker (read ++ entry ∷ []) (is_go entry) entries lines h.2 in
    rw may (next ∙ ap (λ (all : List Entry). feed (inside batch items end parts worker all (ends_go (is_go entry) entries)) lines) (append_assoc read (entry ∷ []) entries))

-- the rest of a leg from the start of a part on
feed-parts : (batch : ℕ) (items : List Item) (end : Bool) (read : List Part) (part : Part) (parts : List Part) (close : Close) (lines : List Line)
    → IsPart part → AreParts (part.worker + 1) parts
    → feed (inside batch items end read part.worker [] false) ((map (λ entry. line.Entry entry) part.entries ++ flat_map part_lines parts) ++ (line.Close close ∷ lines))
    ≡ feed (behind_leg batch items end (read ++ part ∷ parts) close) lines
unfolding AreParts step
feed-parts batch items end read part [] close lines is h =
    let some : nat_lt 0 (length part.entries) ≡ true = lt-ltb 0 (length part.entries) is.some in
    ap (feed (inside batch items end read part.worker [] false)) (append_assoc (map (λ entry. line.Entry entry) part.entries) [] (line.Close close ∷ lines))
    ∙ feed-entries batch items end read part.worker [] false part.entries (line.Close close ∷ lines) is.entries
    ∙ rw some refl
feed-parts batch items end read part (next ∷ parts) close lines is h =
    let more : nat_lt 0 (length part.entries) ≡ true = lt-ltb 0 (length part.entries) is.some in
    let rises : nat_lt part.worker next.worker ≡ true = lt-ltb part.worker next.worker (omega (arith, h.0)) in
    let behind_part = feed-parts batch items end (read ++ part ∷ []) next parts close lines h.1 h.2 in
    ap (feed (inside batch items end read part.worker [] false))
    (append_assoc (map (λ entry. line.Entry entry) part.entries) (flat_map part_lines (next ∷ parts)) (line.Close close ∷ lines))
    ∙ feed-entries batch items end read part.worker [] false part.entries (flat_map part_lines (next ∷ parts) ++ (line.Close close ∷ lines)) is.entries
    ∙ rw (more, rises)
    (behind_part ∙ ap (λ (all : List Part). feed (behind_leg batch items end all close) lines) (append_assoc read (part ∷ []) (next ∷ parts)))

feed-leg_parts : (batch : ℕ) (items : List Item) (end : Bool) (parts : List Part) (close : Close) (lines : List Line) → AreParts 0 parts
    → feed (opened batch items end) ((flat_map part_lines parts ++ line.Close close ∷ []) ++ lines) ≡ feed (behind_leg batch items end parts close) lines
unfolding AreParts step
feed-leg_parts batch items end [] close lines h = refl
feed-leg_parts batch items end (part ∷ parts) close lines h =
    ap (feed (opened batch items end)) (append_assoc (flat_map part_lines (part ∷ parts)) (line.Close close ∷ []) lines)
    ∙ feed-parts batch items end [] part parts close lines h.1 h.2

feed-item : (batch : ℕ) (items : List Item) (one : Item) (lines : List Line) → IsItem one
    → feed (behind batch items false) (item_lines one ++ lines) ≡ feed (behind batch (items ++ one ∷ []) (is_last one)) lines
unfolding step
feed-item batch items (item.Do command) lines h = refl
feed-item batch items (item.Run leg) lines h = feed-leg_parts batch items false leg.parts leg.close lines h
feed-item batch items (item.End leg) lines h = feed-leg_parts batch items true leg.parts leg.close lines h

feed-items : (batch : ℕ) (read : List Item) (over : Bool) (items : List Item) → AreItems over items
    → feed (behind batch read over) (flat_map item_lines items) ≡ Some (behind batch (read ++ items) (ends_over over items))
unfolding AreItems
feed-items batch read over [] h = ap (λ (all : List Item). Some (behind batch all over)) (sym (append-nil read))
feed-items batch read over (one ∷ items) h =
    ap (λ (b : Bool). feed (behind batch read b) (item_lines one ++ flat_map item_lines items)) h.0
    ∙ feed-item batch read one (flat_map item_lines items) h.1
    ∙ feed-items batch (read ++ one ∷ []) (is_last one) items h.2
    ∙ ap (λ (all : List Item). Some (behind batch all (ends_over (is_last one) items))) (append_assoc read (one ∷ []) items)

-- ---- reading

finish-behind : (number batch : ℕ) (items : List Item) (over : Bool) → finish number (behind batch items over) ≡ Ok (record { batch = batch; items = items })
unfolding finish
finish-behind number batch items false = refl
finish-behind number batch items true = refl

read_on-step : (number : ℕ) (lines : List Line) (last : Reading) (log : Log)
    → ((next : Reading) → feed next lines ≡ Some last → read_on (number + 1) next (map spell lines) ≡ Ok log)
    → (found : Option Reading) → option_and_then (λ next. feed next lines) found ≡ Some last
    → next_or number found (λ next. read_on (number + 1) next (map spell lines)) ≡ Ok log
read_on-step number lines last log rest None fed = cc
read_on-step number lines last log rest (Some next) fed = rest next fed

-- where the lines can be fed, they are read
read_on-feed : (number : ℕ) (reading : Reading) (lines : List Line) (last : Reading) (log : Log) → AreLines lines
    → feed reading lines ≡ Some last → ((n : ℕ) → finish n last ≡ Ok log) → read_on number reading (map spell lines) ≡ Ok log
unfolding read_on
read_on-feed number reading [] last log h fed ends =
    let same : reading ≡ last = cc in
    ap (finish number) same ∙ ends number
read_on-feed number reading (one ∷ lines) last log h fed ends =
    ap (λ (o : Option Line). next_or number (option_and_then (step reading) o) (λ next. read_on (number + 1) next (map spell lines))) (parse-spell one h.0)
    ∙ read_on-step number lines last log (λ next rest. read_on-feed (number + 1) next lines last log h.1 rest ends) (step reading one) fed

-- the lines of a log read as that log
pub read_lines-log_lines : (log : Log) → IsLog log → read_lines (map spell (log_lines log)) ≡ Ok log
unfolding read_lines
read_lines-log_lines log h =
    ap (λ (o : Option Line). next_or 1 (option_and_then start o) (λ reading. read_on 2 reading (map spell (flat_map item_lines log.items))))
    (parse-spell (line.Head log.batch) h.batch)
    ∙ read_on-feed 2 (behind log.batch [] false) (flat_map item_lines log.items) (behind log.batch log.items (ends_over false log.items)) log
    (AreLines-items false log.items h.items) (feed-items log.batch [] false log.items h.items)
    (λ n. finish-behind n log.batch log.items (ends_over false log.items))
