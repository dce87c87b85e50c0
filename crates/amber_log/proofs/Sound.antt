-- What is read is a log whose lines these are.
use Rattle.std.proofs.Common.{◌≡◌, ◌==◌, ℕ, ◌+◌, ◌^◌, ◌<◌, ◌≤◌, ◌&&◌, ◌||◌, ◌++◌, Bool, true, false, List, [], ◌∷◌, length, map, Option, Some, None, Result, Ok, Err, refl, sym, ap, ◌∙◌, arith, append_assoc, append-nil}
use Rattle.std.specs.Prelude.{IfOk, IfSome, nat_lt, option_and_then}
use Rattle.std.specs.List.{flat_map, join_with_byte, slice_split}
use Rattle.std.proofs.lemmas.Bool.{and_parts, cond_both, ltb-true}
use Rattle.std.proofs.lemmas.List.{map-append}
use Rattle.std.proofs.lemmas.List.Concat.{flat_map-append}
use Rattle.std.proofs.lemmas.List.Splits.{join_with_byte-slice_split}
use Rattle.amber_log.specs.Grammar.{AreEntries, AreItems, AreParts, IsBatch, IsItem, IsLeg, IsLine, IsLog, IsPart, ends_go, ends_over, is_go, is_last, is_long}
use Rattle.amber_log.specs.LogText.{item_lines, leg_lines, log_lines, part_lines}
use Rattle.amber_log.specs.ReadLines.{behind_item, with_leg, finish, finish_at, leg_item, next_or, part_of, read_on, step, step_at, step_inside}
use Rattle.amber_log.specs.ReadWords.{line_of, parse}
use Rattle.amber_log.specs.Words.{spell}
use Rattle.amber_log.specs.declared.entry.Entry.{Entry}
use Rattle.amber_log.specs.declared.leg.Close.{Close}
use Rattle.amber_log.specs.declared.leg.Leg.{Leg}
use Rattle.amber_log.specs.declared.leg.Part.{Part}
use Rattle.amber_log.specs.declared.log.Item.{Item}
use Rattle.amber_log.specs.declared.log.Item.TheVariants as item
use Rattle.amber_log.specs.declared.log.Log.{Log}
use Rattle.amber_log.specs.declared.line.Line.{Line}
use Rattle.amber_log.specs.declared.line.Line.TheVariants as line
use Rattle.amber_log.specs.declared.reading.Place.{Place}
use Rattle.amber_log.specs.declared.reading.Place.TheVariants as place
use Rattle.amber_log.specs.declared.reading.Reading.{Reading}
use Rattle.amber_log.proofs.FoundWords.{Spells, line_of-found}
use Rattle.amber_log.proofs.Pushes.{AreEntries-push, AreItems-push, ends_go-push, ends_over-push}

-- ---- a line's bytes

-- these bytes are this line
abbrev pub IsSpelled : List ℕ → Line → Type 0
IsSpelled bytes one = (bytes ≡ spell one) × IsLine one

parse-by_words : (bytes : List ℕ) (found : Option Line) → IfSome found (Spells (slice_split (λ (b : ℕ). b == 32) bytes)) → IfSome found (IsSpelled bytes)
parse-by_words bytes None h = tt
parse-by_words bytes (Some one) h = (sym (join_with_byte-slice_split 32 bytes) ∙ ap (join_with_byte 32) h.0, h.1)

-- bytes that read as a line are that line's
pub parse-found : (bytes : List ℕ) → IfSome (parse bytes) (IsSpelled bytes)
unfolding parse
parse-found bytes =
    parse-by_words bytes (line_of (slice_split (λ (b : ℕ). b == 32) bytes)) (line_of-found (slice_split (λ (b : ℕ). b == 32) bytes))

-- ---- the lines that were read

abbrev pub opening : Bool → Line
opening false = line.Run
opening true = line.End

abbrev pub lines_at : List Line → Place → List Line
lines_at before place.Outside = before
lines_at before place.Over = before
lines_at before (place.Opened end) = before ++ opening end ∷ []
lines_at before (place.Inside end parts worker entries gone) = before ++ opening end ∷ (flat_map part_lines parts ++ part_lines (part_of worker entries))

-- the lines of what was read so far
abbrev pub lines_read : Reading → List Line
lines_read reading = line.Head reading.batch ∷ lines_at (flat_map item_lines reading.items) reading.place

abbrev at : ℕ → List Item → Place → Reading
at batch items place = record { batch = batch; items = items; place = place }

-- the line was added
abbrev pub Adds : Reading → Line → Reading → Type 0
Adds reading one next = lines_read next ≡ lines_read reading ++ one ∷ []

items-push : (items : List Item) (one : Item) → flat_map item_lines (items ++ one ∷ []) ≡ flat_map item_lines items ++ item_lines one
items-push items one =
    flat_map-append item_lines items (one ∷ []) ∙ ap (λ (l : List Line). flat_map item_lines items ++ l) (append-nil (item_lines one))

parts-push : (parts : List Part) (part : Part) → flat_map part_lines (parts ++ part ∷ []) ≡ flat_map part_lines parts ++ part_lines part
parts-push parts part =
    flat_map-append part_lines parts (part ∷ []) ∙ ap (λ (l : List Line). flat_map part_lines parts ++ l) (append-nil (part_lines part))

lines_at-behind : (before : List Line) (over : Bool) → lines_at before (behind_item over) ≡ before
lines_at-behind before false = refl
lines_at-behind before true = refl

item_lines-leg : (end : Bool) (leg : Leg) → item_lines (leg_item end leg) ≡ opening end ∷ leg_lines leg
item_lines-leg false leg = refl
item_lines-leg true leg = refl

-- the lines after a leg of these parts
lines_read-with_leg : (batch : ℕ) (items : List Item) (place : Place) (end : Bool) (parts : List Part) (close : Close)
    → lines_read (with_leg (at batch items place) end parts close)
    ≡ line.Head batch ∷ ((flat_map item_lines items ++ opening end ∷ flat_map part_lines parts) ++ line.Close close ∷ [])
lines_read-with_leg batch items place end parts close =
    let leg : Leg = record { parts = parts; close = close } in
    ap (λ (l : List Line). line.Head batch ∷ l)
    (lines_at-behind (flat_map item_lines (items ++ leg_item end leg ∷ [])) (end || is_long close)
    ∙ items-push items (leg_item end leg)
    ∙ ap (λ (l : List Line). flat_map item_lines items ++ l) (item_lines-leg end leg)
    ∙ sym (append_assoc (flat_map item_lines items) (opening end ∷ flat_map part_lines parts) (line.Close close ∷ [])))

regroup_entry : (before steps : List Line) (first : Line) (others : List Line) (worker last : Line)
    → before ++ (first ∷ (others ++ (worker ∷ (steps ++ last ∷ [])))) ≡ (before ++ (first ∷ (others ++ (worker ∷ steps)))) ++ last ∷ []
regroup_entry before steps first others worker last = simp append_assoc

step_inside-adds : (batch : ℕ) (items : List Item) (end : Bool) (parts : List Part) (worker : ℕ) (entries : List Entry) (gone : Bool) (one : Line)
    → IfSome (step_inside (at batch items (place.Inside end parts worker entries gone)) end parts worker entries gone one)
    (Adds (at batch items (place.Inside end parts worker entries gone)) one)
step_inside-adds batch items end parts worker entries gone (line.Head b) = tt
step_inside-adds batch items end parts worker entries gone (line.Do command) = tt
step_inside-adds batch items end parts worker entries gone line.Run = tt
step_inside-adds batch items end parts worker entries gone line.End = tt
step_inside-adds batch items end parts worker entries gone (line.Worker next) =
    let before = flat_map item_lines items in
    let part = part_of worker entries in
    cond_both (nat_lt 0 (length entries) && nat_lt worker next) _ None
    (λ o. IfSome o (Adds (at batch items (place.Inside end parts worker entries gone)) (line.Worker next)))
    (λ e. ap (λ (l : List Line). line.Head batch ∷ (before ++ opening end ∷ (l ++ line.Worker next ∷ []))) (parts-push parts part)
    ∙ ap (λ (l : List Line). line.Head batch ∷ l) (sym (append_assoc before (opening end ∷ (flat_map part_lines parts ++ part_lines part)) (line.Worker next ∷ []))))
    (λ e. tt)
step_inside-adds batch items end parts worker entries gone (line.Entry entry) =
    let before = flat_map item_lines items in
    let steps = map (λ one. line.Entry one) entries in
    cond_both (gone && is_go entry) None _ (λ o. IfSome o (Adds (at batch items (place.Inside end parts worker entries gone)) (line.Entry entry)))
    (λ e. tt)
    (λ e. ap (λ (l : List Line). line.Head batch ∷ (before ++ opening end ∷ (flat_map part_lines parts ++ (line.Worker worker ∷ l)))) (map-append {A = Entry} (λ one. line.Entry one) entries (entry ∷ []))
    ∙ ap (λ (l : List Line). line.Head batch ∷ l) (regroup_entry before steps (opening end) (flat_map part_lines parts) (line.Worker worker) (line.Entry entry)))
step_inside-adds batch items end parts worker entries gone (line.Close close) =
    let before = flat_map item_lines items in
    let part = part_of worker entries in
    cond_both (nat_lt 0 (length entries)) _ None (λ o. IfSome o (Adds (at batch items (place.Inside end parts worker entries gone)) (line.Close close)))
    (λ e. lines_read-with_leg batch items (place.Inside end parts worker entries gone) end (parts ++ part ∷ []) close
    ∙ ap (λ (l : List Line). line.Head batch ∷ ((before ++ opening end ∷ l) ++ line.Close close ∷ [])) (parts-push parts part))
    (λ e. tt)

step_at-adds : (batch : ℕ) (items : List Item) (here : Place) (one : Line) → IfSome (step_at (at batch items here) here one) (Adds (at batch items here) one)
step_at-adds batch items place.Outside (line.Head b) = tt
step_at-adds batch items place.Outside (line.Do command) = ap (λ (l : List Line). line.Head batch ∷ l) (items-push items (item.Do command))
step_at-adds batch items place.Outside line.Run = refl
step_at-adds batch items place.Outside line.End = refl
step_at-adds batch items place.Outside (line.Worker worker) = tt
step_at-adds batch items place.Outside (line.Entry entry) = tt
step_at-adds batch items place.Outside (line.Close close) = tt
step_at-adds batch items place.Over one = tt
step_at-adds batch items (place.Opened end) (line.Head b) = tt
step_at-adds batch items (place.Opened end) (line.Do command) = tt
step_at-adds batch items (place.Opened end) line.Run = tt
step_at-adds batch items (place.Opened end) line.End = tt
step_at-adds batch items (place.Opened end) (line.Worker worker) =
    ap (λ (l : List Line). line.Head batch ∷ l) (sym (append_assoc (flat_map item_lines items) (opening end ∷ []) (line.Worker worker ∷ [])))
step_at-adds batch items (place.Opened end) (line.Entry entry) = tt
step_at-adds batch items (place.Opened end) (line.Close close) = lines_read-with_leg batch items (place.Opened end) end [] close
step_at-adds batch items (place.Inside end parts worker entries gone) one = step_inside-adds batch items end parts worker entries gone one

-- a step adds its line
pub step-adds : (reading : Reading) (one : Line) → IfSome (step reading one) (Adds reading one)
unfolding step
step-adds reading one = step_at-adds reading.batch reading.items reading.place one

-- ---- what was read is in the grammar

-- the least number that the next worker may have
abbrev pub next_worker : ℕ → List Part → ℕ
next_worker least [] = least
next_worker least (part ∷ parts) = next_worker (part.worker + 1) parts

AreParts-push : (least : ℕ) (parts : List Part) (last : Part) → AreParts least parts → next_worker least parts ≤ last.worker → IsPart last → AreParts least (parts ++ last ∷ [])
unfolding AreParts
AreParts-push least [] last h rises is = (rises, is, tt)
AreParts-push least (part ∷ parts) last h rises is = (h.0, h.1, AreParts-push (part.worker + 1) parts last h.2 rises is)

next_worker-push : (least : ℕ) (parts : List Part) (last : Part) → next_worker least (parts ++ last ∷ []) ≡ last.worker + 1
next_worker-push least [] last = refl
next_worker-push least (part ∷ parts) last = next_worker-push (part.worker + 1) parts last

-- a part that was begun
pub record IsBegun (before : List Part) (number : ℕ) (steps : List Entry) (went : Bool) : Type 0 where
  pub parts : AreParts 0 before
  pub rises : next_worker 0 before ≤ number
  pub worker : number < 2 ^ 32
  pub entries : AreEntries false steps
  pub gone : ends_go false steps ≡ went

abbrev pub IsPlace : Place → Type 0
IsPlace place.Outside = Unit {0}
IsPlace place.Over = Unit {0}
IsPlace (place.Opened end) = Unit {0}
IsPlace (place.Inside end parts worker entries gone) = IsBegun parts worker entries gone

-- whether nothing may follow
abbrev pub is_over : Place → Bool
is_over place.Outside = false
is_over place.Over = true
is_over (place.Opened end) = false
is_over (place.Inside end parts worker entries gone) = false

pub record IsReading (reading : Reading) : Type 0 where
  pub batch : IsBatch reading.batch
  pub items : AreItems false reading.items
  pub over : ends_over false reading.items ≡ is_over reading.place
  pub place : IsPlace reading.place

is_over-behind : (over : Bool) → is_over (behind_item over) ≡ over
is_over-behind false = refl
is_over-behind true = refl

IsPlace-behind : (over : Bool) → IsPlace (behind_item over)
IsPlace-behind false = tt
IsPlace-behind true = tt

IsItem-leg : (end : Bool) (leg : Leg) → IsLeg leg → IsItem (leg_item end leg)
IsItem-leg false leg h = h
IsItem-leg true leg h = h

is_last-leg : (end : Bool) (leg : Leg) → is_last (leg_item end leg) ≡ (end || is_long leg.close)
is_last-leg false leg = refl
is_last-leg true leg = refl

with_leg-is : (batch : ℕ) (items : List Item) (here : Place) (end : Bool) (parts : List Part) (close : Close)
    → IsBatch batch → AreItems false items → ends_over false items ≡ false → AreParts 0 parts → IsReading (with_leg (at batch items here) end parts close)
with_leg-is batch items here end parts close b h may p =
    let leg : Leg = record { parts = parts; close = close } in
    record {
      batch = b;
      items = AreItems-push false items (leg_item end leg) h (IsItem-leg end leg p) may;
      over = ends_over-push false items (leg_item end leg) ∙ is_last-leg end leg ∙ sym (is_over-behind (end || is_long close));
      place = IsPlace-behind (end || is_long close);
    }

-- the part that was begun ends here
part_ends : (parts : List Part) (worker : ℕ) (entries : List Entry) (gone : Bool) → IsBegun parts worker entries gone → nat_lt 0 (length entries) ≡ true
    → AreParts 0 (parts ++ part_of worker entries ∷ [])
part_ends parts worker entries gone h some =
    AreParts-push 0 parts (part_of worker entries) h.parts h.rises (record { worker = h.worker; some = ltb-true 0 (length entries) some; entries = h.entries })

step_inside-is : (batch : ℕ) (items : List Item) (end : Bool) (parts : List Part) (worker : ℕ) (entries : List Entry) (gone : Bool) (one : Line)
    → IsReading (at batch items (place.Inside end parts worker entries gone)) → IsLine one
    → IfSome (step_inside (at batch items (place.Inside end parts worker entries gone)) end parts worker entries gone one) IsReading
unfolding AreEntries
step_inside-is batch items end parts worker entries gone (line.Head b) r h = tt
step_inside-is batch items end parts worker entries gone (line.Do command) r h = tt
step_inside-is batch items end parts worker entries gone line.Run r h = tt
step_inside-is batch items end parts worker entries gone line.End r h = tt
step_inside-is batch items end parts worker entries gone (line.Worker next) r h =
    cond_both (nat_lt 0 (length entries) && nat_lt worker next) _ None (λ o. IfSome o IsReading)
    (λ e. let both = and_parts (nat_lt 0 (length entries)) (nat_lt worker next) e in
    let rises : worker < next = ltb-true worker next both.1 in
    let last = next_worker-push 0 parts (part_of worker entries) in
    record {
      batch = r.batch;
      items = r.items;
      over = r.over;
      place = record {
        parts = part_ends parts worker entries gone r.place both.0;
        rises = omega (arith, last);
        worker = h;
        entries = tt;
        gone = refl;
      };
    })
    (λ e. tt)
step_inside-is batch items end parts worker entries gone (line.Entry entry) r h =
    cond_both (gone && is_go entry) None _ (λ o. IfSome o IsReading)
    (λ e. tt)
    (λ e. record {
      batch = r.batch;
      items = r.items;
      over = r.over;
      place = record {
        parts = r.place.parts;
        rises = r.place.rises;
        worker = r.place.worker;
        entries = AreEntries-push false entries entry r.place.entries h (ap (λ (b : Bool). b && is_go entry) r.place.gone ∙ e);
        gone = ends_go-push false entries entry;
      };
    })
step_inside-is batch items end parts worker entries gone (line.Close close) r h =
    cond_both (nat_lt 0 (length entries)) _ None (λ o. IfSome o IsReading)
    (λ e. with_leg-is batch items (place.Inside end parts worker entries gone) end (parts ++ part_of worker entries ∷ []) close r.batch r.items r.over (part_ends parts worker entries gone r.place e))
    (λ e. tt)

step_at-is : (batch : ℕ) (items : List Item) (here : Place) (one : Line) → IsReading (at batch items here) → IsLine one → IfSome (step_at (at batch items here) here one) IsReading
unfolding AreParts AreEntries
step_at-is batch items place.Outside (line.Head b) r h = tt
step_at-is batch items place.Outside (line.Do command) r h =
    record { batch = r.batch; items = AreItems-push false items (item.Do command) r.items h r.over; over = ends_over-push false items (item.Do command); place = tt }
step_at-is batch items place.Outside line.Run r h = record { batch = r.batch; items = r.items; over = r.over; place = tt }
step_at-is batch items place.Outside line.End r h = record { batch = r.batch; items = r.items; over = r.over; place = tt }
step_at-is batch items place.Outside (line.Worker worker) r h = tt
step_at-is batch items place.Outside (line.Entry entry) r h = tt
step_at-is batch items place.Outside (line.Close close) r h = tt
step_at-is batch items place.Over one r h = tt
step_at-is batch items (place.Opened end) (line.Head b) r h = tt
step_at-is batch items (place.Opened end) (line.Do command) r h = tt
step_at-is batch items (place.Opened end) line.Run r h = tt
step_at-is batch items (place.Opened end) line.End r h = tt
step_at-is batch items (place.Opened end) (line.Worker worker) r h =
    record { batch = r.batch; items = r.items; over = r.over; place = record { parts = tt; rises = omega arith; worker = h; entries = tt; gone = refl } }
step_at-is batch items (place.Opened end) (line.Entry entry) r h = tt
step_at-is batch items (place.Opened end) (line.Close close) r h = with_leg-is batch items (place.Opened end) end [] close r.batch r.items r.over tt
step_at-is batch items (place.Inside end parts worker entries gone) one r h = step_inside-is batch items end parts worker entries gone one r h

-- a step stays in the grammar
pub step-is : (reading : Reading) (one : Line) → IsReading reading → IsLine one → IfSome (step reading one) IsReading
unfolding step
step-is reading one r h = step_at-is reading.batch reading.items reading.place one r h

-- ---- reading

-- the log has these lines after those that were read
pub record IsLogOf (reading : Reading) (lines : List (List ℕ)) (log : Log) : Type 0 where
  pub legal : IsLog log
  pub fed : List Line
  pub spelled : map spell fed ≡ lines
  pub whole : lines_read reading ++ fed ≡ log_lines log

finish_at-found : (number batch : ℕ) (items : List Item) (here : Place) → IsReading (at batch items here)
    → IfOk (finish_at number (at batch items here) here) (IsLogOf (at batch items here) [])
finish_at-found number batch items place.Outside r =
    record { legal = record { batch = r.batch; items = r.items }; fed = []; spelled = refl; whole = append-nil (line.Head batch ∷ flat_map item_lines items) }
finish_at-found number batch items place.Over r =
    record { legal = record { batch = r.batch; items = r.items }; fed = []; spelled = refl; whole = append-nil (line.Head batch ∷ flat_map item_lines items) }
finish_at-found number batch items (place.Opened end) r = tt
finish_at-found number batch items (place.Inside end parts worker entries gone) r = tt

-- one line more in front
in_front : (reading next : Reading) (one : Line) (bytes : List ℕ) (lines : List (List ℕ)) (result : Result Log ℕ) → bytes ≡ spell one → Adds reading one next
    → IfOk result (IsLogOf next lines) → IfOk result (IsLogOf reading (bytes ∷ lines))
in_front reading next one bytes lines (Err number) spelled adds h = tt
in_front reading next one bytes lines (Ok log) spelled adds h =
    record {
      legal = h.legal;
      fed = one ∷ h.fed;
      spelled = ap (λ (l : List (List ℕ)). spell one ∷ l) h.spelled ∙ ap (λ (b : List ℕ). b ∷ lines) (sym spelled);
      whole = sym (append_assoc (lines_read reading) (one ∷ []) h.fed) ∙ ap (λ (l : List Line). l ++ h.fed) (sym adds) ∙ h.whole;
    }

-- what a reader makes of the lines from here on
abbrev Reads : List (List ℕ) → Type 0
Reads lines = (number : ℕ) (reading : Reading) → IsReading reading → IfOk (read_on number reading lines) (IsLogOf reading lines)

by_step : (number : ℕ) (reading : Reading) (one : Line) (bytes : List ℕ) (lines : List (List ℕ)) (found : Option Reading) → bytes ≡ spell one
    → IfSome found (Adds reading one) → IfSome found IsReading → Reads lines
    → IfOk (next_or number found (λ next. read_on (number + 1) next lines)) (IsLogOf reading (bytes ∷ lines))
by_step number reading one bytes lines None spelled adds is rest = tt
by_step number reading one bytes lines (Some next) spelled adds is rest =
    in_front reading next one bytes lines (read_on (number + 1) next lines) spelled adds (rest (number + 1) next is)

by_line : (number : ℕ) (reading : Reading) (bytes : List ℕ) (lines : List (List ℕ)) (found : Option Line) → IfSome found (IsSpelled bytes) → IsReading reading → Reads lines
    → IfOk (next_or number (option_and_then (step reading) found) (λ next. read_on (number + 1) next lines)) (IsLogOf reading (bytes ∷ lines))
by_line number reading bytes lines None h r rest = tt
by_line number reading bytes lines (Some one) h r rest =
    by_step number reading one bytes lines (step reading one) h.0 (step-adds reading one) (step-is reading one r h.1) rest

-- what is read is a log of these lines
pub read_on-found : (lines : List (List ℕ)) → Reads lines
unfolding read_on finish
read_on-found [] number reading r = finish_at-found number reading.batch reading.items reading.place r
read_on-found (bytes ∷ lines) number reading r = by_line number reading bytes lines (parse bytes) (parse-found bytes) r (read_on-found lines)
