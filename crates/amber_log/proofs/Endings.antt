-- What was read so far can be ended: its lines begin those of a log.
use Rattle.std.proofs.Common.{◌≡◌, ℕ, ◌||◌, ◌++◌, Bool, true, false, List, [], ◌∷◌, length, Some, None, cond, refl, sym, ap, ◌∙◌, arith, append_assoc, append-nil}
use Rattle.std.specs.Prelude.{IfSome, nat_lt}
use Rattle.std.proofs.lemmas.Bool.{cond_both, false≢true, lt-ltb, not-true}
use Rattle.amber_log.specs.Grammar.{IsLog, is_long}
use Rattle.amber_log.specs.LogText.{log_lines}
use Rattle.amber_log.specs.ReadAs.{closes}
use Rattle.amber_log.specs.ReadLines.{behind_item, with_leg, part_of, step, step_at}
use Rattle.amber_log.specs.Words.{spell}
use Rattle.amber_log.specs.declared.command.Command.{Command}
use Rattle.amber_log.specs.declared.entry.Entry.{Entry}
use Rattle.amber_log.specs.declared.entry.Entry.TheVariants as entry
use Rattle.amber_log.specs.declared.leg.Close.{Close}
use Rattle.amber_log.specs.declared.leg.Close.TheVariants as close
use Rattle.amber_log.specs.declared.leg.Part.{Part}
use Rattle.amber_log.specs.declared.log.Item.{Item}
use Rattle.amber_log.specs.declared.log.Log.{Log}
use Rattle.amber_log.specs.declared.line.Line.{Line}
use Rattle.amber_log.specs.declared.line.Line.TheVariants as line
use Rattle.amber_log.specs.declared.reading.Place.{Place}
use Rattle.amber_log.specs.declared.reading.Place.TheVariants as place
use Rattle.amber_log.specs.declared.reading.Reading.{Reading}
use Rattle.amber_log.proofs.Sound.{Adds, IsReading, lines_read, step-adds, step-is}
use Rattle.amber_log.proofs.Whole.{open-end, open-entry, open-run, open-worker}

-- ---- every reading can be ended

-- a log has these lines first
pub record CanEnd (reading : Reading) : Type 0 where
  pub log : Log
  pub text : IsLog log
  pub more : List Line
  pub whole : lines_read reading ++ more ≡ log_lines log

-- with a line that may follow
add : (reading next : Reading) (one : Line) → Adds reading one next → CanEnd next → CanEnd reading
add reading next one adds ends =
    record {
      log = ends.log;
      text = ends.text;
      more = one ∷ ends.more;
      whole = sym (append_assoc (lines_read reading) (one ∷ []) ends.more) ∙ ap (λ (l : List Line). l ++ ends.more) (sym adds) ∙ ends.whole;
    }

abbrev here : ℕ → List Item → Place → Reading
here batch items place = record { batch = batch; items = items; place = place }

-- after an item a log may end
at_rest : (batch : ℕ) (items : List Item) (over : Bool) → IsReading (here batch items (behind_item over)) → CanEnd (here batch items (behind_item over))
at_rest batch items false r =
    record { log = record { batch = batch; items = items }; text = record { batch = r.batch; items = r.items }; more = []; whole = append-nil (lines_read (here batch items place.Outside)) }
at_rest batch items true r =
    record { log = record { batch = batch; items = items }; text = record { batch = r.batch; items = r.items }; more = []; whole = append-nil (lines_read (here batch items place.Over)) }

-- a leg in which nobody did anything may be cut
opened_ends : (batch : ℕ) (items : List Item) (end : Bool) → IsReading (here batch items (place.Opened end)) → CanEnd (here batch items (place.Opened end))
unfolding step
opened_ends batch items end r =
    let now = here batch items (place.Opened end) in
    let next = with_leg now end [] close.Cut in
    add now next (line.Close close.Cut) (step-adds now (line.Close close.Cut))
    (at_rest batch next.items (end || false) (step-is now (line.Close close.Cut) r tt))

-- what holds of a step that is made
made : (may : Bool) (next : Reading) (P : Reading → Type 0) → may ≡ true → IfSome (cond may (Some next) None) P → P next
made true next P e h = h
made false next P e h = absurd (false≢true e)

-- a leg whose last part has an entry may be cut
part_ends : (batch : ℕ) (items : List Item) (end : Bool) (parts : List Part) (worker : ℕ) (entries : List Entry) (gone : Bool)
    → nat_lt 0 (length entries) ≡ true → IsReading (here batch items (place.Inside end parts worker entries gone)) → CanEnd (here batch items (place.Inside end parts worker entries gone))
unfolding step
part_ends batch items end parts worker entries gone some r =
    let now = here batch items (place.Inside end parts worker entries gone) in
    let next = with_leg now end (parts ++ part_of worker entries ∷ []) close.Cut in
    let may = nat_lt 0 (length entries) in
    add now next (line.Close close.Cut) (made may next (Adds now (line.Close close.Cut)) some (step-adds now (line.Close close.Cut)))
    (at_rest batch next.items (end || false) (made may next IsReading some (step-is now (line.Close close.Cut) r tt)))

inside_ends : (batch : ℕ) (items : List Item) (end : Bool) (parts : List Part) (worker : ℕ) (entries : List Entry) (gone : Bool)
    → IsReading (here batch items (place.Inside end parts worker entries gone)) → CanEnd (here batch items (place.Inside end parts worker entries gone))
unfolding step
inside_ends batch items end parts worker [] true r = absurd (false≢true r.place.gone)
inside_ends batch items end parts worker [] false r =
    let now = here batch items (place.Inside end parts worker [] false) in
    let next = here batch items (place.Inside end parts worker (entry.Pause ∷ []) false) in
    add now next (line.Entry entry.Pause) (step-adds now (line.Entry entry.Pause))
    (part_ends batch items end parts worker (entry.Pause ∷ []) false refl (step-is now (line.Entry entry.Pause) r tt))
inside_ends batch items end parts worker (one ∷ entries) gone r =
    part_ends batch items end parts worker (one ∷ entries) gone (lt-ltb 0 (length (one ∷ entries)) (omega arith)) r

by_place : (batch : ℕ) (items : List Item) (place : Place) → IsReading (here batch items place) → CanEnd (here batch items place)
by_place batch items place.Outside r = at_rest batch items false r
by_place batch items place.Over r = at_rest batch items true r
by_place batch items (place.Opened end) r = opened_ends batch items end r
by_place batch items (place.Inside end parts worker entries gone) r = inside_ends batch items end parts worker entries gone r

pub readings_end : (reading : Reading) → IsReading reading → CanEnd reading
readings_end reading r = by_place reading.batch reading.items reading.place r

-- ---- a line that ends an item

-- no leg is open
abbrev pub IsAtRest : Place → Type 0
IsAtRest place.Outside = Unit {0}
IsAtRest place.Over = Unit {0}
IsAtRest (place.Opened end) = ⊥
IsAtRest (place.Inside end parts worker entries gone) = ⊥

abbrev Rests : Reading → Type 0
Rests reading = IsAtRest reading.place

rests_behind : (over : Bool) → IsAtRest (behind_item over)
rests_behind false = tt
rests_behind true = tt

close_rests : (batch : ℕ) (items : List Item) (place : Place) (how : Close) → IfSome (step_at (here batch items place) place (line.Close how)) Rests
close_rests batch items place.Outside how = tt
close_rests batch items place.Over how = tt
close_rests batch items (place.Opened end) how = rests_behind (end || is_long how)
close_rests batch items (place.Inside end parts worker entries gone) how =
    cond_both (nat_lt 0 (length entries)) _ None (λ o. IfSome o Rests) (λ e. rests_behind (end || is_long how)) (λ e. tt)

command_rests : (batch : ℕ) (items : List Item) (place : Place) (command : Command) → IfSome (step_at (here batch items place) place (line.Do command)) Rests
command_rests batch items place.Outside command = tt
command_rests batch items place.Over command = tt
command_rests batch items (place.Opened end) command = tt
command_rests batch items (place.Inside end parts worker entries gone) command = tt

head_stays : (batch : ℕ) → closes (spell (line.Head batch)) ≡ false
unfolding closes
head_stays batch = refl

-- after a line that ends an item no leg is open
pub closing_rests : (reading : Reading) (one : Line) → closes (spell one) ≡ true → IfSome (step reading one) Rests
unfolding step
closing_rests reading (line.Head batch) h = absurd (false≢true (sym (head_stays batch) ∙ h))
closing_rests reading (line.Do command) h = command_rests reading.batch reading.items reading.place command
closing_rests reading line.Run h = absurd (false≢true (sym open-run ∙ h))
closing_rests reading line.End h = absurd (false≢true (sym open-end ∙ h))
closing_rests reading (line.Worker worker) h = absurd (false≢true (sym (not-true (closes (spell (line.Worker worker))) (open-worker worker)) ∙ h))
closing_rests reading (line.Entry one) h = absurd (false≢true (sym (not-true (closes (spell (line.Entry one))) (open-entry one)) ∙ h))
closing_rests reading (line.Close how) h = close_rests reading.batch reading.items reading.place how
