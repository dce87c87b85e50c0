-- A session from its first word to its end.
use Rattle.std.proofs.Common.{◌≡◌, ℕ, ◌≤◌, inr, length, List, ◌++◌, true, false, Ok, Err, ap, subst, ◌∙◌}
use Rattle.std.specs.Str.Lines.{strip_carriage_return}
use Rattle.amber_io.specs.World.{World}
use Rattle.amber_meaning.specs.Legal.{IsLegal}
use Rattle.amber_debug.specs.Session.{Session, query_in}
use Rattle.amber_course.specs.declared.failure.Failure.{Failure}
use Rattle.amber_course.specs.declared.session.SessionJob.{SessionJob}
use Rattle.amber_recorder.specs.Writing.{FailedAs, NoneFailed}
use Rattle.amber_script.specs.Lines.{open_line}
use Rattle.amber_session.specs.Beginning.{AskFor, MakesLog}
use Rattle.amber_session.specs.Dialogue.{IsGoing, most_input}
use Rattle.amber_session.specs.Feeding.{AnswersLast}
use Rattle.amber_session.specs.Running.{CutsOff, HaltLeaves, HasBeenCut, HasBegun, HasCome, HasFed, HasRun, IsAllOf, IsSized, Supply, Surroundings, failure_of, origin_of, plan_of}
use Rattle.amber_session.specs.Spoken.{IsCutShort, IsAllDone}
use Rattle.amber_session.specs.declared.dialogue.Dialogue.{Dialogue}
use Rattle.amber_session.specs.declared.halt.Halt.{Halt}
use Rattle.amber_session.specs.declared.halt.Halt.TheVariants as halt
use Rattle.amber_session.proofs.Running.{come-begun, finish-cuts, finish-done, finish-may, loads-same, stretch_at}

-- a session that was begun: its words, what there was before it, and what there is behind the making of its log
pub record Begun : Type 0 where
  pub words : List (List ℕ)
  pub before : Surroundings
  pub after : Surroundings

-- it was begun for this job
pub record IsOpened (b : Begun) (job : SessionJob) (d : Dialogue) : Type 0 where
  pub asked : AskFor b.words b.before.world.files job
  pub loads : b.after.world.loads ≡ b.before.world.loads
  pub begins : MakesLog (Ok d) job b.before.world b.after.world
  pub going : IsGoing d
  pub supply : b.after.supply ≡ b.before.supply

begun-by : (b : Begun) (job : SessionJob) (d : Dialogue) (after : Surroundings) → IsOpened b job d → after.world.loads ≡ b.after.world.loads → HasBegun b.words job b.before after
begun-by b job d after h same = record { asked = h.asked; loads = same ∙ h.loads }

come-by : (b : Begun) (job : SessionJob) (d : Dialogue) → IsOpened b job d → HasCome (origin_of b.before.world) job d b.after.world
come-by b job d h = come-begun job d b.before.world b.after.world h.begins h.going

-- nothing was fed before
first-fed : (b : Begun) (job : SessionJob) (d : Dialogue) (input : List ℕ) → IsOpened b job d → d.input.bytes.items ++ input ≡ input
first-fed b job d input h = ap (λ l. l ++ input) h.begins.0.fed

left-before : (b : Begun) (job : SessionJob) (d : Dialogue) → IsOpened b job d → b.after.supply.left ≡ b.before.supply.left
left-before b job d h = ap (λ (s : Supply). s.left) h.supply

halt-cut : (h : Halt) (words : List (List ℕ)) (before after : Surroundings) → HasBeenCut h words before after → HaltLeaves h words before after
halt-cut (halt.Failure f) words before after c = inr c
halt-cut (halt.Input fault) words before after c = c

-- it was cut short while it was fed
pub cut-feeding : (h : Halt) (b : Begun) (job : SessionJob) (d new : Dialogue) (after : Surroundings) → IsOpened b job d → CutsOff h (record { old = d; new = new; before = b.after; after = after })
    → FailedAs (failure_of h) b.after.world after.world → HaltLeaves h b.words b.before after
cut-feeding h b job d new after opened c failed =
    let first = first-fed b job d c.input opened in
    halt-cut h b.words b.before after (record {
      may = c.may;
      job = job;
      begun = begun-by b job d after opened (loads-same (failure_of h) b.after.world after.world failed);
      input = c.input;
      taken = rw (left-before b job d opened) at c.taken;
      sized = subst (IsSized h) first c.sized;
      over = false;
      ends = λ e. let never : false ≡ true = e in cc;
      cut = subst (λ input. IsCutShort (failure_of h) (origin_of b.before.world) (plan_of job input false) after.world) first
          (c.cut (origin_of b.before.world) job (come-by b job d opened));
    })

-- a session whose input is over
pub record IsOver (b : Begun) (d : Dialogue) (at : Surroundings) (last : Dialogue) : Type 0 where
  pub input : List ℕ
  pub fed : HasFed (record { old = d; new = last; before = b.after; after = at }) input
  pub all : IsAllOf input b.after.supply.left
  pub going : IsGoing last
  pub failed : NoneFailed b.after.world at.world

over-fed : (b : Begun) (job : SessionJob) (d : Dialogue) (at : Surroundings) (last : Dialogue) → IsOpened b job d → (o : IsOver b d at last) → last.input.bytes.items ≡ o.input
over-fed b job d at last opened o = o.fed.fed ∙ first-fed b job d o.input opened

few-fed : (b : Begun) (job : SessionJob) (d : Dialogue) (at : Surroundings) (last : Dialogue) → IsOpened b job d → (o : IsOver b d at last) → length o.input ≤ most_input
few-fed b job d at last opened o = subst (λ input. length input ≤ most_input) (over-fed b job d at last opened o) o.going.few

-- its last line was not answered, or the end did not come
pub cut-finishing : (f : Failure) (b : Begun) (job : SessionJob) (d last : Dialogue) (new : Session) (at : Surroundings) (world : World) → IsOpened b job d → IsOver b d at last
    → AnswersLast (Err f) (stretch_at last new at.world world) (strip_carriage_return (open_line last.input.bytes.items)) → IsLegal (query_in new) new.log → FailedAs f at.world world
    → HaltLeaves (halt.Failure f) b.words b.before (record { world = world; supply = at.supply })
cut-finishing f b job d last new at world opened o finishes legal failed =
    let come = o.fed.come (origin_of b.before.world) job (come-by b job d opened) in
    halt-cut (halt.Failure f) b.words b.before (record { world = world; supply = at.supply }) (record {
      may = finish-may f (stretch_at last new at.world world) (strip_carriage_return (open_line last.input.bytes.items)) finishes;
      job = job;
      begun = begun-by b job d (record { world = world; supply = at.supply }) opened (loads-same f at.world world failed ∙ o.failed.0);
      input = o.input;
      taken = rw (left-before b job d opened) at o.fed.taken;
      sized = few-fed b job d at last opened o;
      over = true;
      ends = λ e. subst (IsAllOf o.input) (left-before b job d opened) o.all;
      cut = subst (λ input. IsCutShort f (origin_of b.before.world) (plan_of job input true) world) (over-fed b job d at last opened o)
          (finish-cuts f (origin_of b.before.world) job last new at.world world o.going come finishes legal);
    })

-- it came to its end
pub run-finished : (b : Begun) (job : SessionJob) (d last : Dialogue) (new : Session) (at : Surroundings) (world : World) → IsOpened b job d → IsOver b d at last
    → AnswersLast (Ok tt) (stretch_at last new at.world world) (strip_carriage_return (open_line last.input.bytes.items)) → IsLegal (query_in new) new.log → NoneFailed at.world world
    → HasRun b.words b.before (record { world = world; supply = at.supply })
run-finished b job d last new at world opened o finishes legal failed =
    let come = o.fed.come (origin_of b.before.world) job (come-by b job d opened) in
    record {
      job = job;
      begun = begun-by b job d (record { world = world; supply = at.supply }) opened (failed.0 ∙ o.failed.0);
      input = o.input;
      few = few-fed b job d at last opened o;
      taken = rw (left-before b job d opened) at o.fed.taken;
      whole = subst (IsAllOf o.input) (left-before b job d opened) o.all;
      done = subst (λ input. IsAllDone (origin_of b.before.world) job input world) (over-fed b job d at last opened o)
          (finish-done (origin_of b.before.world) job last new at.world world o.going come finishes legal);
    }
