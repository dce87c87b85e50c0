-- A batch that is taken again where it may be and comes next, and not elsewhere.
use Rattle.std.proofs.Common.{◌≡◌, ◌≢◌, ℕ, suc, ◌<◌, ◌^◌, eqb, ◌&&◌, ◌||◌, not, List, [], ◌∷◌, ◌++◌, length, get_or, All, Option, Some, None, Bool, true, false, if◌then◌else◌, refl, sym, ap, ◌∙◌, arith, subst}
use Rattle.std.specs.List.{list_any}
use Rattle.std.specs.Option.{is_some}
use Rattle.std.proofs.lemmas.Bool.{and_from, and_parts, eq-eqb, eqb-true, false≢true, or_left, or_right}
use Rattle.amber_rows.specs.Lists.{first_of}
use Rattle.amber_rows.specs.declared.batch.Batch.{Batch}
use Rattle.amber_log.specs.declared.entry.Entry.TheVariants as entry
use Rattle.amber_meaning.specs.Position.{Taken, has_last, have_ended, taken_from}
use Rattle.amber_meaning.specs.Rules.{may_take_from, with_batch, with_offered}
use Rattle.amber_meaning.specs.Task.{Role, Task, is_builder}
use Rattle.amber_meaning.proofs.Led.{Leads-push}
use Rattle.amber_meaning.proofs.Lists.{list_all-member}
use Rattle.amber_link.specs.Links.{has_some, waiting}
use Rattle.amber_link.specs.Sides.{AreLooked, IsLooked, Pairwise, comes_next, have_builders_ended, may_come}
use Rattle.amber_link.specs.declared.upstreams.Upstream.{Upstream}
use Rattle.amber_link.proofs.SameEnds.{looked-ends, receivers-same, senders-then, taken-ends}
use Rattle.amber_link.proofs.Sides.{looked-then, may-wait, pairwise-then}
use Rattle.amber_worker.specs.AtPosition.{IsAtPosition, IsLookedAt, ReceiveAll}
use Rattle.amber_worker.specs.Fields.{rows_moved}
use Rattle.amber_worker.specs.Redoable.{TakesAt, is_through}
use Rattle.amber_worker.specs.Redoing.{CannotRedo, HasRedone, LogLine, NeverMeets, StandsAfterLine, batch_from, before_line, hand_before, log_line, next_batch, with_hand}
use Rattle.amber_worker.specs.Steps.{batch_taken}
use Rattle.amber_worker.specs.WorkerState.{WorkerState, stands_still}
use Rattle.amber_worker.specs.declared.redoing.Armed.{Armed}
use Rattle.amber_worker.proofs.Journals.{AreEntries-push}
use Rattle.amber_worker.proofs.Moves.{IsWorking}
use Rattle.amber_worker.proofs.Received.{is-sender}
use Rattle.amber_worker.proofs.LinesNoted.{cannot-redo, free-still}
use Rattle.amber_worker.proofs.LinesFinish.{IsThrough}
use Rattle.amber_worker.proofs.Selves.{turned-constants}
use Rattle.amber_worker.proofs.Takes.{TakesOne, may-take, shows-batch_taken, shows-looked, stands-looked}
use Rattle.amber_worker.proofs.Turns.{same-after}

-- ---- the place

at-front : {A : Type 0} (R : A → A → Type 0) (front back : List A) (y : A) (xs : List A) → Pairwise R xs (front ++ y ∷ back) → (d : A) → R (get_or xs (length front) d) y
unfolding Pairwise
at-front R [] back y [] h d = absurd h
at-front R [] back y (x ∷ xs) h d = h.0
at-front R (z ∷ front) back y [] h d = absurd h
at-front R (z ∷ front) back y (x ∷ xs) h d = at-front R front back y xs h.1 d

get-front : {A : Type 0} (front back : List A) (y d : A) → get_or (front ++ y ∷ back) (length front) d ≡ y
get-front [] back y d = refl
get-front (z ∷ front) back y d = get-front front back y d

-- the sender whose batch was taken stands at the place
place-is : (place : ℕ) (w new : WorkerState) (t : TakesAt place w new) → length t.takes.taken.front ≡ place
place-is place w new t = by (eqb (length front) place) refl
  where
    front : List Upstream
    front = t.takes.taken.front

    d : Upstream
    d = t.takes.one

    changed : (length front ≢ place) → ⊥
    changed apart =
        let looked = at-front IsLooked front t.takes.taken.back t.takes.one w.ins (subst (AreLooked w.ins) t.takes.taken.found t.takes.looked) d in
        let now_is : get_or new.ins (length front) d ≡ t.takes.taken.now =
        ap (λ (s : WorkerState). get_or s.ins (length front) d) t.takes.after ∙ ap (λ l. get_or l (length front) d) t.takes.taken.after_it ∙ get-front front t.takes.taken.back t.takes.taken.now d in
        let more = ap (λ (s : Upstream). s.taken) t.takes.taken.is in
        let same = ap (λ (s : Upstream). s.taken) looked.only in
        let still = ap (λ (s : Upstream). s.taken) (sym now_is ∙ t.others (length front) d apart) in
        omega (arith, more, same, still)

    by : (b : Bool) → eqb (length front) place ≡ b → length front ≡ place
    by true e = eqb-true (length front) place e
    by false e = absurd (changed (λ same. false≢true (sym e ∙ eq-eqb (length front) place same)))

-- what is known of the one whose batch comes next
pub record IsNext (from number : ℕ) (one : Upstream) (batch : Batch) : Type 0 where
  pub from_is : one.from ≡ from
  pub number_is : one.taken ≡ number
  pub next : next_batch one ≡ Some batch

some-more : {A : Type 0} (xs more ys : List A) → has_some xs ≡ true → xs ++ more ≡ ys → has_some ys ≡ true
some-more [] more ys some is = absurd (false≢true some)
some-more (x ∷ xs) more ys some is = ap has_some (sym is)

first-waits : {A : Type 0} (xs more ys : List A) (y : A) → has_some xs ≡ true → xs ++ more ≡ y ∷ ys → first_of xs ≡ Some y
first-waits [] more ys y some is = absurd (false≢true some)
first-waits (x ∷ xs) more ys y some is = ap first_of is

next-is : (place : ℕ) (w new : WorkerState) (t : TakesAt place w new) (built : Bool) (from number : ℕ)
    → ((d : Upstream) → comes_next built from number (get_or w.ins place d) ≡ true) → IsNext from number t.takes.one t.takes.batch
next-is place w new t built from number comes =
    let so = t.takes.taken in
    let d : Upstream = t.takes.one in
    let looked = at-front IsLooked so.front so.back t.takes.one w.ins (subst (AreLooked w.ins) so.found t.takes.looked) d in
    let here = subst (λ i. comes_next built from number (get_or w.ins i d) ≡ true) (sym (place-is place w new t)) (comes d) in
    let old : Upstream = get_or w.ins (length so.front) d in
    let parts = and_parts (eqb old.from from && eqb old.taken number) (may_come built old) here in
    let both = and_parts (eqb old.from from) (eqb old.taken number) parts.0 in
    let waits = some-more (waiting old.link) looked.gives.more (waiting t.takes.one.link) (may-wait built old parts.1) looked.gives.waiting_more in
    record {
      from_is = ap (λ (s : Upstream). s.from) looked.only ∙ eqb-true old.from from both.0;
      number_is = ap (λ (s : Upstream). s.taken) looked.only ∙ eqb-true old.taken number both.1;
      next = rw so.unended (first-waits (waiting t.takes.one.link) so.gives.more (waiting so.now.link) t.takes.batch waits so.gives.waiting_more);
    }

-- ---- the batch that is offered

-- no sender before it has its number
apart-first : (had : ℕ → List Batch) (taken : List Taken) (sender : ℕ) (senders : List ℕ) (front back : List Upstream) (one : Upstream)
    → list_any (λ other. eqb other sender) senders ≡ false → ReceiveAll senders had taken (front ++ one ∷ back) → eqb sender one.from ≡ false
apart-first had taken sender senders front back one apart h = by (eqb sender one.from) refl
  where
    by : (b : Bool) → eqb sender one.from ≡ b → b ≡ false
    by true e =
        let same : sender ≡ one.from = eqb-true sender one.from e in
        absurd (false≢true (sym apart ∙ rw same (is-sender had taken senders front back one h)))
    by false e = refl

batch-there : (had : ℕ → List Batch) (taken : List Taken) (senders : List ℕ) (front back : List Upstream) (one : Upstream) → ReceiveAll senders had taken (front ++ one ∷ back)
    → batch_from (front ++ one ∷ back) one.from ≡ next_batch one
unfolding ReceiveAll batch_from
batch-there had taken [] [] back one h = absurd h
batch-there had taken [] (first ∷ front) back one h = absurd h
batch-there had taken (sender ∷ senders) [] back one h = rw (eq-eqb one.from one.from refl) refl
batch-there had taken (sender ∷ senders) (first ∷ front) back one h =
    let other : eqb first.from one.from ≡ false = ap (λ n. eqb n one.from) h.0.from ∙ apart-first had taken sender senders front back one h.1 h.2 in
    rw other (batch-there had taken senders front back one h.2)

-- ---- the batch was taken

module _ (place : ℕ) (w new : WorkerState) (t : TakesAt place w new) (armed : Option Armed) (through : IsThrough w) (few : All (λ one. rows_moved one < 2 ^ 63) w.journal)
    (next : next_batch t.takes.one ≡ Some t.takes.batch) where
  take-stands : StandsAfterLine (log_line (entry.Take t.takes.one.from t.takes.one.taken) armed) t.takes.found w (batch_taken t.takes.one t.takes.batch t.takes.ins t.takes.last w)
  unfolding StandsAfterLine
  take-stands context start p counted stands =
      let one = t.takes.one in
      let batch = t.takes.batch in
      let this = log_line (entry.Take one.from one.taken) armed in
      let seen : WorkerState = record (before_line this w) { ins = t.takes.found } in
      let now = stands-looked context (before_line this w) t.takes.found start p t.takes.looked stands in
      let takes : TakesOne seen one batch t.takes.ins t.takes.last = record { rest = through.rest; pending = through.pending; taken_so = t.takes.taken; closes = t.takes.closes } in
      let works : IsWorking seen = record { unfinished = through.free.unfinished; running = through.free.running; loose = through.free.loose; few = few } in
      let rule = may-take context seen p one batch t.takes.ins t.takes.last now.shows takes works in
      let offered : batch_from t.takes.found one.from ≡ Some batch =
      ap (λ l. batch_from l one.from) t.takes.taken.found
      ∙ batch-there context.base.had p.taken context.placement.role.senders t.takes.taken.front t.takes.taken.back one (rw t.takes.taken.found at now.shows.ins) ∙ next in (
        record { may = rule; there = ap is_some offered },
        subst (λ found. IsAtPosition context (with_hand (hand_before armed) (batch_taken one batch t.takes.ins t.takes.last w)) start (with_offered one.from found p)) (sym offered)
            (record {
              leads = Leads-push context.placement.role context.orders start w.journal p (entry.Take one.from one.taken) (with_batch one.from batch p) stands.leads (batch, rule, refl);
              text = AreEntries-push false w.journal (entry.Take one.from one.taken) stands.text (t.takes.from_small, t.takes.number_small) refl;
              shows = shows-batch_taken context seen p one batch t.takes.ins t.takes.last now.shows takes;
            }),
      )

  taken-done : HasRedone (log_line (entry.Take t.takes.one.from t.takes.one.taken) armed) w new
  taken-done = subst (HasRedone (log_line (entry.Take t.takes.one.from t.takes.one.taken) armed) w) (sym t.takes.after) (record {
    found = t.takes.found;
    looked = t.takes.looked;
    stands = take-stands;
    unarmed = λ none. ap hand_before none;
    journal = refl;
    ends = record {
      ins = senders-then w.ins t.takes.found t.takes.ins (looked-ends w.ins t.takes.found t.takes.looked) (taken-ends t.takes.found t.takes.ins t.takes.one t.takes.batch t.takes.taken);
      outs = receivers-same w.outs;
      number = refl;
      when = refl;
      route = refl;
    };
    constants = turned-constants t.takes.one.builds w.operator_state;
    seat = refl;
    reserved = refl;
    turned = refl;
  })

pub take-done : (place from number : ℕ) (w new : WorkerState) (armed : Option Armed) (built : Bool) → IsThrough w → All (λ one. rows_moved one < 2 ^ 63) w.journal → TakesAt place w new
    → ((d : Upstream) → comes_next built from number (get_or w.ins place d) ≡ true) → HasRedone (log_line (entry.Take from number) armed) w new
take-done place from number w new armed built through few t comes =
    let is = next-is place w new t built from number comes in
    let done = taken-done place w new t armed through few is.next in
    subst (λ n. HasRedone (log_line (entry.Take from n) armed) w new) is.number_is
    (subst (λ n. HasRedone (log_line (entry.Take n t.takes.one.taken) armed) w new) is.from_is done)

-- after a look
pub done-looked : (line : LogLine) (old between new : WorkerState) → IsLookedAt old between → HasRedone line between new → HasRedone line old new
unfolding StandsAfterLine
done-looked line old between new looked = same-after old between looked (λ b. HasRedone line b new → HasRedone line old new) (λ done. record {
  found = done.found;
  looked = pairwise-then IsLooked looked-then old.ins between.ins done.found looked.looked done.looked;
  stands = λ context start p counted stands. done.stands context start p counted (stands-looked context (before_line line old) between.ins start p looked.looked stands);
  unarmed = done.unarmed;
  journal = done.journal;
  ends = record {
    ins = senders-then old.ins between.ins new.ins (looked-ends old.ins between.ins looked.looked) done.ends.ins;
    outs = done.ends.outs;
    number = done.ends.number;
    when = done.ends.when;
    route = done.ends.route;
  };
  constants = done.constants;
  seat = done.seat;
  reserved = done.reserved;
  turned = done.turned;
})

-- ---- the batch could not be taken

pub take-cannot : (w : WorkerState) (from number : ℕ) (armed : Option Armed) → is_through w ≡ false → CannotRedo (log_line (entry.Take from number) armed) w w
unfolding NeverMeets
take-cannot w from number armed may = cannot-redo (log_line (entry.Take from number) armed) w (λ context p counted shows meets.
    let b = before_line (log_line (entry.Take from number) armed) w in
    let still : stands_still w ≡ false = free-still context b p shows meets.may.free in
    let pending : w.pending ≡ [] = shows.pending ∙ meets.may.no_pending in
    let rest : w.rest ≡ [] = shows.rest ∙ meets.may.no_rest in
    false≢true (sym may ∙ rw (still, pending, rest) refl))

-- the build side has ended, where it has in the position
have-built : (had : ℕ → List Batch) (task : Task) (taken : List Taken) (senders : List ℕ) (ins : List Upstream) → ReceiveAll senders had taken ins
    → All (λ one. one.builds ≡ is_builder task one.from) ins → have_ended task.builders taken ≡ true → have_builders_ended ins ≡ true
unfolding ReceiveAll have_ended
have-built had task taken [] [] h sides ended = refl
have-built had task taken [] (one ∷ ins) h sides ended = absurd h
have-built had task taken (sender ∷ senders) [] h sides ended = refl
have-built had task taken (sender ∷ senders) (one ∷ ins) h sides ended =
    and_from _ _ (by one.builds (sides 0 one (omega arith)))
    (have-built had task taken senders ins h.2 (λ k d less. sides (suc k) d (omega arith)) ended)
  where
    by : (b : Bool) → b ≡ is_builder task one.from → (not b || one.ended) ≡ true
    by false e = refl
    by true e = h.0.ended ∙ ap (has_last taken) (sym h.0.from) ∙ list_all-member (has_last taken) task.builders one.from ended (sym e)

-- the side of the sender may be taken
its-side : (role : Role) (taken : List Taken) (one : Upstream) (built : Bool) → one.builds ≡ is_builder role.task one.from → may_take_from role taken one.from ≡ true
    → (have_ended role.task.builders taken ≡ true → built ≡ true) → (one.builds || built) ≡ true
its-side role taken one built own may ended = ap (λ b. b || built) own ∙ by (is_builder role.task one.from) may
  where
    by : (b : Bool) → (if b then true else have_ended role.task.builders taken) ≡ true → (b || built) ≡ true
    by true e = refl
    by false e = ended e

has-next : (one : Upstream) (built : Bool) (from number : ℕ) → one.from ≡ from → one.taken ≡ number → (one.builds || built) ≡ true → is_some (next_batch one) ≡ true
    → comes_next built from number one ≡ true
has-next one built from number from_is number_is side some =
    and_from _ _ (and_from _ _ (eq-eqb one.from from from_is) (eq-eqb one.taken number number_is)) (by one.ended some)
  where
    wait : (batches : List Batch) → is_some (first_of batches) ≡ true → has_some batches ≡ true
    wait [] e = e
    wait (batch ∷ batches) e = refl

    by : (b : Bool) → is_some (if b then None else first_of (waiting one.link)) ≡ true → ((not b && (one.builds || built)) && has_some (waiting one.link)) ≡ true
    by true e = absurd (false≢true e)
    by false e = and_from _ _ side (wait (waiting one.link) e)

comes-there : (had : ℕ → List Batch) (taken : List Taken) (from number : ℕ) (built : Bool) (senders : List ℕ) (ins : List Upstream) → ReceiveAll senders had taken ins
    → list_any (λ sender. eqb sender from) senders ≡ true → number ≡ length (taken_from taken from) → is_some (batch_from ins from) ≡ true
    → ((k : ℕ) (d : Upstream) → k < length ins → (get_or ins k d).from ≡ from → ((get_or ins k d).builds || built) ≡ true)
    → list_any (comes_next built from number) ins ≡ true
unfolding ReceiveAll batch_from
comes-there had taken from number built [] [] h member is some side = absurd (false≢true member)
comes-there had taken from number built [] (one ∷ ins) h member is some side = absurd h
comes-there had taken from number built (sender ∷ senders) [] h member is some side = absurd h
comes-there had taken from number built (sender ∷ senders) (one ∷ ins) h member is some side =
    by (eqb one.from from) refl some
    (λ other there. comes-there had taken from number built senders ins h.2 (ap (λ b. b || list_any (λ sender. eqb sender from) senders) (sym other) ∙ member) is there
    (λ k d less. side (suc k) d (omega arith)))
  where
    by : (b : Bool) → eqb one.from from ≡ b → is_some (if b then next_batch one else batch_from ins from) ≡ true
        → (eqb sender from ≡ false → is_some (batch_from ins from) ≡ true → list_any (comes_next built from number) ins ≡ true)
        → list_any (comes_next built from number) (one ∷ ins) ≡ true
    by true e there rest =
        let same : one.from ≡ from = eqb-true one.from from e in
        let count : one.taken ≡ number = h.0.taken ∙ ap (λ n. length (taken_from taken n)) (sym h.0.from ∙ same) ∙ sym is in
        or_left _ _ (has-next one built from number same count (side 0 one (omega arith) same) there)
    by false e there rest = or_right _ _ (rest (ap (λ n. eqb n from) (sym h.0.from) ∙ e) there)

pub take-none : (old between : WorkerState) (from number : ℕ) (armed : Option Armed) → IsLookedAt old between
    → list_any (comes_next (have_builders_ended between.ins) from number) between.ins ≡ false → CannotRedo (log_line (entry.Take from number) armed) old between
unfolding NeverMeets
take-none old between from number armed looked none = record {
  looked = looked;
  never = λ context p counted shows meets.
      let b = before_line (log_line (entry.Take from number) armed) old in
      let now = shows-looked context b between.ins p looked.looked shows in
      let role : Role = context.placement.role in
      let may = meets.may in
      false≢true (sym none ∙ comes-there context.base.had p.taken from number (have_builders_ended between.ins) role.senders between.ins now.ins may.sender may.next meets.there
      (λ k d less is. its-side role p.taken (get_or between.ins k d) (have_builders_ended between.ins) (now.sides k d less) (rw is may.side)
      (have-built context.base.had role.task p.taken role.senders between.ins now.ins now.sides)));
}
