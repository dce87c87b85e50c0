-- What commands leave at home.
use Rattle.std.proofs.Common.{◌≡◌, ◌⊎◌, inl, inr, refl, sym, ap, subst, ◌∙◌, ℕ, zero, suc, ◌-◌, ◌<◌, List, [], ◌∷◌, ◌++◌, length, get_or, Bool, true, false, Result, Ok, Err, IfOk, arith}
use Rattle.std.proofs.lemmas.List.{get_or_push, length_push}
use Rattle.amber_rows.specs.declared.flow.Operator.{Operator}
use Rattle.amber_log.specs.Fits.{fits_of}
use Rattle.amber_log.specs.Grammar.{AreItems, IsCommand, IsItem, IsLog, ends_over, is_last}
use Rattle.amber_log.specs.LogText.{item_text}
use Rattle.amber_log.specs.declared.command.Command.{Command}
use Rattle.amber_log.specs.declared.leg.Close.{Close}
use Rattle.amber_log.specs.declared.leg.Close.TheVariants as close
use Rattle.amber_log.specs.declared.log.Item.{Item}
use Rattle.amber_log.specs.declared.log.Item.TheVariants as item
use Rattle.amber_log.specs.declared.log.Log.{Log}
use Rattle.amber_meaning.specs.declared.answer.Answer.{Answer}
use Rattle.amber_meaning.specs.declared.view.Stop.{Stop}
use Rattle.amber_meaning.specs.Legal.{IsLegal}
use Rattle.amber_meaning.specs.Replay.{after_item}
use Rattle.amber_meaning.specs.State.{after_command, have_finished}
use Rattle.amber_meaning.specs.Texts.{answer_text, stops_text}
use Rattle.amber_meaning.specs.Transcript.{reply_of}
use Rattle.amber_meaning.specs.Views.{answer_in}
use Rattle.amber_meaning.proofs.Fronts.{legal_logs_grow, transcripts_grow}
use Rattle.amber_lines.proofs.Kept.{kept_stops_were_replied}
use Rattle.amber_home.specs.HomeState.{HomeState, item_of_leg, query_of, rest_state, state_of, stops_of_home, with_item}
use Rattle.amber_home.specs.declared.phase.Phase.TheVariants as phase
use Rattle.amber_leg.specs.Leg.{ClosesLeg}
use Rattle.amber_debug.specs.declared.done.Done.{Done}
use Rattle.amber_debug.specs.declared.done.EndErr.{EndErr}
use Rattle.amber_debug.specs.declared.done.EndErr.TheVariants as end_err
use Rattle.amber_log.specs.declared.leg.Part.{Part}
use Rattle.amber_debug.specs.AtHome.{HasLeg, HasLog, IsLastText, RunsAs, TellsLeg, is_cut_off}
use Rattle.amber_debug.specs.Session.{IsKept}

-- ---- the last item

item-at : (over : Bool) (items : List Item) (k : ℕ) (d : Item) → AreItems over items → k < length items → IsItem (get_or items k d)
unfolding AreItems
item-at over [] k d are h = absurd (omega arith)
item-at over (one ∷ more) zero d are h = are.1
item-at over (one ∷ more) (suc k) d are h = item-at (is_last one) more k d are.2 (omega arith)

pub last-item : (log : Log) (items : List Item) (one : Item) → IsLog log → items ≡ log.items → 0 < length log.items → one ≡ get_or items (length items - 1) one → IsItem one
last-item log items one text same some is =
    rw is (subst (λ xs. IsItem (get_or xs (length xs - 1) one)) (sym same) (item-at false log.items (length log.items - 1) one text.items (omega arith)))

pub last-text : (log : Log) (items : List Item) (one : Item) (text : List ℕ) → items ≡ log.items → one ≡ get_or items (length items - 1) one → text ≡ item_text one → IsLastText log text
unfolding IsLastText
last-text log items one text same is text-is before last split =
    let all : items ≡ before ++ last ∷ [] = same ∙ split in
    let place : length items - 1 ≡ length before = ap (λ xs. length xs - 1) all ∙ ap (λ n. n - 1) (length_push before last) ∙ omega arith in
    text-is ∙ ap item_text (is ∙ ap (λ n. get_or items n one) place ∙ ap (λ xs. get_or xs (length before) one) all ∙ get_or_push before last one (length before) refl)

-- ---- legs

abbrev has-leg : (to_end : Bool) (old new : HomeState) (closed : Close) → ClosesLeg to_end old new closed → HasLeg to_end old new closed
has-leg to_end old new closed leg = record {
  parts = leg.parts;
  kept = record {
    flow = ap (λ (e : HomeState). e.flow) leg.is;
    files = ap (λ (e : HomeState). e.files) leg.is;
    most = ap (λ (e : HomeState). e.most) leg.is;
    log = ap (λ (e : HomeState). e.log) leg.is;
  };
  in_time = leg.in_time;
}

-- the text is the leg's
pub leg-text : (to_end : Bool) (old new : HomeState) (closed : Close) (text : List ℕ) → (leg : ClosesLeg to_end old new closed) → IsLastText new.log text
    → text ≡ item_text (item_of_leg to_end leg.parts closed)
unfolding IsLastText
leg-text to_end old new closed text leg last = last old.log.items (item_of_leg to_end leg.parts closed) (ap (λ (e : HomeState). e.log.items) leg.is)

-- a leg that was too long
pub runs-long : (to_end : Bool) (old new : HomeState) (text : List ℕ) → ClosesLeg to_end old new close.Long → IsLastText new.log text → RunsAs (Err (end_err.Long text)) to_end old new
runs-long to_end old new text leg last = (has-leg to_end old new close.Long leg, leg-text to_end old new close.Long text leg last)

-- ---- up to a stop

stops-replied : (old new : HomeState) → (leg : ClosesLeg false old new close.Cut)
    → stops_text new.flow (stops_of_home new) ≡ reply_of (query_of old) (rest_state old) (item_of_leg false leg.parts close.Cut)
unfolding stops_of_home
stops-replied old new leg = rw leg.is (sym (kept_stops_were_replied (query_of old) old.log.items leg.parts))

pub runs-stop : (old new : HomeState) (done : Done) (flow : List Operator) (stops : List Stop) → TellsLeg (Ok done.item) false old new → flow ≡ new.flow
    → stops ≡ stops_of_home new → done.reply ≡ stops_text flow stops → RunsAs (Ok done) false old new
runs-stop old new done flow stops (leg, text) same are reply = (
  has-leg false old new close.Cut leg,
  text,
  reply ∙ ap (λ f. stops_text f stops) same ∙ ap (stops_text new.flow) are ∙ stops-replied old new leg,
)

-- ---- to the end

state-after : (old new : HomeState) → (leg : ClosesLeg true old new close.Cut) → state_of new ≡ after_item (query_of old) (rest_state old) (item_of_leg true leg.parts close.Cut)
unfolding state_of
state-after old new leg = rw leg.is (transcripts_grow (query_of old) old.log.items (item_of_leg true leg.parts close.Cut)).1

pub all-finished : (old new : HomeState) → ClosesLeg true old new close.Cut → have_finished (state_of new) ≡ true
unfolding after_item
all-finished old new leg = ap have_finished (state-after old new leg) ∙ leg.so.2

answer-replied : (old new : HomeState) → (leg : ClosesLeg true old new close.Cut)
    → answer_text new.flow (answer_in (query_of new) (state_of new)) ≡ reply_of (query_of old) (rest_state old) (item_of_leg true leg.parts close.Cut)
unfolding reply_of after_item
answer-replied old new leg =
    let query : query_of new ≡ query_of old = ap query_of leg.is in
    let flow : new.flow ≡ old.flow = ap (λ (e : HomeState). e.flow) leg.is in
    ap (λ f. answer_text f (answer_in (query_of new) (state_of new))) flow ∙ ap (λ q. answer_text old.flow (answer_in q (state_of new))) query
    ∙ ap (λ state. answer_text old.flow (answer_in (query_of old) state)) (state-after old new leg)

abbrev over : (mid new : HomeState) → new ≡ record mid { phase = phase.Over; turned = [] } → HasLog mid new mid.log
over mid new e = record {
  flow = ap (λ (h : HomeState). h.flow) e;
  files = ap (λ (h : HomeState). h.files) e;
  most = ap (λ (h : HomeState). h.most) e;
  log = ap (λ (h : HomeState). h.log) e;
}

abbrev over-leg : (old mid new : HomeState) → HasLeg true old mid close.Cut → new ≡ record mid { phase = phase.Over; turned = [] } → HasLeg true old new close.Cut
over-leg old mid new leg e =
    let same = over mid new e in
    record {
      parts = leg.parts;
      kept = record {
        flow = same.flow ∙ leg.kept.flow;
        files = same.files ∙ leg.kept.files;
        most = same.most ∙ leg.kept.most;
        log = same.log ∙ leg.kept.log;
      };
      in_time = leg.in_time;
    }

pub runs-end : (old mid new : HomeState) (done : Done) (flow : List Operator) (answer : Answer) → TellsLeg (Ok done.item) true old mid
    → new ≡ record mid { phase = phase.Over; turned = [] } → flow ≡ new.flow → answer ≡ answer_in (query_of mid) (state_of mid) → done.reply ≡ answer_text flow answer → RunsAs (Ok done) true old new
runs-end old mid new done flow answer (leg, text) e same is reply = (
  over-leg old mid new (has-leg true old mid close.Cut leg) e,
  text,
  reply ∙ ap (λ f. answer_text f answer) (same ∙ ap (λ (h : HomeState). h.flow) e) ∙ ap (answer_text mid.flow) is ∙ answer-replied old mid leg,
)

-- ---- at rest

-- another worker took the place of one that was lost, and the command was done
pub done-over : (old mid new : HomeState) (done : Command) → mid ≡ record old { turned = mid.turned } → new ≡ record mid { log = with_item mid.log (item.Do done) }
    → new ≡ record old { log = with_item old.log (item.Do done); turned = new.turned }
done-over old mid new done replaced applied =
    applied ∙ ap (λ (h : HomeState). record h { log = with_item h.log (item.Do done) }) replaced
    ∙ sym (ap (λ (h : HomeState). record old { log = with_item old.log (item.Do done); turned = h.turned }) applied)

-- the log stays legal
pub legal-done : (old new : HomeState) (done : Command) → IsLegal (query_of old) old.log → ends_over false old.log.items ≡ false → IsCommand done → fits_of old.flow done ≡ true
    → new ≡ record old { log = with_item old.log (item.Do done); turned = new.turned } → IsLegal (query_of new) new.log
legal-done old new done legal more is fits e =
    subst (λ (h : HomeState). IsLegal (query_of h) h.log) (sym e) (legal_logs_grow (query_of old) old.log.batch old.log.items (item.Do done) (after_command old.flow done legal.after) legal more is (fits, refl)).0

-- ---- what is kept

over-push : (over : Bool) (items : List Item) (one : Item) → ends_over over (items ++ one ∷ []) ≡ is_last one
over-push over [] one = refl
over-push over (x ∷ items) one = over-push (is_last x) items one

-- after a leg to the end, and one that was too long, nothing follows
last-is : (to_end : Bool) (parts : List Part) (closed : Close) → (to_end ≡ true) ⊎ (closed ≡ close.Long) → is_last (item_of_leg to_end parts closed) ≡ true
last-is true parts closed h = refl
last-is false parts closed (inl e) = absurd (let never : false ≡ true = e in cc)
last-is false parts closed (inr e) = rw e refl

pub kept-over : (to_end : Bool) (old new : HomeState) (closed : Close) (spent : Bool) → HasLeg to_end old new closed → (to_end ≡ true) ⊎ (closed ≡ close.Long) → IsLegal (query_of new) new.log
    → IsKept new spent
kept-over to_end old new closed spent leg h legal = record {
  legal = legal;
  rests = λ unspent more.
      absurd (let never : false ≡ true = sym more ∙ ap (λ log. ends_over false log.items) leg.kept.log ∙ over-push false old.log.items (item_of_leg to_end leg.parts closed)
      ∙ last-is to_end leg.parts closed h in cc);
}

-- ---- a command to run

-- so is what is kept after a command to run
pub kept-ran : (to_end : Bool) (old new : HomeState) (told : Result Done EndErr) → RunsAs told to_end old new → IsLegal (query_of new) new.log
    → ((to_end ≡ true) ⊎ IfOk told (λ done. new.phase ≡ phase.Resting)) → IsKept new (is_cut_off told)
kept-ran to_end old new (Ok done) runs legal (inl end) = kept-over to_end old new close.Cut false runs.0 (inl end) legal
kept-ran to_end old new (Ok done) runs legal (inr rests) = record { legal = legal; rests = λ unspent more. rests }
kept-ran to_end old new (Err (end_err.Long text)) runs legal rests = kept-over to_end old new close.Long false runs.0 (inr refl) legal
kept-ran to_end old new (Err end_err.NoMemory) runs legal rests = record { legal = legal; rests = λ unspent more. absurd (let never : true ≡ false = unspent in cc) }
