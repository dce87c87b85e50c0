-- The first items of a legal log are a legal log, and how logs grow.
use Rattle.std.proofs.Common.{◌≡◌, List, [], ◌∷◌, ◌++◌, Bool, false, refl, sym, ap, ◌∙◌, append_assoc}
use Rattle.amber_log.specs.Grammar.{AreItems, IsItem, ends_over, is_last}
use Rattle.amber_log.specs.declared.log.Item.{Item}
use Rattle.amber_meaning.specs.Laws.{FrontsAreLegal, LegalLogsGrow, TranscriptsGrow}
use Rattle.amber_meaning.specs.Legal.{Makes, Query, Reaches}
use Rattle.amber_meaning.specs.Replay.{after_item, after_items, state_after}
use Rattle.amber_meaning.specs.State.{State, start_of}
use Rattle.amber_meaning.specs.Transcript.{replies, reply_of, transcript_of}
use Rattle.std.proofs.lemmas.List.{append-nil}

pub AreItems-front : (over : Bool) (items more : List Item) → AreItems over (items ++ more) → AreItems over items
unfolding AreItems
AreItems-front over [] more h = tt
AreItems-front over (one ∷ items) more h = (h.0, h.1, AreItems-front (is_last one) items more h.2)

-- a state stands between the first items and the others
pub Reaches-parts : (query : Query) (state after : State) (items more : List Item) → Reaches query state (items ++ more) after
    → (m : State) × Reaches query state items m × Reaches query m more after
unfolding Reaches
Reaches-parts query state after [] more h = (state, refl, h)
Reaches-parts query state after (one ∷ items) more h =
    let rest = Reaches-parts query h.0 after items more h.2 in
    (rest.0, (h.0, h.1, rest.1), rest.2)

pub fronts_are_legal : FrontsAreLegal
fronts_are_legal query batch items more legal =
    let parts = Reaches-parts query _ _ items more legal.reached in
    record {
      text = record { batch = legal.text.batch; items = AreItems-front _ items more legal.text.items };
      batch = legal.batch;
      after = parts.0;
      reached = parts.1;
    }

-- ---- an item more

pub AreItems-push : (over : Bool) (items : List Item) (one : Item) → AreItems over items → ends_over over items ≡ false → IsItem one → AreItems over (items ++ one ∷ [])
unfolding AreItems
AreItems-push over [] one h e is = (e, is, tt)
AreItems-push over (first ∷ items) one h e is = (h.0, h.1, AreItems-push (is_last first) items one h.2 e is)

pub Reaches-push : (query : Query) (state m after : State) (items : List Item) (one : Item) → Reaches query state items m → Makes query m one after
    → Reaches query state (items ++ one ∷ []) after
unfolding Reaches
Reaches-push query state m after [] one h makes = (after, subst-first h makes, refl)
  where
    subst-first : state ≡ m → Makes query m one after → Makes query state one after
    subst-first e h = rw e h
Reaches-push query state m after (first ∷ items) one h makes = (h.0, h.1, Reaches-push query h.0 m after items one h.2 makes)

pub legal_logs_grow : LegalLogsGrow
legal_logs_grow query batch items one after legal more is makes = (
  record {
    text = record { batch = legal.text.batch; items = AreItems-push _ items one legal.text.items more is };
    batch = legal.batch;
    after = after;
    reached = Reaches-push query (start_of query.flow) legal.after after items one legal.reached makes;
  },
  refl,
)

after_items-push : (query : Query) (state : State) (items : List Item) (one : Item)
    → after_items query state (items ++ one ∷ []) ≡ after_item query (after_items query state items) one
unfolding after_items
after_items-push query state [] one = refl
after_items-push query state (first ∷ items) one = after_items-push query (after_item query state first) items one

replies-push : (query : Query) (state : State) (items : List Item) (one : Item)
    → replies query state (items ++ one ∷ []) ≡ replies query state items ++ reply_of query (after_items query state items) one
unfolding replies after_items
replies-push query state [] one = append-nil _
replies-push query state (first ∷ items) one =
    ap (λ l. reply_of query state first ++ l) (replies-push query (after_item query state first) items one)
    ∙ sym (append_assoc (reply_of query state first) _ _)

pub transcripts_grow : TranscriptsGrow
unfolding transcript_of state_after
transcripts_grow query items one = (replies-push query (start_of query.flow) items one, after_items-push query (start_of query.flow) items one)
