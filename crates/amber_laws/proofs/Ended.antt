-- Logs that end with a whole leg to the end: all workers have finished, and the reply to the last item is the answer.
use Rattle.std.proofs.Common.{◌≡◌, ℕ, List, [], ◌∷◌, true, refl, sym, ap, ◌∙◌}
use Rattle.amber_rows.specs.FlowRules.{IsFlow}
use Rattle.amber_log.specs.declared.leg.Close.{Close}
use Rattle.amber_log.specs.declared.leg.Close.TheVariants as close
use Rattle.amber_log.specs.declared.leg.Leg.{Leg}
use Rattle.amber_log.specs.declared.log.Item.{Item}
use Rattle.amber_log.specs.declared.log.Item.TheVariants as item
use Rattle.amber_meaning.specs.Legal.{ClosesEnd, IsLegal, IsUnaltered, Query, Reaches}
use Rattle.amber_meaning.specs.Plain.{answer_from}
use Rattle.amber_meaning.specs.Replay.{after_item, state_after, after_leg}
use Rattle.amber_meaning.specs.State.{State, begin_last_leg, have_finished, start_of}
use Rattle.amber_meaning.specs.Texts.{answer_text}
use Rattle.amber_meaning.specs.Transcript.{end_reply, reply_of}
use Rattle.amber_meaning.specs.Views.{answer_in}
use Rattle.amber_meaning.proofs.Fronts.{Reaches-parts, transcripts_grow}
use Rattle.amber_meaning.proofs.OneState.{legal_logs_have_one_state}
use Rattle.amber_meaning.proofs.Senders.{flows_send_forward}
use Rattle.amber_laws.proofs.Answered.{IsDealtOut, all-done, answered}
use Rattle.amber_laws.proofs.Reached.{legal-run}
use Rattle.amber_laws.specs.AnswerLaws.{ended_log}

closes-finished : (query : Query) (state : State) (closed : Close) → closed ≡ close.Cut → ClosesEnd query state closed → have_finished state ≡ true
closes-finished query state close.Cut e h = h.2
closes-finished query state close.Long e h = cc

last-finished : (query : Query) (before after : State) (leg : Leg) → leg.close ≡ close.Cut → Reaches query before (item.End leg ∷ []) after → have_finished after ≡ true
unfolding Reaches
last-finished query before after leg e h =
    rw (← h.2, h.1.3) (closes-finished query h.1.0 leg.close e h.1.2)

pub ended-finished : (query : Query) (batch : ℕ) (done : List Item) (leg : Leg) → leg.close ≡ close.Cut
    → (legal : IsLegal query (ended_log batch done leg)) → have_finished legal.after ≡ true
ended-finished query batch done leg e legal =
    let parts = Reaches-parts query (start_of query.flow) legal.after done (item.End leg ∷ []) legal.reached in
    last-finished query parts.0 legal.after leg e parts.2

pub ended-answer : (query : Query) (batch : ℕ) (done : List Item) (leg : Leg) → IsFlow query.flow → IsDealtOut query → leg.close ≡ close.Cut
    → IsUnaltered (ended_log batch done leg).items → (legal : IsLegal query (ended_log batch done leg))
    → answer_in query legal.after ≡ answer_from query.flow query.records
ended-answer query batch done leg flow out e plain legal =
    let run = legal-run query (ended_log batch done leg) legal plain in
    answered query legal.after (record { flow = flow; run = run; done = all-done query legal.after run (ended-finished query batch done leg e legal) }) out

cut-reply : (query : Query) (state : State) (closed : Close) → closed ≡ close.Cut → end_reply query state closed ≡ answer_text query.flow (answer_in query state)
cut-reply query state close.Cut e = refl
cut-reply query state close.Long e = cc

pub ended-reply : (query : Query) (batch : ℕ) (done : List Item) (leg : Leg) → IsFlow query.flow → IsDealtOut query → leg.close ≡ close.Cut
    → IsUnaltered (ended_log batch done leg).items → IsLegal query (ended_log batch done leg)
    → reply_of query (state_after query done) (item.End leg) ≡ answer_text query.flow (answer_from query.flow query.records)
unfolding reply_of after_item
ended-reply query batch done leg flow out e plain legal =
    let last : after_leg query (begin_last_leg (state_after query done)) leg.parts ≡ legal.after =
    sym (transcripts_grow query done (item.End leg)).1
    ∙ legal_logs_have_one_state query (ended_log batch done leg) (flows_send_forward query.flow flow) legal in
    cut-reply query (after_leg query (begin_last_leg (state_after query done)) leg.parts) leg.close e
    ∙ ap (λ state. answer_text query.flow (answer_in query state)) last
    ∙ ap (answer_text query.flow) (ended-answer query batch done leg flow out e plain legal)
