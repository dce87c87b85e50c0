-- What moving batches and handing out a journal leave of where a worker stands.
use Rattle.std.proofs.Common.{◌≡◌, ℕ, zero, suc, ◌<◌, arith, All, eqb, List, [], ◌∷◌, length, get_or, set, Bool, refl, sym, subst}
use Rattle.std.specs.List.{list_any}
use Rattle.std.proofs.lemmas.List.Elements.{All-cons}
use Rattle.amber_rows.specs.declared.batch.Batch.{Batch}
use Rattle.amber_log.specs.Grammar.{AreEntries}
use Rattle.amber_log.specs.declared.entry.Entry.{Entry}
use Rattle.amber_meaning.specs.Position.{Position, Taken, steps_of, taken_from}
use Rattle.amber_meaning.specs.Rules.{Leads}
use Rattle.amber_meaning.specs.Task.{Task, is_builder}
use Rattle.amber_link.specs.declared.upstreams.Upstream.{Upstream}
use Rattle.amber_link.specs.declared.downstreams.Downstream.{Downstream}
use Rattle.amber_link.specs.Links.{GivesBatches}
use Rattle.amber_link.specs.Sides.{Way}
use Rattle.amber_link.proofs.LinkEnds.{taken-looked}
use Rattle.amber_worker.specs.Links.{Passes}
use Rattle.amber_worker.proofs.Sent.{send_all-sent, sends-to-all}
use Rattle.amber_worker.specs.AtPosition.{Context, IsAtPosition, ReceiveAll, SendAll, Shows, output_at}
use Rattle.amber_worker.specs.WorkerState.{WorkerState, steps_made}

-- the steps of a worker are those of its position
pub steps-shown : (context : Context) (w : WorkerState) (p : Position) → Shows context w p → steps_made w ≡ steps_of p
steps-shown context w p shows = rw (shows.taken, shows.emitted, shows.batches, shows.finished)

-- the same position is shown with other links that suit it, and another journal
pub Shows-relinked : (context : Context) (w : WorkerState) (p : Position) (ins : List Upstream) (outs : List Downstream) (journal : List Entry)
    → Shows context w p → ReceiveAll context.placement.role.senders context.base.had p.taken ins → All (λ one. one.builds ≡ is_builder context.placement.role.task one.from) ins
    → SendAll context.placement context.placement.receivers (output_at context p) outs
    → Shows context (record w { ins = ins; outs = outs; journal = journal }) p
Shows-relinked context w p ins outs journal shows received sides sends = record {
  op = shows.op;
  number = shows.number;
  operator_state = shows.operator_state;
  state = shows.state;
  columns = shows.columns;
  build_columns = shows.build_columns;
  sides = sides;
  builders = shows.builders;
  building = shows.building;
  when = shows.when;
  rest = shows.rest;
  pending = shows.pending;
  taken = shows.taken;
  emitted = shows.emitted;
  batches = shows.batches;
  within = shows.within;
  produced = shows.produced;
  refused = shows.refused;
  kept = shows.kept;
  restraint = shows.restraint;
  finished = shows.finished;
  ins = received;
  outs = sends;
  route = shows.route;
}

-- ---- the journal

-- a worker whose journal was handed out stands where it stood, with nothing done since
pub IsAtPosition-without_journal : (context : Context) (w : WorkerState) (start p : Position)
    → IsAtPosition context w start p → IsAtPosition context (record w { journal = [] }) p p
unfolding Leads AreEntries
IsAtPosition-without_journal context w start p stands = record { leads = refl; text = tt; shows = Shows-relinked context w p w.ins w.outs [] stands.shows stands.shows.ins stands.shows.sides stands.shows.outs }

-- ---- which senders and receivers there are

pub sends-to : (context : Context) (w : WorkerState) (p : Position) (receiver : ℕ)
    → Shows context w p → list_any (λ one. eqb one.to receiver) w.outs ≡ list_any (λ one. eqb one receiver) context.placement.receivers
sends-to context w p receiver shows =
    sends-to-all context.placement context.placement.receivers (output_at context p) w.outs receiver shows.outs

pub receives-from : (context : Context) (w : WorkerState) (p : Position) (sender : ℕ)
    → Shows context w p → list_any (λ one. eqb one.from sender) w.ins ≡ list_any (λ one. eqb one sender) context.placement.role.senders
unfolding ReceiveAll
receives-from context w p sender shows = by context.placement.role.senders w.ins shows.ins
  where
    by : (senders : List ℕ) (ins : List Upstream) → ReceiveAll senders context.base.had p.taken ins
        → list_any (λ (one : Upstream). eqb one.from sender) ins ≡ list_any (λ one. eqb one sender) senders
    by [] [] h = refl
    by [] (one ∷ ins) h = absurd h
    by (first ∷ more) [] h = absurd h
    by (first ∷ more) (one ∷ ins) h = rw (h.0.from, by more ins h.2)

-- ---- batches went on

-- what a worker keeps of its sender at this place
receive_all-passed : (senders : List ℕ) (had : ℕ → List Batch) (taken : List Taken) (ins : List Upstream) (k : ℕ) (d into : Upstream) → k < length ins → GivesBatches (get_or ins k d).link [] into.link
    → ReceiveAll senders had taken ins → ReceiveAll senders had taken (set ins k (record (get_or ins k d) { link = into.link }))
unfolding ReceiveAll
receive_all-passed [] had taken [] k d into less gives h = absurd (omega arith)
receive_all-passed [] had taken (one ∷ ins) k d into less gives h = absurd h
receive_all-passed (sender ∷ senders) had taken [] k d into less gives h = absurd h
receive_all-passed (sender ∷ senders) had taken (one ∷ ins) zero d into less gives h =
    (record { from = h.0.from; taken = h.0.taken; ended = h.0.ended; come = taken-looked one.link into.link (had sender) (taken_from taken sender) gives h.0.come }, h.1, h.2)
receive_all-passed (sender ∷ senders) had taken (one ∷ ins) (suc k) d into less gives h =
    (h.0, h.1, receive_all-passed senders had taken ins k d into (omega arith) gives h.2)

sides-passed : (task : Task) (ins : List Upstream) (k : ℕ) (d into : Upstream) → k < length ins → All (λ (one : Upstream). one.builds ≡ is_builder task one.from) ins
    → All (λ (one : Upstream). one.builds ≡ is_builder task one.from) (set ins k (record (get_or ins k d) { link = into.link }))
sides-passed task [] k d into less sides = absurd (omega arith)
sides-passed task (one ∷ ins) zero d into less sides =
    All-cons (λ (s : Upstream). s.builds ≡ is_builder task s.from) (record one { link = into.link }) ins (sides 0 one (omega arith)) (λ j e below. sides (suc j) e (omega arith))
sides-passed task (one ∷ ins) (suc k) d into less sides =
    All-cons (λ (s : Upstream). s.builds ≡ is_builder task s.from) one (set ins k (record (get_or ins k d) { link = into.link })) (sides 0 one (omega arith))
    (sides-passed task ins k d into (omega arith) (λ j e below. sides (suc j) e (omega arith)))

-- the sender stands where it stood
pub IsAtPosition-passed_on : (all : Bool) (context : Context) (w other : WorkerState) (start p : Position) (way : Way) (outs : List Downstream) (ins : List Upstream)
    → Passes all way (record { outs = w.outs; ins = other.ins }) (record { outs = outs; ins = ins }) → IsAtPosition context w start p → IsAtPosition context (record w { outs = outs }) start p
IsAtPosition-passed_on all context w other start p way outs ins passes stands =
    let s = passes.settles in
    record {
      leads = stands.leads;
      text = stands.text;
      shows = Shows-relinked context w p w.ins outs w.journal stands.shows stands.shows.ins stands.shows.sides
          (subst (λ l. SendAll context.placement context.placement.receivers (output_at context p) l) (sym s.outs_is)
          (send_all-sent context.placement context.placement.receivers (output_at context p) w.outs passes.j s.out s.out passes.j_within s.forwards stands.shows.outs));
    }

-- and so does the receiver
pub IsAtPosition-passed_to : (all : Bool) (context : Context) (w other : WorkerState) (start p : Position) (way : Way) (outs : List Downstream) (ins : List Upstream)
    → Passes all way (record { outs = other.outs; ins = w.ins }) (record { outs = outs; ins = ins }) → IsAtPosition context w start p → IsAtPosition context (record w { ins = ins }) start p
IsAtPosition-passed_to all context w other start p way outs ins passes stands =
    let s = passes.settles in
    record {
      leads = stands.leads;
      text = stands.text;
      shows = Shows-relinked context w p ins w.outs w.journal stands.shows
          (subst (λ l. ReceiveAll context.placement.role.senders context.base.had p.taken l) (sym s.ins_is)
          (receive_all-passed context.placement.role.senders context.base.had p.taken w.ins passes.k s.into s.into passes.k_within s.gives stands.shows.ins))
          (subst (λ l. All (λ (one : Upstream). one.builds ≡ is_builder context.placement.role.task one.from) l) (sym s.ins_is)
          (sides-passed context.placement.role.task w.ins passes.k s.into s.into passes.k_within stands.shows.sides))
          stands.shows.outs;
    }
