-- A worker that has become another one stands where it stood.
use Rattle.std.proofs.Common.{◌≡◌, ℕ, suc, All, List, [], ◌∷◌, Bool, Option, Some, None, refl, sym, ap, ◌∙◌, subst, arith}
use Rattle.std.specs.Prelude.{IfSome}
use Rattle.amber_rows.specs.declared.batch.Batch.{Batch}
use Rattle.amber_meaning.specs.Position.{Taken}
use Rattle.amber_meaning.specs.Task.{Task, is_builder}
use Rattle.amber_scan.specs.Shares.{ShareState}
use Rattle.amber_link.specs.Sides.{Pairwise, have_builders_ended}
use Rattle.amber_link.specs.declared.upstreams.Upstream.{Upstream}
use Rattle.amber_link.proofs.SameEnds.{receivers-same, senders-same}
use Rattle.amber_link.proofs.Sides.{pairwise-at, pairwise-length}
use Rattle.amber_worker.specs.AtPosition.{HasSameEnds, ReceiveAll}
use Rattle.amber_worker.specs.Fields.{AreFew, WorkerFields}
use Rattle.amber_operators.specs.Kept.{IsInOrder}
use Rattle.amber_worker.specs.Replacing.{ShowsReplaced, StandAlike, StandsReplaced, with_links_of}
use Rattle.amber_worker.specs.WorkerState.{WorkerState}
use Rattle.amber_operators.specs.declared.operator_state.OperatorState.{OperatorState}
use Rattle.amber_operators.specs.declared.operator_state.OperatorState.TheVariants as operator_state

-- ---- what is kept of the senders

-- the same is kept of a sender, whatever its link is
record IsAlike (old other : Upstream) : Type 0 where
  builds : other.builds ≡ old.builds
  taken : other.taken ≡ old.taken
  ended : other.ended ≡ old.ended

received-alike : (task : Task) (senders : List ℕ) (had other_had : ℕ → List Batch) (batches : List Taken) (old other : List Upstream)
    → All (λ (one : Upstream). one.builds ≡ is_builder task one.from) old → All (λ (one : Upstream). one.builds ≡ is_builder task one.from) other
    → ReceiveAll senders had batches old → ReceiveAll senders other_had batches other → Pairwise IsAlike old other
unfolding ReceiveAll Pairwise
received-alike task [] had other_had batches [] [] sides other_sides receive others = tt
received-alike task [] had other_had batches [] (y ∷ ys) sides other_sides receive others = absurd others
received-alike task [] had other_had batches (x ∷ xs) other sides other_sides receive others = absurd receive
received-alike task (sender ∷ senders) had other_had batches [] other sides other_sides receive others = absurd receive
received-alike task (sender ∷ senders) had other_had batches (x ∷ xs) [] sides other_sides receive others = absurd others
received-alike task (sender ∷ senders) had other_had batches (x ∷ xs) (y ∷ ys) sides other_sides receive others = (
  record {
    builds = other_sides 0 y (omega arith) ∙ ap (is_builder task) (others.0.from ∙ sym receive.0.from) ∙ sym (sides 0 x (omega arith));
    taken = others.0.taken ∙ sym receive.0.taken;
    ended = others.0.ended ∙ sym receive.0.ended;
  },
  received-alike task senders had other_had batches xs ys (λ k d less. sides (suc k) d (omega arith)) (λ k d less. other_sides (suc k) d (omega arith)) receive.2 others.2,
)

builders-alike : (old other : List Upstream) → Pairwise IsAlike old other → have_builders_ended other ≡ have_builders_ended old
unfolding Pairwise
builders-alike [] [] alike = refl
builders-alike [] (y ∷ ys) alike = absurd alike
builders-alike (x ∷ xs) [] alike = absurd alike
builders-alike (x ∷ xs) (y ∷ ys) alike = rw (alike.0.builds, alike.0.ended, builders-alike xs ys alike.1) refl

in_order-alike : (d : OperatorState) (building : Bool) (taken : ℕ) (old other : List Upstream) → Pairwise IsAlike old other → IsInOrder d building taken other → IsInOrder d building taken old
in_order-alike operator_state.Scan building taken old other alike order = tt
in_order-alike (operator_state.Filter cond) building taken old other alike order = tt
in_order-alike (operator_state.Project from) building taken old other alike order = tt
in_order-alike (operator_state.Join state) building taken old other alike order = (order.0, λ e. sym (builders-alike old other alike) ∙ order.1 e)
in_order-alike (operator_state.Group state) building taken old other alike order = order
in_order-alike operator_state.Sink building taken old other alike order = tt

none-alike : (old other : List Upstream) → Pairwise IsAlike old other → other ≡ [] → old ≡ []
unfolding Pairwise
none-alike [] other alike e = refl
none-alike (x ∷ xs) [] alike e = absurd alike
none-alike (x ∷ xs) (y ∷ ys) alike e = absurd (cc)

shares-alike : (share : Option ShareState) (old other : List Upstream) → Pairwise IsAlike old other → IfSome share (λ _. other ≡ []) → IfSome share (λ _. old ≡ [])
shares-alike None old other alike none = tt
shares-alike (Some share) old other alike none = none-alike old other alike none

-- ---- the fields

-- what the one keeps is within bounds with the links of the other
few-alike : (f g : WorkerFields) → AreFew f → AreFew g → Pairwise IsAlike g.ins f.ins → f.emitted ≡ g.emitted → f.finished ≡ g.finished
    → AreFew (record f { ins = g.ins; outs = g.outs; route = g.route })
few-alike f g made old alike emitted finished = record {
  in_order = in_order-alike f.operator_state f.building f.taken g.ins f.ins alike made.in_order;
  scans = made.scans;
  shares = shares-alike f.share g.ins f.ins alike made.shares;
  typed = made.typed;
  steps = made.steps;
  unfinished = made.unfinished;
  received = λ k d less.
      let same = pairwise-at IsAlike g.ins f.ins alike k d d less in
      let long = pairwise-length IsAlike g.ins f.ins alike in
      omega (arith, same.taken, made.received k d (omega (arith, long, less)));
  sent = λ e k d less. omega (arith, emitted, old.sent (sym finished ∙ e) k d less);
  over = λ k d less. old.over k d less ∙ sym finished;
  routed = old.routed;
  moved = made.moved;
}

-- the same of two workers that show one position
pub few-replaced : (f g : WorkerFields) (old made : WorkerState) → AreFew f → AreFew g → StandAlike old made → f.ins ≡ made.ins → g.ins ≡ old.ins
    → f.emitted ≡ made.emitted → g.emitted ≡ old.emitted → f.finished ≡ made.finished → g.finished ≡ old.finished → AreFew (record f { ins = g.ins; outs = g.outs; route = g.route })
few-replaced f g old made few_made few_old alike ins_made ins_old emitted_made emitted_old finished_made finished_old =
    let context = alike.0 in
    let p = alike.2 in
    let shows = alike.3 in
    let shown = alike.4 in
    let both : Pairwise IsAlike old.ins made.ins = received-alike context.placement.role.task context.placement.role.senders context.base.had alike.1.had p.taken old.ins made.ins shows.sides shown.sides shows.ins shown.ins in
    few-alike f g few_made few_old (subst (λ l. Pairwise IsAlike g.ins l) (sym ins_made) (subst (λ l. Pairwise IsAlike l made.ins) (sym ins_old) both))
    (emitted_made ∙ shown.emitted ∙ sym shows.emitted ∙ sym emitted_old) (finished_made ∙ shown.finished ∙ sym shows.finished ∙ sym finished_old)

-- ---- where it stands

pub shows-replaced : (old made : WorkerState) → ShowsReplaced old made (with_links_of old made)
unfolding ShowsReplaced
shows-replaced old made context base p shows shown = record {
  op = shown.op;
  number = shown.number;
  operator_state = shown.operator_state;
  state = shown.state;
  columns = shown.columns;
  build_columns = shown.build_columns;
  sides = shows.sides;
  builders = shown.builders;
  building = shown.building;
  when = shown.when;
  rest = shown.rest;
  pending = shown.pending;
  taken = shown.taken;
  emitted = shown.emitted;
  batches = shown.batches;
  within = shown.within;
  produced = shown.produced;
  refused = shown.refused;
  kept = shown.kept;
  restraint = shown.restraint;
  finished = shown.finished;
  ins = shows.ins;
  outs = shows.outs;
  route = shows.route;
}

pub stands-replaced : (old made : WorkerState) → StandsReplaced old made (with_links_of old made)
unfolding ShowsReplaced StandsReplaced
stands-replaced old made context base start p shows stands = record {
  leads = stands.leads;
  text = stands.text;
  shows = shows-replaced old made context base p shows stands.shows;
}

-- its links are those that it had
pub ends-replaced : (old made : WorkerState) → StandAlike old made → HasSameEnds old (with_links_of old made)
ends-replaced old made alike = record {
  ins = senders-same old.ins;
  outs = receivers-same old.outs;
  number = alike.4.number ∙ sym alike.3.number;
  when = alike.4.when ∙ sym alike.3.when;
  route = refl;
}
