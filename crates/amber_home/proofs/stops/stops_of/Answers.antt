-- The counts come after the held workers, then the pauses, then the end.
use Rattle.std.proofs.Common.{◌≡◌, ◌∙◌, ◌++◌, ◌∷◌, [], ap, append-nil, append_assoc, if◌then◌else◌, rules, sym}
use Rattle.amber_meaning.specs.declared.view.Stop.TheVariants as stop
use Rattle.amber_home.specs.Leg.{counts_of, held_of, pauses_of, stop_at_end}
use Rattle.amber_home.proofs.stops.stops_of.Goals as goal
use Rattle.amber_home.proofs.stops.stops_of.Goals.{then-have_all_finished+in_ok-push, else-have_all_finished}

pub returns : goal.returns
returns c =
    let arms = c.args.arms.now in
    let d = c.args.dataflow.now in
    let stops : c.add_pauses.new.stops.items ≡ (held_of d ++ counts_of arms d) ++ pauses_of arms d =
    c.in_ok-add_pauses.ensures ∙ ap (λ xs. xs ++ pauses_of arms d) (c.in_ok-add_counts.ensures ∙ ap (λ xs. xs ++ counts_of arms d) (c.in_ok-add_held.ensures ∙ ap (λ xs. xs ++ held_of d) c.new-stops.ensures.items)) in
    let all : c.if-have_all_finished.stops.items ≡ ((held_of d ++ counts_of arms d) ++ pauses_of arms d) ++ stop_at_end d =
    elim c.if-have_all_finished.branch [
      | then-have_all_finished+in_ok-push w ↦ (
          let longer : c.if-have_all_finished.stops.items ≡ c.add_pauses.new.stops.items ++ stop.End ∷ [] = search rules in
          longer ∙ ap (λ xs. xs ++ stop.End ∷ []) stops
          ∙ ap (λ b. ((held_of d ++ counts_of arms d) ++ pauses_of arms d) ++ (if b then stop.End ∷ [] else [])) (sym w.if-have_all_finished.true ∙ c.have_all_finished.ensures))
      | else-have_all_finished w ↦ (
          let same : c.if-have_all_finished.stops.items ≡ c.add_pauses.new.stops.items = search rules in
          same ∙ stops ∙ sym (append-nil ((held_of d ++ counts_of arms d) ++ pauses_of arms d))
          ∙ ap (λ b. ((held_of d ++ counts_of arms d) ++ pauses_of arms d) ++ (if b then stop.End ∷ [] else [])) (sym w.if-have_all_finished.false ∙ c.have_all_finished.ensures))
    ] in
    c.new.ensures ∙ all ∙ append_assoc (held_of d ++ counts_of arms d) (pauses_of arms d) (stop_at_end d)
    ∙ append_assoc (held_of d) (counts_of arms d) (pauses_of arms d ++ stop_at_end d)
