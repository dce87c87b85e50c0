use Rattle.std.proofs.Common.{rules, ℕ, ◌+◌, refl, ap, ◌∙◌}
use Rattle.amber_board.specs.declared.view.View.{View}
use Rattle.amber_board.proofs.Keeps.{sweeps}
use Rattle.amber_board.proofs.types.ChiefSeat.sweep.Goals as goal

pub swap-recalled-requires : goal.swap-recalled-requires
swap-recalled-requires c = (c.requires.own.table, search rules, sweeps _ _ _ _ c.args.self.now.is_chief c.args.worker (search rules) (search rules))

pub invariant_of-self : goal.invariant_of-self
invariant_of-self c =
    let s = c.args.self.now in
    let moved = c.swap-recalled.ensures.2.0 c.args.worker refl in
    record {
      is_chief = ap (λ (v : View). v.role) moved ∙ s.is_chief;
      in_hand = ap (λ (v : View). v.hand) moved ∙ ap (λ (n : ℕ). n + c.swap-recalled.result) s.in_hand;
      aim = ap (λ (v : View). v.target) moved ∙ s.aim;
      made = ap (λ (v : View). v.made) moved ∙ s.made;
      remembered = ap (λ (v : View). v.seen) moved ∙ s.remembered;
      none_kept = ap (λ (v : View). v.kept) moved ∙ s.none_kept;
      no_slots = c.swap-recalled.ensures.2.1 ∙ s.no_slots;
      few = s.few;
      at_most = s.at_most;
    }

pub returns-clause-swept : goal.returns-clause-swept
returns-clause-swept c = (c.swap-recalled.result, c.swap-recalled.ensures.2.0 c.args.worker refl)
