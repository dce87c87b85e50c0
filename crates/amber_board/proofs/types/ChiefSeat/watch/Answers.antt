use Rattle.std.proofs.Common.{rules, ℕ, ◌≤◌, ◌^◌, List, slice_set, refl, ap, ◌∙◌}
use Rattle.std.proofs.lemmas.List.Elements.{All-set}
use Rattle.amber_board.specs.declared.view.View.{View}
use Rattle.amber_board.proofs.Keeps.{watches}
use Rattle.amber_board.proofs.types.ChiefSeat.watch.Goals as goal

pub load-counted-requires : goal.load-counted-requires
load-counted-requires c = (c.requires.own.table, search rules, watches _ _ _ _ c.args.self.now.is_chief c.args.worker (search rules))

pub invariant_of-self : goal.invariant_of-self
invariant_of-self c =
    let s = c.args.self.now in
    let moved = c.load-counted.ensures.2.0 c.args.worker refl in
    record {
      is_chief = ap (λ (v : View). v.role) moved ∙ s.is_chief;
      in_hand = ap (λ (v : View). v.hand) moved ∙ s.in_hand;
      aim = ap (λ (v : View). v.target) moved ∙ s.aim;
      made = ap (λ (v : View). v.made) moved ∙ s.made;
      remembered = ap (λ (v : View). v.seen) moved ∙ ap (λ (xs : List ℕ). slice_set xs c.args.worker c.load-counted.result) s.remembered;
      none_kept = ap (λ (v : View). v.kept) moved ∙ s.none_kept;
      no_slots = c.load-counted.ensures.2.1 ∙ s.no_slots;
      few = s.few;
      at_most = All-set (λ (n : ℕ). n ≤ 2 ^ 40) s.seen c.args.worker c.load-counted.result c.load-counted.ensures.2.2 s.at_most;
    }
