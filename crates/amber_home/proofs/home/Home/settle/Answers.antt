-- All links are settled, and the home stays one.
use Rattle.std.proofs.Common.{◌≡◌, rules, refl, sym, ap, subst, ◌∙◌, true}
use Rattle.amber_dataflow.specs.AtWork.{turned_by}
use Rattle.amber_dataflow.specs.Dataflow.{leg_parts}
use Rattle.amber_home.specs.HomeState.{HomeState, IsWorkedLeg, counts_in, is_open, has_leg_crew, runs_to_end}
use Rattle.amber_home.specs.Kept.{IsHome}
use Rattle.amber_home.specs.declared.phase.Counts.TheVariants.{Armed}
use Rattle.amber_home.specs.declared.phase.Phase.TheVariants as phase
use Rattle.amber_home.proofs.Driven.{home-driven, turned-apart}
use Rattle.amber_home.proofs.Homes.{home-of, in-open, leg-of, open-is}
use Rattle.amber_home.proofs.Inside.{kept, seen}
use Rattle.amber_home.proofs.LentOut.{counts-back, crew-back, few-back, leg-settled, parts-back, parts-settled, turned-settled, worked-leg}
use Rattle.amber_home.proofs.home.Home.settle.Goals as goal

-- ---- they are here already

pub returns-then-is_open-clause-ok : goal.returns-then-is_open-clause-ok
returns-then-is_open-clause-ok c =
    let old = c.args.self.now in
    ap (λ now. record old { phase = now })
    (open-is old.phase (sym (ap (λ (h : HomeState). is_open h.phase) c.self.view_is) ∙ sym c.is_open.ensures ∙ c.if-is_open.true))

pub returns-then-is_open-clause-worked : goal.returns-then-is_open-clause-worked
returns-then-is_open-clause-worked c =
    let i = c.self.inside in
    let within = sym c.is_open.ensures ∙ c.if-is_open.true in
    subst IsWorkedLeg c.self.view_is
    (subst IsWorkedLeg (sym (in-open (seen i) (kept i) i.phase within))
    (worked-leg (seen i) (kept i) (runs_to_end i.phase) (counts_in i.phase) (leg-of (seen i) (kept i) i.phase c.self.invariant within)))

-- ---- they are settled

pub take_back-requires-clause-joined : goal.take_back-requires-clause-joined
take_back-requires-clause-joined c =
    let i = c.self.inside in
    let back : has_leg_crew i.phase ≡ true = ap (λ (h : HomeState). has_leg_crew h.phase) c.self.view_is ∙ c.requires.back in
    crew-back (seen i) (kept i) i.phase c.self.invariant (sym c.is_open.ensures ∙ c.if-is_open.false) back refl c.replace-workers.result.items (search rules)

pub take_back-requires-clause-few : goal.take_back-requires-clause-few
take_back-requires-clause-few c =
    let i = c.self.inside in
    let back : has_leg_crew i.phase ≡ true = ap (λ (h : HomeState). has_leg_crew h.phase) c.self.view_is ∙ c.requires.back in
    few-back (seen i) (kept i) i.phase c.self.invariant (sym c.is_open.ensures ∙ c.if-is_open.false) back refl c.replace-workers.result.items (search rules)

pub invariant_of-self-2 : goal.invariant_of-self-2
invariant_of-self-2 c =
    let i = c.self.inside in
    let back : has_leg_crew i.phase ≡ true = ap (λ (h : HomeState). has_leg_crew h.phase) c.self.view_is ∙ c.requires.back in
    let after = c.take_back.new.self in
    let later = record (kept i) { dataflow = after; back = c.replace-workers.new.dest.items } in
    subst (λ to_end. IsHome (record (seen i) { flow = after.flow; phase = phase.Open to_end Armed; parts = leg_parts after; turned = turned_by after.workers }) later) (sym c.runs_to_end.ensures)
    (home-driven (turned_by after.workers)
    (home-of (seen i) later (runs_to_end i.phase) Armed after.flow c.take_back.ensures.flow
    (leg-settled (seen i) (kept i) i.phase c.self.invariant (sym c.is_open.ensures ∙ c.if-is_open.false) back refl c.replace-workers.result.items (search rules)
    after c.in_ok-take_back.ensures.back c.take_back.ensures.flow c.replace-workers.new.dest.items)))

pub returns-clause-ok : goal.returns-clause-ok
returns-clause-ok c =
    let i = c.self.inside in
    let back : has_leg_crew i.phase ≡ true = ap (λ (h : HomeState). has_leg_crew h.phase) c.self.view_is ∙ c.requires.back in
    let apart = sym c.is_open.ensures ∙ c.if-is_open.false in
    let after = c.take_back.new.self in
    let parts = parts-settled (seen i) (kept i) i.phase c.self.invariant apart back refl c.replace-workers.result.items (search rules)
    after c.in_ok-take_back.ensures.back c.take_back.ensures.flow c.replace-workers.new.dest.items
    ∙ sym (parts-back (seen i) (kept i) i.phase apart back) in
    let driven = turned-settled (seen i) (kept i) i.phase c.self.invariant apart back refl c.replace-workers.result.items (search rules)
    after c.in_ok-take_back.ensures.back c.take_back.ensures.flow c.replace-workers.new.dest.items
    ∙ sym (turned-apart (kept i) i.phase apart back) in
    (λ k. record (seen i) {
      flow = c.take_back.ensures.flow k;
      phase = phase.Open (c.runs_to_end.ensures k) (sym (counts-back (seen i) (kept i) i.phase c.self.invariant apart back refl) k);
      parts = parts k;
      turned = driven k;
    })
    ∙ ap (λ (h : HomeState). record h { phase = phase.Open (runs_to_end h.phase) (counts_in h.phase) }) c.self.view_is

pub returns-clause-worked : goal.returns-clause-worked
returns-clause-worked c =
    let i = c.self.inside in
    let back : has_leg_crew i.phase ≡ true = ap (λ (h : HomeState). has_leg_crew h.phase) c.self.view_is ∙ c.requires.back in
    let apart = sym c.is_open.ensures ∙ c.if-is_open.false in
    let after = c.take_back.new.self in
    let later = record (kept i) { dataflow = after; back = c.replace-workers.new.dest.items } in
    let driven = turned-settled (seen i) (kept i) i.phase c.self.invariant apart back refl c.replace-workers.result.items (search rules)
    after c.in_ok-take_back.ensures.back c.take_back.ensures.flow c.replace-workers.new.dest.items
    ∙ sym (turned-apart (kept i) i.phase apart back) in
    subst IsWorkedLeg
    (λ k. record (seen i) {
      flow = sym c.take_back.ensures.flow k;
      phase = phase.Open (sym c.runs_to_end.ensures k) Armed;
      parts = leg_parts after;
      turned = sym driven k;
    })
    (worked-leg (seen i) later (runs_to_end i.phase) Armed
    (leg-settled (seen i) (kept i) i.phase c.self.invariant (sym c.is_open.ensures ∙ c.if-is_open.false) back refl c.replace-workers.result.items (search rules)
    after c.in_ok-take_back.ensures.back c.take_back.ensures.flow c.replace-workers.new.dest.items))
