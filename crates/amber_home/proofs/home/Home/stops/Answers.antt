-- The stops that stand, or those of the last leg, and what they or none say of a leg.
use Rattle.std.proofs.Common.{◌≡◌, ◌≢◌, refl, sym, ap, subst, ◌∙◌, [], IfOk, Result, Ok, Err, true, false}
use Rattle.std.proofs.lemmas.Bool.{false≢true}
use Rattle.amber_meaning.specs.State.{have_finished}
use Rattle.amber_home.specs.HomeState.{HomeState, IsEarly, has_crew, is_open, runs_to_end, state_of, stops_of_home}
use Rattle.amber_home.proofs.Early.{early-home, unfinished-home}
use Rattle.amber_home.proofs.Saying.{ok-copy, ok-map, stops-open, stops-rest}
use Rattle.amber_home.proofs.Inside.{all-there, kept, opens, seen}
use Rattle.amber_home.proofs.ToEnd.{ends-home}
use Rattle.amber_home.proofs.home.Home.stops.Goals as goal

-- what is so of each is so of what a call gives
ok-any : {A E : Type 0} {P : A → Type 0} (result : Result A E) → ((x : A) → P x) → IfOk result P
ok-any (Ok x) all = all x
ok-any (Err error) all = tt

pub stops_of-requires : goal.stops_of-requires
stops_of-requires c = all-there c.self.inside c.self.invariant c.args.self.now c.self.view_is c.requires.there

pub returns-then-is_open-clause-stops : goal.returns-then-is_open-clause-stops
returns-then-is_open-clause-stops c =
    let i = c.self.inside in
    let e = seen i in
    let live = kept i in
    subst (λ (at : HomeState). IfOk c.stops_of.result (λ stops. stops ≡ stops_of_home at)) c.self.view_is
    (ok-map c.stops_of.result (λ shown is. stops-open e live i.phase c.self.invariant (sym c.is_open.ensures ∙ c.if-is_open.true) shown is) c.stops_of.ensures)

pub returns-then-is_open-clause-early : goal.returns-then-is_open-clause-early
returns-then-is_open-clause-early c =
    let i = c.self.inside in
    let within = sym c.is_open.ensures ∙ c.if-is_open.true in
    subst (λ (at : HomeState). IfOk c.stops_of.result (λ stops. is_open at.phase ≡ true → stops ≡ [] → IsEarly at)) c.self.view_is
    (ok-map c.stops_of.result
    (λ shown is opened none.
    early-home (seen i) (kept i) i.phase c.self.invariant within refl (sym (stops-open (seen i) (kept i) i.phase c.self.invariant within shown is) ∙ none))
    c.stops_of.ensures)

pub returns-then-is_open-clause-unfinished : goal.returns-then-is_open-clause-unfinished
returns-then-is_open-clause-unfinished c =
    let i = c.self.inside in
    let within = sym c.is_open.ensures ∙ c.if-is_open.true in
    subst (λ (at : HomeState). IfOk c.stops_of.result (λ stops. is_open at.phase ≡ true → stops ≡ [] → have_finished (state_of at) ≡ false)) c.self.view_is
    (ok-map c.stops_of.result
    (λ shown is opened none.
    unfinished-home (seen i) (kept i) i.phase c.self.invariant within refl (sym (stops-open (seen i) (kept i) i.phase c.self.invariant within shown is) ∙ none))
    c.stops_of.ensures)

pub returns-then-is_open-clause-ends : goal.returns-then-is_open-clause-ends
returns-then-is_open-clause-ends c =
    let i = c.self.inside in
    let within = sym c.is_open.ensures ∙ c.if-is_open.true in
    subst (λ (at : HomeState). IfOk c.stops_of.result (λ stops. is_open at.phase ≡ true → runs_to_end at.phase ≡ true → stops ≢ [] → have_finished (state_of at) ≡ true))
    c.self.view_is
    (ok-map c.stops_of.result
    (λ shown is opened last some.
    ends-home (seen i) (kept i) i.phase c.self.invariant within last (λ none. some (stops-open (seen i) (kept i) i.phase c.self.invariant within shown is ∙ none)))
    c.stops_of.ensures)

pub returns-else-is_open-clause-stops : goal.returns-else-is_open-clause-stops
returns-else-is_open-clause-stops c =
    let i = c.self.inside in
    let e = seen i in
    let live = kept i in
    let there : has_crew i.phase ≡ true = ap (λ (h : HomeState). has_crew h.phase) c.self.view_is ∙ c.requires.there in
    let kept = stops-rest e live i.phase c.self.invariant there (sym c.is_open.ensures ∙ c.if-is_open.false) in
    subst (λ (at : HomeState). IfOk c.clone.result (λ stops. stops ≡ stops_of_home at)) c.self.view_is
    (ok-copy _ c.clone.result (λ copy is. is ∙ kept) c.clone.ensures.cases)

pub returns-else-is_open-clause-early : goal.returns-else-is_open-clause-early
returns-else-is_open-clause-early c =
    let i = c.self.inside in
    let rests : is_open i.phase ≡ false = sym c.is_open.ensures ∙ c.if-is_open.false in
    ok-any c.clone.result (λ stops within none. absurd (false≢true (sym rests ∙ opens i c.self.invariant c.args.self.now c.self.view_is within)))

pub returns-else-is_open-clause-unfinished : goal.returns-else-is_open-clause-unfinished
returns-else-is_open-clause-unfinished c =
    let i = c.self.inside in
    let rests : is_open i.phase ≡ false = sym c.is_open.ensures ∙ c.if-is_open.false in
    ok-any c.clone.result (λ stops within none. absurd (false≢true (sym rests ∙ opens i c.self.invariant c.args.self.now c.self.view_is within)))

pub returns-else-is_open-clause-ends : goal.returns-else-is_open-clause-ends
returns-else-is_open-clause-ends c =
    let i = c.self.inside in
    let rests : is_open i.phase ≡ false = sym c.is_open.ensures ∙ c.if-is_open.false in
    ok-any c.clone.result (λ stops within last some. absurd (false≢true (sym rests ∙ opens i c.self.invariant c.args.self.now c.self.view_is within)))
