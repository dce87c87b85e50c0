-- The leg may be closed so, or may not.
use Rattle.std.proofs.Common.{◌≡◌, ◌≢◌, List, [], ◌∷◌, length, Bool, true, false, refl, sym, ap, ◌∙◌, ◌==◌, arith}
use Rattle.std.proofs.lemmas.Bool.{false≢true, ne_eqb}
use Rattle.amber_log.specs.declared.leg.Close.TheVariants as close
use Rattle.amber_meaning.specs.declared.view.Stop.{Stop}
use Rattle.amber_meaning.specs.State.{have_finished, steps_in}
use Rattle.amber_home.specs.HomeState.{HomeState, MayClose, runs_to_end, state_of, stops_of_home}
use Rattle.amber_leg.proofs.looking.find_close.Goals as goal

may-cut : (to_end : Bool) (e : HomeState) → (to_end ≡ true → have_finished (state_of e) ≡ true) → stops_of_home e ≢ [] → MayClose to_end e close.Cut
may-cut true e ends some = ends refl
may-cut false e ends some = some

may-long : (to_end : Bool) (e : HomeState) → steps_in (state_of e) ≡ e.most → have_finished (state_of e) ≡ false → stops_of_home e ≡ [] → MayClose to_end e close.Long
may-long true e steps unfinished none = (steps, unfinished)
may-long false e steps unfinished none = (steps, none)

-- a list without a stop
empty-is : (stops : List Stop) → (length stops == 0) ≡ true → stops ≡ []
empty-is [] is = refl
empty-is (stop ∷ more) is = absurd (false≢true (sym (ne_eqb (length (stop ∷ more)) 0 (λ same. omega (arith, same))) ∙ is))

some-is : (stops : List Stop) → (length stops == 0) ≡ false → stops ≢ []
some-is stops is none = false≢true (sym is ∙ ap (λ xs. length xs == 0) none)

pub returns-then-not-is_empty-clause-may : goal.returns-then-not-is_empty-clause-may
returns-then-not-is_empty-clause-may c =
    let told = c.in_ok-stops.ensures in
    let some : c.in_ok-stops.stops ≢ [] = λ none. some-is c.get.result.now (sym c.is_empty.ensures ∙ c.if-not-is_empty.true) (c.get.ensures ∙ none) in
    may-cut (runs_to_end c.args.home.now.phase) c.args.home.now (λ end. told.ends c.requires.within end some) (λ none. some (told.stops ∙ none))

pub returns-then-steps-most-clause-may : goal.returns-then-steps-most-clause-may
returns-then-steps-most-clause-may c =
    let told = c.in_ok-stops.ensures in
    let none : c.in_ok-stops.stops ≡ [] = sym c.get.ensures ∙ empty-is c.get.result.now (sym c.is_empty.ensures ∙ c.if-not-is_empty.false) in
    may-long (runs_to_end c.args.home.now.phase) c.args.home.now (sym c.steps.ensures.steps ∙ c.if-steps-most.true ∙ c.most.ensures.most)
    (told.unfinished c.requires.within none) (sym told.stops ∙ none)

pub returns-clause-early : goal.returns-clause-early
returns-clause-early c =
    let none : c.in_ok-stops.stops ≡ [] = sym c.get.ensures ∙ empty-is c.get.result.now (sym c.is_empty.ensures ∙ c.if-not-is_empty.false) in
    c.in_ok-stops.ensures.early c.requires.within none
