-- The worker is none of the workflow, or one of its entries is bad, or all of them are done.
use Rattle.std.proofs.Common.{◌≡◌, ◌<◌, ap, refl, sym, ◌∙◌, arith, [], ◌∷◌}
use Rattle.amber_rows.specs.Topology.{crew_of}
use Rattle.amber_recover.proofs.PartsDone.{fails-inside, none-bad, part-done, part-fails, part-nobody, redone-all, redone-fails}
use Rattle.amber_recover.proofs.parts.redo_part.Goals as goal

pub returns-then-part-workers-clause-found : goal.returns-then-part-workers-clause-found
returns-then-part-workers-clause-found c =
    let crew : c.workers.result ≡ crew_of c.args.home.now.flow = c.workers.ensures ∙ ap crew_of c.flow.ensures in
    sym (part-nobody c.args.part.now c.args.home.now c.args.line (omega arith))

pub overflow_add-result-in-Some : goal.overflow_add-result-in-Some
overflow_add-result-in-Some c =
    let part = c.args.part.now in
    let fails = redone-fails part c.get.result.now c.args.home.now c.redo_part.new.self c.in_ok-redo_part.field-0 c.in-Some.place c.get.ensures c.in-Some.is c.in_ok-redo_part.ensures.ok in
    let inside = fails-inside part c.args.home.now c.redo_part.new.self c.in-Some.place fails in
    omega (arith, c.requires.few, inside)

pub returns-in-None-clause-done : goal.returns-in-None-clause-done
returns-in-None-clause-done c none =
    let part = c.args.part.now in
    let crew : c.workers.result ≡ crew_of c.args.home.now.flow = c.workers.ensures ∙ ap crew_of c.flow.ensures in
    let inside : part.worker < crew_of c.args.home.now.flow = omega arith in
    part-done part c.args.home.now c.redo_part.new.self inside
    (redone-all part c.get.result.now c.args.home.now c.redo_part.new.self c.in_ok-redo_part.field-0 c.get.ensures c.in-None.is c.in_ok-redo_part.ensures.ok)

pub returns-in-None-clause-found : goal.returns-in-None-clause-found
returns-in-None-clause-found c =
    sym (none-bad c.args.home.now c.redo_part.new.self c.args.line (c.args.part.now ∷ []) (returns-in-None-clause-done c refl))

pub returns-in-Some-clause-found : goal.returns-in-Some-clause-found
returns-in-Some-clause-found c =
    let part = c.args.part.now in
    let crew : c.workers.result ≡ crew_of c.args.home.now.flow = c.workers.ensures ∙ ap crew_of c.flow.ensures in
    let inside : part.worker < crew_of c.args.home.now.flow = omega arith in
    sym (part-fails part c.args.home.now c.redo_part.new.self c.args.line c.in-Some.place inside
    (redone-fails part c.get.result.now c.args.home.now c.redo_part.new.self c.in_ok-redo_part.field-0 c.in-Some.place c.get.ensures c.in-Some.is c.in_ok-redo_part.ensures.ok))
