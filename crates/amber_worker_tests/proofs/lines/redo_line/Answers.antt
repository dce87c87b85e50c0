-- The units of an entry fit 64 bits, and so does the hand before it.
use Rattle.std.proofs.Common.{◌<◌, ◌^◌, List, [], ◌∷◌, ◌++◌, Bool, false, refl, arith}
use Rattle.amber_log.specs.Grammar.{AreEntries, IsEntry, is_go}
use Rattle.amber_log.specs.declared.entry.Entry.{Entry}
use Rattle.amber_log.specs.declared.entry.Entry.TheVariants as entry
use Rattle.amber_worker.specs.Redoing.{units_of}
use Rattle.amber_worker_tests.proofs.lines.redo_line.Goals as goal

last-entry : (gone : Bool) (entries : List Entry) (one : Entry) → AreEntries gone (entries ++ one ∷ []) → IsEntry one
unfolding AreEntries
last-entry gone [] one are = are.0
last-entry gone (first ∷ more) one are = last-entry (is_go first) more one are.2

few-units : (one : Entry) → IsEntry one → units_of one < 2 ^ 64
few-units (entry.Take sender batch) is = omega arith
few-units (entry.Go rows outs) is = omega arith
few-units (entry.Grant n) is = is.1
few-units (entry.Back n) is = omega arith
few-units entry.Pause is = omega arith
few-units entry.Resume is = omega arith
few-units entry.Hold is = omega arith
few-units entry.Finish is = omega arith

pub redo-requires-clause-units : goal.redo-requires-clause-units
redo-requires-clause-units c =
    let few = few-units c.args.entry.now (last-entry false c.journal.result.now c.args.entry.now (c.if-not-may_follow.ensures refl)) in
    omega (arith, c.armed_with.ensures, few)
