-- Nothing follows a leg to the end, and one that was too long; nor where memory ran out.
use Rattle.std.proofs.Common.{false, inl, inr, refl, true}
use Rattle.amber_debug.proofs.Homes.{kept-ran}
use Rattle.amber_debug.proofs.debugger.Debugger.command.Goals as goal

pub invariant_of-self : goal.invariant_of-self
invariant_of-self g c =
    let ran = c.run_to_end-told in
    (rw c.answer_to_run.ensures.spent (kept-ran true c.self.inside.home ran.new.home ran.result ran.ensures.runs ran.ensures.legal (inl refl)), c.self.invariant.1, c.self.invariant.2)

pub invariant_of-self-in-Leg-false : goal.invariant_of-self-in-Leg-false
invariant_of-self-in-Leg-false g c =
    let ran = c.run_to_stop-told in
    (rw c.answer_to_run-in-Leg-false.ensures.spent (kept-ran false c.self.inside.home ran.new.home ran.result ran.ensures.runs ran.ensures.legal (inr ran.ensures.rests)), c.self.invariant.1, c.self.invariant.2)
