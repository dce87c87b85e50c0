use Rattle.std.proofs.Common.{◌^◌, ◌<◌, ◌&&◌, eqb, length, refl, ◌∙◌, ap, arith}
use Rattle.amber_link.specs.Sides.{have_all_ended}
use Rattle.amber_operators.specs.Handed.{arrivals_in}
use Rattle.amber_operators.specs.Kept.{is_group}
use Rattle.amber_worker.specs.Steps.{with_go}
use Rattle.amber_worker.proofs.Bounds.{few-row, takes-row}
use Rattle.amber_operators.proofs.States.{may-take_row}
use Rattle.amber_link.specs.Links.{has_some}
use Rattle.amber_link.proofs.LinkEnds.{none-first}
use Rattle.amber_worker.specs.WorkerState.{WorkerState}
use Rattle.amber_worker.proofs.Unchanged.{err_so, few-noted, few-same, same-journal, same-taking, steps-few}
use Rattle.amber_worker.proofs.worker.Worker.take_left.Goals as goal

pub invariant_of-self-2 : goal.invariant_of-self-2
invariant_of-self-2 c =
    let few = rw (← c.self.view_is) at c.requires.few in
    let gains = c.in_ok-take_next.ensures.ok in
    rw (c.note_go.ensures.items, c.reserve.ensures.items) (few-row _ _ _ _ gains.becomes c.self.invariant few c.take_next.ensures.shares (rw c.side_columns-columns.ensures at c.take_next.ensures.typed))

pub take_next-requires-clause-may : goal.take_next-requires-clause-may
take_next-requires-clause-may c =
    let few = rw (← c.self.view_is) at c.requires.few in
    let below : c.self.inside.taken < 2 ^ 40 = omega arith in
    may-take_row _ _ c.self.inside.taken _ c.self.invariant.in_order below

pub returns-clause-ok : goal.returns-clause-ok
returns-clause-ok c =
    let gains = c.in_ok-take_next.ensures.ok in
    let none = rw (← c.self.view_is) at c.requires.none in
    rw (← c.self.view_is, c.note_go.ensures.reserved, c.reserve.ensures.reserved)
    (takes-row _ gains.one (arrivals_in c.take_next.new.rest) c.take_next.new.operator_state gains.last (arrivals_in c.take_next.new.rest) c.take_next.new.gains.pending
    c.take_next.new.gains.refused.items c.take_next.new.gains.kept.items c.note_go.new.self.entries c.side_columns-columns.result.now c.is_last-over.result none
    c.side_columns-columns.ensures
    (c.is_last-over.ensures ∙ ap (λ ins. is_group c.self.inside.operator_state && (eqb (length (arrivals_in c.self.inside.rest)) 1 && have_all_ended ins)) c.as_slice.ensures.value)
    gains.first refl gains.becomes gains.closes gains.pending gains.refused gains.kept
    (c.note_go.ensures.items ∙ ap (λ l. with_go l 1 0) c.reserve.ensures.items))

pub returns-in_err-reserve-clause-err : goal.returns-in_err-reserve-clause-err
returns-in_err-reserve-clause-err c = err_so c.from_residual.result _ (same-journal _ _ _ _ c.reserve.ensures.items c.reserve.ensures.reserved c.self.view_is)

pub returns-in_err-take_next-clause-err : goal.returns-in_err-take_next-clause-err
returns-in_err-take_next-clause-err c =
    let same = c.in_err-take_next.ensures.gains_on_err in
    err_so c.from_residual-in_err-take_next.result _
    (same-taking _ _ _ _ _ _ _ _ _ c.in_err-take_next.ensures.operator_state_on_err c.in_err-take_next.ensures.rest_on_err same.pending same.refused same.kept c.reserve.ensures.items c.reserve.ensures.reserved
    c.self.view_is)

pub invariant_of-self : goal.invariant_of-self
invariant_of-self c = rw c.reserve.ensures.items c.self.invariant

pub invariant_of-self-in_err-take_next : goal.invariant_of-self-in_err-take_next
invariant_of-self-in_err-take_next c = rw c.reserve.ensures.items (few-same _ _ _ c.in_err-take_next.ensures.operator_state_on_err c.take_next.ensures.shares (rw c.side_columns-columns.ensures at c.take_next.ensures.typed) c.self.invariant)

pub note_go-requires-clause-few : goal.note_go-requires-clause-few
note_go-requires-clause-few c = rw c.reserve.ensures.items (few-noted _ 1 0 c.self.invariant refl (steps-few c.self.view_is c.requires.few))

pub take_next-requires-clause-some : goal.take_next-requires-clause-some
take_next-requires-clause-some c = ap (λ (w : WorkerState). has_some w.rest) c.self.view_is ∙ c.requires.some

pub take_next-requires-clause-scans : goal.take_next-requires-clause-scans
take_next-requires-clause-scans c = c.self.invariant.scans

pub take_next-requires-clause-typed : goal.take_next-requires-clause-typed
take_next-requires-clause-typed c = rw c.side_columns-columns.ensures c.self.invariant.typed

pub take_next-requires-clause-none : goal.take_next-requires-clause-none
take_next-requires-clause-none c = none-first c.self.inside.gains.pending (ap (λ (w : WorkerState). has_some w.pending) c.self.view_is ∙ c.requires.none)
