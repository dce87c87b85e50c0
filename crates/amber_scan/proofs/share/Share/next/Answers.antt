-- The first of those that were read ahead, else the next one.
use Rattle.std.proofs.Common.{◌≡◌, ◌∙◌, [], ap, arith, get_or, refl, sym, ◌+◌}
use Rattle.std.specs.Arc.{arc_value}
use Rattle.amber_scan.proofs.Every.{rest-past}
use Rattle.amber_scan.proofs.SuitedRows.{row-suits}
use Rattle.amber_scan.proofs.Taking.{no-elements, took-next}
use Rattle.amber_scan.proofs.share.Share.next.Goals as goal

pub returns-in-None-clause-took : goal.returns-in-None-clause-took
returns-in-None-clause-took c =
    let a = c.self.inside in
    let past = rw (c.in-None.is, c.deref.ensures) at c.in_ok-one.ensures.next in
    let view = ap (λ share. share.left) (sym c.self.view_is) in
    let ahead : a.ahead.items ≡ [] = no-elements a.ahead.items (omega (arith, c.in_default.ensures.cases.0)) in
    let ahead_now : c.pop_front.new.self.items ≡ [] = no-elements c.pop_front.new.self.items (omega (arith, c.in_default.ensures.cases.1)) in
    let rest = rest-past a.columns (arc_value a.records) a.step a.before past in
    (view ∙ rw (ahead, rest) refl, rw (ahead_now, rest) refl)

pub returns-in-Some-2-clause-took : goal.returns-in-Some-2-clause-took
returns-in-Some-2-clause-took c =
    let a = c.self.inside in
    let found = rw (c.in-Some-2.is, c.deref.ensures) at c.in_ok-one.ensures.next in
    let few = rw c.deref.ensures at c.in_ok-one.ensures.few in
    let view = ap (λ share. share.left) (sym c.self.view_is) in
    let ahead : a.ahead.items ≡ [] = no-elements a.ahead.items (omega (arith, c.in_default.ensures.cases.0)) in
    let ahead_now : c.pop_front.new.self.items ≡ [] = no-elements c.pop_front.new.self.items (omega (arith, c.in_default.ensures.cases.1)) in
    took-next a.columns (arc_value a.records) a.step a.before _ _ c.in-Some-2.one _ a.ahead.items _ view ahead ahead_now c.self.invariant.0 found.0 found.1 (omega (arith, few)) c.saturating_add-self-inside.ensures

pub returns-in-Some-2-clause-suits : goal.returns-in-Some-2-clause-suits
returns-in-Some-2-clause-suits c =
    let a = c.self.inside in
    let found = rw (c.in-Some-2.is, c.deref.ensures) at c.in_ok-one.ensures.next in
    let columns = ap (λ share. share.columns) (sym c.self.view_is) in
    rw (columns, found.1) (row-suits a.columns (get_or (arc_value a.records) (a.before + 1) []))
