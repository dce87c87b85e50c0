-- The next record, behind those that were read ahead.
use Rattle.std.proofs.Common.{◌≡◌, ◌≤◌, ◌∙◌, ◌+◌, ◌++◌, ◌∷◌, [], ap, arith, get_or, length, sym}
use Rattle.std.proofs.lemmas.List.{append-nil, length_push}
use Rattle.std.proofs.lemmas.List.Elements.{All-push}
use Rattle.std.specs.Arc.{arc_value}
use Rattle.amber_scan.specs.Shares.{Suits}
use Rattle.amber_scan.proofs.Every.{rest-past}
use Rattle.amber_scan.proofs.SuitedRows.{row-suits}
use Rattle.amber_scan.proofs.Taking.{pushed-onto, read-next}
use Rattle.amber_scan.proofs.share.Share.read_one.Goals as goal

pub returns-in_default-clause-none : goal.returns-in_default-clause-none
returns-in_default-clause-none c = λ e.
    let a = c.self.inside in
    let ahead = c.reserve.new.self.items in
    let past = rw (c.in_default.is, c.deref.ensures) at c.in_ok-one.ensures.next in
    sym (ap length (ap (λ rest. ahead ++ rest) (rest-past a.columns (arc_value a.records) a.step a.before past) ∙ append-nil ahead))

pub invariant_of-self-2 : goal.invariant_of-self-2
invariant_of-self-2 c =
    let a = c.self.inside in
    let inv = c.self.invariant in
    let one = c.in-Some.one in
    let found = rw (c.in-Some.is, c.deref.ensures) at c.in_ok-one.ensures.next in
    let few = rw c.deref.ensures at c.in_ok-one.ensures.few in
    let suits : Suits a.columns one.what = rw found.1 (row-suits a.columns (get_or (arc_value a.records) (a.before + 1) [])) in
    let added : c.push_back_reserved.new.self.items ≡ a.ahead.items ++ one ∷ [] = pushed-onto _ _ a.ahead.items one c.push_back_reserved.ensures.items c.in_ok-reserve.ensures.items in
    let within : length (a.ahead.items ++ one ∷ []) ≤ c.saturating_add-self-inside.result =
    omega (arith, length_push a.ahead.items one, inv.0, inv.2, found.0, few, c.saturating_add-self-inside.ensures) in
    rw added (inv.0, inv.1, within, All-push (λ one. Suits a.columns one.what) a.ahead.items one inv.3 suits)

pub returns-clause-left : goal.returns-clause-left
returns-clause-left c =
    let a = c.self.inside in
    let one = c.in-Some.one in
    let found = rw (c.in-Some.is, c.deref.ensures) at c.in_ok-one.ensures.next in
    let few = rw c.deref.ensures at c.in_ok-one.ensures.few in
    let added : c.push_back_reserved.new.self.items ≡ a.ahead.items ++ one ∷ [] = pushed-onto _ _ a.ahead.items one c.push_back_reserved.ensures.items c.in_ok-reserve.ensures.items in
    let view = ap (λ share. share.left) (sym c.self.view_is) in
    rw added (read-next a.columns (arc_value a.records) a.step a.before _ _ one _ a.ahead.items view c.self.invariant.0 found.0 found.1 (omega (arith, few)) c.saturating_add-self-inside.ensures)
