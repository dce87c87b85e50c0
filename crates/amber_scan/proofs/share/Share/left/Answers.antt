-- Those that were read ahead, and each so many after.
use Rattle.std.proofs.Common.{◌≡◌, ◌∙◌, ◌-◌, ◌+◌, ◌/◌, ap, arith, length, length-append, sym}
use Rattle.std.specs.Arc.{arc_value}
use Rattle.amber_scan.proofs.Every.{length-rest, rest-past, rest_of}
use Rattle.amber_scan.proofs.share.Share.left.Goals as goal

pub returns-then-records-self : goal.returns-then-records-self
returns-then-records-self c =
    let a = c.self.inside in
    let records = arc_value a.records in
    let rest = rest_of a.columns records a.step a.before in
    let count = c.count-records.ensures ∙ ap (λ rs. length rs - 1) c.deref.ensures in
    let none = ap length (rest-past a.columns records a.step a.before (omega (arith, count, c.if-records-self.true))) in
    let view = ap (λ share. length share.left) c.self.view_is in
    let ahead : c.len.result ≡ length a.ahead.items = omega (arith, c.len.ensures) in
    omega (arith, ahead, sym view ∙ length-append a.ahead.items rest, none)

pub returns : goal.returns
returns c =
    let a = c.self.inside in
    let records = arc_value a.records in
    let rest = rest_of a.columns records a.step a.before in
    let count : c.count-records.result ≡ length records - 1 = c.count-records.ensures ∙ ap (λ rs. length rs - 1) c.deref.ensures in
    let long = length-rest a.columns records a.step a.before c.self.invariant.0 (omega (arith, count, c.if-records-self.false)) in
    let same : (c.count-records.result - a.before - 1) / a.step + 1 ≡ length rest = ap (λ n. (n - a.before - 1) / a.step + 1) count ∙ sym long in
    let view = ap (λ share. length share.left) c.self.view_is in
    let ahead : c.len-2.result ≡ length a.ahead.items = omega (arith, c.len-2.ensures) in
    omega (arith, ahead, sym view ∙ length-append a.ahead.items rest, same)
