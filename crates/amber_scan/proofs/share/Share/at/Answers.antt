-- Those that were read ahead stand first.
use Rattle.std.proofs.Common.{◌≡◌, ◌<◌, ◌++◌, ◌∙◌, ap, arith, get_or, length, sym}
use Rattle.std.specs.Arc.{arc_value}
use Rattle.std.proofs.lemmas.List.{get_or_append_left, get_or_default}
use Rattle.amber_scan.specs.Shares.{ShareState}
use Rattle.amber_scan.proofs.Every.{rest_of}
use Rattle.amber_scan.proofs.share.Share.at.Goals as goal

pub returns : goal.returns
returns c = λ d.
    let a = c.self.inside in
    let ahead = a.ahead.items in
    let place = c.args.place in
    let ready : length ahead ≡ c.args.self.now.ready = ap (λ (share : ShareState). share.ready) c.self.view_is in
    let within : place < length ahead = omega (arith, c.requires, ready) in
    c.index.ensures ∙ get_or_default ahead place c.index.result.now d within
    ∙ sym (get_or_append_left ahead (rest_of a.columns (arc_value a.records) a.step a.before) d place within)
    ∙ ap (λ (share : ShareState). get_or share.left place d) c.self.view_is
