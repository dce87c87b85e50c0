-- One end for each record.
use Rattle.std.proofs.Common.{◌≡◌, ◌∙◌, ap, arith, length, rules, sym}
use Rattle.csv.specs.Records.{fields_of}
use Rattle.amber_cut.proofs.PieceFacts.{length-pieces}
use Rattle.amber_cut.proofs.file_fields.Fields.len.Goals as goal

pub returns : goal.returns
returns c =
    let a = c.self.inside in
    let long : length a.ends.items ≡ length c.args.self.now = sym (length-pieces 0 a.ends.items (fields_of a.store)) ∙ ap length c.self.view_is in
    grind (arith, rules, long)
