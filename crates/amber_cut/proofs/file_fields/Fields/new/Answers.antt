-- Record by record, to the end of the file.
use Rattle.std.proofs.Common.{◌≡◌, ◌∙◌, ◌++◌, ◌∷◌, [], ap, length, rules, sym}
use Rattle.csv.specs.Records.{fields_of}
use Rattle.csv.proofs.RecordFacts.{last-append}
use Rattle.amber_cut.proofs.PieceFacts.{pieces-add, pieces-start, rising-add}
use Rattle.amber_cut.proofs.file_fields.Fields.new.Goals as goal

pub records-init : goal.records-init
records-init c =
    let none = pieces-start c.new-ends.result.items (fields_of c.new-store.result) c.new-ends.ensures.items c.new-store.ensures.fields in
    record {
      read = rw none.0 c.open-reader.ensures;
      rising = none.1;
      last = none.2;
      partial = c.new-store.ensures.partial;
    }

pub returns-then-not-found : goal.returns-then-not-found
returns-then-not-found c = sym (c.in_ok-found.ensures.all c.args.file.now _ c.records.invariant.read (search rules))

pub records-preserved : goal.records-preserved
records-preserved c =
    let inv = c.records.invariant in
    let ends = c.records.ends.items in
    let before = fields_of c.records.store in
    let fields = fields_of c.next.new.fields in
    let stored : fields_of c.append.new.store ≡ before ++ fields = c.in_ok-append.ensures.fields in
    let ended : c.push.new.self.items ≡ ends ++ length (before ++ fields) ∷ [] = c.in_ok-push.ensures.items ∙ ap (λ n. ends ++ n ∷ []) (c.len.ensures ∙ ap length stored) in
    record {
      read = rw (ended, stored, pieces-add ends before fields inv.rising inv.last) (c.in_ok-found.ensures.more c.args.file.now _ inv.read (search rules));
      rising = rw (ended, stored) (rising-add ends before fields inv.rising);
      last = rw (ended, stored) (last-append 0 ends (length (before ++ fields)));
      partial = c.in_ok-append.ensures.partial;
    }
