-- From each entry to the next.
use Rattle.std.proofs.Common.{◌≡◌, ℕ, ◌+◌, ◌<◌, List, [], ◌∷◌, ◌++◌, length, take, get_or, append_assoc, sym, ap, ◌∙◌}
use Rattle.std.specs.List.{flat_map}
use Rattle.std.proofs.lemmas.Grind.{flat_map-append}
use Rattle.std.proofs.lemmas.List.{append-nil, take_all, take_more}
use Rattle.amber_log.specs.LogText.{line_text}
use Rattle.amber_log.specs.declared.entry.Entry.{Entry}
use Rattle.amber_log.specs.declared.line.Line.TheVariants as line
use Rattle.amber_journal.specs.Written.{entry_text}
use Rattle.amber_journal.proofs.legs.push_part.Goals as goal

-- the lines so far and one more
entries_more : (old first out more : List ℕ) (entries : List Entry) (i : ℕ) (d : Entry) → i < length entries → out ≡ old ++ (first ++ flat_map entry_text (take i entries))
    → more ≡ out ++ entry_text (get_or entries i d) → more ≡ old ++ (first ++ flat_map entry_text (take (i + 1) entries))
entries_more old first out more entries i d less told so =
    let last : List ℕ = flat_map entry_text (take i entries) in
    let entry : List ℕ = entry_text (get_or entries i d) in
    let step : flat_map entry_text (take (i + 1) entries) ≡ last ++ entry =
    ap (flat_map entry_text) (take_more entries i d less) ∙ flat_map-append entry_text (take i entries) (get_or entries i d ∷ []) ∙ ap (λ (end : List ℕ). last ++ end) (append-nil entry) in
    so ∙ ap (λ (begun : List ℕ). begun ++ entry) told ∙ append_assoc old (first ++ last) entry ∙ ap (λ (end : List ℕ). old ++ end) (append_assoc first last entry)
    ∙ ap (λ (end : List ℕ). old ++ (first ++ end)) (sym step)

pub loop-entry-preserved : goal.loop-entry-preserved
loop-entry-preserved c =
    entries_more c.args.out.now.items (line_text (line.Worker c.args.part.now.worker)) c.loop-entry.out.items c.push_entry.new.out.items c.get-entries.result.now c.loop-entry.entry-index _
    c.loop-entry-test.true c.loop-entry.invariant c.in_ok-push_entry.ensures

pub returns : goal.returns
returns c =
    let entries = c.get-entries.result.now in
    let first = line_text (line.Worker c.args.part.now.worker) in
    c.loop-entry.invariant
    ∙ ap (λ (entries : List Entry). c.args.out.now.items ++ (first ++ flat_map entry_text entries)) (take_all c.loop-entry.entry-index entries c.loop-entry-test.false ∙ c.get-entries.ensures)
